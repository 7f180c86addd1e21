use Rattle.std.proofs.lemmas.Result.{MatchResult-weaker}
use Rattle.term_text.proofs.Printed.{adds-individual, adds-integer, as-declared, no-truth}
use Rattle.term_text.proofs.variables.push_ordinary.Goals as goal

pub returns-in-Individual : goal.returns-in-Individual
returns-in-Individual c =
    MatchResult-weaker c.push_numbered.result c.push_numbered.ensures (λ d e. adds-individual c.args.v c.args.text.now.items c.push_numbered.new.text.items c.requires c.in-Individual.is e) (λ d k. k)

pub returns-in-Int : goal.returns-in-Int
returns-in-Int c =
    MatchResult-weaker c.push_numbered-in-Int.result c.push_numbered-in-Int.ensures (λ d e. adds-integer c.args.v c.args.text.now.items c.push_numbered-in-Int.new.text.items c.requires c.in-Int.is e) (λ d k. k)

pub returns-in-Declared : goal.returns-in-Declared
returns-in-Declared c =
    MatchResult-weaker c.push_declared.result c.push_declared.ensures (λ d e. as-declared c.args.v c.in-Declared.n c.args.text.now.items c.push_declared.new.text.items c.requires c.in-Declared.is e) (λ d k. k)

pub returns-in-Truth : goal.returns-in-Truth
returns-in-Truth c = absurd (no-truth c.args.v c.requires c.in-Truth.is)
