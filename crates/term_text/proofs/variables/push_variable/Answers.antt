use Rattle.std.proofs.lemmas.Result.{MatchResult-weaker}
use Rattle.term_text.proofs.Printed.{adds-abstraction}
use Rattle.term_text.proofs.variables.push_variable.Goals as goal

pub returns-in-Abstraction : goal.returns-in-Abstraction
returns-in-Abstraction c =
    MatchResult-weaker c.push_numbered.result c.push_numbered.ensures (λ d e. adds-abstraction c.args.v c.args.text.now.items c.push_numbered.new.text.items c.in-Abstraction.is e) (λ d k. k)
