use Rattle.std.proofs.lemmas.Result.{MatchResult-weaker}
use Rattle.term_text.proofs.VariableWindows.{any_variable}
use Rattle.term_text.proofs.variables.variable.Goals as goal

pub returns : goal.returns
returns c =
    let l0 = any_variable c.args.text.now in
    MatchResult-weaker c.variable_from.result c.variable_from.ensures (λ f r. l0.reads f.0 f.1.now r) (λ e f. l0.fails e.left f)
