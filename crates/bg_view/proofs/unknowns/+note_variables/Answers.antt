use Rattle.std.proofs.Common.{◌≡◌, List, subst, OnOk}
use Rattle.term_base.specs.declared.variables.Variable.{Variable}
use Rattle.bg_view.proofs.Noting.{noted_sum}
use Rattle.bg_view.proofs.unknowns.+note_variables.Goals as goal

pub returns-in_ok-note_variables-in-Sum : goal.returns-in_ok-note_variables-in-Sum
returns-in_ok-note_variables-in-Sum t c =
    let P : List Variable → Type 0 = λ vs. OnOk c.note_variables-in-Sum.result (c.note_variables-in-Sum.new.variables.keys ≡ vs) in
    subst P (noted_sum c.args.t.now c.in-Sum.a c.in-Sum.b c.get.result.now c.get-in-Sum.result.now c.args.variables.now.keys c.note_variables.new.variables.keys
    c.in-Sum.is c.get.ensures c.get-in-Sum.ensures c.in_ok-note_variables-in-Sum.ensures) c.note_variables-in-Sum.ensures
