use Rattle.std.proofs.Common.{◌≡◌, drop}
use Rattle.linear_form.specs.Forms.{coefficient_at}
use Rattle.linear_form.proofs.forms.coefficient_at.Given as goal

abbrev pub invariant-loop-term : goal.invariant-loop-term
invariant-loop-term l = coefficient_at l.x l.terms ≡ coefficient_at l.x (drop l.term-index l.terms)
