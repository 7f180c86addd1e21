use Rattle.std.proofs.Common.{◌≡◌, map, drop}
use Rattle.std.specs.List.{list_all}
use Rattle.term_base.specs.Trees.{tree}
use Rattle.linear_form.specs.Forms.{agree_at}
use Rattle.linear_form.specs.FormOf.{form_at}
use Rattle.linear_form.proofs.forms.agree_on.Given as goal

abbrev pub invariant-loop-t : goal.invariant-loop-t
invariant-loop-t l =
    let agree = agree_at (form_at l.f) (form_at l.g) in
    list_all agree (map tree l.terms) ≡ list_all agree (map tree (drop l.t-index l.terms))
