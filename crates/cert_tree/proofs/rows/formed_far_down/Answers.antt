use Rattle.std.proofs.Common.{◌≡◌, ◌∙◌, sym, subst, true, List}
use Rattle.std.specs.List.{list_all}
use Rattle.lin_base.specs.declared.facts.Fact.{Fact}
use Rattle.lin_base.specs.Fact.{is_fact}
use Rattle.cert_tree.proofs.Rowing.{all_stay}
use Rattle.cert_tree.proofs.rows.formed_far_down.Goals as goal

pub replace_all-requires-clause-facts : goal.replace_all-requires-clause-facts
replace_all-requires-clause-facts c =
    let P : List Fact → Type 0 = λ fs. list_all is_fact fs ≡ true in
    subst P (sym (c.as_slice.ensures ∙ c.in_ok-kept.ensures)) (all_stay c.args.x c.args.clause.now c.requires.clause)
