use Rattle.std.proofs.Common.{rules}
use Rattle.std.proofs.lemmas.List.Sorted.{answers_always}
use Rattle.term_base.proofs.Ascending.{found_there, found_nowhere}
use Rattle.term_base.proofs.DerivedOrder.{derived_cmp, derived_cmp-is}
use Rattle.term_base.proofs.substs.find.Goals as goal

-- the closure gives a pair's variable
pub returns-in-Ok : goal.returns-in-Ok
returns-in-Ok c =
    let facts = c.binary_search_by_key.ensures in
    let compared = facts.position (λ pair. pair.0) (answers_always _ _ _ (λ f a r g called. search rules)) in
    found_there derived_cmp derived_cmp-is c.args.pairs.now c.args.v c.requires c.binary_search_by_key.result c.in-Ok.at c.in-Ok.is facts.bound compared c.index-pairs-at.result

pub returns-in-Err : goal.returns-in-Err
returns-in-Err c =
    let compared = c.binary_search_by_key.ensures.position (λ pair. pair.0) (answers_always _ _ _ (λ f a r g called. search rules)) in
    found_nowhere derived_cmp derived_cmp-is c.args.pairs.now c.args.v c.requires c.binary_search_by_key.result c.in-Err.field-0 c.in-Err.is compared
