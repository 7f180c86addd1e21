use Rattle.std.proofs.Common.{◌∙◌, sym, subst}
use Rattle.std.specs.List.Sorted.{IsStrictlyIncreasing}
use Rattle.std.proofs.lemmas.List.Filters.{dedup_is}
use Rattle.std.proofs.lemmas.List.Kept.{Contains-dedup_nat, Contains-from_dedup}
use Rattle.std.proofs.lemmas.List.Sorted.{Contains-permutation, IsPermutation-sym}
use Rattle.std.proofs.lemmas.Map.Keys.{IsStrictlyIncreasing-dedup}
use Rattle.bg_view.proofs.Ascending.{rising_from, rising_ascending, same_members, ascending-keeps, ascending-adds_none, member_from, member_to}
use Rattle.bg_view.proofs.unknowns.ascending.Goals as goal

pub returns-clause-value : goal.returns-clause-value
returns-clause-value c =
    let is = dedup_is _ _ _ c.dedup.ensures.filtered in
    let moved = c.sort_unstable.ensures.permutation in
    let xs = c.args.numbers.items in
    let ys = c.dedup.new.self.items in
    c.from_vec.ensures
    ∙ same_members ys _ (rising_from ys (rw is (IsStrictlyIncreasing-dedup _ c.sort_unstable.ensures.sorted))) (rising_ascending xs)
    (λ z m. ascending-keeps z xs (member_from z xs (Contains-permutation _ _ z (IsPermutation-sym _ _ moved) (Contains-from_dedup _ _ z (rw is at (member_to z ys m))))))
    (λ z m. member_from z ys (rw is (Contains-dedup_nat _ z (Contains-permutation _ _ z moved (member_to z xs (ascending-adds_none z xs m))))))

pub returns-clause-rises : goal.returns-clause-rises
returns-clause-rises c =
    let is = dedup_is _ _ _ c.dedup.ensures.filtered in
    subst IsStrictlyIncreasing (sym (c.from_vec.ensures ∙ is)) (IsStrictlyIncreasing-dedup _ c.sort_unstable.ensures.sorted)
