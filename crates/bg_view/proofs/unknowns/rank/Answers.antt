use Rattle.std.proofs.Common.{◌≡◌, sym, subst, arith, Ok, Err, ℕ, Result}
use Rattle.std.specs.Result.{MatchResult}
use Rattle.std.proofs.lemmas.Map.Keys.{sorted_from_strictly_increasing}
use Rattle.bg_view.specs.Unknowns.{rank}
use Rattle.bg_view.proofs.Ascending.{rank_found}
use Rattle.bg_view.proofs.unknowns.rank.Goals as goal

pub returns-in-Ok-clause-rank : goal.returns-in-Ok-clause-rank
returns-in-Ok-clause-rank c =
    let f = c.args.f in
    let xs = c.args.symbols.now in
    let is : c.binary_search.result ≡ Ok c.in-Ok.at = grind arith in
    let P : Result ℕ ℕ → Type 0 = λ r. MatchResult r (λ i. rank f xs ≡ i) (λ i. rank f xs ≡ i) in
    sym (subst P is (rank_found f xs (sorted_from_strictly_increasing xs c.requires) c.binary_search.result c.binary_search.ensures.position))

pub returns-in-Ok-2-clause-rank : goal.returns-in-Ok-2-clause-rank
returns-in-Ok-2-clause-rank c =
    let f = c.args.f in
    let xs = c.args.symbols.now in
    let is : c.binary_search.result ≡ Err c.in-Ok.at = grind arith in
    let P : Result ℕ ℕ → Type 0 = λ r. MatchResult r (λ i. rank f xs ≡ i) (λ i. rank f xs ≡ i) in
    sym (subst P is (rank_found f xs (sorted_from_strictly_increasing xs c.requires) c.binary_search.result c.binary_search.ensures.position))
