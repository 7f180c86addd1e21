-- Tests that were passed by all of a list.
use Rattle.std.proofs.Common.{◌≡◌, ◌≤◌, ◌∙◌, ℕ, Bool, true, List, drop, length, ap, subst}
use Rattle.std.proofs.lemmas.List.{drop_all}
use Rattle.std.specs.List.{list_all}

-- where the rest is past the end, all have passed
pub all_passed : {A : Type 0} (f : A → Bool) (xs ys : List A) (n : ℕ) → ys ≡ xs → length ys ≤ n → list_all f xs ≡ list_all f (drop n xs) → list_all f xs ≡ true
all_passed f xs ys n same past left = left ∙ ap (list_all f) (drop_all n xs (subst (λ (l : List _). length l ≤ n) same past))
