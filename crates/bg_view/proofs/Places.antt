-- Each variable of a clause has its place in the clause's list.
use Rattle.std.specs.Prelude.{◌≡◌, suc, ◌<◌, Bool, true, false, cond, ◌||◌, List, [], ◌∷◌, ◌++◌, length}
use Rattle.std.specs.List.{list_any}
use Rattle.std.proofs.Common.{refl, ◌∙◌, ap, arith}
use Rattle.std.proofs.lemmas.Bool.{cond_both}
use Rattle.std.proofs.lemmas.List.Folds.{list_any-append}
use Rattle.term_base.specs.declared.variables.Variable.{Variable}
use Rattle.term_base.specs.Same.{same_variable}
use Rattle.term_base.specs.SameLemmas.{same_variable-true, same_variable-refl}
use Rattle.term_base.specs.TreeLemmas.{or-left, or-right}
use Rattle.bg_view.specs.Unknowns.{place, noted, all_noted}
use Rattle.bg_view.specs.Truth.{Variables, value_at}
use Rattle.bg_view.proofs.Each.{Each}

abbrev pub has : Variable → List Variable → Bool
has v us = list_any (λ u. same_variable u v) us

value_at-next : (w : Variables) (v u : Variable) (us : List Variable) (b : Bool) → same_variable u v ≡ b → (b || has v us) ≡ true → (has v us ≡ true → value_at w us (place v us) ≡ w v) → value_at w (u ∷ us) (cond b 0 (suc (place v us))) ≡ w v
value_at-next w v u us true e h more = ap w (same_variable-true u v e)
value_at-next w v u us false e h more = more h

pub value_at-place : (w : Variables) (v : Variable) (us : List Variable) → has v us ≡ true → value_at w us (place v us) ≡ w v
value_at-place w v [] h = cc
value_at-place w v (u ∷ us) h = value_at-next w v u us (same_variable u v) refl h (value_at-place w v us)

next-bound : (v : Variable) (us : List Variable) (b : Bool) → (b || has v us) ≡ true → (has v us ≡ true → place v us < length us) → cond b 0 (suc (place v us)) < suc (length us)
next-bound v us true h more = omega arith
next-bound v us false h more = let bound = more h in omega (arith, bound)

pub place-bound : (v : Variable) (us : List Variable) → has v us ≡ true → place v us < length us
place-bound v [] h = cc
place-bound v (u ∷ us) h = next-bound v us (same_variable u v) h (place-bound v us)

noted-keeps : (v x : Variable) (us : List Variable) → has v us ≡ true → has v (noted us x) ≡ true
noted-keeps v x us h =
    cond_both (has x us) us (us ++ x ∷ []) (λ vs. has v vs ≡ true)
    (λ _. h)
    (λ _. list_any-append (λ u. same_variable u v) us (x ∷ []) ∙ or-left (has v us) (has v (x ∷ [])) h)

noted-has : (x : Variable) (us : List Variable) → has x (noted us x) ≡ true
noted-has x us =
    cond_both (has x us) us (us ++ x ∷ []) (λ vs. has x vs ≡ true)
    (λ e. e)
    (λ _. list_any-append (λ u. same_variable u x) us (x ∷ []) ∙ or-right (has x us) (has x (x ∷ [])) (or-left (same_variable x x) false (same_variable-refl x)))

all_noted-keeps : (v : Variable) (us xs : List Variable) → has v us ≡ true → has v (all_noted us xs) ≡ true
all_noted-keeps v us [] h = h
all_noted-keeps v us (x ∷ xs) h = all_noted-keeps v (noted us x) xs (noted-keeps v x us h)

pub all_noted-has : (us xs : List Variable) → Each (λ v. has v (all_noted us xs) ≡ true) xs
all_noted-has us [] = tt
all_noted-has us (x ∷ xs) = (all_noted-keeps x (noted us x) xs (noted-has x us), all_noted-has (noted us x) xs)
