-- The place of a variable in a list.
use Rattle.std.proofs.Common.{◌≡◌, ◌<◌, ◌+◌, ℕ, suc, false, List, ◌∷◌, drop, length, get_or, add-one, drop-cons, refl, ap, sym, ◌∙◌, arith}
use Rattle.term_base.specs.declared.variables.Variable.{Variable}
use Rattle.term_base.specs.Same.{same_variable}
use Rattle.unifier.specs.Naming.{place_in}

place_next : (v x : Variable) (ys : List Variable) → same_variable x v ≡ false → place_in (x ∷ ys) v ≡ suc (place_in ys v)
place_next v x ys e = rw e refl

-- one variable more is passed
pub next_place : (v : Variable) (xs : List Variable) (whole p next i : ℕ) (d : Variable) → i < length xs → same_variable (get_or xs i d) v ≡ false → next ≡ p + 1
    → whole ≡ p + place_in (drop i xs) v → whole ≡ next + place_in (drop (i + 1) xs) v
next_place v xs whole p next i d h e is before =
    let step : place_in (drop i xs) v ≡ suc (place_in (drop (i + 1) xs) v) =
    ap (λ l. place_in l v) (drop-cons xs i d h) ∙ place_next v (get_or xs i d) (drop (suc i) xs) e ∙ ap (λ n. suc (place_in (drop n xs) v)) (sym (add-one i)) in
    omega arith
