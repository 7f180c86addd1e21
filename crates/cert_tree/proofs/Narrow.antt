-- Steps that stay in the range, one after the other.
use Rattle.std.specs.Prelude.{◌≡◌, Bool, true, false, not, cond, ◌&&◌, IsTrue, is_none, List, [], ◌∷◌, ◌++◌, Some}
use Rattle.std.specs.List.{flat_map, AllByRecursion}
use Rattle.std.proofs.Common.{refl, sym, ◌∙◌}
use Rattle.std.proofs.lemmas.Bool.{and_parts}
use Rattle.lin_base.specs.declared.wides.Wide.{Wide}
use Rattle.lin_base.specs.Whole.{is_in_range}
use Rattle.lin_base.specs.Steps.{is_narrow, result_of, first_wide}

is_narrow-cons : (s : Wide) (b : Bool) (ts : List Wide) → is_none (cond (not b) (Some s) (first_wide ts)) ≡ (b && is_narrow ts)
is_narrow-cons s true ts = refl
is_narrow-cons s false ts = refl

and_assoc : (a b c : Bool) → (a && (b && c)) ≡ ((a && b) && c)
and_assoc true b c = refl
and_assoc false b c = refl

pub is_narrow-append : (ss ts : List Wide) → is_narrow (ss ++ ts) ≡ (is_narrow ss && is_narrow ts)
is_narrow-append [] ts = refl
is_narrow-append (s ∷ ss) ts =
    rw (is_narrow-cons s (is_in_range (result_of s)) (ss ++ ts), is_narrow-cons s (is_in_range (result_of s)) ss, is_narrow-append ss ts)
    (and_assoc (is_in_range (result_of s)) (is_narrow ss) (is_narrow ts))

pub each_narrow : {A : Type 0} (steps : A → List Wide) (xs : List A) → IsTrue (is_narrow (flat_map steps xs)) → AllByRecursion (λ x. is_narrow (steps x) ≡ true) xs
each_narrow steps [] h = tt
each_narrow steps (x ∷ xs) h =
    let both = and_parts (is_narrow (steps x)) (is_narrow (flat_map steps xs)) (sym (is_narrow-append (steps x) (flat_map steps xs)) ∙ h) in
    (both.0, each_narrow steps xs both.1)
