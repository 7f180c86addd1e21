-- Numbers in the range, and steps that stay in it.
use Rattle.std.specs.Prelude.{◌≡◌, ℕ, suc, ◌<◌, ◌^◌, max, ℤ, pos, negsuc, unsigned_abs, Bool, true, false, not, cond, ◌&&◌, is_none, List, [], ◌∷◌, ◌++◌, Some}
use Rattle.std.specs.List.{list_all}
use Rattle.std.proofs.Common.{refl, sym, ◌∙◌, ap, arith}
use Rattle.std.proofs.Math.Nat.{le-max_left, le-max_right}
use Rattle.std.proofs.lemmas.Bool.{and_parts, and_from, lt-ltb}
use Rattle.std.proofs.lemmas.List.Folds.{list_all-append}
use Rattle.lin_base.specs.declared.wides.Wide.{Wide}
use Rattle.lin_base.specs.Whole.{is_in_range}
use Rattle.lin_base.specs.Numbers.{results, greatest_abs}
use Rattle.lin_base.specs.Steps.{is_narrow, first_wide, result_of}
use Rattle.cert_tree.proofs.Narrow.{is_narrow-append}

-- all of them are in the range
abbrev pub InRange : List ℤ → Type 0
InRange zs = list_all is_in_range zs ≡ true

pub range_parts : (xs ys : List ℤ) → InRange (xs ++ ys) → InRange xs × InRange ys
range_parts xs ys h = and_parts (list_all is_in_range xs) (list_all is_in_range ys) (sym (list_all-append is_in_range xs ys) ∙ h)

pub range_three : (xs ys zs : List ℤ) → InRange (xs ++ ys ++ zs) → InRange xs × InRange ys × InRange zs
range_three xs ys zs h = let one = range_parts (xs ++ ys) zs h in let two = range_parts xs ys one.0 in (two.0, two.1, one.1)

-- ---- steps
narrow_cons : (s : Wide) (b : Bool) (ss : List Wide) → is_none (cond (not b) (Some s) (first_wide ss)) ≡ (b && is_narrow ss)
narrow_cons s true ss = refl
narrow_cons s false ss = refl

-- steps are narrow exactly where their results are in the range
pub narrow_results : (ss : List Wide) → is_narrow ss ≡ list_all is_in_range (results ss)
narrow_results [] = refl
narrow_results (s ∷ ss) = narrow_cons s (is_in_range (result_of s)) ss ∙ ap (λ b. is_in_range (result_of s) && b) (narrow_results ss)

pub narrow_from : (ss : List Wide) → InRange (results ss) → is_narrow ss ≡ true
narrow_from ss h = narrow_results ss ∙ h

pub narrow_parts : (ss ts : List Wide) → is_narrow (ss ++ ts) ≡ true → (is_narrow ss ≡ true) × (is_narrow ts ≡ true)
narrow_parts ss ts h = and_parts (is_narrow ss) (is_narrow ts) (sym (is_narrow-append ss ts) ∙ h)

pub narrow_both : (ss ts : List Wide) → is_narrow ss ≡ true → is_narrow ts ≡ true → is_narrow (ss ++ ts) ≡ true
narrow_both ss ts h k = is_narrow-append ss ts ∙ and_from (is_narrow ss) (is_narrow ts) h k

-- ---- the greatest absolute value
in_range : (z : ℤ) → unsigned_abs z < 2 ^ 127 → is_in_range z ≡ true
in_range (pos n) h = lt-ltb n (2 ^ 127) h
in_range (negsuc n) h = lt-ltb n (2 ^ 127) (less n (2 ^ 127) h)
  where
    less : (a b : ℕ) → suc a < b → a < b
    less a b h = omega (arith, h)

left : (a b c : ℕ) → max a b < c → a < c
left a b c h = omega (arith, h, le-max_left a b)

right : (a b c : ℕ) → max a b < c → b < c
right a b c h = omega (arith, h, le-max_right a b)

pub all_in_range : (zs : List ℤ) → greatest_abs zs < 2 ^ 127 → InRange zs
all_in_range [] h = refl
all_in_range (z ∷ zs) h =
    and_from (is_in_range z) (list_all is_in_range zs) (in_range z (left (unsigned_abs z) (greatest_abs zs) (2 ^ 127) h)) (all_in_range zs (right (unsigned_abs z) (greatest_abs zs) (2 ^ 127) h))
