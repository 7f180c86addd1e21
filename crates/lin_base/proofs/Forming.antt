-- The first step that leaves the range, of steps one after the other.
use Rattle.std.specs.Prelude.{◌≡◌, Bool, true, false, not, cond, List, [], ◌∷◌, ◌++◌, Some, None, Ok, Err, Option, Result, IfOk}
use Rattle.std.proofs.Common.{refl, sym, ◌∙◌, ap, subst}
use Rattle.std.specs.Option.{option_or}
use Rattle.std.proofs.lemmas.List.Folds.{find-append}
use Rattle.std.proofs.lemmas.Int.{to_z-of_z}
use Rattle.std.proofs.lemmas.Grind.{common_steps}
use Rattle.lin_base.specs.declared.wides.Wide.{Wide}
use Rattle.lin_base.specs.declared.wides.ArithmeticError.{ArithmeticError}
use Rattle.lin_base.specs.declared.wides.ArithmeticError.TheVariants.{Memory, Wide as TooWide}
use Rattle.lin_base.specs.Whole.{is_in_range}
use Rattle.lin_base.specs.Steps.{result_of, first_wide, formed_by, unless, IsErrorAt, Forms}

by_err : {A : Type 0} (b : Bool) (s : Wide) (z : A) (rest : Option Wide) (w : Wide) → unless (cond b (Some s) None) z ≡ Err w → cond b (Some s) rest ≡ Some w
by_err true s z rest w h = cc
by_err false s z rest w h = absurd (cc)

by_ok : {A : Type 0} (b : Bool) (s : Wide) (z m : A) (rest : Option Wide) → unless (cond b (Some s) None) z ≡ Ok m → (cond b (Some s) rest ≡ rest) × (m ≡ z)
by_ok true s z m rest h = absurd (cc)
by_ok false s z m rest h = (refl, cc)

-- the step leaves the range
pub first_wide-err : {A : Type 0} (s : Wide) (z : A) (ss : List Wide) (w : Wide) → formed_by (s ∷ []) z ≡ Err w → first_wide (s ∷ ss) ≡ Some w
first_wide-err s z ss w h = by_err (not (is_in_range (result_of s))) s z (first_wide ss) w h

-- the step stays in the range
pub first_wide-ok : {A : Type 0} (s : Wide) (z m : A) (ss : List Wide) → formed_by (s ∷ []) z ≡ Ok m → (first_wide (s ∷ ss) ≡ first_wide ss) × (m ≡ z)
first_wide-ok s z m ss h = by_ok (not (is_in_range (result_of s))) s z m (first_wide ss) h

first_wide-append : (ss ts : List Wide) → first_wide (ss ++ ts) ≡ option_or (first_wide ss) (first_wide ts)
first_wide-append ss ts = find-append (λ s. not (is_in_range (result_of s))) ss ts

-- steps that stay in the range
pub first_wide-append_none : (ss ts : List Wide) → first_wide ss ≡ None → first_wide (ss ++ ts) ≡ first_wide ts
first_wide-append_none ss ts h = first_wide-append ss ts ∙ ap (λ o. option_or o (first_wide ts)) h

-- steps that leave it
pub first_wide-append_some : (ss ts : List Wide) (w : Wide) → first_wide ss ≡ Some w → first_wide (ss ++ ts) ≡ Some w
first_wide-append_some ss ts w h = first_wide-append ss ts ∙ ap (λ o. option_or o (first_wide ts)) h

-- an error of the first steps, or of those after steps that stay in the range
pub IsErrorAt-append_some : (e : ArithmeticError) (ss ts : List Wide) → IsErrorAt e (first_wide ss) → IsErrorAt e (first_wide (ss ++ ts))
IsErrorAt-append_some Memory ss ts h = tt
IsErrorAt-append_some (TooWide w) ss ts h = first_wide-append_some ss ts w h

pub IsErrorAt-append_none : (e : ArithmeticError) (ss ts : List Wide) → first_wide ss ≡ None → IsErrorAt e (first_wide ts) → IsErrorAt e (first_wide (ss ++ ts))
IsErrorAt-append_none Memory ss ts n h = tt
IsErrorAt-append_none (TooWide w) ss ts n h = first_wide-append_none ss ts n ∙ h

-- a call that ends in this error
pub Forms-err : {A : Type 0} (r : Result A ArithmeticError) (e : ArithmeticError) (steps : List Wide) (a : A) → r ≡ Err e → IsErrorAt e (first_wide steps) → Forms r steps a
Forms-err (Ok v) e steps a is h = cc
Forms-err (Err d) e steps a is h = let same : d ≡ e = cc in (tt, subst (λ f. IsErrorAt f (first_wide steps)) (sym same) h)

-- a call after steps that stay in the range
pub Forms-after : {A : Type 0} (r : Result A ArithmeticError) (ss ts : List Wide) (a : A) → first_wide ss ≡ None → Forms r ts a → Forms r (ss ++ ts) a
Forms-after (Ok v) ss ts a n h = ((first_wide-append_none ss ts n ∙ h.0.0, h.0.1), tt)
Forms-after (Err e) ss ts a n h = (tt, IsErrorAt-append_none e ss ts n h.1)

-- what the answer of a call without memory tells
unless-ok : {A : Type 0} (o : Option Wide) (a v : A) → unless o a ≡ Ok v → (o ≡ None) × (v ≡ a)
unless-ok None a v h = (refl, cc)
unless-ok (Some w) a v h = absurd (cc)

unless-err : {A : Type 0} (o : Option Wide) (a : A) (w : Wide) → unless o a ≡ Err w → o ≡ Some w
unless-err None a w h = absurd (cc)
unless-err (Some u) a w h = cc

pub formed_by-ok : {A : Type 0} (steps : List Wide) (a v : A) → formed_by steps a ≡ Ok v → (first_wide steps ≡ None) × (v ≡ a)
formed_by-ok steps a v h = unless-ok (first_wide steps) a v h

pub formed_by-err : {A : Type 0} (steps : List Wide) (a : A) (w : Wide) → formed_by steps a ≡ Err w → first_wide steps ≡ Some w
formed_by-err steps a w h = unless-err (first_wide steps) a w h

-- the answer of a call without memory
pub formed_by-narrow : {A : Type 0} (steps : List Wide) (a v : A) → first_wide steps ≡ None → v ≡ a → Ok v ≡ formed_by steps a
formed_by-narrow steps a v h e = ap Ok e ∙ ap (λ o. unless o a) (sym h)

pub formed_by-wide : {A : Type 0} (steps : List Wide) (a : A) (w : Wide) → first_wide steps ≡ Some w → Err w ≡ formed_by steps a
formed_by-wide steps a w h = ap (λ o. unless o a) (sym h)

-- two calls without memory, one after the other
pub formed_by-first : {A B : Type 0} (ss ts : List Wide) (a : A) (b : B) (w : Wide) → formed_by ss a ≡ Err w → Err w ≡ formed_by (ss ++ ts) b
formed_by-first ss ts a b w h = formed_by-wide (ss ++ ts) b w (first_wide-append_some ss ts w (formed_by-err ss a w h))

pub formed_by-last : {A B C : Type 0} (ss ts : List Wide) (a v : A) (b : B) (c : C) (w : Wide) → formed_by ss a ≡ Ok v → formed_by ts c ≡ Err w → Err w ≡ formed_by (ss ++ ts) b
formed_by-last ss ts a v b c w h g = formed_by-wide (ss ++ ts) b w (first_wide-append_none ss ts (formed_by-ok ss a v h).0 ∙ formed_by-err ts c w g)

pub formed_by-both : {A C : Type 0} (ss ts : List Wide) (a v : A) (c u : C) → formed_by ss a ≡ Ok v → formed_by ts c ≡ Ok u → first_wide (ss ++ ts) ≡ None
formed_by-both ss ts a v c u h g = first_wide-append_none ss ts (formed_by-ok ss a v h).0 ∙ (formed_by-ok ts c u g).0

-- a property of the value that a call forms
pub Forms-value : {A : Type 0} (P : A → Type 0) (r : Result A ArithmeticError) (steps : List Wide) (a : A) → Forms r steps a → P a → IfOk r P
Forms-value P (Ok v) steps a h p = subst P (sym h.0.1) p
Forms-value P (Err e) steps a h p = tt

pub ruleset forming = (common_steps, to_z-of_z, first_wide-err, first_wide-ok, first_wide-append_none, first_wide-append_some)
