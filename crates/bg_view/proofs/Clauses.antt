-- The first step that leaves the range, of the steps of clauses one after the other.
use Rattle.std.specs.Prelude.{◌≡◌, ℕ, suc, ◌+◌, List, [], ◌∷◌, ◌++◌, length, Option, Some, None, Result, Ok, Err, IfOk}
use Rattle.std.proofs.Common.{refl, sym, ◌∙◌, ap, subst, arith}
use Rattle.lin_base.specs.declared.wides.Wide.{Wide}
use Rattle.lin_base.specs.declared.wides.ArithmeticError.{ArithmeticError}
use Rattle.lin_base.specs.declared.wides.ArithmeticError.TheVariants as arithmetic
use Rattle.lin_base.specs.Steps as below
use Rattle.lin_base.specs.Steps.{first_wide}
use Rattle.bg_view.specs.declared.viewing.WideAt.{WideAt}
use Rattle.bg_view.specs.declared.viewing.ViewError.{ViewError}
use Rattle.bg_view.specs.declared.viewing.ViewError.TheVariants.{Memory, Wide as TooWide}
use Rattle.bg_view.specs.View.{wide_at, first_wide_at, IsErrorAt, Forms, at_clause, clauses_steps}
use Rattle.term_base.specs.declared.clauses.Clause.{Clause}

-- a clause whose steps stay in the range
pub first_wide_at-narrow : (n : ℕ) (steps : List Wide) (rest : List (List Wide)) → first_wide steps ≡ None → first_wide_at n (steps ∷ rest) ≡ first_wide_at (suc n) rest
first_wide_at-narrow n steps rest h = ap (λ o. wide_at n o (first_wide_at (suc n) rest)) h

-- a clause with one that leaves it
pub first_wide_at-error : (n : ℕ) (e : ArithmeticError) (steps : List Wide) (later : Option WideAt) → below.IsErrorAt e (first_wide steps) → IsErrorAt (at_clause n e) (wide_at n (first_wide steps) later)
first_wide_at-error n arithmetic.Memory steps later h = tt
first_wide_at-error n (arithmetic.Wide w) steps later h = ap (λ o. wide_at n o later) h

append-next : (n : ℕ) (o : Option Wide) (xs ys : List (List Wide)) → (first_wide_at (suc n) xs ≡ None → first_wide_at (suc n) (xs ++ ys) ≡ first_wide_at (suc n + length xs) ys)
    → wide_at n o (first_wide_at (suc n) xs) ≡ None → wide_at n o (first_wide_at (suc n) (xs ++ ys)) ≡ first_wide_at (n + suc (length xs)) ys
append-next n None xs ys more h = let e : suc n + length xs ≡ n + suc (length xs) = omega arith in more h ∙ ap (λ m. first_wide_at m ys) e
append-next n (Some w) xs ys more h = cc

pub first_wide_at-append : (n : ℕ) (xs ys : List (List Wide)) → first_wide_at n xs ≡ None → first_wide_at n (xs ++ ys) ≡ first_wide_at (n + length xs) ys
first_wide_at-append n [] ys h = let e : n ≡ n + 0 = omega arith in ap (λ m. first_wide_at m ys) e
first_wide_at-append n (x ∷ xs) ys h = append-next n (first_wide x) xs ys (first_wide_at-append (suc n) xs ys) h

before-next : (n : ℕ) (o : Option Wide) (xs ys : List (List Wide)) (w : WideAt) → (first_wide_at (suc n) xs ≡ Some w → first_wide_at (suc n) (xs ++ ys) ≡ Some w)
    → wide_at n o (first_wide_at (suc n) xs) ≡ Some w → wide_at n o (first_wide_at (suc n) (xs ++ ys)) ≡ Some w
before-next n None xs ys w more h = more h
before-next n (Some u) xs ys w more h = h

pub first_wide_at-before : (n : ℕ) (xs ys : List (List Wide)) (w : WideAt) → first_wide_at n xs ≡ Some w → first_wide_at n (xs ++ ys) ≡ Some w
first_wide_at-before n [] ys w h = cc
first_wide_at-before n (x ∷ xs) ys w h = before-next n (first_wide x) xs ys w (first_wide_at-before (suc n) xs ys w) h

-- one more clause
pub first_wide_at-last : (n : ℕ) (xs : List (List Wide)) (s : List Wide) → n ≡ length xs → first_wide_at 0 xs ≡ None → first_wide_at 0 (xs ++ s ∷ []) ≡ wide_at n (first_wide s) None
first_wide_at-last n xs s e h = first_wide_at-append 0 xs (s ∷ []) h ∙ ap (λ m. wide_at m (first_wide s) None) (let f : 0 + length xs ≡ n = omega (arith, e) in f)

pub error_before : (e : ViewError) (xs ys : List (List Wide)) → IsErrorAt e (first_wide_at 0 xs) → IsErrorAt e (first_wide_at 0 (xs ++ ys))
error_before Memory xs ys h = tt
error_before (TooWide w) xs ys h = first_wide_at-before 0 xs ys w h

-- a call that ends in this error
pub Forms-err : {A : Type 0} (r : Result A ViewError) (e : ViewError) (steps : List (List Wide)) (a : A) → r ≡ Err e → IsErrorAt e (first_wide_at 0 steps) → Forms r steps a
Forms-err (Ok v) e steps a is h = cc
Forms-err (Err d) e steps a is h = let same : d ≡ e = cc in (tt, subst (λ f. IsErrorAt f (first_wide_at 0 steps)) (sym same) h)

-- a property of the value that a call gives
pub Forms-value : {A : Type 0} (P : A → Type 0) (r : Result A ViewError) (steps : List (List Wide)) (a : A) → Forms r steps a → P a → IfOk r P
Forms-value P (Ok v) steps a h p = subst P (sym h.0.1) p
Forms-value P (Err e) steps a h p = tt

pub clauses_steps-length : (symbols : List ℕ) (params : ℕ) (cs : List Clause) → length (clauses_steps symbols params cs) ≡ length cs
clauses_steps-length symbols params [] = refl
clauses_steps-length symbols params (c ∷ cs) = ap suc (clauses_steps-length symbols params cs)
