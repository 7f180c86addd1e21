-- Calls that count, one after the other.
use Rattle.std.specs.Prelude.{◌≡◌, Result, Ok, Err, ℕ, ◌+◌, ℤ, Bool, true, false, not, cond, ◌&&◌, is_none, if◌then◌else◌, List, [], ◌∷◌, ◌++◌, Option, Some, None}
use Rattle.std.proofs.Common.{refl, sym, ◌∙◌, ap, subst, arith}
use Rattle.std.proofs.lemmas.Int.{ints, to_z-of_z}
use Rattle.std.proofs.lemmas.List.{map-append}
use Rattle.std.proofs.lemmas.List.Folds.{list_all-append}
use Rattle.std.proofs.lemmas.Bool.{true≢false}
use Rattle.std.proofs.lemmas.Grind.{common_steps}
use Rattle.lin_base.specs.declared.wides.Wide.{Wide}
use Rattle.lin_base.specs.declared.wides.ArithmeticError.{ArithmeticError}
use Rattle.lin_base.specs.declared.wides.ArithmeticError.TheVariants.{Memory as NoMemory, Wide as TooWide}
use Rattle.lin_base.specs.Whole.{is_in_range}
use Rattle.lin_base.specs.Numbers.{results}
use Rattle.lin_base.specs.Steps.{IsErrorAt, result_of, first_wide}
use Rattle.cert_tree.proofs.Forming.{forming}
use Rattle.cert_tree.specs.Narrow.{if_narrow}
use Rattle.cooper_rows.specs.declared.counting.BudgetError.{BudgetError}
use Rattle.cooper_rows.specs.declared.counting.BudgetError.TheVariants.{Memory, Wide as OutOfRange, Spent}
use Rattle.cooper_rows.specs.Counted.{of_arithmetic, fit, IsAfter, IsCause, Counted}

-- ---- one list after the other
pub results-append : (ss ts : List Wide) → results (ss ++ ts) ≡ results ss ++ results ts
results-append ss ts = map-append result_of ss ts

pub fit-append : (zs ys : List ℤ) → fit (zs ++ ys) ≡ (fit zs && fit ys)
fit-append zs ys = list_all-append is_in_range zs ys

and_false : (b : Bool) → (b && false) ≡ false
and_false true = refl
and_false false = refl

pub fit_first : (zs ys : List ℤ) → fit zs ≡ false → fit (zs ++ ys) ≡ false
fit_first zs ys h = fit-append zs ys ∙ ap (λ b. b && fit ys) h

pub fit_then : (zs ys : List ℤ) → fit ys ≡ false → fit (zs ++ ys) ≡ false
fit_then zs ys h = fit-append zs ys ∙ ap (λ b. fit zs && b) h ∙ and_false (fit zs)

pub fit_after : (zs ys : List ℤ) → fit zs ≡ true → fit (zs ++ ys) ≡ fit ys
fit_after zs ys h = fit-append zs ys ∙ ap (λ b. b && fit ys) h

-- ---- calls one after the other
pub after_start : (m : ℕ) → IsAfter m m 0 []
after_start m = (omega arith, refl)

pub after_after : (m2 m1 m0 n k : ℕ) (zs ys : List ℤ) → IsAfter m1 m0 n zs → IsAfter m2 m1 k ys → IsAfter m2 m0 (n + k) (zs ++ ys)
after_after m2 m1 m0 n k zs ys a b = (omega (arith, a.0, b.0), fit_after zs ys a.1 ∙ b.1)

pub cause_first : (e : BudgetError) (room n k : ℕ) (zs ys : List ℤ) → IsCause e room n zs → IsCause e room (n + k) (zs ++ ys)
cause_first Memory room n k zs ys h = tt
cause_first OutOfRange room n k zs ys h = fit_first zs ys h
cause_first Spent room n k zs ys h = omega (arith, h)

pub cause_then : (e : BudgetError) (m1 m0 n k : ℕ) (zs ys : List ℤ) → IsAfter m1 m0 n zs → IsCause e m1 k ys → IsCause e m0 (n + k) (zs ++ ys)
cause_then Memory m1 m0 n k zs ys a h = tt
cause_then OutOfRange m1 m0 n k zs ys a h = fit_then zs ys h
cause_then Spent m1 m0 n k zs ys a h = omega (arith, a.0, h)

-- memory may run out at any time
pub cause_memory : (e : BudgetError) (room n : ℕ) (zs : List ℤ) → e ≡ Memory → IsCause e room n zs
cause_memory e room n zs is = subst (λ f. IsCause f room n zs) (sym is) tt

pub counted_err : {A : Type 0} (r : Result A BudgetError) (e : BudgetError) (m0 m1 n : ℕ) (zs : List ℤ) (P : A → Type 0) → r ≡ Err e → IsCause e m0 n zs → Counted r m0 m1 n zs P
counted_err (Ok v) e m0 m1 n zs P is h = absurd (cc)
counted_err (Err d) e m0 m1 n zs P is h = let same : d ≡ e = cc in (tt, subst (λ f. IsCause f m0 n zs) (sym same) h)

pub counted_ok : {A : Type 0} (r : Result A BudgetError) (v : A) (m0 m1 n : ℕ) (zs : List ℤ) (P : A → Type 0) → r ≡ Ok v → IsAfter m1 m0 n zs → P v → Counted r m0 m1 n zs P
counted_ok (Ok u) v m0 m1 n zs P is a p = let same : u ≡ v = cc in ((a, subst P (sym same) p), tt)
counted_ok (Err e) v m0 m1 n zs P is a p = absurd (cc)

pub counted_then : {A : Type 0} (r : Result A BudgetError) (m0 m1 m2 n k : ℕ) (zs ys : List ℤ) (P : A → Type 0) → IsAfter m1 m0 n zs → Counted r m1 m2 k ys P → Counted r m0 m2 (n + k) (zs ++ ys) P
counted_then (Ok v) m0 m1 m2 n k zs ys P a h = ((after_after m2 m1 m0 n k zs ys a h.0.0, h.0.1), tt)
counted_then (Err e) m0 m1 m2 n k zs ys P a h = (tt, cause_then e m1 m0 n k zs ys a h.1)

pub counted_as : {A : Type 0} (r : Result A BudgetError) (m0 m1 n k : ℕ) (zs ys : List ℤ) (P : A → Type 0) → n ≡ k → zs ≡ ys → Counted r m0 m1 k ys P → Counted r m0 m1 n zs P
counted_as r m0 m1 n k zs ys P count is h = rw (count, is) h

pub after_as : (m1 m0 n k : ℕ) (zs ys : List ℤ) → n ≡ k → zs ≡ ys → IsAfter m1 m0 k ys → IsAfter m1 m0 n zs
after_as m1 m0 n k zs ys count is h = rw (count, is) h

pub cause_as : (e : BudgetError) (room n k : ℕ) (zs ys : List ℤ) → n ≡ k → zs ≡ ys → IsCause e room k ys → IsCause e room n zs
cause_as e room n k zs ys count is h = rw (count, is) h

-- only rows and nodes were counted: an error there, and what was formed before
pub cause_taken : (e : BudgetError) (m1 m0 k : ℕ) (zs ys : List ℤ) → IsAfter m1 m0 0 zs → IsCause e m1 k [] → IsCause e m0 k ys
cause_taken Memory m1 m0 k zs ys a h = tt
cause_taken OutOfRange m1 m0 k zs ys a h = absurd (true≢false h)
cause_taken Spent m1 m0 k zs ys a h = omega (arith, a.0, h)

pub after_taken : (m2 m1 m0 k : ℕ) (zs : List ℤ) → IsAfter m1 m0 0 zs → IsAfter m2 m1 k [] → IsAfter m2 m0 k zs
after_taken m2 m1 m0 k zs a t = (omega (arith, a.0, t.0), a.1)

-- ---- a loop: what is still due now, and what was due at its start
abbrev pub Due : ℕ → ℕ → ℕ → ℕ → List ℤ → List ℤ → Type 0
Due now start n all zs whole = (start + n ≡ now + all) × (fit zs ≡ fit whole)

pub due_start : (m n : ℕ) (zs : List ℤ) → Due m m n n zs zs
due_start m n zs = (refl, refl)

pub due_step : (m1 m0 start n k l all : ℕ) (ys zs due whole : List ℤ) → Due m0 start l all due whole → l ≡ k + n → due ≡ ys ++ zs → IsAfter m1 m0 k ys → Due m1 start n all zs whole
due_step m1 m0 start n k l all ys zs due whole d count is a = (
  omega (arith, d.0, a.0, count),
  sym (fit_after ys zs a.1) ∙ sym (ap fit is) ∙ d.1,
)

pub due_err : (e : BudgetError) (m0 start n k l all : ℕ) (ys zs due whole : List ℤ) → Due m0 start l all due whole → l ≡ k + n → due ≡ ys ++ zs → IsCause e m0 k ys → IsCause e start all whole
due_err Memory m0 start n k l all ys zs due whole d count is h = tt
due_err OutOfRange m0 start n k l all ys zs due whole d count is h = sym d.1 ∙ ap fit is ∙ fit_first ys zs h
due_err Spent m0 start n k l all ys zs due whole d count is h = omega (arith, d.0, count, h)

pub due_end : (m start l all : ℕ) (due whole : List ℤ) → Due m start l all due whole → l ≡ 0 → due ≡ [] → IsAfter m start all whole
due_end m start l all due whole d count is = (omega (arith, d.0, count), sym d.1 ∙ ap fit is)

-- ---- steps and the numbers that they form
none_cons : (b : Bool) (s : Wide) (rest : Option Wide) (others : Bool) → cond (not b) (Some s) rest ≡ None → (rest ≡ None → others ≡ true) → (b && others) ≡ true
none_cons true s rest others h k = k h
none_cons false s rest others h k = absurd (cc)

some_cons : (b : Bool) (s : Wide) (rest : Option Wide) (w : Wide) (others : Bool) → cond (not b) (Some s) rest ≡ Some w → (rest ≡ Some w → others ≡ false) → (b && others) ≡ false
some_cons true s rest w others h k = k h
some_cons false s rest w others h k = refl

-- steps that stay in the range
pub narrow_fits : (ss : List Wide) → first_wide ss ≡ None → fit (results ss) ≡ true
narrow_fits [] h = refl
narrow_fits (s ∷ ss) h = none_cons (is_in_range (result_of s)) s (first_wide ss) (fit (results ss)) h (narrow_fits ss)

-- a step that leaves it
pub wide_is_out : (ss : List Wide) (w : Wide) → first_wide ss ≡ Some w → fit (results ss) ≡ false
wide_is_out [] w h = absurd (cc)
wide_is_out (s ∷ ss) w h = some_cons (is_in_range (result_of s)) s (first_wide ss) w (fit (results ss)) h (wide_is_out ss w)

by_first : {A : Type 0} (first : Option Wide) (o : Option A) (a : A) → o ≡ (if is_none first then Some a else None) → ((v : A) → o ≡ Some v → (first ≡ None) × (v ≡ a)) × (o ≡ None → (w : Wide) × (first ≡ Some w))
by_first None o a is = ((λ v some. (refl, (cc))), λ none. absurd (cc))
by_first (Some w) o a is = ((λ v some. absurd (cc)), λ none. (w, refl))

-- a value that is there because each step stays in the range
pub some_is_narrow : {A : Type 0} (o : Option A) (a v : A) (ss : List Wide) → o ≡ if_narrow ss a → o ≡ Some v → (fit (results ss) ≡ true) × (v ≡ a)
some_is_narrow o a v ss is some = let both = (by_first (first_wide ss) o a is).0 v some in (narrow_fits ss both.0, both.1)

-- a value that isn't there because a step leaves the range
pub none_is_out : {A : Type 0} (o : Option A) (a : A) (ss : List Wide) → o ≡ if_narrow ss a → o ≡ None → fit (results ss) ≡ false
none_is_out o a ss is none = let out = (by_first (first_wide ss) o a is).1 none in wide_is_out ss out.0 out.1

-- an error of steps
pub cause_forms : (e : ArithmeticError) (room n : ℕ) (ss : List Wide) → IsErrorAt e (first_wide ss) → IsCause (of_arithmetic e) room n (results ss)
cause_forms NoMemory room n ss h = tt
cause_forms (TooWide w) room n ss h = wide_is_out ss w h

pub after_forms : (m : ℕ) (ss : List Wide) → first_wide ss ≡ None → IsAfter m m 0 (results ss)
after_forms m ss h = (omega arith, narrow_fits ss h)

-- ---- calls that count nothing
pub cause_fits : (e : BudgetError) (room n : ℕ) (zs : List ℤ) → IsCause e 0 0 zs → IsCause e room n zs
cause_fits Memory room n zs h = tt
cause_fits OutOfRange room n zs h = h
cause_fits Spent room n zs h = absurd (omega (arith, h))

pub after_fits : (m : ℕ) (zs : List ℤ) → fit zs ≡ true → IsAfter m m 0 zs
after_fits m zs h = (omega arith, h)

pub ruleset counting = (common_steps, to_z-of_z, forming, results-append, fit_first, fit_then, fit_after, narrow_fits, wide_is_out)
