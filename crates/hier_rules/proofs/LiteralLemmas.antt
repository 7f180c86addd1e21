-- Literals of a list by number.
use Rattle.std.proofs.Common.{◌≡◌, ◌<◌, ◌≤◌, ℕ, zero, suc, true, List, [], ◌∷◌, ◌++◌, map, length, take, drop, refl, ap, arith}
use Rattle.std.specs.Prelude.{Some, Result, Ok, Err, OnOk, is_some, slice_set, remove}
use Rattle.term_base.specs.declared.clauses.Literal.{Literal}
use Rattle.term_base.specs.Lits.{Lit, lit}
use Rattle.term_base.specs.Places.{left_out, changed, item}

pub within : (ls : List Literal) (n : ℕ) → is_some (item n (map lit ls)) ≡ true → n < length ls
within [] n h = cc
within (k ∷ ls) zero h = omega arith
within (k ∷ ls) (suc n) h = let i = within ls n h in omega arith

pub without_one : (ls : List Literal) (n : ℕ) → map lit (remove ls n) ≡ left_out n (map lit ls)
without_one [] zero = refl
without_one [] (suc n) = refl
without_one (l ∷ ls) zero = refl
without_one (l ∷ ls) (suc n) = ap (λ r. lit l ∷ r) (without_one ls n)

pub with_another : (ls : List Literal) (n : ℕ) (new : Literal) → map lit (slice_set ls n new) ≡ changed n (lit new) (map lit ls)
with_another [] n new = refl
with_another (l ∷ ls) zero new = refl
with_another (l ∷ ls) (suc n) new = ap (λ r. lit l ∷ r) (with_another ls n new)

-- a literal put back where one was taken out
pub back_in : (n : ℕ) (ls : List Lit) (m new : Lit) → item n ls ≡ Some m → take n (left_out n ls) ++ new ∷ drop n (left_out n ls) ≡ changed n new ls
back_in n [] m new h = cc
back_in zero (l ∷ ls) m new h = refl
back_in (suc n) (l ∷ ls) m new h = ap (λ r. l ∷ r) (back_in n ls m new h)

pub reaches : (n : ℕ) (ls : List Lit) (m : Lit) → item n ls ≡ Some m → n ≤ length (left_out n ls)
reaches n [] m h = cc
reaches zero (l ∷ ls) m h = omega arith
reaches (suc n) (l ∷ ls) m h = let i = reaches n ls m h in omega arith

pub parted : (n : ℕ) (ls : List Literal) (l : Literal) → map lit (take n ls ++ l ∷ drop n ls) ≡ take n (map lit ls) ++ lit l ∷ drop n (map lit ls)
parted zero ls l = refl
parted (suc n) [] l = refl
parted (suc n) (k ∷ ls) l = ap (λ r. lit k ∷ r) (parted n ls l)

pub as_many : (n : ℕ) (ls : List Literal) → n ≤ length (map lit ls) → n ≤ length ls
as_many n [] h = h
as_many zero (k ∷ ls) h = omega arith
as_many (suc n) (k ∷ ls) h = let i = as_many n ls (omega arith) in omega arith

pub on_ok : {A E : Type 0} (r : Result A E) (P Q : Type 0) → (P → Q) → OnOk r P → OnOk r Q
on_ok (Ok a) P Q f h = f h
on_ok (Err e) P Q f h = tt
