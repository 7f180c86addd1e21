-- Raised variables, and the second premise kept apart by them.
use Rattle.std.proofs.Common.{◌≡◌, ◌<◌, ◌≤◌, ◌+◌, ◌-◌, ℕ, Bool, true, refl, ap, arith}
use Rattle.std.specs.Prelude.{nat_le}
use Rattle.std.proofs.lemmas.Bool.{leb-true, le-leb, lt-leb}
use Rattle.term_base.specs.declared.variables.Variable.{Variable}
use Rattle.unifier.specs.Naming.{with_id, raised}
use Rattle.unifier.proofs.PairLemmas.{IsApart}

pub raised_none : (v : Variable) → raised 0 v ≡ v
raised_none v = let e : v.id + 0 ≡ v.id = omega arith in ap (λ n. with_id n v) e

-- the variable from which a raised one comes
abbrev pub lowered : ℕ → Variable → Variable
lowered base v = with_id (v.id - base) v

abbrev pub is_raised : ℕ → Variable → Bool
is_raised base v = nat_le base v.id

pub raised_apart : (V : Variable → Bool) (base : ℕ) → ((v : Variable) → V v ≡ true → v.id < base) → IsApart V (is_raised base) (raised base) (lowered base)
raised_apart V base below = record {
  first_apart = λ v i. let h : v.id < base = below v i in lt-leb base v.id h;
  second_apart = λ v. let h : base ≤ v.id + base = omega arith in le-leb base (v.id + base) h;
  returns = λ v. let e : (v.id + base) - base ≡ v.id = omega arith in ap (λ n. with_id n v) e;
  comes_back = λ v h. let le : base ≤ v.id = leb-true base v.id h in let e : (v.id - base) + base ≡ v.id = omega arith in ap (λ n. with_id n v) e;
  sort_there = λ v. refl;
  sort_back = λ v. refl;
  kind_there = λ v. refl;
  kind_back = λ v. refl;
}
