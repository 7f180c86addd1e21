-- Well-formed facts have moduli of at least 1.
use Rattle.std.specs.Prelude.{◌≡◌, zero, suc, ℤ, pos, ◌<ℤ◌, true, IsTrue, int_le, List, [], ◌∷◌}
use Rattle.std.specs.List.{list_all, AllByRecursion}
use Rattle.std.proofs.Common.{refl, arith, inl, inr}
use Rattle.std.proofs.lemmas.Int.{ints}
use Rattle.std.proofs.lemmas.Bool.{and_parts}
use Rattle.lin_base.specs.declared.facts.Fact.{Fact}
use Rattle.lin_base.specs.declared.facts.Fact.TheVariants.{AtMostZero, Zero, Divides, NotDivides}
use Rattle.lin_base.specs.declared.facts.Pool.{Pool}
use Rattle.lin_base.specs.Fact.{is_fact, is_lin, is_pool}
use Rattle.lin_base.specs.Sum.{Valuation}
use Rattle.cert_tree.specs.Laws.{AllHold, SomeHold}
use Rattle.cert_tree.proofs.Truth.{is_proper, positive_in, EachHolds, SomeHolds}
use Rattle.cert_tree.proofs.Least.{EachProper}

modulus_proper : (m : ℤ) → int_le (pos 2) m ≡ true → pos 0 <ℤ m
modulus_proper m h = omega (arith, ints, h)

pub fact_proper : (f : Fact) → IsTrue (is_fact f) → is_proper f ≡ true
fact_proper (AtMostZero t) h = refl
fact_proper (Zero t) h = refl
fact_proper (Divides m t) h = positive_in m (modulus_proper m (and_parts (int_le (pos 2) m) (is_lin t) h).0)
fact_proper (NotDivides m t) h = positive_in m (modulus_proper m (and_parts (int_le (pos 2) m) (is_lin t) h).0)

pub facts_proper : (fs : List Fact) → list_all is_fact fs ≡ true → EachProper fs
facts_proper [] h = tt
facts_proper (f ∷ fs) h = let both = and_parts (is_fact f) (list_all is_fact fs) h in (fact_proper f both.0, facts_proper fs both.1)

clauses_proper : (cs : List (List Fact)) → list_all (list_all is_fact) cs ≡ true → AllByRecursion EachProper cs
clauses_proper [] h = tt
clauses_proper (c ∷ cs) h = let both = and_parts (list_all is_fact c) (list_all (list_all is_fact) cs) h in (facts_proper c both.0, clauses_proper cs both.1)

pub pool_proper : (pool : Pool) → IsTrue (is_pool pool) → AllByRecursion EachProper pool.clauses
pool_proper pool h = clauses_proper pool.clauses h

pub each_proper : (fs : List Fact) → AllByRecursion (λ f. IsTrue (is_fact f)) fs → EachProper fs
each_proper [] h = tt
each_proper (f ∷ fs) h = (fact_proper f h.0, each_proper fs h.1)

-- ---- facts that hold
pub each_good : (v : Valuation) (fs : List Fact) → EachProper fs → AllHold v fs → EachHolds v fs
each_good v [] proper h = tt
each_good v (f ∷ fs) proper h = ((h.0, proper.0), each_good v fs proper.1 h.1)

each_hold : (v : Valuation) (fs : List Fact) → EachHolds v fs → AllHold v fs
each_hold v [] h = tt
each_hold v (f ∷ fs) h = (h.0.0, each_hold v fs h.1)

pub some_hold : (v : Valuation) (states : List (List Fact)) → SomeHolds v states → SomeHold v states
some_hold v [] some = absurd some
some_hold v (facts ∷ more) some = elim some [
  | inl here ↦ (facts, zero, refl, each_hold v facts here)
  | inr later ↦ let found = some_hold v more later in (found.0, suc found.1, found.2, found.3)
]
