-- Facts of a list and clauses of a pool by number are well formed.
use Rattle.std.specs.Prelude.{◌≡◌, ℕ, zero, suc, Bool, true, IsTrue, List, [], ◌∷◌, Some, slice_get}
use Rattle.std.specs.List.{list_all}
use Rattle.std.proofs.Common.{subst}
use Rattle.std.proofs.lemmas.Bool.{and_parts}
use Rattle.std.proofs.lemmas.Grind.{common_steps}
use Rattle.lin_base.specs.declared.facts.Fact.{Fact}
use Rattle.lin_base.specs.Fact.{is_fact}

list_all-get : {A : Type 0} (test : A → Bool) (xs : List A) (n : ℕ) (a : A) → list_all test xs ≡ true → slice_get xs n ≡ Some a → test a ≡ true
list_all-get test [] n a all e = absurd (cc)
list_all-get test (x ∷ xs) zero a all e = let s : x ≡ a = cc in subst (λ y. test y ≡ true) s (and_parts _ _ all).0
list_all-get test (x ∷ xs) (suc n) a all e = list_all-get test xs n a (and_parts _ _ all).1 e

pub is_fact-get : (facts : List Fact) (n : ℕ) (f : Fact) → IsTrue (list_all is_fact facts) → slice_get facts n ≡ Some f → IsTrue (is_fact f)
is_fact-get facts n f all e = list_all-get is_fact facts n f all e

pub is_clause-get : (clauses : List (List Fact)) (n : ℕ) (clause : List Fact) → IsTrue (list_all (list_all is_fact) clauses) → slice_get clauses n ≡ Some clause → IsTrue (list_all is_fact clause)
is_clause-get clauses n clause all e = list_all-get (list_all is_fact) clauses n clause all e

pub ruleset members = (common_steps, is_fact-get, is_clause-get)
