-- Clauses of earlier steps, one after the other, and empty clauses.
use Rattle.std.specs.Prelude.{◌≡◌, ◌<◌, ◌≤◌, ◌+◌, ◌↔◌, ℕ, suc, Bool, true, false, IsTrue, List, [], ◌∷◌, ◌++◌, map, drop, length, Option, Some, None, option_map}
use Rattle.std.specs.Option.{option_map_or}
use Rattle.std.proofs.Common.{refl, sym, ◌∙◌, ap, get_or, append_assoc, add-one, drop-cons}
use Rattle.std.proofs.lemmas.List.{append-nil, drop_all}
use Rattle.term_base.specs.declared.clauses.Clause.{Clause}
use Rattle.term_base.specs.declared.clauses.Literal.{Literal}
use Rattle.term_base.specs.Lits.{lit}
use Rattle.proof_steps.specs.declared.steps.Step.{Step}
use Rattle.proof_steps.specs.Closing.{at_step, and_clause, at_steps}
use Rattle.proof_steps.specs.Standing.{is_empty_clause, of_one, of_two}

-- a test for no literal
pub empty-clause : (b : Bool) (ls : List Literal) → IsTrue b ↔ (ls ≡ []) → b ≡ is_empty_clause (map lit ls)
empty-clause true [] h = refl
empty-clause false [] h = h.1 refl
empty-clause true (l ∷ ls) h = let no : l ∷ ls ≡ [] = h.0 refl in absurd (cc)
empty-clause false (l ∷ ls) h = refl

-- the clauses so far and one more, before the others
pub clause-more : (all : List Clause) (c : Clause) (rest : Option (List Clause)) →
    option_map (λ cs. (all ++ c ∷ []) ++ cs) rest ≡ option_map (λ cs. all ++ cs) (and_clause (Some c) rest)
clause-more all c None = refl
clause-more all c (Some cs) = ap Some (append_assoc all (c ∷ []) cs)

module _ (before : List Step) (ks : List ℕ) where
  -- what the clauses so far, and those of the numbers from i on, give
  abbrev behind : List Clause → ℕ → Option (List Clause)
  behind all i = option_map (λ cs. all ++ cs) (at_steps before (drop i ks))

  next_step : (i : ℕ) (o : Option Clause) → i < length ks → at_step before (get_or ks i 0) ≡ o → at_steps before (drop i ks) ≡ and_clause o (at_steps before (drop (i + 1) ks))
  next_step i o h there =
      ap (at_steps before) (drop-cons ks i 0 h)
      ∙ ap (λ c. and_clause c (at_steps before (drop (suc i) ks))) there
      ∙ ap (λ n. and_clause o (at_steps before (drop n ks))) (sym (add-one i))

  -- one clause more is there
  pub steps-more : (i : ℕ) (all more : List Clause) (c : Clause) → i < length ks → at_step before (get_or ks i 0) ≡ Some c → more ≡ all ++ c ∷ [] →
      behind all i ≡ at_steps before ks → behind more (i + 1) ≡ at_steps before ks
  steps-more i all more c h there is told =
      ap (λ (m : List Clause). behind m (i + 1)) is
      ∙ clause-more all c (at_steps before (drop (i + 1) ks))
      ∙ ap (option_map (λ cs. all ++ cs)) (sym (next_step i (Some c) h there))
      ∙ told

  -- one isn't
  pub steps-none : (i : ℕ) (all : List Clause) → i < length ks → at_step before (get_or ks i 0) ≡ None → behind all i ≡ at_steps before ks → None ≡ at_steps before ks
  steps-none i all h gone told = sym (ap (option_map (λ cs. all ++ cs)) (next_step i None h gone)) ∙ told

  -- all are there
  pub steps-all : (i : ℕ) (all : List Clause) → length ks ≤ i → behind all i ≡ at_steps before ks → Some all ≡ at_steps before ks
  steps-all i all h told =
      ap Some (sym (append-nil all))
      ∙ sym (ap (λ ms. option_map (λ cs. all ++ cs) (at_steps before ms)) (drop_all i ks h))
      ∙ told

-- a test of the clause of an earlier step, where it is there, and where it isn't
pub one-there : (steps : List Step) (k : ℕ) (test : Clause → Bool) (c : Clause) → at_step steps k ≡ Some c → test c ≡ of_one steps k test
one-there steps k test c there = sym (ap (λ o. option_map_or test o false) there)

pub one-none : (steps : List Step) (k : ℕ) (test : Clause → Bool) → at_step steps k ≡ None → false ≡ of_one steps k test
one-none steps k test gone = sym (ap (λ o. option_map_or test o false) gone)

-- the same of the clauses of two earlier steps
pub two-there : (steps : List Step) (k l : ℕ) (test : Clause → Clause → Bool) (c d : Clause) → at_step steps k ≡ Some c → at_step steps l ≡ Some d → test c d ≡ of_two steps k l test
two-there steps k l test c d first second = one-there steps l (test c) d second ∙ one-there steps k (λ a. of_one steps l (test a)) c first

pub two-none : (steps : List Step) (k l : ℕ) (test : Clause → Clause → Bool) (c : Clause) → at_step steps k ≡ Some c → at_step steps l ≡ None → false ≡ of_two steps k l test
two-none steps k l test c first gone = one-none steps l (test c) gone ∙ one-there steps k (λ a. of_one steps l (test a)) c first
