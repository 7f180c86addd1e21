-- The clause that is made is an abstraction of the clause, shares variables, has no target and the same sorts.
use Rattle.std.proofs.Common.{◌≡◌, ℕ, true, List, [], ◌++◌, map, Result, Ok, Err, IfOk, refl, ap, sym, ◌∙◌, subst, append-nil, arith}
use Rattle.term_base.specs.declared.symbols.Symbol.{Symbol}
use Rattle.term_base.specs.declared.clauses.Clause.{Clause}
use Rattle.term_base.specs.declared.variables.Variable.{Variable}
use Rattle.term_base.specs.Trees.{Tree, var}
use Rattle.term_base.specs.Substitution.{put_in}
use Rattle.term_base.specs.Clauses.{is_well_sorted}
use Rattle.term_base.specs.Lits.{Lit, lits, put_clause, clause_occurs}
use Rattle.term_base.specs.LitLemmas.{clause_append}
use Rattle.weak_abstraction.specs.Targets.{targets}
use Rattle.weak_abstraction.specs.Abstraction.{EachName, definition, put_back, IsAbstraction, IsSharing}
use Rattle.weak_abstraction.specs.Abstracted.{each_once, first_number, variable_of, named, numbered, replaced_lit, abstracted}
use Rattle.weak_abstraction.proofs.Choices.{EachTree, each_weaken}
use Rattle.weak_abstraction.proofs.Different.{IsAmong, each_among, each_different, all_different}
use Rattle.weak_abstraction.proofs.Found.{IsTarget, found_clause}
use Rattle.weak_abstraction.proofs.Kept.{sorted_clause}
use Rattle.weak_abstraction.proofs.NoTarget.{none_clause, none_defined}
use Rattle.weak_abstraction.proofs.Numbers.{name_weaken, name_both, of_terms, all_placed, all_stand, all_distinct, all_terms_differ, all_new, all_apart, all_back, all_sorted, low_clause, low_in, low_fixed, goes_back}
use Rattle.weak_abstraction.proofs.PutBack.{put_in-fixed, GoesBack, back_clause}
use Rattle.weak_abstraction.proofs.Unchanged.{same_clause}
use Rattle.weak_abstraction.proofs.Used.{InClause, used_clause}

module _ (S : List Symbol) (c : List Lit) where
  abbrev first : ℕ
  first = first_number c

  abbrev found : List Tree
  found = each_once (targets S c)

  abbrev new_names : List (Variable × Tree)
  new_names = numbered S first found

  abbrev by : Variable → Tree
  by = put_back new_names

  are_targets : EachTree (IsTarget S first) found
  are_targets = each_different (IsTarget S first) (targets S c) (found_clause S first c (omega arith))

  all_go_back : EachTree (GoesBack S first found by) (targets S c)
  all_go_back = each_weaken (λ u. IsAmong u found) (GoesBack S first found by) (λ u m. goes_back S first found u m) (targets S c) (each_among (targets S c))

  stays_in : (v : Variable) → clause_occurs v c ≡ true → by v ≡ var v
  stays_in v o = low_fixed S first found v (low_clause v c o)

  terms_stay : EachName (λ p. put_in by p.1 ≡ p.1) new_names
  terms_stay = name_weaken (λ p. IsTarget S first p.1) (λ p. put_in by p.1 ≡ p.1)
      (λ p is. put_in-fixed by p.1 (λ v o. low_fixed S first found v (let a = is.1 in let b = low_in v p.1 o in omega arith)))
      new_names (of_terms S (IsTarget S first) first found are_targets)

  all_used : EachName (λ p. clause_occurs p.0 (map (replaced_lit S (named S first found)) c) ≡ true) new_names
  all_used =
      let body = map (replaced_lit S (named S first found)) c in
      name_both (λ p. InClause S first found body p.1) (λ p. p.0 ≡ variable_of S first found p.1) (λ p. clause_occurs p.0 body ≡ true)
      (λ p h e. ap (λ (z : Variable). clause_occurs z body) e ∙ h) new_names
      (of_terms S (InClause S first found body) first found (each_different (InClause S first found body) (targets S c) (used_clause S first found c)))
      (all_placed S first found (all_different (targets S c)))

  pub made_abstraction : IsAbstraction S c (abstracted S c)
  made_abstraction = record {
    names = new_names;
    body = map (replaced_lit S (named S first found)) c;
    shape = refl;
    kinds = all_stand S first first found are_targets;
    distinct = all_distinct S first found;
    new = all_new S c found;
    apart = all_apart S first found are_targets;
    back = clause_append by (map (replaced_lit S (named S first found)) c) (map definition new_names)
        ∙ ap (λ (z : List Lit). z ++ put_clause by (map definition new_names)) (back_clause S first found by c stays_in all_go_back)
        ∙ ap (λ (z : List Lit). c ++ z) (all_back S first found are_targets terms_stay);
  }

  pub made_sharing : IsSharing S c (abstracted S c)
  unfolding made_abstraction
  made_sharing = record {
    abstraction = made_abstraction;
    used = all_used;
    shared = all_terms_differ S first found (all_different (targets S c));
  }

  pub made_no_target : targets S (abstracted S c) ≡ []
  made_no_target = none_clause S first found c (map definition new_names) (none_defined S first first found are_targets)

  pub made_sorted : is_well_sorted S (abstracted S c) ≡ is_well_sorted S c
  made_sorted = sorted_clause S first found c (map definition new_names) (all_sorted S first first found are_targets)

  pub made_unchanged : targets S c ≡ [] → abstracted S c ≡ c
  made_unchanged gone =
      ap (λ (z : List Lit). z ++ map definition new_names) (same_clause S (named S first found) c gone)
      ∙ ap (λ (z : List Tree). c ++ map definition (numbered S first (each_once z))) gone
      ∙ append-nil c

-- what holds of the literals that are made holds of the answer's
pub of_answer : {E : Type 0} (P : List Lit → Type 0) (r : Result Clause E) (ls : List Lit) → IfOk r (λ a. lits a ≡ ls) → P ls → IfOk r (λ a. P (lits a))
of_answer P (Ok a) ls is h = subst P (sym is) h
of_answer P (Err e) ls is h = tt

-- an answer with the literals of a clause is the clause
pub same_answer : {E : Type 0} (r : Result Clause E) (c : Clause) (ls : List Lit) → ((a b : Clause) → lits a ≡ lits b → a ≡ b)
    → IfOk r (λ a. lits a ≡ ls) → ls ≡ lits c → IfOk r (λ a. a ≡ c)
same_answer (Ok a) c ls law is e = law a c (is ∙ e)
same_answer (Err x) c ls law is e = tt
