-- The facts of views are well formed.
use Rattle.std.specs.Prelude.{◌≡◌, ℕ, pos, negsuc, true, ◌&&◌, List, [], ◌∷◌, if◌then◌else◌}
use Rattle.std.specs.List.{list_all}
use Rattle.std.proofs.Common.{refl, ◌∙◌, ap}
use Rattle.std.proofs.lemmas.Bool.{cond_both, and_from}
use Rattle.std.proofs.lemmas.List.Folds.{list_all-append}
use Rattle.term_base.specs.declared.terms.Term.{Term}
use Rattle.term_base.specs.declared.clauses.Literal.{Literal}
use Rattle.term_base.specs.declared.clauses.Literal.TheVariants.{Equal, Differ, AtMost}
use Rattle.term_base.specs.declared.clauses.Clause.{Clause}
use Rattle.term_base.specs.TermFolds.{fold-Var, fold-Num, fold-True, fold-Sum, fold-Scale, fold-App}
use Rattle.term_base.specs.TermInduction.{term_induction}
use Rattle.lin_base.specs.Sum.{negated}
use Rattle.lin_base.specs.Fact.{is_lin, is_fact, is_pool}
use Rattle.lin_base.proofs.WellFormed.{is_lin-add, is_lin-scale, is_lin-add_number, is_lin-above}
use Rattle.bg_view.specs.Unknowns.{Numbering}
use Rattle.bg_view.specs.Linear.{Formed, linear_step, linear, difference}
use Rattle.bg_view.specs.View.{is_truth, yes, no, equal, differ, literal_view, negated_view, literals_facts, negated_facts, clause_numbering, clauses_facts, view_of, target_numbering, entail_params, entail_pool_of}

module _ (n : Numbering) where
  pub is_lin-linear : (t : Term) → is_lin (linear n t).sum ≡ true
  is_lin-linear = term_induction (λ t. is_lin (linear n t).sum ≡ true)
      (λ x. ap (λ f. is_lin f.sum) (fold-Var Formed (linear_step n) x))
      (λ k. ap (λ f. is_lin f.sum) (fold-Num Formed (linear_step n) k))
      (ap (λ f. is_lin f.sum) (fold-True Formed (linear_step n)))
      (λ a b at_a at_b. ap (λ f. is_lin f.sum) (fold-Sum Formed (linear_step n) a b) ∙ is_lin-add (linear n a).sum (linear n b).sum at_a at_b)
      (λ k a at_a. ap (λ f. is_lin f.sum) (fold-Scale Formed (linear_step n) k a) ∙ is_lin-scale k (linear n a).sum at_a)
      (λ f ts _. ap (λ f. is_lin f.sum) (fold-App Formed (linear_step n) f ts))

  is_lin-difference : (s t : Term) → is_lin (difference n s t).sum ≡ true
  is_lin-difference s t =
      is_lin-add (linear n s).sum (negated (linear n t).sum) (is_lin-linear s) (is_lin-scale (negsuc 0) (linear n t).sum (is_lin-linear t))

  equation_facts : (s t : Term) → list_all is_fact (if is_truth s && is_truth t then yes else equal (difference n s t)).facts ≡ true
  equation_facts s t =
      cond_both (is_truth s && is_truth t) yes (equal (difference n s t)) (λ f. list_all is_fact f.facts ≡ true)
      (λ _. refl)
      (λ _. and_from _ _ (is_lin-difference s t) refl)

  disequation_facts : (s t : Term) → list_all is_fact (if is_truth s && is_truth t then no else differ (difference n s t)).facts ≡ true
  disequation_facts s t =
      let d = (difference n s t).sum in
      let h = is_lin-difference s t in
      cond_both (is_truth s && is_truth t) no (differ (difference n s t)) (λ f. list_all is_fact f.facts ≡ true)
      (λ _. refl)
      (λ _. and_from _ _ (is_lin-add_number d (pos 1) h) (and_from _ _ (is_lin-above d h) refl))

  literal_facts : (l : Literal) → list_all is_fact (literal_view n l).facts ≡ true
  literal_facts (Equal s t) = equation_facts s t
  literal_facts (Differ s t) = disequation_facts s t
  literal_facts (AtMost s t) = and_from _ _ (is_lin-difference s t) refl

  negated_literal_facts : (l : Literal) → list_all is_fact (negated_view n l).facts ≡ true
  negated_literal_facts (Equal s t) = disequation_facts s t
  negated_literal_facts (Differ s t) = equation_facts s t
  negated_literal_facts (AtMost s t) = and_from _ _ (is_lin-above (difference n s t).sum (is_lin-difference s t)) refl

  all_facts : (ls : List Literal) → list_all is_fact (literals_facts n ls) ≡ true
  all_facts [] = refl
  all_facts (l ∷ ls) = list_all-append is_fact (literal_view n l).facts (literals_facts n ls) ∙ and_from _ _ (literal_facts l) (all_facts ls)

  all_negated : (ls : List Literal) → list_all (list_all is_fact) (negated_facts n ls) ≡ true
  all_negated [] = refl
  all_negated (l ∷ ls) = and_from _ _ (negated_literal_facts l) (all_negated ls)

all_clauses : (symbols : List ℕ) (params : ℕ) (cs : List Clause) → list_all (list_all is_fact) (clauses_facts symbols params cs) ≡ true
all_clauses symbols params [] = refl
all_clauses symbols params (c ∷ cs) = and_from _ _ (all_facts (clause_numbering symbols params c) c.literals) (all_clauses symbols params cs)

-- the pool of clauses
pub is_pool-view : (symbols : List ℕ) (cs : List Clause) → is_pool (view_of symbols cs).pool ≡ true
is_pool-view symbols cs = all_clauses symbols _ cs

-- the pool of clauses and a negated target
pub is_pool-entail : (symbols : List ℕ) (cs : List Clause) (target : Clause) → is_pool (entail_pool_of symbols cs target) ≡ true
is_pool-entail symbols cs target =
    list_all-append (list_all is_fact) (clauses_facts symbols (entail_params symbols target) cs) (negated_facts (target_numbering symbols target) target.literals)
    ∙ and_from _ _ (all_clauses symbols (entail_params symbols target) cs) (all_negated (target_numbering symbols target) target.literals)
