-- What rows need: well-formed clauses, and sums without the variable.
use Rattle.std.specs.Prelude.{◌≡◌, ℕ, ◌<◌, ◌+◌, ◌==◌, ℤ, pos, ◌≤ℤ◌, true, false, not, ◌&&◌, nat_le, nat_lt, int_le, length, get_or, drop, map, List, [], ◌∷◌, ◌++◌, Some, None}
use Rattle.std.specs.List.{list_all, list_any}
use Rattle.std.proofs.Common.{refl, sym, ◌∙◌, ap, arith, inl, inr}
use Rattle.std.proofs.lemmas.Int.{ints}
use Rattle.std.proofs.lemmas.Bool.{cond_both, and_parts, and_from, or_cases, not-true, ltb-true, leb-true, ne_eqb}
use Rattle.std.proofs.lemmas.List.{at_drop_more}
use Rattle.std.proofs.lemmas.List.Folds.{list_all-append}
use Rattle.lin_base.specs.declared.sums.Lin.{Lin}
use Rattle.lin_base.specs.declared.facts.Fact.{Fact}
use Rattle.lin_base.specs.declared.facts.Fact.TheVariants.{NotDivides}
use Rattle.lin_base.specs.Whole.{is_same}
use Rattle.lin_base.specs.Fact.{is_fact, is_lin}
use Rattle.lin_base.specs.Sum.{Terms, occurs, each_unknown, number}
use Rattle.lin_base.specs.Change.{replace}
use Rattle.lin_base.proofs.Ring.{le_in}
use Rattle.cert_tree.specs.declared.certs.Row.{Row}
use Rattle.cert_tree.specs.Narrow.{option_then}
use Rattle.cert_tree.specs.Counting.{occurs_in}
use Rattle.cert_tree.specs.Points.{not_divides_part}
use Rattle.cert_tree.specs.Rows.{may_stand_for, is_variable_of, instance_is_allowed, falls_out, stays_in, instance_at, low_at, row_over, extended}
use Rattle.cert_tree.proofs.Replacing.{each_replaced, all-append, two_up}

-- ---- a sum over parameters and other variables
module _ (params x : ℕ) (clause : List Fact) (variable : nat_le params x ≡ true) where
  apart : (y : ℕ) → may_stand_for params x clause y ≡ true → (y == x) ≡ false
  apart y h = elim (or_cases (nat_lt y params) (not (y == x) && occurs_in y clause) h) [
    | inl low ↦ let below = ltb-true y params low in let over = leb-true params x variable in ne_eqb y x (λ same. omega (arith, below, over, same))
    | inr other ↦ not-true (y == x) (and_parts (not (y == x)) (occurs_in y clause) other).0
  ]

  absent_terms : (ts : Terms) → list_all (λ e. may_stand_for params x clause e.0) ts ≡ true → list_any (λ e. e.0 == x) ts ≡ false
  absent_terms [] h = refl
  absent_terms ((y, k) ∷ ts) h =
      let both = and_parts (may_stand_for params x clause y) (list_all (λ e. may_stand_for params x clause e.0) ts) h in
      rw (apart y both.0) (absent_terms ts both.1)

  pub absent_others : (t : Lin) → each_unknown (may_stand_for params x clause) t ≡ true → occurs x t ≡ false
  absent_others t h = absent_terms t.coefs h

-- what the conditions of Inst give
pub allowed : (params : ℕ) (clause : List Fact) (x : ℕ) (a : ℤ) (t : Lin) → instance_is_allowed params clause x a t ≡ true → (pos 1 ≤ℤ a) × (is_lin t ≡ true) × (occurs x t ≡ false)
allowed params clause x a t h =
    let one = and_parts (is_variable_of params x clause && int_le (pos 1) a && is_lin t) (each_unknown (may_stand_for params x clause) t) h in
    let two = and_parts (is_variable_of params x clause && int_le (pos 1) a) (is_lin t) one.0 in
    let three = and_parts (is_variable_of params x clause) (int_le (pos 1) a) two.0 in
    let four = and_parts (nat_le params x) (occurs_in x clause) three.0 in
    let up = three.1 in
    (omega (arith, ints, up), two.1, absent_others params x clause four.0 t one.1)

-- ---- well-formed clauses
pub is_fact-instance_at : (x : ℕ) (a : ℤ) (t : Lin) (clause : List Fact) → pos 1 ≤ℤ a → is_lin t ≡ true → list_all is_fact clause ≡ true → list_all is_fact (instance_at x a t clause) ≡ true
is_fact-instance_at x a t clause h is all =
    all-append (not_divides_part a t) (map (replace x a t) clause)
    (cond_both (is_same a (pos 1)) [] (NotDivides a t ∷ []) (λ fs. list_all is_fact fs ≡ true) (λ _. refl) (λ n. and_from _ _ (and_from _ _ (le_in (pos 2) a (two_up a h n)) is) refl))
    (each_replaced x a t h is clause all)

pub all_stay : (x : ℕ) (fs : List Fact) → list_all is_fact fs ≡ true → list_all is_fact (stays_in x fs) ≡ true
all_stay x [] all = refl
all_stay x (f ∷ fs) all =
    let both = and_parts (is_fact f) (list_all is_fact fs) all in
    cond_both (not (falls_out x f)) (f ∷ stays_in x fs) (stays_in x fs) (λ gs. list_all is_fact gs ≡ true) (λ _. and_from _ _ both.0 (all_stay x fs both.1)) (λ _. all_stay x fs both.1)

pub is_fact-low_at : (x : ℕ) (j : ℤ) (clause : List Fact) → list_all is_fact clause ≡ true → list_all is_fact (low_at x j clause) ≡ true
is_fact-low_at x j clause all = each_replaced x (pos 1) (number j) (omega (arith, ints)) refl (stays_in x clause) (all_stay x clause all)

-- ---- the rows, one after the other
module _ (params : ℕ) (rows : List Row) (clauses : List (List Fact)) (i : ℕ) (row : Row) (h : i < length rows) (at_ : row ≡ get_or rows i row) where
  at : extended params (drop i rows) clauses ≡ option_then (row_over params clauses row) (λ c. extended params (drop (i + 1) rows) (clauses ++ c ∷ []))
  at = at_drop_more (λ rs. extended params rs clauses) rows i row h ∙ ap (λ r. option_then (row_over params clauses r) (λ c. extended params (drop (i + 1) rows) (clauses ++ c ∷ []))) (sym at_)

  pub extended-missing : row_over params clauses row ≡ None → extended params (drop i rows) clauses ≡ None
  extended-missing none = at ∙ ap (λ o. option_then o (λ c. extended params (drop (i + 1) rows) (clauses ++ c ∷ []))) none

  pub extended-some : (c : List Fact) → row_over params clauses row ≡ Some c → extended params (drop i rows) clauses ≡ extended params (drop (i + 1) rows) (clauses ++ c ∷ [])
  extended-some c some = at ∙ ap (λ o. option_then o (λ d. extended params (drop (i + 1) rows) (clauses ++ d ∷ []))) some

pub is_pool-snoc : (clauses : List (List Fact)) (c : List Fact) → list_all (list_all is_fact) clauses ≡ true → list_all is_fact c ≡ true → list_all (list_all is_fact) (clauses ++ c ∷ []) ≡ true
is_pool-snoc clauses c all is = list_all-append (list_all is_fact) clauses (c ∷ []) ∙ and_from _ _ all (and_from _ _ is refl)
