-- The test of a substitution, and what a search among its pairs finds.
use Rattle.std.proofs.Common.{◌≡◌, ◌≢◌, ◌<◌, inl, inr, ℕ, zero, suc, true, false, ◌&&◌, not, List, [], ◌∷◌, length, refl, ap, sym, ◌∙◌, subst, arith}
use Rattle.std.specs.Prelude.{Option, Some, None, Result, Ok, Err, All, AllPairs}
use Rattle.std.specs.List.{slice_index_or, AllWithin}
use Rattle.std.specs.List.Sorted.{IsNonDecreasingBy, IsSearchInRange, IsBinarySearchResult}
use Rattle.std.proofs.lemmas.Bool.{cases_lt, not-true}
use Rattle.std.specs.Ordering.{is_lt, ordering_index}
use Rattle.std.specs.declared.cmp.Ordering.{Ordering}
use Rattle.std.specs.declared.cmp.Ordering.TheVariants.{Less, Equal, Greater}
use Rattle.std.proofs.lemmas.List.Elements.{All-cons, All-nil}
use Rattle.std.proofs.Math.Nat.{eq-or-lt_of_le}
use Rattle.std.proofs.lemmas.List.Kept.{AllPairs-cons}
use Rattle.term_base.specs.declared.terms.Term.{Term}
use Rattle.term_base.specs.declared.terms.Term.TheVariants as term
use Rattle.term_base.specs.declared.variables.Variable.{Variable}
use Rattle.term_base.specs.Same.{same_variable}
use Rattle.term_base.specs.SameLemmas.{same_variable-true, same_variable-refl}
use Rattle.term_base.specs.SameTerm.{same_term, same_term-true, same_term-refl}
use Rattle.term_base.specs.Trees.{tree, var}
use Rattle.term_base.specs.TreeBack.{tree_injective}
use Rattle.term_base.specs.TreeOf.{tree-Var}
use Rattle.term_base.specs.TreeLemmas.{true_or_false, both_ways, and-true}
use Rattle.term_base.specs.Substitution.{image, IsSubstitution}
use Rattle.term_base.specs.SubstTest.{follows, ascends_after}
use Rattle.term_base.specs.VariableOrder.{variable_cmp}
use Rattle.term_base.specs.VariableOrderLemmas.{variable_cmp_total, variable_cmp-equal, variable_cmp-refl, variable_cmp-irrefl, variable_cmp-rises}

abbrev Pairs : Type 0
Pairs = List (Variable × Term)

abbrev Below : Variable × Term → Variable × Term → Type 0
Below p q = variable_cmp p.0 q.0 ≡ Less

abbrev Moves : Variable × Term → Type 0
Moves p = p.1 ≢ term.Var p.0

lt-less : (o : Ordering) → is_lt o ≡ true → o ≡ Less
lt-less Less h = refl
lt-less Equal h = cc
lt-less Greater h = cc

moves_test : (p : Variable × Term) → not (same_term p.1 (term.Var p.0)) ≡ true → Moves p
moves_test p h e = both_ways (same_term p.1 (term.Var p.0)) (ap (λ t. same_term t (term.Var p.0)) e ∙ same_term-refl (term.Var p.0)) (not-true (same_term p.1 (term.Var p.0)) h)

test_moves : (p : Variable × Term) → Moves p → not (same_term p.1 (term.Var p.0)) ≡ true
test_moves p h = elim (true_or_false (same_term p.1 (term.Var p.0))) [
  | inl e ↦ absurd (h (same_term-true p.1 (term.Var p.0) e))
  | inr e ↦ (rw e refl)
]

-- all variables are above the last one
above_last : (u : Variable) (ps : Pairs) → ascends_after (Some u) ps ≡ true → All (λ p. variable_cmp u p.0 ≡ Less) ps
above_last u [] h = All-nil (λ p. variable_cmp u p.0 ≡ Less)
above_last u (p ∷ rest) h =
    let first = and-true (is_lt (variable_cmp u p.0)) (not (same_term p.1 (term.Var p.0)) && ascends_after (Some p.0) rest) h in
    let later = and-true (not (same_term p.1 (term.Var p.0))) (ascends_after (Some p.0) rest) first.1 in
    let here : variable_cmp u p.0 ≡ Less = lt-less (variable_cmp u p.0) first.0 in
    let there = above_last p.0 rest later.1 in
    All-cons (λ q. variable_cmp u q.0 ≡ Less) p rest here
    (λ k d in_range. variable_cmp_total.trans u p.0 (slice_index_or rest k d).0 here (there k d in_range))

ascending_test : (last : Option Variable) (ps : Pairs) → ascends_after last ps ≡ true → AllPairs Below ps
ascending_test last [] h = λ i j d lt in_range. absurd (omega arith)
ascending_test last (p ∷ rest) h =
    let first = and-true (follows last p.0) (not (same_term p.1 (term.Var p.0)) && ascends_after (Some p.0) rest) h in
    let later = and-true (not (same_term p.1 (term.Var p.0))) (ascends_after (Some p.0) rest) first.1 in
    AllPairs-cons Below p rest (above_last p.0 rest later.1) (ascending_test (Some p.0) rest later.1)

moving_test : (last : Option Variable) (ps : Pairs) → ascends_after last ps ≡ true → All Moves ps
moving_test last [] h = All-nil Moves
moving_test last (p ∷ rest) h =
    let first = and-true (follows last p.0) (not (same_term p.1 (term.Var p.0)) && ascends_after (Some p.0) rest) h in
    let later = and-true (not (same_term p.1 (term.Var p.0))) (ascends_after (Some p.0) rest) first.1 in
    All-cons Moves p rest (moves_test p later.0) (moving_test (Some p.0) rest later.1)

pub test_is_right : (ps : Pairs) → ascends_after None ps ≡ true → IsSubstitution ps
test_is_right ps h = record { ascending = ascending_test None ps h; moves = moving_test None ps h }

pairs_tail : (p : Variable × Term) (rest : Pairs) → AllPairs Below (p ∷ rest) → AllPairs Below rest
pairs_tail p rest h i j d lt in_range = h (suc i) (suc j) d (omega arith) (omega arith)

moves_tail : (p : Variable × Term) (rest : Pairs) → All Moves (p ∷ rest) → All Moves rest
moves_tail p rest h k d in_range = h (suc k) d (omega arith)

-- the first pair follows each earlier variable that all pairs follow
test_passes : (last : Option Variable) (ps : Pairs) → AllPairs Below ps → All Moves ps → All (λ p. follows last p.0 ≡ true) ps → ascends_after last ps ≡ true
test_passes last [] up moves first = refl
test_passes last (p ∷ rest) up moves first =
    let rest_follows : All (λ q. follows (Some p.0) q.0 ≡ true) rest = λ k d in_range. ap is_lt (up 0 (suc k) d (omega arith) (omega arith)) in
    let later = test_passes (Some p.0) rest (pairs_tail p rest up) (moves_tail p rest moves) rest_follows in
    let here : follows last p.0 ≡ true = first 0 p (omega arith) in
    let moved = test_moves p (moves 0 p (omega arith)) in
    rw (here, moved, later) refl

pub right_passes_test : (ps : Pairs) → IsSubstitution ps → ascends_after None ps ≡ true
right_passes_test ps s = test_passes None ps s.ascending s.moves (λ k d in_range. refl)

-- the comparisons with a variable rise along the pairs, as a binary search asks
pub comparisons_rise : (ps : Pairs) (v : Variable) → AllPairs Below ps → IsNonDecreasingBy (λ p. ordering_index (variable_cmp p.0 v)) ps
comparisons_rise ps v up i j d le in_range = elim (eq-or-lt_of_le le) [
  | inl e ↦ (rw e (omega arith))
  | inr lt ↦ variable_cmp-rises (slice_index_or ps i d).0 (slice_index_or ps j d).0 v (up i j d lt in_range)
]

different : (p v : Variable) → variable_cmp p v ≢ Equal → same_variable p v ≡ false
different p v h = elim (true_or_false (same_variable p v)) [
  | inl e ↦ absurd (h (ap (λ z. variable_cmp z v) (same_variable-true p v e) ∙ variable_cmp-refl v))
  | inr e ↦ e
]

-- the image of a variable that has a pair
pub image-found : (ps : Pairs) (v : Variable) → AllPairs Below ps → (k : ℕ) (d : Variable × Term) → k < length ps → variable_cmp (slice_index_or ps k d).0 v ≡ Equal → image ps v ≡ tree (slice_index_or ps k d).1
image-found [] v up k d in_range e = absurd (omega arith)
image-found (p ∷ rest) v up zero d in_range e =
    let same : same_variable p.0 v ≡ true = ap (same_variable p.0) (sym (variable_cmp-equal p.0 v e)) ∙ same_variable-refl p.0 in rw same refl
image-found (p ∷ rest) v up (suc k) d in_range e =
    let below = up 0 (suc k) d (omega arith) in_range in
    let other : same_variable p.0 v ≡ false = different p.0 v (λ same. variable_cmp-irrefl p.0 (slice_index_or rest k d).0 below (variable_cmp-equal p.0 v same ∙ sym (variable_cmp-equal (slice_index_or rest k d).0 v e))) in
    rw other (image-found rest v (pairs_tail p rest up) k d (omega arith) e)

-- no term beside a variable is this variable
found-moves : (ps : Pairs) (v : Variable) → All Moves ps → (k : ℕ) (d : Variable × Term) → k < length ps → variable_cmp (slice_index_or ps k d).0 v ≡ Equal → tree (slice_index_or ps k d).1 ≢ var v
found-moves ps v moves k d in_range e itself =
    let p = slice_index_or ps k d in
    let is : p.1 ≡ term.Var v = tree_injective p.1 (term.Var v) (itself ∙ sym (tree-Var v)) in
    moves k d in_range (is ∙ ap term.Var (sym (variable_cmp-equal p.0 v e)))

-- and of one that has none
pub image-absent : (ps : Pairs) (v : Variable) → All (λ p. variable_cmp p.0 v ≢ Equal) ps → image ps v ≡ var v
image-absent [] v h = refl
image-absent (p ∷ rest) v h =
    let other : same_variable p.0 v ≡ false = different p.0 v (h 0 p (omega arith)) in
    rw other (image-absent rest v (λ k d in_range. h (suc k) d (omega arith)))

-- what a search finds that compares by a function that gives the order of variables
module _ (cmp : Variable → Variable → Ordering) (agrees : (u w : Variable) → cmp u w ≡ variable_cmp u w) (ps : Pairs) (v : Variable) (s : IsSubstitution ps) where
  abbrev Compared : Variable × Term → Ordering
  Compared p = cmp p.0 v

  pub found_there : (r : Result ℕ ℕ) (at : ℕ) → r ≡ Ok at → IsSearchInRange r (length ps) → IsBinarySearchResult Compared ps r → (d : Variable × Term) → (image ps v ≡ tree (slice_index_or ps at d).1) × (image ps v ≢ var v)
  found_there (Ok k) at e in_range is d =
      let same : k ≡ at = cc in
      let equal : variable_cmp (slice_index_or ps k d).0 v ≡ Equal = sym (agrees (slice_index_or ps k d).0 v) ∙ is d in
      let found = image-found ps v s.ascending k d in_range equal in (
        subst (λ n. image ps v ≡ tree (slice_index_or ps n d).1) same found,
        (λ itself. found-moves ps v s.moves k d in_range equal (sym found ∙ itself)),
      )
  found_there (Err k) at e in_range is d = cc

  compared_apart : (k i : ℕ) → (AllWithin (λ p. Compared p ≡ Less) ps 0 i × AllWithin (λ p. Compared p ≡ Greater) ps i (length ps)) → (d : Variable × Term) → k < length ps → variable_cmp (slice_index_or ps k d).0 v ≢ Equal
  compared_apart k i parts d in_range same = elim (cases_lt k i) [
    | inl before ↦ (let less = parts.0 k d (omega arith) before in let agreed = agrees (slice_index_or ps k d).0 v in cc)
    | inr after ↦ (let greater = parts.1 k d after in_range in let agreed = agrees (slice_index_or ps k d).0 v in cc)
  ]

  rising : IsNonDecreasingBy (λ p. ordering_index (Compared p)) ps
  rising i j d le in_range =
      rw (agrees (slice_index_or ps i d).0 v, agrees (slice_index_or ps j d).0 v) (comparisons_rise ps v s.ascending i j d le in_range)

  pub found_nowhere : (r : Result ℕ ℕ) (at : ℕ) → r ≡ Err at → IsBinarySearchResult Compared ps r → image ps v ≡ var v
  found_nowhere (Ok k) at e is = cc
  found_nowhere (Err k) at e is = image-absent ps v (λ j d in_range. compared_apart j k (is rising) d in_range)
