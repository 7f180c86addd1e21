-- The binders in scope whose numbers ascend, from the outermost on: among them a number is found by halving.
use Rattle.std.specs.Prelude.{◌≡◌, ◌≢◌, ℕ, ◌<◌, ◌≤◌, ◌-◌, List, map, length, get_or}
use Rattle.term_base.specs.declared.terms.Term.{Term}

-- the number of the binder at a place
abbrev pub number_at : ℕ → List (ℕ × Term) → ℕ
number_at k terms = get_or (map (λ p. p.0) terms) k 0

-- the numbers of the first n binders ascend strictly
pub record Ascends (n : ℕ) (terms : List (ℕ × Term)) : Type 0 where
  pub within : n ≤ length terms
  pub rising : (i j : ℕ) → i < j → j < n → number_at i terms < number_at j terms

-- of the first n binders, those before this place have numbers up to this one, and the others greater ones
pub record IsUpTo (id n : ℕ) (terms : List (ℕ × Term)) (place : ℕ) : Type 0 where
  pub within : place ≤ n
  pub below : (k : ℕ) → k < place → number_at k terms ≤ id
  pub above : (k : ℕ) → place ≤ k → k < n → id < number_at k terms

-- the place behind the innermost binder with this number; 0 where there is none
pub record IsBehind (id : ℕ) (terms : List (ℕ × Term)) (place : ℕ) : Type 0 where
  pub within : place ≤ length terms
  pub here : 0 < place → number_at (place - 1) terms ≡ id
  pub above : (k : ℕ) → place ≤ k → k < length terms → number_at k terms ≢ id
