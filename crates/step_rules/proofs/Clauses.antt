-- Literals of clauses by number, and what substitutions make of them.
use Rattle.std.specs.Prelude.{◌≡◌, ◌<◌, ◌≤◌, ◌+◌, ℕ, zero, suc, Bool, true, false, ◌&&◌, List, [], ◌∷◌, ◌++◌, map, take, drop, length}
use Rattle.std.proofs.Common.{refl, ◌∙◌, ap, arith, add-one, append_assoc}
use Rattle.std.proofs.lemmas.Grind.{common_steps}
use Rattle.term_base.specs.declared.clauses.Literal.{Literal}
use Rattle.term_base.specs.declared.variables.Variable.{Variable}
use Rattle.term_base.specs.Trees.{Tree}
use Rattle.term_base.specs.Lits.{Lit, lit, put_lit, put_clause}
use Rattle.term_base.specs.Places.{left_out, changed}
use Rattle.term_base.specs.TreeLists.{item-lits}
use Rattle.step_rules.specs.Literals.{same_lit, same_lits}

module _ (s : Variable → Tree) where
  abbrev put : List Literal → List Lit
  put ls = map (put_lit s) (map lit ls)

  rest_by : (ls : List Literal) (n : ℕ) → n < length ls → put (take n ls) ++ put (drop (suc n) ls) ≡ put_clause s (left_out n (map lit ls))
  rest_by [] n h = absurd (omega arith)
  rest_by (l ∷ ls) zero h = refl
  rest_by (l ∷ ls) (suc n) h = ap (λ ms. put_lit s (lit l) ∷ ms) (rest_by ls n (omega arith))

  changed_by : (ls : List Literal) (n : ℕ) (new : Lit) → n < length ls → put (take n ls) ++ (new ∷ put (drop (suc n) ls)) ≡ changed n new (put_clause s (map lit ls))
  changed_by [] n new h = absurd (omega arith)
  changed_by (l ∷ ls) zero new h = refl
  changed_by (l ∷ ls) (suc n) new h = ap (λ ms. put_lit s (lit l) ∷ ms) (changed_by ls n new (omega arith))

  -- the literals before and after one of them
  pub rest-there : (ls : List Literal) (n : ℕ) → n < length ls → put (take n ls) ++ put (drop (n + 1) ls) ≡ put_clause s (left_out n (map lit ls))
  rest-there ls n h = ap (λ k. put (take n ls) ++ put (drop k ls)) (add-one n) ∙ rest_by ls n h

  pub rest-past : (ls : List Literal) (n : ℕ) → length ls ≤ n → put ls ≡ put_clause s (left_out n (map lit ls))
  rest-past [] n h = refl
  rest-past (l ∷ ls) zero h = absurd (omega arith)
  rest-past (l ∷ ls) (suc n) h = ap (λ ms. put_lit s (lit l) ∷ ms) (rest-past ls n (omega arith))

  -- another literal between them
  pub changed-there : (ls : List Literal) (n : ℕ) (new : Lit) → n < length ls → put (take n ls) ++ (new ∷ put (drop (n + 1) ls)) ≡ changed n new (put_clause s (map lit ls))
  changed-there ls n new h = ap (λ k. put (take n ls) ++ (new ∷ put (drop k ls))) (add-one n) ∙ changed_by ls n new h

  pub changed-joined : (ls : List Literal) (n : ℕ) (new : Lit) → n < length ls → (put (take n ls) ++ new ∷ []) ++ put (drop (n + 1) ls) ≡ changed n new (put_clause s (map lit ls))
  changed-joined ls n new h = append_assoc (put (take n ls)) (new ∷ []) (put (drop (n + 1) ls)) ∙ changed-there ls n new h

  pub changed-past : (ls : List Literal) (n : ℕ) (new : Lit) → length ls ≤ n → put ls ≡ changed n new (put_clause s (map lit ls))
  changed-past [] n new h = refl
  changed-past (l ∷ ls) zero new h = absurd (omega arith)
  changed-past (l ∷ ls) (suc n) new h = ap (λ ms. put_lit s (lit l) ∷ ms) (changed-past ls n new (omega arith))

-- lists of different lengths aren't one
pub same_lits-shorter : (ls ms : List Lit) → length ls < length ms → same_lits ls ms ≡ false
same_lits-shorter [] [] h = absurd (omega arith)
same_lits-shorter [] (m ∷ ms) h = refl
same_lits-shorter (l ∷ ls) [] h = refl
same_lits-shorter (l ∷ ls) (m ∷ ms) h = and_false (same_lit l m) (same_lits ls ms) (same_lits-shorter ls ms (omega arith))
  where
    and_false : (p q : Bool) → q ≡ false → (p && q) ≡ false
    and_false true q e = e
    and_false false q e = refl

pub ruleset clauses = (common_steps, rest-there, rest-past, changed-there, changed-joined, changed-past, item-lits)
