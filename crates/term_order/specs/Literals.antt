-- The order of literals, by their multisets of terms, and maximal literals.
use Rattle.std.specs.Prelude.{◌≡◌, ◌≢◌, ℕ, suc, ◌<◌, List, [], ◌∷◌, Some, if◌then◌else◌}
use Rattle.term_base.specs.declared.symbols.Symbol.{Symbol}
use Rattle.term_base.specs.Trees.{Tree, same_tree}
use Rattle.term_base.specs.Lits.{Relation, equal, differ, at_most, Lit}
use Rattle.term_base.specs.Places.{item}
use Rattle.term_order.specs.Above.{Above}

-- of s = t it is {s, t}, of s != t and of s <= t it is {s, s, t, t}
abbrev pub multiset_of : Relation → Tree → Tree → List Tree
multiset_of equal s t = s ∷ (t ∷ [])
multiset_of differ s t = s ∷ (s ∷ (t ∷ (t ∷ [])))
multiset_of at_most s t = s ∷ (s ∷ (t ∷ (t ∷ [])))

-- the multiset of a literal
abbrev pub multiset : Lit → List Tree
multiset l = multiset_of l.relation l.left l.right

-- how often a multiset has a term
abbrev pub count : Tree → List Tree → ℕ
count t [] = 0
count t (x ∷ xs) = if same_tree x t then suc (count t xs) else count t xs

-- m has the term more often than l
abbrev pub More : List Tree → List Tree → Tree → Type 0
More m l t = count t l < count t m

-- the multisets differ, and each term that l has more often lies below some term that m has more often
pub record MultisetAbove (signature : List Symbol) (m l : List Tree) : Type 0 where
  pub differ : (t : Tree) × (count t m ≢ count t l)
  pub below : (t : Tree) → More l m t → (u : Tree) × (More m l u × Above signature u t)

-- a literal is above another where its multiset is
abbrev pub LiteralAbove : List Symbol → Lit → Lit → Type 0
LiteralAbove signature m l = MultisetAbove signature (multiset m) (multiset l)

-- no other literal of the clause is above the literal of this number
abbrev pub IsMaximal : List Symbol → List Lit → ℕ → Type 0
IsMaximal signature c i =
    (l m : Lit) (j : ℕ) → item i c ≡ Some l → item j c ≡ Some m → j ≢ i → LiteralAbove signature m l → ⊥
