-- A literal as a relation between two trees, and a clause as a list of them.
use Rattle.std.specs.Prelude.{◌≡◌, Bool, false, ◌||◌, ◌⊎◌, List, [], ◌∷◌, map}
use Rattle.term_base.specs.declared.variables.Variable.{Variable}
use Rattle.term_base.specs.declared.clauses.Literal.{Literal}
use Rattle.term_base.specs.declared.clauses.Literal.TheVariants.{Equal, Differ, AtMost}
use Rattle.term_base.specs.declared.clauses.Clause.{Clause}
use Rattle.term_base.specs.Trees.{Tree, tree, occurs}
use Rattle.term_base.specs.Substitution.{put_in}

pub data Relation : Type 0 where
  equal : Relation
  differ : Relation
  at_most : Relation

pub record Lit : Type 0 where
  pub relation : Relation
  pub left : Tree
  pub right : Tree

abbrev pub lit : Literal → Lit
lit (Equal s t) = record { relation = equal; left = tree s; right = tree t }
lit (Differ s t) = record { relation = differ; left = tree s; right = tree t }
lit (AtMost s t) = record { relation = at_most; left = tree s; right = tree t }

-- the literals of a clause, in order
abbrev pub lits : Clause → List Lit
lits c = map lit c.literals

-- a literal and a clause with each variable's image in its place
abbrev pub put_lit : (Variable → Tree) → Lit → Lit
put_lit s l = record { relation = l.relation; left = put_in s l.left; right = put_in s l.right }

abbrev pub put_clause : (Variable → Tree) → List Lit → List Lit
put_clause s = map (put_lit s)

-- whether a variable is in a literal, or in a clause
abbrev pub lit_occurs : Variable → Lit → Bool
lit_occurs v l = occurs v l.left || occurs v l.right

abbrev pub clause_occurs : Variable → List Lit → Bool
clause_occurs v [] = false
clause_occurs v (l ∷ ls) = lit_occurs v l || clause_occurs v ls

-- s = t, s != t and s <= t
abbrev pub equation : Tree → Tree → Lit
equation s t = record { relation = equal; left = s; right = t }

abbrev pub disequation : Tree → Tree → Lit
disequation s t = record { relation = differ; left = s; right = t }

abbrev pub inequality : Tree → Tree → Lit
inequality s t = record { relation = at_most; left = s; right = t }

-- the literal is one of the clause
abbrev pub Among : Lit → List Lit → Type 0
Among l [] = ⊥
Among l (m ∷ ms) = (m ≡ l) ⊎ Among l ms

-- a fact of each literal
abbrev pub EachLit : (Lit → Type 0) → List Lit → Type 0
EachLit P [] = Unit {0}
EachLit P (l ∷ ls) = P l × EachLit P ls
