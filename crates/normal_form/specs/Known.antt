-- The symbol numbers in clauses.
use Rattle.std.specs.Prelude.{Bool, true, ◌&&◌, List, IsTrue}
use Rattle.std.specs.List.{list_all}
use Rattle.term_base.specs.declared.preparation.Prepared.{Prepared}
use Rattle.term_base.specs.declared.symbols.Symbol.{Symbol}
use Rattle.term_base.specs.Trees.{Tree, Trees, var, node, none, more}
use Rattle.term_base.specs.Lits.{Lit, lits}
use Rattle.formula_base.specs.Typing.{is_known}

-- every symbol in a tree is one of the signature's: its number is below the signature's length
abbrev mutual
  pub is_known_tree : List Symbol → Tree → Bool
  is_known_tree symbols (var v) = true
  is_known_tree symbols (node h xs) = is_known symbols h && are_known_trees symbols xs

  pub are_known_trees : List Symbol → Trees → Bool
  are_known_trees symbols none = true
  are_known_trees symbols (more x xs) = is_known_tree symbols x && are_known_trees symbols xs

abbrev pub is_known_lit : List Symbol → Lit → Bool
is_known_lit symbols l = is_known_tree symbols l.left && is_known_tree symbols l.right

-- no clause has a symbol number at or past the number of the symbols
abbrev pub HasKnownSymbols : Prepared → Type 0
HasKnownSymbols p = IsTrue (list_all (λ c. list_all (is_known_lit p.symbols) (lits c)) p.clauses)
