-- The clauses that have a view: well sorted background clauses.
use Rattle.std.specs.Prelude.{Bool, ◌&&◌, List}
use Rattle.std.specs.List.{list_all}
use Rattle.term_base.specs.declared.symbols.Symbol.{Symbol}
use Rattle.term_base.specs.declared.clauses.Clause.{Clause}
use Rattle.term_base.specs.Lits.{lits}
use Rattle.term_base.specs.Clauses.{is_well_sorted, is_background}

-- the clause is well sorted and has neither a foreground symbol nor a variable of another sort than Int
abbrev pub is_background_clause : List Symbol → Clause → Bool
is_background_clause signature c = is_well_sorted signature (lits c) && is_background signature (lits c)

-- each of the clauses is one
abbrev pub are_background : List Symbol → List Clause → Bool
are_background signature = list_all (is_background_clause signature)
