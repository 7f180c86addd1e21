-- The clauses of a problem: those of the premises with plus, then those of the conjecture with minus, each with its variables numbered afresh.
use Rattle.std.specs.Prelude.{ℕ, ◌+◌, Bool, true, false, List, [], ◌∷◌, ◌++◌, length, map, IsTrue}
use Rattle.std.specs.List.{list_all}
use Rattle.std.specs.Option.{option_map_or}
use Rattle.term_base.specs.declared.preparation.Prepared.{Prepared}
use Rattle.term_base.specs.Clauses.{is_well_sorted}
use Rattle.term_base.specs.Lits.{lits}
use Rattle.formula_base.specs.declared.formulas.Formula.{Formula}
use Rattle.formula_base.specs.declared.problems.Problem.{Problem}
use Rattle.normal_form.specs.declared.scopes.Scope.{Scope}
use Rattle.normal_form.specs.Cnf.{Made, cnf, combine, appended}
use Rattle.normal_form.specs.Count.{number}
use Rattle.normal_form.specs.Numbering.{numbered}

-- a formula with its sign
pub record Signed : Type 0 where
  pub sign : Bool
  pub formula : Formula

abbrev pub with_sign : Bool → List Formula → List Signed
with_sign sign = map (λ g. record { sign = sign; formula = g })

-- the premises with plus, and the conjecture with minus
abbrev pub signed : Problem → List Signed
signed p = with_sign true p.premises ++ with_sign false (option_map_or (λ g. g ∷ []) p.conjecture [])

abbrev pub nothing_bound : Scope
nothing_bound = record { universal = []; terms = [] }

-- from left to right, with Skolem symbols numbered from one on
abbrev pub made_from : List Signed → ℕ → List Made
made_from [] next = []
made_from (s ∷ more) next = let first = cnf s.formula s.sign nothing_bound next in first ∷ made_from more (next + length first.symbols)

-- the Skolem symbols are numbered behind those of the file
abbrev pub made : Problem → Made
made p = combine appended (made_from (signed p) (length p.symbols))

abbrev pub prepared : Problem → Bool → Prepared
prepared p ordinary =
    let all = made p in
    let symbols = p.symbols ++ all.symbols in
    record { symbols = symbols; clauses = map (numbered symbols ordinary) all.clauses }

abbrev pub count_all : List Signed → ℕ
count_all [] = 0
count_all (s ∷ more) = number s.formula s.sign + count_all more

-- the number of a problem's clauses
abbrev pub count_of : Problem → ℕ
count_of p = count_all (signed p)

-- the most clauses that are taken
abbrev pub max_clauses : ℕ
max_clauses = 100000

-- every clause is well sorted over the symbols
abbrev pub AreWellSorted : Prepared → Type 0
AreWellSorted p = IsTrue (list_all (λ c. is_well_sorted p.symbols (lits c)) p.clauses)
