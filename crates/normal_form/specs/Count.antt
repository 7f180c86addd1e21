-- How many clauses a formula gives, without making them.
use Rattle.std.specs.Prelude.{ℕ, ◌*◌, ◌-◌, ◌^◌, min, Bool, not, List, [], ◌∷◌, sum, map, fold, if◌then◌else◌}
use Rattle.formula_base.specs.declared.formulas.Formula.{Formula}
use Rattle.formula_base.specs.declared.formulas.Formula.TheOpen as f
use Rattle.formula_base.specs.declared.formulas.Formula.TheOpen.{Formula-F}
use Rattle.formula_base.specs.declared.formulas.Formula.TheFolds.{fold-Formula}

abbrev pub product : List ℕ → ℕ
product = fold (λ a b. a * b) 1

-- for each sign
abbrev pub Number : Type 0
Number = Bool → ℕ

-- members one after the other, or joined pairwise
abbrev pub conjunction : List Number → Number
conjunction ms sign = let numbers = map (λ m. m sign) ms in if sign then sum numbers else product numbers

abbrev pub disjunction : List Number → Number
disjunction ms sign = let numbers = map (λ m. m sign) ms in if sign then product numbers else sum numbers

abbrev pub negated : Number → Number
negated m sign = m (not sign)

abbrev pub implication : Number → Number → Number
implication m n = disjunction (negated m ∷ n ∷ [])

abbrev pub equivalence : Number → Number → Number
equivalence m n = conjunction (implication m n ∷ implication n m ∷ [])

abbrev pub always : Number
always sign = if sign then 0 else 1

abbrev pub number_step : Formula-F Number → Number
number_step f.True sign = always sign
number_step f.False sign = always (not sign)
number_step (f.Atom s) sign = 1
number_step (f.Same s u) sign = 1
number_step (f.Less s u) sign = 1
number_step (f.LessEq s u) sign = 1
number_step (f.Not m) sign = negated m sign
number_step (f.And ms) sign = conjunction ms sign
number_step (f.Or ms) sign = disjunction ms sign
number_step (f.Implies m n) sign = implication m n sign
number_step (f.Iff m n) sign = equivalence m n sign
number_step (f.All vs m) sign = m sign
number_step (f.Some vs m) sign = m sign

abbrev pub number : Formula → Number
number = fold-Formula Number number_step

-- the greatest count that is told
abbrev pub max_count : ℕ
max_count = 2 ^ 64 - 1

abbrev pub saturated : ℕ → ℕ
saturated n = min n max_count
