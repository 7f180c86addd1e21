-- The measures of a formula: how many clauses each of its parts gives, and whether a quantifier is in it, as a tree in the shape of the formula.
use Rattle.std.specs.Prelude.{ℕ, ◌+◌, ◌*◌, Bool, true, false, ◌||◌, List, [], ◌∷◌, map, fold}
use Rattle.std.specs.List.{list_any}
use Rattle.formula_base.specs.declared.formulas.Formula.{Formula}
use Rattle.formula_base.specs.declared.formulas.Formula.TheOpen as f
use Rattle.formula_base.specs.declared.formulas.Formula.TheOpen.{Formula-F}
use Rattle.formula_base.specs.declared.formulas.Formula.TheFolds.{fold-Formula}
use Rattle.normal_form.specs.declared.counting.Counts.{Counts}
use Rattle.normal_form.specs.declared.measuring.Measured.{Measured}
use Rattle.normal_form.specs.declared.measuring.Measured.TheViews.{out-Measured, roll-Measured}
use Rattle.normal_form.specs.Count.{saturated}

-- ---- saturated counts for both signs

abbrev pub always : Counts
always = record { plus = 0; minus = 1 }

abbrev pub atom : Counts
atom = record { plus = 1; minus = 1 }

abbrev pub negated : Counts → Counts
negated a = record { plus = a.minus; minus = a.plus }

abbrev pub both : Counts → Counts → Counts
both a b = record { plus = saturated (a.plus + b.plus); minus = saturated (a.minus * b.minus) }

abbrev pub either : Counts → Counts → Counts
either a b = record { plus = saturated (a.plus * b.plus); minus = saturated (a.minus + b.minus) }

abbrev pub implied : Counts → Counts → Counts
implied a b = either (negated a) b

-- ---- the tree

abbrev pub node : Counts → Bool → List Measured → Measured
node counts quantified parts = roll-Measured (record { counts = counts; quantified = quantified; parts = parts })

abbrev pub counts : Measured → Counts
counts m = (out-Measured m).counts

abbrev pub quantified : Measured → Bool
quantified m = (out-Measured m).quantified

abbrev pub parts : Measured → List Measured
parts m = (out-Measured m).parts

-- a quantifier is in one of the parts
abbrev pub are_quantified : List Measured → Bool
are_quantified ms = list_any quantified ms

abbrev pub negation : Measured → Measured
negation m = node (negated (counts m)) (quantified m) (m ∷ [])

abbrev pub conjunction : List Measured → Measured
conjunction ms = node (fold both always (map counts ms)) (are_quantified ms) ms

abbrev pub disjunction : List Measured → Measured
disjunction ms = node (fold either (negated always) (map counts ms)) (are_quantified ms) ms

abbrev pub implication : Measured → Measured → Measured
implication m n = node (implied (counts m) (counts n)) (quantified m || quantified n) (m ∷ n ∷ [])

abbrev pub equivalence : Measured → Measured → Measured
equivalence m n = node (both (implied (counts m) (counts n)) (implied (counts n) (counts m))) (quantified m || quantified n) (m ∷ n ∷ [])

-- inside binders
abbrev pub quantification : Measured → Measured
quantification m = node (counts m) true (m ∷ [])

abbrev pub measures_step : Formula-F Measured → Measured
measures_step f.True = node always false []
measures_step f.False = node (negated always) false []
measures_step (f.Atom s) = node atom false []
measures_step (f.Same s u) = node atom false []
measures_step (f.Less s u) = node atom false []
measures_step (f.LessEq s u) = node atom false []
measures_step (f.Not m) = negation m
measures_step (f.And ms) = conjunction ms
measures_step (f.Or ms) = disjunction ms
measures_step (f.Implies m n) = implication m n
measures_step (f.Iff m n) = equivalence m n
measures_step (f.All vs m) = quantification m
measures_step (f.Some vs m) = quantification m

abbrev pub measures : Formula → Measured
measures = fold-Formula Measured measures_step
