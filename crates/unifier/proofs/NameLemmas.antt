-- Variables of a kind, a sort and a number.
use Rattle.std.proofs.Common.{◌≡◌, ℕ}
use Rattle.term_base.specs.declared.symbols.Sort.TheVariants.{Int}
use Rattle.term_base.specs.declared.variables.Kind.TheVariants.{Abstraction}
use Rattle.term_base.specs.declared.variables.Variable.{Variable}
use Rattle.term_base.specs.SameLemmas.{variables_equal}
use Rattle.unifier.specs.Naming.{with_id, abstraction}

pub with_id_is : (w v : Variable) (n : ℕ) → w.kind ≡ v.kind → w.sort ≡ v.sort → w.id ≡ n → w ≡ with_id n v
with_id_is w v n kinds sorts numbers = variables_equal w (with_id n v) kinds sorts numbers

pub abstraction_is : (w : Variable) (n : ℕ) → w.kind ≡ Abstraction → w.sort ≡ Int → w.id ≡ n → w ≡ abstraction n
abstraction_is w n kinds sorts numbers = variables_equal w (abstraction n) kinds sorts numbers

pub ruleset naming = (with_id_is, abstraction_is)
