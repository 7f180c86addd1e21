-- The derived order of variables is the stated one.
use Rattle.std.proofs.Common.{◌≡◌, rules}
use Rattle.std.specs.declared.cmp.Ordering.{Ordering}
use Rattle.term_base.specs.declared.variables.Variable.{Variable}
use Rattle.term_base.specs.contracts.variables.VariableOrd.TheImpl.{ghosts}
use Rattle.term_base.specs.VariableOrder.{variable_cmp}

abbrev pub derived_cmp : Variable → Variable → Ordering
derived_cmp u w = ghosts.cmp u w

pub derived_cmp-is : (u w : Variable) → derived_cmp u w ≡ variable_cmp u w
derived_cmp-is u w = search rules
