-- What each answer of a comparison says.
use Rattle.std.specs.Prelude.{◌≡◌, ◌≢◌, if◌then◌else◌, List}
use Rattle.term_base.specs.declared.symbols.Symbol.{Symbol}
use Rattle.term_base.specs.Trees.{Tree}
use Rattle.term_order.specs.Above as order
use Rattle.term_order.specs.Standing.{is_above, by_standing, standing}
use Rattle.term_order.specs.declared.orders.Order.{Order}
use Rattle.term_order.specs.declared.orders.Order.TheVariants.{Above, Below, Equal, Open}

-- s is above t, below t, equal to t, or none of these
abbrev pub Compares : List Symbol → Tree → Tree → Order → Type 0
Compares signature s t Above = order.Above signature s t
Compares signature s t Below = order.Above signature t s
Compares signature s t Equal = s ≡ t
Compares signature s t Open = (order.Above signature s t → ⊥) × (order.Above signature t s → ⊥) × (s ≢ t)

-- the answer, by how each stands to the other
abbrev pub compare : List Symbol → Tree → Tree → Order
compare signature s t = by_standing (standing signature s t) Above Equal (if is_above (standing signature t s) then Below else Open)
