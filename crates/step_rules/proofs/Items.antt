-- The literal of a number.
use Rattle.std.specs.Prelude.{◌≡◌, ℕ, Some, None, option_map, option_and_then, slice_get}
use Rattle.std.proofs.Common.{◌∙◌, ap}
use Rattle.term_base.specs.declared.clauses.Clause.{Clause}
use Rattle.term_base.specs.declared.clauses.Literal.{Literal}
use Rattle.term_base.specs.declared.places.Side.{Side}
use Rattle.term_base.specs.Lits.{Lit, lit, lits}
use Rattle.term_base.specs.Places.{item}
use Rattle.term_base.specs.TreeLists.{item-lits}
use Rattle.step_rules.specs.Inference.{sides_of, equation_at, sides_where_differing, disequation_at}
use Rattle.step_rules.specs.Simplified.{pin_of_lit, pin_at}

module _ (c : Clause) (i : ℕ) where
  pub item-there : (l : Literal) → slice_get c.literals i ≡ Some l → item i (lits c) ≡ Some (lit l)
  item-there l there = item-lits c.literals i ∙ ap (option_map lit) there

  pub item-none : slice_get c.literals i ≡ None → item i (lits c) ≡ None
  item-none gone = item-lits c.literals i ∙ ap (option_map lit) gone

  pub equation-there : (side : Side) (l : Literal) → slice_get c.literals i ≡ Some l → equation_at (lits c) i side ≡ sides_of side (lit l)
  equation-there side l there = ap (option_and_then (sides_of side)) (item-there l there)

  pub equation-none : (side : Side) → slice_get c.literals i ≡ None → equation_at (lits c) i side ≡ None
  equation-none side gone = ap (option_and_then (sides_of side)) (item-none gone)

  pub disequation-there : (l : Literal) → slice_get c.literals i ≡ Some l → disequation_at (lits c) i ≡ sides_where_differing (lit l).relation (lit l)
  disequation-there l there = ap (option_and_then (λ (m : Lit). sides_where_differing m.relation m)) (item-there l there)

  pub disequation-none : slice_get c.literals i ≡ None → disequation_at (lits c) i ≡ None
  disequation-none gone = ap (option_and_then (λ (m : Lit). sides_where_differing m.relation m)) (item-none gone)

  pub pin-there : (l : Literal) → slice_get c.literals i ≡ Some l → pin_at (lits c) i ≡ pin_of_lit (lit l)
  pin-there l there = ap (option_and_then pin_of_lit) (item-there l there)

  pub pin-none : slice_get c.literals i ≡ None → pin_at (lits c) i ≡ None
  pin-none gone = ap (option_and_then pin_of_lit) (item-none gone)
