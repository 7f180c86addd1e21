use Rattle.std.proofs.Common.{◌≡◌, replicate, ap, ◌∙◌, arith}
use Rattle.std.specs.Prelude.{if◌then◌else◌}
use Rattle.term_base.specs.declared.symbols.Sort.TheVariants.{Individual, Truth}
use Rattle.tff_signature.proofs.SymbolsEqual.{symbol_equal}
use Rattle.tff_signature.proofs.symbols.used_symbol.Goals as goal
use Rattle.tff_signature.proofs.symbols.used_symbol.Goals.{then-whole, else-whole}

pub returns : goal.returns
returns c =
    let all : c.loop.counter ≡ c.args.arity = omega arith in
    let sort : c.if-whole.sort ≡ (if c.args.whole then Truth else Individual) =
    elim c.if-whole.branch [ then-whole w ↦ rw w.if-whole.true w.sort-is | else-whole w ↦ rw w.if-whole.false w.sort-is ] in
    symbol_equal c.new.result c.args.name.now (replicate c.args.arity Individual) (if c.args.whole then Truth else Individual)
    (c.new.ensures.name ∙ c.in_ok-from_bytes.ensures)
    (c.new.ensures.args ∙ c.in_ok-sorts.ensures ∙ c.as_slice.ensures ∙ c.loop.invariant ∙ ap (λ n. replicate n Individual) all)
    (c.new.ensures.sort ∙ sort)
