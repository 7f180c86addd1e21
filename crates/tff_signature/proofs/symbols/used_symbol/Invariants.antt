use Rattle.std.proofs.Common.{◌≡◌, replicate}
use Rattle.term_base.specs.declared.symbols.Sort.TheVariants.{Individual}
use Rattle.tff_signature.proofs.symbols.used_symbol.Given as goal

abbrev pub invariant-loop : goal.invariant-loop
invariant-loop l = l.sorts.items ≡ replicate l.counter Individual
