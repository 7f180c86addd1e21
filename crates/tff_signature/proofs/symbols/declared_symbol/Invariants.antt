use Rattle.std.proofs.Common.{◌≡◌, map, take}
use Rattle.tff_signature.specs.Symbols.{sort_of}
use Rattle.tff_signature.proofs.symbols.declared_symbol.Given as goal

abbrev pub invariant-loop-arg : goal.invariant-loop-arg
invariant-loop-arg l = l.sorts.items ≡ map (sort_of l.source.text.now l.source.declared.now.sorts) (take l.arg-index l.args)
