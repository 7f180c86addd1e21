use Rattle.std.proofs.Common.{◌≡◌, map, take}
use Rattle.std.specs.List.{flat_map}
use Rattle.tff_reader.specs.Stops.{first_of}
use Rattle.tff_reader.specs.NumberTerms.{products}
use Rattle.tff_reader.proofs.products.+products_of.Given as goal

abbrev pub invariant-loop-arg : goal.invariant-loop-arg
invariant-loop-arg l = record {
  numbers : l.numbers ≡ map (λ p. p.number) (map products (take l.arg-index l.arg-items));
  inside : l.inside ≡ first_of (flat_map (λ p. p.faults) (map products (take l.arg-index l.arg-items)));
}
