use Rattle.std.proofs.Common.{◌≡◌, map, drop}
use Rattle.std.specs.List.{flat_map}
use Rattle.tff_reader.specs.Stops.{first_of}
use Rattle.tff_reader.specs.NumberTerms.{product_faults}
use Rattle.tff_reader.proofs.products.+check_formula.Given as goal

abbrev pub invariant-loop-member : goal.invariant-loop-member
invariant-loop-member l = product_faults l.formula ≡ flat_map (λ g. g) (map product_faults (drop l.member-index l.member-items))
