use Rattle.std.proofs.Common.{◌≡◌, map, take, drop, fold}
use Rattle.std.specs.List.{flat_map}
use Rattle.normal_form.specs.Numbering.{add_new, by_first_place, literal_ids, map_sides, renumber}
use Rattle.normal_form.proofs.numbering.numbered.Given as goal

abbrev pub invariant-loop-literal : goal.invariant-loop-literal
invariant-loop-literal l = fold add_new l.places.keys (flat_map literal_ids (drop l.literal-index l.literals)) ≡ by_first_place (flat_map literal_ids l.literals)

abbrev pub invariant-loop-literal-2 : goal.invariant-loop-literal-2
invariant-loop-literal-2 l = l.renumbered ≡ map (map_sides (renumber l.is_ordinary l.places.keys)) (take l.literal-index l.literals)
