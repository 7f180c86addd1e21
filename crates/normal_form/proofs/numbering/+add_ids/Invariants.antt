use Rattle.std.proofs.Common.{◌≡◌, map, drop, fold}
use Rattle.std.specs.List.{flat_map}
use Rattle.normal_form.specs.Numbering.{add_new, ids}
use Rattle.normal_form.proofs.numbering.+add_ids.Given as goal

abbrev pub invariant-loop-arg : goal.invariant-loop-arg
invariant-loop-arg l = fold add_new l.places.keys (flat_map (λ a. a) (map ids (drop l.arg-index l.arg-items))) ≡ fold add_new l.initial.places.keys (ids l.t)
