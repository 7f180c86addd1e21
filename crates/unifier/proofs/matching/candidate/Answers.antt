use Rattle.std.proofs.Common.{◌∙◌, ◌++◌, ap, map, []}
use Rattle.term_base.specs.Trees.{tree}
use Rattle.unifier.specs.Naming.{seen}
use Rattle.unifier.specs.Pairing.{beside}
use Rattle.unifier.proofs.ImageLemmas.{images_ascend}
use Rattle.unifier.proofs.VariableLemmas.{gathered_ascends}
use Rattle.unifier.proofs.MatchingLemmas.{candidate_result}
use Rattle.unifier.proofs.matching.candidate.Goals as goal

pub substitution_of-requires : goal.substitution_of-requires
substitution_of-requires c =
    images_ascend c.as_slice.result.now 0 c.as_slice-2.result.now c.as_slice-pairs.result.now
    (gathered_ascends (tree c.args.p.now) [] c.as_slice-2.result.now (c.as_slice-2.ensures.value ∙ c.in_ok-list.ensures))
    (ap (map seen) c.as_slice-pairs.ensures ∙ c.in_ok-beside.ensures)

pub returns : goal.returns
returns c =
    candidate_result c.substitution_of.result (tree c.args.p.now) (tree c.args.t.now) c.as_slice.result.now c.as_slice-pairs.result.now c.as_slice-2.result.now
    (ap (map seen) c.as_slice.ensures ∙ c.in_ok-pair_up.ensures ∙ ap (λ ps. map seen ps ++ beside (tree c.args.p.now) (tree c.args.t.now)) c.new-found.ensures)
    (c.as_slice-2.ensures.value ∙ c.in_ok-list.ensures)
    (ap (map seen) c.as_slice-pairs.ensures ∙ c.in_ok-beside.ensures)
    c.substitution_of.ensures
