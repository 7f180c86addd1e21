use Rattle.std.proofs.Common.{◌∙◌, ap, map}
use Rattle.unifier.specs.Naming.{seen}
use Rattle.unifier.proofs.ImageLemmas.{renamed_ascend, renamed_result}
use Rattle.unifier.proofs.images.renamed_substitution.Goals as goal

pub substitution_of-requires : goal.substitution_of-requires
substitution_of-requires c =
    renamed_ascend c.as_slice.result.now c.as_slice-2.result.now c.args.pairs.now c.as_slice-3.result.now c.requires
    (ap (map seen) c.as_slice-3.ensures ∙ c.in_ok-renamed.ensures)

pub returns : goal.returns
returns c =
    renamed_result c.substitution_of.result c.args.names.now.forced.items c.args.names.now.known.items c.as_slice.result.now c.as_slice-2.result.now
    c.args.pairs.now c.as_slice-3.result.now c.as_slice.ensures.value c.as_slice-2.ensures.value
    (ap (map seen) c.as_slice-3.ensures ∙ c.in_ok-renamed.ensures) c.substitution_of.ensures
