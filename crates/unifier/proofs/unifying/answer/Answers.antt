use Rattle.std.proofs.Common.{◌∙◌, sym, ap, map}
use Rattle.unifier.specs.Naming.{seen, images_of, are_plain, forced_of, known_of}
use Rattle.unifier.proofs.ImageLemmas.{images_ascend, answer_named, both_names}
use Rattle.unifier.proofs.unifying.answer.Goals as goal

pub renamed_substitution-requires : goal.renamed_substitution-requires
renamed_substitution-requires c =
    images_ascend c.args.found.now 0 c.args.firsts.now c.as_slice-left.result.now c.requires.first (ap (map seen) c.as_slice-left.ensures ∙ c.in_ok-first_images.ensures)

pub renamed_substitution-requires-2 : goal.renamed_substitution-requires-2
renamed_substitution-requires-2 c =
    images_ascend c.args.found.now c.args.base c.args.seconds.now c.as_slice-right.result.now c.requires.second (ap (map seen) c.as_slice-right.ensures ∙ c.in_ok-second_images.ensures)

pub returns-clause-plain : goal.returns-clause-plain
returns-clause-plain c =
    let left = ap (map seen) c.as_slice-left.ensures ∙ c.in_ok-first_images.ensures in
    let right = ap (map seen) c.as_slice-right.ensures ∙ c.in_ok-second_images.ensures in
    sym (ap (λ x. are_plain c.args.signature.now x (map seen c.as_slice-right.result.now)) left
    ∙ ap (are_plain c.args.signature.now (images_of c.args.found.now 0 c.args.firsts.now)) right)
    ∙ sym c.are_plain.ensures ∙ c.if-not-are_plain.false

pub returns-then-not-are_plain-clause-foreground : goal.returns-then-not-are_plain-clause-foreground
returns-then-not-are_plain-clause-foreground c =
    let left = ap (map seen) c.as_slice-left.ensures ∙ c.in_ok-first_images.ensures in
    let right = ap (map seen) c.as_slice-right.ensures ∙ c.in_ok-second_images.ensures in
    sym (ap (λ x. are_plain c.args.signature.now x (map seen c.as_slice-right.result.now)) left
    ∙ ap (are_plain c.args.signature.now (images_of c.args.found.now 0 c.args.firsts.now)) right)
    ∙ sym c.are_plain.ensures ∙ c.if-not-are_plain.true

pub returns-clause-named_first : goal.returns-clause-named_first
returns-clause-named_first c =
    let left = ap (map seen) c.as_slice-left.ensures ∙ c.in_ok-first_images.ensures in
    let right = ap (map seen) c.as_slice-right.ensures ∙ c.in_ok-second_images.ensures in
    let l = images_of c.args.found.now 0 c.args.firsts.now in
    let r = images_of c.args.found.now c.args.base c.args.seconds.now in
    answer_named c.in_ok-names.names.forced.items c.in_ok-names.names.known.items (forced_of l r) (known_of l r) c.args.found.now 0 c.args.firsts.now c.as_slice-left.result.now c.in_ok-s.s left
    (both_names forced_of c.in_ok-names.names.forced.items (map seen c.as_slice-left.result.now) (map seen c.as_slice-right.result.now) l r c.in_ok-names.ensures.forced left right)
    (both_names known_of c.in_ok-names.names.known.items (map seen c.as_slice-left.result.now) (map seen c.as_slice-right.result.now) l r c.in_ok-names.ensures.known left right)
    c.in_ok-s.ensures

pub returns-clause-named_second : goal.returns-clause-named_second
returns-clause-named_second c =
    let left = ap (map seen) c.as_slice-left.ensures ∙ c.in_ok-first_images.ensures in
    let right = ap (map seen) c.as_slice-right.ensures ∙ c.in_ok-second_images.ensures in
    let l = images_of c.args.found.now 0 c.args.firsts.now in
    let r = images_of c.args.found.now c.args.base c.args.seconds.now in
    answer_named c.in_ok-names.names.forced.items c.in_ok-names.names.known.items (forced_of l r) (known_of l r) c.args.found.now c.args.base c.args.seconds.now c.as_slice-right.result.now c.in_ok-t.t right
    (both_names forced_of c.in_ok-names.names.forced.items (map seen c.as_slice-left.result.now) (map seen c.as_slice-right.result.now) l r c.in_ok-names.ensures.forced left right)
    (both_names known_of c.in_ok-names.names.known.items (map seen c.as_slice-left.result.now) (map seen c.as_slice-right.result.now) l r c.in_ok-names.ensures.known left right)
    c.in_ok-t.ensures
