use Rattle.std.proofs.Common.{◌≡◌, ◌∙◌, ◌++◌, ap, arith, take, map, [], ◌∷◌}
use Rattle.std.proofs.lemmas.Grind.{common_steps}
use Rattle.term_base.specs.Substitution.{image}
use Rattle.term_base.specs.Trees.{tree}
use Rattle.unifier.specs.Search.{seen_bound}
use Rattle.unifier.proofs.SearchLemmas.{bound_images}
use Rattle.unifier.proofs.solving.bind_pairs.Goals as goal

pub returns : goal.returns
returns c w =
    let whole : take c.loop-pair.pair-index c.args.pairs.now ≡ c.args.pairs.now = grind (arith, common_steps) in
    let copied : c.in_ok-copy.field-0 ≡ c.args.new.now = c.in_ok-copy.ensures in
    ap (λ ps. image ps w) c.in_ok-push-2.ensures.ok
    ∙ ap (λ t. image (c.loop-pair.bound ++ (c.args.v, t) ∷ []) w) copied
    ∙ bound_images c.args.v c.args.new.now c.args.pairs.now c.loop-pair.bound (c.loop-pair.invariant ∙ ap (map (seen_bound c.args.v (tree c.args.new.now))) whole) w
