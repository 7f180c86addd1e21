use Rattle.std.proofs.Common.{◌∙◌, ◌++◌, ◌∷◌, [], ap, if◌then◌else◌}
use Rattle.term_base.specs.declared.terms.Term.{Term}
use Rattle.term_base.specs.declared.terms.Term.TheVariants as term
use Rattle.term_base.specs.declared.variables.Variable.{Variable}
use Rattle.term_base.specs.SameTerm.{same_term}
use Rattle.unifier.proofs.ImageLemmas.{next_moving}
use Rattle.unifier.proofs.images.moving.Goals as goal

pub loop-pair-preserved : goal.loop-pair-preserved
loop-pair-preserved c =
    next_moving c.args.pairs.now c.loop-pair.all _ _ c.loop-pair.pair-index c.pair-item.result c.loop-pair-test.true
    (c.in_ok-push_moving.ensures
    ∙ ap (λ (p : Variable × Term). if same_term p.1 (term.Var p.0) then c.loop-pair.all else c.loop-pair.all ++ p ∷ []) c.pair-item.is)
    c.loop-pair.invariant
