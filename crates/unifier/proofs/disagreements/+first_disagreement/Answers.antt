use Rattle.std.proofs.Common.{◌≡◌, ◌∙◌, sym, arith, subst, IfOk}
use Rattle.std.proofs.lemmas.Grind.{common_steps}
use Rattle.term_base.specs.Trees.{tree}
use Rattle.unifier.specs.Disagreements.{Disagreement, disagreement}
use Rattle.unifier.specs.Found.{found_disagreement}
use Rattle.unifier.proofs.DisagreementLemmas.{disagreement-scaled, disagreement_ended}
use Rattle.unifier.proofs.disagreements.+first_disagreement.Goals as goal

pub first_disagreement-returns-then-same_number : goal.first_disagreement-returns-then-same_number
first_disagreement-returns-then-same_number t c =
    let e : c.in-Scale-Scale.j ≡ c.in-Scale-Scale.k = grind (arith, common_steps) in
    let whole : disagreement (tree c.args.s.now) (tree c.args.t.now) ≡ disagreement (tree c.in-Scale-Scale.a) (tree c.in-Scale-Scale.b) =
    disagreement-scaled c.args.s.now c.args.t.now c.in-Scale-Scale.j c.in-Scale-Scale.k c.in-Scale-Scale.a c.in-Scale-Scale.b c.in-Scale-Scale.is-0 c.in-Scale-Scale.is-1 e in
    let parts : disagreement (tree c.get-then-same_number.result.now) (tree c.get-then-same_number-2.result.now) ≡ disagreement (tree c.in-Scale-Scale.a) (tree c.in-Scale-Scale.b) =
    let p = c.get-then-same_number.ensures in let q = c.get-then-same_number-2.ensures in cc in
    subst (λ (g : Disagreement). IfOk c.first_disagreement-then-same_number.result (λ r. found_disagreement r ≡ g)) (parts ∙ sym whole) c.first_disagreement-then-same_number.ensures

pub first_among-returns-in-len1-up-rest : goal.first_among-returns-in-len1-up-rest
first_among-returns-in-len1-up-rest t c = disagreement_ended _ c.args.xs.now c.loop-x.rest.now c.loop-x.x-index c.loop-x-test.false c.loop-x.invariant c.in-len1-up-rest.len_at_least
