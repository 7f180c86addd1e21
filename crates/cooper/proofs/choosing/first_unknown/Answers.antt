use Rattle.std.proofs.Common.{◌≡◌, sym, ◌∙◌, ap, arith, true, [], ◌∷◌, ◌+◌, drop}
use Rattle.std.proofs.lemmas.Grind.{common_steps}
use Rattle.std.proofs.lemmas.List.{at_drop_more}
use Rattle.lin_base.specs.Fact.{is_fact, sum_of}
use Rattle.cert_tree.specs.Ground.{unknowns}
use Rattle.cooper.specs.Walks.{first_of, first_term, lesser_of}
use Rattle.cooper.proofs.Unknowns.{fact_at, lesser_assoc, lesser_none, first_more}
use Rattle.cooper.proofs.choosing.first_unknown.Goals as goal

pub loop-fact-preserved : goal.loop-fact-preserved
loop-fact-preserved c =
    let facts = c.args.facts.now in
    let i = c.loop-fact.fact-index in
    let y = c.fact-item.result in
    let rest = drop (i + 1) facts in
    let first = c.loop-fact.first in
    let is : is_fact y ≡ true = ap is_fact c.fact-item.is ∙ fact_at facts i y c.loop-fact-test.true c.requires in
    let next = at_drop_more (λ fs. first_of (unknowns fs)) facts i y c.loop-fact-test.true ∙ ap (λ f. first_of (unknowns (f ∷ rest))) (sym c.fact-item.is) ∙ first_more y rest is in
    ap (λ o. lesser_of o (first_of (unknowns rest))) (c.lesser-first.ensures ∙ ap (lesser_of first) c.first_in.ensures)
    ∙ lesser_assoc first (first_term (sum_of y).coefs) (first_of (unknowns rest))
    ∙ ap (lesser_of first) (sym next)
    ∙ c.loop-fact.invariant

pub returns : goal.returns
returns c =
    let facts = c.args.facts.now in
    let none : drop c.loop-fact.fact-index facts ≡ [] = grind (arith, common_steps) in
    sym (lesser_none c.loop-fact.first) ∙ ap (λ fs. lesser_of c.loop-fact.first (first_of (unknowns fs))) (sym none) ∙ c.loop-fact.invariant
