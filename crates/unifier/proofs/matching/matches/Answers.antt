use Rattle.std.proofs.Common.{◌∙◌, sym}
use Rattle.term_base.specs.Substitution.{image, put_in}
use Rattle.term_base.specs.Trees.{tree}
use Rattle.term_base.specs.TreeLemmas.{same_tree-true}
use Rattle.unifier.proofs.KnownLemmas.{match_known}
use Rattle.unifier.proofs.SearchLemmas.{refused, accepted}
use Rattle.unifier.proofs.MatchingLemmas.{match_differs, match_not_simple}
use Rattle.unifier.proofs.matching.matches.Goals as goal

pub returns-then-not-becomes-clause-none : goal.returns-then-not-becomes-clause-none
returns-then-not-becomes-clause-none c =
    match_differs c.args.signature.now (tree c.args.p.now) (tree c.args.t.now) (image c.in_ok-s.s) c.in_ok-s.ensures
    (sym c.becomes.ensures ∙ c.if-not-becomes.true)

pub returns-then-not-is_simple-clause-none : goal.returns-then-not-is_simple-clause-none
returns-then-not-is_simple-clause-none c =
    match_not_simple c.args.signature.now (tree c.args.p.now) (tree c.args.t.now) (image c.in_ok-s.s) c.in_ok-s.ensures
    (refused c.is_simple.result _ c.is_simple.ensures c.if-not-is_simple.true)

pub returns-clause-simple : goal.returns-clause-simple
returns-clause-simple c = accepted c.is_simple.result _ c.is_simple.ensures c.if-not-is_simple.false

pub returns-clause-equal : goal.returns-clause-equal
returns-clause-equal c =
    same_tree-true (put_in (image c.in_ok-s.s) (tree c.args.p.now)) (tree c.args.t.now) (sym c.becomes.ensures ∙ c.if-not-becomes.false)

pub returns-clause-others : goal.returns-clause-others
returns-clause-others c = c.in_ok-s.ensures.keeps

pub returns-clause-known : goal.returns-clause-known
returns-clause-known c n h =
    match_known n (tree c.args.p.now) (tree c.args.t.now) (image c.in_ok-s.s)
    (same_tree-true (put_in (image c.in_ok-s.s) (tree c.args.p.now)) (tree c.args.t.now) (sym c.becomes.ensures ∙ c.if-not-becomes.false))
    c.in_ok-s.ensures.keeps h
