use Rattle.std.proofs.Common.{◌∙◌, sym, ap}
use Rattle.term_base.specs.Trees.{tree}
use Rattle.unifier.specs.Found.{found_disagreement}
use Rattle.unifier.proofs.SearchLemmas.{stands_start, stands_bound, stands_less, stands_agreed, stands_known, stands_clash, stands_cyclic, stands_unsorted, refused, accepted}
use Rattle.unifier.proofs.solving.solve.Goals as goal

pub loop-search-init : goal.loop-search-init
loop-search-init c = stands_start c.args.signature.now _ _ c.args.l c.args.u c.new-pairs.result c.args.pool.items (λ i. tree c.args.l) (λ i. tree c.args.u) c.new-pairs.ensures c.requires

pub returns-in-Agree-clause-general : goal.returns-in-Agree-clause-general
returns-in-Agree-clause-general c =
    stands_agreed c.args.signature.now _ _ c.loop-search.search.pairs c.loop-search.search.l c.loop-search.search.u c.loop-search.search.pool.items c.loop-search.invariant (sym c.in_ok-first_disagreement.ensures ∙ ap found_disagreement c.in-Agree.is)

pub returns-in-Agree-clause-known : goal.returns-in-Agree-clause-known
returns-in-Agree-clause-known c =
    stands_known c.args.signature.now _ _ c.loop-search.search.pairs c.loop-search.search.l c.loop-search.search.u c.loop-search.search.pool.items c.loop-search.invariant

pub returns-in-Clash-clause-apart : goal.returns-in-Clash-clause-apart
returns-in-Clash-clause-apart c =
    stands_clash c.args.signature.now _ _ c.loop-search.search.pairs c.loop-search.search.l c.loop-search.search.u c.loop-search.search.pool.items c.loop-search.invariant (sym c.in_ok-first_disagreement.ensures ∙ ap found_disagreement c.in-Clash.is)

pub returns-then-occurs-clause-apart : goal.returns-then-occurs-clause-apart
returns-then-occurs-clause-apart c =
    stands_cyclic c.args.signature.now _ _ c.loop-search.search.pairs c.loop-search.search.l c.loop-search.search.u c.loop-search.search.pool.items c.loop-search.invariant c.in-Bind.v c.in-Bind.t
    (sym c.in_ok-first_disagreement.ensures ∙ ap found_disagreement c.in-Bind.is) (sym c.occurs.ensures ∙ c.if-occurs.true)

pub returns-then-not-has_sort-clause-apart : goal.returns-then-not-has_sort-clause-apart
returns-then-not-has_sort-clause-apart c =
    stands_unsorted c.args.signature.now _ _ c.loop-search.search.pairs c.loop-search.search.l c.loop-search.search.u c.loop-search.search.pool.items c.loop-search.invariant c.in-Bind.v c.in-Bind.t
    (sym c.in_ok-first_disagreement.ensures ∙ ap found_disagreement c.in-Bind.is) (refused c.has_sort.result _ c.has_sort.ensures c.if-not-has_sort.true)

pub loop-search-preserved : goal.loop-search-preserved
loop-search-preserved c =
    stands_bound c.args.signature.now _ _ c.loop-search.search.pairs c.loop-search.search.l c.loop-search.search.u c.loop-search.search.pool.items c.loop-search.invariant c.in-Bind.v c.in-Bind.t
    (sym c.in_ok-first_disagreement.ensures ∙ ap found_disagreement c.in-Bind.is) (sym c.occurs.ensures ∙ c.if-occurs.false) (accepted c.has_sort.result _ c.has_sort.ensures c.if-not-has_sort.false)
    _ _ _ _ c.in_ok-search-in-Bind.ensures.left c.in_ok-search-in-Bind.ensures.right c.in_ok-search-in-Bind.ensures.pairs c.in_ok-search-in-Bind.ensures.pool

pub loop-search-smaller : goal.loop-search-smaller
loop-search-smaller c =
    stands_less c.args.signature.now _ _ c.loop-search.search.pairs c.loop-search.search.l c.loop-search.search.u c.loop-search.search.pool.items c.loop-search.invariant c.in-Bind.v c.in-Bind.t
    (sym c.in_ok-first_disagreement.ensures ∙ ap found_disagreement c.in-Bind.is) _ c.in_ok-search-in-Bind.ensures.pool
