use Rattle.std.proofs.Common.{◌≡◌, sym, ◌∙◌, ap}
use Rattle.std.specs.Prelude.{Some, option_map}
use Rattle.std.specs.Option.{option_copied}
use Rattle.term_base.specs.Trees.{tree}
use Rattle.term_base.specs.Lits.{lits}
use Rattle.term_base.specs.Places.{tree_at}
use Rattle.term_base.specs.Substitution.{image}
use Rattle.step_rules.proofs.Conclusions.{superposed-other, superposed-there}
use Rattle.step_rules.proofs.inferences.superposed.Goals as goal

pub returns-then-not-branch : goal.returns-then-not-branch
returns-then-not-branch c =
    let at : tree_at (lits c.args.d.now) c.args.place.now ≡ Some (tree c.in-Some-place_term.u.now) =
    sym c.place_term.ensures ∙ ap (λ o. option_map tree (option_copied o)) c.in-Some-place_term.is in
    sym
    (superposed-other (lits c.args.c.now) c.args.literal c.args.side (lits c.args.d.now) c.args.place.now (image c.args.s1.now) (image c.args.s2.now)
    (tree c.in-Some.l.now) (tree c.in-Some.r.now) c.in-Some.ensures (tree c.in-Some-place_term.u.now) at (sym c.in_ok-same_under-in-Some-place_term.ensures ∙ c.if-not-branch.true))

pub returns-in_ok-superposed_clause-in-Some-place_term : goal.returns-in_ok-superposed_clause-in-Some-place_term
returns-in_ok-superposed_clause-in-Some-place_term c =
    let at : tree_at (lits c.args.d.now) c.args.place.now ≡ Some (tree c.in-Some-place_term.u.now) =
    sym c.place_term.ensures ∙ ap (λ o. option_map tree (option_copied o)) c.in-Some-place_term.is in
    ap Some c.in_ok-superposed_clause-in-Some-place_term.ensures
    ∙ sym
    (superposed-there (lits c.args.c.now) c.args.literal c.args.side (lits c.args.d.now) c.args.place.now (image c.args.s1.now) (image c.args.s2.now)
    (tree c.in-Some.l.now) (tree c.in-Some.r.now) c.in-Some.ensures (tree c.in-Some-place_term.u.now) at (sym c.in_ok-same_under-in-Some-place_term.ensures ∙ c.if-not-branch.false))
