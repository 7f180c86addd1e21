use Rattle.std.proofs.Common.{ap, sym, ◌∙◌, List, ℕ}
use Rattle.std.specs.Option.{option_copied}
use Rattle.term_base.specs.Trees.{tree}
use Rattle.term_base.specs.Places.{at_path}
use Rattle.term_base.specs.TreeLists.{tree_at-lits, tree_at-lits-none}
use Rattle.term_base.proofs.placing.place_term.Goals as goal

pub returns-in-Some : goal.returns-in-Some
returns-in-Some c =
    c.below.ensures
    ∙ ap (λ (p : List ℕ). at_path p (tree c.side_of.result.now)) c.as_slice.ensures
    ∙ ap (at_path c.args.place.now.path) c.side_of.ensures
    ∙ sym (tree_at-lits c.args.c.now c.args.place.now c.in-Some.literal.now (sym c.get.ensures.value ∙ ap option_copied c.in-Some.is))

pub returns-in-None : goal.returns-in-None
returns-in-None c = sym (tree_at-lits-none c.args.c.now c.args.place.now (sym c.get.ensures.value ∙ ap option_copied c.in-None.is))
