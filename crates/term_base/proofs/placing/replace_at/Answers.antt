use Rattle.std.proofs.Common.{ap, sym, ◌∙◌, ◌≡◌, take, drop, ◌++◌, ◌∷◌, ◌+◌}
use Rattle.std.specs.Prelude.{slice_get, Some, map}
use Rattle.std.specs.Option.{option_copied}
use Rattle.term_base.specs.Trees.{tree}
use Rattle.term_base.specs.Lits.{lit, lits}
use Rattle.term_base.specs.Places.{put_place, replaced}
use Rattle.term_base.specs.TreeLists.{replaced-lits, replaced-lits-none, same-lits}
use Rattle.term_base.proofs.placing.replace_at.Goals as goal

pub returns-in_ok-put_literal-in-Some : goal.returns-in_ok-put_literal-in-Some
returns-in_ok-put_literal-in-Some c =
    let p = c.args.place.now in
    let ls = c.args.c.now.literals in
    let new = c.in_ok-new-in-Some.new in
    let there : slice_get ls p.literal ≡ Some c.in-Some.literal.now = sym c.get.ensures.value ∙ ap option_copied c.in-Some.is in
    let made : c.in_ok-put_literal-in-Some.field-0 ≡ take p.literal ls ++ (new ∷ drop (p.literal + 1) ls) = rw (← c.as_slice-in-Some.ensures) c.in_ok-put_literal-in-Some.ensures in
    let copied = c.in_ok-copied-in-Some.copied in
    let put_copied : lit new ≡ put_place p (tree copied) (lit c.in-Some.literal.now) = rw (← c.as_slice.ensures) c.in_ok-new-in-Some.ensures in
    let put : lit new ≡ put_place p (tree c.args.t.now) (lit c.in-Some.literal.now) = put_copied ∙ ap (λ x. put_place p (tree x) (lit c.in-Some.literal.now)) c.in_ok-copied-in-Some.ensures in
    ap (map lit) made ∙ replaced-lits c.args.c.now p c.in-Some.literal.now new (tree c.args.t.now) there c.in-Some.ensures.within put

pub returns-in-None : goal.returns-in-None
returns-in-None c =
    let p = c.args.place.now in
    same-lits c.copy-in-None.result c.args.c.now (replaced (lits c.args.c.now) p (tree c.args.t.now)) c.copy-in-None.ensures
    (sym (replaced-lits-none c.args.c.now p (tree c.args.t.now) (sym c.get.ensures.value ∙ ap option_copied c.in-None.is)))
