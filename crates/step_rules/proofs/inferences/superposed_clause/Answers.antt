use Rattle.std.proofs.Common.{◌≡◌, ◌∙◌, ◌++◌, ap, subst, List, IfOk}
use Rattle.term_base.specs.Trees.{tree}
use Rattle.term_base.specs.Lits.{Lit, lits, put_clause}
use Rattle.term_base.specs.Places.{left_out, replaced}
use Rattle.term_base.specs.Substitution.{image}
use Rattle.step_rules.proofs.inferences.superposed_clause.Goals as goal

pub returns : goal.returns
returns c =
    let rest = put_clause (image c.args.s1.now) (left_out c.args.literal (lits c.args.c.now)) in
    let place = c.args.place.now in
    let P : List Lit → Type 0 = λ ks. IfOk c.joined.result (λ k. lits k ≡ ks) in
    subst P
    (ap (λ ks. ks ++ lits c.in_ok-replaced.replaced) c.in_ok-rest.ensures
    ∙ ap (λ ks. rest ++ ks)
    (c.in_ok-replaced.ensures
    ∙ ap (λ ks. replaced ks place (tree c.in_ok-new.new)) c.in_ok-instance.ensures
    ∙ ap (replaced (put_clause (image c.args.s2.now) (lits c.args.d.now)) place) c.in_ok-new.ensures))
    c.joined.ensures
