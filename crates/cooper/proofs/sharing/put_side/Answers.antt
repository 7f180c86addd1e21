use Rattle.std.proofs.Common.{◌≡◌, sym, ◌∙◌, ap, subst, arith, true, false, List, Err, IsTrue, map, take, ◌++◌}
use Rattle.std.specs.List.{list_all}
use Rattle.std.proofs.lemmas.Grind.{common_steps}
use Rattle.lin_base.specs.declared.facts.Fact.{Fact}
use Rattle.lin_base.specs.declared.wides.Wide.{Wide}
use Rattle.lin_base.specs.Fact.{is_fact}
use Rattle.lin_base.specs.Numbers.{results}
use Rattle.lin_base.specs.Steps.{replace_all_steps}
use Rattle.cert_tree.specs.Points.{divides_part}
use Rattle.cooper_rows.specs.Counted.{IsCause, fit}
use Rattle.cooper.specs.Sharing.{changed, put_back}
use Rattle.cooper.proofs.Changes.{each_side, each_side_steps, front}
use Rattle.cooper.proofs.Places.{fits_err, is_fact-side}
use Rattle.cooper.proofs.sharing.put_side.Goals as goal

pub returns-in_err-kept-clause-formed : goal.returns-in_err-kept-clause-formed
returns-in_err-kept-clause-formed c =
    let s = c.args.side.now in
    let facts = c.args.facts.now.items in
    let e = c.in_err-kept.field-0.0 in
    let is : c.from_residual.result ≡ Err e = grind (arith, common_steps) in
    let E : List Wide → Type 0 = λ ss. IsCause e 0 0 (results ss) in
    fits_err _ e (results (replace_all_steps c.args.p s.b s.rest facts)) _ is (subst E (each_side_steps c.args.p s facts) c.in_err-kept.ensures.formed.1)

pub returns-clause-formed : goal.returns-clause-formed
returns-clause-formed c =
    let p = c.args.p in
    let s = c.args.side.now in
    let facts = c.args.facts.now.items in
    let told = c.in_ok-kept.ensures.formed.0 in
    let F : List Wide → Type 0 = λ ss. fit (results ss) ≡ true in
    let made = c.in_ok-push_divides.ensures ∙ ap (λ fs. fs ++ divides_part s.b s.rest) (told.1 ∙ each_side p s facts) in
    ((subst F (each_side_steps p s facts) told.0, made), tt)

pub returns-clause-kept : goal.returns-clause-kept
returns-clause-kept c =
    let p = c.args.p in
    let s = c.args.side.now in
    let facts = c.args.facts.now.items in
    let kept = c.in_ok-kept.kept in
    let told = c.in_ok-kept.ensures.formed.0 in
    let f = changed p false s in
    let made = c.in_ok-push_divides.ensures ∙ ap (λ fs. fs ++ divides_part s.b s.rest) told.1 in
    ap (λ fs. put_back kept.places (take kept.length fs)) made
    ∙ ap (λ n. put_back kept.places (take n (map f facts ++ divides_part s.b s.rest))) c.in_ok-kept.ensures.length
    ∙ ap (put_back kept.places) (front f facts (divides_part s.b s.rest) ∙ sym told.1)
    ∙ c.in_ok-kept.ensures.places

pub returns-clause-well_formed : goal.returns-clause-well_formed
returns-clause-well_formed c =
    let p = c.args.p in
    let s = c.args.side.now in
    let facts = c.args.facts.now.items in
    let told = c.in_ok-kept.ensures.formed.0 in
    let made = c.in_ok-push_divides.ensures ∙ ap (λ fs. fs ++ divides_part s.b s.rest) (told.1 ∙ each_side p s facts) in
    let A : List Fact → Type 0 = λ fs. IsTrue (list_all is_fact fs) in
    subst A (sym made) (is_fact-side p s facts c.requires.side c.requires.facts)
