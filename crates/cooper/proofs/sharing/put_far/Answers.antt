use Rattle.std.proofs.Common.{◌≡◌, sym, ◌∙◌, ap, subst, true, List, IsTrue, map}
use Rattle.std.specs.List.{flat_map, list_all}
use Rattle.lin_base.specs.declared.facts.Fact.{Fact}
use Rattle.lin_base.specs.declared.wides.Wide.{Wide}
use Rattle.lin_base.specs.Fact.{is_fact}
use Rattle.lin_base.specs.Numbers.{results}
use Rattle.cert_tree.specs.declared.sums.Side.{Side}
use Rattle.cert_tree.specs.Children.{far_child_steps}
use Rattle.cert_tree.proofs.Pointing.{is_fact-far_child}
use Rattle.cooper_rows.specs.Counted.{Fits}
use Rattle.cooper.specs.Sharing.{changed, changed_steps, number_side}
use Rattle.cooper.proofs.Changes.{each_far, each_far_steps, fits_gives, restored_all}
use Rattle.cooper.proofs.sharing.put_far.Goals as goal

pub returns-clause-formed : goal.returns-clause-formed
returns-clause-formed c =
    let p = c.args.p in
    let j = c.args.j in
    let facts = c.args.facts.now.items in
    let r = c.change_all.result in
    let new = c.change_all.new.facts.items in
    let T : Side → Type 0 = λ s. Fits r (results (flat_map (changed_steps p true s) facts)) (λ _. new ≡ map (changed p true s) facts) in
    let F : List Wide → Type 0 = λ ss. Fits r (results ss) (λ _. new ≡ map (changed p true (number_side j)) facts) in
    let G : List Fact → Type 0 = λ fs. Fits r (results (far_child_steps p facts j)) (λ _. new ≡ fs) in
    subst G (each_far p j facts) (subst F (each_far_steps p j facts) (subst T c.side_at-side.ensures.value c.change_all.ensures.formed))

pub returns-clause-kept : goal.returns-clause-kept
returns-clause-kept c =
    let p = c.args.p in
    let s = c.side_at-side.result in
    let facts = c.args.facts.now.items in
    restored_all (changed p true s) c.change_all.new.facts.items facts (results (flat_map (changed_steps p true s) facts)) c.change_all.result c.change_all.ensures.formed c.change_all.ensures.length c.change_all.ensures.places

pub returns-clause-well_formed : goal.returns-clause-well_formed
returns-clause-well_formed c =
    let p = c.args.p in
    let j = c.args.j in
    let s = c.side_at-side.result in
    let facts = c.args.facts.now.items in
    let new = c.change_all.new.facts.items in
    let A : List Fact → Type 0 = λ fs. IsTrue (list_all is_fact fs) in
    let gives : new ≡ map (changed p true s) facts → A new = λ is. subst A (sym (is ∙ ap (λ e. map (changed p true e) facts) c.side_at-side.ensures.value ∙ each_far p j facts)) (is_fact-far_child p facts j c.requires) in
    fits_gives (results (flat_map (changed_steps p true s) facts)) c.change_all.result c.change_all.ensures.formed gives
