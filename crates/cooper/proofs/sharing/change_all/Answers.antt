use Rattle.std.proofs.Common.{◌≡◌, sym, ◌∙◌, ap, subst, arith, true, List, Err, length, drop, map}
use Rattle.std.specs.List.{flat_map}
use Rattle.std.proofs.lemmas.Grind.{common_steps}
use Rattle.lin_base.specs.declared.facts.Fact.{Fact}
use Rattle.lin_base.specs.Numbers.{results}
use Rattle.cooper_rows.specs.Counted.{IsCause, fit}
use Rattle.cooper.specs.Sharing.{changed, changed_steps, put_back}
use Rattle.cooper.proofs.Changes.{length-changed, lent}
use Rattle.cooper.proofs.Places.{fits_err}
use Rattle.cooper.proofs.sharing.change_all.Goals as goal

pub returns-in_err-places-clause-formed : goal.returns-in_err-places-clause-formed
returns-in_err-places-clause-formed c =
    let facts = c.args.facts.now.items in
    let steps = changed_steps c.args.p c.args.far c.args.side.now in
    let e = c.in_err-places.field-0.0 in
    let is : c.from_residual.result ≡ Err e = grind (arith, common_steps) in
    let E : List Fact → Type 0 = λ fs. IsCause e 0 0 (results (flat_map steps fs)) in
    fits_err _ e (results (flat_map steps facts)) _ is (subst E c.as_mut_slice.ensures.value c.in_err-places.ensures.formed.1)

pub returns-clause-formed : goal.returns-clause-formed
returns-clause-formed c =
    let facts = c.args.facts.now.items in
    let f = changed c.args.p c.args.far c.args.side.now in
    let steps = changed_steps c.args.p c.args.far c.args.side.now in
    let new = c.change_each.new.facts in
    let T : List Fact → Type 0 = λ fs. (fit (results (flat_map steps fs)) ≡ true) × (new ≡ map f fs) in
    let told = subst T c.as_mut_slice.ensures.value c.in_ok-places.ensures.formed.0 in
    let count : c.args.facts.now.len ≡ length new = sym c.as_mut_slice.ensures.len ∙ ap length c.as_mut_slice.ensures.value ∙ sym (ap length told.1 ∙ length-changed f facts) in
    ((told.0, lent new (drop (length new) facts) c.args.facts.now.len count ∙ told.1), tt)

pub returns-clause-places : goal.returns-clause-places
returns-clause-places c =
    let facts = c.args.facts.now.items in
    let f = changed c.args.p c.args.far c.args.side.now in
    let new = c.change_each.new.facts in
    let told : new ≡ map f facts = c.in_ok-places.ensures.formed.0.1 ∙ ap (map f) c.as_mut_slice.ensures.value in
    let count : c.args.facts.now.len ≡ length new = sym c.as_mut_slice.ensures.len ∙ ap length c.as_mut_slice.ensures.value ∙ sym (ap length told ∙ length-changed f facts) in
    ap (put_back c.in_ok-places.places) (lent new (drop (length new) facts) c.args.facts.now.len count) ∙ c.in_ok-places.ensures.kept ∙ c.as_mut_slice.ensures.value
