use Rattle.std.proofs.Common.{rules, ◌≡◌, ◌<◌, ◌-◌, ◌∙◌, get_or, arith}
use Rattle.std.proofs.lemmas.Grind.{common_steps}
use Rattle.normal_form.specs.Cnf.{at_variable}
use Rattle.normal_form.proofs.Folds.{if_ok}
use Rattle.normal_form.proofs.Innermost.{unbound_read, bound_read}
use Rattle.normal_form.proofs.binders.Binders.at_variable.Goals as goal

pub returns-then-behind-eq0 : goal.returns-then-behind-eq0
returns-then-behind-eq0 c =
    let terms = c.args.self.now.terms in
    let ts = c.as_slice-terms.result.now in
    let same : ts ≡ terms = first_of (cc, search rules, grind (arith, common_steps)) in
    unbound_read terms ts c.args.v c.place_behind-behind.result same c.if-behind-eq0.true c.place_behind-behind.ensures

pub returns : goal.returns
returns c =
    let terms = c.args.self.now.terms in
    let ts = c.as_slice-terms.result.now in
    let x = c.index-terms-behind.result in
    let same : ts ≡ terms = first_of (cc, search rules, grind (arith, common_steps)) in
    let some : 0 < c.place_behind-behind.result = omega arith in
    let here : (get_or ts (c.place_behind-behind.result - 1) x).1 ≡ at_variable terms c.args.v = bound_read terms ts c.args.v c.place_behind-behind.result x same some c.place_behind-behind.ensures in
    if_ok c.copy.result (λ t. t ≡ (get_or ts (c.place_behind-behind.result - 1) x).1) (λ t. t ≡ at_variable terms c.args.v) (λ t h. h ∙ here) c.copy.ensures
