use Rattle.std.proofs.Common.{◌≡◌, ◌<◌, sym, ◌∙◌, ap, arith, refl, Err, ◌++◌, ◌+◌, drop, get_or, length, set}
use Rattle.std.specs.List.{flat_map}
use Rattle.std.proofs.lemmas.Grind.{common_steps}
use Rattle.std.proofs.lemmas.List.Edits.{map_over_more}
use Rattle.lin_base.specs.Numbers.{results}
use Rattle.cooper_rows.proofs.Budgets.{after_fits, due_err, due_step}
use Rattle.cooper.specs.Sharing.{changed, changed_steps, noted, put_back}
use Rattle.cooper.proofs.Places.{fits_err}
use Rattle.cooper.proofs.Changes.{not_yet, put_back-noted, results_more}
use Rattle.cooper.proofs.sharing.change_each.Goals as goal

pub returns-in_err-change-clause-formed : goal.returns-in_err-change-clause-formed
returns-in_err-change-clause-formed c =
    let far = c.args.far in
    let s = c.args.side.now in
    let xs = c.args.facts.now in
    let i = c.loop-i.i in
    let y = get_or c.loop-i.facts i c.index-facts-i.result in
    let here : y ≡ get_or c.loop-i.facts i y = ap (get_or c.loop-i.facts i) c.index-facts-i.is in
    let steps = changed_steps c.args.p far s in
    let e = c.in_err-change.field-0.0 in
    let within : i < length xs = omega arith in
    let same : y ≡ get_or xs i y = here ∙ ap (λ fs. get_or fs i y) c.loop-i.invariant.facts ∙ not_yet (changed c.args.p far s) xs i y within in
    let rest = results (flat_map steps (drop (i + 1) xs)) in
    let next = results_more steps xs i y within ∙ ap (λ f. results (steps f) ++ rest) (sym same) in
    let is : c.from_residual.result ≡ Err e = grind (arith, common_steps) in
    fits_err _ e (results (flat_map steps xs)) _ is (due_err e 0 0 0 0 0 0 (results (steps y)) rest (results (flat_map steps (drop i xs))) (results (flat_map steps xs)) c.loop-i.invariant.formed refl next c.in_err-change.ensures.formed.1)

pub loop-i-preserved : goal.loop-i-preserved
loop-i-preserved c =
    let p = c.args.p in
    let far = c.args.far in
    let s = c.args.side.now in
    let xs = c.args.facts.now in
    let i = c.loop-i.i in
    let y = get_or c.loop-i.facts i c.index-facts-i.result in
    let here : y ≡ get_or c.loop-i.facts i y = ap (get_or c.loop-i.facts i) c.index-facts-i.is in
    let steps = changed_steps p far s in
    let facts = c.loop-i.facts in
    let kept = c.loop-i.kept in
    let told = c.in_ok-change.ensures.formed.0 in
    let within : i < length xs = omega arith in
    let same : y ≡ get_or xs i y = here ∙ ap (λ fs. get_or fs i y) c.loop-i.invariant.facts ∙ not_yet (changed p far s) xs i y within in
    let rest = results (flat_map steps (drop (i + 1) xs)) in
    let next = results_more steps xs i y within ∙ ap (λ f. results (steps f) ++ rest) (sym same) in
    record {
      formed = due_step 0 0 0 0 0 0 0 (results (steps y)) rest (results (flat_map steps (drop i xs))) (results (flat_map steps xs)) c.loop-i.invariant.formed refl next (after_fits 0 (results (steps y)) told.0);
      facts = ap (set facts i) told.1 ∙ map_over_more (changed p far s) xs facts i y within c.loop-i.invariant.facts here;
      kept = ap (λ ks. put_back ks (set facts i c.change.new.fact)) c.in_ok-change.ensures.kept ∙ ap (λ f. put_back (kept ++ noted p i y) (set facts i f)) told.1 ∙ put_back-noted p far s kept facts i y here ∙ c.loop-i.invariant.kept;
    }
