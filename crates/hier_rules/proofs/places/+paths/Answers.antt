use Rattle.std.proofs.Common.{◌≡◌, ◌∙◌, ◌++◌, ℕ, List, OnOk, ap, sym, subst}
use Rattle.term_base.specs.Trees.{tree}
use Rattle.hier_rules.specs.CountedPlaces.{counts, this_path}
use Rattle.hier_rules.proofs.PlaceLemmas.{nothing_below, sum_paths, product_paths, call_paths}
use Rattle.hier_rules.proofs.places.+paths.Goals as goal

pub push_paths-returns-then-not-branch-clause-paths : goal.push_paths-returns-then-not-branch-clause-paths
push_paths-returns-then-not-branch-clause-paths t c =
    let S = c.args.signature.now in
    let all = c.args.all.now in
    let u = tree c.args.t.now in
    c.in_ok-push_path.ensures.path
    ∙ ap (λ p. all ++ this_path (counts S u) p) c.as_slice.ensures.value
    ∙ ap (λ ps. all ++ ps) (nothing_below S c.args.path.now.items u (sym c.in_ok-push_path.ensures.counts ∙ c.if-not-branch.true))

pub push_paths-returns-in_ok-push_child_paths-in-Sum-clause-paths : goal.push_paths-returns-in_ok-push_child_paths-in-Sum-clause-paths
push_paths-returns-in_ok-push_child_paths-in-Sum-clause-paths t c =
    let S = c.args.signature.now in
    let path = c.args.path.now.items in
    let all = c.args.all.now in
    let u = c.args.t.now in
    let P : List (List ℕ) → Type 0 = λ ps. OnOk c.push_child_paths-in-Sum.result (c.push_child_paths-in-Sum.new.all ≡ ps) in
    subst P (sum_paths S path u all c.push_path.new.all (c.in_ok-push_path.ensures.path ∙ ap (λ p. all ++ this_path (counts S (tree u)) p) c.as_slice.ensures.value)
    c.push_child_paths.new.path.items c.in-Sum.a c.in-Sum.b c.get.result.now c.get-in-Sum.result.now c.push_child_paths.new.all c.in-Sum.is c.get.ensures c.get-in-Sum.ensures
    c.in_ok-push_child_paths-in-Sum.ensures.paths c.in_ok-push_child_paths-in-Sum.ensures.path)
    c.push_child_paths-in-Sum.ensures.paths

pub push_paths-returns-in-Scale-clause-paths : goal.push_paths-returns-in-Scale-clause-paths
push_paths-returns-in-Scale-clause-paths t c =
    let S = c.args.signature.now in
    let all = c.args.all.now in
    let u = c.args.t.now in
    let P : List (List ℕ) → Type 0 = λ ps. OnOk c.push_child_paths-in-Scale.result (c.push_child_paths-in-Scale.new.all ≡ ps) in
    subst P (product_paths S c.args.path.now.items u all c.push_path.new.all (c.in_ok-push_path.ensures.path ∙ ap (λ p. all ++ this_path (counts S (tree u)) p) c.as_slice.ensures.value)
    c.in-Scale.field-0 c.in-Scale.a c.get-in-Scale.result.now c.in-Scale.is c.get-in-Scale.ensures)
    c.push_child_paths-in-Scale.ensures.paths

pub push_paths-returns-in-App-clause-paths : goal.push_paths-returns-in-App-clause-paths
push_paths-returns-in-App-clause-paths t c =
    let S = c.args.signature.now in
    let all = c.args.all.now in
    let u = c.args.t.now in
    let P : List (List ℕ) → Type 0 = λ ps. OnOk c.push_argument_paths.result (c.push_argument_paths.new.all ≡ ps) in
    subst P (call_paths S c.args.path.now.items u all c.push_path.new.all (c.in_ok-push_path.ensures.path ∙ ap (λ p. all ++ this_path (counts S (tree u)) p) c.as_slice.ensures.value)
    c.in-App.field-0 c.in-App.args c.as_slice-in-App.result.now c.in-App.is c.as_slice-in-App.ensures)
    c.push_argument_paths.ensures.paths
