use Rattle.std.proofs.Common.{◌≡◌, ◌∙◌, sym, ap, subst, length, Err, arith, option_map}
use Rattle.std.proofs.lemmas.Grind.{common_steps}
use Rattle.lin_base.specs.Numbers.{results}
use Rattle.cert_tree.specs.declared.certs.Tree.{Tree}
use Rattle.cert_tree.specs.Ground.{grounding}
use Rattle.judge_base.specs.declared.verdicts.Verdict.TheVariants.{Unsat}
use Rattle.cooper_rows.specs.Counted.{IsAfter}
use Rattle.cooper.specs.Deciding.{Settles}
use Rattle.cooper.specs.Walks.{valuation_of, found_by}
use Rattle.cooper.proofs.Settling.{settled_err, ground_past, deep_settles, root_past, root_found, bulk_within, tree_settles}
use Rattle.cooper.proofs.deciding.settle.Goals as goal

pub returns-in_err-grounded : goal.returns-in_err-grounded
returns-in_err-grounded c =
    let pool = c.args.pool.now in
    let e = c.in_err-grounded.field-0.0 in
    let is : c.from_residual.result ≡ Err e = grind (arith, common_steps) in
    settled_err _ e pool c.args.limit is (ground_past pool c.args.limit e c.in_err-grounded.ensures.formed.1)

pub returns-then-is_deep : goal.returns-then-is_deep
returns-then-is_deep c =
    let pool = c.args.pool.now in
    let told = c.in_ok-grounded.ensures.formed.0.1 in
    deep_settles pool c.len.result (c.len.ensures ∙ ap (λ cs. length cs) told.1) (sym c.is_deep.ensures ∙ c.if-is_deep.true)

pub returns-in_err-values : goal.returns-in_err-values
returns-in_err-values c =
    let pool = c.args.pool.now in
    let e = c.in_err-values.field-0.0 in
    let told = c.in_ok-grounded.ensures.formed.0 in
    let grounded = subst (λ n. IsAfter n c.args.limit (length (grounding pool).rows) (results (grounding pool).steps)) (sym c.new-search.ensures.room) told.0 in
    let is : c.from_residual-in_err-values.result ≡ Err e = grind (arith, common_steps) in
    settled_err _ e pool c.args.limit is (root_past pool c.args.limit c.new-search.result.room e c.as_slice-clauses.result.now c.new-search.result.facts.items (c.as_slice-clauses.ensures ∙ told.1.1) c.new-search.ensures.facts grounded c.in_err-values.ensures.walked.1)

pub returns-in_ok-with_values-in-Some : goal.returns-in_ok-with_values-in-Some
returns-in_ok-with_values-in-Some c =
    let pool = c.args.pool.now in
    let m = c.new-search.result.room in
    let k = c.visit_clauses.new.self.room in
    let ts = c.visit_clauses.new.trees in
    let told = c.in_ok-grounded.ensures.formed.0 in
    let grounded = subst (λ n. IsAfter n c.args.limit (length (grounding pool).rows) (results (grounding pool).steps)) (sym c.new-search.ensures.room) told.0 in
    let o = option_map valuation_of c.in_ok-values.field-0 in
    let found = root_found pool m k o c.new-trees.result ts c.as_slice-clauses.result.now c.new-search.result.facts.items (c.as_slice-clauses.ensures ∙ told.1.1) c.new-search.ensures.facts c.new-trees.ensures c.in_ok-values.ensures.walked.0 in
    c.in_ok-with_values-in-Some.ensures c.args.limit (bulk_within pool c.args.limit m k grounded found.0)

pub returns-in-None : goal.returns-in-None
returns-in-None c =
    let pool = c.args.pool.now in
    let m = c.new-search.result.room in
    let k = c.visit_clauses.new.self.room in
    let ts = c.visit_clauses.new.trees in
    let told = c.in_ok-grounded.ensures.formed.0 in
    let grounded = subst (λ n. IsAfter n c.args.limit (length (grounding pool).rows) (results (grounding pool).steps)) (sym c.new-search.ensures.room) told.0 in
    let o = option_map valuation_of c.in_ok-values.field-0 in
    let found = root_found pool m k o c.new-trees.result ts c.as_slice-clauses.result.now c.new-search.result.facts.items (c.as_slice-clauses.ensures ∙ told.1.1) c.new-search.ensures.facts c.new-trees.ensures c.in_ok-values.ensures.walked.0 in
    let rows = c.in_ok-grounded.grounded.rows in
    let S : Tree → Type 0 = λ t. Settles pool c.args.limit (Unsat (record { rows = rows; tree = t })) in
    subst S (sym c.the_one.ensures) (tree_settles pool c.args.limit m k ts rows c.requires grounded found.0 told.1.0 (sym (ap (λ x. found_by (option_map valuation_of x) ts) c.in-None.is) ∙ found.1))
