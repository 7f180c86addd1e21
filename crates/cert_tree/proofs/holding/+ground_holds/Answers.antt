use Rattle.std.proofs.Common.{◌≡◌, ◌∙◌, ap, sym, subst, get_or, take, drop, length, ◌-◌, ◌∷◌, List, ℕ, Bool, IfOk, arith}
use Rattle.std.specs.List.{list_all}
use Rattle.std.proofs.lemmas.List.{drop_more, take_all, length-drop}
use Rattle.cert_tree.specs.Holds.{ground_holds}
use Rattle.cert_tree.proofs.ValueChecks.{ground_some}
use Rattle.cert_tree.proofs.holding.+ground_holds.Goals as goal

pub ground_holds-returns-in-Some : goal.ground_holds-returns-in-Some
ground_holds-returns-in-Some t c =
    let vs = c.args.variables.now in
    let clause = c.args.clause.now in
    let x = get_or vs 0 0 in
    let xs = drop 1 vs in
    let are : vs ≡ x ∷ xs = drop_more vs 0 0 (omega (arith, c.in-len1-up.len_at_least)) in
    let whole = ap (λ v. ground_holds v clause) are ∙ ground_some x xs clause c.in_ok-clauses-in-len1-up.field-0 c.in-Some.clauses (sym c.occurs_in.ensures ∙ c.if-not-occurs_in.false) c.in_ok-clauses-in-len1-up.ensures.value c.in-Some.is in
    let Q : Bool → Type 0 = λ a. IfOk c.each_ground_holds.result (λ b. b ≡ a) in
    let same : take (length vs - 1) xs ≡ xs = take_all (length vs - 1) xs (omega (arith, length-drop 1 vs)) in
    let R : List ℕ → Type 0 = λ ys. IfOk c.each_ground_holds.result (λ b. b ≡ list_all (ground_holds ys) c.as_slice.result.now) in
    subst Q (ap (list_all (ground_holds xs)) c.as_slice.ensures ∙ sym whole) (subst R same c.each_ground_holds.ensures)
