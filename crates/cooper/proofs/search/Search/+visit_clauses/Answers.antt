use Rattle.std.proofs.Common.{◌≡◌, arith, sym, ◌∙◌, ap, subst, List, None, Err, [], ◌∷◌, ◌++◌, ◌+◌, ◌-◌, drop, take, length, option_map}
use Rattle.std.specs.List.{position}
use Rattle.std.proofs.lemmas.Grind.{common_steps}
use Rattle.std.proofs.lemmas.List.{at_drop_more, take_all, length-drop}
use Rattle.lin_base.specs.declared.facts.Fact.{Fact}
use Rattle.lin_base.specs.Fact.{is_false}
use Rattle.cert_tree.specs.Ground.{Numbered}
use Rattle.cert_tree.specs.Search.{closed, satisfied, searched}
use Rattle.cooper_rows.specs.Counted.{IsAfter, IsCause}
use Rattle.cooper_rows.proofs.Budgets.{counted_err}
use Rattle.cooper.specs.Walks.{Walk, one_child, found_by, joined, literals_walk, valuation_of}
use Rattle.cooper.proofs.Walking.{walk_err, walk_found, walk_next}
use Rattle.cooper.proofs.Nodes.{IsVisited, case_below_err, case_visited}
use Rattle.cooper.proofs.search.Search.+visit_clauses.Goals as goal

pub visit_clauses-returns-in_err-found-in-len1-up-clause-walked : goal.visit_clauses-returns-in_err-found-in-len1-up-clause-walked
visit_clauses-returns-in_err-found-in-len1-up-clause-walked t c =
    let cs = c.args.clauses.now in
    let facts = c.args.self.now.facts.items in
    let y = c.clause-item.result in
    let rest = take (length cs - 1) (drop 1 cs) in
    let same : rest ≡ drop 1 cs = take_all (length cs - 1) (drop 1 cs) (omega (arith, length-drop 1 cs)) in
    let m0 = c.args.self.now.room in
    let m1 = c.take.new.room in
    let none : c.in_ok-n-in-len1-up.field-0 ≡ None = grind (arith, common_steps) in
    let open_ : None ≡ position is_false facts = sym none ∙ c.in_ok-n-in-len1-up.ensures.value ∙ ap (position is_false) c.as_slice-in-len1-up.ensures.value in
    let e = c.in_err-found-in-len1-up.field-0.0 in
    let whole = one_child (searched cs facts) in
    let L : List Fact → Type 0 = λ ls. let w : Walk = literals_walk (searched rest) facts ls in IsCause e m1 w.nodes w.formed in
    let R : List Numbered → Type 0 = λ ns. let w : Walk = literals_walk (searched ns) facts y.1 in IsCause e m1 w.nodes w.formed in
    let is : c.from_residual-in_err-found-in-len1-up.result ≡ Err e = grind (arith, common_steps) in
    counted_err _ e m0 c.visit_literals.new.self.room whole.nodes whole.formed _ is
    (case_below_err e m1 m0 cs facts y c.in-len1-up.len_at_least c.clause-item.is c.in_ok-take-in-len1-up.ensures.0.0 open_ (subst R same (subst L c.as_slice-in-len1-up-2.ensures c.in_err-found-in-len1-up.ensures.walked.1)))

pub visit_clauses-returns-in_ok-close_case-in-len1-up-clause-walked : goal.visit_clauses-returns-in_ok-close_case-in-len1-up-clause-walked
visit_clauses-returns-in_ok-close_case-in-len1-up-clause-walked t c =
    let cs = c.args.clauses.now in
    let facts = c.args.self.now.facts.items in
    let y = c.clause-item.result in
    let rest = take (length cs - 1) (drop 1 cs) in
    let same : rest ≡ drop 1 cs = take_all (length cs - 1) (drop 1 cs) (omega (arith, length-drop 1 cs)) in
    let m0 = c.args.self.now.room in
    let m1 = c.take.new.room in
    let none : c.in_ok-n-in-len1-up.field-0 ≡ None = grind (arith, common_steps) in
    let open_ : None ≡ position is_false facts = sym none ∙ c.in_ok-n-in-len1-up.ensures.value ∙ ap (position is_false) c.as_slice-in-len1-up.ensures.value in
    let m2 = c.visit_literals.new.self.room in
    let under_these = c.visit_literals.new.trees in
    let none_yet = c.new-below.result in
    let found = c.in_ok-found-in-len1-up.found in
    let L : List Fact → Type 0 = λ ls. IsVisited m2 m1 under_these none_yet found (literals_walk (searched rest) facts ls) in
    let R : List Numbered → Type 0 = λ ns. IsVisited m2 m1 under_these none_yet found (literals_walk (searched ns) facts y.1) in
    (case_visited m2 m1 m0 under_these none_yet c.close_case.new.trees c.args.trees.now cs facts y found c.in_ok-close_case-in-len1-up.field-0 c.new-below.ensures c.in-len1-up.len_at_least c.clause-item.is c.in_ok-take-in-len1-up.ensures.0.0 open_ (subst R same (subst L c.as_slice-in-len1-up-2.ensures c.in_ok-found-in-len1-up.ensures.walked.0)) c.in_ok-close_case-in-len1-up.ensures, tt)

pub visit_literals-returns-in_err-values-clause-walked : goal.visit_literals-returns-in_err-values-clause-walked
visit_literals-returns-in_err-values-clause-walked t c =
    let visit = searched c.args.clauses.now in
    let facts = c.args.self.now.facts.items in
    let lits = c.args.literals.now in
    let i = c.loop-literal.literal-index in
    let y = c.literal-item.result in
    let m0 = c.loop-literal.self.room in
    let whole = literals_walk visit facts lits in
    let one = one_child (visit (facts ++ y ∷ [])) in
    let e = c.in_err-values.field-0.0 in
    let E : List Fact → Type 0 = λ fs. IsCause e m0 (one_child (visit (fs ++ y ∷ []))).nodes (one_child (visit (fs ++ y ∷ []))).formed in
    let is : c.from_residual.result ≡ Err e = grind (arith, common_steps) in
    let next = at_drop_more (λ us. literals_walk visit facts us) lits i y c.loop-literal-test.true ∙ ap (λ y. literals_walk visit facts (y ∷ drop (i + 1) lits)) (sym c.literal-item.is) in
    counted_err _ e c.args.self.now.room c.visit_literal.new.self.room whole.nodes whole.formed _ is
    (walk_err e m0 c.args.self.now.room c.loop-literal.trees c.args.trees.now one (literals_walk visit facts (drop (i + 1) lits)) (literals_walk visit facts (drop i lits)) whole c.loop-literal.invariant.walked next (subst E c.loop-literal.invariant.kept c.in_err-values.ensures.walked.1))

pub visit_literals-returns-in-Some-clause-walked : goal.visit_literals-returns-in-Some-clause-walked
visit_literals-returns-in-Some-clause-walked t c =
    let visit = searched c.args.clauses.now in
    let facts = c.args.self.now.facts.items in
    let lits = c.args.literals.now in
    let i = c.loop-literal.literal-index in
    let y = c.literal-item.result in
    let m0 = c.loop-literal.self.room in
    let m1 = c.visit_literal.new.self.room in
    let t0 = c.loop-literal.trees in
    let t1 = c.visit_literal.new.trees in
    let o = option_map valuation_of c.in_ok-values.field-0 in
    let whole = literals_walk visit facts lits in
    let one = one_child (visit (facts ++ y ∷ [])) in
    let W : List Fact → Type 0 = λ fs. IsAfter m1 m0 (one_child (visit (fs ++ y ∷ []))).nodes (one_child (visit (fs ++ y ∷ []))).formed × (found_by o t1 ≡ joined t0 (one_child (visit (fs ++ y ∷ []))).found) in
    let told = subst W c.loop-literal.invariant.kept c.in_ok-values.ensures.walked.0 in
    let found : satisfied (valuation_of c.in-Some.values) ≡ joined t0 one.found = sym (ap (λ x. found_by (option_map valuation_of x) t1) c.in-Some.is) ∙ told.1 in
    let next = at_drop_more (λ us. literals_walk visit facts us) lits i y c.loop-literal-test.true ∙ ap (λ y. literals_walk visit facts (y ∷ drop (i + 1) lits)) (sym c.literal-item.is) in
    (walk_found m1 m0 c.args.self.now.room t0 c.args.trees.now one (literals_walk visit facts (drop (i + 1) lits)) (literals_walk visit facts (drop i lits)) whole (valuation_of c.in-Some.values) c.loop-literal.invariant.walked next told.0 found, tt)

pub visit_literals-loop-literal-preserved : goal.visit_literals-loop-literal-preserved
visit_literals-loop-literal-preserved t c =
    let visit = searched c.args.clauses.now in
    let facts = c.args.self.now.facts.items in
    let lits = c.args.literals.now in
    let i = c.loop-literal.literal-index in
    let y = c.literal-item.result in
    let m0 = c.loop-literal.self.room in
    let m1 = c.visit_literal.new.self.room in
    let t0 = c.loop-literal.trees in
    let t1 = c.visit_literal.new.trees in
    let o = option_map valuation_of c.in_ok-values.field-0 in
    let whole = literals_walk visit facts lits in
    let one = one_child (visit (facts ++ y ∷ [])) in
    let W : List Fact → Type 0 = λ fs. IsAfter m1 m0 (one_child (visit (fs ++ y ∷ []))).nodes (one_child (visit (fs ++ y ∷ []))).formed × (found_by o t1 ≡ joined t0 (one_child (visit (fs ++ y ∷ []))).found) in
    let told = subst W c.loop-literal.invariant.kept c.in_ok-values.ensures.walked.0 in
    let none : closed t1 ≡ joined t0 one.found = sym (ap (λ x. found_by (option_map valuation_of x) t1) c.in-None.is) ∙ told.1 in
    let next = at_drop_more (λ us. literals_walk visit facts us) lits i y c.loop-literal-test.true ∙ ap (λ y. literals_walk visit facts (y ∷ drop (i + 1) lits)) (sym c.literal-item.is) in
    record {
      walked = walk_next m1 m0 c.args.self.now.room t1 t0 c.args.trees.now one (literals_walk visit facts (drop (i + 1) lits)) (literals_walk visit facts (drop i lits)) whole c.loop-literal.invariant.walked next told.0 none;
      kept = ◌∙◌ {A = List Fact} c.in_ok-values.ensures.kept c.loop-literal.invariant.kept;
    }
