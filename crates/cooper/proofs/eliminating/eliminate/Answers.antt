use Rattle.std.proofs.Common.{List, [], ◌∷◌, ◌≡◌, true, IsTrue, ◌↔◌}
use Rattle.std.proofs.lemmas.Bool.{and_parts}
use Rattle.std.specs.List.{list_all, AllByRecursion}
use Rattle.lin_base.specs.declared.facts.Fact.{Fact}
use Rattle.lin_base.specs.Fact.{is_fact}
use Rattle.lin_base.specs.Sum.{Valuation}
use Rattle.lin_base.proofs.Forming.{Forms-value}
use Rattle.cert_tree.specs.Complete.{complete, complete_steps}
use Rattle.cert_tree.specs.Laws.{TrueForAll, AllTrue}
use Rattle.cert_tree.proofs.Completion.{is_fact-complete}
use Rattle.cooper.proofs.eliminating.eliminate.Goals as goal

each_fact : (fs : List Fact) → list_all is_fact fs ≡ true → AllByRecursion (λ f. IsTrue (is_fact f)) fs
each_fact [] h = tt
each_fact (f ∷ fs) h = let both = and_parts (is_fact f) (list_all is_fact fs) h in (both.0, each_fact fs both.1)

pub returns-clause-exact : goal.returns-clause-exact
returns-clause-exact c =
    let x = c.args.x in
    let fs = c.args.clause.now in
    let P : List (List Fact) → Type 0 = λ cs. (v : Valuation) → TrueForAll v x fs ↔ AllTrue v cs in
    Forms-value P c.formed_complete.result (complete_steps x fs) (complete x fs) c.formed_complete.ensures
    (λ v. c.complete_has_every_case.ensures fs x v (each_fact fs c.requires))

pub returns-clause-well_formed : goal.returns-clause-well_formed
returns-clause-well_formed c =
    let x = c.args.x in
    let fs = c.args.clause.now in
    let P : List (List Fact) → Type 0 = λ cs. IsTrue (list_all (list_all is_fact) cs) in
    Forms-value P c.formed_complete.result (complete_steps x fs) (complete x fs) c.formed_complete.ensures (is_fact-complete x fs c.requires)
