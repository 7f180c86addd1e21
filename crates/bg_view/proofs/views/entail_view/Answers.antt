use Rattle.std.proofs.Common.{◌≡◌, ℕ, List, false, subst}
use Rattle.std.specs.Prelude.{◌↔◌, true}
use Rattle.std.specs.List.Sorted.{IsStrictlyIncreasing}
use Rattle.lin_base.specs.Sum.{Valuation}
use Rattle.lin_base.specs.Fact.{HoldsAt, is_pool}
use Rattle.bg_view.specs.declared.viewing.Viewed.{Viewed}
use Rattle.bg_view.specs.View.{Forms, entail_steps_of, entail_view_of, entail_view, entail_view_steps}
use Rattle.bg_view.specs.Truth.{Symbols, Variables, clause_holds, GivesTarget, AreTrueAt}
use Rattle.bg_view.proofs.Clauses.{Forms-value}
use Rattle.bg_view.proofs.PoolMeaning.{entail_view_means}
use Rattle.bg_view.proofs.WellFormed.{is_pool-entail}
use Rattle.bg_view.proofs.views.entail_view.Goals as goal

pub returns-clause-truth : goal.returns-clause-truth
returns-clause-truth c =
    let cs = c.args.clauses.now in
    let t = c.args.target.now in
    let P : List ℕ → Type 0 = λ s. Forms c.entail_view_of.result (entail_steps_of s cs t) (entail_view_of s cs t) in
    let Q : Viewed → Type 0 = λ r. (p : Symbols) (w : Variables) (q : Valuation) → GivesTarget r.symbols t p w q → HoldsAt r.pool q ↔ (AreTrueAt p cs × (clause_holds p w t ≡ false)) in
    Forms-value Q c.entail_view_of.result (entail_view_steps cs t) (entail_view cs t) (subst P c.in_ok-symbols.ensures.value c.entail_view_of.ensures) (entail_view_means cs t)

pub returns-clause-well_formed : goal.returns-clause-well_formed
returns-clause-well_formed c =
    let cs = c.args.clauses.now in
    let t = c.args.target.now in
    let s = c.in_ok-symbols.symbols in
    let Q : Viewed → Type 0 = λ r. is_pool r.pool ≡ true in
    Forms-value Q c.entail_view_of.result (entail_steps_of s cs t) (entail_view_of s cs t) c.entail_view_of.ensures (is_pool-entail s cs t)

pub returns-clause-rises : goal.returns-clause-rises
returns-clause-rises c =
    let cs = c.args.clauses.now in
    let t = c.args.target.now in
    let s = c.in_ok-symbols.symbols in
    let Q : Viewed → Type 0 = λ r. IsStrictlyIncreasing r.symbols in
    Forms-value Q c.entail_view_of.result (entail_steps_of s cs t) (entail_view_of s cs t) c.entail_view_of.ensures c.in_ok-symbols.ensures.rises
