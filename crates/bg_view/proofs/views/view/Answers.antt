use Rattle.std.proofs.Common.{ℕ, List, length, subst}
use Rattle.std.specs.Prelude.{◌≡◌, ◌↔◌, true}
use Rattle.std.specs.List.Sorted.{IsStrictlyIncreasing}
use Rattle.lin_base.specs.Sum.{Valuation}
use Rattle.lin_base.specs.Fact.{HoldsAt, is_pool}
use Rattle.bg_view.specs.declared.viewing.Viewed.{Viewed}
use Rattle.bg_view.specs.View.{Forms, clauses_steps, view_of, view, view_steps}
use Rattle.bg_view.specs.Truth.{Symbols, GivesSymbols, AreTrueAt}
use Rattle.bg_view.proofs.Clauses.{Forms-value}
use Rattle.bg_view.proofs.PoolMeaning.{view_means}
use Rattle.bg_view.proofs.WellFormed.{is_pool-view}
use Rattle.bg_view.proofs.views.view.Goals as goal

pub returns-clause-truth : goal.returns-clause-truth
returns-clause-truth c =
    let cs = c.args.clauses.now in
    let P : List ℕ → Type 0 = λ s. Forms c.view_of.result (clauses_steps s (length s) cs) (view_of s cs) in
    let Q : Viewed → Type 0 = λ r. (p : Symbols) (q : Valuation) → GivesSymbols r.symbols p q → HoldsAt r.pool q ↔ AreTrueAt p cs in
    Forms-value Q c.view_of.result (view_steps cs) (view cs) (subst P c.in_ok-symbols.ensures.value c.view_of.ensures) (view_means cs)

pub returns-clause-well_formed : goal.returns-clause-well_formed
returns-clause-well_formed c =
    let cs = c.args.clauses.now in
    let s = c.in_ok-symbols.symbols in
    let Q : Viewed → Type 0 = λ r. is_pool r.pool ≡ true in
    Forms-value Q c.view_of.result (clauses_steps s (length s) cs) (view_of s cs) c.view_of.ensures (is_pool-view s cs)

pub returns-clause-rises : goal.returns-clause-rises
returns-clause-rises c =
    let cs = c.args.clauses.now in
    let s = c.in_ok-symbols.symbols in
    let Q : Viewed → Type 0 = λ r. IsStrictlyIncreasing r.symbols in
    Forms-value Q c.view_of.result (clauses_steps s (length s) cs) (view_of s cs) c.view_of.ensures c.in_ok-symbols.ensures.rises
