-- What a verdict on the pool of clauses says of them.
use Rattle.std.specs.Prelude.{◌≡◌, ◌↔◌, ℕ, List, None, IsTrue}
use Rattle.std.specs.List.Sorted.{IsStrictlyIncreasing}
use Rattle.std.proofs.Common.{subst}
use Rattle.term_base.specs.declared.clauses.Clause.{Clause}
use Rattle.lin_base.specs.declared.facts.Pool.{Pool}
use Rattle.lin_base.specs.Sum.{Valuation}
use Rattle.lin_base.specs.Fact.{HoldsAt, Impossible, is_pool}
use Rattle.cert_tree.specs.Laws.{StandsImpossible, valuation}
use Rattle.bg_view.specs.declared.viewing.Viewed.{Viewed}
use Rattle.bg_view.specs.Unknowns.{symbols_of}
use Rattle.bg_view.specs.View.{view}
use Rattle.bg_view.specs.Truth.{Symbols, AreTrueAt, AreContradictory, GivesSymbols}
use Rattle.arithmetic_answers.specs.declared.deciding.Decision.{Decision}
use Rattle.arithmetic_answers.specs.declared.deciding.Decision.TheVariants.{EmptyClause, TooWide, Refuted, Satisfied, Unknown}
use Rattle.arithmetic_answers.specs.Decisions.{Decides, HasPool, first_empty, first_wide, value_of}
use Rattle.arithmetic_answers.specs.Judging.{IsVerdict}
use Rattle.arithmetic_answers.specs.Texts.{HasText}
use Rattle.arithmetic_answers.proofs.Spelling.{standing_is_spelled}
use Rattle.arithmetic_answers.proofs.Values.{gives_values}

-- the view of the clauses means them
pub record Means (cs : List Clause) (v : Viewed) : Type 0 where
  pub well_formed : IsTrue (is_pool v.pool)
  pub rises : IsStrictlyIncreasing v.symbols
  pub truth : (p : Symbols) (q : Valuation) → GivesSymbols v.symbols p q → HoldsAt v.pool q ↔ AreTrueAt p cs

module _ (impossible : StandsImpossible) (contradicts : (clauses : List Clause) → Impossible (view clauses).pool ↔ AreContradictory clauses) (cs : List Clause) (limit : ℕ) where
  of_view : (d : Decision) → HasPool cs → Means cs (view cs) → IsVerdict (view cs).pool limit d → Decides cs limit d
  of_view (EmptyClause k) pool means verdict = absurd verdict
  of_view (TooWide at) pool means verdict = absurd verdict
  of_view (Refuted cert) pool means verdict =
      let none = impossible (view cs).pool cert means.well_formed verdict in
      record { has_pool = pool; stands = verdict; impossible = none; contradictory = (contradicts cs).0 none }
  of_view (Satisfied values) pool means verdict =
      let gives = gives_values (symbols_of cs) values means.rises in record {
        has_pool = pool;
        solution = verdict;
        true_there = (means.truth (value_of (symbols_of cs) values) (valuation values) gives).0 verdict.true_there;
      }
  of_view (Unknown why) pool means verdict = record { has_pool = pool; cause = verdict }

  pub of_verdict : (v : Viewed) (d : Decision) → first_empty 0 cs ≡ None → first_wide cs ≡ None → v ≡ view cs → Means cs v → IsVerdict v.pool limit d → Decides cs limit d
  of_verdict v d none narrow is means verdict =
      let pool : HasPool cs = record { no_empty = none; narrow = narrow } in
      of_view d pool (subst (Means cs) is means) (subst (λ (w : Viewed). IsVerdict w.pool limit d) is verdict)

-- a decision by a verdict has a text
pub verdict_has_text : (pool : Pool) (limit : ℕ) (d : Decision) → IsVerdict pool limit d → HasText d
verdict_has_text pool limit (EmptyClause k) verdict = absurd verdict
verdict_has_text pool limit (TooWide at) verdict = absurd verdict
verdict_has_text pool limit (Refuted cert) verdict = standing_is_spelled pool cert verdict
verdict_has_text pool limit (Satisfied values) verdict = tt
verdict_has_text pool limit (Unknown why) verdict = tt
