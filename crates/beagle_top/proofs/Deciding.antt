-- What follows from a decision of the clauses.
use Rattle.std.proofs.Common.{◌≡◌, ◌<◌, ◌≤◌, ◌∙◌, ℕ, ℤ, Bool, List, [], ◌∷◌, Option, Some, None, refl, sym, ap, inl, inr, arith}
use Rattle.std.specs.Prelude.{◌^◌}
use Rattle.term_base.specs.declared.clauses.Clause.{Clause}
use Rattle.cert_tree.specs.Measures.{bulk, span, depth}
use Rattle.judge_base.specs.declared.verdicts.Why.{Why}
use Rattle.judge_base.specs.declared.verdicts.Why.TheVariants.{Spent, Wide, Deep}
use Rattle.judge_base.specs.Verdicts.{IsCause, max_depth}
use Rattle.lin_base.specs.declared.facts.Pool.{Pool}
use Rattle.bg_view.specs.declared.viewing.WideAt.{WideAt}
use Rattle.bg_view.specs.Truth.{AreContradictory, AreTrueAt, Symbols}
use Rattle.bg_view.specs.Unknowns.{symbols_of}
use Rattle.arithmetic_answers.specs.declared.deciding.Decision.{Decision}
use Rattle.arithmetic_answers.specs.declared.deciding.Decision.TheVariants.{EmptyClause, TooWide, Refuted, Satisfied, Unknown}
use Rattle.arithmetic_answers.specs.Decisions.{Decides, HasPool, HasWide, IsPast, first_empty, first_wide, pool_of, queries_of, value_of}
use Rattle.arithmetic_answers.specs.Texts.{Tells, saturated_list, unknown_line, wide_line}
use Rattle.beagle_top.specs.Answer.{IsDecided, status_of}

-- an option has one value
pub one_value : {A : Type 0} (o : Option A) (a b : A) → o ≡ Some a → o ≡ Some b → a ≡ b
one_value {A} o a b e f =
    let same : ◌≡◌ {A = Option A} (Some a) (Some b) = sym e ∙ f in
    cc

-- and not also none
pub no_value : {A : Type 0} (o : Option A) (a : A) → o ≡ Some a → o ≡ None → ⊥
no_value {A} o a e f =
    let same : ◌≡◌ {A = Option A} (Some a) None = sym e ∙ f in
    cc

pub not_both : (m n : ℕ) → m < n → n ≤ m → ⊥
not_both m n l k = absurd (omega (arith, l, k))

-- ---- what a status says
-- a derivation: the clauses contradict each other
pub zero_contradicts : (cs : List Clause) (limit : ℕ) (d : Decision) → Decides cs limit d → 0 ≡ status_of d → AreContradictory cs
zero_contradicts cs limit (EmptyClause k) h e = h.contradictory
zero_contradicts cs limit (TooWide at) h e = absurd (omega (arith, e))
zero_contradicts cs limit (Refuted cert) h e = h.contradictory
zero_contradicts cs limit (Satisfied values) h e = absurd (omega (arith, e))
zero_contradicts cs limit (Unknown why) h e = absurd (omega (arith, e))

-- a saturated list: its values make the clauses true
pub record Values (ordinary has_conjecture : Bool) (cs : List Clause) (text : List ℕ) : Type 0 where
  pub values : List ℤ
  pub printed : text ≡ saturated_list ordinary cs values
  pub true_there : AreTrueAt (value_of (symbols_of cs) values) cs

pub one_is_true : (ordinary has_conjecture : Bool) (cs : List Clause) (limit : ℕ) (d : Decision) (text : List ℕ)
    → Decides cs limit d → 1 ≡ status_of d → Tells ordinary has_conjecture cs d text → Values ordinary has_conjecture cs text
one_is_true ordinary has_conjecture cs limit (EmptyClause k) text h e t = absurd (omega (arith, e))
one_is_true ordinary has_conjecture cs limit (TooWide at) text h e t = absurd (omega (arith, e))
one_is_true ordinary has_conjecture cs limit (Refuted cert) text h e t = absurd (omega (arith, e))
one_is_true ordinary has_conjecture cs limit (Satisfied values) text h e t = record { values = values; printed = t; true_there = h.true_there }
one_is_true ordinary has_conjecture cs limit (Unknown why) text h e t = absurd (omega (arith, e))

-- the model of a saturated list
pub one_has_model : (cs : List Clause) (limit : ℕ) (d : Decision) → Decides cs limit d → 1 ≡ status_of d → (p : Symbols) × AreTrueAt p cs
one_has_model cs limit (EmptyClause k) h e = absurd (omega (arith, e))
one_has_model cs limit (TooWide at) h e = absurd (omega (arith, e))
one_has_model cs limit (Refuted cert) h e = absurd (omega (arith, e))
one_has_model cs limit (Satisfied values) h e = (value_of (symbols_of cs) values, h.true_there)
one_has_model cs limit (Unknown why) h e = absurd (omega (arith, e))

-- no clauses have a derivation and a saturated list
pub zero_or_one : (cs : List Clause) (limit : ℕ) (d e : Decision) → Decides cs limit d → Decides cs limit e → 0 ≡ status_of d → 1 ≡ status_of e → ⊥
zero_or_one cs limit d e h i zero one =
    let model = one_has_model cs limit e i one in
    zero_contradicts cs limit d h zero model.0 model.1

-- ---- what a line says
pub record WideLine (cs : List Clause) (text : List ℕ) : Type 0 where
  pub at : WideAt
  pub wide : HasWide cs at
  pub printed : text ≡ wide_line at.wide

-- given up without a query
pub two_is_wide : (ordinary has_conjecture : Bool) (cs : List Clause) (limit : ℕ) (d : Decision) (text : List ℕ)
    → Decides cs limit d → 2 ≡ status_of d → [] ≡ queries_of d → Tells ordinary has_conjecture cs d text → WideLine cs text
two_is_wide ordinary has_conjecture cs limit (EmptyClause k) text h e q t = absurd (omega (arith, e))
two_is_wide ordinary has_conjecture cs limit (TooWide at) text h e q t = record { at = at; wide = h; printed = t }
two_is_wide ordinary has_conjecture cs limit (Refuted cert) text h e q t = absurd (omega (arith, e))
two_is_wide ordinary has_conjecture cs limit (Satisfied values) text h e q t = absurd (omega (arith, e))
two_is_wide ordinary has_conjecture cs limit (Unknown why) text h e q t =
    let bad : ◌≡◌ {A = List ℕ} [] (0 ∷ []) = q in
    cc

pub record UnknownLine (cs : List Clause) (limit : ℕ) (text : List ℕ) : Type 0 where
  pub why : Why
  pub past : IsPast cs limit why
  pub printed : text ≡ unknown_line why

-- given up with a query
pub two_is_unknown : (ordinary has_conjecture : Bool) (cs : List Clause) (limit : ℕ) (d : Decision) (text : List ℕ)
    → Decides cs limit d → 2 ≡ status_of d → 0 ∷ [] ≡ queries_of d → Tells ordinary has_conjecture cs d text → UnknownLine cs limit text
two_is_unknown ordinary has_conjecture cs limit (EmptyClause k) text h e q t = absurd (omega (arith, e))
two_is_unknown ordinary has_conjecture cs limit (TooWide at) text h e q t =
    let bad : ◌≡◌ {A = List ℕ} (0 ∷ []) [] = q in
    cc
two_is_unknown ordinary has_conjecture cs limit (Refuted cert) text h e q t = absurd (omega (arith, e))
two_is_unknown ordinary has_conjecture cs limit (Satisfied values) text h e q t = absurd (omega (arith, e))
two_is_unknown ordinary has_conjecture cs limit (Unknown why) text h e q t = record { why = why; past = h; printed = t }

-- where the pool leaves the range
pub record IsWideDecision (ordinary has_conjecture : Bool) (cs : List Clause) (at : WideAt) (d : Decision) (text : List ℕ) : Type 0 where
  pub queries : queries_of d ≡ []
  pub status : status_of d ≡ 2
  pub printed : text ≡ wide_line at.wide

no_pool : {A : Type 0} (cs : List Clause) (at : WideAt) → HasWide cs at → HasPool cs → A
no_pool cs at wide pool = absurd (no_value (first_wide cs) at wide.wide pool.narrow)

pub wide_decides : (ordinary has_conjecture : Bool) (cs : List Clause) (limit : ℕ) (at : WideAt) (d : Decision) (text : List ℕ)
    → HasWide cs at → Decides cs limit d → Tells ordinary has_conjecture cs d text → IsWideDecision ordinary has_conjecture cs at d text
wide_decides ordinary has_conjecture cs limit at (EmptyClause k) text wide h t = absurd (no_value (first_empty 0 cs) k h.first wide.no_empty)
wide_decides ordinary has_conjecture cs limit at (TooWide there) text wide h t =
    record { queries = refl; status = refl; printed = t ∙ ap (λ (a : WideAt). wide_line a.wide) (one_value (first_wide cs) there at h.wide wide.wide) }
wide_decides ordinary has_conjecture cs limit at (Refuted cert) text wide h t = no_pool cs at wide h.has_pool
wide_decides ordinary has_conjecture cs limit at (Satisfied values) text wide h t = no_pool cs at wide h.has_pool
wide_decides ordinary has_conjecture cs limit at (Unknown why) text wide h t = no_pool cs at wide h.has_pool

-- ---- measures
-- no measure is past its limit
no_cause : (pool : Pool) (limit : ℕ) (why : Why) → bulk pool ≤ limit → span pool < 2 ^ 127 → depth pool ≤ max_depth → IsCause pool limit why → ⊥
no_cause pool limit Spent b s d cause = not_both limit (bulk pool) cause b
no_cause pool limit Wide b s d cause = not_both (span pool) (2 ^ 127) s cause
no_cause pool limit Deep b s d cause = not_both max_depth (depth pool) cause d

pub measured_decides : (cs : List Clause) (limit : ℕ) (d : Decision) → first_wide cs ≡ None → bulk (pool_of cs) ≤ limit → span (pool_of cs) < 2 ^ 127
    → depth (pool_of cs) ≤ max_depth → Decides cs limit d → IsDecided (status_of d)
measured_decides cs limit (EmptyClause k) narrow b s p h = inl refl
measured_decides cs limit (TooWide at) narrow b s p h = absurd (no_value (first_wide cs) at h.wide narrow)
measured_decides cs limit (Refuted cert) narrow b s p h = inl refl
measured_decides cs limit (Satisfied values) narrow b s p h = inr refl
measured_decides cs limit (Unknown why) narrow b s p h = absurd (no_cause (pool_of cs) limit why b s p h.cause)

-- ---- two decisions
-- how it was decided: by an empty clause, by a number that leaves the range, or by a query
pub data HowDecided (cs : List Clause) (d : Decision) : Type 0 where
  by_clause : (k : ℕ) → first_empty 0 cs ≡ Some k → d ≡ EmptyClause k → HowDecided cs d
  by_range : (at : WideAt) → HasWide cs at → d ≡ TooWide at → HowDecided cs d
  by_query : HasPool cs → queries_of d ≡ 0 ∷ [] → HowDecided cs d

pub how : (cs : List Clause) (limit : ℕ) (d : Decision) → Decides cs limit d → HowDecided cs d
how cs limit (EmptyClause k) h = by_clause k h.first refl
how cs limit (TooWide at) h = by_range at h refl
how cs limit (Refuted cert) h = by_query h.has_pool refl
how cs limit (Satisfied values) h = by_query h.has_pool refl
how cs limit (Unknown why) h = by_query h.has_pool refl
