-- Answers of the calls, taken apart.
use Rattle.std.proofs.Common.{List}
use Rattle.std.specs.Prelude.{Option, Some, None, Result, Ok, Err, IfOk, IfSome, IfNone, MatchOption}
use Rattle.term_base.specs.declared.symbols.Symbol.{Symbol}
use Rattle.term_base.specs.declared.variables.Variable.{Variable}
use Rattle.term_base.specs.Lits.{Lit, lits}
use Rattle.term_base.specs.Substitution.{image}
use Rattle.term_base.specs.Trees.{Tree}
use Rattle.hier_rules.specs.declared.inferences.Candidate.{Candidate}
use Rattle.hier_rules.specs.declared.inferences.Fired.{Fired}
use Rattle.hier_rules.specs.Conclusions.{Rule, IsConclusion, GivesNothing}
use Rattle.hier_rules.specs.Fires.{FiresBy, Fires, CoversAll, NothingFires}

-- what holds of each answer that is there
pub of_answer : {A E : Type 0} (r : Result (Option A) E) (P Q : A → Type 0) → ((a : A) → P a → Q a) → IfOk r (λ o. IfSome o P) → IfOk r (λ o. IfSome o Q)
of_answer (Ok None) P Q f h = tt
of_answer (Ok (Some a)) P Q f h = f a h
of_answer (Err e) P Q f h = tt

-- what follows from two facts of each answer that is there
pub of_both : {A E : Type 0} (r : Result (Option A) E) (P Q R : A → Type 0) → ((a : A) → P a → Q a → R a)
    → IfOk r (λ o. IfSome o P) → IfOk r (λ o. IfSome o Q) → IfOk r (λ o. IfSome o R)
of_both (Ok None) P Q R f h k = tt
of_both (Ok (Some a)) P Q R f h k = f a h k
of_both (Err e) P Q R f h k = tt

-- the conclusion of a rule is that of the candidates of the rule
module _ (S : List Symbol) (c d : List Lit) (candidate : Candidate) (rule : Rule)
    (to : (s1 s2 : Variable → Tree) (k : List Lit) → rule s1 s2 k → FiresBy S c d candidate s1 s2 k)
    (back : (s1 s2 : Variable → Tree) (k : List Lit) → FiresBy S c d candidate s1 s2 k → rule s1 s2 k) where
  abbrev Concludes : Option Fired → Type 0
  Concludes o = MatchOption o (GivesNothing S rule) (λ f. IsConclusion S rule (image f.s1) (image f.s2) (lits f.clause))

  pub rule_fires : {E : Type 0} (r : Result (Option Fired) E) → IfOk r Concludes
      → IfOk r (λ o. IfSome o (λ f. Fires S c d candidate (image f.s1) (image f.s2) (lits f.clause)))
  rule_fires (Ok None) h = tt
  rule_fires (Ok (Some f)) h = record { simple1 = h.simple1; simple2 = h.simple2; by_rule = to (image f.s1) (image f.s2) (lits f.clause) h.fires }
  rule_fires (Err e) h = tt

  pub rule_covers : {E : Type 0} (r : Result (Option Fired) E) → IfOk r Concludes → IfOk r (λ o. IfSome o (λ f. CoversAll S c d candidate (lits f.clause)))
  rule_covers (Ok None) h = tt
  rule_covers (Ok (Some f)) h = λ r1 r2 e g. h.covers r1 r2 e g.simple1 g.simple2 (back r1 r2 e g.by_rule)
  rule_covers (Err e) h = tt

  pub rule_refuses : {E : Type 0} (r : Result (Option Fired) E) → IfOk r Concludes → IfOk r (λ o. IfNone o (NothingFires S c d candidate))
  rule_refuses (Ok None) h = λ r1 r2 e g. h r1 r2 e g.simple1 g.simple2 (back r1 r2 e g.by_rule)
  rule_refuses (Ok (Some f)) h = tt
  rule_refuses (Err e) h = tt
