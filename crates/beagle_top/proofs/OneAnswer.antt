-- At most one answer is due, up to what a judge says.
use Rattle.std.proofs.Common.{◌≡◌, ◌∙◌, ℕ, Bool, List, [], ◌∷◌, length, refl, sym, ap, subst, inl, inr, arith}
use Rattle.std.specs.Prelude.{is_some}
use Rattle.std.proofs.lemmas.Bool.{false≢true}
use Rattle.term_base.specs.declared.clauses.Clause.{Clause}
use Rattle.options.specs.declared.asked.Options.{Options}
use Rattle.options.specs.declared.asked.Mode.{Mode}
use Rattle.options.specs.declared.asked.Mode.TheVariants.{Prove, Check, Make}
use Rattle.formula_base.specs.declared.problems.Problem.{Problem}
use Rattle.tff_reader.specs.declared.refusals.Refused.{Refused}
use Rattle.tff_reader.specs.Answer.{IsProblem, IsRefused}
use Rattle.normal_form.specs.Clauses.{count_of, max_clauses}
use Rattle.bg_view.specs.declared.viewing.WideAt.{WideAt}
use Rattle.arithmetic_answers.specs.declared.deciding.Decision.{Decision}
use Rattle.arithmetic_answers.specs.declared.deciding.Decision.TheVariants.{EmptyClause, TooWide}
use Rattle.arithmetic_answers.specs.Decisions.{Decides, first_empty, first_wide, queries_of}
use Rattle.proof_steps.specs.declared.steps.Derivation.{Derivation}
use Rattle.proof_text.specs.declared.kinds.Status.{Status}
use Rattle.proof_text.specs.Derivations.{Spells}
use Rattle.arithmetic_answers.specs.Derivations.{empty_clause_derivation, szs_status}
use Rattle.arithmetic_answers.specs.Texts.{Tells, wide_line}
use Rattle.proof_check.specs.declared.checked.Checked.{Checked}
use Rattle.proof_check.specs.Checks.{Finds}
use Rattle.beagle_top.specs.Texts.{found, refused}
use Rattle.beagle_top.specs.Answer.{IsCheck, IsDueFor, IsDueIn, IsProof, IsReading, Limited, Refuses, clauses_of, decided, fault, foreground, found_status, input_limit, many, read, status_of}
use Rattle.beagle_top.specs.Meaning.{IsOneAnswer}
use Rattle.beagle_top.proofs.Deciding.{HowDecided, by_clause, by_query, by_range, how, no_value, not_both, one_value, zero_or_one}

-- ---- refusals
both_refused : (l m a b x y : List ℕ) (s t : ℕ) → Refuses l a s x → Refuses m b t y → l ≡ m → IsOneAnswer a b s t x y
both_refused l m a b x y s t f g e = record {
  queries = f.asked_is ∙ sym g.asked_is;
  without = λ _. (f.status_is ∙ sym g.status_is, f.text_is ∙ (e ∙ sym g.text_is));
  apart = λ zero one. let three = f.status_is in absurd (omega (arith, three, zero));
}

-- ---- decisions
abbrev OneSpelling : Type 0
OneSpelling = (p : Status × Derivation) (text other : List ℕ) → Spells p text → Spells p other → text ≡ other

module _ (spelling : OneSpelling) (ordinary has_conjecture : Bool) (cs : List Clause) (limit : ℕ) (d e : Decision) (h : Decides cs limit d) (i : Decides cs limit e)
    (a b x y : List ℕ) (s t : ℕ) (p : a ≡ queries_of d) (q : b ≡ queries_of e) (m : s ≡ status_of d) (n : t ≡ status_of e)
    (f : Tells ordinary has_conjecture cs d x) (g : Tells ordinary has_conjecture cs e y) where
  never_apart : s ≡ 0 → t ≡ 1 → ⊥
  never_apart zero one = zero_or_one cs limit d e h i (sym zero ∙ m) (sym one ∙ n)

  -- both are one decision without a query
  same_decision : (c : Decision) → queries_of c ≡ [] → d ≡ c → e ≡ c → x ≡ y → IsOneAnswer a b s t x y
  same_decision c none u v same = record {
    queries = p ∙ (ap queries_of (u ∙ sym v) ∙ sym q);
    without = λ _. (m ∙ (ap status_of (u ∙ sym v) ∙ sym n), same);
    apart = never_apart;
  }

  -- both took a query
  both_asked : queries_of d ≡ 0 ∷ [] → queries_of e ≡ 0 ∷ [] → IsOneAnswer a b s t x y
  both_asked u v = record {
    queries = p ∙ (u ∙ (sym v ∙ sym q));
    without = λ none. let same : ◌≡◌ {A = List ℕ} [] (0 ∷ []) = sym none ∙ (p ∙ u) in cc;
    apart = never_apart;
  }

  one_decision : HowDecided cs d → HowDecided cs e → IsOneAnswer a b s t x y
  one_decision (by_clause k u v) (by_clause l w z) =
      let same = one_value (first_empty 0 cs) l k w u in
      let first : ℕ → Status × Derivation = λ n. (szs_status has_conjecture, empty_clause_derivation ordinary n) in
      let xs : Spells (first k) x = subst (λ (c : Decision). Tells ordinary has_conjecture cs c x) v f in
      let ys : Spells (first l) y = subst (λ (c : Decision). Tells ordinary has_conjecture cs c y) z g in
      same_decision (EmptyClause k) refl v (z ∙ ap (λ (n : ℕ). EmptyClause n) same)
      (spelling (first k) x y xs (subst (λ (n : ℕ). Spells (first n) y) same ys))
  one_decision (by_clause k u v) (by_range at w z) = absurd (no_value (first_empty 0 cs) k u w.no_empty)
  one_decision (by_clause k u v) (by_query pool z) = absurd (no_value (first_empty 0 cs) k u pool.no_empty)
  one_decision (by_range at u v) (by_clause k w z) = absurd (no_value (first_empty 0 cs) k w u.no_empty)
  one_decision (by_range at u v) (by_range there w z) =
      let same = one_value (first_wide cs) there at w.wide u.wide in
      let xs : x ≡ wide_line at.wide = subst (λ (c : Decision). Tells ordinary has_conjecture cs c x) v f in
      let ys : y ≡ wide_line there.wide = subst (λ (c : Decision). Tells ordinary has_conjecture cs c y) z g in
      same_decision (TooWide at) refl v (z ∙ ap (λ (a : WideAt). TooWide a) same) (xs ∙ (ap (λ (w : WideAt). wide_line w.wide) (sym same) ∙ sym ys))
  one_decision (by_range at u v) (by_query pool z) = absurd (no_value (first_wide cs) at u.wide pool.narrow)
  one_decision (by_query pool u) (by_clause k w z) = absurd (no_value (first_empty 0 cs) k w pool.no_empty)
  one_decision (by_query pool u) (by_range at w z) = absurd (no_value (first_wide cs) at w.wide pool.narrow)
  one_decision (by_query pool u) (by_query also v) = both_asked u v

-- ---- problems
one_proof : OneSpelling → (o : Options) (p : Problem) (a b : List ℕ) (s t : ℕ) (x y : List ℕ) → IsProof o p a s x → IsProof o p b t y → IsOneAnswer a b s t x y
one_proof spelling o p a b s t x y (many over f) (many also g) = both_refused _ _ a b x y s t f g refl
one_proof spelling o p a b s t x y (many over f) (foreground few other g) = absurd (not_both max_clauses (count_of p) over few)
one_proof spelling o p a b s t x y (many over f) (decided d few all h q n g) = absurd (not_both max_clauses (count_of p) over few)
one_proof spelling o p a b s t x y (foreground few other f) (many over g) = absurd (not_both max_clauses (count_of p) over few)
one_proof spelling o p a b s t x y (foreground few other f) (foreground also too g) = both_refused _ _ a b x y s t f g refl
one_proof spelling o p a b s t x y (foreground few other f) (decided d also all h q n g) = absurd (false≢true (sym other ∙ all))
one_proof spelling o p a b s t x y (decided d few all h q n f) (many over g) = absurd (not_both max_clauses (count_of p) over few)
one_proof spelling o p a b s t x y (decided d few all h q n f) (foreground also other g) = absurd (false≢true (sym other ∙ all))
one_proof spelling o p a b s t x y (decided d few all h q n f) (decided e also too i r k g) =
    let cs = clauses_of p o.ordinary in
    one_decision spelling o.ordinary (is_some p.conjecture) cs o.judge_steps d e h i a b x y s t q r n k f g (how cs o.judge_steps d h) (how cs o.judge_steps e i)

-- ---- checks
-- a check asks nothing, and what it finds has one status and one line
one_check : ((bytes : List ℕ) (c d : Checked) → Finds bytes c → Finds bytes d → c ≡ d) → (bytes a b : List ℕ) (s t : ℕ) (x y : List ℕ)
    → IsCheck bytes a s x → IsCheck bytes b t y → IsOneAnswer a b s t x y
one_check one bytes a b s t x y f g =
    let same : f.checked ≡ g.checked = one bytes f.checked g.checked f.finds g.finds in
    let status : s ≡ t = f.status_is ∙ (ap found_status same ∙ sym g.status_is) in record {
      queries = f.asked_is ∙ sym g.asked_is;
      without = λ _. (status, f.text_is ∙ (ap found same ∙ sym g.text_is));
      apart = λ zero one. absurd (omega (arith, status, zero, one));
    }

-- ---- bytes
module _ (problem : (bytes : List ℕ) (p q : Problem) → IsProblem bytes p → IsProblem bytes q → p ≡ q)
    (refusal : (bytes : List ℕ) (r s : Refused) → IsRefused bytes r → IsRefused bytes s → r ≡ s)
    (apart : (bytes : List ℕ) (p : Problem) (r : Refused) → IsProblem bytes p → IsRefused bytes r → ⊥)
    (finding : (bytes : List ℕ) (c d : Checked) → Finds bytes c → Finds bytes d → c ≡ d) (spelling : OneSpelling) where
  one_reading : (Due : Problem → List ℕ → ℕ → List ℕ → Type 0)
      → ((p : Problem) (a b : List ℕ) (s t : ℕ) (x y : List ℕ) → Due p a s x → Due p b t y → IsOneAnswer a b s t x y)
      → (bytes a b : List ℕ) (s t : ℕ) (x y : List ℕ) → IsReading Due bytes a s x → IsReading Due bytes b t y → IsOneAnswer a b s t x y
  one_reading Due one bytes a b s t x y (fault r is f) (fault q also g) = both_refused _ _ a b x y s t f g (ap refused (refusal bytes r q is also))
  one_reading Due one bytes a b s t x y (fault r is f) (read p also g) = absurd (apart bytes p r also is)
  one_reading Due one bytes a b s t x y (read p is f) (fault r also g) = absurd (apart bytes p r is also)
  one_reading Due one bytes a b s t x y (read p is f) (read q also g) =
      one p a b s t x y f (subst (λ (z : Problem). Due z b t y) (problem bytes q p also is) g)

  one_limited : (bytes : List ℕ) (Due : List ℕ → ℕ → List ℕ → Type 0) (a b : List ℕ) (s t : ℕ) (x y : List ℕ)
      → (Due a s x → Due b t y → IsOneAnswer a b s t x y) → Limited bytes Due a s x → Limited bytes Due b t y → IsOneAnswer a b s t x y
  one_limited bytes Due a b s t x y one (inl f) (inl g) = both_refused _ _ a b x y s t f.1 g.1 refl
  one_limited bytes Due a b s t x y one (inl f) (inr g) = absurd (not_both input_limit (length bytes) f.0 g.0)
  one_limited bytes Due a b s t x y one (inr f) (inl g) = absurd (not_both input_limit (length bytes) g.0 f.0)
  one_limited bytes Due a b s t x y one (inr f) (inr g) = one f.1 g.1

  one_in : (m : Mode) (o : Options) (bytes a b : List ℕ) (s t : ℕ) (x y : List ℕ) → IsDueIn m o bytes a s x → IsDueIn m o bytes b t y → IsOneAnswer a b s t x y
  one_in Prove o bytes a b s t x y f g =
      one_limited bytes (IsReading (IsProof o) bytes) a b s t x y (one_reading (IsProof o) (one_proof spelling o) bytes a b s t x y) f g
  one_in Check o bytes a b s t x y f g =
      one_limited bytes (IsCheck bytes) a b s t x y (one_check finding bytes a b s t x y) f g
  one_in (Make number) o bytes a b s t x y f g = absurd f

  pub one_due : (o : Options) (bytes a b : List ℕ) (s t : ℕ) (x y : List ℕ) → IsDueFor o bytes a s x → IsDueFor o bytes b t y → IsOneAnswer a b s t x y
  one_due o bytes a b s t x y f g = one_in o.mode o bytes a b s t x y f g
