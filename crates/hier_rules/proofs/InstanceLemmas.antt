-- Instances, and conclusions of one candidate.
use Rattle.std.proofs.Common.{◌≡◌, ◌↔◌, ◌≤◌, inl, inr, List, refl, ap, sym, ◌∙◌, subst, arith}
use Rattle.term_base.specs.declared.symbols.Symbol.{Symbol}
use Rattle.term_base.specs.declared.variables.Variable.{Variable}
use Rattle.term_base.specs.LitLemmas.{clause_agree}
use Rattle.term_base.specs.Lits.{Lit, put_clause, Among}
use Rattle.term_base.specs.Redundancy.{Tautology, Covers}
use Rattle.term_base.specs.Substitution.{put_in, Simple}
use Rattle.term_base.specs.Trees.{Tree, var}
use Rattle.term_base.specs.Weight.{clause_weight}
use Rattle.hier_rules.specs.declared.inferences.Candidate.{Candidate}
use Rattle.hier_rules.specs.Fires.{Fires, IsInstance}
use Rattle.hier_rules.specs.RedundantBy.{IsConclusionOf, IsRedundant, AllRedundant}
use Rattle.redundancy_laws.proofs.Redundant.{put_clause-var, var-simple}

-- the laws of substitutions that these stand on
pub record Laws : Type 0 where
  pub after : (S : List Symbol) (r s : Variable → Tree) → Simple S r → Simple S s → Simple S (λ v. put_in r (s v))
  pub tautology : (s : Variable → Tree) (c : List Lit) → Tautology c → Tautology (put_clause s c)
  pub covered : (S : List Symbol) (s : Variable → Tree) → Simple S s → (e k : List Lit) → Covers S e k → Covers S e (put_clause s k)
  pub covers_by : (S : List Symbol) (s : Variable → Tree) → Simple S s → (e k : List Lit) → Covers S (put_clause s e) k → Covers S e k
  pub covers_more : (S : List Symbol) (e k : List Lit) → ((l : Lit) → Among l e → Among l k) → Covers S e k
  pub weighs : (s : Variable → Tree) (c : List Lit) → clause_weight c ≤ clause_weight (put_clause s c)

pub instance_itself : (S : List Symbol) (k : List Lit) → IsInstance S k k
instance_itself S k = record { by = var; simple = var-simple S; is = put_clause-var k }

module _ (laws : Laws) (S : List Symbol) where
  pub instance_after : (k e f : List Lit) → IsInstance S k e → IsInstance S e f → IsInstance S k f
  instance_after k e f a b = record {
    by = λ v. put_in b.by (a.by v);
    simple = laws.after S b.by a.by b.simple a.simple;
    is = sym (clause_agree b.by a.by (λ v. put_in b.by (a.by v)) k (λ v o. refl)) ∙ ap (put_clause b.by) a.is ∙ b.is;
  }

  pub tautology_instance : (k e : List Lit) → IsInstance S k e → Tautology k → Tautology e
  tautology_instance k e i t = subst Tautology i.is (laws.tautology i.by k t)

  pub covered_instance : (f k e : List Lit) → IsInstance S k e → Covers S f k → Covers S f e
  covered_instance f k e i c = subst (Covers S f) i.is (laws.covered S i.by i.simple f k c)

  pub covers_instance : (f e k : List Lit) → IsInstance S f e → Covers S e k → Covers S f k
  covers_instance f e k i c = laws.covers_by S i.by i.simple f k (subst (λ z. Covers S z k) (sym i.is) c)

  pub instance_covered : (k e : List Lit) → IsInstance S k e → Covers S k e
  instance_covered k e i = covers_instance k e e i (laws.covers_more S e e (λ l m. m))

  pub instance_weighs : (k e : List Lit) → IsInstance S k e → clause_weight k ≤ clause_weight e
  instance_weighs k e i = subst (λ z. clause_weight k ≤ clause_weight z) i.is (laws.weighs i.by k)

  -- ---- conclusions

  module _ (c d : List Lit) (x : Candidate) where
    pub least_weight : (k : List Lit) → IsConclusionOf S c d x k → (r1 r2 : Variable → Tree) (e : List Lit) → Fires S c d x r1 r2 e → clause_weight k ≤ clause_weight e
    least_weight k is r1 r2 e f = instance_weighs k e (is.covers r1 r2 e f)

    pub one_weight : (k m : List Lit) → IsConclusionOf S c d x k → IsConclusionOf S c d x m → clause_weight k ≡ clause_weight m
    one_weight k m a b =
        let one = least_weight k a b.s1 b.s2 m b.fires in
        let other = least_weight m b a.s1 a.s2 k a.fires in
        omega (arith, one, other)

    redundant_instance : (items : List (List Lit)) (k e : List Lit) → IsInstance S k e → IsRedundant S items k → IsRedundant S items e
    redundant_instance items k e i (inl t) = inl (tautology_instance k e i t)
    redundant_instance items k e i (inr h) = inr (h.0, (h.1.0, covered_instance h.0 k e i h.1.1))

    pub decides : (items : List (List Lit)) (k : List Lit) → IsConclusionOf S c d x k → AllRedundant S items c d x ↔ IsRedundant S items k
    decides items k is = (
      (λ all. all is.s1 is.s2 k is.fires),
      (λ h r1 r2 e f. redundant_instance items k e (is.covers r1 r2 e f) h),
    )
