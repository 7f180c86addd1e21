-- Most general substitutions on all variables of the clauses.
use Rattle.std.proofs.Common.{◌≡◌, ◌⊎◌, inl, inr, Bool, true, false, ◌||◌, List, [], refl, ap, sym, ◌∙◌}
use Rattle.term_base.specs.declared.symbols.Symbol.{Symbol}
use Rattle.term_base.specs.declared.variables.Variable.{Variable}
use Rattle.term_base.specs.Lits.{Lit, clause_occurs}
use Rattle.term_base.specs.Substitution.{put_in}
use Rattle.term_base.specs.TreeLemmas.{or-true, or-right, both_ways, same_head-refl}
use Rattle.term_base.specs.Trees.{Tree, var, node, occurs, same_head}
use Rattle.unifier.specs.Unifiers.{occurs_or, occurs_either_or, IsMostGeneral, IsMostGeneralPair, NoPair, NoUnifier, IsInImage, AreNumbered}
use Rattle.unifier.specs.Variables.{has}
use Rattle.hier_rules.specs.Conclusions.{Keeps, KeepsPair, NumbersOne, NumbersPair}
use Rattle.hier_rules.specs.Heads.{heads_meet}
use Rattle.hier_rules.specs.Occurrences.{clause_gathered}
use Rattle.hier_rules.proofs.OccurrenceLemmas.{has_is}

-- ---- most general substitutions on the clauses' variables

pub pair_on_clauses : (S : List Symbol) (c d : List Lit) (t u : Tree) (first second : List Variable) (s1 s2 : Variable → Tree)
    → first ≡ clause_gathered c [] → second ≡ clause_gathered d [] → IsMostGeneralPair S (occurs_or t first) (occurs_or u second) t u s1 s2
    → IsMostGeneralPair S (λ v. clause_occurs v c) (λ v. clause_occurs v d) t u s1 s2
pair_on_clauses S c d t u first second s1 s2 first_is second_is g = record {
  simple1 = g.simple1;
  simple2 = g.simple2;
  equal = g.equal;
  general = λ r1 r2 simple1 simple2 e.
      let w = g.general r1 r2 simple1 simple2 e in (
        w.0,
        (
          w.1.0,
          (
            (λ v o. w.1.1.0 v (or-right (occurs v t) (has first v) (has_is v c first first_is ∙ o))),
            (λ v o. w.1.1.1 v (or-right (occurs v u) (has second v) (has_is v d second second_is ∙ o))),
          ),
        ),
      );
}

pub one_on_clause : (S : List Symbol) (c : List Lit) (t u : Tree) (all : List Variable) (s : Variable → Tree)
    → all ≡ clause_gathered c [] → IsMostGeneral S (occurs_either_or t u all) t u s → IsMostGeneral S (λ v. clause_occurs v c) t u s
one_on_clause S c t u all s is g = record {
  simple = g.simple;
  equal = g.equal;
  general = λ r simple e.
      let w = g.general r simple e in
      (w.0, (w.1.0, (λ v o. w.1.1 v (or-right (occurs v t) (occurs v u || has all v) (or-right (occurs v u) (has all v) (has_is v c all is ∙ o))))));
}

-- ---- numbers

numbered_alike : (In Out : Variable → Type 0) → ((z : Variable) → Out z → In z) → ((z : Variable) → In z → Out z) → AreNumbered In → AreNumbered Out
numbered_alike In Out to back n = record {
  own = λ z w i j e. n.own z w (to z i) (to w j) e;
  all = λ z i k lt. let a = n.all z (to z i) k lt in (a.0, (back a.0 a.1.0, a.1.1));
}

image_alike : (V W : Variable → Bool) (s : Variable → Tree) → ((v : Variable) → V v ≡ true → W v ≡ true) → (z : Variable) → IsInImage V s z → IsInImage W s z
image_alike V W s f z i = record { from = i.from; within = f i.from i.within; below = i.below }

module _ (c : List Lit) (t : Tree) (all : List Variable) (is : all ≡ clause_gathered c []) (part : (v : Variable) → occurs v t ≡ true → clause_occurs v c ≡ true) where
  or_clause : (v : Variable) → occurs_or t all v ≡ true → clause_occurs v c ≡ true
  or_clause v h = elim (or-true (occurs v t) (has all v) h) [
    | inl o ↦ part v o
    | inr a ↦ sym (has_is v c all is) ∙ a
  ]

  clause_or : (v : Variable) → clause_occurs v c ≡ true → occurs_or t all v ≡ true
  clause_or v o = or-right (occurs v t) (has all v) (has_is v c all is ∙ o)

either_clause : (c : List Lit) (t u : Tree) (all : List Variable) → all ≡ clause_gathered c []
    → ((v : Variable) → occurs v t ≡ true → clause_occurs v c ≡ true) → ((v : Variable) → occurs v u ≡ true → clause_occurs v c ≡ true)
    → (v : Variable) → occurs_either_or t u all v ≡ true → clause_occurs v c ≡ true
either_clause c t u all is in_t in_u v h = elim (or-true (occurs v t) (occurs_or u all v) h) [
  | inl o ↦ in_t v o
  | inr k ↦ or_clause c u all is in_u v k
]

pub pair_numbered : (c d : List Lit) (t u : Tree) (first second : List Variable) (s1 s2 : Variable → Tree)
    → first ≡ clause_gathered c [] → second ≡ clause_gathered d []
    → ((v : Variable) → occurs v t ≡ true → clause_occurs v c ≡ true) → ((v : Variable) → occurs v u ≡ true → clause_occurs v d ≡ true)
    → AreNumbered (λ z. IsInImage (occurs_or t first) s1 z ⊎ IsInImage (occurs_or u second) s2 z) → NumbersPair c d s1 s2
pair_numbered c d t u first second s1 s2 first_is second_is in_c in_d n =
    numbered_alike (λ z. IsInImage (occurs_or t first) s1 z ⊎ IsInImage (occurs_or u second) s2 z)
    (λ z. IsInImage (λ v. clause_occurs v c) s1 z ⊎ IsInImage (λ v. clause_occurs v d) s2 z) to back n where
      to : (z : Variable) → (IsInImage (λ v. clause_occurs v c) s1 z ⊎ IsInImage (λ v. clause_occurs v d) s2 z) → (IsInImage (occurs_or t first) s1 z ⊎ IsInImage (occurs_or u second) s2 z)
      to z (inl i) = inl (image_alike (λ v. clause_occurs v c) (occurs_or t first) s1 (clause_or c t first first_is in_c) z i)
      to z (inr i) = inr (image_alike (λ v. clause_occurs v d) (occurs_or u second) s2 (clause_or d u second second_is in_d) z i)

      back : (z : Variable) → (IsInImage (occurs_or t first) s1 z ⊎ IsInImage (occurs_or u second) s2 z) → (IsInImage (λ v. clause_occurs v c) s1 z ⊎ IsInImage (λ v. clause_occurs v d) s2 z)
      back z (inl i) = inl (image_alike (occurs_or t first) (λ v. clause_occurs v c) s1 (or_clause c t first first_is in_c) z i)
      back z (inr i) = inr (image_alike (occurs_or u second) (λ v. clause_occurs v d) s2 (or_clause d u second second_is in_d) z i)

pub one_numbered : (c : List Lit) (t u : Tree) (all : List Variable) (s : Variable → Tree) → all ≡ clause_gathered c []
    → ((v : Variable) → occurs v t ≡ true → clause_occurs v c ≡ true) → ((v : Variable) → occurs v u ≡ true → clause_occurs v c ≡ true)
    → AreNumbered (IsInImage (occurs_either_or t u all) s) → NumbersOne c s
one_numbered c t u all s is in_t in_u n =
    numbered_alike (IsInImage (occurs_either_or t u all) s) (IsInImage (λ v. clause_occurs v c) s)
    (image_alike (λ v. clause_occurs v c) (occurs_either_or t u all) s (λ v o. or-right (occurs v t) (occurs_or u all v) (clause_or c u all is in_u v o)))
    (image_alike (occurs_either_or t u all) (λ v. clause_occurs v c) s (either_clause c t u all is in_t in_u)) n

-- ---- other variables

outside : (a b : Bool) → (a ≡ true → b ≡ true) → b ≡ false → a ≡ false
outside true b f h = absurd (both_ways b (f refl) h)
outside false b f h = refl

pub pair_kept : (c d : List Lit) (t u : Tree) (first second : List Variable) (s1 s2 : Variable → Tree)
    → first ≡ clause_gathered c [] → second ≡ clause_gathered d []
    → ((v : Variable) → occurs v t ≡ true → clause_occurs v c ≡ true) → ((v : Variable) → occurs v u ≡ true → clause_occurs v d ≡ true)
    → ((v : Variable) → occurs_or t first v ≡ false → s1 v ≡ var v) × ((v : Variable) → occurs_or u second v ≡ false → s2 v ≡ var v)
    → KeepsPair c d s1 s2
pair_kept c d t u first second s1 s2 first_is second_is in_c in_d h = (
  (λ v o. h.0 v (outside (occurs_or t first v) (clause_occurs v c) (or_clause c t first first_is in_c v) o)),
  (λ v o. h.1 v (outside (occurs_or u second v) (clause_occurs v d) (or_clause d u second second_is in_d v) o)),
)

pub one_kept : (c : List Lit) (t u : Tree) (all : List Variable) (s : Variable → Tree) → all ≡ clause_gathered c []
    → ((v : Variable) → occurs v t ≡ true → clause_occurs v c ≡ true) → ((v : Variable) → occurs v u ≡ true → clause_occurs v c ≡ true)
    → ((v : Variable) → occurs_either_or t u all v ≡ false → s v ≡ var v) → Keeps (λ v. clause_occurs v c) s
one_kept c t u all s is in_t in_u h v o =
    h v (outside (occurs_either_or t u all v) (clause_occurs v c) (either_clause c t u all is in_t in_u v) o)

-- ---- heads

heads_differ : (r1 r2 : Variable → Tree) (t u : Tree) → heads_meet t u ≡ false → put_in r1 t ≡ put_in r2 u → ⊥
heads_differ r1 r2 (var v) u h e = cc
heads_differ r1 r2 (node f xs) (var w) h e = cc
heads_differ r1 r2 (node f xs) (node g ys) h e =
    let same : g ≡ f = cc in
    both_ways (same_head f g) (ap (same_head f) same ∙ same_head-refl f) h

pub pair_apart : (S : List Symbol) (t u : Tree) → heads_meet t u ≡ false → NoPair S t u
pair_apart S t u h r1 r2 simple1 simple2 e = heads_differ r1 r2 t u h e

pub one_apart : (S : List Symbol) (t u : Tree) → heads_meet t u ≡ false → NoUnifier S t u
one_apart S t u h r simple e = heads_differ r r t u h e
