-- Superposition by most general substitutions: what fires for any others is an instance.
use Rattle.std.proofs.Common.{◌≡◌, ℕ, true, List, ◌++◌, refl, ap, sym, ◌∙◌, subst}
use Rattle.std.specs.Prelude.{Some}
use Rattle.std.specs.Option.{option_and_then}
use Rattle.term_base.specs.declared.places.Place.{Place}
use Rattle.term_base.specs.declared.places.Side.{Side}
use Rattle.term_base.specs.declared.symbols.Symbol.{Symbol}
use Rattle.term_base.specs.declared.variables.Variable.{Variable}
use Rattle.term_base.specs.Trees.{Tree}
use Rattle.term_base.specs.Substitution.{put_in, Simple}
use Rattle.term_base.specs.Lits.{Lit, put_lit, put_clause, clause_occurs}
use Rattle.term_base.specs.LitLemmas.{other-put, left_out-put, item-put, clause_agree, member_agree, clause_append}
use Rattle.term_base.specs.Places.{named, other, left_out, item, at_path, tree_at, replaced}
use Rattle.unifier.specs.Unifiers.{NoPair}
use Rattle.hier_rules.specs.Admitted.{AdmitsSuperposition}
use Rattle.hier_rules.specs.Conclusions.{IsConclusion, GivesNothing, UnifiesPair}
use Rattle.hier_rules.specs.Fires.{Superposes}
use Rattle.hier_rules.specs.Premises.{Superposable}
use Rattle.hier_rules.specs.Rules.{ReplacesBy, ReplacedIn, superposed}
use Rattle.hier_rules.proofs.OptionLemmas.{some_same}
use Rattle.hier_rules.proofs.StableLemmas.{OrderLaws, PlaceLaws, replaces_before, replaced_before}

-- the conclusion of the instances is the instance of the conclusion
superposed_put : PlaceLaws → (q : Variable → Tree) (c d : List Lit) (n : ℕ) (side : Side) (place : Place) (l : Lit) (u : Tree) → tree_at d place ≡ Some u
    → put_clause q (superposed c d n side place l) ≡ superposed (put_clause q c) (put_clause q d) n side place (put_lit q l)
superposed_put laws q c d n side place l u there =
    clause_append q (left_out n c) (replaced d place (other side l))
    ∙ ap (λ k. k ++ put_clause q (replaced d place (other side l))) (sym (left_out-put q n c))
    ∙ ap (λ k. left_out n (put_clause q c) ++ k) (sym (laws.replacing_commutes d place u there q (other side l)))
    ∙ ap (λ t. left_out n (put_clause q c) ++ replaced (put_clause q d) place t) (sym (other-put q side l))

-- the place of the second premise
pub place_there : {S : List Symbol} {c d : List Lit} {n : ℕ} (place : Place) {l m : Lit} {u : Tree} → Superposable S c d n place l m u → tree_at d place ≡ Some u
place_there place p = ap (option_and_then (λ z. at_path place.path (named place.side z))) p.into ∙ p.there

module _ (order : OrderLaws) (at_places : PlaceLaws) (S : List Symbol) (c d : List Lit) (n : ℕ) (side : Side) (place : Place) (s1 s2 : Variable → Tree) (by : UnifiesPair S c d n side place s1 s2) where
  abbrev c1 : List Lit
  c1 = put_clause s1 c

  abbrev d1 : List Lit
  d1 = put_clause s2 d

  abbrev l1 : Lit
  l1 = put_lit s1 by.l

  abbrev m1 : Lit
  m1 = put_lit s2 by.m

  -- the conclusion
  abbrev k1 : List Lit
  k1 = superposed c1 d1 n side place l1

  l1_there : item n c1 ≡ Some l1
  l1_there = item-put s1 n c by.l by.premises.from.there

  m1_there : item place.literal d1 ≡ Some m1
  m1_there = item-put s2 place.literal d by.m by.premises.into

  -- whatever fires has the same literals and the same term
  module _ (r1 r2 : Variable → Tree) (e : List Lit) (simple1 : Simple S r1) (simple2 : Simple S r2) (f : Superposes S c d n side place r1 r2 e) where
    same_l : f.l ≡ by.l
    same_l = some_same (item n c) f.l by.l f.premises.from.there by.premises.from.there

    same_m : f.m ≡ by.m
    same_m = some_same (item place.literal d) f.m by.m f.premises.into by.premises.into

    same_u : f.u ≡ by.u
    same_u = some_same (tree_at d place) f.u by.u (place_there place f.premises) (place_there place by.premises)

    common : put_in r1 (named side by.l) ≡ put_in r2 by.u
    common = ap (λ z. put_in r1 (named side z)) (sym same_l) ∙ f.common ∙ ap (put_in r2) same_u

    abbrev after : (q : Variable → Tree) × (Simple S q × (((v : Variable) → clause_occurs v c ≡ true → put_in q (s1 v) ≡ r1 v) × ((v : Variable) → clause_occurs v d ≡ true → put_in q (s2 v) ≡ r2 v)))
    after = by.general.general r1 r2 simple1 simple2 common

    abbrev q : Variable → Tree
    q = after.0

    c_is : put_clause q c1 ≡ put_clause r1 c
    c_is = clause_agree q s1 r1 c after.1.1.0

    d_is : put_clause q d1 ≡ put_clause r2 d
    d_is = clause_agree q s2 r2 d after.1.1.1

    l_is : put_lit q l1 ≡ put_lit r1 f.l
    l_is = member_agree q s1 r1 n c by.l by.premises.from.there after.1.1.0 ∙ ap (put_lit r1) (sym same_l)

    m_is : put_lit q m1 ≡ put_lit r2 f.m
    m_is = member_agree q s2 r2 place.literal d by.m by.premises.into after.1.1.1 ∙ ap (put_lit r2) (sym same_m)

    from : ReplacesBy S c1 n side l1
    from = replaces_before order S q after.1.0 c1 n side l1
        (subst (λ z. ReplacesBy S z n side (put_lit q l1)) (sym c_is) (subst (ReplacesBy S (put_clause r1 c) n side) (sym l_is) f.from))

    into : ReplacedIn S d1 place m1
    into = replaced_before order S q after.1.0 d1 place m1
        (subst (λ z. ReplacedIn S z place (put_lit q m1)) (sym d_is) (subst (ReplacedIn S (put_clause r2 d) place) (sym m_is) f.into))

    admitted : AdmitsSuperposition S c1 d1 n side place k1
    admitted = record { l = l1; m = m1; from_is = l1_there; into_is = m1_there; from = from; into = into; is = refl }

    covered : put_clause q k1 ≡ e
    covered =
        superposed_put at_places q c1 d1 n side place l1 (put_in s2 by.u) (at_places.places_stay d place by.u (place_there place by.premises) s2)
        ∙ ap (λ z. superposed z (put_clause q d1) n side place (put_lit q l1)) c_is
        ∙ ap (λ z. superposed (put_clause r1 c) z n side place (put_lit q l1)) d_is
        ∙ ap (superposed (put_clause r1 c) (put_clause r2 d) n side place) l_is
        ∙ sym f.conclusion

  pub superposition_concluded : (k : List Lit) → AdmitsSuperposition S c1 d1 n side place k → IsConclusion S (Superposes S c d n side place) s1 s2 k
  superposition_concluded k a =
      let same_l1 : a.l ≡ l1 = some_same (item n c1) a.l l1 a.from_is l1_there in
      let same_m1 : a.m ≡ m1 = some_same (item place.literal d1) a.m m1 a.into_is m1_there in
      let is : k ≡ k1 = a.is ∙ ap (superposed c1 d1 n side place) same_l1 in
      record {
        simple1 = by.general.simple1;
        simple2 = by.general.simple2;
        fires = record {
          l = by.l;
          m = by.m;
          u = by.u;
          premises = by.premises;
          common = by.general.equal;
          from = subst (ReplacesBy S c1 n side) same_l1 a.from;
          into = subst (ReplacedIn S d1 place) same_m1 a.into;
          conclusion = is;
        };
        covers = λ r1 r2 e simple1 simple2 f. record {
          by = q r1 r2 e simple1 simple2 f;
          simple = (after r1 r2 e simple1 simple2 f).1.0;
          is = ap (put_clause (q r1 r2 e simple1 simple2 f)) is ∙ covered r1 r2 e simple1 simple2 f;
        };
      }

  pub superposition_refused : ((k : List Lit) → AdmitsSuperposition S c1 d1 n side place k → ⊥) → GivesNothing S (Superposes S c d n side place)
  superposition_refused refuted r1 r2 e simple1 simple2 f = refuted k1 (admitted r1 r2 e simple1 simple2 f)

-- without a pair that makes the terms equal nothing fires
pub superposition_apart : (S : List Symbol) (c d : List Lit) (n : ℕ) (side : Side) (place : Place) (l m : Lit) (u : Tree) → Superposable S c d n place l m u
    → NoPair S (named side l) u → GivesNothing S (Superposes S c d n side place)
superposition_apart S c d n side place l m u p refuted r1 r2 e simple1 simple2 f =
    let same_l = some_same (item n c) f.l l f.premises.from.there p.from.there in
    let same_u = some_same (tree_at d place) f.u u (place_there place f.premises) (place_there place p) in
    refuted r1 r2 simple1 simple2 (ap (λ z. put_in r1 (named side z)) (sym same_l) ∙ f.common ∙ ap (put_in r2) same_u)
