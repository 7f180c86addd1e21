-- Two premises whose variables are kept apart: the most general pair of simple substitutions.
use Rattle.std.proofs.Common.{◌≡◌, inl, inr, Bool, true, false, List, refl, ap, sym, ◌∙◌, subst, if◌then◌else◌}
use Rattle.std.specs.Prelude.{Some}
use Rattle.term_base.specs.declared.symbols.Symbol.{Symbol}
use Rattle.term_base.specs.declared.variables.Variable.{Variable}
use Rattle.term_base.specs.Purity.{foreground, is_abstraction, IsPure}
use Rattle.term_base.specs.Sorting.{sort}
use Rattle.term_base.specs.Substitution.{put_in, Simple}
use Rattle.term_base.specs.Trees.{Tree, var, occurs}
use Rattle.term_base.specs.TreeLemmas.{true_or_false}
use Rattle.term_base.specs.SubstLemmas.{put_in-put_in, put_in-agree}
use Rattle.unifier.specs.Sorted.{KeepsSorts, IsGeneral}
use Rattle.unifier.specs.Unifiers.{IsMostGeneralPair, NoPair}
use Rattle.unifier.proofs.KindLemmas.{IsRenaming, variable_pure, named_by, none_foreground, named_by_sorted, named_by_pure, following_simple, followed, named_by_equal, simple_same}

-- a renaming that keeps the second premise's variables apart from the first's: `second x` says that x is a raised one
pub record IsApart (V1 : Variable → Bool) (second : Variable → Bool) (to back : Variable → Variable) : Type 0 where
  pub first_apart : (v : Variable) → V1 v ≡ true → second v ≡ false
  pub second_apart : (v : Variable) → second (to v) ≡ true
  pub returns : (v : Variable) → back (to v) ≡ v
  pub comes_back : (v : Variable) → second v ≡ true → to (back v) ≡ v
  pub sort_there : (v : Variable) → (to v).sort ≡ v.sort
  pub sort_back : (v : Variable) → (back v).sort ≡ v.sort
  pub kind_there : (v : Variable) → is_abstraction (to v) ≡ is_abstraction v
  pub kind_back : (v : Variable) → is_abstraction (back v) ≡ is_abstraction v

module _ (S : List Symbol) (V1 V2 : Variable → Bool) (l u : Tree)
    (in_l : (v : Variable) → occurs v l ≡ true → V1 v ≡ true) (in_u : (v : Variable) → occurs v u ≡ true → V2 v ≡ true)
    (second : Variable → Bool) (away home : Variable → Variable) (apart : IsApart V1 second away home) where
  abbrev u' : Tree
  u' = put_in (λ v. var (away v)) u

  abbrev either : (Variable → Tree) → (Variable → Tree) → Variable → Tree
  either r1 r2 x = if second x then r2 (home x) else r1 x

  abbrev V : Variable → Bool
  V x = if second x then V2 (home x) else V1 x

  on_first : (A : Type 0) (p q : A) (v : Variable) → V1 v ≡ true → (if second v then p else q) ≡ q
  on_first A p q v h = let e = apart.first_apart v h in rw e refl

  on_second : (A : Type 0) (p q : A) (v : Variable) → (if second (away v) then p else q) ≡ p
  on_second A p q v = let e = apart.second_apart v in rw e refl

  first_in : (v : Variable) → V1 v ≡ true → V v ≡ true
  first_in v h = on_first Bool (V2 (home v)) (V1 v) v h ∙ h

  second_in : (v : Variable) → V2 v ≡ true → V (away v) ≡ true
  second_in v h = on_second Bool (V2 (home (away v))) (V1 (away v)) v ∙ ap V2 (apart.returns v) ∙ h

  either_simple : (r1 r2 : Variable → Tree) → Simple S r1 → Simple S r2 → Simple S (either r1 r2)
  either_simple r1 r2 p q = record {
    sorted = λ x. elim (true_or_false (second x)) [
      | inl h ↦ (let e : either r1 r2 x ≡ r2 (home x) = rw h refl in ap (sort S) e ∙ q.sorted (home x) ∙ ap Some (apart.sort_back x))
      | inr h ↦ (let e : either r1 r2 x ≡ r1 x = rw h refl in ap (sort S) e ∙ p.sorted x)
    ];
    pure = λ x a. elim (true_or_false (second x)) [
      | inl h ↦ (let e : either r1 r2 x ≡ r2 (home x) = rw h refl in subst (IsPure S) (sym e) (q.pure (home x) (apart.kind_back x ∙ a)))
      | inr h ↦ (let e : either r1 r2 x ≡ r1 x = rw h refl in subst (IsPure S) (sym e) (p.pure x a))
    ];
  }

  either_equal : (r1 r2 : Variable → Tree) → put_in r1 l ≡ put_in r2 u → put_in (either r1 r2) l ≡ put_in (either r1 r2) u'
  either_equal r1 r2 e =
      put_in-agree (either r1 r2) r1 l (λ v o. on_first Tree (r2 (home v)) (r1 v) v (in_l v o)) ∙ e
      ∙ sym (put_in-put_in (either r1 r2) (λ v. var (away v)) u
      ∙ put_in-agree (λ v. either r1 r2 (away v)) r2 u (λ v o. on_second Tree (r2 (home (away v))) (r1 (away v)) v ∙ ap r2 (apart.returns v)))

  -- nothing in one name space, so no pair
  pub no_pair_unsorted : ((r : Variable → Tree) → KeepsSorts S r → put_in r l ≡ put_in r u' → ⊥) → NoPair S l u
  no_pair_unsorted h r1 r2 p q e = h (either r1 r2) (either_simple r1 r2 p q).sorted (either_equal r1 r2 e)

  module _ (s : Variable → Tree) (h : IsGeneral S l u' s) where
    pub no_pair_foreground : (v : Variable) → is_abstraction v ≡ true → foreground S (s v) ≡ true → NoPair S l u
    no_pair_foreground v a f r1 r2 p q e = none_foreground S l u' V s h v a f (either r1 r2) (either_simple r1 r2 p q) (either_equal r1 r2 e)

    module _ (plain : (v : Variable) → V v ≡ true → is_abstraction v ≡ true → foreground S (s v) ≡ false)
        (to back : Variable → Variable) (n : IsRenaming V s to back) where
      abbrev pub pair1 : Variable → Tree
      pair1 v = if V1 v then named_by s to v else var v

      abbrev pub pair2 : Variable → Tree
      pair2 v = if V2 v then named_by s to (away v) else var v

      pair1_in : (v : Variable) → V1 v ≡ true → pair1 v ≡ named_by s to v
      pair1_in v i = rw i refl

      pair2_in : (v : Variable) → V2 v ≡ true → pair2 v ≡ named_by s to (away v)
      pair2_in v i = rw i refl

      pub pair1_simple : Simple S pair1
      pair1_simple = record {
        sorted = λ v. elim (true_or_false (V1 v)) [
          | inl i ↦ ap (sort S) (pair1_in v i) ∙ named_by_sorted S l u' V s h plain to back n v
          | inr i ↦ (let e : pair1 v ≡ var v = rw i refl in ap (sort S) e)
        ];
        pure = λ v a. elim (true_or_false (V1 v)) [
          | inl i ↦ subst (IsPure S) (sym (pair1_in v i)) (named_by_pure S l u' V s h plain to back n v (first_in v i) a)
          | inr i ↦ (let e : pair1 v ≡ var v = rw i refl in subst (IsPure S) (sym e) (variable_pure S v a))
        ];
      }

      pub pair2_simple : Simple S pair2
      pair2_simple = record {
        sorted = λ v. elim (true_or_false (V2 v)) [
          | inl i ↦ ap (sort S) (pair2_in v i) ∙ named_by_sorted S l u' V s h plain to back n (away v) ∙ ap Some (apart.sort_there v)
          | inr i ↦ (let e : pair2 v ≡ var v = rw i refl in ap (sort S) e)
        ];
        pure = λ v a. elim (true_or_false (V2 v)) [
          | inl i ↦ subst (IsPure S) (sym (pair2_in v i)) (named_by_pure S l u' V s h plain to back n (away v) (second_in v i) (apart.kind_there v ∙ a))
          | inr i ↦ (let e : pair2 v ≡ var v = rw i refl in subst (IsPure S) (sym e) (variable_pure S v a))
        ];
      }

      -- the pair that the search gives is most general
      pub pair_general : IsMostGeneralPair S V1 V2 l u pair1 pair2
      pair_general = record {
        simple1 = pair1_simple;
        simple2 = pair2_simple;
        equal = put_in-agree pair1 (named_by s to) l (λ v o. pair1_in v (in_l v o))
            ∙ named_by_equal S l u' V s h plain to back n
            ∙ put_in-put_in (named_by s to) (λ v. var (away v)) u
            ∙ sym (put_in-agree pair2 (λ v. named_by s to (away v)) u (λ v o. pair2_in v (in_u v o)));
        general = λ r1 r2 p q e.
            let r = either r1 r2 in
            let simple = either_simple r1 r2 p q in
            let equal = either_equal r1 r2 e in (
              (λ x. r (back x)),
              (
                following_simple S l u' V s h plain to back n r simple equal,
                (
                  (λ v i. ap (put_in (λ x. r (back x))) (pair1_in v i) ∙ followed S l u' V s h plain to back n r simple equal v (first_in v i)
                      ∙ on_first Tree (r2 (home v)) (r1 v) v i),
                  (λ v i. ap (put_in (λ x. r (back x))) (pair2_in v i) ∙ followed S l u' V s h plain to back n r simple equal (away v) (second_in v i)
                      ∙ on_second Tree (r2 (home (away v))) (r1 (away v)) v ∙ ap r2 (apart.returns v)),
                ),
              ),
            );
      }

-- a pair with the same images is most general on fewer variables
pub pair_same : (S : List Symbol) (V1 V2 Wl Wr : Variable → Bool) (l u : Tree) (s1 s2 t1 t2 : Variable → Tree)
    → ((v : Variable) → t1 v ≡ s1 v) → ((v : Variable) → t2 v ≡ s2 v)
    → ((v : Variable) → Wl v ≡ true → V1 v ≡ true) → ((v : Variable) → Wr v ≡ true → V2 v ≡ true)
    → IsMostGeneralPair S V1 V2 l u s1 s2 → IsMostGeneralPair S Wl Wr l u t1 t2
pair_same S V1 V2 Wl Wr l u s1 s2 t1 t2 e1 e2 within1 within2 h = record {
  simple1 = simple_same S s1 t1 e1 h.simple1;
  simple2 = simple_same S s2 t2 e2 h.simple2;
  equal = put_in-agree t1 s1 l (λ v o. e1 v) ∙ h.equal ∙ sym (put_in-agree t2 s2 u (λ v o. e2 v));
  general = λ r1 r2 p q f. let g = h.general r1 r2 p q f in
      (g.0, (g.1.0, ((λ v i. ap (put_in g.0) (e1 v) ∙ g.1.1.0 v (within1 v i)), (λ v i. ap (put_in g.0) (e2 v) ∙ g.1.1.1 v (within2 v i)))));
}
