-- The kinds: a most general substitution becomes a most general simple one where its variables get new names.
use Rattle.std.proofs.Common.{◌≡◌, ◌⊎◌, inl, inr, Bool, true, false, not, List, refl, ap, sym, ◌∙◌, subst, if◌then◌else◌}
use Rattle.std.specs.Prelude.{Some}
use Rattle.term_base.specs.declared.symbols.Symbol.{Symbol}
use Rattle.term_base.specs.declared.variables.Variable.{Variable}
use Rattle.term_base.specs.Purity.{foreground, ordinary, is_abstraction, IsPure}
use Rattle.term_base.specs.Sorting.{sort}
use Rattle.term_base.specs.Substitution.{put_in, Simple}
use Rattle.term_base.specs.Trees.{Tree, var, occurs}
use Rattle.term_base.specs.TreeLemmas.{true_or_false, both_ways, put-foreground}
use Rattle.term_base.specs.SubstLemmas.{put_in-put_in, put_in-agree, sort-put_in, foreground-put_in, ordinary-put_in, inner_pure}
use Rattle.unifier.specs.Sorted.{IsGeneral}
use Rattle.unifier.specs.Unifiers.{IsMostGeneral}

-- an abstraction variable is pure
pub variable_pure : (S : List Symbol) (v : Variable) → is_abstraction v ≡ true → IsPure S (var v)
variable_pure S v a = record { no_foreground = refl; no_ordinary = ap not a }

-- the variable stands below an abstraction variable's image
pub record IsForced (V : Variable → Bool) (s : Variable → Tree) (z : Variable) : Type 0 where
  pub from : Variable
  pub within : V from ≡ true
  pub abstraction : is_abstraction from ≡ true
  pub below : occurs z (s from) ≡ true

-- a renaming of the variables of the images of V, which makes those abstraction variables that must be, and the way back
pub record IsRenaming (V : Variable → Bool) (s : Variable → Tree) (to back : Variable → Variable) : Type 0 where
  pub returns : (v z : Variable) → V v ≡ true → occurs z (s v) ≡ true → back (to z) ≡ z
  pub sort_there : (z : Variable) → (to z).sort ≡ z.sort
  pub sort_back : (x : Variable) → (back x).sort ≡ x.sort
  pub forced_there : (z : Variable) → IsForced V s z → is_abstraction (to z) ≡ true
  pub abstraction_back : (x : Variable) → is_abstraction x ≡ true → (is_abstraction (back x) ≡ true) ⊎ IsForced V s (back x)

abbrev pub named_by : (Variable → Tree) → (Variable → Variable) → Variable → Tree
named_by s to v = put_in (λ z. var (to z)) (s v)

module _ (S : List Symbol) (l u : Tree) (V : Variable → Bool) (s : Variable → Tree) (h : IsGeneral S l u s) where
  -- an abstraction variable whose image has a foreground symbol: no simple substitution makes the terms equal
  pub none_foreground : (v : Variable) → is_abstraction v ≡ true → foreground S (s v) ≡ true
      → (r : Variable → Tree) → Simple S r → put_in r l ≡ put_in r u → ⊥
  none_foreground v a f r simple e =
      both_ways (foreground S (r v)) (ap (foreground S) (sym (h.general r simple.sorted e v)) ∙ put-foreground S r (s v) f) (simple.pure v a).no_foreground

  module _ (plain : (v : Variable) → V v ≡ true → is_abstraction v ≡ true → foreground S (s v) ≡ false)
      (to back : Variable → Variable) (n : IsRenaming V s to back) where
    pub named_by_sorted : (v : Variable) → sort S (named_by s to v) ≡ Some v.sort
    named_by_sorted v = sort-put_in S (λ z. var (to z)) (λ z. ap Some (n.sort_there z)) (s v) ∙ h.sorted v

    pub named_by_pure : (v : Variable) → V v ≡ true → is_abstraction v ≡ true → IsPure S (named_by s to v)
    named_by_pure v i a = record {
      no_foreground = foreground-put_in S (λ z. var (to z)) (s v) (plain v i a) (λ z o. refl);
      no_ordinary = ordinary-put_in S (λ z. var (to z)) (s v) (λ z o.
          let f = n.forced_there z (record { from = v; within = i; abstraction = a; below = o }) in
          ordinary_not (to z) f);
    } where
      ordinary_not : (z : Variable) → is_abstraction z ≡ true → ordinary (var z) ≡ false
      ordinary_not z f = rw f refl

    -- the one simple substitution that follows
    pub following : (Variable → Tree) → Variable → Tree
    following r x = r (back x)

    pub following_simple : (r : Variable → Tree) → Simple S r → put_in r l ≡ put_in r u → Simple S (λ x. r (back x))
    following_simple r simple e = record {
      sorted = λ x. simple.sorted (back x) ∙ ap Some (n.sort_back x);
      pure = λ x a. elim (n.abstraction_back x a) [
        | inl b ↦ simple.pure (back x) b
        | inr f ↦ inner_pure S r (s f.from) (subst (IsPure S) (sym (h.general r simple.sorted e f.from)) (simple.pure f.from f.abstraction)) (back x) f.below
      ];
    }

    pub followed : (r : Variable → Tree) → Simple S r → put_in r l ≡ put_in r u → (v : Variable) → V v ≡ true
        → put_in (λ x. r (back x)) (named_by s to v) ≡ r v
    followed r simple e v i =
        put_in-put_in (λ x. r (back x)) (λ z. var (to z)) (s v)
        ∙ put_in-agree (λ z. r (back (to z))) r (s v) (λ z o. ap r (n.returns v z i o))
        ∙ h.general r simple.sorted e v

    pub named_by_equal : put_in (named_by s to) l ≡ put_in (named_by s to) u
    named_by_equal = sym (put_in-put_in (λ z. var (to z)) s l) ∙ ap (put_in (λ z. var (to z))) h.equal ∙ put_in-put_in (λ z. var (to z)) s u

    -- the answer on one premise: the named image where V has the variable
    abbrev pub answer_by : Variable → Tree
    answer_by v = if V v then named_by s to v else var v

    answer_in : (v : Variable) → V v ≡ true → answer_by v ≡ named_by s to v
    answer_in v i = rw i refl

    answer_out : (v : Variable) → V v ≡ false → answer_by v ≡ var v
    answer_out v i = rw i refl

    answer_simple : Simple S answer_by
    answer_simple = record {
      sorted = λ v. elim (true_or_false (V v)) [
        | inl i ↦ ap (sort S) (answer_in v i) ∙ named_by_sorted v
        | inr i ↦ ap (sort S) (answer_out v i)
      ];
      pure = λ v a. elim (true_or_false (V v)) [
        | inl i ↦ subst (IsPure S) (sym (answer_in v i)) (named_by_pure v i a)
        | inr i ↦ subst (IsPure S) (sym (answer_out v i)) (variable_pure S v a)
      ];
    }

    -- the substitution that the search gives, with new names, is most general
    pub answer_general : ((v : Variable) → occurs v l ≡ true → V v ≡ true) → ((v : Variable) → occurs v u ≡ true → V v ≡ true) → IsMostGeneral S V l u answer_by
    answer_general in_l in_u = record {
      simple = answer_simple;
      equal = put_in-agree answer_by (named_by s to) l (λ v o. answer_in v (in_l v o))
          ∙ named_by_equal
          ∙ sym (put_in-agree answer_by (named_by s to) u (λ v o. answer_in v (in_u v o)));
      general = λ r simple e. ((λ x. r (back x)), (following_simple r simple e, (λ v i. ap (put_in (λ x. r (back x))) (answer_in v i) ∙ followed r simple e v i)));
    }

-- a substitution with the same images is simple, and most general on fewer variables
pub simple_same : (S : List Symbol) (s t : Variable → Tree) → ((v : Variable) → t v ≡ s v) → Simple S s → Simple S t
simple_same S s t e simple = record {
  sorted = λ v. ap (sort S) (e v) ∙ simple.sorted v;
  pure = λ v a. subst (IsPure S) (sym (e v)) (simple.pure v a);
}

pub general_same : (S : List Symbol) (V W : Variable → Bool) (l u : Tree) (s t : Variable → Tree) → ((v : Variable) → t v ≡ s v)
    → ((v : Variable) → W v ≡ true → V v ≡ true) → IsMostGeneral S V l u s → IsMostGeneral S W l u t
general_same S V W l u s t e within h = record {
  simple = simple_same S s t e h.simple;
  equal = put_in-agree t s l (λ v o. e v) ∙ h.equal ∙ sym (put_in-agree t s u (λ v o. e v));
  general = λ r simple f. let g = h.general r simple f in (g.0, (g.1.0, (λ v i. ap (put_in g.0) (e v) ∙ g.1.1 v (within v i))));
}
