-- The steps of the search for a most general substitution, over the values of the code.
use Rattle.std.proofs.Common.{◌≡◌, ◌⊎◌, inl, inr, ◌++◌, ◌<◌, ◌≤◌, ◌+◌, ℕ, suc, Bool, true, false, List, [], ◌∷◌, map, length, drop, get_or, append_assoc, add-one, drop-cons, refl, ap, sym, ◌∙◌, subst, arith}
use Rattle.std.specs.Prelude.{Some, IsTrue, ◌↔◌}
use Rattle.std.proofs.lemmas.Grind.{common_steps}
use Rattle.term_base.specs.declared.symbols.Symbol.{Symbol}
use Rattle.term_base.specs.declared.terms.Term.{Term}
use Rattle.term_base.specs.declared.variables.Variable.{Variable}
use Rattle.term_base.specs.Same.{same_variable}
use Rattle.term_base.specs.SameLemmas.{same_variable-true, same_variable-refl}
use Rattle.term_base.specs.Sorting.{sort}
use Rattle.term_base.specs.Substitution.{image, put_in, single}
use Rattle.term_base.specs.Trees.{Tree, var, tree, occurs}
use Rattle.term_base.specs.TreeLemmas.{true_or_false, both_ways, or-true}
use Rattle.term_base.specs.SubstLemmas.{put_in-agree}
use Rattle.unifier.specs.Disagreements.{agree, clash, bind, disagreement}
use Rattle.unifier.specs.Naming.{seen}
use Rattle.unifier.specs.Sorted.{IsGeneral, NoneSorted}
use Rattle.unifier.specs.Variables.{has, gathered, without}
use Rattle.unifier.specs.Search.{HasAll, Member, seen_bound}
use Rattle.unifier.proofs.GeneralLemmas.{Reached, reached_start, reached_bind, fewer, bound_occurs, agreed, no_clash, no_cyclic, no_sorted}
use Rattle.unifier.proofs.KnownLemmas.{KeepsKnown, FoundKnown, known_start, known_bound}
use Rattle.unifier.proofs.VariableLemmas.{has_gathered_own, has_gathered_before}

-- where the search stands: the pairs so far make l0 and u0 into l and u, whose variables the pool has
pub record Stands (signature : List Symbol) (l0 u0 : Tree) (pairs : List (Variable × Term)) (l u : Term) (pool : List Variable) : Type 0 where
  pub reached : Reached signature l0 u0 (image pairs) (tree l) (tree u)
  pub covered : HasAll pool (tree l) (tree u)
  pub known : KeepsKnown l0 u0 (image pairs) (tree l) (tree u)

module _ (v : Variable) (new : Term) where
  bound_step : (p b : Variable × Term) (ps bs : List (Variable × Term)) (w : Variable) → seen b ≡ seen_bound v (tree new) p
      → image (bs ++ (v, new) ∷ []) w ≡ put_in (single v (tree new)) (image ps w)
      → image (b ∷ bs ++ (v, new) ∷ []) w ≡ put_in (single v (tree new)) (image (p ∷ ps) w)
  bound_step p b ps bs w e later =
      let same : b.0 ≡ p.0 = ap (λ (q : Variable × Tree). q.0) e in
      let term : tree b.1 ≡ put_in (single v (tree new)) (tree p.1) = ap (λ (q : Variable × Tree). q.1) e in
      elim (true_or_false (same_variable p.0 w)) [
        | inl h ↦ (let k : same_variable b.0 w ≡ true = ap (λ z. same_variable z w) same ∙ h in rw (h, k) term)
        | inr h ↦ (let k : same_variable b.0 w ≡ false = ap (λ z. same_variable z w) same ∙ h in rw (h, k) later)
      ]

  pub bound_images : (ps bs : List (Variable × Term)) → map seen bs ≡ map (seen_bound v (tree new)) ps
      → (w : Variable) → image (bs ++ (v, new) ∷ []) w ≡ put_in (single v (tree new)) (image ps w)
  bound_images [] [] e w = refl
  bound_images [] (b ∷ bs) e w = cc
  bound_images (p ∷ ps) [] e w = cc
  bound_images (p ∷ ps) (b ∷ bs) e w =
      let first : seen b ≡ seen_bound v (tree new) p = cc in
      let rest : map seen bs ≡ map (seen_bound v (tree new)) ps = cc in
      bound_step p b ps bs w first (bound_images ps bs rest w)

pool_keeps : (v w : Variable) (ws : List Variable) → ((v ≡ w) → ⊥) → Member ws w → Member (without v ws) w
pool_keeps v w [] d m = m
pool_keeps v w (x ∷ xs) d (inl e) =
    let h : same_variable v x ≡ false = elim (true_or_false (same_variable v x)) [ inl p ↦ absurd (d (same_variable-true v x p ∙ e)) | inr q ↦ q ] in
    rw h (inl e)
pool_keeps v w (x ∷ xs) d (inr m) = elim (true_or_false (same_variable v x)) [
  | inl h ↦ rw h (pool_keeps v w xs d m)
  | inr h ↦ rw h (inr (pool_keeps v w xs d m))
]

pool_at_most : (v : Variable) (ws : List Variable) → length (without v ws) ≤ length ws
pool_at_most v [] = omega arith
pool_at_most v (x ∷ xs) = let later = pool_at_most v xs in elim (true_or_false (same_variable v x)) [
  | inl h ↦ rw h (omega arith)
  | inr h ↦ rw h (omega arith)
]

pub pool_less : (v : Variable) (ws : List Variable) → Member ws v → length (without v ws) < length ws
pool_less v [] m = absurd m
pool_less v (x ∷ xs) (inl e) =
    let h : same_variable v x ≡ true = ap (same_variable v) e ∙ same_variable-refl v in
    let most = pool_at_most v xs in rw h (omega arith)
pool_less v (x ∷ xs) (inr m) = let later = pool_less v xs m in elim (true_or_false (same_variable v x)) [
  | inl h ↦ rw h (omega arith)
  | inr h ↦ rw h (omega arith)
]

reached_same : (S : List Symbol) (l0 u0 : Tree) (s s' : Variable → Tree) (l u l' u' : Tree) → Reached S l0 u0 s l u
    → ((v : Variable) → s' v ≡ s v) → l' ≡ l → u' ≡ u → Reached S l0 u0 s' l' u'
reached_same S l0 u0 s s' l u l' u' h e p q = record {
  left = put_in-agree s' s l0 (λ v o. e v) ∙ h.left ∙ sym p;
  right = put_in-agree s' s u0 (λ v o. e v) ∙ h.right ∙ sym q;
  sorted = λ v. ap (sort S) (e v) ∙ h.sorted v;
  general = λ r k f v. ap (put_in r) (e v) ∙ h.general r k f v;
}

module _ (S : List Symbol) (l0 u0 : Tree) where
  pub stands_start : (l u : Term) (pairs : List (Variable × Term)) (pool : List Variable) → l0 ≡ tree l → u0 ≡ tree u → pairs ≡ [] → HasAll pool (tree l) (tree u)
      → Stands S l0 u0 pairs l u pool
  stands_start l u pairs pool p q empty covered = record {
    reached = reached_same S l0 u0 var (image pairs) l0 u0 (tree l) (tree u) (reached_start S l0 u0)
        (λ v. ap (λ ps. image ps v) empty) (sym p) (sym q);
    covered = covered;
    known = known_start l0 u0 (image pairs) (tree l) (tree u) p q (λ v. ap (λ ps. image ps v) empty);
  }

  pub stands_bound : (pairs : List (Variable × Term)) (l u : Term) (pool : List Variable) → Stands S l0 u0 pairs l u pool
      → (v : Variable) (t : Term) → disagreement (tree l) (tree u) ≡ bind v (tree t) → occurs v (tree t) ≡ false → sort S (tree t) ≡ Some v.sort
      → (pairs' : List (Variable × Term)) (l' u' : Term) (pool' : List Variable)
      → tree l' ≡ put_in (single v (tree t)) (tree l) → tree u' ≡ put_in (single v (tree t)) (tree u)
      → ((w : Variable) → image pairs' w ≡ put_in (single v (tree t)) (image pairs w)) → pool' ≡ without v pool
      → Stands S l0 u0 pairs' l' u' pool'
  stands_bound pairs l u pool h v t is free fits pairs' l' u' pool' p q e less = record {
    reached = reached_same S l0 u0 (λ w. put_in (single v (tree t)) (image pairs w)) (image pairs')
        (put_in (single v (tree t)) (tree l)) (put_in (single v (tree t)) (tree u)) (tree l') (tree u')
        (reached_bind S l0 u0 (image pairs) (tree l) (tree u) h.reached v (tree t) is fits) e p q;
    covered = record {
      each = λ w o.
          let before : (occurs w (put_in (single v (tree t)) (tree l)) ≡ true) ⊎ (occurs w (put_in (single v (tree t)) (tree u)) ≡ true) =
          elim o [ inl a ↦ inl (ap (occurs w) (sym p) ∙ a) | inr b ↦ inr (ap (occurs w) (sym q) ∙ b) ] in
          let f = fewer S (tree l) (tree u) v (tree t) is free w before in
          subst (λ ws. Member ws w) (sym less) (pool_keeps v w pool f.0 (h.covered.each w f.1));
    };
    known = known_bound l0 u0 (image pairs) (tree l) (tree u) h.known v (tree t) is (image pairs') (tree l') (tree u') p q e;
  }

  pub stands_less : (pairs : List (Variable × Term)) (l u : Term) (pool : List Variable) → Stands S l0 u0 pairs l u pool
      → (v : Variable) (t : Term) → disagreement (tree l) (tree u) ≡ bind v (tree t) → (pool' : List Variable) → pool' ≡ without v pool → length pool' < length pool
  stands_less pairs l u pool h v t is pool' less =
      subst (λ (ws : List Variable). length ws < length pool) (sym less) (pool_less v pool (h.covered.each v (bound_occurs S (tree l) (tree u) v (tree t) is)))

  pub stands_agreed : (pairs : List (Variable × Term)) (l u : Term) (pool : List Variable) → Stands S l0 u0 pairs l u pool → disagreement (tree l) (tree u) ≡ agree
      → IsGeneral S l0 u0 (image pairs)
  stands_agreed pairs l u pool h is = record {
    equal = h.reached.left ∙ agreed S (tree l) (tree u) is ∙ sym h.reached.right;
    sorted = h.reached.sorted;
    general = h.reached.general;
  }

  pub stands_known : (pairs : List (Variable × Term)) (l u : Term) (pool : List Variable) → Stands S l0 u0 pairs l u pool → FoundKnown l0 u0 (image pairs)
  stands_known pairs l u pool h n a b = (h.known n a b).0

  pub stands_clash : (pairs : List (Variable × Term)) (l u : Term) (pool : List Variable) → Stands S l0 u0 pairs l u pool → disagreement (tree l) (tree u) ≡ clash → NoneSorted S l0 u0
  stands_clash pairs l u pool h is r k e = no_clash S l0 u0 (image pairs) (tree l) (tree u) h.reached is r k e

  pub stands_cyclic : (pairs : List (Variable × Term)) (l u : Term) (pool : List Variable) → Stands S l0 u0 pairs l u pool
      → (v : Variable) (t : Term) → disagreement (tree l) (tree u) ≡ bind v (tree t) → occurs v (tree t) ≡ true → NoneSorted S l0 u0
  stands_cyclic pairs l u pool h v t is o r k e = no_cyclic S l0 u0 (image pairs) (tree l) (tree u) h.reached v (tree t) is o r k e

  pub stands_unsorted : (pairs : List (Variable × Term)) (l u : Term) (pool : List Variable) → Stands S l0 u0 pairs l u pool
      → (v : Variable) (t : Term) → disagreement (tree l) (tree u) ≡ bind v (tree t) → ((sort S (tree t) ≡ Some v.sort) → ⊥) → NoneSorted S l0 u0
  stands_unsorted pairs l u pool h v t is d r k e = no_sorted S l0 u0 (image pairs) (tree l) (tree u) h.reached v (tree t) is d r k e

pub refused : (b : Bool) (P : Type 0) → (IsTrue b ↔ P) → b ≡ false → P → ⊥
refused true P h e p = cc
refused false P h e p = let q : IsTrue false = h.1 p in grind (arith, common_steps, q)

pub accepted : (b : Bool) (P : Type 0) → (IsTrue b ↔ P) → b ≡ true → P
accepted true P h e = let q : IsTrue true = grind (arith, common_steps) in h.0 q
accepted false P h e = cc

kept_cons : (v x : Variable) (ys : List Variable) → same_variable v x ≡ false → without v (x ∷ ys) ≡ x ∷ without v ys
kept_cons v x ys e = rw e refl

left_cons : (v x : Variable) (ys : List Variable) → same_variable v x ≡ true → without v (x ∷ ys) ≡ without v ys
left_cons v x ys e = rw e refl

-- the pool without v, where its next variable stays, or is v
pub next_kept : (v : Variable) (rest xs all : List Variable) (i : ℕ) (d : Variable) → i < length xs → same_variable v (get_or xs i d) ≡ false
    → rest ++ without v (drop i xs) ≡ all → (rest ++ get_or xs i d ∷ []) ++ without v (drop (i + 1) xs) ≡ all
next_kept v rest xs all i d h e before =
    let step : without v (drop i xs) ≡ get_or xs i d ∷ without v (drop (i + 1) xs) =
    ap (without v) (drop-cons xs i d h) ∙ kept_cons v (get_or xs i d) (drop (suc i) xs) e ∙ ap (λ n. get_or xs i d ∷ without v (drop n xs)) (sym (add-one i)) in
    rw append_assoc (ap (λ l. rest ++ l) (sym step) ∙ before)

pub next_left : (v : Variable) (rest xs all : List Variable) (i : ℕ) (d : Variable) → i < length xs → same_variable v (get_or xs i d) ≡ true
    → rest ++ without v (drop i xs) ≡ all → rest ++ without v (drop (i + 1) xs) ≡ all
next_left v rest xs all i d h e before =
    let step : without v (drop i xs) ≡ without v (drop (i + 1) xs) =
    ap (without v) (drop-cons xs i d h) ∙ left_cons v (get_or xs i d) (drop (suc i) xs) e ∙ ap (λ n. without v (drop n xs)) (sym (add-one i)) in
    ap (λ l. rest ++ l) (sym step) ∙ before

member_of : (ws : List Variable) (v : Variable) → has ws v ≡ true → Member ws v
member_of [] v h = absurd (both_ways false h refl)
member_of (w ∷ ws) v h = elim (or-true (same_variable w v) (has ws v) h) [
  | inl e ↦ inl (same_variable-true w v e)
  | inr m ↦ inr (member_of ws v m)
]

-- the variables of both trees are all there
pub gathered_has_all : (l u : Tree) (pool : List Variable) → pool ≡ gathered u (gathered l []) → HasAll pool l u
gathered_has_all l u pool is = record {
  each = λ v o.
      let there : has (gathered u (gathered l [])) v ≡ true = elim o [
        | inl a ↦ has_gathered_before u (gathered l []) v (has_gathered_own l [] v a)
        | inr b ↦ has_gathered_own u (gathered l []) v b
      ] in
      member_of pool v (ap (λ ws. has ws v) is ∙ there);
}
