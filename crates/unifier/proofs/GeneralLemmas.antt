-- The search for a most general substitution: to close the first disagreement again and again keeps it most general.
use Rattle.std.proofs.Common.{◌≡◌, ◌⊎◌, inl, inr, true, false, List, refl, ap, sym, ◌∙◌, subst}
use Rattle.std.specs.Prelude.{Some}
use Rattle.term_base.specs.declared.symbols.Symbol.{Symbol}
use Rattle.term_base.specs.declared.variables.Variable.{Variable}
use Rattle.term_base.specs.Same.{same_variable}
use Rattle.term_base.specs.SameLemmas.{same_variable-true, same_variable-refl}
use Rattle.term_base.specs.Sorting.{sort}
use Rattle.term_base.specs.Substitution.{put_in, put_all, single}
use Rattle.term_base.specs.Trees.{Head, Tree, Trees, var, node, none, more, occurs, any_occurs, same_head}
use Rattle.term_base.specs.TreeLemmas.{true_or_false, both_ways, or-left, or-right, same_head-true, same_head-refl}
use Rattle.term_base.specs.SubstLemmas.{variable_or_not, single-same, single-other, put_in-put_in, put_in-agree, put_in-var, occurs-put_in, no_cycle, sort-put_in}
use Rattle.unifier.specs.Disagreements.{Disagreement, agree, clash, bind, first_of, disagreement, disagreement_among}
use Rattle.unifier.specs.Sorted.{KeepsSorts}

-- what a substitution that makes two trees equal does with their first disagreement
abbrev Closes : (Variable → Tree) → Disagreement → Type 0
Closes s agree = Unit {0}
Closes s clash = ⊥
Closes s (bind v t) = s v ≡ put_in s t

closes_or : (s : Variable → Tree) (a b : Disagreement) → Closes s a → Closes s b → Closes s (first_of a b)
closes_or s agree b p q = q
closes_or s clash b p q = p
closes_or s (bind v t) b p q = p

inner : (f g : Head) (xs ys : Trees) → node f xs ≡ node g ys → (f ≡ g) × (xs ≡ ys)
inner f g xs ys e = (cc, cc)

module _ (s : Variable → Tree) where
  mutual
    pub closes : (a b : Tree) → put_in s a ≡ put_in s b → Closes s (disagreement a b)
    closes (var v) (var w) e = elim (true_or_false (same_variable v w)) [
      | inl h ↦ rw h tt
      | inr h ↦ rw h e
    ]
    closes (var v) (node g ys) e = e
    closes (node f xs) (var w) e = sym e
    closes (node f xs) (node g ys) e =
        let two = inner f g (put_all s xs) (put_all s ys) e in
        let h : same_head f g ≡ true = ap (same_head f) (sym two.0) ∙ same_head-refl f in
        rw h (closes_all xs ys two.1)

    closes_all : (xs ys : Trees) → put_all s xs ≡ put_all s ys → Closes s (disagreement_among xs ys)
    closes_all none none e = tt
    closes_all none (more y ys) e = cc
    closes_all (more x xs) none e = cc
    closes_all (more x xs) (more y ys) e =
        let one : put_in s x ≡ put_in s y = cc in
        let rest : put_all s xs ≡ put_all s ys = cc in
        closes_or s (disagreement x y) (disagreement_among xs ys) (closes x y one) (closes_all xs ys rest)

-- what holds of two trees, by their first disagreement
abbrev Shows : Tree → Tree → Disagreement → Type 0
Shows a b agree = a ≡ b
Shows a b clash = Unit {0}
Shows a b (bind v t) = ((var v ≡ t) → ⊥) × (((occurs v a ≡ true) ⊎ (occurs v b ≡ true)) × ((w : Variable) → occurs w t ≡ true → (occurs w a ≡ true) ⊎ (occurs w b ≡ true)))

abbrev ShowsAll : Trees → Trees → Disagreement → Type 0
ShowsAll a b agree = a ≡ b
ShowsAll a b clash = Unit {0}
ShowsAll a b (bind v t) = ((var v ≡ t) → ⊥) × (((any_occurs v a ≡ true) ⊎ (any_occurs v b ≡ true)) × ((w : Variable) → occurs w t ≡ true → (any_occurs w a ≡ true) ⊎ (any_occurs w b ≡ true)))

shows_or : (x y : Tree) (xs ys : Trees) (a b : Disagreement) → Shows x y a → ShowsAll xs ys b → ShowsAll (more x xs) (more y ys) (first_of a b)
shows_or x y xs ys agree agree p q = cc
shows_or x y xs ys agree clash p q = tt
shows_or x y xs ys agree (bind v t) p q = (
  q.0,
  (
    elim q.1.0 [ inl o ↦ inl (or-right (occurs v x) (any_occurs v xs) o) | inr o ↦ inr (or-right (occurs v y) (any_occurs v ys) o) ],
    λ w h. elim (q.1.1 w h) [ inl o ↦ inl (or-right (occurs w x) (any_occurs w xs) o) | inr o ↦ inr (or-right (occurs w y) (any_occurs w ys) o) ],
  ),
)
shows_or x y xs ys clash b p q = tt
shows_or x y xs ys (bind v t) b p q = (
  p.0,
  (
    elim p.1.0 [ inl o ↦ inl (or-left (occurs v x) (any_occurs v xs) o) | inr o ↦ inr (or-left (occurs v y) (any_occurs v ys) o) ],
    λ w h. elim (p.1.1 w h) [ inl o ↦ inl (or-left (occurs w x) (any_occurs w xs) o) | inr o ↦ inr (or-left (occurs w y) (any_occurs w ys) o) ],
  ),
)

shows_node : (f g : Head) (xs ys : Trees) (d : Disagreement) → f ≡ g → ShowsAll xs ys d → Shows (node f xs) (node g ys) d
shows_node f g xs ys agree e p = cc
shows_node f g xs ys clash e p = p
shows_node f g xs ys (bind v t) e p = p

var_var : (v w : Variable) → same_variable v w ≡ false → var v ≡ var w → ⊥
var_var v w h e = let i : v ≡ w = cc in both_ways (same_variable v w) (ap (same_variable v) (sym i) ∙ same_variable-refl v) h

mutual
  pub shows : (a b : Tree) → Shows a b (disagreement a b)
  shows (var v) (var w) = elim (true_or_false (same_variable v w)) [
    | inl h ↦ rw h (ap var (same_variable-true v w h))
    | inr h ↦ rw h (var_var v w h, (inl (same_variable-refl v), λ z o. inr o))
  ]
  shows (var v) (node g ys) = ((λ e. cc), (inl (same_variable-refl v), λ z o. inr o))
  shows (node f xs) (var w) = ((λ e. cc), (inr (same_variable-refl w), λ z o. inl o))
  shows (node f xs) (node g ys) = elim (true_or_false (same_head f g)) [
    | inl h ↦ rw h (shows_node f g xs ys (disagreement_among xs ys) (same_head-true f g h) (shows_all xs ys))
    | inr h ↦ rw h tt
  ]

  pub shows_all : (xs ys : Trees) → ShowsAll xs ys (disagreement_among xs ys)
  shows_all none none = refl
  shows_all none (more y ys) = tt
  shows_all (more x xs) none = tt
  shows_all (more x xs) (more y ys) = shows_or x y xs ys (disagreement x y) (disagreement_among xs ys) (shows x y) (shows_all xs ys)

-- s has been found for l0 and u0, which it makes into l and u; whatever makes l0 and u0 equal goes on from it
pub record Reached (signature : List Symbol) (l0 u0 : Tree) (s : Variable → Tree) (l u : Tree) : Type 0 where
  pub left : put_in s l0 ≡ l
  pub right : put_in s u0 ≡ u
  pub sorted : KeepsSorts signature s
  pub general : (r : Variable → Tree) → KeepsSorts signature r → put_in r l0 ≡ put_in r u0 → (v : Variable) → put_in r (s v) ≡ r v

module _ (S : List Symbol) where
  pub reached_start : (l0 u0 : Tree) → Reached S l0 u0 var l0 u0
  reached_start l0 u0 = record { left = put_in-var l0; right = put_in-var u0; sorted = λ v. refl; general = λ r k e v. refl }

  -- r makes the trees in hand equal too
  on_reached : (l0 u0 : Tree) (s : Variable → Tree) (l u : Tree) → Reached S l0 u0 s l u
      → (r : Variable → Tree) → KeepsSorts S r → put_in r l0 ≡ put_in r u0 → put_in r l ≡ put_in r u
  on_reached l0 u0 s l u h r k e =
      let same : (t : Tree) → put_in r (put_in s t) ≡ put_in r t = λ t. put_in-put_in r s t ∙ put_in-agree (λ v. put_in r (s v)) r t (λ v o. h.general r k e v) in
      ap (put_in r) (sym h.left) ∙ same l0 ∙ e ∙ sym (same u0) ∙ ap (put_in r) h.right

  pub no_clash : (l0 u0 : Tree) (s : Variable → Tree) (l u : Tree) → Reached S l0 u0 s l u → disagreement l u ≡ clash
      → (r : Variable → Tree) → KeepsSorts S r → put_in r l0 ≡ put_in r u0 → ⊥
  no_clash l0 u0 s l u h is r k e = subst (Closes r) is (closes r l u (on_reached l0 u0 s l u h r k e))

  closed : (l0 u0 : Tree) (s : Variable → Tree) (l u : Tree) → Reached S l0 u0 s l u → (v : Variable) (t : Tree) → disagreement l u ≡ bind v t
      → (r : Variable → Tree) → KeepsSorts S r → put_in r l0 ≡ put_in r u0 → r v ≡ put_in r t
  closed l0 u0 s l u h v t is r k e = subst (Closes r) is (closes r l u (on_reached l0 u0 s l u h r k e))

  cycle : (r : Variable → Tree) (v : Variable) (t : Tree) → ((var v ≡ t) → ⊥) → occurs v t ≡ true → r v ≡ put_in r t → ⊥
  cycle r v (var w) d o e = d (ap var (sym (same_variable-true w v o)))
  cycle r v (node f xs) d o e = no_cycle r v f xs o e

  pub no_cyclic : (l0 u0 : Tree) (s : Variable → Tree) (l u : Tree) → Reached S l0 u0 s l u → (v : Variable) (t : Tree) → disagreement l u ≡ bind v t
      → occurs v t ≡ true → (r : Variable → Tree) → KeepsSorts S r → put_in r l0 ≡ put_in r u0 → ⊥
  no_cyclic l0 u0 s l u h v t is o r k e = cycle r v t (subst (Shows l u) is (shows l u)).0 o (closed l0 u0 s l u h v t is r k e)

  pub no_sorted : (l0 u0 : Tree) (s : Variable → Tree) (l u : Tree) → Reached S l0 u0 s l u → (v : Variable) (t : Tree) → disagreement l u ≡ bind v t
      → ((sort S t ≡ Some v.sort) → ⊥) → (r : Variable → Tree) → KeepsSorts S r → put_in r l0 ≡ put_in r u0 → ⊥
  no_sorted l0 u0 s l u h v t is d r k e = d (sym (sort-put_in S r k t) ∙ ap (sort S) (sym (closed l0 u0 s l u h v t is r k e)) ∙ k v)

  absorbed : (r : Variable → Tree) (v : Variable) (t : Tree) → r v ≡ put_in r t → (w : Variable) → put_in r (single v t w) ≡ r w
  absorbed r v t e w = elim (variable_or_not v w) [
    | inl same ↦ ap (put_in r) (single-same v w t same) ∙ sym e ∙ ap r same
    | inr d ↦ ap (put_in r) (single-other v w t d)
  ]

  single_sorted : (v : Variable) (t : Tree) → sort S t ≡ Some v.sort → KeepsSorts S (single v t)
  single_sorted v t h w = elim (variable_or_not v w) [
    | inl same ↦ ap (sort S) (single-same v w t same) ∙ h ∙ ap (λ (z : Variable). Some z.sort) same
    | inr d ↦ ap (sort S) (single-other v w t d)
  ]

  pub reached_bind : (l0 u0 : Tree) (s : Variable → Tree) (l u : Tree) → Reached S l0 u0 s l u → (v : Variable) (t : Tree) → disagreement l u ≡ bind v t
      → sort S t ≡ Some v.sort → Reached S l0 u0 (λ w. put_in (single v t) (s w)) (put_in (single v t) l) (put_in (single v t) u)
  reached_bind l0 u0 s l u h v t is fits = record {
    left = sym (put_in-put_in (single v t) s l0) ∙ ap (put_in (single v t)) h.left;
    right = sym (put_in-put_in (single v t) s u0) ∙ ap (put_in (single v t)) h.right;
    sorted = λ w. sort-put_in S (single v t) (single_sorted v t fits) (s w) ∙ h.sorted w;
    general = λ r k e w. put_in-put_in r (single v t) (s w)
        ∙ put_in-agree (λ z. put_in r (single v t z)) r (s w) (λ z o. absorbed r v t (closed l0 u0 s l u h v t is r k e) z)
        ∙ h.general r k e w;
  }

  -- a variable of the trees after a binding is another one of those before
  pub fewer : (l u : Tree) (v : Variable) (t : Tree) → disagreement l u ≡ bind v t → occurs v t ≡ false
      → (w : Variable) → (occurs w (put_in (single v t) l) ≡ true) ⊎ (occurs w (put_in (single v t) u) ≡ true)
      → ((v ≡ w) → ⊥) × ((occurs w l ≡ true) ⊎ (occurs w u ≡ true))
  fewer l u v t is free w h =
      let show = subst (Shows l u) is (shows l u) in
      let apart : occurs w t ≡ true → (v ≡ w) → ⊥ = λ o e. both_ways (occurs v t) (subst (λ z. occurs z t ≡ true) (sym e) o) free in
      let from : (a : Tree) → ((z : Variable) → occurs z a ≡ true → (occurs z l ≡ true) ⊎ (occurs z u ≡ true)) → occurs w (put_in (single v t) a) ≡ true
      → ((v ≡ w) → ⊥) × ((occurs w l ≡ true) ⊎ (occurs w u ≡ true)) = λ a within o.
      let back = occurs-put_in (single v t) w a o in
      elim (variable_or_not v back.0) [
        | inl e ↦ (let in_t : occurs w t ≡ true = ap (occurs w) (sym (single-same v back.0 t e)) ∙ back.1.1 in (apart in_t, show.1.1 w in_t))
        | inr d ↦ (let is_w : back.0 ≡ w = same_variable-true back.0 w (ap (occurs w) (sym (single-other v back.0 t d)) ∙ back.1.1) in
            ((λ e. d (e ∙ sym is_w)), subst (λ z. (occurs z l ≡ true) ⊎ (occurs z u ≡ true)) is_w (within back.0 back.1.0)))
      ] in
      elim h [ inl o ↦ from l (λ z p. inl p) o | inr o ↦ from u (λ z p. inr p) o ]

  pub bound_occurs : (l u : Tree) (v : Variable) (t : Tree) → disagreement l u ≡ bind v t → (occurs v l ≡ true) ⊎ (occurs v u ≡ true)
  bound_occurs l u v t is = (subst (Shows l u) is (shows l u)).1.0

  pub agreed : (l u : Tree) → disagreement l u ≡ agree → l ≡ u
  agreed l u is = subst (Shows l u) is (shows l u)
