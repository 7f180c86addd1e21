-- The numbers of an answer's variables: from 0 on, each variable its own.
use Rattle.std.proofs.Common.{◌≡◌, ◌⊎◌, inl, inr, ◌<◌, ℕ, zero, suc, Bool, true, false, List, [], ◌∷◌, refl, ap, sym, ◌∙◌, subst, arith}
use Rattle.std.specs.Prelude.{Option, Some, None, Result, Ok, Err, IfOk, IfSome}
use Rattle.std.specs.declared.cmp.Ordering.TheVariants.{Less}
use Rattle.term_base.specs.declared.terms.Term.{Term}
use Rattle.term_base.specs.declared.variables.Variable.{Variable}
use Rattle.term_base.specs.Same.{same_variable}
use Rattle.term_base.specs.SameLemmas.{same_variable-true, same_variable-refl}
use Rattle.term_base.specs.VariableOrder.{variable_cmp}
use Rattle.term_base.specs.VariableOrderLemmas.{variable_cmp-irrefl}
use Rattle.term_base.specs.Substitution.{image, put_in, put_all}
use Rattle.term_base.specs.SubstLemmas.{occurs-put_in}
use Rattle.term_base.specs.Trees.{Tree, Trees, var, node, none, more, occurs, any_occurs}
use Rattle.term_base.specs.TreeLemmas.{true_or_false, both_ways, or-true, or-left, or-right}
use Rattle.unifier.specs.Variables.{has, BelowAll, Ascends, gathered}
use Rattle.unifier.specs.Naming.{raised, place_in, new_name, renamed, images_of, known_in, known_of, forced_of, named}
use Rattle.unifier.specs.Unifiers.{occurs_or, IsInImage, AreNumbered}
use Rattle.unifier.proofs.NamingLemmas.{at_place, found_there, name_number, With, known_before, known_own}
use Rattle.unifier.proofs.VariableLemmas.{or_none, has_gathered, ascends_gathered}

-- variables at one place of a list are one
one_place : (ws : List Variable) (y z : Variable) → has ws y ≡ true → has ws z ≡ true → place_in ws y ≡ place_in ws z → y ≡ z
one_place ws y z h k e =
    let p : at_place ws (place_in ws y) ≡ Some y = found_there ws y h in
    let q : at_place ws (place_in ws z) ≡ Some z = found_there ws z k in
    let same : Some y ≡ Some z = sym p ∙ ap (at_place ws) e ∙ q in cc

below_member : (x : Variable) (xs : List Variable) (w : Variable) → BelowAll x xs → has xs w ≡ true → variable_cmp x w ≡ Less
below_member x [] w b h = absurd (both_ways false h refl)
below_member x (y ∷ ys) w b h = elim (or-true (same_variable y w) (has ys w) h) [
  | inl e ↦ subst (λ z. variable_cmp x z ≡ Less) (same_variable-true y w e) b.0
  | inr m ↦ below_member x ys w b.1 m
]

-- the variable at a place
pub record IsAt (ws : List Variable) (n : ℕ) : Type 0 where
  pub of : Variable
  pub listed : has ws of ≡ true
  pub place : place_in ws of ≡ n

place_here : (x : Variable) (xs : List Variable) → place_in (x ∷ xs) x ≡ 0
place_here x xs = let e = same_variable-refl x in rw e refl

place_later : (x : Variable) (xs : List Variable) (w : Variable) → same_variable x w ≡ false → place_in (x ∷ xs) w ≡ suc (place_in xs w)
place_later x xs w e = rw e refl

-- each number below a place of an ascending list is a place
at_below : (ws : List Variable) → Ascends ws → (z : Variable) → has ws z ≡ true → (n : ℕ) → n < place_in ws z → IsAt ws n
at_below [] a z h n lt = absurd (both_ways false h refl)
at_below (x ∷ xs) a z h zero lt = record { of = x; listed = or-left (same_variable x x) (has xs x) (same_variable-refl x); place = place_here x xs }
at_below (x ∷ xs) a z h (suc n) lt = elim (true_or_false (same_variable x z)) [
  | inl e ↦ (let here : place_in (x ∷ xs) z ≡ 0 = ap (place_in (x ∷ xs)) (sym (same_variable-true x z e)) ∙ place_here x xs in absurd (omega arith))
  | inr d ↦ (
      let there : has xs z ≡ true = elim (or-true (same_variable x z) (has xs z) h) [ inl e ↦ absurd (both_ways (same_variable x z) e d) | inr m ↦ m ] in
      let later : place_in (x ∷ xs) z ≡ suc (place_in xs z) = place_later x xs z d in
      let less : n < place_in xs z = omega arith in
      let r = at_below xs a.1 z there n less in
      let apart : same_variable x r.of ≡ false = elim (true_or_false (same_variable x r.of)) [
        | inl e ↦ absurd (variable_cmp-irrefl x r.of (below_member x xs r.of a.0 r.listed) (same_variable-true x r.of e))
        | inr f ↦ f
      ] in
      record { of = r.of; listed = or-right (same_variable x r.of) (has xs r.of) r.listed; place = place_later x xs r.of apart ∙ ap suc r.place })
]

-- the images of a list's variables, and what is gathered from them
module _ (f : Variable → Tree) where
  -- the variable is in the image of one of the list
  pub record StandsIn (list : List Variable) (z : Variable) : Type 0 where
    pub of : Variable
    pub listed : has list of ≡ true
    pub below : occurs z (f of) ≡ true

  pub known_only : (list vs : List Variable) (z : Variable) → has (known_in (With f list) vs) z ≡ true → (has vs z ≡ true) ⊎ StandsIn list z
  known_only [] vs z h = inl h
  known_only (v ∷ list) vs z h = elim (known_only list (gathered (f v) vs) z h) [
    | inl b ↦ elim (or-true (has vs z) (occurs z (f v)) (sym (has_gathered (f v) vs z) ∙ b)) [
      | inl before ↦ inl before
      | inr own ↦ inr (record { of = v; listed = or-left (same_variable v v) (has list v) (same_variable-refl v); below = own })
    ]
    | inr b ↦ inr (record { of = b.of; listed = or-right (same_variable v b.of) (has list b.of) b.listed; below = b.below })
  ]

pub ascends_known : (ps : List (Variable × Tree)) (vs : List Variable) → Ascends vs → Ascends (known_in ps vs)
ascends_known [] vs a = a
ascends_known (p ∷ ps) vs a = ascends_known ps (gathered p.1 vs) (ascends_gathered p.1 vs a)

module _ (s : Variable → Tree) (v w : Variable) (under : occurs w (s v) ≡ true) where
  mutual
    -- what is in the image of a variable of a tree is in the tree's
    pub occurs-under : (t : Tree) → occurs v t ≡ true → occurs w (put_in s t) ≡ true
    occurs-under (var x) o = ap (λ z. occurs w (s z)) (same_variable-true x v o) ∙ under
    occurs-under (node f xs) o = occurs-under_all xs o

    occurs-under_all : (xs : Trees) → any_occurs v xs ≡ true → any_occurs w (put_all s xs) ≡ true
    occurs-under_all none o = absurd (both_ways false o refl)
    occurs-under_all (more x xs) o = elim (or-true (occurs v x) (any_occurs v xs) o) [
      | inl p ↦ or-left (occurs w (put_in s x)) (any_occurs w (put_all s xs)) (occurs-under x p)
      | inr q ↦ or-right (occurs w (put_in s x)) (any_occurs w (put_all s xs)) (occurs-under_all xs q)
    ]

-- the variable that a new name is of
pub record IsNameOf (forced known : List Variable) (z : Variable) : Type 0 where
  pub of : Variable
  pub listed : has known of ≡ true
  pub named_so : new_name forced known of ≡ z

-- where the new names are those of the known variables, they are numbered
pub numbered_by : (In : Variable → Type 0) (forced known : List Variable) → Ascends known → ((z : Variable) → In z → IsNameOf forced known z)
    → ((y : Variable) → has known y ≡ true → In (new_name forced known y)) → AreNumbered In
numbered_by In forced known a of_name name = record {
  own = λ z w i j e.
      let p = of_name z i in
      let q = of_name w j in
      sym p.named_so ∙ ap (new_name forced known) (one_place known p.of q.of p.listed q.listed
      (sym (name_number forced known p.of) ∙ ap (λ (x : Variable). x.id) p.named_so ∙ e ∙ sym (ap (λ (x : Variable). x.id) q.named_so) ∙ name_number forced known q.of)) ∙ q.named_so;
  all = λ z i n lt.
      let p = of_name z i in
      let place : z.id ≡ place_in known p.of = sym (ap (λ (x : Variable). x.id) p.named_so) ∙ name_number forced known p.of in
      let r = at_below known a p.of p.listed n (subst (λ m. n < m) place lt) in
      (new_name forced known r.of, (name r.of r.listed, name_number forced known r.of ∙ r.place));
}

-- the same of what holds of the same variables
pub numbered_same : (In On : Variable → Type 0) → ((z : Variable) → In z → On z) → ((z : Variable) → On z → In z) → AreNumbered In → AreNumbered On
numbered_same In On there back h = record {
  own = λ z w i j e. h.own z w (back z i) (back w j) e;
  all = λ z i n lt. let r = h.all z (back z i) n lt in (r.0, (there r.0 r.1.0, r.1.1));
}

module _ (forced known : List Variable) (found : List (Variable × Term)) (base : ℕ) (list : List Variable) (V : Variable → Bool)
    (within : (v : Variable) → V v ≡ true → has list v ≡ true) (back : (v : Variable) → has list v ≡ true → V v ≡ true)
    (s : Variable → Tree) (is : (v : Variable) → s v ≡ named forced known found base list v) where
  abbrev before : Variable → Tree
  before v = image found (raised base v)

  listed_image : (v : Variable) → has list v ≡ true → s v ≡ renamed forced known (before v)
  listed_image v h =
      let chosen : named forced known found base list v ≡ renamed forced known (before v) = rw h refl in is v ∙ chosen

  -- a variable of an image is the new name of one of the image before
  image_name : (z : Variable) → IsInImage V s z → (y : Variable) × (StandsIn before list y × (new_name forced known y ≡ z))
  image_name z r =
      let h = within r.from r.within in
      let o = occurs-put_in (λ y. var (new_name forced known y)) z (before r.from) (ap (occurs z) (sym (listed_image r.from h)) ∙ r.below) in
      (o.0, (record { of = r.from; listed = h; below = o.1.0 }, same_variable-true (new_name forced known o.0) z o.1.1))

  name_image : (y : Variable) → StandsIn before list y → IsInImage V s (new_name forced known y)
  name_image y r = record {
    from = r.of;
    within = back r.of r.listed;
    below = ap (occurs (new_name forced known y)) (listed_image r.of r.listed)
        ∙ occurs-under (λ z. var (new_name forced known z)) y (new_name forced known y) (same_variable-refl (new_name forced known y)) (before r.of) r.below;
  }

-- one premise
pub one_numbered : {E : Type 0} (r : Result (Option (List (Variable × Term))) E) (found : List (Variable × Term)) (list : List Variable) (V : Variable → Bool)
    → ((v : Variable) → V v ≡ true → has list v ≡ true) → ((v : Variable) → has list v ≡ true → V v ≡ true)
    → IfOk r (λ o. IfSome o (λ s. (v : Variable) → image s v ≡ named (forced_of (images_of found 0 list) []) (known_of (images_of found 0 list) []) found 0 list v))
    → IfOk r (λ o. IfSome o (λ s. AreNumbered (IsInImage V (image s))))
one_numbered (Err e) found list V within back is = tt
one_numbered (Ok None) found list V within back is = tt
one_numbered (Ok (Some s)) found list V within back is =
    let left = images_of found 0 list in
    let F = forced_of left [] in
    let K = known_of left [] in
    let f : Variable → Tree = λ v. image found (raised 0 v) in
    numbered_by (IsInImage V (image s)) F K (ascends_known left [] tt)
    (λ z i. let y = image_name F K found 0 list V within back (image s) is z i in
    record { of = y.0; listed = known_own f list [] y.1.0.of y.0 y.1.0.listed y.1.0.below; named_so = y.1.1 })
    (λ y h. elim (known_only f list [] y h) [
      | inl none_there ↦ absurd (both_ways false none_there refl)
      | inr r ↦ name_image F K found 0 list V within back (image s) is y r
    ])

-- two premises
pub pair_numbered : {E : Type 0} (r : Result (Option (List (Variable × Term) × List (Variable × Term))) E) (found : List (Variable × Term)) (base : ℕ)
    (firsts seconds : List Variable) (V1 V2 : Variable → Bool)
    → ((v : Variable) → V1 v ≡ true → has firsts v ≡ true) → ((v : Variable) → has firsts v ≡ true → V1 v ≡ true)
    → ((v : Variable) → V2 v ≡ true → has seconds v ≡ true) → ((v : Variable) → has seconds v ≡ true → V2 v ≡ true)
    → IfOk r (λ o. IfSome o (λ p. (v : Variable) → image p.0 v ≡ named (forced_of (images_of found 0 firsts) (images_of found base seconds)) (known_of (images_of found 0 firsts) (images_of found base seconds)) found 0 firsts v))
    → IfOk r (λ o. IfSome o (λ p. (v : Variable) → image p.1 v ≡ named (forced_of (images_of found 0 firsts) (images_of found base seconds)) (known_of (images_of found 0 firsts) (images_of found base seconds)) found base seconds v))
    → IfOk r (λ o. IfSome o (λ p. AreNumbered (λ z. IsInImage V1 (image p.0) z ⊎ IsInImage V2 (image p.1) z)))
pair_numbered (Err e) found base firsts seconds V1 V2 within1 back1 within2 back2 is1 is2 = tt
pair_numbered (Ok None) found base firsts seconds V1 V2 within1 back1 within2 back2 is1 is2 = tt
pair_numbered (Ok (Some p)) found base firsts seconds V1 V2 within1 back1 within2 back2 is1 is2 =
    let left = images_of found 0 firsts in
    let right = images_of found base seconds in
    let F = forced_of left right in
    let K = known_of left right in
    let f : Variable → Tree = λ v. image found (raised 0 v) in
    let g : Variable → Tree = λ v. image found (raised base v) in
    numbered_by (λ z. IsInImage V1 (image p.0) z ⊎ IsInImage V2 (image p.1) z) F K (ascends_known right (known_in left []) (ascends_known left [] tt))
    (λ z i. elim i [
      | inl a ↦ (
          let y = image_name F K found 0 firsts V1 within1 back1 (image p.0) is1 z a in
          record { of = y.0; listed = known_before g seconds (known_in left []) y.0 (known_own f firsts [] y.1.0.of y.0 y.1.0.listed y.1.0.below); named_so = y.1.1 })
      | inr b ↦ (
          let y = image_name F K found base seconds V2 within2 back2 (image p.1) is2 z b in
          record { of = y.0; listed = known_own g seconds (known_in left []) y.1.0.of y.0 y.1.0.listed y.1.0.below; named_so = y.1.1 })
    ])
    (λ y h. elim (known_only g seconds (known_in left []) y h) [
      | inl b ↦ elim (known_only f firsts [] y b) [
        | inl none_there ↦ absurd (both_ways false none_there refl)
        | inr r ↦ inl (name_image F K found 0 firsts V1 within1 back1 (image p.0) is1 y r)
      ]
      | inr r ↦ inr (name_image F K found base seconds V2 within2 back2 (image p.1) is2 y r)
    ])

in_image_same : (V W : Variable → Bool) (s : Variable → Tree) → ((v : Variable) → V v ≡ true → W v ≡ true) → (z : Variable) → IsInImage V s z → IsInImage W s z
in_image_same V W s within z r = record { from = r.from; within = within r.from r.within; below = r.below }

-- the variables of the terms alone
pub pair_numbered_alone : {E : Type 0} (r : Result (Option (List (Variable × Term) × List (Variable × Term))) E) (l u : Tree)
    → IfOk r (λ o. IfSome o (λ p. AreNumbered (λ z. IsInImage (occurs_or l []) (image p.0) z ⊎ IsInImage (occurs_or u []) (image p.1) z)))
    → IfOk r (λ o. IfSome o (λ p. AreNumbered (λ z. IsInImage (λ v. occurs v l) (image p.0) z ⊎ IsInImage (λ v. occurs v u) (image p.1) z)))
pair_numbered_alone (Err e) l u h = tt
pair_numbered_alone (Ok None) l u h = tt
pair_numbered_alone (Ok (Some p)) l u h =
    numbered_same (λ z. IsInImage (occurs_or l []) (image p.0) z ⊎ IsInImage (occurs_or u []) (image p.1) z)
    (λ z. IsInImage (λ v. occurs v l) (image p.0) z ⊎ IsInImage (λ v. occurs v u) (image p.1) z)
    (λ z i. elim i [
      | inl a ↦ inl (in_image_same (occurs_or l []) (λ v. occurs v l) (image p.0) (λ v o. sym (or_none (occurs v l)) ∙ o) z a)
      | inr b ↦ inr (in_image_same (occurs_or u []) (λ v. occurs v u) (image p.1) (λ v o. sym (or_none (occurs v u)) ∙ o) z b)
    ])
    (λ z i. elim i [
      | inl a ↦ inl (in_image_same (λ v. occurs v l) (occurs_or l []) (image p.0) (λ v o. or-left (occurs v l) false o) z a)
      | inr b ↦ inr (in_image_same (λ v. occurs v u) (occurs_or u []) (image p.1) (λ v o. or-left (occurs v u) false o) z b)
    ])
    h
