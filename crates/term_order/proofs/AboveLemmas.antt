-- The order is irreflexive and transitive, and every simple substitution keeps it.
use Rattle.std.proofs.Common.{◌≡◌, ◌≢◌, ◌⊎◌, inl, inr, true, false, List, refl, ap, sym, ◌∙◌, subst}
use Rattle.std.proofs.lemmas.Bool.{not-false}
use Rattle.term_base.specs.declared.symbols.Symbol.{Symbol}
use Rattle.term_base.specs.declared.variables.Variable.{Variable}
use Rattle.term_base.specs.Purity.{foreground_head, foreground, any_foreground, is_abstraction, IsPure}
use Rattle.term_base.specs.Substitution.{put_in, put_all, Simple}
use Rattle.term_base.specs.Trees.{Head, Tree, Trees, var, node, none, more, Member}
use Rattle.term_base.specs.TreeLemmas.{tree_induction, or-true, or-false, or-left, or-right, both_ways, foreground_member, member_foreground, pure_member, member_put, put_member, put-foreground}
use Rattle.term_order.specs.Above.{head_below, FirstDifference, Above, over_abstraction, by_equal_argument, by_argument_above, by_head, by_arguments}
use Rattle.term_order.proofs.HeadLemmas.{below_itself, below_below, foreground_rises, others_below}

module _ (S : List Symbol) where
  -- some argument equals t or is above t
  abbrev pub Reaches : Trees → Tree → Type 0
  Reaches xs t = (x : Tree) × (Member x xs × ((x ≡ t) ⊎ Above S x t))

  -- at the first place where the arguments differ that of xs is above that of ys
  abbrev pub Wins : Trees → Trees → Type 0
  Wins (more x xs) (more y ys) = ((x ≡ y) × Wins xs ys) ⊎ ((x ≢ y) × Above S x y)
  Wins _ _ = ⊥

  abbrev pub HeadWins : Head → Trees → Head → Trees → Type 0
  HeadWins f xs g ys = (head_below S g f ≡ true) ⊎ ((f ≡ g) × Wins xs ys)

  -- case 1, or cases 3 and 4
  abbrev pub Passes : Head → Trees → Tree → Type 0
  Passes f xs (var v) = (is_abstraction v ≡ true) × (foreground S (node f xs) ≡ true)
  Passes f xs (node g ys) = HeadWins f xs g ys × ((y : Tree) → Member y ys → Above S (node f xs) y)

  abbrev pub Cases : Tree → Tree → Type 0
  Cases (var v) t = ⊥
  Cases (node f xs) t = Reaches xs t ⊎ Passes f xs t

  wins_in : (xs ys : Trees) (x y : Tree) → FirstDifference xs ys x y → Above S x y → Wins xs ys
  wins_in none ys x y d h = absurd d
  wins_in (more a xs) none x y d h = absurd d
  wins_in (more a xs) (more b ys) x y (inl p) h = inl (p.0, wins_in xs ys x y p.1 h)
  wins_in (more a xs) (more b ys) x y (inr p) h = inr (p.0, subst (λ z. Above S z b) (sym p.1) (subst (Above S x) (sym p.2) h))

  wins_out : (xs ys : Trees) → Wins xs ys → (x : Tree) × ((y : Tree) × (FirstDifference xs ys x y × Above S x y))
  wins_out none ys w = absurd w
  wins_out (more a xs) none w = absurd w
  wins_out (more a xs) (more b ys) (inl p) = let r = wins_out xs ys p.1 in (r.0, (r.1.0, (inl (p.0, r.1.1.0), r.1.1.1)))
  wins_out (more a xs) (more b ys) (inr p) = (a, (b, (inr (p.0, refl, refl), p.1)))

  -- the four cases, as a sum
  pub cases : (s t : Tree) → Above S s t → Cases s t
  cases s t (over_abstraction f xs v a b) = inr (a, b)
  cases s t (by_equal_argument f xs u m) = inl (u, (m, inl refl))
  cases s t (by_argument_above f xs x u m a) = inl (x, (m, inr a))
  cases s t (by_head f g xs ys b all) = inr (inl b, all)
  cases s t (by_arguments f xs ys x y d a all) = inr (inr (refl, wins_in xs ys x y d a), all)

  pub by_reaching : (f : Head) (xs : Trees) (t : Tree) → Reaches xs t → Above S (node f xs) t
  by_reaching f xs t r = elim r.1.1 [
    | inl e ↦ subst (Above S (node f xs)) e (by_equal_argument f xs r.0 r.1.0)
    | inr a ↦ by_argument_above f xs r.0 t r.1.0 a
  ]

  pub by_winning : (f : Head) (xs : Trees) (g : Head) (ys : Trees) → HeadWins f xs g ys → ((y : Tree) → Member y ys → Above S (node f xs) y) → Above S (node f xs) (node g ys)
  by_winning f xs g ys (inl b) all = by_head f g xs ys b all
  by_winning f xs g ys (inr q) all =
      let r = wins_out xs ys q.1 in
      subst (λ h. Above S (node f xs) (node h ys)) q.0 (by_arguments f xs ys r.0 r.1.0 r.1.1.0 r.1.1.1 all)

  -- what is above a node is above its arguments
  abbrev AboveArguments : Tree → Type 0
  AboveArguments s = (g : Head) (ys : Trees) → Above S s (node g ys) → (y : Tree) → Member y ys → Above S s y

  pub above_arguments : (s : Tree) → AboveArguments s
  above_arguments = tree_induction AboveArguments
      (λ v g ys h y m. absurd (cases (var v) (node g ys) h))
      (λ f xs each g ys h y m. elim (cases (node f xs) (node g ys) h) [
        | inl r ↦ by_argument_above f xs r.0 y r.1.0 (elim r.1.1 [
          | inl e ↦ subst (λ z. Above S z y) (sym e) (by_equal_argument g ys y m)
          | inr a ↦ each r.0 r.1.0 g ys a y m
        ])
        | inr p ↦ p.1 y m
      ])

  abbrev NotAboveItself : Tree → Type 0
  NotAboveItself s = Above S s s → ⊥

  wins_apart : (xs : Trees) → Wins xs xs → ⊥
  wins_apart none w = w
  wins_apart (more x xs) (inl p) = wins_apart xs p.1
  wins_apart (more x xs) (inr p) = p.0 refl

  pub irreflexive : (s : Tree) → NotAboveItself s
  irreflexive = tree_induction NotAboveItself
      (λ v h. cases (var v) (var v) h)
      (λ f xs each h. elim (cases (node f xs) (node f xs) h) [
        | inl r ↦ each r.0 r.1.0 (elim r.1.1 [
          | inl e ↦ subst (λ z. Above S z r.0) (sym e) (by_equal_argument f xs r.0 r.1.0)
          | inr a ↦ above_arguments r.0 f xs a r.0 r.1.0
        ])
        | inr p ↦ elim p.0 [ inl b ↦ below_itself S f b | inr q ↦ wins_apart xs q.1 ]
      ])

  -- what is above a foreground term is foreground
  abbrev Rises : Tree → Type 0
  Rises s = (t : Tree) → Above S s t → foreground S t ≡ true → foreground S s ≡ true

  either_head : (f g : Head) (xs ys : Trees) → HeadWins f xs g ys → (head_below S g f ≡ true) ⊎ (f ≡ g)
  either_head f g xs ys (inl b) = inl b
  either_head f g xs ys (inr p) = inr p.0

  foreground_argument : (f : Head) (xs : Trees) (x : Tree) → Member x xs → foreground S x ≡ true → foreground S (node f xs) ≡ true
  foreground_argument f xs x m h = or-right (foreground_head S f) (any_foreground S xs) (member_foreground S xs x m h)

  pub rises : (s : Tree) → Rises s
  rises = tree_induction Rises
      (λ v t h _. absurd (cases (var v) t h))
      (λ f xs each. tree_induction (λ t. Above S (node f xs) t → foreground S t ≡ true → foreground S (node f xs) ≡ true)
      (λ v h p. absurd (both_ways false p refl))
      (λ g ys later h p. elim (cases (node f xs) (node g ys) h) [
        | inl r ↦ foreground_argument f xs r.0 r.1.0 (elim r.1.1 [
          | inl e ↦ ap (foreground S) e ∙ p
          | inr a ↦ each r.0 r.1.0 (node g ys) a p
        ])
        | inr q ↦ elim (or-true (foreground_head S g) (any_foreground S ys) p) [
          | inl in_head ↦ or-left (foreground_head S f) (any_foreground S xs) (foreground_rises S f g (either_head f g xs ys q.0) in_head)
          | inr below ↦ (let m = foreground_member S ys below in later m.0 m.1.0 (q.1 m.0 m.1.0) m.1.1)
        ]
      ]))

  -- a foreground term is above every pure one
  abbrev OverPure : Tree → Type 0
  OverPure s = foreground S s ≡ true → (p : Tree) → IsPure S p → Above S s p

  head_over_pure : (f : Head) (xs : Trees) → foreground_head S f ≡ true → (p : Tree) → IsPure S p → Above S (node f xs) p
  head_over_pure f xs h = tree_induction (λ p. IsPure S p → Above S (node f xs) p)
      (λ v pure. over_abstraction f xs v (not-false (is_abstraction v) pure.no_ordinary) (or-left (foreground_head S f) (any_foreground S xs) h))
      (λ g ys later pure. by_head f g xs ys
      (others_below S f g h (or-false (foreground_head S g) (any_foreground S ys) pure.no_foreground).0)
      (λ y m. later y m (pure_member S g ys pure y m)))

  pub over_pure : (s : Tree) → OverPure s
  over_pure = tree_induction OverPure
      (λ v h p pure. absurd (both_ways false h refl))
      (λ f xs each h p pure. elim (or-true (foreground_head S f) (any_foreground S xs) h) [
        | inl in_head ↦ head_over_pure f xs in_head p pure
        | inr below ↦ (let m = foreground_member S xs below in
            by_argument_above f xs m.0 p m.1.0 (each m.0 m.1.0 m.1.1 p pure))
      ])

  -- transitivity
  abbrev GoesOn : Tree → Type 0
  GoesOn s = (t u : Tree) → Above S s t → Above S t u → Above S s u

  wins_wins : (xs ys zs : Trees) → ((x : Tree) → Member x xs → GoesOn x) → Wins xs ys → Wins ys zs → Wins xs zs
  wins_wins none ys zs each p q = absurd p
  wins_wins (more x xs) none zs each p q = absurd p
  wins_wins (more x xs) (more y ys) none each p q = absurd q
  wins_wins (more x xs) (more y ys) (more z zs) each (inl p) (inl q) = inl (p.0 ∙ q.0, wins_wins xs ys zs (λ a m. each a (inr m)) p.1 q.1)
  wins_wins (more x xs) (more y ys) (more z zs) each (inl p) (inr q) = inr ((λ e. q.0 (sym p.0 ∙ e)), subst (λ a. Above S a z) (sym p.0) q.1)
  wins_wins (more x xs) (more y ys) (more z zs) each (inr p) (inl q) = inr ((λ e. p.0 (e ∙ sym q.0)), subst (Above S x) q.0 p.1)
  wins_wins (more x xs) (more y ys) (more z zs) each (inr p) (inr q) =
      let a = each x (inl refl) y z p.1 q.1 in
      inr ((λ e. irreflexive x (subst (Above S x) (sym e) a)), a)

  heads_go_on : (f g h : Head) (xs ys zs : Trees) → ((x : Tree) → Member x xs → GoesOn x) → HeadWins f xs g ys → HeadWins g ys h zs → HeadWins f xs h zs
  heads_go_on f g h xs ys zs each (inl p) (inl q) = inl (below_below S f g h q p)
  heads_go_on f g h xs ys zs each (inl p) (inr q) = inl (subst (λ a. head_below S a f ≡ true) q.0 p)
  heads_go_on f g h xs ys zs each (inr p) (inl q) = inl (subst (λ a. head_below S h a ≡ true) (sym p.0) q)
  heads_go_on f g h xs ys zs each (inr p) (inr q) = inr (p.0 ∙ q.0, wins_wins xs ys zs each p.1 q.1)

  -- where an argument of s reaches t
  reach_on : (f : Head) (xs : Trees) (t u : Tree) → ((x : Tree) → Member x xs → GoesOn x) → Reaches xs t → Above S t u → Above S (node f xs) u
  reach_on f xs t u each r k = by_argument_above f xs r.0 u r.1.0 (elim r.1.1 [
    | inl e ↦ subst (λ a. Above S a u) (sym e) k
    | inr a ↦ each r.0 r.1.0 t u a k
  ])

  pub transitive : (s : Tree) → GoesOn s
  transitive = tree_induction GoesOn
      (λ v t u h _. absurd (cases (var v) t h))
      (λ f xs each. tree_induction (λ t. (u : Tree) → Above S (node f xs) t → Above S t u → Above S (node f xs) u)
      (λ v u h k. absurd (cases (var v) u k))
      (λ g ys inner. tree_induction (λ u. Above S (node f xs) (node g ys) → Above S (node g ys) u → Above S (node f xs) u)
      (λ v h k. elim (cases (node f xs) (node g ys) h) [
        | inl r ↦ reach_on f xs (node g ys) (var v) each r k
        | inr q ↦ elim (cases (node g ys) (var v) k) [
          | inl r ↦ elim r.1.1 [
            | inl e ↦ subst (Above S (node f xs)) e (q.1 r.0 r.1.0)
            | inr a ↦ inner r.0 r.1.0 (var v) (q.1 r.0 r.1.0) a
          ]
          | inr p ↦ over_abstraction f xs v p.0 (rises (node f xs) (node g ys) h p.1)
        ]
      ])
      (λ j zs last h k. elim (cases (node f xs) (node g ys) h) [
        | inl r ↦ reach_on f xs (node g ys) (node j zs) each r k
        | inr q ↦ elim (cases (node g ys) (node j zs) k) [
          | inl r ↦ elim r.1.1 [
            | inl e ↦ subst (Above S (node f xs)) e (q.1 r.0 r.1.0)
            | inr a ↦ inner r.0 r.1.0 (node j zs) (q.1 r.0 r.1.0) a
          ]
          | inr p ↦ by_winning f xs j zs (heads_go_on f g j xs ys zs each q.0 p.0) (λ z m. last z m h (p.1 z m))
        ]
      ])))

  -- every simple substitution keeps the order
  module _ (s : Variable → Tree) (simple : Simple S s) where
    abbrev Stays : Tree → Type 0
    Stays t = (u : Tree) → Above S t u → Above S (put_in s t) (put_in s u)

    wins_stay : (xs ys : Trees) → ((x : Tree) → Member x xs → Stays x) → Wins xs ys → Wins (put_all s xs) (put_all s ys)
    wins_stay none ys each w = absurd w
    wins_stay (more x xs) none each w = absurd w
    wins_stay (more x xs) (more y ys) each (inl p) = inl (ap (put_in s) p.0, wins_stay xs ys (λ a m. each a (inr m)) p.1)
    wins_stay (more x xs) (more y ys) each (inr p) =
        let a = each x (inl refl) y p.1 in
        inr ((λ e. irreflexive (put_in s x) (subst (Above S (put_in s x)) (sym e) a)), a)

    heads_stay : (f g : Head) (xs ys : Trees) → ((x : Tree) → Member x xs → Stays x) → HeadWins f xs g ys → HeadWins f (put_all s xs) g (put_all s ys)
    heads_stay f g xs ys each (inl p) = inl p
    heads_stay f g xs ys each (inr p) = inr (p.0, wins_stay xs ys each p.1)

    reach_stays : (f : Head) (xs : Trees) (u : Tree) → ((x : Tree) → Member x xs → Stays x) → Reaches xs u → Above S (node f (put_all s xs)) (put_in s u)
    reach_stays f xs u each r =
        by_reaching f (put_all s xs) (put_in s u) (
          put_in s r.0,
          (
            member_put s xs r.0 r.1.0,
            elim r.1.1 [ inl e ↦ inl (ap (put_in s) e) | inr a ↦ inr (each r.0 r.1.0 u a) ],
          ),
        )

    pub stays : (t : Tree) → Stays t
    stays = tree_induction Stays
        (λ v u h. absurd (cases (var v) u h))
        (λ f xs each. tree_induction (λ u. Above S (node f xs) u → Above S (put_in s (node f xs)) (put_in s u))
        (λ v h. elim (cases (node f xs) (var v) h) [
          | inl r ↦ reach_stays f xs (var v) each r
          | inr p ↦ over_pure (put_in s (node f xs)) (put-foreground S s (node f xs) p.1) (s v) (simple.pure v p.0)
        ])
        (λ g ys later h. elim (cases (node f xs) (node g ys) h) [
          | inl r ↦ reach_stays f xs (node g ys) each r
          | inr p ↦ by_winning f (put_all s xs) g (put_all s ys) (heads_stay f g xs ys each p.0) (λ y m.
              let o = put_member s ys y m in
              subst (Above S (node f (put_all s xs))) o.1.1 (later o.0 o.1.0 (p.1 o.0 o.1.0)))
        ]))
