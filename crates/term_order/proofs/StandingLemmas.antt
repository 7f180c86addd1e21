-- What `standing` gives is how a tree stands to another by the four cases.
use Rattle.std.proofs.Common.{◌≡◌, ◌≢◌, ◌⊎◌, inl, inr, Bool, true, false, ◌||◌, ◌&&◌, List, refl, ap, sym, ◌∙◌, subst, if◌then◌else◌}
use Rattle.term_base.specs.declared.symbols.Symbol.{Symbol}
use Rattle.term_base.specs.declared.variables.Variable.{Variable}
use Rattle.term_base.specs.Purity.{foreground, is_abstraction}
use Rattle.term_base.specs.Trees.{Head, Tree, Trees, var, node, none, more, Member, same_tree}
use Rattle.term_base.specs.TreeLemmas.{tree_induction, or-true, or-left, or-right, and-true, true_or_false, both_ways, same_tree-true, same_tree-refl}
use Rattle.term_order.specs.Above.{head_below, Above, over_abstraction, by_equal_argument, by_argument_above, by_head}
use Rattle.term_order.specs.Standing.{above_if, is_above, reaches, by_standing, some_reaches, node_standing, above_all, list_standing, standing, standings}
use Rattle.term_order.specs.declared.standing.Standing.{Standing}
use Rattle.term_order.specs.declared.standing.Standing.TheVariants as is
use Rattle.term_order.proofs.HeadLemmas.{below_itself, below_below, heads_total}
use Rattle.term_order.proofs.AboveLemmas.{Reaches, Wins, cases, by_reaching, by_winning, above_arguments, irreflexive, transitive}

and-in : (a b : Bool) → a ≡ true → b ≡ true → (a && b) ≡ true
and-in a b p q = rw p q

if-true : {A : Type 0} (b : Bool) (x y : A) → b ≡ true → (if b then x else y) ≡ x
if-true b x y h = rw h refl

if-false : {A : Type 0} (b : Bool) (x y : A) → b ≡ false → (if b then x else y) ≡ y
if-false b x y h = rw h refl

-- the arguments of a node
abbrev args : Tree → Trees
args (var v) = none
args (node f xs) = xs

abbrev after_first : Trees → Trees
after_first none = none
after_first (more x xs) = xs

abbrev first_or : Tree → Trees → Tree
first_or t none = t
first_or t (more x xs) = x

abbrev is_none : Trees → Bool
is_none none = true
is_none (more x xs) = false

abbrev is_var : Tree → Bool
is_var (var v) = true
is_var (node f xs) = false

module _ (S : List Symbol) where
  -- what each of the three answers says
  abbrev pub Stands : Tree → Tree → Standing → Type 0
  Stands s t is.Above = Above S s t
  Stands s t is.Equal = s ≡ t
  Stands s t is.Neither = (Above S s t → ⊥) × (s ≢ t)

  abbrev Told : Tree → Type 0
  Told s = (t : Tree) → Stands s t (standing S s t)

  stands_if : (s t : Tree) (b : Bool) → s ≢ t → (b ≡ true → Above S s t) → (Above S s t → b ≡ true) → Stands s t (above_if b)
  stands_if s t true d up back = up refl
  stands_if s t false d up back = ((λ a. both_ways false (back a) refl), d)

  reaches_out : (s t : Tree) (c : Standing) → Stands s t c → reaches c ≡ true → (s ≡ t) ⊎ Above S s t
  reaches_out s t is.Above h r = inr h
  reaches_out s t is.Equal h r = inl h
  reaches_out s t is.Neither h r = absurd (both_ways false r refl)

  reaches_in : (s t : Tree) (c : Standing) → Stands s t c → (s ≡ t) ⊎ Above S s t → reaches c ≡ true
  reaches_in s t is.Above h r = refl
  reaches_in s t is.Equal h r = refl
  reaches_in s t is.Neither h (inl e) = absurd (h.1 e)
  reaches_in s t is.Neither h (inr a) = absurd (h.0 a)

  pub above_out : (s t : Tree) (c : Standing) → Stands s t c → is_above c ≡ true → Above S s t
  above_out s t is.Above h r = h
  above_out s t is.Equal h r = absurd (both_ways false r refl)
  above_out s t is.Neither h r = absurd (both_ways false r refl)

  pub above_in : (s t : Tree) (c : Standing) → Stands s t c → Above S s t → is_above c ≡ true
  above_in s t is.Above h a = refl
  above_in s t is.Equal h a = absurd (irreflexive S s (subst (Above S s) (sym h) a))
  above_in s t is.Neither h a = absurd (h.0 a)

  some_out : (xs : Trees) → ((x : Tree) → Member x xs → Told x) → (t : Tree) → some_reaches (standings S xs) t ≡ true → Reaches S xs t
  some_out none each t h = absurd (both_ways false h refl)
  some_out (more x xs) each t h = elim (or-true (reaches (standing S x t)) (some_reaches (standings S xs) t) h) [
    | inl p ↦ (x, (inl refl, reaches_out x t (standing S x t) (each x (inl refl) t) p))
    | inr q ↦ (let r = some_out xs (λ y m. each y (inr m)) t q in (r.0, (inr r.1.0, r.1.1)))
  ]

  some_in : (xs : Trees) → ((x : Tree) → Member x xs → Told x) → (t x : Tree) → Member x xs → (x ≡ t) ⊎ Above S x t → some_reaches (standings S xs) t ≡ true
  some_in none each t x m h = absurd m
  some_in (more y ys) each t x (inl e) h = or-left (reaches (standing S y t)) (some_reaches (standings S ys) t)
      (reaches_in y t (standing S y t) (each y (inl refl) t) (subst (λ z. (z ≡ t) ⊎ Above S z t) (sym e) h))
  some_in (more y ys) each t x (inr m) h = or-right (reaches (standing S y t)) (some_reaches (standings S ys) t)
      (some_in ys (λ z k. each z (inr k)) t x m h)

  module _ (f : Head) (xs : Trees) (each : (x : Tree) → Member x xs → Told x) where
    abbrev s : Tree
    s = node f xs

    abbrev At : Tree → Type 0
    At t = Stands s t (node_standing S f xs (standings S xs) t)

    all_out : (ys : Trees) → ((y : Tree) → Member y ys → At y) → above_all S f xs (standings S xs) ys ≡ true → (y : Tree) → Member y ys → Above S s y
    all_out none inner h y m = absurd m
    all_out (more z zs) inner h y m =
        let two = and-true (is_above (node_standing S f xs (standings S xs) z)) (above_all S f xs (standings S xs) zs) h in
        elim m [
          | inl e ↦ subst (Above S s) e (above_out s z (node_standing S f xs (standings S xs) z) (inner z (inl refl)) two.0)
          | inr k ↦ all_out zs (λ a i. inner a (inr i)) two.1 y k
        ]

    all_in : (ys : Trees) → ((y : Tree) → Member y ys → At y) → ((y : Tree) → Member y ys → Above S s y) → above_all S f xs (standings S xs) ys ≡ true
    all_in none inner h = refl
    all_in (more z zs) inner h = and-in (is_above (node_standing S f xs (standings S xs) z)) (above_all S f xs (standings S xs) zs)
        (above_in s z (node_standing S f xs (standings S xs) z) (inner z (inl refl)) (h z (inl refl)))
        (all_in zs (λ a i. inner a (inr i)) (λ y k. h y (inr k)))

    module _ (g : Head) (ys : Trees) (inner : (y : Tree) → Member y ys → At y) where
      abbrev t : Tree
      t = node g ys

      apart : ((f ≡ g) → xs ≡ ys → ⊥) → s ≢ t
      apart d e = d (let h : f ≡ g = cc in h) (ap args e)

      head_apart : head_below S f g ≡ true → (f ≡ g) → ⊥
      head_apart b e = below_itself S f (subst (λ h. head_below S f h ≡ true) (sym e) b)

      head_apart_back : head_below S g f ≡ true → (f ≡ g) → ⊥
      head_apart_back b e = below_itself S g (subst (λ h. head_below S g h ≡ true) e b)

      -- a smaller head is above by an argument alone
      smaller : head_below S f g ≡ true → Stands s t (above_if (some_reaches (standings S xs) t))
      smaller b = stands_if s t (some_reaches (standings S xs) t) (apart (λ e _. head_apart b e))
          (λ h. by_reaching S f xs t (some_out xs each t h))
          (λ a. elim (cases S s t a) [
            | inl r ↦ some_in xs each t r.0 r.1.0 r.1.1
            | inr p ↦ elim p.0 [
              | inl k ↦ absurd (below_itself S f (below_below S f g f b k))
              | inr q ↦ absurd (head_apart b q.0)
            ]
          ])

      -- a larger head is above exactly where it is above each argument
      larger : head_below S g f ≡ true → Stands s t (above_if (above_all S f xs (standings S xs) ys))
      larger b = stands_if s t (above_all S f xs (standings S xs) ys) (apart (λ e _. head_apart_back b e))
          (λ h. by_head f g xs ys b (all_out ys inner h))
          (λ a. all_in ys inner (λ y m. above_arguments S s g ys a y m))

      -- the arguments behind equal ones
      record Behind (ls rs : Trees) : Type 0 where
        left_in : (x : Tree) → Member x ls → Member x xs
        right_in : (y : Tree) → Member y rs → Member y ys
        left_else : (x : Tree) → Member x xs → Member x ys ⊎ Member x ls
        right_else : (y : Tree) → Member y ys → Member y xs ⊎ Member y rs
        wins : Wins S ls rs → Wins S xs ys
        wins_back : Wins S xs ys → Wins S ls rs
        same : ls ≡ rs → xs ≡ ys
        same_back : xs ≡ ys → ls ≡ rs

      next : (a b : Tree) (ls rs : Trees) → a ≡ b → Behind (more a ls) (more b rs) → Behind ls rs
      next a b ls rs e r = record {
        left_in = λ x m. r.left_in x (inr m);
        right_in = λ y m. r.right_in y (inr m);
        left_else = λ x m. elim (r.left_else x m) [
          | inl c ↦ inl c
          | inr k ↦ elim k [ inl i ↦ inl (subst (λ z. Member z ys) (sym e ∙ i) (r.right_in b (inl refl))) | inr k' ↦ inr k' ]
        ];
        right_else = λ y m. elim (r.right_else y m) [
          | inl c ↦ inl c
          | inr k ↦ elim k [ inl i ↦ inl (subst (λ z. Member z xs) (e ∙ i) (r.left_in a (inl refl))) | inr k' ↦ inr k' ]
        ];
        wins = λ w. r.wins (inl (e, w));
        wins_back = λ w. elim (r.wins_back w) [ inl p ↦ p.1 | inr p ↦ absurd (p.0 e) ];
        same = λ i. r.same (let j : ls ≡ rs = i in cc);
        same_back = λ i. ap after_first (r.same_back i);
      }

      module _ (e : f ≡ g) where
        -- no argument of t reaches t
        no_return : (x : Tree) → Member x ys → (x ≡ t) ⊎ Above S x t → ⊥
        no_return x m h = elim h [
          | inl i ↦ irreflexive S t (subst (Above S t) i (by_equal_argument g ys x m))
          | inr a ↦ irreflexive S t (transitive S t x t (by_equal_argument g ys x m) a)
        ]

        lists : (rs ls : Trees) → Behind ls rs → Stands s t (list_standing S f xs (standings S xs) t rs (standings S ls))
        lists none none r = let i = r.same refl in cc
        lists none (more a ls) r = stands_if s t (some_reaches (standings S (more a ls)) t)
            (apart (λ _ i. both_ways false (ap is_none (r.same_back i)) refl))
            (λ h. let k = some_out (more a ls) (λ x m. each x (r.left_in x m)) t h in by_reaching S f xs t (k.0, (r.left_in k.0 k.1.0, k.1.1)))
            (λ h. elim (cases S s t h) [
              | inl k ↦ elim (r.left_else k.0 k.1.0) [
                | inl c ↦ absurd (no_return k.0 c k.1.1)
                | inr m ↦ some_in (more a ls) (λ x i. each x (r.left_in x i)) t k.0 m k.1.1
              ]
              | inr p ↦ elim p.0 [ inl b ↦ absurd (head_apart_back b e) | inr q ↦ absurd (r.wins_back q.1) ]
            ])
        lists (more b rs) none r = (
          (λ h. elim (cases S s t h) [
            | inl k ↦ elim (r.left_else k.0 k.1.0) [ inl c ↦ no_return k.0 c k.1.1 | inr m ↦ m ]
            | inr p ↦ elim p.0 [ inl i ↦ head_apart_back i e | inr q ↦ r.wins_back q.1 ]
          ]),
          apart (λ _ i. both_ways true refl (sym (ap is_none (sym (r.same_back i))))),
        )
        lists (more b rs) (more a ls) r = decided (standing S a b) (each a (r.left_in a (inl refl)) b) (lists rs ls) where
          others : (x : Tree) → Member x ls → Told x
          others x m = each x (r.left_in x (inr m))

          decided : (c : Standing) → Stands a b c
              → (Behind ls rs → Stands s t (list_standing S f xs (standings S xs) t rs (standings S ls)))
              → Stands s t (by_standing c
              (above_if (above_all S f xs (standings S xs) rs))
              (list_standing S f xs (standings S xs) t rs (standings S ls))
              (above_if (some_reaches (standings S ls) t)))
          decided is.Above h go = stands_if s t (above_all S f xs (standings S xs) rs)
              (apart (λ _ i. irreflexive S a (subst (Above S a) (sym (ap (first_or a) (r.same_back i))) h)))
              (λ all. by_winning S f xs g ys (inr (e, r.wins (inr ((λ i. irreflexive S a (subst (Above S a) (sym i) h)), h))))
              (λ y m. elim (r.right_else y m) [
                | inl c ↦ by_equal_argument f xs y c
                | inr k ↦ elim k [
                  | inl i ↦ subst (Above S s) i (by_argument_above f xs a b (r.left_in a (inl refl)) h)
                  | inr k' ↦ all_out rs (λ z j. inner z (r.right_in z (inr j))) all y k'
                ]
              ]))
              (λ h'. all_in rs (λ z j. inner z (r.right_in z (inr j))) (λ y m. above_arguments S s g ys h' y (r.right_in y (inr m))))
          decided is.Equal h go = go (next a b ls rs h r)
          decided is.Neither h go = stands_if s t (some_reaches (standings S ls) t)
              (apart (λ _ i. h.1 (ap (first_or a) (r.same_back i))))
              (λ some. let k = some_out ls others t some in by_reaching S f xs t (k.0, (r.left_in k.0 (inr k.1.0), k.1.1)))
              (λ h'. elim (cases S s t h') [
                | inl k ↦ elim (r.left_else k.0 k.1.0) [
                  | inl c ↦ absurd (no_return k.0 c k.1.1)
                  | inr m ↦ elim m [
                    | inl i ↦ absurd (h.0 (subst (λ z. Above S z b) (sym i) (elim k.1.1 [
                      | inl j ↦ subst (λ z. Above S z b) (sym j) (by_equal_argument g ys b (r.right_in b (inl refl)))
                      | inr up ↦ above_arguments S k.0 g ys up b (r.right_in b (inl refl))
                    ])))
                    | inr m' ↦ some_in ls others t k.0 m' k.1.1
                  ]
                ]
                | inr p ↦ elim p.0 [
                  | inl i ↦ absurd (head_apart_back i e)
                  | inr q ↦ elim (r.wins_back q.1) [ inl w ↦ absurd (h.1 w.0) | inr w ↦ absurd (h.0 w.1) ]
                ]
              ])

        whole : Behind xs ys
        whole = record {
          left_in = λ x m. m;
          right_in = λ y m. m;
          left_else = λ x m. inr m;
          right_else = λ y m. inr m;
          wins = λ w. w;
          wins_back = λ w. w;
          same = λ i. i;
          same_back = λ i. i;
        }

      node_at : At (node g ys)
      node_at = elim (true_or_false (head_below S f g)) [
        | inl b ↦ subst (Stands s t) (sym (if-true (head_below S f g) _ _ b)) (smaller b)
        | inr n ↦ subst (Stands s t) (sym (if-false (head_below S f g) _ _ n)) (elim (true_or_false (head_below S g f)) [
          | inl b ↦ subst (Stands s t) (sym (if-true (head_below S g f) _ _ b)) (larger b)
          | inr k ↦ (let e = heads_total S f g n k in subst (Stands s t) (sym (if-false (head_below S g f) _ _ k)) (lists e ys xs (whole e)))
        ])
      ]

    variable_at : (v : Variable) → At (var v)
    variable_at v =
        let first = is_abstraction v && foreground S s in
        let some = some_reaches (standings S xs) (var v) in
        stands_if s (var v) (first || some)
        (λ i. both_ways true refl (sym (ap is_var i)))
        (λ h. elim (or-true first some h) [
          | inl p ↦ (let two = and-true (is_abstraction v) (foreground S s) p in over_abstraction f xs v two.0 two.1)
          | inr q ↦ by_reaching S f xs (var v) (some_out xs each (var v) q)
        ])
        (λ a. elim (cases S s (var v) a) [
          | inl r ↦ or-right first some (some_in xs each (var v) r.0 r.1.0 r.1.1)
          | inr p ↦ or-left first some (and-in (is_abstraction v) (foreground S s) p.0 p.1)
        ])

    at_tree : (t : Tree) → At t
    at_tree = tree_induction At variable_at node_at

  variable_stands : (v : Variable) (t : Tree) (b : Bool) → b ≡ same_tree (var v) t → Stands (var v) t (if b then is.Equal else is.Neither)
  variable_stands v t true h = same_tree-true (var v) t (sym h)
  variable_stands v t false h = (
    (λ a. cases S (var v) t a),
    (λ i. both_ways (same_tree (var v) t)
        (subst (λ z. same_tree (var v) z ≡ true) i (same_tree-refl (var v))) (sym h)),
  )

  -- the answer is how the trees stand to each other
  pub standing_told : (s : Tree) → Told s
  standing_told = tree_induction Told
      (λ v t. variable_stands v t (same_tree (var v) t) refl)
      (λ f xs each t. at_tree f xs each t)
