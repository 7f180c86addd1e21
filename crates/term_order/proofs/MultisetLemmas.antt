-- The order of multisets of two terms stays under every simple substitution.
use Rattle.std.proofs.Common.{◌≡◌, ◌≢◌, ◌⊎◌, inl, inr, ℕ, suc, ◌<◌, ◌≤◌, true, false, List, [], ◌∷◌, map, refl, ap, sym, ◌∙◌, subst, arith, if◌then◌else◌}
use Rattle.std.proofs.lemmas.Bool.{ltb-true, ltb-false}
use Rattle.std.specs.Prelude.{ltb}
use Rattle.term_base.specs.declared.symbols.Symbol.{Symbol}
use Rattle.term_base.specs.declared.variables.Variable.{Variable}
use Rattle.term_base.specs.Trees.{Tree, same_tree}
use Rattle.term_base.specs.TreeLemmas.{same_tree-refl, same_tree-false, same_or_not, true_or_false}
use Rattle.term_base.specs.Substitution.{put_in, Simple}
use Rattle.term_base.specs.Lits.{Relation, equal, differ, at_most, Lit, put_lit}
use Rattle.term_order.specs.Above.{Above}
use Rattle.term_order.specs.Literals.{count, More, MultisetAbove, multiset, multiset_of, LiteralAbove}
use Rattle.term_order.proofs.AboveLemmas.{irreflexive, transitive, stays}

pub count-same : (x t : Tree) (xs : List Tree) → x ≡ t → count t (x ∷ xs) ≡ suc (count t xs)
count-same x t xs e = let h : same_tree x t ≡ true = ap (same_tree x) (sym e) ∙ same_tree-refl x in rw h refl

pub count-other : (x t : Tree) (xs : List Tree) → x ≢ t → count t (x ∷ xs) ≡ count t xs
count-other x t xs h = let e : same_tree x t ≡ false = same_tree-false x t h in rw e refl

-- the list without the first place of a tree
abbrev remove : Tree → List Tree → List Tree
remove t [] = []
remove t (x ∷ xs) = if same_tree x t then xs else (x ∷ remove t xs)

remove-same : (x t : Tree) (xs : List Tree) → x ≡ t → remove t (x ∷ xs) ≡ xs
remove-same x t xs e = let h : same_tree x t ≡ true = ap (same_tree x) (sym e) ∙ same_tree-refl x in rw h refl

remove-other : (x t : Tree) (xs : List Tree) → x ≢ t → remove t (x ∷ xs) ≡ x ∷ remove t xs
remove-other x t xs h = let e : same_tree x t ≡ false = same_tree-false x t h in rw e refl

-- one less of the removed, where it is there
count-remove : (t : Tree) (m : List Tree) → 0 < count t m → count t m ≡ suc (count t (remove t m))
count-remove t [] h = absurd (omega arith)
count-remove t (x ∷ xs) h = elim (same_or_not x t) [
  | inl e ↦ count-same x t xs e ∙ ap (λ l. suc (count t l)) (sym (remove-same x t xs e))
  | inr d ↦ let p : 0 < count t xs = subst (λ n. 0 < n) (count-other x t xs d) h in
      count-other x t xs d ∙ count-remove t xs p ∙ ap suc (sym (count-other x t (remove t xs) d) ∙ ap (count t) (sym (remove-other x t xs d)))
]

count-remove-other : (t u : Tree) (m : List Tree) → u ≢ t → count t (remove u m) ≡ count t m
count-remove-other t u [] d = refl
count-remove-other t u (x ∷ xs) d = elim (same_or_not x u) [
  | inl e ↦ ap (count t) (remove-same x u xs e) ∙ sym (count-other x t xs (λ f. d (sym e ∙ f)))
  | inr k ↦ ap (count t) (remove-other x u xs k) ∙ elim (same_or_not x t) [
    | inl e ↦ count-same x t (remove u xs) e ∙ ap suc (count-remove-other t u xs d) ∙ sym (count-same x t xs e)
    | inr n ↦ count-other x t (remove u xs) n ∙ count-remove-other t u xs d ∙ sym (count-other x t xs n)
  ]
]

pub less_or_not : (a b : ℕ) → (a < b) ⊎ (b ≤ a)
less_or_not a b = elim (true_or_false (ltb a b)) [ inl h ↦ inl (ltb-true a b h) | inr h ↦ inr (ltb-false a b h) ]

module _ (r : Tree → Tree) where
  count-image : (t : Tree) (m : List Tree) → 0 < count t m → count (r t) (map r m) ≡ suc (count (r t) (map r (remove t m)))
  count-image t [] h = absurd (omega arith)
  count-image t (x ∷ xs) h = elim (same_or_not x t) [
    | inl e ↦ count-same (r x) (r t) (map r xs) (ap r e) ∙ ap (λ l. suc (count (r t) (map r l))) (sym (remove-same x t xs e))
    | inr d ↦ let p : 0 < count t xs = subst (λ n. 0 < n) (count-other x t xs d) h in
        let later = count-image t xs p in
        let back : count (r t) (map r (remove t (x ∷ xs))) ≡ count (r t) (r x ∷ map r (remove t xs)) = ap (λ l. count (r t) (map r l)) (remove-other x t xs d) in
        elim (same_or_not (r x) (r t)) [
          | inl e ↦ count-same (r x) (r t) (map r xs) e ∙ ap suc later ∙ ap suc (sym (count-same (r x) (r t) (map r (remove t xs)) e) ∙ sym back)
          | inr n ↦ count-other (r x) (r t) (map r xs) n ∙ later ∙ ap suc (sym (count-other (r x) (r t) (map r (remove t xs)) n) ∙ sym back)
        ]
  ]

  -- where m has each tree with image w at least as often as l, its image has w at least as often
  pigeons : (w : Tree) (l m : List Tree) → ((t : Tree) → r t ≡ w → count t l ≤ count t m) → count w (map r l) ≤ count w (map r m)
  pigeons w [] m h = omega arith
  pigeons w (x ∷ xs) m h = elim (same_or_not (r x) w) [
    | inr d ↦ subst (λ n. n ≤ count w (map r m)) (sym (count-other (r x) w (map r xs) d)) (pigeons w xs m (λ t e. elim (same_or_not x t) [
      | inl same ↦ (let a = count-same x t xs same in let b = h t e in omega arith)
      | inr n ↦ (let a = count-other x t xs n in let b = h t e in omega arith)
    ]))
    | inl e ↦ (let a = count-same x x xs refl in
        let b = h x e in
        let c : 0 < count x m = omega arith in
        let later = pigeons w xs (remove x m) (λ t f. elim (same_or_not x t) [
          | inl same ↦ (let p = count-same x t xs same in let q = h t f in
              let u : count t m ≡ suc (count t (remove x m)) = subst (λ z. count z m ≡ suc (count z (remove x m))) same (count-remove x m c) in omega arith)
          | inr n ↦ (let p = count-other x t xs n in let q = h t f in let u = count-remove-other t x m n in omega arith)
        ]) in
        let d = count-same (r x) w (map r xs) e in
        let f : count w (map r m) ≡ suc (count w (map r (remove x m))) = subst (λ z. count z (map r m) ≡ suc (count z (map r (remove x m)))) e (count-image x m c) in
        omega arith)
  ]

  -- strictly, where m has one of them more often
  strictly : (y : Tree) (l m : List Tree) → ((t : Tree) → r t ≡ r y → count t l ≤ count t m) → More m l y → More (map r m) (map r l) (r y)
  strictly y l m h more =
      let c : 0 < count y m = omega arith in
      let a = count-remove y m c in
      let b = count-image y m c in
      let later = pigeons (r y) l (remove y m) (λ t e. elim (same_or_not y t) [
        | inl same ↦ (let u : count t m ≡ suc (count t (remove y m)) = subst (λ z. count z m ≡ suc (count z (remove y m))) same a in
            let v : count t l < count t m = subst (More m l) same more in omega arith)
        | inr n ↦ (let u = count-remove-other t y m n in let v = h t e in omega arith)
      ]) in
      omega arith

  -- a tree with image w that l has more often than m
  abbrev Found : Tree → List Tree → List Tree → Type 0
  Found w l m = (t : Tree) × ((r t ≡ w) × More l m t)

  find_in : (w : Tree) (l m xs : List Tree) → Found w l m ⊎ ((t : Tree) → 0 < count t xs → r t ≡ w → count t l ≤ count t m)
  find_in w l m [] = inr (λ t p e. absurd (omega arith))
  find_in w l m (x ∷ xs) = elim (find_in w l m xs) [
    | inl f ↦ inl f
    | inr g ↦ elim (same_or_not (r x) w) [
      | inr d ↦ inr (λ t p e. elim (same_or_not x t) [
        | inl same ↦ absurd (d (ap r same ∙ e))
        | inr n ↦ g t (subst (λ k. 0 < k) (count-other x t xs n) p) e
      ])
      | inl e ↦ elim (less_or_not (count x m) (count x l)) [
        | inl h ↦ inl (x, (e, h))
        | inr h ↦ inr (λ t p f. elim (same_or_not x t) [
          | inl same ↦ subst (λ z. count z l ≤ count z m) same h
          | inr n ↦ g t (subst (λ k. 0 < k) (count-other x t xs n) p) f
        ])
      ]
    ]
  ]

  find : (w : Tree) (l m : List Tree) → Found w l m ⊎ ((t : Tree) → r t ≡ w → count t l ≤ count t m)
  find w l m = elim (find_in w l m l) [
    | inl f ↦ inl f
    | inr g ↦ inr (λ t e. elim (less_or_not 0 (count t l)) [ inl p ↦ g t p e | inr q ↦ omega arith ])
  ]

abbrev pub Two : Tree → Tree → Tree → Type 0
Two a b y = (a ≡ y) ⊎ (b ≡ y)

-- a literal's multiset has its two sides alone
pub in_two : (a b y : Tree) (q : Relation) → 0 < count y (multiset_of q a b) → Two a b y
in_two a b y q h = elim (same_or_not a y) [
  | inl e ↦ inl e
  | inr d ↦ elim (same_or_not b y) [
    | inl e ↦ inr e
    | inr n ↦ absurd (neither q h d n)
  ]
] where
  neither : (q : Relation) → 0 < count y (multiset_of q a b) → a ≢ y → b ≢ y → ⊥
  neither equal h d n = let p = count-other a y (b ∷ []) d in let r = count-other b y [] n in omega arith
  neither differ h d n = let p = count-other a y (a ∷ (b ∷ (b ∷ []))) d in let r = count-other a y (b ∷ (b ∷ [])) d in let s = count-other b y (b ∷ []) n in let t = count-other b y [] n in omega arith
  neither at_most h d n = let p = count-other a y (a ∷ (b ∷ (b ∷ []))) d in let r = count-other a y (b ∷ (b ∷ [])) d in let s = count-other b y (b ∷ []) n in let t = count-other b y [] n in omega arith

module _ (S : List Symbol) (s : Variable → Tree) (simple : Simple S s) where
  abbrev r : Tree → Tree
  r = put_in s

  -- of three in a row that are of two, none climbs
  no_third : (a b x y z : Tree) → Two a b x → Two a b y → Two a b z → Above S (r y) (r x) → Above S (r z) (r y) → ⊥
  no_third a b x y z (inl p) (inl q) k up next = irreflexive S (r y) (subst (λ t. Above S (r y) (r t)) (sym p ∙ q) up)
  no_third a b x y z (inr p) (inr q) k up next = irreflexive S (r y) (subst (λ t. Above S (r y) (r t)) (sym p ∙ q) up)
  no_third a b x y z (inl p) (inr q) (inr k) up next = irreflexive S (r z) (subst (λ t. Above S (r z) (r t)) (sym q ∙ k) next)
  no_third a b x y z (inr p) (inl q) (inl k) up next = irreflexive S (r z) (subst (λ t. Above S (r z) (r t)) (sym q ∙ k) next)
  no_third a b x y z (inl p) (inr q) (inl k) up next = irreflexive S (r z) (subst (λ t. Above S (r z) (r t)) (sym p ∙ k) (transitive S (r z) (r y) (r x) next up))
  no_third a b x y z (inr p) (inl q) (inr k) up next = irreflexive S (r z) (subst (λ t. Above S (r z) (r t)) (sym p ∙ k) (transitive S (r z) (r y) (r x) next up))

  module _ (m l : List Tree) (a b : Tree) (two : (y : Tree) → 0 < count y m → Two a b y) (above : MultisetAbove S m l) where
    step : (y : Tree) → More m l y → More (map r m) (map r l) (r y) ⊎ ((u : Tree) × (More m l u × Above S (r u) (r y)))
    step y more = elim (find r (r y) l m) [
      | inl f ↦ (let h = above.below f.0 f.1.1 in inr (h.0, (h.1.0, subst (Above S (r h.0)) f.1.0 (stays S s simple h.0 f.0 h.1.1))))
      | inr all ↦ inl (strictly r y l m all more)
    ]

    climb : (y : Tree) → More m l y → (u : Tree) × (More (map r m) (map r l) u × ((u ≡ r y) ⊎ Above S u (r y)))
    climb y more = elim (step y more) [
      | inl g ↦ (r y, (g, inl refl))
      | inr p ↦ elim (step p.0 p.1.0) [
        | inl g ↦ (r p.0, (g, inr p.1.1))
        | inr q ↦ absurd (no_third a b y p.0 q.0 (two y (let h = more in omega arith)) (two p.0 (let h = p.1.0 in omega arith)) (two q.0 (let h = q.1.0 in omega arith)) p.1.1 q.1.1)
      ]
    ]

    differs : (t : Tree) → count t m ≢ count t l → (u : Tree) × More (map r m) (map r l) u
    differs t d = elim (less_or_not (count t l) (count t m)) [
      | inl h ↦ (let c = climb t h in (c.0, c.1.0))
      | inr h ↦ (let less : count t m < count t l = omega arith in let b = above.below t less in let c = climb b.0 b.1.0 in (c.0, c.1.0))
    ]

    multiset_stays : MultisetAbove S (map r m) (map r l)
    multiset_stays = record {
      differ = let d = differs above.differ.0 above.differ.1 in (d.0, (let h = d.1 in omega arith));
      below = λ t more. elim (find r t l m) [
        | inr all ↦ absurd (let p = pigeons r t l m all in omega arith)
        | inl f ↦ (let h = above.below f.0 f.1.1 in
            let c = climb h.0 h.1.0 in
            let up : Above S (r h.0) t = subst (Above S (r h.0)) f.1.0 (stays S s simple h.0 f.0 h.1.1) in (
              c.0,
              (
                c.1.0,
                elim c.1.1 [
                  | inl e ↦ subst (λ z. Above S z t) (sym e) up
                  | inr over ↦ transitive S c.0 (r h.0) t over up
                ],
              ),
            ))
      ];
    }

  multiset-put : (q : Relation) (a b : Tree) → map r (multiset_of q a b) ≡ multiset_of q (r a) (r b)
  multiset-put equal a b = refl
  multiset-put differ a b = refl
  multiset-put at_most a b = refl

  -- a literal above another stays above it
  pub literal_stays : (m l : Lit) → LiteralAbove S m l → LiteralAbove S (put_lit s m) (put_lit s l)
  literal_stays m l h =
      let kept = multiset_stays (multiset m) (multiset l) m.left m.right (λ y p. in_two m.left m.right y m.relation p) h in
      subst (λ k. MultisetAbove S k (multiset (put_lit s l))) (multiset-put m.relation m.left m.right)
      (subst (λ k. MultisetAbove S (map r (multiset m)) k) (multiset-put l.relation l.left l.right) kept)
