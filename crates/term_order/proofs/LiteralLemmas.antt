-- The tests of the order of literals and of maximal literals tell these, and maximal literals were maximal before.
use Rattle.std.proofs.Common.{◌≡◌, ◌≢◌, inl, inr, ℕ, zero, suc, ◌+◌, ◌<◌, Bool, true, false, not, ◌||◌, ◌&&◌, ◌==◌, nat_lt, List, [], ◌∷◌, map, refl, ap, sym, ◌∙◌, subst, arith, slice_get, get_or, length, option_map, Some, IsTrue}
use Rattle.std.specs.Prelude.{◌↔◌}
use Rattle.std.proofs.lemmas.Grind.{common_steps}
use Rattle.term_base.specs.declared.symbols.Symbol.{Symbol}
use Rattle.term_base.specs.declared.variables.Variable.{Variable}
use Rattle.term_base.specs.declared.clauses.Literal.{Literal}
use Rattle.term_base.specs.Trees.{Tree}
use Rattle.term_base.specs.TreeLists.{item-lits}
use Rattle.term_base.specs.TreeLemmas.{or-true, or-left, or-right, and-true, true_or_false, both_ways}
use Rattle.term_base.specs.Substitution.{Simple}
use Rattle.term_base.specs.Lits.{Lit, lit, put_lit, put_clause}
use Rattle.term_base.specs.LitLemmas.{item-put}
use Rattle.term_base.specs.Places.{item}
use Rattle.term_order.specs.Above.{Above}
use Rattle.term_order.specs.Literals.{count, More, multiset, LiteralAbove, IsMaximal}
use Rattle.term_order.specs.LiteralTest.{has_more, side_above, is_below, literal_above, some_above}
use Rattle.term_order.specs.Standing.{is_above, standing}
use Rattle.term_order.proofs.MultisetLemmas.{less_or_not, Two, in_two, literal_stays}
use Rattle.term_order.proofs.StandingLemmas.{above_out, above_in, standing_told}

and-in : (a b : Bool) → a ≡ true → b ≡ true → (a && b) ≡ true
and-in a b p q = rw p q

less_out : (a b : ℕ) → nat_lt a b ≡ true → a < b
less_out a b h = grind (arith, common_steps, h)

less_in : (a b : ℕ) → a < b → nat_lt a b ≡ true
less_in a b h = grind (arith, common_steps, h)

not-false : (b : Bool) → not b ≡ true → b ≡ false
not-false true h = cc
not-false false h = refl

-- an item by its number
pub literal_at : (ls : List Literal) (i : ℕ) (l : Literal) → i < length ls → l ≡ get_or ls i l → slice_get ls i ≡ Some l
literal_at [] i l h is = absurd (omega arith)
literal_at (k ∷ ls) zero l h is = ap Some (sym is)
literal_at (k ∷ ls) (suc i) l h is = literal_at ls i l (omega arith) is

module _ (S : List Symbol) where
  above_told : (u t : Tree) → is_above (standing S u t) ≡ true → Above S u t
  above_told u t h = above_out S u t (standing S u t) (standing_told S u t) h

  above_tells : (u t : Tree) → Above S u t → is_above (standing S u t) ≡ true
  above_tells u t h = above_in S u t (standing S u t) (standing_told S u t) h

  module _ (m l : Lit) where
    abbrev Greater : Tree → Type 0
    Greater t = (u : Tree) × (More (multiset m) (multiset l) u × Above S u t)

    more_out : (u : Tree) → has_more m l u ≡ true → More (multiset m) (multiset l) u
    more_out u h = less_out (count u (multiset l)) (count u (multiset m)) h

    more_in : (u : Tree) → More (multiset m) (multiset l) u → has_more m l u ≡ true
    more_in u h = less_in (count u (multiset l)) (count u (multiset m)) h

    side_out : (u t : Tree) → side_above S m l u t ≡ true → Greater t
    side_out u t h = let two = and-true (has_more m l u) (is_above (standing S u t)) h in (u, (more_out u two.0, above_told u t two.1))

    side_in : (u t : Tree) → More (multiset m) (multiset l) u → Above S u t → side_above S m l u t ≡ true
    side_in u t h a = and-in (has_more m l u) (is_above (standing S u t)) (more_in u h) (above_tells u t a)

    -- what m has more often is one of its sides
    side : (u : Tree) → More (multiset m) (multiset l) u → Two m.left m.right u
    side u h = in_two m.left m.right u m.relation (let k = h in omega arith)

    below_out : (t : Tree) → is_below S m l t ≡ true → More (multiset l) (multiset m) t → Greater t
    below_out t h more = elim (or-true (not (has_more l m t)) (side_above S m l m.left t || side_above S m l m.right t) h) [
      | inl p ↦ absurd (both_ways (has_more l m t) (less_in (count t (multiset m)) (count t (multiset l)) more) (not-false (has_more l m t) p))
      | inr q ↦ elim (or-true (side_above S m l m.left t) (side_above S m l m.right t) q) [ inl a ↦ side_out m.left t a | inr b ↦ side_out m.right t b ]
    ]

    below_in : (t : Tree) → (More (multiset l) (multiset m) t → Greater t) → is_below S m l t ≡ true
    below_in t h = elim (true_or_false (has_more l m t)) [
      | inr n ↦ or-left (not (has_more l m t)) (side_above S m l m.left t || side_above S m l m.right t) (ap not n)
      | inl p ↦ (let g = h (less_out (count t (multiset m)) (count t (multiset l)) p) in
          or-right (not (has_more l m t)) (side_above S m l m.left t || side_above S m l m.right t)
          (elim (side g.0 g.1.0) [
            | inl e ↦ or-left (side_above S m l m.left t) (side_above S m l m.right t) (subst (λ u. side_above S m l u t ≡ true) (sym e) (side_in g.0 t g.1.0 g.1.1))
            | inr e ↦ or-right (side_above S m l m.left t) (side_above S m l m.right t) (subst (λ u. side_above S m l u t ≡ true) (sym e) (side_in g.0 t g.1.0 g.1.1))
          ]))
    ]

    abbrev some_more : Bool
    some_more = has_more m l m.left || has_more m l m.right

    abbrev all_below : Bool
    all_below = is_below S m l l.left && is_below S m l l.right

    some_more_out : some_more ≡ true → (u : Tree) × More (multiset m) (multiset l) u
    some_more_out h = elim (or-true (has_more m l m.left) (has_more m l m.right) h) [ inl p ↦ (m.left, more_out m.left p) | inr q ↦ (m.right, more_out m.right q) ]

    some_more_in : (u : Tree) → More (multiset m) (multiset l) u → some_more ≡ true
    some_more_in u h = elim (side u h) [
      | inl e ↦ or-left (has_more m l m.left) (has_more m l m.right) (subst (λ z. has_more m l z ≡ true) (sym e) (more_in u h))
      | inr e ↦ or-right (has_more m l m.left) (has_more m l m.right) (subst (λ z. has_more m l z ≡ true) (sym e) (more_in u h))
    ]

    pub literal_told : literal_above S m l ≡ true → LiteralAbove S m l
    literal_told h =
        let two = and-true some_more all_below h in
        let sides = and-true (is_below S m l l.left) (is_below S m l l.right) two.1 in
        record {
          differ = let u = some_more_out two.0 in (u.0, (let k = u.1 in omega arith));
          below = λ t more. elim (in_two l.left l.right t l.relation (let k = more in omega arith)) [
            | inl e ↦ below_out t (subst (λ z. is_below S m l z ≡ true) e sides.0) more
            | inr e ↦ below_out t (subst (λ z. is_below S m l z ≡ true) e sides.1) more
          ];
        }

    pub literal_tells : LiteralAbove S m l → literal_above S m l ≡ true
    literal_tells h = and-in some_more all_below
        (elim (less_or_not (count h.differ.0 (multiset l)) (count h.differ.0 (multiset m))) [
          | inl p ↦ some_more_in h.differ.0 p
          | inr q ↦ (let d = h.differ.1 in
              let less : More (multiset l) (multiset m) h.differ.0 = omega arith in
              let g = h.below h.differ.0 less in some_more_in g.0 g.1.0)
        ])
        (and-in (is_below S m l l.left) (is_below S m l l.right) (below_in l.left (λ more. h.below l.left more)) (below_in l.right (λ more. h.below l.right more)))

  -- a literal of another number that is above l
  abbrev Other : Lit → ℕ → ℕ → List Lit → Type 0
  Other l i n ms = (j : ℕ) × ((m : Lit) × ((item j ms ≡ Some m) × (n + j ≢ i) × LiteralAbove S m l))

  other_out : (l : Lit) (i n : ℕ) (ms : List Lit) → some_above S l i n ms ≡ true → Other l i n ms
  other_out l i n [] h = absurd (both_ways false h refl)
  other_out l i n (m ∷ ms) h = elim (or-true (not (n == i) && literal_above S m l) (some_above S l i (n + 1) ms) h) [
    | inl p ↦ (let two = and-true (not (n == i)) (literal_above S m l) p in
        (0, (m, (refl, (λ e. both_ways (n == i) (let k : n ≡ i = omega (arith, e) in grind (arith, common_steps, k)) (not-false (n == i) two.0)), literal_told m l two.1))))
    | inr q ↦ (let o = other_out l i (n + 1) ms q in (suc o.0, (o.1.0, (o.1.1.0, (λ e. o.1.1.1 (omega (arith, e))), o.1.1.2))))
  ]

  other_in : (l : Lit) (i n : ℕ) (ms : List Lit) (j : ℕ) (m : Lit) → item j ms ≡ Some m → n + j ≢ i → LiteralAbove S m l → some_above S l i n ms ≡ true
  other_in l i n [] j m is d a = cc
  other_in l i n (k ∷ ms) zero m is d a =
      let e : k ≡ m = cc in
      or-left (not (n == i) && literal_above S k l) (some_above S l i (n + 1) ms)
      (and-in (not (n == i)) (literal_above S k l)
      (elim (true_or_false (n == i)) [
        | inl p ↦ absurd (d (let q : n ≡ i = grind (arith, common_steps, p) in omega (arith, q)))
        | inr q ↦ ap not q
      ])
      (subst (λ z. literal_above S z l ≡ true) (sym e) (literal_tells m l a)))
  other_in l i n (k ∷ ms) (suc j) m is d a =
      or-right (not (n == i) && literal_above S k l) (some_above S l i (n + 1) ms)
      (other_in l i (n + 1) ms j m is (λ e. d (omega (arith, e))) a)

  pub not_some : (l : Lit) (i : ℕ) (c : List Lit) → item i c ≡ Some l → some_above S l i 0 c ≡ false → IsMaximal S c i
  not_some l i c is h k m j is_k is_m d a =
      let e : k ≡ l = let two : Some k ≡ Some l = sym is_k ∙ is in cc in
      both_ways (some_above S l i 0 c) (other_in l i 0 c j m is_m (λ f. d (omega (arith, f))) (subst (λ z. LiteralAbove S m z) e a)) h

  pub some_not : (l : Lit) (i : ℕ) (c : List Lit) → item i c ≡ Some l → some_above S l i 0 c ≡ true → IsMaximal S c i → ⊥
  some_not l i c is h max =
      let o = other_out l i 0 c h in
      max l o.1.0 o.0 is o.1.1.0 (λ f. o.1.1.1 (omega (arith, f))) o.1.1.2

  -- the test tells whether a literal is maximal
  pub maximal_told : (ls : List Literal) (i : ℕ) (l : Literal) → slice_get ls i ≡ Some l → (b : Bool)
      → b ≡ some_above S (lit l) i 0 (map lit ls) → IsTrue (not b) ↔ IsMaximal S (map lit ls) i
  maximal_told ls i l is true h =
      ((λ p. absurd (both_ways false p refl)), (λ max. absurd (some_not (lit l) i (map lit ls) (item-lits ls i ∙ ap (option_map lit) is) (sym h) max)))
  maximal_told ls i l is false h =
      ((λ _. not_some (lit l) i (map lit ls) (item-lits ls i ∙ ap (option_map lit) is) (sym h)), (λ _. refl))

-- a literal that is maximal under a simple substitution was maximal before
pub maximal_before : (S : List Symbol) (s : Variable → Tree) → Simple S s → (c : List Lit) (i : ℕ) → IsMaximal S (put_clause s c) i → IsMaximal S c i
maximal_before S s simple c i h l m j is_l is_m d a =
    h (put_lit s l) (put_lit s m) j (item-put s i c l is_l) (item-put s j c m is_m) d (literal_stays S s simple m l a)
