-- Induction on trees, and what substitution keeps.
use Rattle.std.proofs.Common.{◌≡◌, ◌⊎◌, inl, inr, Bool, true, false, ◌||◌, ◌&&◌, List, refl, ap, sym, ◌∙◌, subst, arith}
use Rattle.std.proofs.lemmas.Grind.{common_steps}
use Rattle.term_base.specs.declared.symbols.Symbol.{Symbol}
use Rattle.term_base.specs.declared.variables.Variable.{Variable}
use Rattle.std.specs.Prelude.{ℤ}
use Rattle.std.specs.Ordering.{int_eq}
use Rattle.std.proofs.lemmas.Cmp.{int_eq_equiv}
use Rattle.std.proofs.lemmas.Int.{ints}
use Rattle.term_base.specs.SameLemmas.{same_variable-true, same_sort-refl, same_kind-refl}
use Rattle.term_base.specs.Trees.{truth, number, plus, times, symbol, same_head, same_tree, same_trees, Head, Tree, Trees, var, node, none, more, Member}
use Rattle.term_base.specs.Purity.{foreground_head, foreground, any_foreground, ordinary, any_ordinary, IsPure}
use Rattle.term_base.specs.Substitution.{put_in, put_all}

module _ (P : Tree → Type 0)
    (at_var : (v : Variable) → P (var v))
    (at_node : (f : Head) (xs : Trees) → ((x : Tree) → Member x xs → P x) → P (node f xs)) where
  mutual
    pub tree_induction : (t : Tree) → P t
    tree_induction (var v) = at_var v
    tree_induction (node f xs) = at_node f xs (each_induction xs)

    each_induction : (xs : Trees) → (x : Tree) → Member x xs → P x
    each_induction none x m = absurd m
    each_induction (more y ys) x (inl e) = subst P e (tree_induction y)
    each_induction (more y ys) x (inr m) = each_induction ys x m

pub or-true : (a b : Bool) → (a || b) ≡ true → (a ≡ true) ⊎ (b ≡ true)
or-true true b h = inl refl
or-true false b h = inr h

pub or-false : (a b : Bool) → (a || b) ≡ false → (a ≡ false) × (b ≡ false)
or-false true b h = cc
or-false false b h = (refl, h)

pub or-right : (a b : Bool) → b ≡ true → (a || b) ≡ true
or-right true b h = refl
or-right false b h = h

pub or-left : (a b : Bool) → a ≡ true → (a || b) ≡ true
or-left true b h = refl
or-left false b h = cc

pub true_or_false : (a : Bool) → (a ≡ true) ⊎ (a ≡ false)
true_or_false true = inl refl
true_or_false false = inr refl

pub both_ways : (a : Bool) → a ≡ true → a ≡ false → ⊥
both_ways a p q = cc

-- some argument of a list with a foreground symbol has one
pub foreground_member : (signature : List Symbol) (xs : Trees) → any_foreground signature xs ≡ true → (x : Tree) × (Member x xs × (foreground signature x ≡ true))
foreground_member signature none h = absurd (both_ways false h refl)
foreground_member signature (more x xs) h = elim (or-true (foreground signature x) (any_foreground signature xs) h) [
  | inl p ↦ (x, (inl refl, p))
  | inr q ↦ let m = foreground_member signature xs q in (m.0, (inr m.1.0, m.1.1))
]

pub member_foreground : (signature : List Symbol) (xs : Trees) (x : Tree) → Member x xs → foreground signature x ≡ true → any_foreground signature xs ≡ true
member_foreground signature none x m h = absurd m
member_foreground signature (more y ys) x (inl e) h = or-left (foreground signature y) (any_foreground signature ys) (ap (foreground signature) e ∙ h)
member_foreground signature (more y ys) x (inr m) h = or-right (foreground signature y) (any_foreground signature ys) (member_foreground signature ys x m h)

member_not_foreground : (signature : List Symbol) (xs : Trees) (x : Tree) → Member x xs → any_foreground signature xs ≡ false → foreground signature x ≡ false
member_not_foreground signature xs x m h = elim (true_or_false (foreground signature x)) [
  | inl p ↦ absurd (both_ways (any_foreground signature xs) (member_foreground signature xs x m p) h)
  | inr q ↦ q
]

member_ordinary : (xs : Trees) (x : Tree) → Member x xs → any_ordinary xs ≡ false → ordinary x ≡ false
member_ordinary none x m h = absurd m
member_ordinary (more y ys) x (inl e) h = ap ordinary (sym e) ∙ (or-false (ordinary y) (any_ordinary ys) h).0
member_ordinary (more y ys) x (inr m) h = member_ordinary ys x m (or-false (ordinary y) (any_ordinary ys) h).1

-- the arguments of a pure tree are pure
pub pure_member : (signature : List Symbol) (f : Head) (xs : Trees) → IsPure signature (node f xs) → (x : Tree) → Member x xs → IsPure signature x
pure_member signature f xs p x m = record {
  no_foreground = member_not_foreground signature xs x m (or-false (foreground_head signature f) (any_foreground signature xs) p.no_foreground).1;
  no_ordinary = member_ordinary xs x m p.no_ordinary;
}

pub member_put : (s : Variable → Tree) (xs : Trees) (x : Tree) → Member x xs → Member (put_in s x) (put_all s xs)
member_put s none x m = absurd m
member_put s (more y ys) x (inl e) = inl (ap (put_in s) e)
member_put s (more y ys) x (inr m) = inr (member_put s ys x m)

pub put_member : (s : Variable → Tree) (xs : Trees) (y : Tree) → Member y (put_all s xs) → (x : Tree) × (Member x xs × (put_in s x ≡ y))
put_member s none y m = absurd m
put_member s (more x xs) y (inl e) = (x, (inl refl, e))
put_member s (more x xs) y (inr m) = let r = put_member s xs y m in (r.0, (inr r.1.0, r.1.1))

-- a foreground symbol stays
pub put-foreground : (signature : List Symbol) (s : Variable → Tree) (t : Tree) → foreground signature t ≡ true → foreground signature (put_in s t) ≡ true
put-foreground signature s = tree_induction (λ t. foreground signature t ≡ true → foreground signature (put_in s t) ≡ true)
    (λ v h. absurd (both_ways false h refl))
    (λ f xs each h. elim (or-true (foreground_head signature f) (any_foreground signature xs) h) [
      | inl p ↦ or-left (foreground_head signature f) (any_foreground signature (put_all s xs)) p
      | inr q ↦ let m = foreground_member signature xs q in
          or-right (foreground_head signature f) (any_foreground signature (put_all s xs))
          (member_foreground signature (put_all s xs) (put_in s m.0) (member_put s xs m.0 m.1.0) (each m.0 m.1.0 m.1.1))
    ])

int_eq-true : (m n : ℤ) → int_eq m n ≡ true → m ≡ n
int_eq-true m n h = grind (arith, ints, common_steps)

pub and-true : (a b : Bool) → (a && b) ≡ true → (a ≡ true) × (b ≡ true)
and-true true b h = (refl, h)
and-true false b h = cc

pub same_head-true : (f g : Head) → same_head f g ≡ true → f ≡ g
same_head-true truth truth h = refl
same_head-true plus plus h = refl
same_head-true times times h = refl
same_head-true (number m) (number n) h = ap number (int_eq-true m n h)
same_head-true (symbol f) (symbol g) h = let e : f ≡ g = grind (arith, common_steps, h) in ap symbol e
same_head-true _ _ h = cc

pub same_head-refl : (f : Head) → same_head f f ≡ true
same_head-refl truth = refl
same_head-refl plus = refl
same_head-refl times = refl
same_head-refl (number n) = int_eq_equiv.refl n
same_head-refl (symbol f) = grind (arith, common_steps)

mutual
  pub same_tree-true : (s t : Tree) → same_tree s t ≡ true → s ≡ t
  same_tree-true (var v) (var w) h = ap var (same_variable-true v w h)
  same_tree-true (node f xs) (node g ys) h =
      let two = and-true (same_head f g) (same_trees xs ys) h in
      let one : f ≡ g = same_head-true f g two.0 in
      let other : xs ≡ ys = same_trees-true xs ys two.1 in cc
  same_tree-true _ _ h = cc

  pub same_trees-true : (xs ys : Trees) → same_trees xs ys ≡ true → xs ≡ ys
  same_trees-true none none h = refl
  same_trees-true (more x xs) (more y ys) h =
      let two = and-true (same_tree x y) (same_trees xs ys) h in
      let one : x ≡ y = same_tree-true x y two.0 in
      let other : xs ≡ ys = same_trees-true xs ys two.1 in cc
  same_trees-true _ _ h = cc

mutual
  pub same_tree-refl : (t : Tree) → same_tree t t ≡ true
  same_tree-refl (var v) = rw (same_kind-refl v.kind, same_sort-refl v.sort) (grind (arith, common_steps))
  same_tree-refl (node f xs) = rw (same_head-refl f, same_trees-refl xs) refl

  pub same_trees-refl : (xs : Trees) → same_trees xs xs ≡ true
  same_trees-refl none = refl
  same_trees-refl (more x xs) = rw (same_tree-refl x, same_trees-refl xs) refl

-- trees are equal or differ
pub same_or_not : (s t : Tree) → (s ≡ t) ⊎ ((s ≡ t) → ⊥)
same_or_not s t = elim (true_or_false (same_tree s t)) [
  | inl h ↦ inl (same_tree-true s t h)
  | inr h ↦ inr (λ e. both_ways (same_tree s t) (ap (same_tree s) (sym e) ∙ same_tree-refl s) h)
]

pub same_tree-false : (s t : Tree) → ((s ≡ t) → ⊥) → same_tree s t ≡ false
same_tree-false s t h = elim (true_or_false (same_tree s t)) [ inl p ↦ absurd (h (same_tree-true s t p)) | inr q ↦ q ]
