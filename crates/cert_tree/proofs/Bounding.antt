-- The children of Least, bound by bound.
use Rattle.std.specs.Prelude.{◌≡◌, ℕ, zero, suc, ◌<◌, ◌≤◌, ◌+◌, ◌-◌, ◌==◌, ◌⊎◌, ℤ, pos, negsuc, ◌≤ℤ◌, Bool, true, false, cond, not, ◌&&◌, ◌||◌, nat_le, is_some, int_le, int_lt, IsTrue, IfSome, option_map, length, get_or, take, drop, map, List, [], ◌∷◌, ◌++◌, Option, Some, None}
use Rattle.std.specs.List.{list_all, list_any, filter_map, flat_map, cons_option}
use Rattle.std.proofs.Common.{refl, sym, ◌∙◌, ap, subst, arith, inl, inr}
use Rattle.std.proofs.lemmas.Int.{ints}
use Rattle.std.proofs.lemmas.Bool.{cases_Bool, leb-true, eqb-true, eqb-false, true≢false, false≢true}
use Rattle.std.proofs.Math.Dec.{leb-zero, leb-suc-zero, leb-suc-suc}
use Rattle.std.proofs.lemmas.List.{at_drop_more, length-take-le, length-map, length-drop, take-map, drop-map, drop-drop, drop_more, drop_all}
use Rattle.lin_base.specs.declared.sums.Lin.{Lin}
use Rattle.lin_base.specs.declared.facts.Fact.{Fact}
use Rattle.lin_base.specs.declared.facts.Fact.TheVariants.{AtMostZero, Zero, Divides, NotDivides}
use Rattle.lin_base.specs.declared.wides.Wide.{Wide}
use Rattle.lin_base.specs.Whole.{is_zero}
use Rattle.lin_base.specs.Fact.{is_fact}
use Rattle.lin_base.specs.Sum.{coef}
use Rattle.lin_base.specs.Steps.{is_narrow}
use Rattle.cert_tree.specs.declared.certs.Tree.{Tree}
use Rattle.cert_tree.specs.declared.test_points.Bound.{Bound as Parts}
use Rattle.cert_tree.specs.Counting.{count_from, numbers_below, is_free}
use Rattle.cert_tree.specs.Narrow.{if_narrow}
use Rattle.cert_tree.specs.Points.{period, period_steps}
use Rattle.cert_tree.specs.Bounds.{bound_of}
use Rattle.cert_tree.specs.Children.{Bound, lower_bound, bound_steps_of, bound_children, bound_steps, point, point_steps, far_child, far_child_steps, far_children, far_steps, least_children, lower_bounds, children_by, steps_by}
use Rattle.cert_tree.specs.Leasts.{is_lower_bound, count_within, is_count, points_stand, taken, then_rest, bound_stands, bounds_stand}
use Rattle.cert_tree.specs.Stands.{Node, each_stands, numbered_stand, least_stands}
use Rattle.cert_tree.proofs.Narrow.{is_narrow-append}
use Rattle.cert_tree.proofs.Numbered.{numbered_all}
use Rattle.cert_tree.proofs.Pointing.{children_up}
use Rattle.cert_tree.proofs.Truth.{if_narrow_out}
use Rattle.cert_tree.proofs.Least.{period_is}
use Rattle.cert_tree.proofs.WellFormed.{facts_proper}

-- ---- lists of children
pub length-count_from : (i n : ℕ) → length (count_from i n) ≡ n
length-count_from i zero = refl
length-count_from i (suc n) = ap suc (length-count_from (suc i) n)

-- the children of two lists of states
module _ (used : List ℕ) where
  pub each_stands-append : (nodes : List Node) (xs ys : List (List Fact))
      → each_stands used nodes (xs ++ ys) ≡ (nat_le (length xs) (length nodes) && (each_stands used (take (length xs) nodes) xs && each_stands used (drop (length xs) nodes) ys))
  each_stands-append nodes [] ys = rw (leb-zero (length nodes)) refl
  each_stands-append [] (x ∷ xs) ys = rw (leb-suc-zero (length xs)) refl
  each_stands-append (node ∷ nodes) (x ∷ xs) ys = rw (leb-suc-suc (length xs) (length nodes)) (ap (λ b. node used x && b) (each_stands-append nodes xs ys) ∙ swap (node used x) (nat_le (length xs) (length nodes)) (each_stands used (take (length xs) nodes) xs) (each_stands used (drop (length xs) nodes) ys))
    where
      swap : (a b c d : Bool) → (a && (b && (c && d))) ≡ (b && ((a && c) && d))
      swap true b c d = refl
      swap false true c d = refl
      swap false false c d = refl

  -- not as many children as states
  pub each_stands-count : (nodes : List Node) (states : List (List Fact)) → (length nodes ≡ length states → ⊥) → each_stands used nodes states ≡ false
  each_stands-count [] [] h = absurd (h refl)
  each_stands-count [] (s ∷ ss) h = refl
  each_stands-count (node ∷ nodes) [] h = refl
  each_stands-count (node ∷ nodes) (s ∷ ss) h = rw (each_stands-count nodes ss (λ e. h (ap suc e))) (no (node used s))
    where
      no : (b : Bool) → (b && false) ≡ false
      no true = refl
      no false = refl

-- ---- what the answers of the parts tell
module _ (p : ℕ) (facts : List Fact) (used : List ℕ) (nodes : List Node) where
  -- a step before the first child leaves the range
  pub bound_stands-wide : (o : Option Bound) (r : Option (Option Parts)) → r ≡ if_narrow (bound_steps_of o) (option_map bound_of o) → r ≡ None → bound_stands p facts used o nodes ≡ None
  bound_stands-wide None r is none = absurd (cc)
  bound_stands-wide (Some e) r is none = by_steps (is_narrow (bound_steps_of (Some e))) (sym is ∙ none)
    where
      by_steps : (b : Bool) → cond b (Some (Some (bound_of e))) None ≡ None → cond b (taken p facts used e.side.b e.side.rest nodes (count_within e.children (length nodes))) None ≡ None
      by_steps true h = absurd (cc)
      by_steps false h = refl

  -- the fact is no bound
  pub bound_stands-none : (o : Option Bound) (r : Option (Option Parts)) → r ≡ if_narrow (bound_steps_of o) (option_map bound_of o) → r ≡ Some None → bound_stands p facts used o nodes ≡ Some 0
  bound_stands-none None r is none = refl
  bound_stands-none (Some e) r is none = by_steps (is_narrow (bound_steps_of (Some e))) (sym is ∙ none)
    where
      by_steps : (b : Bool) → cond b (Some (Some (bound_of e))) None ≡ Some None → cond b (taken p facts used e.side.b e.side.rest nodes (count_within e.children (length nodes))) None ≡ Some 0
      by_steps true h = absurd (cc)
      by_steps false h = absurd (cc)

  -- the fact is this bound
  pub bound_stands-some : (o : Option Bound) (r : Option (Option Parts)) (b : Parts) → r ≡ if_narrow (bound_steps_of o) (option_map bound_of o) → r ≡ Some (Some b)
      → bound_stands p facts used o nodes ≡ taken p facts used b.side.b b.side.rest nodes (count_within b.children (length nodes))
  bound_stands-some None r b is some = absurd (cc)
  bound_stands-some (Some e) r b is some = by_steps (is_narrow (bound_steps_of (Some e))) (sym is ∙ some)
    where
      of : Parts → Option ℕ
      of a = taken p facts used a.side.b a.side.rest nodes (count_within a.children (length nodes))

      by_steps : (narrow : Bool) → cond narrow (Some (Some (bound_of e))) None ≡ Some (Some b) → cond narrow (of (bound_of e)) None ≡ of b
      by_steps true h = let same : bound_of e ≡ b = cc in ap of same
      by_steps false h = absurd (cc)

  -- the children of this bound, from a place on
  pub bound_takes : (node : Tree → Node) (ts : List Tree) (start n : ℕ) (o : Option Bound) (r : Option (Option Parts)) (b : Parts) (q : Option ℕ) (answer : Bool) → nodes ≡ map node (drop start ts)
      → r ≡ if_narrow (bound_steps_of o) (option_map bound_of o) → r ≡ Some (Some b) → q ≡ count_within b.children (length ts - start) → q ≡ Some n
      → answer ≡ points_stand p facts used b.side.b b.side.rest (map node (take n (drop start ts))) → bound_stands p facts used o nodes ≡ cond answer (Some n) None
  bound_takes node ts start n o r b q answer are is some within count stood =
      bound_stands-some o r b is some
      ∙ ap (λ k. taken p facts used b.side.b b.side.rest nodes (count_within b.children k)) (ap length are ∙ length-map (drop start ts) node ∙ length-drop start ts)
      ∙ ap (taken p facts used b.side.b b.side.rest nodes) (sym within ∙ count)
      ∙ ap (λ us. cond (points_stand p facts used b.side.b b.side.rest us) (Some n) None) (ap (take n) are ∙ take-map node n (drop start ts))
      ∙ ap (λ y. cond y (Some n) None) (sym stood)

-- ---- a list of children from a place on
pub taken_next : (ts : List Tree) (start n j : ℕ) (t : Tree) → j < n → start + n ≤ length ts → t ≡ get_or ts (start + j) t → take (n - j) (drop (start + j) ts) ≡ t ∷ take (n - (j + 1)) (drop (start + (j + 1)) ts)
taken_next ts start n j t h within at_ =
    let e : n - j ≡ suc (n - (j + 1)) = omega (arith, h) in
    let f : start + (j + 1) ≡ start + j + 1 = omega arith in
    rw (e, f, drop_more ts (start + j) t (omega (arith, h, within))) (ap (λ u. u ∷ take (n - (j + 1)) (drop (start + j + 1) ts)) (sym at_))

module _ (p : ℕ) (d : ℤ) (facts : List Fact) (used : List ℕ) (node : Tree → Node) (ts : List Tree) (start i : ℕ) (f : Fact) where
  -- the bounds from a fact on
  bounds_at : i < length facts → f ≡ get_or facts i f → bounds_stand p d facts used (drop i facts) (map node (drop start ts))
      ≡ then_rest (λ n. bounds_stand p d facts used (drop (i + 1) facts) (drop n (map node (drop start ts)))) (bound_stands p facts used (lower_bound p d f) (map node (drop start ts)))
  bounds_at h at_ =
      at_drop_more (λ fs. bounds_stand p d facts used fs (map node (drop start ts))) facts i f h
      ∙ ap (λ g. then_rest (λ n. bounds_stand p d facts used (drop (i + 1) facts) (drop n (map node (drop start ts)))) (bound_stands p facts used (lower_bound p d g) (map node (drop start ts)))) (sym at_)

  pub bounds_on : (n : ℕ) → i < length facts → f ≡ get_or facts i f → bound_stands p facts used (lower_bound p d f) (map node (drop start ts)) ≡ Some n
      → bounds_stand p d facts used (drop i facts) (map node (drop start ts)) ≡ bounds_stand p d facts used (drop (i + 1) facts) (map node (drop (start + n) ts))
  bounds_on n h at_ some =
      bounds_at h at_
      ∙ ap (then_rest (λ k. bounds_stand p d facts used (drop (i + 1) facts) (drop k (map node (drop start ts))))) some
      ∙ ap (bounds_stand p d facts used (drop (i + 1) facts)) (drop-map node n (drop start ts) ∙ ap (map node) (drop-drop n start ts))

  pub bounds_off : i < length facts → f ≡ get_or facts i f → bound_stands p facts used (lower_bound p d f) (map node (drop start ts)) ≡ None
      → bounds_stand p d facts used (drop i facts) (map node (drop start ts)) ≡ false
  bounds_off h at_ none = bounds_at h at_ ∙ ap (then_rest (λ k. bounds_stand p d facts used (drop (i + 1) facts) (drop k (map node (drop start ts))))) none

-- all children are taken
pub bounds_end : (p : ℕ) (d : ℤ) (facts : List Fact) (used : List ℕ) (node : Tree → Node) (ts : List Tree) (start i : ℕ) → length facts ≤ i → start ≤ length ts
    → bounds_stand p d facts used (drop i facts) (map node (drop start ts)) ≡ (start == length ts)
bounds_end p d facts used node ts start i over within =
    ap (λ fs. bounds_stand p d facts used fs (map node (drop start ts))) (drop_all i facts over) ∙ by_count (cases_Bool (start == length ts))
  where
    more : (us : List Tree) → (us ≡ [] → ⊥) → bounds_stand p d facts used [] (map node us) ≡ false
    more [] h = absurd (h refl)
    more (u ∷ us) h = refl

    by_count : ((start == length ts) ≡ true) ⊎ ((start == length ts) ≡ false) → bounds_stand p d facts used [] (map node (drop start ts)) ≡ (start == length ts)
    by_count (inl e) = let same = eqb-true start (length ts) e in rw (e, drop_all start ts (omega (arith, same))) refl
    by_count (inr n) = rw n (more (drop start ts) (λ none. eqb-false start (length ts) n (omega (arith, within, sym (length-drop start ts) ∙ ap length none))))

-- ---- all bounds
and_false : (b : Bool) → (b && false) ≡ false
and_false true = refl
and_false false = refl

as_count : (z : ℤ) → int_le (pos 1) z ≡ true → (n : ℕ) × (z ≡ pos n)
as_count (pos n) h = (n, refl)
as_count (negsuc n) h = absurd (omega (arith, ints, h))

module _ (p : ℕ) (facts : List Fact) (used : List ℕ) where
  last : (rest : ℕ → Bool) (n : ℕ) (b : Bool) → then_rest rest (cond b (Some n) None) ≡ (b && rest n)
  last rest n true = refl
  last rest n false = refl

  flat : (rest : ℕ → Bool) (nodes : List Node) (n : ℕ) (b : ℤ) (s : Lin) (a fits : Bool)
      → then_rest rest (cond a (taken p facts used b s nodes (cond fits (Some n) None)) None) ≡ (a && (fits && (points_stand p facts used b s (take n nodes) && rest n)))
  flat rest nodes n b s false fits = refl
  flat rest nodes n b s true false = refl
  flat rest nodes n b s true true = last rest n (points_stand p facts used b s (take n nodes))

  swap : (a c e r f : Bool) → (a && ((c && e) && (r && f))) ≡ (((a && c) && r) && (e && f))
  swap false c e r f = refl
  swap true false e r f = refl
  swap true true false true f = refl
  swap true true false false f = refl
  swap true true true true f = refl
  swap true true true false f = refl

  final : (a c r fits e f n rest : Bool) → (fits ≡ true → n ≡ (c && e)) → rest ≡ (r && f) → (a && (fits && (n && rest))) ≡ (((a && c) && r) && (fits && (e && f)))
  final a c r false e f n rest h k = and_false a ∙ sym (and_false ((a && c) && r))
  final a c r true e f n rest h k = rw (h refl, k) (swap a c e r f)

  -- so many children stand at their points
  counted : (b : ℤ) (s : Lin) (n : ℕ) (nodes : List Node) → nat_le n (length nodes) ≡ true
      → points_stand p facts used b s (take n nodes) ≡ (is_narrow (flat_map (point_steps p facts b s) (count_from 0 n)) && each_stands used (take n nodes) (map (point p facts b s) (count_from 0 n)))
  counted b s n nodes fits =
      numbered_all (point_steps p facts b s) (point p facts b s) used 0 (take n nodes)
      ∙ ap (λ k. is_narrow (flat_map (point_steps p facts b s) (count_from 0 k)) && each_stands used (take n nodes) (map (point p facts b s) (count_from 0 k))) (length-take-le n nodes (leb-true n (length nodes) fits))

  -- the children of one bound, then the others
  one_bound : (b : ℤ) (s : Lin) (n : ℕ) (first count steps : List Wide) (states : List (List Fact)) (nodes : List Node) (rest : ℕ → Bool)
      → rest n ≡ (is_narrow steps && each_stands used (drop n nodes) states)
      → then_rest rest (cond (is_narrow (first ++ count)) (taken p facts used b s nodes (count_within (pos n) (length nodes))) None)
      ≡ (is_narrow ((first ++ count ++ flat_map (point_steps p facts b s) (count_from 0 n)) ++ steps) && each_stands used nodes (map (point p facts b s) (count_from 0 n) ++ states))
  one_bound b s n first count steps states nodes rest is =
      let points = flat_map (point_steps p facts b s) (count_from 0 n) in
      let here = map (point p facts b s) (count_from 0 n) in
      let long : length here ≡ n = length-map (count_from 0 n) (point p facts b s) ∙ length-count_from 0 n in
      let split : each_stands used nodes (here ++ states) ≡ (nat_le n (length nodes) && (each_stands used (take n nodes) here && each_stands used (drop n nodes) states)) =
      each_stands-append used nodes here states ∙ ap (λ k. nat_le k (length nodes) && (each_stands used (take k nodes) here && each_stands used (drop k nodes) states)) long in
      rw (split, is_narrow-append (first ++ count ++ points) steps, is_narrow-append (first ++ count) points)
      (flat rest nodes n b s (is_narrow (first ++ count)) (nat_le n (length nodes))
      ∙ final (is_narrow (first ++ count)) (is_narrow points) (is_narrow steps) (nat_le n (length nodes)) (each_stands used (take n nodes) here) (each_stands used (drop n nodes) states) (points_stand p facts used b s (take n nodes)) (rest n) (counted b s n nodes) is)

  abbrev AllStand : List Bound → List Node → Bool
  AllStand es nodes = is_narrow (flat_map (bound_steps p facts) es) && each_stands used nodes (flat_map (bound_children p facts) es)

  by_bound : (o : Option Bound) (es : List Bound) (nodes : List Node) (rest : List Node → Bool) → IfSome o (λ b. IsTrue (int_le (pos 1) b.children))
      → ((ns : List Node) → rest ns ≡ AllStand es ns)
      → then_rest (λ n. rest (drop n nodes)) (bound_stands p facts used o nodes) ≡ AllStand (cons_option o es) nodes
  by_bound None es nodes rest is all = all nodes
  by_bound (Some e) es nodes rest is all =
      let c = as_count e.children is in
      let Q : ℤ → Type 0 = λ z. then_rest (λ n. rest (drop n nodes)) (cond (is_narrow (bound_steps_of (Some e))) (taken p facts used e.side.b e.side.rest nodes (count_within z (length nodes))) None)
      ≡ (is_narrow ((e.side.steps ++ e.count_steps ++ flat_map (point_steps p facts e.side.b e.side.rest) (numbers_below z)) ++ flat_map (bound_steps p facts) es) && each_stands used nodes (map (point p facts e.side.b e.side.rest) (numbers_below z) ++ flat_map (bound_children p facts) es)) in
      subst Q (sym c.1) (one_bound e.side.b e.side.rest c.0 e.side.steps e.count_steps (flat_map (bound_steps p facts) es) (flat_map (bound_children p facts) es) nodes (λ n. rest (drop n nodes)) (all (drop c.0 nodes)))

  bounds_all : (d : ℤ) → pos 1 ≤ℤ d → (fs : List Fact) (nodes : List Node) → bounds_stand p d facts used fs nodes ≡ AllStand (filter_map (lower_bound p d) fs) nodes
  bounds_all d h [] [] = refl
  bounds_all d h [] (node ∷ nodes) = refl
  bounds_all d h (f ∷ fs) nodes = by_bound (lower_bound p d f) (filter_map (lower_bound p d) fs) nodes (bounds_stand p d facts used fs) (children_up p d f h) (bounds_all d h fs)

-- ---- the period is at least 1
pub period_up : (x : ℕ) (facts : List Fact) → list_all is_fact facts ≡ true → pos 1 ≤ℤ period x facts
period_up x facts all = let up = (period_is x facts (facts_proper facts all)).0 in omega (arith, ints, up)

-- ---- whether there is a bound
abbrev has : List Bound → Bool
has [] = false
has (e ∷ es) = true

is_some_if : {A : Type 0} (b : Bool) (a : A) → b ≡ is_some (cond b (Some a) None)
is_some_if true a = refl
is_some_if false a = refl

is_some_unless : {A : Type 0} (b : Bool) (a : A) → not b ≡ is_some (cond b None (Some a))
is_some_unless true a = refl
is_some_unless false a = refl

is_some_bound : (p : ℕ) (d : ℤ) (f : Fact) → is_lower_bound p f ≡ is_some (lower_bound p d f)
is_some_bound p d (AtMostZero t) = is_some_if (int_lt (coef p t) (pos 0)) _
is_some_bound p d (Zero t) = is_some_unless (is_zero (coef p t)) _
is_some_bound p d (Divides m t) = refl
is_some_bound p d (NotDivides m t) = refl

has-bounds : (p : ℕ) (d : ℤ) (fs : List Fact) → list_any (is_lower_bound p) fs ≡ has (filter_map (lower_bound p d) fs)
has-bounds p d [] = refl
has-bounds p d (f ∷ fs) = rw (is_some_bound p d f, has-bounds p d fs) (by_some (lower_bound p d f) (filter_map (lower_bound p d) fs))
  where
    by_some : (o : Option Bound) (es : List Bound) → (is_some o || has es) ≡ has (cons_option o es)
    by_some None es = refl
    by_some (Some e) es = refl

module _ (p : ℕ) (facts : List Fact) where
  children_by-bounds : (es : List Bound) → has es ≡ true → children_by p facts es ≡ flat_map (bound_children p facts) es
  children_by-bounds [] h = absurd (false≢true h)
  children_by-bounds (e ∷ es) h = refl

  steps_by-bounds : (es : List Bound) → has es ≡ true → steps_by p facts es ≡ flat_map (bound_steps p facts) es
  steps_by-bounds [] h = absurd (false≢true h)
  steps_by-bounds (e ∷ es) h = refl

  children_by-far : (es : List Bound) → has es ≡ false → children_by p facts es ≡ far_children p facts
  children_by-far [] h = refl
  children_by-far (e ∷ es) h = absurd (true≢false h)

  steps_by-far : (es : List Bound) → has es ≡ false → steps_by p facts es ≡ far_steps p facts
  steps_by-far [] h = refl
  steps_by-far (e ∷ es) h = absurd (true≢false h)

-- ---- Least whose parameter is free and whose period is formed
module _ (params p : ℕ) (nodes : List Node) (used : List ℕ) (facts : List Fact) (d : ℤ) (free : is_free params used p ≡ true) (r : Option ℤ) (is : r ≡ if_narrow (period_steps p facts) (period p facts)) where
  pub least-wide : r ≡ None → least_stands params p nodes used facts ≡ false
  least-wide none = rw free (rw (is_narrow-append (period_steps p facts) (steps_by p facts (lower_bounds p facts))) (by_steps (is_narrow (period_steps p facts)) (sym is ∙ none)))
    where
      by_steps : (b : Bool) → cond b (Some (period p facts)) None ≡ None → ((b && is_narrow (steps_by p facts (lower_bounds p facts))) && each_stands (p ∷ used) nodes (least_children p facts)) ≡ false
      by_steps true h = absurd (cc)
      by_steps false h = refl

  -- the steps after the period, and the children
  formed : r ≡ Some d → (is_narrow (period_steps p facts) ≡ true) × (period p facts ≡ d)
  formed some = if_narrow_out (period_steps p facts) (period p facts) d (sym is ∙ some)

  opened : r ≡ Some d → least_stands params p nodes used facts ≡ (is_narrow (steps_by p facts (lower_bounds p facts)) && each_stands (p ∷ used) nodes (least_children p facts))
  opened some = rw (free, is_narrow-append (period_steps p facts) (steps_by p facts (lower_bounds p facts)), (formed some).0) refl

  pub least-bounds : r ≡ Some d → pos 1 ≤ℤ d → list_any (is_lower_bound p) facts ≡ true
      → least_stands params p nodes used facts ≡ bounds_stand p d facts (p ∷ used) facts nodes
  least-bounds some h any =
      let e = (formed some).1 in
      let es = lower_bounds p facts in
      let there : has es ≡ true = sym (has-bounds p (period p facts) facts) ∙ any in
      opened some
      ∙ rw (steps_by-bounds p facts es there, children_by-bounds p facts es there) (ap (λ z. AllStand p facts (p ∷ used) (filter_map (lower_bound p z) facts) nodes) e)
      ∙ sym (bounds_all p facts (p ∷ used) d h facts nodes)

  far_opened : r ≡ Some d → list_any (is_lower_bound p) facts ≡ false
      → least_stands params p nodes used facts ≡ (is_narrow (flat_map (far_child_steps p facts) (numbers_below d)) && each_stands (p ∷ used) nodes (map (far_child p facts) (numbers_below d)))
  far_opened some none =
      let e = (formed some).1 in
      let es = lower_bounds p facts in
      let no : has es ≡ false = sym (has-bounds p (period p facts) facts) ∙ none in
      opened some
      ∙ rw (steps_by-far p facts es no, children_by-far p facts es no) (ap (λ z. is_narrow (flat_map (far_child_steps p facts) (numbers_below z)) && each_stands (p ∷ used) nodes (map (far_child p facts) (numbers_below z))) e)

  pub least-far : r ≡ Some d → pos 1 ≤ℤ d → list_any (is_lower_bound p) facts ≡ false → is_count d (length nodes) ≡ true
      → least_stands params p nodes used facts ≡ numbered_stand (far_child_steps p facts) (far_child p facts) (p ∷ used) 0 nodes
  least-far some h none count =
      far_opened some none
      ∙ ap (λ z. is_narrow (flat_map (far_child_steps p facts) (numbers_below z)) && each_stands (p ∷ used) nodes (map (far_child p facts) (numbers_below z))) (just d h count)
      ∙ sym (numbered_all (far_child_steps p facts) (far_child p facts) (p ∷ used) 0 nodes)
    where
      just : (z : ℤ) → pos 1 ≤ℤ z → is_count z (length nodes) ≡ true → z ≡ pos (length nodes)
      just (pos n) k c = ap pos (sym (eqb-true (length nodes) n c))
      just (negsuc n) k c = absurd (omega (arith, ints, k))

  pub least-far_count : r ≡ Some d → pos 1 ≤ℤ d → list_any (is_lower_bound p) facts ≡ false → is_count d (length nodes) ≡ false → least_stands params p nodes used facts ≡ false
  least-far_count some h none count =
      far_opened some none
      ∙ ap (λ b. is_narrow (flat_map (far_child_steps p facts) (numbers_below d)) && b) (each_stands-count (p ∷ used) nodes (map (far_child p facts) (numbers_below d)) (apart d h count))
      ∙ and_false (is_narrow (flat_map (far_child_steps p facts) (numbers_below d)))
    where
      apart : (z : ℤ) → pos 1 ≤ℤ z → is_count z (length nodes) ≡ false → length nodes ≡ length (map (far_child p facts) (numbers_below z)) → ⊥
      apart (pos n) k c e = eqb-false (length nodes) n c (e ∙ length-map (count_from 0 n) (far_child p facts) ∙ length-count_from 0 n)
      apart (negsuc n) k c e = absurd (omega (arith, ints, k))
