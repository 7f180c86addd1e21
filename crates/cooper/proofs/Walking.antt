-- Visits one after the other, counted.
use Rattle.std.specs.Prelude.{◌≡◌, ⊤, pos, negsuc, ◌≤ℤ◌, int_le, unsigned_abs, IfSome, MatchOption, IsTrue, ℕ, zero, suc, ◌+◌, ℤ, Bool, true, false, List, [], ◌∷◌, ◌++◌, Option, Some, None, option_map, Result, Ok, Err, if◌then◌else◌}
use Rattle.std.specs.List.{position}
use Rattle.std.proofs.Common.{refl, sym, ◌∙◌, ap, subst, arith, append_assoc}
use Rattle.std.proofs.lemmas.Int.{ints}
use Rattle.std.proofs.lemmas.Bool.{true≢false}
use Rattle.lin_base.specs.declared.facts.Fact.{Fact}
use Rattle.lin_base.specs.Sum.{Valuation}
use Rattle.lin_base.specs.Numbers.{results}
use Rattle.lin_base.specs.Fact.{is_false}
use Rattle.cert_tree.specs.declared.certs.Tree.{Tree}
use Rattle.cert_tree.specs.declared.certs.Tree.TheOpen.{Clash}
use Rattle.cert_tree.specs.declared.certs.Tree.TheViews.{roll-Tree}
use Rattle.cert_tree.specs.declared.test_points.Bound.{Bound as Parts}
use Rattle.cert_tree.specs.Bounds.{bound_of}
use Rattle.cert_tree.specs.Children.{Bound, lower_bound, bound_steps_of}
use Rattle.cert_tree.specs.Counting.{count_from, numbers_below}
use Rattle.cert_tree.specs.Search.{Found, closed, satisfied, Visit}
use Rattle.cert_tree.specs.Sides.{side_of}
use Rattle.cert_tree.proofs.Pointing.{children_up}
use Rattle.cooper_rows.specs.declared.counting.BudgetError.{BudgetError}
use Rattle.cooper_rows.specs.declared.counting.BudgetError.TheVariants.{Memory, Wide as OutOfRange, Spent}
use Rattle.cooper_rows.specs.Counted.{IsAfter, IsCause, Fits}
use Rattle.cooper_rows.proofs.Budgets.{counted_as, counted_then, cause_fits, after_fits, Due, due_step, due_err, due_end, after_after, cause_first, cause_then}
use Rattle.cooper.specs.Walks.{Walk, nothing, one_more, after, joined, then_walk, coming_back, rooted, under, if_any, points_walk, bound_walk, unless_false, node_walk, found_by, formed_of, valuation_of, Walked}

abbrev Values : Type 0
Values = Option (List (ℕ × ℤ))

pub append_nil : {A : Type 0} (xs : List A) → xs ≡ xs ++ []
append_nil [] = refl
append_nil (x ∷ xs) = ap (λ ys. x ∷ ys) (append_nil xs)

pub found_is_closed : {A : Type 0} (v : Valuation) (a : A) {P : Type 0} → satisfied v ≡ closed a → P
found_is_closed v a h = absurd (cc)

-- a walk of these parts
abbrev pub walk : ℕ → Found (List Tree) → List ℤ → Walk
walk n f zs = record { nodes = n; found = f; formed = zs }

-- ---- what is joined
pub joined_joined : (ts us : List Tree) (f : Found (List Tree)) → joined (ts ++ us) f ≡ joined ts (joined us f)
joined_joined ts us (satisfied v) = refl
joined_joined ts us (closed vs) = ap closed (append_assoc ts us vs)

pub joined_nil : (f : Found (List Tree)) → joined [] f ≡ f
joined_nil (satisfied v) = refl
joined_nil (closed ts) = refl

closed_same : (ts us : List Tree) → (let f : Found (List Tree) = closed ts in f) ≡ closed us → ts ≡ us
closed_same ts us h = cc

-- ---- a loop: what is still due of visits, and the whole; the trees so far come before those that are due
abbrev pub DueWalk : ℕ → ℕ → List Tree → List Tree → Walk → Walk → Type 0
DueWalk now start tnow tstart due whole = Due now start due.nodes whole.nodes due.formed whole.formed × (joined tnow due.found ≡ joined tstart whole.found)

pub walk_next : (m1 m0 start : ℕ) (t1 t0 tstart : List Tree) (w rest due whole : Walk) → DueWalk m0 start t0 tstart due whole → due ≡ then_walk w rest → IsAfter m1 m0 w.nodes w.formed → closed t1 ≡ joined t0 w.found → DueWalk m1 start t1 tstart rest whole
walk_next m1 m0 start t1 t0 tstart w rest due whole d is a told = cases w.nodes w.found w.formed (subst (λ u. DueWalk m0 start t0 tstart u whole) is d) a told
  where
    cases : (n : ℕ) (f : Found (List Tree)) (zs : List ℤ) → DueWalk m0 start t0 tstart (then_walk (walk n f zs) rest) whole → IsAfter m1 m0 n zs → closed t1 ≡ joined t0 f → DueWalk m1 start t1 tstart rest whole
    cases n (satisfied v) zs d a told = found_is_closed v t1 (sym told)
    cases n (closed ts) zs d a told = (
      due_step m1 m0 start rest.nodes n (n + rest.nodes) whole.nodes zs rest.formed (zs ++ rest.formed) whole.formed d.0 refl refl a,
      ap (λ us. joined us rest.found) (closed_same t1 (t0 ++ ts) told) ∙ joined_joined t0 ts rest.found ∙ d.1,
    )

pub walk_err : (e : BudgetError) (m0 start : ℕ) (t0 tstart : List Tree) (w rest due whole : Walk) → DueWalk m0 start t0 tstart due whole → due ≡ then_walk w rest → IsCause e m0 w.nodes w.formed → IsCause e start whole.nodes whole.formed
walk_err e m0 start t0 tstart w rest due whole d is h = cases w.nodes w.found w.formed (subst (λ u. DueWalk m0 start t0 tstart u whole) is d) h
  where
    cases : (n : ℕ) (f : Found (List Tree)) (zs : List ℤ) → DueWalk m0 start t0 tstart (then_walk (walk n f zs) rest) whole → IsCause e m0 n zs → IsCause e start whole.nodes whole.formed
    cases n (satisfied v) zs d h = due_err e m0 start 0 n n whole.nodes zs [] zs whole.formed d.0 (omega arith) (append_nil zs) h
    cases n (closed ts) zs d h = due_err e m0 start rest.nodes n (n + rest.nodes) whole.nodes zs rest.formed (zs ++ rest.formed) whole.formed d.0 refl refl h

pub walk_found : (m1 m0 start : ℕ) (t0 tstart : List Tree) (w rest due whole : Walk) (v : Valuation) → DueWalk m0 start t0 tstart due whole → due ≡ then_walk w rest → IsAfter m1 m0 w.nodes w.formed → satisfied v ≡ joined t0 w.found
    → IsAfter m1 start whole.nodes whole.formed × (satisfied v ≡ joined tstart whole.found)
walk_found m1 m0 start t0 tstart w rest due whole v d is a found = cases w.nodes w.found w.formed (subst (λ u. DueWalk m0 start t0 tstart u whole) is d) a found
  where
    cases : (n : ℕ) (f : Found (List Tree)) (zs : List ℤ) → DueWalk m0 start t0 tstart (then_walk (walk n f zs) rest) whole → IsAfter m1 m0 n zs → satisfied v ≡ joined t0 f → IsAfter m1 start whole.nodes whole.formed × (satisfied v ≡ joined tstart whole.found)
    cases n (closed ts) zs d a found = found_is_closed v (t0 ++ ts) found
    cases n (satisfied u) zs d a found = (
      due_end m1 start 0 whole.nodes [] whole.formed (due_step m1 m0 start 0 n n whole.nodes zs [] zs whole.formed d.0 (omega arith) (append_nil zs) a) refl refl,
      found ∙ d.1,
    )

pub walk_end : (m start : ℕ) (tnow tstart : List Tree) (due whole : Walk) → DueWalk m start tnow tstart due whole → due ≡ nothing → IsAfter m start whole.nodes whole.formed × (closed tnow ≡ joined tstart whole.found)
walk_end m start tnow tstart due whole d is = (
  due_end m start due.nodes whole.nodes due.formed whole.formed d.0 (ap (λ w. w.nodes) is) (ap (λ w. w.formed) is),
  ap closed (append_nil tnow) ∙ sym (ap (λ w. joined tnow w.found) is) ∙ d.1,
)

-- ---- numbers before visits
pub before_err : (e : BudgetError) (m0 : ℕ) (zs : List ℤ) (w : Walk) → IsCause e m0 0 zs → IsCause e m0 w.nodes (zs ++ w.formed)
before_err e m0 zs w h =
    let P : ℕ → Type 0 = λ n. IsCause e m0 n (zs ++ w.formed) in
    let same : 0 + w.nodes ≡ w.nodes = omega arith in
    subst P same (cause_first e m0 0 w.nodes zs w.formed h)

-- an error of a call that counts nothing
pub before_fits : (e : BudgetError) (m0 : ℕ) (zs : List ℤ) (w : Walk) → IsCause e 0 0 zs → IsCause e m0 w.nodes (zs ++ w.formed)
before_fits e m0 zs w h = before_err e m0 zs w (cause_fits e m0 0 zs h)

pub walked_after : (r : Result Values BudgetError) (m2 m0 : ℕ) (t2 t0 : List Tree) (zs : List ℤ) (w : Walk) → IsAfter m0 m0 0 zs → Walked r m0 m2 t0 t2 w → Walked r m0 m2 t0 t2 (after zs w)
walked_after r m2 m0 t2 t0 zs w a h =
    let same : w.nodes ≡ 0 + w.nodes = omega arith in
    counted_as r m0 m2 w.nodes (0 + w.nodes) (zs ++ w.formed) (zs ++ w.formed) _ same refl (counted_then r m0 m0 m2 0 w.nodes zs w.formed _ a h)

pub walked_as : (r : Result Values BudgetError) (m2 m0 : ℕ) (t2 t0 : List Tree) (w u : Walk) → w ≡ u → Walked r m0 m2 t0 t2 w → Walked r m0 m2 t0 t2 u
walked_as r m2 m0 t2 t0 w u is h = subst (Walked r m0 m2 t0 t2) is h

-- ---- values that come back
cause_none : (e : BudgetError) (m k : ℕ) (zs : List ℤ) → IsCause e 0 0 [] → IsCause e m k zs
cause_none Memory m k zs h = tt
cause_none OutOfRange m k zs h = absurd (true≢false h)
cause_none Spent m k zs h = absurd (omega (arith, h))

-- none: the trees
back_trees : (r : Result Values BudgetError) (m1 m0 n : ℕ) (zs : List ℤ) (t1 t0 ts : List Tree) → IsAfter m1 m0 n zs → closed t1 ≡ closed (t0 ++ ts) → Fits r [] (λ x. option_map valuation_of x ≡ None) → Walked r m0 m1 t0 t1 (walk n (closed ts) zs)
back_trees (Ok x) m1 m0 n zs t1 t0 ts a told h = ((a, ap (λ y. found_by y t1) h.0.1 ∙ told), tt)
back_trees (Err e) m1 m0 n zs t1 t0 ts a told h = (tt, cause_none e m0 n zs h.1)

-- some: with what was formed for them
back_values : (r : Result Values BudgetError) (m1 m0 n : ℕ) (zs : List ℤ) (t1 t0 : List Tree) (back : Valuation → Valuation) (formed : Valuation → List ℤ) (v : Valuation) → IsAfter m1 m0 n zs → Fits r (formed v) (λ x. option_map valuation_of x ≡ Some (back v))
    → Walked r m0 m1 t0 t1 (walk n (satisfied (back v)) (zs ++ formed v))
back_values (Ok x) m1 m0 n zs t1 t0 back formed v a h =
    let none_more : n + 0 ≡ n = omega arith in
    ((subst (λ k. IsAfter m1 m0 k (zs ++ formed v)) none_more (after_after m1 m1 m0 n 0 zs (formed v) a (after_fits m1 (formed v) h.0.0)), ap (λ y. found_by y t1) h.0.1), tt)
back_values (Err e) m1 m0 n zs t1 t0 back formed v a h =
    let none_more : n + 0 ≡ n = omega arith in
    (tt, subst (λ k. IsCause e m0 k (zs ++ formed v)) none_more (cause_then e m1 m0 n 0 zs (formed v) a (cause_fits e m1 0 (formed v) h.1)))

satisfied_same : {A : Type 0} (v u : Valuation) → (let f : Found A = satisfied v in f) ≡ satisfied u → v ≡ u
satisfied_same v u h = cc

pub back_walked : (r : Result Values BudgetError) (m1 m0 : ℕ) (t1 t0 : List Tree) (back : Valuation → Valuation) (formed : Valuation → List ℤ) (w : Walk) (o : Option Valuation) → IsAfter m1 m0 w.nodes w.formed → found_by o t1 ≡ joined t0 w.found
    → Fits r (formed_of formed o) (λ x. option_map valuation_of x ≡ option_map back o) → Walked r m0 m1 t0 t1 (coming_back back formed w)
back_walked r m1 m0 t1 t0 back formed w o a told h = cases w.nodes w.found w.formed o a told h
  where
    cases : (n : ℕ) (f : Found (List Tree)) (zs : List ℤ) (y : Option Valuation) → IsAfter m1 m0 n zs → found_by y t1 ≡ joined t0 f → Fits r (formed_of formed y) (λ x. option_map valuation_of x ≡ option_map back y) → Walked r m0 m1 t0 t1 (coming_back back formed (walk n f zs))
    cases n (closed ts) zs (Some v) a told h = found_is_closed v (t0 ++ ts) told
    cases n (satisfied v) zs None a told h = found_is_closed v t1 (sym told)
    cases n (closed ts) zs None a told h = back_trees r m1 m0 n zs t1 t0 ts a told h
    cases n (satisfied u) zs (Some v) a told h =
        let same = satisfied_same v u told in
        subst (λ z. Walked r m0 m1 t0 t1 (walk n (satisfied (back z)) (zs ++ formed z))) same (back_values r m1 m0 n zs t1 t0 back formed v a h)

pub back_first_err : (e : BudgetError) (m0 : ℕ) (back : Valuation → Valuation) (formed : Valuation → List ℤ) (w : Walk) → IsCause e m0 w.nodes w.formed → IsCause e m0 (coming_back back formed w).nodes (coming_back back formed w).formed
back_first_err e m0 back formed w h = cases w.nodes w.found w.formed h
  where
    cases : (n : ℕ) (f : Found (List Tree)) (zs : List ℤ) → IsCause e m0 n zs → IsCause e m0 (coming_back back formed (walk n f zs)).nodes (coming_back back formed (walk n f zs)).formed
    cases n (closed ts) zs h = h
    cases n (satisfied v) zs h =
        let P : ℕ → Type 0 = λ k. IsCause e m0 k (zs ++ formed v) in
        let none_more : n + 0 ≡ n = omega arith in
        subst P none_more (cause_first e m0 n 0 zs (formed v) h)

-- ---- under the tree of a node
pub under_ok : (m1 m0 : ℕ) (below t1 t0 : List Tree) (tree : List Tree → Tree) (w : Walk) (o : Option Valuation) (x : Values) → IsAfter m1 m0 w.nodes w.formed → found_by o below ≡ joined [] w.found
    → found_by (option_map valuation_of x) t1 ≡ joined t0 (rooted tree (found_by o below)) → IsAfter m1 m0 (under tree w).nodes (under tree w).formed × (found_by (option_map valuation_of x) t1 ≡ joined t0 (under tree w).found)
under_ok m1 m0 below t1 t0 tree w o x a told put = (a, put ∙ ap (λ f. joined t0 (rooted tree f)) (told ∙ joined_nil w.found))

-- ---- a node
pub node_err : (e : BudgetError) (room : ℕ) (facts : List Fact) (w : Walk) → IsCause e room 1 [] → IsCause e room (node_walk facts w).nodes (node_walk facts w).formed
node_err Memory room facts w h = tt
node_err OutOfRange room facts w h = absurd (true≢false h)
node_err Spent room facts w h = omega (arith, h)

pub node_closed : (m1 m0 : ℕ) (t1 t0 : List Tree) (facts : List Fact) (w : Walk) (n : ℕ) → IsAfter m1 m0 1 [] → Some n ≡ position is_false facts → t1 ≡ t0 ++ roll-Tree (Clash n) ∷ [] → IsAfter m1 m0 (node_walk facts w).nodes (node_walk facts w).formed × (closed t1 ≡ joined t0 (node_walk facts w).found)
node_closed m1 m0 t1 t0 facts w n a closes is =
    subst (λ o. let u : Walk = one_more (unless_false o w) in IsAfter m1 m0 u.nodes u.formed × (closed t1 ≡ joined t0 u.found)) closes (a, ap closed is)

pub node_ok : (r : Result Values BudgetError) (m2 m1 m0 : ℕ) (t1 t0 : List Tree) (facts : List Fact) (w : Walk) → IsAfter m1 m0 1 [] → None ≡ position is_false facts → Walked r m1 m2 t0 t1 w → Walked r m0 m2 t0 t1 (node_walk facts w)
node_ok r m2 m1 m0 t1 t0 facts w a open_ h =
    subst (λ o. Walked r m0 m2 t0 t1 (one_more (unless_false o w))) open_
    (counted_as r m0 m2 (suc w.nodes) (1 + w.nodes) w.formed w.formed _ (omega arith) refl (counted_then r m0 m1 m2 1 w.nodes [] w.formed _ a h))

-- ---- the children of a bound that may not be one
pub numbers_at : (z : ℤ) (n : ℕ) → n ≡ unsigned_abs z → pos 1 ≤ℤ z → count_from 0 n ≡ numbers_below z
numbers_at (pos k) n is up = ap (count_from 0) is
numbers_at (negsuc k) n is up = absurd (omega (arith, ints, up))

if_any_up : (z : ℤ) (zs : List ℤ) (w : Walk) → pos 1 ≤ℤ z → if_any (numbers_below z) zs w ≡ after zs w
if_any_up (pos zero) zs w up = absurd (omega (arith, ints, up))
if_any_up (pos (suc n)) zs w up = refl
if_any_up (negsuc n) zs w up = absurd (omega (arith, ints, up))

abbrev pub IsUp : Option Bound → Type 0
IsUp None = ⊤
IsUp (Some e) = pos 1 ≤ℤ e.children

is_up : (o : Option Bound) → IfSome o (λ b. IsTrue (int_le (pos 1) b.children)) → IsUp o
is_up None h = tt
is_up (Some e) h = omega (arith, ints, h)

pub bound_up : (p : ℕ) (d : ℤ) (f : Fact) → pos 1 ≤ℤ d → IsUp (lower_bound p d f)
bound_up p d f up = is_up (lower_bound p d f) (children_up p d f up)

pub bound_err : (e : BudgetError) (m0 : ℕ) (visit : List Fact → Visit Tree) (p : ℕ) (facts : List Fact) (o : Option Bound) → IsUp o → IsCause e 0 0 (results (bound_steps_of o)) → IsCause e m0 (bound_walk visit p facts o).nodes (bound_walk visit p facts o).formed
bound_err e m0 visit p facts None up h = cause_fits e m0 0 [] h
bound_err e m0 visit p facts (Some b) up h =
    let w = points_walk visit p facts (side_of b.side) (numbers_below b.children) in
    let zs = results (bound_steps_of (Some b)) in
    let P : Walk → Type 0 = λ u. IsCause e m0 u.nodes u.formed in
    subst P (sym (if_any_up b.children zs w up)) (before_fits e m0 zs w h)

pub bound_walked : (r : Result Values BudgetError) (m2 m0 : ℕ) (t2 t0 : List Tree) (visit : List Fact → Visit Tree) (p : ℕ) (facts : List Fact) (o : Option Bound) (b : Parts) (n : ℕ) → IsUp o → Some b ≡ option_map bound_of o → IsAfter m0 m0 0 (results (bound_steps_of o)) → n ≡ unsigned_abs b.children
    → Walked r m0 m2 t0 t2 (points_walk visit p facts b.side (count_from 0 n)) → Walked r m0 m2 t0 t2 (bound_walk visit p facts o)
bound_walked r m2 m0 t2 t0 visit p facts None b n up is a count h = absurd (cc)
bound_walked r m2 m0 t2 t0 visit p facts (Some e) b n up is a count h =
    let same : b ≡ bound_of e = cc in
    let zs = results (bound_steps_of (Some e)) in
    let w = points_walk visit p facts (side_of e.side) (numbers_below e.children) in
    let js : count_from 0 n ≡ numbers_below e.children = numbers_at e.children n (count ∙ ap (λ c. unsigned_abs c.children) same) up in
    let B : Parts → Type 0 = λ c. Walked r m0 m2 t0 t2 (points_walk visit p facts c.side (count_from 0 n)) in
    let J : List ℕ → Type 0 = λ ks. Walked r m0 m2 t0 t2 (points_walk visit p facts (side_of e.side) ks) in
    walked_as r m2 m0 t2 t0 (after zs w) (if_any (numbers_below e.children) zs w) (sym (if_any_up e.children zs w up)) (walked_after r m2 m0 t2 t0 zs w a (subst J js (subst B same h)))

pub bound_none : (m0 : ℕ) (t0 : List Tree) (visit : List Fact → Visit Tree) (p : ℕ) (facts : List Fact) (o : Option Bound) → None ≡ option_map bound_of o → IsAfter m0 m0 (bound_walk visit p facts o).nodes (bound_walk visit p facts o).formed × (closed t0 ≡ joined t0 (bound_walk visit p facts o).found)
bound_none m0 t0 visit p facts None is = ((omega arith, refl), ap closed (append_nil t0))
bound_none m0 t0 visit p facts (Some e) is = absurd (cc)

-- ---- choices
pub walked_if_true : (r : Result Values BudgetError) (m2 m0 : ℕ) (t2 t0 : List Tree) (b : Bool) (w u : Walk) → b ≡ true → Walked r m0 m2 t0 t2 w → Walked r m0 m2 t0 t2 (if b then w else u)
walked_if_true r m2 m0 t2 t0 true w u is h = h
walked_if_true r m2 m0 t2 t0 false w u is h = absurd (cc)

pub walked_if_false : (r : Result Values BudgetError) (m2 m0 : ℕ) (t2 t0 : List Tree) (b : Bool) (w u : Walk) → b ≡ false → Walked r m0 m2 t0 t2 u → Walked r m0 m2 t0 t2 (if b then w else u)
walked_if_false r m2 m0 t2 t0 true w u is h = absurd (cc)
walked_if_false r m2 m0 t2 t0 false w u is h = h

-- ---- one step, then visits
pub after_ok : (m1 m0 : ℕ) (zs : List ℤ) (w : Walk) → IsAfter m0 m0 0 zs → IsAfter m1 m0 w.nodes w.formed → IsAfter m1 m0 w.nodes (zs ++ w.formed)
after_ok m1 m0 zs w a b = let same : 0 + w.nodes ≡ w.nodes = omega arith in subst (λ n. IsAfter m1 m0 n (zs ++ w.formed)) same (after_after m1 m0 m0 0 w.nodes zs w.formed a b)

pub after_err : (e : BudgetError) (m0 : ℕ) (zs : List ℤ) (w : Walk) → IsAfter m0 m0 0 zs → IsCause e m0 w.nodes w.formed → IsCause e m0 w.nodes (zs ++ w.formed)
after_err e m0 zs w a h = let same : 0 + w.nodes ≡ w.nodes = omega arith in subst (λ n. IsCause e m0 n (zs ++ w.formed)) same (cause_then e m0 m0 0 w.nodes zs w.formed a h)

-- the answer of a call that closes, after what it closes was visited
pub closed_walk : (m1 m0 : ℕ) (below t1 t0 : List Tree) (tree : List Tree → Tree) (w : Walk) (o x : Values) → IsAfter m1 m0 w.nodes w.formed → found_by (option_map valuation_of o) below ≡ joined [] w.found
    → found_by (option_map valuation_of x) t1 ≡ joined t0 (rooted tree (found_by (option_map valuation_of o) below)) → (IsAfter m1 m0 (under tree w).nodes (under tree w).formed × (found_by (option_map valuation_of x) t1 ≡ joined t0 (under tree w).found))
closed_walk m1 m0 below t1 t0 tree w o x a told put = under_ok m1 m0 below t1 t0 tree w (option_map valuation_of o) x a told put

-- ---- a literal that is put behind the facts and taken off again
none_last : {A : Type 0} (ys : List A) (b : A) {P : Type 0} → [] ≡ ys ++ b ∷ [] → P
none_last [] b h = absurd (cc)
none_last (y ∷ ys) b h = absurd (cc)

pub last_off : {A : Type 0} (xs ys : List A) (a b : A) → xs ++ a ∷ [] ≡ ys ++ b ∷ [] → xs ≡ ys
last_off [] [] a b h = refl
last_off [] (y ∷ ys) a b h = let rest : [] ≡ ys ++ b ∷ [] = cc in none_last ys b rest
last_off (x ∷ xs) [] a b h = let rest : [] ≡ xs ++ a ∷ [] = cc in none_last xs a rest
last_off (x ∷ xs) (y ∷ ys) a b h =
    let first : x ≡ y = cc in
    let rest : xs ++ a ∷ [] ≡ ys ++ b ∷ [] = cc in
    ap (λ z. z ∷ xs) first ∙ ap (λ zs. y ∷ zs) (last_off xs ys a b rest)

pub popped : {A : Type 0} (r : Option A) (old xs new : List A) (a : A) → old ≡ xs ++ a ∷ [] → MatchOption r ((old ≡ []) × (new ≡ [])) (λ last. old ≡ new ++ last ∷ []) → new ≡ xs
popped None old xs new a is h = none_last xs a (sym h.0 ∙ is)
popped (Some b) old xs new a is h = last_off new xs b a (sym h ∙ is)
