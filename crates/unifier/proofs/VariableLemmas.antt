-- Lists of variables: what they have, and that they ascend.
use Rattle.std.proofs.Common.{◌≡◌, ◌<◌, ◌≤◌, ◌+◌, ℕ, suc, max, Bool, true, false, ◌||◌, List, [], ◌∷◌, length, drop, get_or, add-one, drop-cons, refl, ap, sym, ◌∙◌, subst, arith, inl, inr, if◌then◌else◌}
use Rattle.std.specs.List.{insert}
use Rattle.std.specs.Ordering.{is_lt, ordering_reverse}
use Rattle.std.specs.declared.cmp.Ordering.{Ordering}
use Rattle.std.specs.declared.cmp.Ordering.TheVariants.{Less, Equal, Greater}
use Rattle.std.proofs.lemmas.List.{drop_all}
use Rattle.term_base.specs.declared.variables.Variable.{Variable}
use Rattle.term_base.specs.Same.{same_variable}
use Rattle.term_base.specs.SameLemmas.{same_variable-true, same_variable-refl}
use Rattle.term_base.specs.VariableOrder.{variable_cmp}
use Rattle.term_base.specs.VariableOrderLemmas.{variable_cmp_total, variable_cmp-equal}
use Rattle.term_base.specs.Trees.{Tree, Trees, var, node, none, more, occurs, any_occurs}
use Rattle.term_base.specs.TreeLemmas.{true_or_false, both_ways, or-true, or-false, or-left, or-right}
use Rattle.unifier.specs.Variables.{has, BelowAll, Ascends, rank, inserted, all_inserted, gathered, all_gathered, past}

or_assoc : (a b c : Bool) → ((a || b) || c) ≡ (a || (b || c))
or_assoc true b c = refl
or_assoc false b c = refl

pub or_none : (a : Bool) → (a || false) ≡ a
or_none true = refl
or_none false = refl

-- the first of two tests last
or_moved : (a b c : Bool) → (a || (b || c)) ≡ ((b || c) || a)
or_moved true true c = refl
or_moved true false true = refl
or_moved true false false = refl
or_moved false b c = sym (or_none (b || c))

-- the list with v in front of the first variable that is not below it
abbrev placed : Variable → List Variable → List Variable
placed v [] = v ∷ []
placed v (w ∷ ws) = if is_lt (variable_cmp w v) then w ∷ placed v ws else v ∷ w ∷ ws

rank_behind : (w v : Variable) (ws : List Variable) → is_lt (variable_cmp w v) ≡ true → rank (w ∷ ws) v ≡ suc (rank ws v)
rank_behind w v ws h = rw h refl

rank_here : (w v : Variable) (ws : List Variable) → is_lt (variable_cmp w v) ≡ false → rank (w ∷ ws) v ≡ 0
rank_here w v ws h = rw h refl

placed_behind : (w v : Variable) (ws : List Variable) → is_lt (variable_cmp w v) ≡ true → placed v (w ∷ ws) ≡ w ∷ placed v ws
placed_behind w v ws h = rw h refl

placed_here : (w v : Variable) (ws : List Variable) → is_lt (variable_cmp w v) ≡ false → placed v (w ∷ ws) ≡ v ∷ w ∷ ws
placed_here w v ws h = rw h refl

insert_placed : (v : Variable) (ws : List Variable) → insert ws (rank ws v) v ≡ placed v ws
insert_placed v [] = refl
insert_placed v (w ∷ ws) = elim (true_or_false (is_lt (variable_cmp w v))) [
  | inl h ↦ (ap (λ n. insert (w ∷ ws) n v) (rank_behind w v ws h) ∙ ap (λ (l : List Variable). w ∷ l) (insert_placed v ws) ∙ sym (placed_behind w v ws h))
  | inr h ↦ (ap (λ n. insert (w ∷ ws) n v) (rank_here w v ws h) ∙ sym (placed_here w v ws h))
]

has_placed : (v : Variable) (ws : List Variable) (z : Variable) → has (placed v ws) z ≡ (has ws z || same_variable v z)
has_placed v [] z = or_none (same_variable v z)
has_placed v (w ∷ ws) z = elim (true_or_false (is_lt (variable_cmp w v))) [
  | inl h ↦ (ap (λ l. has l z) (placed_behind w v ws h) ∙ ap (λ b. same_variable w z || b) (has_placed v ws z) ∙ sym (or_assoc (same_variable w z) (has ws z) (same_variable v z)))
  | inr h ↦ (ap (λ l. has l z) (placed_here w v ws h) ∙ or_moved (same_variable v z) (same_variable w z) (has ws z))
]

inserted_there : (v : Variable) (ws : List Variable) → has ws v ≡ true → inserted v ws ≡ ws
inserted_there v ws h = rw h refl

inserted_new : (v : Variable) (ws : List Variable) → has ws v ≡ false → inserted v ws ≡ placed v ws
inserted_new v ws h = let e : inserted v ws ≡ insert ws (rank ws v) v = rw h refl in e ∙ insert_placed v ws

there_already : (v z : Variable) (ws : List Variable) → has ws v ≡ true → has ws z ≡ (has ws z || same_variable v z)
there_already v z ws h = elim (true_or_false (same_variable v z)) [
  | inl e ↦ (let there : has ws z ≡ true = ap (has ws) (sym (same_variable-true v z e)) ∙ h in there ∙ sym (or-left (has ws z) (same_variable v z) there))
  | inr d ↦ (sym (ap (λ b. has ws z || b) d ∙ or_none (has ws z)))
]

-- a list with a variable has this one more
pub has_inserted : (v : Variable) (ws : List Variable) (z : Variable) → has (inserted v ws) z ≡ (has ws z || same_variable v z)
has_inserted v ws z = elim (true_or_false (has ws v)) [
  | inl h ↦ (ap (λ l. has l z) (inserted_there v ws h) ∙ there_already v z ws h)
  | inr h ↦ (ap (λ l. has l z) (inserted_new v ws h) ∙ has_placed v ws z)
]

mutual
  -- a list with the variables of a tree has these more
  pub has_gathered : (t : Tree) (ws : List Variable) (z : Variable) → has (gathered t ws) z ≡ (has ws z || occurs z t)
  has_gathered (var v) ws z = has_inserted v ws z
  has_gathered (node f xs) ws z = has_all_gathered xs ws z

  has_all_gathered : (xs : Trees) (ws : List Variable) (z : Variable) → has (all_gathered xs ws) z ≡ (has ws z || any_occurs z xs)
  has_all_gathered none ws z = sym (or_none (has ws z))
  has_all_gathered (more x xs) ws z =
      has_all_gathered xs (gathered x ws) z ∙ ap (λ b. b || any_occurs z xs) (has_gathered x ws z)
      ∙ or_assoc (has ws z) (occurs z x) (any_occurs z xs)

pub has_gathered_own : (t : Tree) (ws : List Variable) (z : Variable) → occurs z t ≡ true → has (gathered t ws) z ≡ true
has_gathered_own t ws z o = has_gathered t ws z ∙ or-right (has ws z) (occurs z t) o

pub has_gathered_before : (t : Tree) (ws : List Variable) (z : Variable) → has ws z ≡ true → has (gathered t ws) z ≡ true
has_gathered_before t ws z h = has_gathered t ws z ∙ or-left (has ws z) (occurs z t) h

pub has_all_inserted : (vs ws : List Variable) (z : Variable) → has (all_inserted vs ws) z ≡ (has ws z || has vs z)
has_all_inserted [] ws z = sym (or_none (has ws z))
has_all_inserted (v ∷ vs) ws z =
    has_all_inserted vs (inserted v ws) z ∙ ap (λ b. b || has vs z) (has_inserted v ws z)
    ∙ or_assoc (has ws z) (same_variable v z) (has vs z)

lt_less : (o : Ordering) → is_lt o ≡ true → o ≡ Less
lt_less Less h = refl
lt_less Equal h = cc
lt_less Greater h = cc

-- a variable that is not below a different one is above it
not_below : (w v : Variable) (o : Ordering) → variable_cmp w v ≡ o → is_lt o ≡ false → same_variable w v ≡ false → variable_cmp v w ≡ Less
not_below w v Less e h d = cc
not_below w v Equal e h d =
    let same : same_variable w v ≡ true = ap (same_variable w) (sym (variable_cmp-equal w v e)) ∙ same_variable-refl w in
    absurd (both_ways (same_variable w v) same d)
not_below w v Greater e h d = variable_cmp_total.antisymm v w ∙ ap ordering_reverse e

below_through : (v w : Variable) (ws : List Variable) → variable_cmp v w ≡ Less → BelowAll w ws → BelowAll v ws
below_through v w [] h b = tt
below_through v w (x ∷ xs) h b = (variable_cmp_total.trans v w x h b.0, below_through v w xs h b.1)

below_placed : (w v : Variable) (ws : List Variable) → variable_cmp w v ≡ Less → BelowAll w ws → BelowAll w (placed v ws)
below_placed w v [] h b = (h, tt)
below_placed w v (x ∷ xs) h b = elim (true_or_false (is_lt (variable_cmp x v))) [
  | inl k ↦ subst (BelowAll w) (sym (placed_behind x v xs k)) (b.0, below_placed w v xs h b.1)
  | inr k ↦ subst (BelowAll w) (sym (placed_here x v xs k)) (h, b)
]

ascends_placed : (v : Variable) (ws : List Variable) → has ws v ≡ false → Ascends ws → Ascends (placed v ws)
ascends_placed v [] n a = (tt, tt)
ascends_placed v (w ∷ ws) n a =
    let two = or-false (same_variable w v) (has ws v) n in
    elim (true_or_false (is_lt (variable_cmp w v))) [
      | inl k ↦ subst Ascends (sym (placed_behind w v ws k)) (below_placed w v ws (lt_less (variable_cmp w v) k) a.0, ascends_placed v ws two.1 a.1)
      | inr k ↦ (
          let below = not_below w v (variable_cmp w v) refl k two.0 in
          subst Ascends (sym (placed_here w v ws k)) ((below, below_through v w ws below a.0), a))
    ]

pub ascends_inserted : (v : Variable) (ws : List Variable) → Ascends ws → Ascends (inserted v ws)
ascends_inserted v ws a = elim (true_or_false (has ws v)) [
  | inl h ↦ subst Ascends (sym (inserted_there v ws h)) a
  | inr h ↦ subst Ascends (sym (inserted_new v ws h)) (ascends_placed v ws h a)
]

mutual
  pub ascends_gathered : (t : Tree) (ws : List Variable) → Ascends ws → Ascends (gathered t ws)
  ascends_gathered (var v) ws a = ascends_inserted v ws a
  ascends_gathered (node f xs) ws a = ascends_all_gathered xs ws a

  ascends_all_gathered : (xs : Trees) (ws : List Variable) → Ascends ws → Ascends (all_gathered xs ws)
  ascends_all_gathered none ws a = a
  ascends_all_gathered (more x xs) ws a = ascends_all_gathered xs (gathered x ws) (ascends_gathered x ws a)

pub ascends_all_inserted : (vs ws : List Variable) → Ascends ws → Ascends (all_inserted vs ws)
ascends_all_inserted [] ws a = a
ascends_all_inserted (v ∷ vs) ws a = ascends_all_inserted vs (inserted v ws) (ascends_inserted v ws a)

-- every number of the list is below the bound
pub below_past : (vs : List Variable) (v : Variable) → has vs v ≡ true → v.id < past vs
below_past [] v h = absurd (both_ways false h refl)
below_past (w ∷ ws) v h = elim (or-true (same_variable w v) (has ws v) h) [
  | inl e ↦ (let same : w.id ≡ v.id = ap (λ (z : Variable). z.id) (same_variable-true w v e) in omega arith)
  | inr m ↦ (let later = below_past ws v m in omega arith)
]

-- how many are below is at most all
pub rank_within : (vs : List Variable) (v : Variable) → rank vs v ≤ length vs
rank_within [] v = omega arith
rank_within (w ∷ ws) v = let later = rank_within ws v in elim (true_or_false (is_lt (variable_cmp w v))) [
  | inl h ↦ (let e = rank_behind w v ws h in omega arith)
  | inr h ↦ (let e = rank_here w v ws h in omega arith)
]

-- one variable more is passed by the count of those below
pub next_rank : (v : Variable) (vs : List Variable) (all i : ℕ) (d : Variable) → i < length vs → is_lt (variable_cmp (get_or vs i d) v) ≡ true
    → all ≡ i + rank (drop i vs) v → all ≡ (i + 1) + rank (drop (i + 1) vs) v
next_rank v vs all i d h lt before =
    let step : rank (drop i vs) v ≡ suc (rank (drop (i + 1) vs) v) =
    ap (λ l. rank l v) (drop-cons vs i d h) ∙ rank_behind (get_or vs i d) v (drop (suc i) vs) lt ∙ ap (λ n. suc (rank (drop n vs) v)) (sym (add-one i)) in
    omega arith

-- the first that is not below ends the count
pub rank_ends : (v : Variable) (vs : List Variable) (all i : ℕ) (d : Variable) → i < length vs → is_lt (variable_cmp (get_or vs i d) v) ≡ false
    → all ≡ i + rank (drop i vs) v → i ≡ all
rank_ends v vs all i d h lt before =
    let step : rank (drop i vs) v ≡ 0 = ap (λ l. rank l v) (drop-cons vs i d h) ∙ rank_here (get_or vs i d) v (drop (suc i) vs) lt in
    omega arith

-- where all are below, the count is the length
pub rank_all : (v : Variable) (vs : List Variable) (i : ℕ) → length vs ≤ i → rank vs v ≡ i + rank (drop i vs) v → length vs ≡ rank vs v
rank_all v vs i h before =
    let within = rank_within vs v in
    let step : rank (drop i vs) v ≡ 0 = ap (λ l. rank l v) (drop_all i vs h) in omega arith

-- one number more is passed by the bound
pub next_past : (vs : List Variable) (all base next i : ℕ) (d : Variable) → i < length vs → next ≡ max base ((get_or vs i d).id + 1)
    → all ≡ max base (past (drop i vs)) → all ≡ max next (past (drop (i + 1) vs))
next_past vs all base next i d h is before =
    let step : past (drop i vs) ≡ max (suc (get_or vs i d).id) (past (drop (i + 1) vs)) =
    ap past (drop-cons vs i d h) ∙ ap (λ n. max (suc (get_or vs i d).id) (past (drop n vs))) (sym (add-one i)) in
    omega arith

-- a variable of a tree or of the list is gathered
pub gathered_or : (t : Tree) (others : List Variable) (vs : List Variable) (v : Variable) → vs ≡ gathered t (all_inserted others []) → (occurs v t || has others v) ≡ true → has vs v ≡ true
gathered_or t others vs v is h =
    let whole = ap (λ l. has l v) is ∙ has_gathered t (all_inserted others []) v ∙ ap (λ b. b || occurs v t) (has_all_inserted others [] v) in
    elim (or-true (occurs v t) (has others v) h) [
      | inl o ↦ (whole ∙ or-right (has others v) (occurs v t) o)
      | inr m ↦ (whole ∙ or-left (has others v) (occurs v t) m)
    ]

-- and nothing else
pub gathered_only : (t : Tree) (vs : List Variable) (v : Variable) → vs ≡ gathered t [] → has vs v ≡ true → occurs v t ≡ true
gathered_only t vs v is h = sym (has_gathered t [] v) ∙ ap (λ l. has l v) (sym is) ∙ h

-- the variables of the tree are gathered
pub gathered_tree : (t : Tree) (others vs : List Variable) (v : Variable) → vs ≡ gathered t (all_inserted others []) → occurs v t ≡ true → has vs v ≡ true
gathered_tree t others vs v is o = ap (λ l. has l v) is ∙ has_gathered_own t (all_inserted others []) v o

pub gathered_ascends : (t : Tree) (others vs : List Variable) → vs ≡ gathered t (all_inserted others []) → Ascends vs
gathered_ascends t others vs is = subst Ascends (sym is) (ascends_gathered t (all_inserted others []) (ascends_all_inserted others [] tt))

pub gathered_both_or : (l u : Tree) (others vs : List Variable) (v : Variable) → vs ≡ gathered l (gathered u (all_inserted others []))
    → (occurs v l || (occurs v u || has others v)) ≡ true → has vs v ≡ true
gathered_both_or l u others vs v is h =
    let whole = ap (λ ws. has ws v) is ∙ has_gathered l (gathered u (all_inserted others [])) v in
    elim (or-true (occurs v l) (occurs v u || has others v) h) [
      | inl o ↦ (whole ∙ or-right (has (gathered u (all_inserted others [])) v) (occurs v l) o)
      | inr m ↦ (whole ∙ or-left (has (gathered u (all_inserted others [])) v) (occurs v l) (gathered_or u others (gathered u (all_inserted others [])) v refl m))
    ]

pub gathered_both_ascends : (l u : Tree) (others vs : List Variable) → vs ≡ gathered l (gathered u (all_inserted others [])) → Ascends vs
gathered_both_ascends l u others vs is =
    subst Ascends (sym is) (ascends_gathered l (gathered u (all_inserted others [])) (gathered_ascends u others (gathered u (all_inserted others [])) refl))

-- the variables of a tree alone
pub gathered_own : (t : Tree) (vs : List Variable) (v : Variable) → vs ≡ gathered t [] → occurs v t ≡ true → has vs v ≡ true
gathered_own t vs v is o = ap (λ l. has l v) is ∙ has_gathered_own t [] v o

-- what was gathered is a variable of the tree or of the list
pub gathered_or_back : (t : Tree) (others vs : List Variable) (v : Variable) → vs ≡ gathered t (all_inserted others []) → has vs v ≡ true → (occurs v t || has others v) ≡ true
gathered_or_back t others vs v is h =
    let whole = ap (λ l. has l v) is ∙ has_gathered t (all_inserted others []) v ∙ ap (λ b. b || occurs v t) (has_all_inserted others [] v) in
    elim (or-true (has others v) (occurs v t) (sym whole ∙ h)) [
      | inl m ↦ or-right (occurs v t) (has others v) m
      | inr o ↦ or-left (occurs v t) (has others v) o
    ]

pub gathered_both_back : (l u : Tree) (others vs : List Variable) (v : Variable) → vs ≡ gathered l (gathered u (all_inserted others []))
    → has vs v ≡ true → (occurs v l || (occurs v u || has others v)) ≡ true
gathered_both_back l u others vs v is h =
    let inner = gathered u (all_inserted others []) in
    let whole = ap (λ ws. has ws v) is ∙ has_gathered l inner v in
    elim (or-true (has inner v) (occurs v l) (sym whole ∙ h)) [
      | inl m ↦ or-right (occurs v l) (occurs v u || has others v) (gathered_or_back u others inner v refl m)
      | inr o ↦ or-left (occurs v l) (occurs v u || has others v) o
    ]
