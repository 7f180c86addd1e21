-- Ascending lists of numbers: two with the same members are one, and the rank of a member is its place.
use Rattle.std.specs.Prelude.{◌≡◌, ℕ, zero, suc, ◌<◌, ◌≤◌, ◌⊎◌, true, false, cond, ◌==◌, nat_lt, List, [], ◌∷◌, if◌then◌else◌, length, Result, Ok, Err}
use Rattle.std.specs.List.{AllByRecursion, Contains}
use Rattle.std.specs.List.Sorted.{IsStrictlyIncreasing, IsStrictlySortedBy, IsBinarySearchResult}
use Rattle.std.specs.Result.{MatchResult}
use Rattle.std.specs.Ordering.{nat_cmp}
use Rattle.std.proofs.Common.{Less, refl, sym, ◌∙◌, ap, subst, inl, inr, arith, get_or}
use Rattle.std.proofs.lemmas.Bool.{cond_both}
use Rattle.std.proofs.lemmas.Bool.Decides.{nat_tests}
use Rattle.std.proofs.lemmas.Map.Keys.{sorted_from_strictly_increasing, sorted_head, sorted_tail, below_from_sorted, non_decreasing_from_sorted}
use Rattle.std.proofs.lemmas.List.Sorted.{searched}
use Rattle.lin_base.specs.Unknowns.{put_in}
use Rattle.bg_view.specs.Unknowns.{rank, ascending}

abbrev pub Member : ℕ → List ℕ → Type 0
Member z [] = ⊥
Member z (x ∷ xs) = (x ≡ z) ⊎ Member z xs

-- x is below each
abbrev pub Above : ℕ → List ℕ → Type 0
Above x [] = Unit {0}
Above x (y ∷ ys) = (x < y) × Above x ys

abbrev pub Rising : List ℕ → Type 0
Rising [] = Unit {0}
Rising (x ∷ xs) = Above x xs × Rising xs

pub above_member : (x z : ℕ) (ys : List ℕ) → Above x ys → Member z ys → x < z
above_member x z [] h m = absurd m
above_member x z (y ∷ ys) h (inl e) = subst (λ w. x < w) e h.0
above_member x z (y ∷ ys) h (inr m) = above_member x z ys h.1 m

lower : (w x : ℕ) (ys : List ℕ) → w < x → Above x ys → Above w ys
lower w x [] h a = tt
lower w x (y ∷ ys) h a = let first = a.0 in (omega (arith, h, first), lower w x ys h a.1)

-- ---- two lists
heads : (x y : ℕ) (xs ys : List ℕ) → Above x xs → Above y ys → Member x (y ∷ ys) → Member y (x ∷ xs) → x ≡ y
heads x y xs ys a b (inl e) k = sym e
heads x y xs ys a b (inr m) (inl e) = e
heads x y xs ys a b (inr m) (inr k) = let p = above_member y x ys b m in let q = above_member x y xs a k in omega (arith, p, q)

in_tail : (y z : ℕ) (ys : List ℕ) → y < z → Member z (y ∷ ys) → Member z ys
in_tail y z ys h (inl e) = absurd (omega (arith, h, e))
in_tail y z ys h (inr m) = m

pub same_members : (xs ys : List ℕ) → Rising xs → Rising ys → ((z : ℕ) → Member z xs → Member z ys) → ((z : ℕ) → Member z ys → Member z xs) → xs ≡ ys
same_members [] [] r s to from = refl
same_members [] (y ∷ ys) r s to from = absurd (from y (inl refl))
same_members (x ∷ xs) [] r s to from = absurd (to x (inl refl))
same_members (x ∷ xs) (y ∷ ys) r s to from =
    let e = heads x y xs ys r.0 s.0 (to x (inl refl)) (from y (inl refl)) in
    let rest = same_members xs ys r.1 s.1
    (λ z m. in_tail y z ys (subst (λ w. w < z) e (above_member x z xs r.0 m)) (to z (inr m)))
    (λ z m. in_tail x z xs (subst (λ w. w < z) (sym e) (above_member y z ys s.0 m)) (from z (inr m))) in
    ap (λ w. w ∷ xs) e ∙ ap (λ zs. y ∷ zs) rest

-- ---- what put_in gives
pub above_put_in : (w x : ℕ) (ys : List ℕ) → w < x → Above w ys → Above w (put_in x ys)
above_put_in w x [] h a = (h, tt)
above_put_in w x (y ∷ ys) h a =
    cond_both (nat_lt x y) (x ∷ y ∷ ys) (if x == y then y ∷ ys else y ∷ put_in x ys) (Above w)
    (λ _. (h, a))
    (λ _. cond_both (x == y) (y ∷ ys) (y ∷ put_in x ys) (Above w) (λ _. a) (λ _. (a.0, above_put_in w x ys h a.1)))

pub rising_put_in : (x : ℕ) (ys : List ℕ) → Rising ys → Rising (put_in x ys)
rising_put_in x [] r = (tt, tt)
rising_put_in x (y ∷ ys) r =
    cond_both (nat_lt x y) (x ∷ y ∷ ys) (if x == y then y ∷ ys else y ∷ put_in x ys) Rising
    (λ below. let h : x < y = grind (arith, nat_tests) in ((h, lower x y ys h r.0), r))
    (λ not_below. cond_both (x == y) (y ∷ ys) (y ∷ put_in x ys) Rising (λ _. r)
    (λ other. let h : y < x = grind (arith, nat_tests) in (above_put_in y x ys h r.0, rising_put_in x ys r.1)))

pub put_in-has : (x : ℕ) (ys : List ℕ) → Member x (put_in x ys)
put_in-has x [] = inl refl
put_in-has x (y ∷ ys) =
    cond_both (nat_lt x y) (x ∷ y ∷ ys) (if x == y then y ∷ ys else y ∷ put_in x ys) (Member x)
    (λ _. inl refl)
    (λ _. cond_both (x == y) (y ∷ ys) (y ∷ put_in x ys) (Member x) (λ same. let e : x ≡ y = grind (arith, nat_tests) in inl (sym e)) (λ _. inr (put_in-has x ys)))

pub put_in-keeps : (x z : ℕ) (ys : List ℕ) → Member z ys → Member z (put_in x ys)
put_in-keeps x z [] m = absurd m
put_in-keeps x z (y ∷ ys) m =
    cond_both (nat_lt x y) (x ∷ y ∷ ys) (if x == y then y ∷ ys else y ∷ put_in x ys) (Member z)
    (λ _. inr m)
    (λ _. cond_both (x == y) (y ∷ ys) (y ∷ put_in x ys) (Member z) (λ _. m) (λ _. elim m [ inl e ↦ inl e | inr k ↦ inr (put_in-keeps x z ys k) ]))

put_later : (x y z : ℕ) (ys : List ℕ) → (x ≡ z) ⊎ Member z ys → (x ≡ z) ⊎ Member z (y ∷ ys)
put_later x y z ys (inl e) = inl e
put_later x y z ys (inr k) = inr (inr k)

pub put_in-adds_one : (x z : ℕ) (ys : List ℕ) → Member z (put_in x ys) → (x ≡ z) ⊎ Member z ys
put_in-adds_one x z [] m = m
put_in-adds_one x z (y ∷ ys) m =
    cond_both (nat_lt x y) (x ∷ y ∷ ys) (if x == y then y ∷ ys else y ∷ put_in x ys) (λ zs. Member z zs → (x ≡ z) ⊎ Member z (y ∷ ys))
    (λ _ k. k)
    (λ _. cond_both (x == y) (y ∷ ys) (y ∷ put_in x ys) (λ zs. Member z zs → (x ≡ z) ⊎ Member z (y ∷ ys)) (λ _ k. inr k)
    (λ _ k. elim k [ inl e ↦ inr (inl e) | inr l ↦ put_later x y z ys (put_in-adds_one x z ys l) ]))
    m

-- ---- ascending
pub rising_ascending : (fs : List ℕ) → Rising (ascending fs)
rising_ascending [] = tt
rising_ascending (f ∷ fs) = rising_put_in f (ascending fs) (rising_ascending fs)

pub ascending-keeps : (z : ℕ) (fs : List ℕ) → Member z fs → Member z (ascending fs)
ascending-keeps z [] m = absurd m
ascending-keeps z (f ∷ fs) (inl e) = subst (λ w. Member w (put_in f (ascending fs))) e (put_in-has f (ascending fs))
ascending-keeps z (f ∷ fs) (inr m) = put_in-keeps f z (ascending fs) (ascending-keeps z fs m)

pub ascending-adds_none : (z : ℕ) (fs : List ℕ) → Member z (ascending fs) → Member z fs
ascending-adds_none z [] m = absurd m
ascending-adds_none z (f ∷ fs) m = elim (put_in-adds_one f z (ascending fs) m) [ inl e ↦ inl e | inr k ↦ inr (ascending-adds_none z fs k) ]

-- ---- std's words
all_above : (x : ℕ) (ys : List ℕ) → AllByRecursion (λ y. nat_cmp x y ≡ Less) ys → Above x ys
all_above x [] h = tt
all_above x (y ∷ ys) h = let first : nat_cmp x y ≡ Less = h.0 in (grind (arith, nat_tests), all_above x ys h.1)

rising_from_sorted : (xs : List ℕ) → IsStrictlySortedBy nat_cmp xs → Rising xs
rising_from_sorted [] h = tt
rising_from_sorted (x ∷ xs) h = (all_above x xs (sorted_head nat_cmp x xs h), rising_from_sorted xs (sorted_tail nat_cmp x xs h))

pub rising_from : (xs : List ℕ) → IsStrictlyIncreasing xs → Rising xs
rising_from xs h = rising_from_sorted xs (sorted_from_strictly_increasing xs h)

member_at : (z k : ℕ) (xs : List ℕ) → k < length xs → get_or xs k z ≡ z → Member z xs
member_at z k [] h e = absurd (omega (arith, h))
member_at z zero (x ∷ xs) h e = inl e
member_at z (suc k) (x ∷ xs) h e = inr (member_at z k xs (omega (arith, h)) e)

pub member_from : (z : ℕ) (xs : List ℕ) → Contains xs z → Member z xs
member_from z xs c = member_at z c.0 xs c.1 c.2

pub member_to : (z : ℕ) (xs : List ℕ) → Member z xs → Contains xs z
member_to z [] m = absurd m
member_to z (x ∷ xs) (inl e) = (0, omega arith, e)
member_to z (x ∷ xs) (inr m) = let c = member_to z xs m in let h = c.1 in (suc c.0, omega (arith, h), c.2)

-- ---- ranks
rank-lower : (f x : ℕ) (xs : List ℕ) → x < f → rank f (x ∷ xs) ≡ suc (rank f xs)
rank-lower f x xs h = let b : nat_lt x f ≡ true = grind (arith, nat_tests) in ap (λ c. cond c (suc (rank f xs)) (rank f xs)) b

rank-upper : (f x : ℕ) (xs : List ℕ) → f ≤ x → rank f (x ∷ xs) ≡ rank f xs
rank-upper f x xs h = let b : nat_lt x f ≡ false = grind (arith, nat_tests) in ap (λ c. cond c (suc (rank f xs)) (rank f xs)) b

-- those before i are lower, the others are not
pub rank_is : (f : ℕ) (xs : List ℕ) (i : ℕ) → i ≤ length xs → ((k : ℕ) → k < i → get_or xs k 0 < f) → ((k : ℕ) → i ≤ k → k < length xs → f ≤ get_or xs k 0) → rank f xs ≡ i
rank_is f [] i h low high = omega (arith, h)
rank_is f (x ∷ xs) zero h low high =
    rank-upper f x xs (high 0 (omega arith) (omega arith))
    ∙ rank_is f xs zero (omega arith) (λ k l. absurd (omega (arith, l))) (λ k l m. high (suc k) (omega arith) (omega (arith, m)))
rank_is f (x ∷ xs) (suc i) h low high =
    rank-lower f x xs (low 0 (omega arith))
    ∙ ap suc (rank_is f xs i (omega (arith, h)) (λ k l. low (suc k) (omega (arith, l))) (λ k l m. high (suc k) (omega (arith, l)) (omega (arith, m))))

rank-none : (f : ℕ) (xs : List ℕ) → Above f xs → rank f xs ≡ 0
rank-none f [] h = refl
rank-none f (x ∷ xs) h = let first = h.0 in rank-upper f x xs (omega (arith, first)) ∙ rank-none f xs h.1

-- a member stands at its rank
pub rank_at : (f : ℕ) (xs : List ℕ) → Rising xs → Member f xs → (rank f xs < length xs) × (get_or xs (rank f xs) 0 ≡ f)
rank_at f [] r m = absurd m
rank_at f (x ∷ xs) r (inl e) =
    let none : rank f (x ∷ xs) ≡ 0 = rank-upper f x xs (omega (arith, e)) ∙ rank-none f xs (subst (λ w. Above w xs) e r.0) in
    (omega (arith, none), ap (λ i. get_or (x ∷ xs) i 0) none ∙ e)
rank_at f (x ∷ xs) r (inr m) =
    let more = rank-lower f x xs (above_member x f xs r.0 m) in
    let rest = rank_at f xs r.1 m in
    let below = rest.0 in
    (omega (arith, more, below), ap (λ i. get_or (x ∷ xs) i 0) more ∙ rest.1)

-- what a binary search finds
pub rank_found : (f : ℕ) (xs : List ℕ) → IsStrictlySortedBy nat_cmp xs → (r : Result ℕ ℕ) → IsBinarySearchResult (λ y. nat_cmp y f) xs r → MatchResult r (λ i. rank f xs ≡ i) (λ i. rank f xs ≡ i)
rank_found f xs sorted r h = by r (searched xs f r h (λ i j l m. non_decreasing_from_sorted xs sorted i j 0 l m))
  where
    by : (r : Result ℕ ℕ) → MatchResult r (λ i. (i < length xs) × (get_or xs i 0 ≡ f)) (λ i. (i ≤ length xs) × ((k : ℕ) → k < i → get_or xs k 0 < f) × ((k : ℕ) → i ≤ k → k < length xs → f < get_or xs k 0)) → MatchResult r (λ i. rank f xs ≡ i) (λ i. rank f xs ≡ i)
    by (Ok i) s =
        let bound = s.0 in
        rank_is f xs i (omega (arith, bound))
        (λ k l. subst (λ z. get_or xs k 0 < z) s.1 (below_from_sorted xs k i 0 sorted l s.0))
        (λ k l m. subst (λ z. z ≤ get_or xs k 0) s.1 (non_decreasing_from_sorted xs sorted i k 0 l m))
    by (Err i) s = rank_is f xs i s.0 s.1 (λ k l m. let above = s.2 k l m in omega (arith, above))

above_at : (y k : ℕ) (ys : List ℕ) → Above y ys → k < length ys → y < get_or ys k 0
above_at y k [] h l = absurd (omega (arith, l))
above_at y zero (z ∷ ys) h l = h.0
above_at y (suc k) (z ∷ ys) h l = above_at y k ys h.1 (omega (arith, l))

-- the rank of what stands at a place is the place
pub rank_of : (xs : List ℕ) (x : ℕ) → Rising xs → x < length xs → rank (get_or xs x 0) xs ≡ x
rank_of [] x r h = absurd (omega (arith, h))
rank_of (y ∷ ys) zero r h = rank-upper y y ys (omega arith) ∙ rank-none y ys r.0
rank_of (y ∷ ys) (suc k) r h =
    let l : k < length ys = omega (arith, h) in
    rank-lower (get_or ys k 0) y ys (above_at y k ys r.0 l) ∙ ap suc (rank_of ys k r.1 l)
