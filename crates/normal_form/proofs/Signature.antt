-- Symbols that stand at their places in a signature.
use Rattle.std.proofs.Common.{◌≡◌, ℕ, zero, suc, ◌+◌, List, [], ◌∷◌, ◌++◌, length, Some, refl, subst, slice_get, append_assoc, length-append, arith}
use Rattle.term_base.specs.declared.symbols.Symbol.{Symbol}

-- the symbols stand in the signature, from a number on
abbrev pub StandsAt : List Symbol → ℕ → List Symbol → Type 0
StandsAt signature n [] = Unit {0}
StandsAt signature n (s ∷ ss) = (slice_get signature n ≡ Some s) × StandsAt signature (n + 1) ss

get_between : (before : List Symbol) (s : Symbol) (after : List Symbol) → slice_get (before ++ s ∷ after) (length before) ≡ Some s
get_between [] s after = refl
get_between (b ∷ before) s after = get_between before s after

pub stands_between : (before ss after : List Symbol) → StandsAt (before ++ (ss ++ after)) (length before) ss
stands_between before [] after = tt
stands_between before (s ∷ ss) after =
    let rest = stands_between (before ++ s ∷ []) ss after in
    let whole : before ++ s ∷ [] ++ (ss ++ after) ≡ before ++ (s ∷ (ss ++ after)) = append_assoc before (s ∷ []) (ss ++ after) in
    let more : length (before ++ s ∷ []) ≡ length before + 1 = length-append before (s ∷ []) in
    let here : (List Symbol) → Type 0 = λ l. StandsAt l (length before + 1) ss in
    let there : ℕ → Type 0 = λ n. StandsAt (before ++ s ∷ [] ++ (ss ++ after)) n ss in
    (get_between before s (ss ++ after), subst here whole (subst there more rest))

pub stands_first : (signature xs ys : List Symbol) (n : ℕ) → StandsAt signature n (xs ++ ys) → StandsAt signature n xs
stands_first signature [] ys n h = tt
stands_first signature (x ∷ xs) ys n h = (h.0, stands_first signature xs ys (n + 1) h.1)

pub stands_second : (signature xs ys : List Symbol) (n : ℕ) → StandsAt signature n (xs ++ ys) → StandsAt signature (n + length xs) ys
stands_second signature [] ys n h = let e : n ≡ n + 0 = omega arith in subst (λ (k : ℕ). StandsAt signature k ys) e h
stands_second signature (x ∷ xs) ys n h =
    let e : n + 1 + length xs ≡ n + suc (length xs) = omega arith in
    subst (λ (k : ℕ). StandsAt signature k ys) e (stands_second signature xs ys (n + 1) h.1)

get_first : (xs ys : List Symbol) (n : ℕ) (s : Symbol) → slice_get xs n ≡ Some s → slice_get (xs ++ ys) n ≡ Some s
get_first [] ys n s h = absurd (cc)
get_first (x ∷ xs) ys zero s h = h
get_first (x ∷ xs) ys (suc n) s h = get_first xs ys n s h

-- one signature has each symbol of another at its number
abbrev pub Extends : List Symbol → List Symbol → Type 0
Extends larger smaller = (n : ℕ) (s : Symbol) → slice_get smaller n ≡ Some s → slice_get larger n ≡ Some s

pub extends_append : (xs ys : List Symbol) → Extends (xs ++ ys) xs
extends_append xs ys n s h = get_first xs ys n s h
