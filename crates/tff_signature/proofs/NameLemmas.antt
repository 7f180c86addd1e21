-- Tests and places in lists of names, as an index holds the names.
use Rattle.std.proofs.Common.{◌≡◌, ℕ, ◌+◌, ◌≤◌, Bool, true, false, cond, not, ◌||◌, List, [], ◌∷◌, ◌++◌, map, length, refl, ap, sym, ◌∙◌, arith}
use Rattle.std.specs.Prelude.{nat_lt, position, Option, Some, None, MatchOption, if◌then◌else◌}
use Rattle.std.specs.List.{list_any, position_or_len}
use Rattle.std.proofs.lemmas.Bool.Decides.{nat_tests}
use Rattle.std.proofs.lemmas.List.{length-map, map-append}
use Rattle.std.proofs.lemmas.List.Sums.{prefix_len-le-length}
use Rattle.indexmap.specs.IndexSet.{insert_key}
use Rattle.tff_signature.specs.Names.{same_name, add_name}

pub any_map : {A B : Type 0} (f : A → B) (p : B → Bool) (xs : List A) → list_any p (map f xs) ≡ list_any (λ x. p (f x)) xs
any_map f p [] = refl
any_map f p (x ∷ xs) = ap (λ b. p (f x) || b) (any_map f p xs)

pub place_map : {A B : Type 0} (f : A → B) (p : B → Bool) (xs : List A) → position_or_len p (map f xs) ≡ position_or_len (λ x. p (f x)) xs
place_map f p [] = refl
place_map f p (x ∷ xs) = ap (λ n. cond (not (p (f x))) (1 + n) 0) (place_map f p xs)

-- what `get_index_of` tells
number_cond : (b : Bool) (m n : ℕ) → (b ≡ false → m ≡ n) → MatchOption (cond b (Some m) None) (m ≡ n) (λ k. k ≡ m)
number_cond true m n h = refl
number_cond false m n h = h refl

-- the place is the length where it isn't below it
at_length : (m n : ℕ) → m ≤ n → nat_lt m n ≡ false → m ≡ n
at_length m n h k = grind (arith, nat_tests)

pub number_is : {A B : Type 0} (f : A → B) (p : B → Bool) (xs : List A) (o : Option ℕ) → o ≡ position (λ x. p (f x)) xs
    → MatchOption o (position_or_len p (map f xs) ≡ length (map f xs)) (λ k. k ≡ position_or_len p (map f xs))
number_is f p xs o h =
    let q : ℕ = position_or_len (λ x. p (f x)) xs in
    rw (place_map f p xs, length-map xs f, h) (number_cond (nat_lt q (length xs)) q (length xs) (at_length q (length xs) (prefix_len-le-length (λ x. not (p (f x))) xs)))

added : {A : Type 0} (f : A → List ℕ) (b : Bool) (keys : List A) (v : A) → map f (if b then keys else keys ++ v ∷ []) ≡ (if b then map f keys else map f keys ++ f v ∷ [])
added f true keys v = refl
added f false keys v = map-append f keys (v ∷ [])

-- what `insert` does to the names
pub add_is : {A : Type 0} (f : A → List ℕ) (keys : List A) (v : A) → map f (insert_key (λ x y. same_name (f x) (f y)) keys v) ≡ add_name (map f keys) (f v)
add_is f keys v = added f (list_any (λ k. same_name (f v) (f k)) keys) keys v ∙ ap (λ b. if b then map f keys else map f keys ++ f v ∷ []) (sym (any_map f (same_name (f v)) keys))
