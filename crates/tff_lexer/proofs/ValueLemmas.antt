-- The number that digits stand for grows with each digit.
use Rattle.std.proofs.Common.{◌≡◌, ℕ, suc, ◌+◌, ◌-◌, ◌*◌, ◌^◌, ◌<◌, ◌≤◌, List, [], ◌∷◌, ◌++◌, length, take, drop, get_or, append_assoc, append-nil, arith, length-append, take-append-drop}
use Rattle.std.proofs.Math.Nat.{pow-suc}
use Rattle.std.proofs.lemmas.List.{take_more}
use Rattle.tff_lexer.specs.Values.{digits_value}

rearranged : (d p v c : ℕ) → d * (p * 10) + (10 * v + c) ≡ 10 * (d * p + v) + c
rearranged d p v c = omega arith

-- one more digit
pub digits_value-push : (xs : List ℕ) (b : ℕ) → digits_value (xs ++ b ∷ []) ≡ 10 * digits_value xs + (b - 48)
digits_value-push [] b = omega arith
digits_value-push (x ∷ xs) b =
    let n : length (xs ++ b ∷ []) ≡ suc (length xs) = omega (arith, length-append xs (b ∷ [])) in
    rw (n, pow-suc, digits_value-push xs b) (rearranged (x - 48) (10 ^ length xs) (digits_value xs) (b - 48))

-- more digits make no smaller number
pub digits_value-append : (xs ys : List ℕ) → digits_value xs ≤ digits_value (xs ++ ys)
digits_value-append xs [] = rw append-nil (omega arith)
digits_value-append xs (y ∷ ys) =
    let more : digits_value (xs ++ y ∷ []) ≤ digits_value ((xs ++ y ∷ []) ++ ys) = digits_value-append (xs ++ y ∷ []) ys in
    let e : (xs ++ y ∷ []) ++ ys ≡ xs ++ (y ∷ ys) = append_assoc xs (y ∷ []) ys in
    let more' : digits_value (xs ++ y ∷ []) ≤ digits_value (xs ++ (y ∷ ys)) = rw e at more in
    omega (arith, digits_value-push xs y)

-- one more digit of a list
pub digits_value-more : (xs : List ℕ) (i d : ℕ) → i < length xs → digits_value (take (i + 1) xs) ≡ 10 * digits_value (take i xs) + (get_or xs i d - 48)
digits_value-more xs i d h = rw (take_more xs i d h) (digits_value-push (take i xs) (get_or xs i d))

-- and it is at most the whole
pub digits_value-least : (xs : List ℕ) (i d : ℕ) → i < length xs → 10 * digits_value (take i xs) + (get_or xs i d - 48) ≤ digits_value xs
digits_value-least xs i d h =
    let all : digits_value (take (i + 1) xs) ≤ digits_value (take (i + 1) xs ++ drop (i + 1) xs) = digits_value-append (take (i + 1) xs) (drop (i + 1) xs) in
    let all' : digits_value (take (i + 1) xs) ≤ digits_value xs = rw take-append-drop at all in
    omega (arith, digits_value-more xs i d h)
