-- Several reads and writes in a row, at bytes that are told or not.
use Rattle.std.proofs.Common.{ℕ, ◌+◌, ◌-◌, ◌≤◌, ◌≡◌, List, [], ◌∷◌, ◌++◌, length, take, drop, sym, ap, ◌∙◌, append-nil, arith, length-append, IfSome, Some, None, Option}
use Rattle.std.specs.Io.KnownBytes.{Appends, Consumes}
use Rattle.std.proofs.lemmas.Grind.{common_steps}
use Rattle.std.proofs.Math.Seq.{take-add, drop-append_seam}
use Rattle.std.proofs.lemmas.List.{take_rest}

-- one write after another
pub appends_more : (a b c : Option (List ℕ)) (xs ys : List ℕ) → Appends a b xs → Appends b c ys → Appends a c (xs ++ ys)
appends_more None b c xs ys first then = tt
appends_more (Some held) None c xs ys first then = absurd first
appends_more (Some held) (Some more) None xs ys first then = absurd then
appends_more (Some held) (Some more) (Some most) xs ys first then = grind (arith, common_steps)

-- a piece of the bytes after their front
pub appends_next : (a b c : Option (List ℕ)) (bytes : List ℕ) (i n : ℕ) → Appends a b (take i bytes) → Appends b c (take n (take (length bytes - i) (drop i bytes))) → Appends a c (take (i + n) bytes)
appends_next a b c bytes i n first then =
    rw (take-add i n bytes) (appends_more a b c (take i bytes) (take n (drop i bytes)) first (rw (take_rest bytes i) at then))

-- one read after another
pub consumes_more : (a b c : Option (List ℕ)) (xs ys : List ℕ) → Consumes a b xs → Consumes b c ys → Consumes a c (xs ++ ys)
consumes_more None b c xs ys first then = tt
consumes_more (Some told) None c xs ys first then = absurd first
consumes_more (Some told) (Some rest) None xs ys first then = absurd then
consumes_more (Some told) (Some rest) (Some last) xs ys first then = grind (arith, common_steps)

-- nothing read at first
pub consumes_none : (a : Option (List ℕ)) → Consumes a a []
consumes_none None = tt
consumes_none (Some told) = grind (arith, common_steps)

-- what is left after a read: the told bytes without their front
pub left_after : (a b : Option (List ℕ)) (xs : List ℕ) → Consumes a b xs → IfSome a (λ bytes. b ≡ Some (drop (length xs) bytes))
left_after None b xs read = tt
left_after (Some told) None xs read = absurd read
left_after (Some told) (Some rest) xs read = ap Some (sym (ap (drop (length xs)) read ∙ drop-append_seam xs rest))

-- a read is no longer than what was told
pub told_as_long : (a b : Option (List ℕ)) (xs : List ℕ) (n : ℕ) → Consumes a b xs → n ≤ length xs → IfSome a (λ bytes. n ≤ length bytes)
told_as_long None b xs n read longer = tt
told_as_long (Some told) None xs n read longer = absurd read
told_as_long (Some told) (Some rest) xs n read longer = omega (arith, ap length read, length-append xs rest)

-- what is left after a read of at most n bytes
pub left_within : (a b : Option (List ℕ)) (xs : List ℕ) (n : ℕ) → Consumes a b xs → length xs ≤ n → IfSome a (λ bytes. (k : ℕ) × (k ≤ n) × (b ≡ Some (drop k bytes)))
left_within None b xs n read shorter = tt
left_within (Some told) b xs n read shorter = (length xs, shorter, left_after (Some told) b xs read)

-- a read to the end gave all that was told
pub whole_read : (a b c : Option (List ℕ)) (xs ys : List ℕ) → Consumes a b xs → Consumes b c ys → length ys ≡ 0 → IfSome b (λ bytes. bytes ≡ []) → IfSome a (λ bytes. xs ++ ys ≡ bytes)
whole_read None b c xs ys first then none end = tt
whole_read (Some told) None c xs ys first then none end = absurd first
whole_read (Some told) (Some rest) c xs [] first then none end = append-nil xs ∙ sym (first ∙ ap (λ r. xs ++ r) end ∙ append-nil xs)
whole_read (Some told) (Some rest) c xs (y ∷ ys) first then none end = absurd (omega arith)

-- and nothing is left
pub none_left : (a b c : Option (List ℕ)) (xs ys : List ℕ) → Consumes a b xs → Consumes b c ys → IfSome b (λ bytes. bytes ≡ []) → IfSome a (λ _. c ≡ Some [])
none_left None b c xs ys first then end = tt
none_left (Some told) None c xs ys first then end = absurd first
none_left (Some told) (Some rest) None xs ys first then end = absurd then
none_left (Some told) (Some rest) (Some last) xs [] first then end = ap Some (sym then ∙ end)
none_left (Some told) (Some rest) (Some last) xs (y ∷ ys) first then end = absurd (omega (arith, ap length (sym then ∙ end)))
