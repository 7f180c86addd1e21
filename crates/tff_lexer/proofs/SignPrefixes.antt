-- The longest prefixes that are signs.
use Rattle.std.proofs.Common.{◌≡◌, ℕ, zero, suc, ◌<◌, ◌≤◌, Bool, true, false, ◌||◌, ◌==◌, cond, nat_eq, nat_le, List, [], ◌∷◌, length, take, refl, sym, ap, subst, inl, inr, arith, length-take, length-take-le, codes, if◌then◌else◌}
use Rattle.std.specs.List.{list_all, list_any, starts_with}
use Rattle.std.proofs.lemmas.Bool.{false≢true, and_parts, and_from, or_cases, leb-true, eqb-true, ne_eqb, cond_both}
use lib.Pointwise.{pointwise, bytes_decides}
use Rattle.tff_lexer.specs.Forms.{begins_with, is_one_of, signs, is_sign}
use Rattle.tff_lexer.specs.Prefixes.{IsLongestPrefix}

-- the length of the longest sign, by the first bytes
abbrev pub sign_size : List ℕ → ℕ
sign_size [] = 0
sign_size (b ∷ bs) =
    if b == 60 then (if begins_with "=>" bs || begins_with "~>" bs then 3 else if begins_with "=" bs then 2 else 0)
    else if b == 61 then (if begins_with ">" bs || begins_with ">" bs then 2 else 1)
    else if b == 126 then (if begins_with "&" bs || begins_with "|" bs then 2 else 1)
    else if b == 33 then (if begins_with "=" bs || begins_with ">" bs then 2 else 1)
    else if is_one_of "()[],.:&|?*>" b then 1
    else 0

-- what holds of each sign holds of a text that is one
pub among_signs : (q : List ℕ → Bool) (ss : List (List ℕ)) (t : List ℕ) → list_all q ss ≡ true → list_any (λ s. pointwise nat_eq s t) ss ≡ true → q t ≡ true
among_signs q [] t all any = absurd (false≢true any)
among_signs q (s ∷ ss) t all any =
    let parts = and_parts (q s) (list_all q ss) all in
    elim (or_cases (pointwise nat_eq s t) (list_any (λ r. pointwise nat_eq r t) ss) any) [
      | inl e ↦ subst (λ r. q r ≡ true) ((bytes_decides s t).0 e) parts.0
      | inr e ↦ among_signs q ss t parts.1 e
    ]

sign_bound : (t : List ℕ) → is_sign t ≡ true → length t ≤ sign_size t
sign_bound t h = leb-true (length t) (sign_size t) (among_signs (λ s. nat_le (length s) (sign_size s)) signs t refl h)

-- a word that a prefix begins with begins the text
starts_prefix : (ws : List ℕ) (k : ℕ) (bs : List ℕ) → starts_with nat_eq (take k bs) ws ≡ true → starts_with nat_eq bs ws ≡ true
starts_prefix [] k bs h = refl
starts_prefix (w ∷ ws) zero bs h = absurd (false≢true h)
starts_prefix (w ∷ ws) (suc k) [] h = absurd (false≢true h)
starts_prefix (w ∷ ws) (suc k) (c ∷ cs) h =
    let parts = and_parts (nat_eq w c) (starts_with nat_eq (take k cs) ws) h in
    and_from (nat_eq w c) (starts_with nat_eq cs ws) parts.0 (starts_prefix ws k cs parts.1)

or_more : (a b a' b' : Bool) → (a' ≡ true → a ≡ true) → (b' ≡ true → b ≡ true) → (a' || b') ≡ true → (a || b) ≡ true
or_more a b true b' f g h = rw (f refl) refl
or_more true b false b' f g h = refl
or_more false b false b' f g h = g h

two_le : (a a' : Bool) → (a' ≡ true → a ≡ true) → cond a' 2 1 ≤ cond a 2 1
two_le true true f = omega arith
two_le true false f = omega arith
two_le false true f = absurd (false≢true (f refl))
two_le false false f = omega arith

three_le : (a c a' c' : Bool) → (a' ≡ true → a ≡ true) → (c' ≡ true → c ≡ true) → cond a' 3 (cond c' 2 0) ≤ cond a 3 (cond c 2 0)
three_le true c true c' f g = omega arith
three_le false c true c' f g = absurd (false≢true (f refl))
three_le true c false true f g = omega arith
three_le true c false false f g = omega arith
three_le false true false true f g = omega arith
three_le false false false true f g = absurd (false≢true (g refl))
three_le false true false false f g = omega arith
three_le false false false false f g = omega arith

cond_le : (v : Bool) (x' y' x y : ℕ) → x' ≤ x → y' ≤ y → cond v x' y' ≤ cond v x y
cond_le true x' y' x y f g = f
cond_le false x' y' x y f g = g

-- a prefix begins with no longer sign than the text
sign_size_prefix : (m : ℕ) (text : List ℕ) → sign_size (take m text) ≤ sign_size text
sign_size_prefix zero text = omega arith
sign_size_prefix (suc m) [] = omega arith
sign_size_prefix (suc m) (b ∷ bs) =
    let more : (ws : List ℕ) → starts_with nat_eq (take m bs) ws ≡ true → starts_with nat_eq bs ws ≡ true = λ ws. starts_prefix ws m bs in
    let has : List ℕ → Bool = λ ws. starts_with nat_eq bs ws in
    let had : List ℕ → Bool = λ ws. starts_with nat_eq (take m bs) ws in
    let both : (v w : List ℕ) → (had v || had w) ≡ true → (has v || has w) ≡ true = λ v w. or_more (has v) (has w) (had v) (had w) (more v) (more w) in
    cond_le (b == 60) _ _ _ _ (three_le (has (codes "=>") || has (codes "~>")) (has (codes "=")) (had (codes "=>") || had (codes "~>")) (had (codes "=")) (both (codes "=>") (codes "~>")) (more (codes "=")))
    (cond_le (b == 61) _ _ _ _ (two_le (has (codes ">") || has (codes ">")) (had (codes ">") || had (codes ">")) (both (codes ">") (codes ">")))
    (cond_le (b == 126) _ _ _ _ (two_le (has (codes "&") || has (codes "|")) (had (codes "&") || had (codes "|")) (both (codes "&") (codes "|")))
    (cond_le (b == 33) _ _ _ _ (two_le (has (codes "=") || has (codes ">")) (had (codes "=") || had (codes ">")) (both (codes "=") (codes ">")))
    (omega arith))))

-- n bytes of the text are there, and are a sign where n isn't 0
abbrev IsSignPrefix : List ℕ → ℕ → Type 0
IsSignPrefix text n = (n ≤ length text) × (0 < n → is_sign (take n text) ≡ true)

-- a byte, and a word behind it
spelled : (b : ℕ) (ws : List ℕ) (bs : List ℕ) → is_sign (b ∷ ws) ≡ true → starts_with nat_eq bs ws ≡ true → IsSignPrefix (b ∷ bs) (suc (length ws))
spelled b ws bs sign h =
    let e : ws ≡ take (length ws) bs = (bytes_decides ws (take (length ws) bs)).0 h in
    (omega (arith, ap length e, length-take (length ws) bs), λ p. subst (λ t. is_sign (b ∷ t) ≡ true) e sign)

alone : (b : ℕ) (bs : List ℕ) → is_sign (b ∷ []) ≡ true → IsSignPrefix (b ∷ bs) 1
alone b bs sign = (omega arith, λ p. sign)

nothing : (text : List ℕ) → IsSignPrefix text 0
nothing text = (omega arith, λ p. absurd (omega arith))

or_spelled : (b : ℕ) (v w : List ℕ) (bs : List ℕ) → is_sign (b ∷ v) ≡ true → is_sign (b ∷ w) ≡ true → length v ≡ length w → (starts_with nat_eq bs v || starts_with nat_eq bs w) ≡ true → IsSignPrefix (b ∷ bs) (suc (length v))
or_spelled b v w bs p q same h =
    elim (or_cases (starts_with nat_eq bs v) (starts_with nat_eq bs w) h) [ inl e ↦ spelled b v bs p e | inr e ↦ rw same (spelled b w bs q e) ]

-- what holds of each byte of a list holds of one that is there
among_bytes : (q : ℕ → Bool) (cs : List ℕ) (b : ℕ) → list_all q cs ≡ true → list_any (λ c. c == b) cs ≡ true → q b ≡ true
among_bytes q [] b all any = absurd (false≢true any)
among_bytes q (c ∷ cs) b all any =
    let parts = and_parts (q c) (list_all q cs) all in
    elim (or_cases (c == b) (list_any (λ d. d == b) cs) any) [
      | inl e ↦ subst (λ d. q d ≡ true) (eqb-true c b e) parts.0
      | inr e ↦ among_bytes q cs b parts.1 e
    ]

sign_is_prefix : (text : List ℕ) → IsSignPrefix text (sign_size text)
sign_is_prefix [] = nothing []
sign_is_prefix (b ∷ bs) =
    let P : ℕ → Type 0 = λ n. IsSignPrefix (b ∷ bs) n in
    let at : (c : ℕ) (n : ℕ) → IsSignPrefix (c ∷ bs) n → (b == c) ≡ true → P n = λ c n f e. subst (λ d. IsSignPrefix (d ∷ bs) n) (sym (eqb-true b c e)) f in
    let one_or_two : (c : ℕ) (v : Bool) → is_sign (c ∷ []) ≡ true → (v ≡ true → IsSignPrefix (c ∷ bs) 2) → IsSignPrefix (c ∷ bs) (cond v 2 1) = λ c v single two. cond_both v 2 1 (λ n. IsSignPrefix (c ∷ bs) n) two (λ e. alone c bs single) in
    cond_both (b == 60) _ _ P (at 60 _ (cond_both (begins_with "=>" bs || begins_with "~>" bs) 3 (cond (begins_with "=" bs) 2 0) (λ n. IsSignPrefix (60 ∷ bs) n)
    (or_spelled 60 (codes "=>") (codes "~>") bs refl refl refl)
    (λ e. cond_both (begins_with "=" bs) 2 0 (λ n. IsSignPrefix (60 ∷ bs) n) (spelled 60 (codes "=") bs refl) (λ f. nothing (60 ∷ bs)))))
    (λ e60. cond_both (b == 61) _ _ P (at 61 _ (one_or_two 61 (begins_with ">" bs || begins_with ">" bs) refl (or_spelled 61 (codes ">") (codes ">") bs refl refl refl)))
    (λ e61. cond_both (b == 126) _ _ P (at 126 _ (one_or_two 126 (begins_with "&" bs || begins_with "|" bs) refl (or_spelled 126 (codes "&") (codes "|") bs refl refl refl)))
    (λ e126. cond_both (b == 33) _ _ P (at 33 _ (one_or_two 33 (begins_with "=" bs || begins_with ">" bs) refl (or_spelled 33 (codes "=") (codes ">") bs refl refl refl)))
    (λ e33. cond_both (is_one_of "()[],.:&|?*>" b) 1 0 P (λ e. alone b bs (among_bytes (λ c. is_sign (c ∷ [])) (codes "()[],.:&|?*>") b refl e)) (λ e. nothing (b ∷ bs))))))

pub sign_prefix : (text : List ℕ) → IsLongestPrefix is_sign text (sign_size text)
sign_prefix text = record {
  within = (sign_is_prefix text).0;
  passes = (sign_is_prefix text).1;
  longest = λ m h t. let k = sign_bound (take m text) t in omega (arith, k, sign_size_prefix m text, length-take-le m text h);
}

-- the same, by the first byte and what follows
module _ (text rest : List ℕ) (b n : ℕ) (split : text ≡ b ∷ rest) where
  pub sign_at : (c : ℕ) → b ≡ c → n ≡ sign_size (c ∷ rest) → IsLongestPrefix is_sign text n
  sign_at c e token_length = rw (token_length, split, e) (sign_prefix (c ∷ rest))

  pub sign_else : (b ≡ 60 → ⊥) → (b ≡ 61 → ⊥) → (b ≡ 126 → ⊥) → (b ≡ 33 → ⊥) → n ≡ cond (is_one_of "()[],.:&|?*>" b) 1 0 → IsLongestPrefix is_sign text n
  sign_else d60 d61 d126 d33 token_length =
      let e : sign_size (b ∷ rest) ≡ n = rw (ne_eqb b 60 d60, ne_eqb b 61 d61, ne_eqb b 126 d126, ne_eqb b 33 d33) (sym token_length) in
      rw (split, ← e) (sign_prefix (b ∷ rest))
