-- What is left of a text is its end; each token's bytes are a token of its kind, and the spans ascend.
use Rattle.std.proofs.Common.{◌≡◌, ℕ, ◌+◌, ◌-◌, ◌<◌, ◌≤◌, true, List, [], ◌∷◌, length, take, drop, Option, Some, refl, sym, ap, ◌∙◌, subst, arith, length-drop, length-append, drop-drop, drop_at}
use Rattle.std.proofs.lemmas.Option.{none-some, same_Some}
use Rattle.tff_lexer.specs.declared.spans.Token.{Token}
use Rattle.std.specs.List.{concat}
use Rattle.tff_lexer.specs.Forms.{is_token}
use Rattle.tff_lexer.specs.Blanks.{skip, skipped_length}
use Rattle.tff_lexer.specs.Scans.{BeginsToken, token_length, ScansAt, Scans, SpansAscend, HaveForms, BeginsNoToken}
use Rattle.tff_lexer.proofs.SkippedBlanks.{skipped}
use Rattle.tff_lexer.proofs.Scanning.{some_byte}

-- what is left is the end of the text
abbrev Ends : List ℕ → List ℕ → Type 0
Ends bs rest = (length rest ≤ length bs) × (drop (length bs - length rest) bs ≡ rest)

ends_drop : (n : ℕ) (bs : List ℕ) → n ≤ length bs → Ends bs (drop n bs)
ends_drop n bs h = let e : length bs - length (drop n bs) ≡ n = omega (arith, length-drop n bs) in (omega (arith, length-drop n bs), rw e refl)

ends_on : (xs ys zs : List ℕ) → Ends xs ys → Ends ys zs → Ends xs zs
ends_on xs ys zs h k =
    let e : length xs - length zs ≡ (length xs - length ys) + (length ys - length zs) = omega (arith, h.0, k.0) in
    (omega (arith, h.0, k.0), rw e (sym (drop-drop (length ys - length zs) (length xs - length ys) xs) ∙ ap (drop (length ys - length zs)) h.1 ∙ k.1))

skip_ends : (bs : List ℕ) → Ends bs (skip bs)
skip_ends bs =
    let (blanks, are, is) = skipped bs in
    let size : length bs ≡ length (concat blanks) + length (skip bs) = ap length is ∙ length-append (concat blanks) (skip bs) in
    (omega (arith, size), ap (drop (length bs - length (skip bs))) is ∙ drop_at (concat blanks) (skip bs) (length bs - length (skip bs)) (omega (arith, size)))

-- what is left behind a token and the blanks that follow it
abbrev rest_behind : Token → List ℕ → List ℕ
rest_behind t rest = skip (drop (token_length t) rest)

-- it is the end of the text, and stands at the place where the scan goes on
abbrev GoesOn : List ℕ → List ℕ → Token → Type 0
GoesOn bytes rest t = Ends bytes (rest_behind t rest) × (t.«end» + skipped_length (drop (token_length t) rest) ≡ length bytes - length (rest_behind t rest))

goes_on : (bytes rest : List ℕ) (at : ℕ) (t : Token) → Ends bytes rest → at ≡ length bytes - length rest → t.start ≡ at → BeginsToken rest t.kind (token_length t) → GoesOn bytes rest t
goes_on bytes rest at t ends is start token =
    let some : 0 < token_length t = some_byte rest t.kind (token_length t) token in
    let after : List ℕ = drop (token_length t) rest in
    let left : Ends rest (skip after) = ends_on rest after (skip after) (ends_drop (token_length t) rest token.within) (skip_ends after) in
    (ends_on bytes rest (skip after) ends left, omega (arith, start, is, ends.0, token.within, some, length-drop (token_length t) rest, (skip_ends after).0))

forms_at : (bytes rest : List ℕ) (at : ℕ) (ts : List Token) (stop : Option ℕ) → Ends bytes rest → at ≡ length bytes - length rest → ScansAt at rest ts stop → HaveForms bytes ts
forms_at bytes rest at [] stop ends is scan = tt
forms_at bytes rest at (t ∷ ts) stop ends is scan =
    let next = goes_on bytes rest at t ends is scan.0 scan.1 in
    let rest_is : drop t.start bytes ≡ rest = ap (λ n. drop n bytes) (scan.0 ∙ is) ∙ ends.1 in
    (subst (λ r. is_token t.kind (take (token_length t) r) ≡ true) (sym rest_is) scan.1.token, forms_at bytes (rest_behind t rest) _ ts stop next.0 next.1 scan.2)

pub token_texts : (bytes : List ℕ) (tokens : List Token) (stop : Option ℕ) → Scans bytes tokens stop → HaveForms bytes tokens
token_texts bytes tokens stop scan = forms_at bytes (skip bytes) (skipped_length bytes) tokens stop (skip_ends bytes) refl scan

none_at : (bytes rest : List ℕ) (at place : ℕ) (ts : List Token) → Ends bytes rest → at ≡ length bytes - length rest → ScansAt at rest ts (Some place) → BeginsNoToken (drop place bytes)
none_at bytes [] at place [] ends is scan = absurd (none-some place (sym scan))
none_at bytes (b ∷ rest) at place [] ends is (none, e) = subst BeginsNoToken (sym (ap (λ n. drop n bytes) (same_Some place at e ∙ is) ∙ ends.1)) none
none_at bytes rest at place (t ∷ ts) ends is scan = let next = goes_on bytes rest at t ends is scan.0 scan.1 in none_at bytes (rest_behind t rest) _ place ts next.0 next.1 scan.2

pub stop_text : (bytes : List ℕ) (tokens : List Token) (place : ℕ) → Scans bytes tokens (Some place) → BeginsNoToken (drop place bytes)
stop_text bytes tokens place scan = none_at bytes (skip bytes) (skipped_length bytes) place tokens (skip_ends bytes) refl scan

spans_weaken : (l a b : ℕ) (ts : List Token) → a ≤ b → SpansAscend l b ts → SpansAscend l a ts
spans_weaken l a b [] h s = omega arith
spans_weaken l a b (t ∷ ts) h s = (omega (arith, s.0), s.1, s.2)

spans_at : (bytes rest : List ℕ) (at : ℕ) (ts : List Token) (stop : Option ℕ) → Ends bytes rest → at ≡ length bytes - length rest → ScansAt at rest ts stop → SpansAscend (length bytes) at ts
spans_at bytes rest at [] stop ends is scan = omega (arith, is)
spans_at bytes rest at (t ∷ ts) stop ends is scan =
    let some : 0 < token_length t = some_byte rest t.kind (token_length t) scan.1 in
    let next = goes_on bytes rest at t ends is scan.0 scan.1 in
    let more = spans_at bytes (rest_behind t rest) _ ts stop next.0 next.1 scan.2 in
    (omega (arith, scan.0), omega (arith, some), spans_weaken (length bytes) t.«end» _ ts (omega arith) more)

pub ascending_spans : (bytes : List ℕ) (tokens : List Token) (stop : Option ℕ) → Scans bytes tokens stop → SpansAscend (length bytes) 0 tokens
ascending_spans bytes tokens stop scan = spans_weaken (length bytes) 0 (skipped_length bytes) tokens (omega arith) (spans_at bytes (skip bytes) (skipped_length bytes) tokens stop (skip_ends bytes) refl scan)
