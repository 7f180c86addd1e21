-- A text has one scan.
use Rattle.std.proofs.Common.{◌≡◌, ℕ, ◌+◌, ◌<◌, ◌≤◌, true, List, [], ◌∷◌, take, drop, Option, refl, sym, ap, ◌∙◌, subst, arith}
use Rattle.tff_lexer.specs.declared.spans.Token.{Token}
use Rattle.tff_lexer.specs.Forms.{is_token}
use Rattle.tff_lexer.specs.Blanks.{skip, skipped_length}
use Rattle.tff_lexer.specs.Scans.{BeginsToken, token_length, StopsAt, ScansAt, Scans}
use Rattle.tff_lexer.proofs.OneKind.{one_kind}
use Rattle.tff_lexer.proofs.Scanning.{some_byte}

same_token : (t u : Token) → t.kind ≡ u.kind → t.start ≡ u.start → t.«end» ≡ u.«end» → t ≡ u
same_token t u k s e = rw (k, s, e) refl

one_stop : (at : ℕ) (rest : List ℕ) (s u : Option ℕ) → StopsAt at rest s → StopsAt at rest u → s ≡ u
one_stop at [] s u a b = a ∙ sym b
one_stop at (x ∷ rest) s u a b = a.1 ∙ sym b.1

stop_or_token : (at : ℕ) (rest : List ℕ) (s : Option ℕ) (t : Token) → StopsAt at rest s → BeginsToken rest t.kind (token_length t) → ⊥
stop_or_token at [] s t a b = let some = some_byte [] t.kind (token_length t) b in omega (arith, some, b.within)
stop_or_token at (x ∷ rest) s t a b = a.0 (token_length t) t.kind b.within b.token

one_token : (rest : List ℕ) (t v : Token) → t.start ≡ v.start → BeginsToken rest t.kind (token_length t) → BeginsToken rest v.kind (token_length v) → t ≡ v
one_token rest t v starts a b =
    let low : token_length v ≤ token_length t = a.longest (token_length v) v.kind b.within b.token in
    let high : token_length t ≤ token_length v = b.longest (token_length t) t.kind a.within a.token in
    let sizes : token_length t ≡ token_length v = omega arith in
    let some : 0 < token_length t = some_byte rest t.kind (token_length t) a in
    let kinds : t.kind ≡ v.kind = one_kind (take (token_length v) rest) t.kind v.kind (subst (λ n. is_token t.kind (take n rest) ≡ true) sizes a.token) b.token in
    same_token t v kinds starts (omega arith)

one_at : (xs ys : List Token) (at : ℕ) (rest : List ℕ) (s u : Option ℕ) → ScansAt at rest xs s → ScansAt at rest ys u → (xs ≡ ys) × (s ≡ u)
one_at [] [] at rest s u a b = (refl, one_stop at rest s u a b)
one_at [] (v ∷ ys) at rest s u a b = absurd (stop_or_token at rest s v a b.1)
one_at (t ∷ xs) [] at rest s u a b = absurd (stop_or_token at rest u t b a.1)
one_at (t ∷ xs) (v ∷ ys) at rest s u a b =
    let same : t ≡ v = one_token rest t v (a.0 ∙ sym b.0) a.1 b.1 in
    let more = one_at xs ys (t.«end» + skipped_length (drop (token_length t) rest)) (skip (drop (token_length t) rest)) s u a.2 (subst (λ w. ScansAt (w.«end» + skipped_length (drop (token_length w) rest)) (skip (drop (token_length w) rest)) ys u) (sym same) b.2) in
    (ap (λ (x : Token). x ∷ xs) same ∙ ap (λ (x : List Token). v ∷ x) more.0, more.1)

pub one_scan : (bytes : List ℕ) (first second : List Token) (stop other : Option ℕ) → Scans bytes first stop → Scans bytes second other → (first ≡ second) × (stop ≡ other)
one_scan bytes first second stop other a b = one_at first second (skipped_length bytes) (skip bytes) stop other a b
