-- A scan goes on by one token.
use Rattle.std.proofs.Common.{◌≡◌, ℕ, zero, suc, ◌+◌, ◌-◌, ◌<◌, ◌≤◌, List, [], ◌∷◌, ◌++◌, length, drop, Option, refl, sym, ap, ◌∙◌, subst, append_assoc, append-nil, arith, length-drop}
use Rattle.std.proofs.lemmas.Bool.{false≢true}
use Rattle.tff_lexer.specs.declared.spans.TokenKind.{TokenKind}
use Rattle.tff_lexer.specs.declared.spans.Token.{Token}
use Rattle.tff_lexer.specs.Blanks.{skip, skipped_length}
use Rattle.tff_lexer.specs.Scans.{BeginsToken, StopsAt, ScansAt, Scans}
use Rattle.tff_lexer.proofs.FirstBytes.{no_empty}

-- a token has a byte or more
pub some_byte : (text : List ℕ) (k : TokenKind) (n : ℕ) → BeginsToken text k n → 0 < n
some_byte text k zero f = absurd (false≢true (sym (no_empty k) ∙ f.token))
some_byte text k (suc n) f = omega arith

-- what the loop keeps: a scan of what is left goes on the one that was made
pub record ScansSo (bytes rest : List ℕ) (made : List Token) : Type 0 where
  pub within : length rest ≤ length bytes
  pub scans : (ts : List Token) (stop : Option ℕ) → ScansAt (length bytes - length rest) rest ts stop → Scans bytes (made ++ ts) stop

pub scans_first : (bytes rest : List ℕ) (made : List Token) → rest ≡ skip bytes → length rest ≤ length bytes → made ≡ [] → ScansSo bytes rest made
scans_first bytes rest made is within none = record {
  within = within;
  scans = λ ts stop h. rw none (subst (λ r. ScansAt (length bytes - length r) r ts stop) is h);
}

pub scans_next : (bytes rest next : List ℕ) (made made' : List Token) (kind : TokenKind) (n : ℕ) → ScansSo bytes rest made → BeginsToken rest kind n → next ≡ skip (drop n rest) → length next ≤ length (drop n rest) → made' ≡ made ++ record { kind = kind; start = length bytes - length rest; «end» = length bytes - length rest + n } ∷ [] → ScansSo bytes next made'
scans_next bytes rest next made made' kind n so token is within pushed = record {
  within = omega (arith, so.within, left);
  scans = λ ts stop h. rw (pushed, append_assoc) (so.scans (t ∷ ts) stop (refl, subst (BeginsToken rest kind) (sym length_is) token, goes ts stop h));
}
  where
    at : ℕ
    at = length bytes - length rest

    left : length next ≤ length rest - n
    left = omega (arith, within, length-drop n rest)

    t : Token
    t = record { kind = kind; start = at; «end» = at + n }

    length_is : at + n - at ≡ n
    length_is = omega arith

    goes : (ts : List Token) (stop : Option ℕ) → ScansAt (length bytes - length next) next ts stop → ScansAt (at + n + skipped_length (drop (at + n - at) rest)) (skip (drop (at + n - at) rest)) ts stop
    goes ts stop h =
        let place : at + n + skipped_length (drop n rest) ≡ length bytes - length next = omega (arith, so.within, token.within, within, ap length is, length-drop n rest) in
        subst (λ k. ScansAt (at + n + skipped_length (drop k rest)) (skip (drop k rest)) ts stop) (sym length_is)
        (subst (λ p. ScansAt p (skip (drop n rest)) ts stop) (sym place) (subst (λ r. ScansAt (length bytes - length next) r ts stop) is h))

pub scans_end : (bytes rest : List ℕ) (made : List Token) (stop : Option ℕ) → ScansSo bytes rest made → StopsAt (length bytes - length rest) rest stop → Scans bytes made stop
scans_end bytes rest made stop so stops = subst (λ ts. Scans bytes ts stop) (append-nil made) (so.scans [] stop stops)
