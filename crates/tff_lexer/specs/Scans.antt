-- The tokens of a text, each longest, and where no token begins.
use Rattle.std.specs.Prelude.{◌≡◌, ℕ, ◌+◌, ◌-◌, ◌<◌, ◌≤◌, IsTrue, List, [], ◌∷◌, length, take, drop, Option, Some, None, ⊤}
use Rattle.tff_lexer.specs.declared.spans.TokenKind.{TokenKind}
use Rattle.tff_lexer.specs.declared.spans.Token.{Token}
use Rattle.tff_lexer.specs.Forms.{is_token}
use Rattle.tff_lexer.specs.Blanks.{skip, skipped_length}

-- the first n bytes are a token of this kind, and no longer prefix is a token
pub record BeginsToken (text : List ℕ) (kind : TokenKind) (n : ℕ) : Type 0 where
  pub within : n ≤ length text
  pub token : IsTrue (is_token kind (take n text))
  pub longest : (m : ℕ) (other : TokenKind) → m ≤ length text → IsTrue (is_token other (take m text)) → m ≤ n

-- no prefix is a token
abbrev pub BeginsNoToken : List ℕ → Type 0
BeginsNoToken text = (m : ℕ) (kind : TokenKind) → m ≤ length text → ¬ IsTrue (is_token kind (take m text))

-- the kind and the length of the token that begins here, if one does
abbrev pub FirstToken : List ℕ → Option (TokenKind × ℕ) → Type 0
FirstToken text None = BeginsNoToken text
FirstToken text (Some (kind, n)) = BeginsToken text kind n

-- how many bytes a token has
abbrev pub token_length : Token → ℕ
token_length t = t.end - t.start

-- nothing is left, or no token begins at this place
abbrev pub StopsAt : ℕ → List ℕ → Option ℕ → Type 0
StopsAt at [] stop = stop ≡ None
StopsAt at (b ∷ bs) stop = BeginsNoToken (b ∷ bs) × (stop ≡ Some at)

-- The tokens of `rest`, which stands at byte `at` and begins with no white space and no comment: the first is the longest that
-- begins there, and the next ones are those behind it and the white space and comments that follow.
abbrev pub ScansAt : ℕ → List ℕ → List Token → Option ℕ → Type 0
ScansAt at rest [] stop = StopsAt at rest stop
ScansAt at rest (t ∷ ts) stop =
    (t.start ≡ at) × BeginsToken rest t.kind (token_length t) × ScansAt (t.end + skipped_length (drop (token_length t) rest)) (skip (drop (token_length t) rest)) ts stop

-- the tokens of a text, and the first byte at which none begins
abbrev pub Scans : List ℕ → List Token → Option ℕ → Type 0
Scans bytes tokens stop = ScansAt (skipped_length bytes) (skip bytes) tokens stop

-- the spans from byte `from` on: none is empty, none begins before the last one's end, none passes the end of the text
abbrev pub SpansAscend : ℕ → ℕ → List Token → Type 0
SpansAscend total from [] = from ≤ total
SpansAscend total from (t ∷ ts) = (from ≤ t.start) × (t.start < t.end) × SpansAscend total t.end ts

-- each token's bytes are a token of its kind
abbrev pub HaveForms : List ℕ → List Token → Type 0
HaveForms bytes [] = ⊤
HaveForms bytes (t ∷ ts) = IsTrue (is_token t.kind (take (token_length t) (drop t.start bytes))) × HaveForms bytes ts
