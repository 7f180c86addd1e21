-- White space and comments: what stands between tokens. A blank is a white-space byte or a comment.
use Rattle.std.specs.Prelude.{◌≡◌, ◌≢◌, ◌⊎◌, ℕ, zero, suc, ◌-◌, Bool, not, ◌||◌, ◌==◌, IsTrue, List, [], ◌∷◌, ◌++◌, length, drop, Option, Some, None, ⊤, if◌then◌else◌, codes}
use Rattle.std.specs.List.{concat, list_all}
use Rattle.tff_lexer.specs.Forms.{begins_with}

-- ---- which bytes are a blank

-- the white-space bytes
abbrev pub is_white_space : ℕ → Bool
is_white_space b = b == 9 || b == 10 || b == 13 || b == 32

-- no byte ends a line
abbrev pub has_no_newline : List ℕ → Bool
has_no_newline line = list_all (λ b. not (b == 10)) line

-- nowhere does `*/` begin
abbrev pub HasNoStarSlash : List ℕ → Type 0
HasNoStarSlash text = (before after : List ℕ) → text ≢ before ++ (codes "*/" ++ after)

-- one white-space byte
abbrev pub IsWhiteSpace : List ℕ → Type 0
IsWhiteSpace blank = (b : ℕ) × IsTrue (is_white_space b) × (blank ≡ b ∷ [])

-- `%` and a line without its end, then byte 10 or the end of the text; `rest` is what follows
abbrev pub IsCommentLine : List ℕ → List ℕ → Type 0
IsCommentLine blank rest = (line : List ℕ) × IsTrue (has_no_newline line) × ((blank ≡ codes "%" ++ line ++ codes "\n") ⊎ ((blank ≡ codes "%" ++ line) × (rest ≡ [])))

-- `/*`, then bytes up to the first `*/`, and this
abbrev pub IsCommentBlock : List ℕ → Type 0
IsCommentBlock blank = (inside : List ℕ) × HasNoStarSlash (inside ++ codes "*") × (blank ≡ codes "/*" ++ inside ++ codes "*/")

-- one white-space byte or one comment, where `rest` follows
abbrev pub IsBlank : List ℕ → List ℕ → Type 0
IsBlank blank rest = IsWhiteSpace blank ⊎ (IsCommentLine blank rest ⊎ IsCommentBlock blank)

-- these are blanks, one after the other, and `rest` follows them
abbrev pub AreBlanks : List (List ℕ) → List ℕ → Type 0
AreBlanks [] rest = ⊤
AreBlanks (blank ∷ blanks) rest = IsBlank blank (concat blanks ++ rest) × AreBlanks blanks rest

-- the text begins with no blank
abbrev pub BeginsNoBlank : List ℕ → Type 0
BeginsNoBlank text = (blank rest : List ℕ) → text ≡ blank ++ rest → ¬ IsBlank blank rest

-- ---- what follows them

-- what follows the end of the line, which is byte 10 or the end of the text
abbrev pub after_comment_line : List ℕ → List ℕ
after_comment_line [] = []
after_comment_line (b ∷ bs) = if b == 10 then bs else after_comment_line bs

-- what follows the first `*/`, where there is one
abbrev pub after_comment_block : List ℕ → Option (List ℕ)
after_comment_block [] = None
after_comment_block (b ∷ bs) = if begins_with "*/" (b ∷ bs) then Some (drop 1 bs) else after_comment_block bs

-- what follows the blank that the text begins with, if it does
abbrev pub after_blank : List ℕ → Option (List ℕ)
after_blank [] = None
after_blank (b ∷ bs) =
    if is_white_space b then Some bs
    else if b == 37 then Some (after_comment_line bs)
    else if begins_with "/*" (b ∷ bs) then after_comment_block (drop 1 bs)
    else None

-- goes on behind a blank, and stops where there is none
abbrev pub skip_on : (List ℕ → List ℕ) → List ℕ → Option (List ℕ) → List ℕ
skip_on again bytes (Some rest) = again rest
skip_on again bytes None = bytes

-- what follows the blanks that the text begins with, of which at most this many are passed over
abbrev pub skip_times : ℕ → List ℕ → List ℕ
skip_times zero bytes = bytes
skip_times (suc n) bytes = skip_on (skip_times n) bytes (after_blank bytes)

-- what follows all blanks that the text begins with
abbrev pub skip : List ℕ → List ℕ
skip bytes = skip_times (length bytes) bytes

-- how many bytes those are
abbrev pub skipped_length : List ℕ → ℕ
skipped_length bytes = length bytes - length (skip bytes)
