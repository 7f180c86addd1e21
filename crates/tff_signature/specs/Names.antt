-- The names that words stand for.
use Rattle.std.specs.Prelude.{ℕ, ◌-◌, Bool, nat_eq, List, [], ◌∷◌, ◌++◌, length, take, drop, fold, if◌then◌else◌}
use Rattle.std.specs.Cmp.Lexicographic.{pointwise}
use Rattle.std.specs.List.{list_any, position_or_len}
use Rattle.tff_lexer.specs.Forms.{is_lower}
use Rattle.tff_grammar.specs.declared.pieces.Span.{Span}
use Rattle.tff_grammar.specs.declared.trees.Word.{Word}
use Rattle.tff_grammar.specs.declared.trees.Word.TheVariants as word
use Rattle.tff_grammar.specs.Pieces.{bytes_at}

-- a name is its bytes
abbrev pub Name : Type 0
Name = List ℕ

-- two names are one
abbrev pub same_name : Name → Name → Bool
same_name = pointwise nat_eq

-- what stands between the quotes
abbrev pub unquoted : List ℕ → List ℕ
unquoted text = take (length text - 2) (drop 1 text)

-- A quoted word whose content is a lower word has the name of that word. Any other has its quotes in its name.
abbrev pub quoted_name : List ℕ → Name
quoted_name text = if is_lower (unquoted text) then unquoted text else text

-- the name of a word
abbrev pub name_of : List ℕ → Word → Name
name_of text (word.Lower s) = bytes_at text s
name_of text (word.Quoted s) = quoted_name (bytes_at text s)

-- where a word stands
abbrev pub span_of : Word → Span
span_of (word.Lower s) = s
span_of (word.Quoted s) = s

-- a name is one of these
abbrev pub is_among : List Name → Name → Bool
is_among names name = list_any (same_name name) names

-- a name is added behind those before it, where it isn't among them
abbrev pub add_name : List Name → Name → List Name
add_name names name = if is_among names name then names else names ++ name ∷ []

-- each name once, in the order of first places
abbrev pub by_first_place : List Name → List Name
by_first_place names = fold add_name [] names

-- the place of a name among these, from 0; their number, where it isn't one of them
abbrev pub number_of : List Name → Name → ℕ
number_of names name = position_or_len (same_name name) names
