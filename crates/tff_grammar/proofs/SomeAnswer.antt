-- Each text that has a scan has an answer.
use Rattle.std.proofs.Common.{◌≡◌, ℕ, ◌-◌, List, length, Option, Some, None, refl, ap, ◌∙◌, inl, inr}
use Rattle.std.specs.Prelude.{slice_get}
use Rattle.tff_lexer.specs.declared.spans.Token.{Token}
use Rattle.tff_lexer.specs.Scans.{Scans}
use Rattle.tff_grammar.specs.declared.faults.Found.{Found}
use Rattle.tff_grammar.specs.declared.faults.Fault.{Fault}
use Rattle.tff_grammar.specs.declared.pieces.Piece.{Piece}
use Rattle.tff_grammar.specs.declared.trees.Statement.{Statement}
use Rattle.tff_grammar.specs.Meaning.{file_of}
use Rattle.tff_grammar.specs.Machine.{Values, Outcome, whole, fault, read}
use Rattle.tff_grammar.specs.Pieces.{pieces_at, ArePieces}
use Rattle.tff_grammar.specs.Answer.{IsText, IsFirstFault, HasAnswer, end_place, byte_of, name_there, IsThere}
use Rattle.tff_grammar.proofs.Classified.{pieces_are}
use Rattle.tff_grammar.proofs.Texts.{read_text}
use Rattle.tff_grammar.proofs.Answering.{is_text, fault_text, stop_text}

-- ---- what reading them gives

the_fault : (total : ℕ) (tokens : List Token) (stop : Option ℕ) (found : Found) → (f : Fault) × IsThere total tokens stop found f
the_fault total tokens stop found =
    let token : Option Token = slice_get tokens (length tokens - found.left) in
    (record { name = name_there stop token found.name; at = byte_of (end_place total stop) token; token = token }, record { token = refl; place = refl; name = refl })

whole_answer : (bytes : List ℕ) (tokens : List Token) (stop : Option ℕ) (ps : List Piece) (v : Values) → Scans bytes tokens stop → ArePieces bytes tokens ps → read ps ≡ whole v → HasAnswer bytes
whole_answer bytes tokens None ps v scan are e = let r = read_text ps v e in inl (file_of r.file, is_text bytes tokens ps (file_of r.file) scan are (e ∙ ap whole r.gives))
whole_answer bytes tokens (Some at) ps v scan are e = inr (_, stop_text bytes tokens at ps v scan are e)

answer : (bytes : List ℕ) (tokens : List Token) (stop : Option ℕ) (ps : List Piece) (o : Outcome) → Scans bytes tokens stop → ArePieces bytes tokens ps → read ps ≡ o → HasAnswer bytes
answer bytes tokens stop ps (whole v) scan are e = whole_answer bytes tokens stop ps v scan are e
answer bytes tokens stop ps (fault found) scan are e =
    let (f, there) = the_fault (length bytes) tokens stop found in
    inr (f, fault_text bytes tokens stop ps found f scan are e there)

pub some_answer : (bytes : List ℕ) (tokens : List Token) (stop : Option ℕ) → Scans bytes tokens stop → HasAnswer bytes
some_answer bytes tokens stop scan = let ps : List Piece = pieces_at bytes tokens in answer bytes tokens stop ps (read ps) scan (pieces_are bytes tokens) refl
