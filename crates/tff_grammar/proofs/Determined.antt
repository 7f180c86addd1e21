-- A text has one answer.
use Rattle.std.proofs.Common.{◌≡◌, ℕ, zero, suc, ◌<◌, ◌≤◌, Bool, false, List, [], ◌∷◌, ◌++◌, length, Option, None, refl, sym, ap, subst, ◌∙◌, append_assoc, arith, ◌⊎◌, inl, inr}
use Rattle.std.specs.Prelude.{is_some, slice_get}
use Rattle.std.proofs.lemmas.List.{append-nil}
use Rattle.tff_lexer.specs.declared.spans.Token.{Token}
use Rattle.tff_grammar.specs.declared.faults.FaultName.{FaultName}
use Rattle.tff_grammar.specs.declared.faults.FaultName.TheVariants as n
use Rattle.tff_grammar.specs.declared.faults.Fault.{Fault}
use Rattle.tff_grammar.specs.declared.pieces.Piece.{Piece}
use Rattle.tff_grammar.specs.declared.pieces.Piece.TheVariants as piece
use Rattle.tff_grammar.specs.declared.trees.Statement.{Statement}
use Rattle.tff_grammar.specs.Grammar.{FileTree}
use Rattle.tff_grammar.specs.Text.{file_text}
use Rattle.tff_grammar.specs.FirstFault.{GoesOn, Spells, rank, FaultAt, IsFirst}
use Rattle.tff_grammar.specs.FirstFault as first
use Rattle.tff_grammar.specs.Pieces.{ArePieces}
use Rattle.tff_grammar.specs.Answer.{IsText, IsFirstFault, end_place, byte_of}
use Rattle.tff_grammar.proofs.Walks.{goes_front}
use Rattle.tff_grammar.proofs.Answering.{OneScan, pieces_one, text_gives, whole_same}

-- ---- the names have different ranks

name_of : ℕ → FaultName
name_of zero = n.Lex
name_of (suc zero) = n.Unsupported
name_of (suc (suc zero)) = n.Language
name_of (suc (suc (suc zero))) = n.TwoConjectures
name_of (suc (suc (suc (suc zero)))) = n.TooDeep
name_of (suc (suc (suc (suc (suc zero))))) = n.NumberTooWide
name_of (suc (suc (suc (suc (suc (suc i)))))) = n.Syntax

named : (a : FaultName) → name_of (rank a) ≡ a
unfolding name_of
named n.Lex = refl
named n.Unsupported = refl
named n.Language = refl
named n.TwoConjectures = refl
named n.TooDeep = refl
named n.NumberTooWide = refl
named n.Syntax = refl

rank_same : (a b : FaultName) → rank a ≡ rank b → a ≡ b
rank_same a b e = sym (named a) ∙ ap name_of e ∙ named b

-- ---- one first fault

first_one : (ps : List Piece) (stopped : Bool) (at at' : ℕ) (name name' : FaultName) → IsFirst ps stopped at name → IsFirst ps stopped at' name' → (at ≡ at') × (name ≡ name')
first_one ps stopped at at' name name' a b = by (a.first at' name' b.fault) (b.first at name a.fault)
  where
    by : (at < at') ⊎ ((at ≡ at') × (rank name ≤ rank name')) → (at' < at) ⊎ ((at' ≡ at) × (rank name' ≤ rank name)) → (at ≡ at') × (name ≡ name')
    by (inl l) (inl r) = absurd (omega (arith, l, r))
    by (inl l) (inr (e, r)) = absurd (omega (arith, l, e))
    by (inr (e, r)) (inl l) = absurd (omega (arith, l, e))
    by (inr (e, r)) (inr (i, s)) = (e, rank_same name name' (omega (arith, r, s)))

abbrev fault_of : FaultName → ℕ → Option Token → Fault
fault_of name at token = record { name = name; at = at; token = token }

fault_parts : (a b : FaultName) (i j : ℕ) (t u : Option Token) → a ≡ b → i ≡ j → t ≡ u → fault_of a i t ≡ fault_of b j u
fault_parts a b i j t u x y z = ap (λ (name : FaultName). fault_of name i t) x ∙ ap (λ (at : ℕ). fault_of b at t) y ∙ ap (fault_of b j) z

fault_is : (f g : Fault) → f.name ≡ g.name → f.at ≡ g.at → f.token ≡ g.token → f ≡ g
fault_is f g a b c = fault_parts f.name g.name f.at g.at f.token g.token a b c

pub one_fault : OneScan → (bytes : List ℕ) (f g : Fault) → IsFirstFault bytes f → IsFirstFault bytes g → f ≡ g
one_fault one bytes f g x y =
    let (same, ends) = one bytes x.tokens y.tokens x.stop y.stop x.scanned y.scanned in
    let classified = subst (λ (ts : List Token). ArePieces bytes ts x.pieces) same x.classified in
    let pieces : x.pieces ≡ y.pieces = pieces_one bytes y.tokens x.pieces y.pieces classified y.classified in
    let a = subst (λ (qs : List Piece). IsFirst qs (is_some x.stop) x.at f.name) pieces x.first in
    let b = subst (λ (o : Option ℕ). IsFirst y.pieces (is_some o) x.at f.name) ends a in
    let (at, name) = first_one y.pieces (is_some y.stop) x.at y.at f.name g.name b y.first in
    let token : f.token ≡ g.token = x.token ∙ ap (λ (ts : List Token). slice_get ts x.at) same ∙ ap (slice_get y.tokens) at ∙ sym y.token in
    let place : f.at ≡ g.at = x.place ∙ ap (λ (o : Option ℕ). byte_of (end_place (length bytes) o) f.token) ends ∙ ap (byte_of (end_place (length bytes) y.stop)) token ∙ sym y.place in
    fault_is f g name place token

-- ---- a text has no fault

no_fault : (ps : List Piece) (file : FileTree) (at : ℕ) (name : FaultName) → Spells file ps → FaultAt ps false at name → ⊥
no_fault ps file at name s = by goes
  where
    goes : GoesOn ps
    goes = (file, s.faultless, record { before = file_text file; behind = []; split = sym (append-nil (file_text file)); spelled = s.spelled })

    by : GoesOn ps → FaultAt ps false at name → ⊥
    by g (first.stuck front left p split l h none fits) = none (goes_front (front ++ p ∷ []) left (rw append_assoc (rw split at g)))
    by g (first.argument front mid left split l h none is) = none (goes_front (front ++ piece.Truth ∷ mid) left (rw append_assoc (rw split at g)))
    by g (first.no_token stopped l h is) = absurd cc
    by g (first.too_early stopped l h none is) = none (file, s)

pub no_fault_of_text : OneScan → (bytes : List ℕ) (ss : List Statement) (f : Fault) → IsText bytes ss → IsFirstFault bytes f → ⊥
no_fault_of_text one bytes ss f x y =
    let (same, ends) = one bytes y.tokens x.tokens y.stop None y.scanned x.scanned in
    let classified = subst (λ (ts : List Token). ArePieces bytes ts y.pieces) same y.classified in
    let pieces : y.pieces ≡ x.pieces = pieces_one bytes x.tokens y.pieces x.pieces classified x.classified in
    let a = subst (λ (qs : List Piece). IsFirst qs (is_some y.stop) y.at f.name) pieces y.first in
    let b = subst (λ (o : Option ℕ). IsFirst x.pieces (is_some o) y.at f.name) ends a in
    no_fault x.pieces x.file.file y.at f.name x.file.spells b.fault

pub one_text : OneScan → (bytes : List ℕ) (a b : List Statement) → IsText bytes a → IsText bytes b → a ≡ b
one_text one bytes a b x y =
    let i = text_gives one bytes x.tokens None x.pieces a x.scanned x.classified x in
    let j = text_gives one bytes x.tokens None x.pieces b x.scanned x.classified y in
    whole_same a b (sym i.1 ∙ j.1)
