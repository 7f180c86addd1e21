-- Annotations with square brackets open.
use Rattle.std.proofs.Common.{◌≡◌, ℕ, zero, suc, ◌+◌, ◌-◌, List, [], ◌∷◌, refl, sym, ap, ◌∙◌, arith, add-one}
use Rattle.tff_grammar.specs.declared.pieces.Sign.TheVariants.{OpenRound, CloseRound, OpenSquare, CloseSquare}
use Rattle.tff_grammar.specs.declared.pieces.Piece.{Piece}
use Rattle.tff_grammar.specs.declared.pieces.Piece.TheVariants as piece
use Rattle.tff_grammar.specs.declared.faults.Stop.{Stop}
use Rattle.tff_grammar.specs.declared.faults.Stop.TheVariants as stops
use Rattle.tff_grammar.specs.declared.faults.FaultName.TheVariants as names
use Rattle.tff_grammar.specs.declared.annotations.Note.TheVariants as note
use Rattle.tff_grammar.specs.Notes.{note_of}
use Rattle.tff_grammar.specs.Machine.{Stack, levels, Values, go, Reads, Stops, StopsAt, refusal, plain_name}
use Rattle.tff_grammar.specs.Machine as m

-- what must come where so many square brackets are open
abbrev pub nested : ℕ → Stack → Stack
nested zero k = m.notes ∷ k
nested (suc n) k = m.notes ∷ m.sign CloseSquare ∷ nested n k

-- behind a front of annotations with so many square brackets open
abbrev pub Inside : ℕ → ℕ → List Piece → List Piece → Type 0
Inside squares level tokens rest = (k : Stack) (vs : Values) → levels k ≡ level → go (m.notes ∷ k) vs tokens ≡ go (nested squares k) vs rest

pub nested_levels : (n : ℕ) (k : Stack) → levels (nested n k) ≡ levels k
nested_levels zero k = refl
nested_levels (suc n) k = nested_levels n k

-- ---- what a token does there

pub note_goes : (n level : ℕ) (tokens rest after : List Piece) (p : Piece) → Inside n level tokens rest → rest ≡ p ∷ after → note_of p ≡ note.Other → Inside n level tokens after
note_goes n level tokens rest after p r e h = λ k vs at. r k vs at ∙ ap (go (nested n k) vs) e ∙ on n k vs
  where
    at_top : (q : Piece) (j : Stack) (vs : Values) → note_of q ≡ note.Other → go (m.notes ∷ j) vs (q ∷ after) ≡ go (m.notes ∷ j) vs after
    at_top (piece.Sign OpenRound) j vs x = absurd cc
    at_top (piece.Sign CloseRound) j vs x = absurd cc
    at_top (piece.Sign OpenSquare) j vs x = absurd cc
    at_top (piece.Sign CloseSquare) j vs x = absurd cc
    at_top piece.WideNumeral j vs x = absurd cc
    at_top q j vs x = refl

    on : (i : ℕ) (k : Stack) (vs : Values) → go (nested i k) vs (p ∷ after) ≡ go (nested i k) vs after
    on zero k vs = at_top p k vs h
    on (suc i) k vs = at_top p (m.sign CloseSquare ∷ nested i k) vs h

pub is_open_round : (p : Piece) → note_of p ≡ note.OpenRound → p ≡ piece.Sign OpenRound
is_open_round (piece.Sign OpenRound) h = refl
is_open_round (piece.Sign CloseRound) h = absurd cc
is_open_round (piece.Sign OpenSquare) h = absurd cc
is_open_round (piece.Sign CloseSquare) h = absurd cc
is_open_round piece.WideNumeral h = absurd cc
is_open_round p h = absurd cc

is_open_square : (p : Piece) → note_of p ≡ note.OpenSquare → p ≡ piece.Sign OpenSquare
is_open_square (piece.Sign OpenSquare) h = refl
is_open_square (piece.Sign OpenRound) h = absurd cc
is_open_square (piece.Sign CloseRound) h = absurd cc
is_open_square (piece.Sign CloseSquare) h = absurd cc
is_open_square piece.WideNumeral h = absurd cc
is_open_square p h = absurd cc

is_close_square : (p : Piece) → note_of p ≡ note.CloseSquare → p ≡ piece.Sign CloseSquare
is_close_square (piece.Sign CloseSquare) h = refl
is_close_square (piece.Sign OpenRound) h = absurd cc
is_close_square (piece.Sign CloseRound) h = absurd cc
is_close_square (piece.Sign OpenSquare) h = absurd cc
is_close_square piece.WideNumeral h = absurd cc
is_close_square p h = absurd cc

is_close_round : (p : Piece) → note_of p ≡ note.CloseRound → p ≡ piece.Sign CloseRound
is_close_round (piece.Sign CloseRound) h = refl
is_close_round (piece.Sign OpenRound) h = absurd cc
is_close_round (piece.Sign OpenSquare) h = absurd cc
is_close_round (piece.Sign CloseSquare) h = absurd cc
is_close_round piece.WideNumeral h = absurd cc
is_close_round p h = absurd cc

is_wide : (p : Piece) → note_of p ≡ note.Wide → p ≡ piece.WideNumeral
is_wide piece.WideNumeral h = refl
is_wide (piece.Sign OpenRound) h = absurd cc
is_wide (piece.Sign CloseRound) h = absurd cc
is_wide (piece.Sign OpenSquare) h = absurd cc
is_wide (piece.Sign CloseSquare) h = absurd cc
is_wide p h = absurd cc

pub square_opens : (n level : ℕ) (tokens rest after : List Piece) (p : Piece) → Inside n level tokens rest → rest ≡ p ∷ after → note_of p ≡ note.OpenSquare → Inside (n + 1) level tokens after
square_opens n level tokens rest after p r e h = λ k vs at. r k vs at ∙ ap (go (nested n k) vs) (e ∙ ap (λ (q : Piece). q ∷ after) (is_open_square p h)) ∙ on n k vs ∙ ap (λ (i : ℕ). go (nested i k) vs after) (sym (add-one n))
  where
    on : (i : ℕ) (k : Stack) (vs : Values) → go (nested i k) vs (piece.Sign OpenSquare ∷ after) ≡ go (nested (suc i) k) vs after
    on zero k vs = refl
    on (suc i) k vs = refl

pub square_closes : (n level : ℕ) (tokens rest after : List Piece) (p : Piece) → (n ≡ 0 → ⊥) → Inside n level tokens rest → rest ≡ p ∷ after → note_of p ≡ note.CloseSquare → Inside (n - 1) level tokens after
square_closes zero level tokens rest after p some r e h = absurd (some refl)
square_closes (suc n) level tokens rest after p some r e h = λ k vs at.
    r k vs at ∙ ap (go (nested (suc n) k) vs) (e ∙ ap (λ (q : Piece). q ∷ after) (is_close_square p h)) ∙ ap (λ (i : ℕ). go (nested i k) vs after) same
  where
    same : n ≡ suc n - 1
    same = omega arith

-- a round bracket and what stands in it
pub round_goes : (n level : ℕ) (tokens rest behind : List Piece) → Inside n level tokens rest → Reads (m.notes ∷ []) [] (m.notes ∷ []) [] level rest behind → Inside n level tokens behind
round_goes n level tokens rest behind r s = λ k vs at. r k vs at ∙ on n k vs (nested_levels n k ∙ at)
  where
    on : (i : ℕ) (k : Stack) (vs : Values) → levels (nested i k) ≡ level → go (nested i k) vs rest ≡ go (nested i k) vs behind
    on zero k vs at = s k vs at
    on (suc i) k vs at = s (m.sign CloseSquare ∷ nested i k) vs at

pub round_stops : (n level : ℕ) (tokens rest : List Piece) (e : Stop) → Inside n level tokens rest → Stops (m.notes ∷ []) [] level rest e → Stops (m.notes ∷ []) [] level tokens e
round_stops n level tokens rest stops.Memory r s = tt
round_stops n level tokens rest (stops.Fault f) r s = λ k vs at. r k vs at ∙ on n k vs (nested_levels n k ∙ at)
  where
    on : (i : ℕ) (k : Stack) (vs : Values) → levels (nested i k) ≡ level → go (nested i k) vs rest ≡ m.fault f
    on zero k vs at = s k vs at
    on (suc i) k vs at = s (m.sign CloseSquare ∷ nested i k) vs at

-- ---- where it ends

pub square_ends : (n level : ℕ) (tokens rest after : List Piece) (p : Piece) → n ≡ 0 → Inside n level tokens rest → rest ≡ p ∷ after → note_of p ≡ note.CloseSquare → Reads (m.notes ∷ []) [] [] [] level tokens rest
square_ends n level tokens rest after p none r e h = λ k vs at. (rw none at r) k vs at ∙ rw (e, is_close_square p h) refl

pub round_ends : (n level : ℕ) (tokens rest after : List Piece) (p : Piece) → n ≡ 0 → Inside n level tokens rest → rest ≡ p ∷ after → note_of p ≡ note.CloseRound → Reads (m.notes ∷ []) [] [] [] level tokens rest
round_ends n level tokens rest after p none r e h = λ k vs at. (rw none at r) k vs at ∙ rw (e, is_close_round p h) refl

pub text_ends : (n level : ℕ) (tokens rest : List Piece) → n ≡ 0 → Inside n level tokens rest → rest ≡ [] → Reads (m.notes ∷ []) [] [] [] level tokens rest
text_ends n level tokens rest none r e = λ k vs at. (rw none at r) k vs at ∙ rw e refl

-- the bracket of a square one is still to come
pub round_refused : (n level : ℕ) (tokens rest after : List Piece) (p : Piece) (e : Stop) → (n ≡ 0 → ⊥) → Inside n level tokens rest → rest ≡ p ∷ after → note_of p ≡ note.CloseRound
    → e ≡ refusal (plain_name level) rest → Stops (m.notes ∷ []) [] level tokens e
round_refused zero level tokens rest after p e some r is h x = absurd (some refl)
round_refused (suc n) level tokens rest after p e some r is h x =
    rw x (λ k vs at. r k vs at ∙ rw (is, is_close_round p h) refl)

pub end_refused : (n level : ℕ) (tokens rest : List Piece) (e : Stop) → (n ≡ 0 → ⊥) → Inside n level tokens rest → rest ≡ [] → e ≡ refusal (plain_name level) rest → Stops (m.notes ∷ []) [] level tokens e
end_refused zero level tokens rest e some r is x = absurd (some refl)
end_refused (suc n) level tokens rest e some r is x = rw x (λ k vs at. r k vs at ∙ rw is refl)

pub wide_refused : (n level : ℕ) (tokens rest after : List Piece) (p : Piece) (e : Stop) → Inside n level tokens rest → rest ≡ p ∷ after → note_of p ≡ note.Wide
    → e ≡ refusal (plain_name level) rest → Stops (m.notes ∷ []) [] level tokens e
wide_refused n level tokens rest after p e r is h x = rw x (λ k vs at. r k vs at ∙ rw (is, is_wide p h) (on n k vs))
  where
    on : (i : ℕ) (k : Stack) (vs : Values) → go (nested i k) vs (piece.WideNumeral ∷ after) ≡ m.fault_at names.NumberTooWide (piece.WideNumeral ∷ after)
    on zero k vs = refl
    on (suc i) k vs = refl
