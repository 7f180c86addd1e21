-- Faults in the order of a text, each at a token that the trees name.
use Rattle.std.proofs.Common.{◌≡◌, ℕ, ◌+◌, ◌≤◌, ◌<◌, List, [], ◌∷◌, ◌++◌, arith, append_assoc, subst, ◌⊎◌, inl, inr}
use Rattle.std.specs.Prelude.{All}
use Rattle.std.specs.List.{AllPairs}
use Rattle.std.proofs.lemmas.List.Elements.{All-nil, All-cons}
use Rattle.std.proofs.lemmas.List.Kept.{AllPairs-cons}
use Rattle.tff_grammar.specs.declared.pieces.Piece.{Piece}
use Rattle.tff_grammar.specs.declared.pieces.Piece.TheVariants as piece
use Rattle.tff_grammar.specs.Text.{Leveleds}
use Rattle.tff_grammar.specs.FirstFault.{pieces_of}
use Rattle.tff_signature.specs.declared.faults.Later.{Later}
use Rattle.tff_signature.specs.Faults.{Faults}
use Rattle.tff_signature.proofs.TokenPlaces.{token_place, token_places, Rise, rise_sooner}

-- the faults stand at some of these places, in this order
abbrev pub AreAt : Faults → List ℕ → Type 0
AreAt [] ps = Unit {0}
AreAt (f ∷ fs) [] = ⊥
AreAt (f ∷ fs) (p ∷ ps) = ((f.at ≡ p) × AreAt fs ps) ⊎ AreAt (f ∷ fs) ps

-- the places of what is written
abbrev pub places : Leveleds → List ℕ
places ts = token_places (pieces_of ts)

pub passed : (fs : Faults) (p : ℕ) (ps : List ℕ) → AreAt fs ps → AreAt fs (p ∷ ps)
passed [] p ps h = tt
passed (f ∷ fs) p ps h = inr h

pub piece_passed : (p : Piece) (fs : Faults) (ps : List ℕ) → AreAt fs ps → AreAt fs (token_place p ps)
piece_passed (piece.Lower k s) fs ps h = passed fs s.start ps h
piece_passed (piece.Quoted s) fs ps h = passed fs s.start ps h
piece_passed (piece.Upper s) fs ps h = passed fs s.start ps h
piece_passed (piece.Numeral m) fs ps h = passed fs m.span.start ps h
piece_passed (piece.Operation o s) fs ps h = passed fs s.start ps h
piece_passed p fs ps h = h

-- what stands in front of other faults
pub before : (xs ys fs : Faults) (ps : List ℕ) → AreAt (xs ++ (ys ++ fs)) ps → AreAt ((xs ++ ys) ++ fs) ps
before xs ys fs ps h = rw append_assoc h

-- each stands at this byte or behind it, and before the next one
abbrev pub FaultsRise : ℕ → Faults → Type 0
FaultsRise from [] = Unit {0}
FaultsRise from (f ∷ fs) = (from ≤ f.at) × FaultsRise (f.at + 1) fs

pub faults_rise : (fs : Faults) (ps : List ℕ) (from : ℕ) → AreAt fs ps → Rise from ps → FaultsRise from fs
faults_rise [] ps from h r = tt
faults_rise (f ∷ fs) [] from h r = absurd h
faults_rise (f ∷ fs) (p ∷ ps) from (inl (e, h)) r = rw e (r.0, faults_rise fs ps (p + 1) h r.1)
faults_rise (f ∷ fs) (p ∷ ps) from (inr h) r = let x = r.0 in faults_rise (f ∷ fs) ps from h (rise_sooner from (p + 1) ps (omega (arith, x)) r.1)

all_behind : (from : ℕ) (fs : Faults) → FaultsRise from fs → All (λ g. from ≤ g.at) fs
all_behind from [] h = All-nil (λ g. from ≤ g.at)
all_behind from (f ∷ fs) h =
    let x = h.0 in
    All-cons (λ g. from ≤ g.at) f fs x (all_behind from fs (sooner from (f.at + 1) fs (omega (arith, x)) h.1))
  where
    sooner : (a b : ℕ) (gs : Faults) → a ≤ b → FaultsRise b gs → FaultsRise a gs
    sooner a b [] l h = tt
    sooner a b (g ∷ gs) l h = let y = h.0 in (omega (arith, l, y), h.1)

-- each stands in front of the later ones
pub pairs : (from : ℕ) (fs : Faults) → FaultsRise from fs → AllPairs (λ f g. f.at < g.at) fs
pairs from [] h = λ i j d l k. absurd (omega (arith, k))
pairs from (f ∷ fs) h =
    let all = all_behind (f.at + 1) fs h.1 in
    AllPairs-cons (λ f g. f.at < g.at) f fs (λ k d l. let x = all k d l in omega (arith, x)) (pairs (f.at + 1) fs h.1)

-- the first one stands in front of the others
pub first_least : (from : ℕ) (fs others : Faults) (first : Later) → fs ≡ first ∷ others → FaultsRise from fs → All (λ f. first.at < f.at) others
first_least from fs others first is h =
    let r : FaultsRise from (first ∷ others) = subst (FaultsRise from) is h in
    let all = all_behind (first.at + 1) others r.1 in
    λ k d l. let x = all k d l in omega (arith, x)
