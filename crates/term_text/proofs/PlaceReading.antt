-- How places are read.
use Rattle.std.proofs.Common.{◌≡◌, ℕ, Bool, List, [], ◌∷◌, ◌++◌, refl, sym, subst}
use Rattle.std.specs.Prelude.{codes, ◌==◌}
use Rattle.term_base.specs.declared.places.Side.{Side}
use Rattle.term_base.specs.declared.places.Side.TheVariants.{Left, Right}
use Rattle.text_pieces.specs.Decimals.{is_digit}
use Rattle.text_pieces.specs.Languages.{Cat, Free, ReadsTo, FailsTo, Fails, Reads}
use Rattle.text_pieces.specs.Numbers.{Number, Word32}
use Rattle.text_pieces.specs.Ending.{no_byte}
use Rattle.text_pieces.specs.Fronts.{Front, NoFront}
use Rattle.text_pieces.proofs.Ends.{free_none, joins-first}
use Rattle.text_pieces.proofs.Lifts.{Lift, lift-behind, Sure, Next, sure-cat, sure-image}
use Rattle.text_pieces.proofs.WordReading.{sure-front}
use Rattle.text_pieces.proofs.Running.{Runs, next-run, run_more, run_fails, run_end, run_no_end, one_more, there, not_there}
use Rattle.term_text.specs.Places.{SpellsSide, SpellsPath, SpellsPlace, place_of}
use Rattle.term_text.proofs.VariableFronts.{sure-word32}
use Rattle.term_text.proofs.Words.{sure-side}

pub runs-path : Runs is_digit (λ (u : Unit {0}). Front (codes ".") (Number Word32)) (λ b. b == 46) (codes " ")
runs-path = record {
  one = λ u. (sure-front (codes ".") sure-word32).one;
  begins = λ u a t s. record { head = 46; tail = s.behind; is = s.joined; tells = refl };
  ends = record { head = 32; tail = []; is = refl; tells = refl };
  clear = λ u a t x s. subst (λ z. Free is_digit (z ++ x)) (sym s.joined) refl;
  clear_end = λ x. refl;
}

pub next-path : Next is_digit no_byte SpellsPath
next-path = next-run is_digit (λ (u : Unit {0}). Front (codes ".") (Number Word32)) (λ u n. u) (λ b. b == 46) (codes " ") runs-path no_byte tt

side_clear : (s : Side) (t x : List ℕ) → SpellsSide s t → Free is_digit (t ++ x)
side_clear Left t x s = subst (λ z. Free is_digit (z ++ x)) (sym s) refl
side_clear Right t x s = subst (λ z. Free is_digit (z ++ x)) (sym s) refl

pub next-sided : {A : Type 0} {q : ℕ → Bool} {M : Side → A → List ℕ → Type 0} → ((s : Side) → Next is_digit q (M s)) → Next is_digit q (Cat SpellsSide M)
next-sided {q = q} {M = M} next = record { sure = sure-cat sure-side next; joins = joins-first is_digit q SpellsSide M side_clear }

pub next-side : Next is_digit is_digit SpellsSide
next-side = record { sure = sure-side; joins = λ s t x h d. side_clear s t x h }

pub next-side_path : Next is_digit no_byte (Cat SpellsSide (λ side. SpellsPath))
next-side_path = next-sided (λ s. next-path)

pub sure-place : Sure no_byte SpellsPlace
sure-place = sure-image place_of (sure-cat sure-word32 (λ n. next-side_path))

abbrev On : List ℕ → List ℕ → List ℕ → Type 0
On text rest all = Lift no_byte SpellsPath text SpellsPath rest (λ ns. all ++ ns)

pub step_none : (text : List ℕ) → On text text []
step_none text = record { fails = λ left f. f; reads = λ b rest r. r }

pub step_read : {text rest behind more : List ℕ} {n : ℕ} (all : List ℕ) → On text rest all → rest ≡ 46 ∷ behind → Reads (Number Word32) behind n more → On text more (all ++ n ∷ [])
step_read {rest = rest} {behind = behind} {n = n} all w e r =
    one_more (λ ns. ns) all n (run_more is_digit (λ (u : Unit {0}). Front (codes ".") (Number Word32)) (λ u a. u) (λ b. b == 46) (codes " ") runs-path w (there 46 rest behind e refl)
    ((lift-behind is_digit 46 (Number Word32) rest behind e).reads n _ r))

pub step_fails : {text rest behind : List ℕ} {left : ℕ} (all : List ℕ) → On text rest all → rest ≡ 46 ∷ behind → Fails (Number Word32) behind left → FailsTo no_byte SpellsPath text left
step_fails {rest = rest} {behind = behind} {left = left} all w e f =
    run_fails is_digit (λ (u : Unit {0}). Front (codes ".") (Number Word32)) (λ u a. u) (λ b. b == 46) (codes " ") runs-path w (there 46 rest behind e refl) ((lift-behind is_digit 46 (Number Word32) rest behind e).fails left f)

pub path_end : {text rest last : List ℕ} (all : List ℕ) → On text rest all → ((more : List ℕ) → rest ≡ 46 ∷ more → ⊥) → rest ≡ codes " " ++ last → ReadsTo no_byte SpellsPath text (all ++ []) last
path_end {rest = rest} {last = last} all w n e = run_end is_digit (λ (u : Unit {0}). Front (codes ".") (Number Word32)) (λ u a. u) (λ b. b == 46) (codes " ") runs-path tt w (not_there 46 rest n) e (free_none last)

pub path_open : {text rest : List ℕ} {left : ℕ} (all : List ℕ) → On text rest all → ((more : List ℕ) → rest ≡ 46 ∷ more → ⊥) → NoFront (codes " ") rest left → FailsTo no_byte SpellsPath text left
path_open {rest = rest} all w n f = run_no_end is_digit (λ (u : Unit {0}). Front (codes ".") (Number Word32)) (λ u a. u) (λ b. b == 46) (codes " ") runs-path tt w (not_there 46 rest n) f
