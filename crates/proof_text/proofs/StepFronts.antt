-- Steps and derivations are told apart.
use Rattle.std.proofs.Common.{◌≡◌, ℕ, suc, true, false, List, [], ◌∷◌, ◌++◌, length, length-append, refl, ap, subst, ◌∙◌, arith}
use Rattle.std.specs.Prelude.{codes}
use Rattle.std.proofs.lemmas.Bool.Decides.{nat_tests}
use Rattle.proof_steps.specs.declared.steps.Step.{Step}
use Rattle.text_pieces.specs.Decimals.{is_digit}
use Rattle.text_pieces.specs.Languages.{Cat, ReadsTo, FailsTo}
use Rattle.text_pieces.specs.Numbers.{Number, Within}
use Rattle.text_pieces.specs.declared.bad_texts.Unread.{Unread}
use Rattle.text_pieces.proofs.Digits.{digit_below}
use Rattle.text_pieces.proofs.Reaching.{decimal_head}
use Rattle.text_pieces.specs.Failing.{UnreadTo}
use Rattle.text_pieces.specs.Ending.{no_byte}
use Rattle.text_pieces.specs.Fronts.{Front, NoFront}
use Rattle.text_pieces.specs.Kinds.{kind_at}
use Rattle.text_pieces.proofs.Ends.{free_none}
use Rattle.text_pieces.proofs.Lifts.{Lift, unread_on, Sure, Next, sure-cat, sure-image}
use Rattle.text_pieces.proofs.WordReading.{sure-front, next-front}
use Rattle.text_pieces.proofs.Kinded.{Told}
use Rattle.text_pieces.proofs.Running.{Runs, sure-run, run_more, run_fails, run_end, run_no_end, one_more}
use Rattle.term_text.specs.Clauses.{SpellsClauseLine}
use Rattle.term_text.proofs.VariableFronts.{sure-number}
use Rattle.term_text.proofs.ClauseReading.{sure-clause_line}
use Rattle.proof_text.specs.Rules.{SpellsRule}
use Rattle.proof_text.specs.Derivations.{StepLine, StepLines, step_of, isnt_end, VariablesWord, SpellsDerivation, derivation_of, StatusWord, Spells}
use Rattle.proof_text.proofs.RuleWords.{sure-variables_word, sure-status_word}
use Rattle.proof_text.proofs.RuleFronts.{sure-rule}

-- ---- steps
pub sure-step_number : (n : ℕ) → Sure is_digit (Number (Within n n))
sure-step_number n = sure-number (Within n n) n (record { from_low = omega arith; to_high = omega arith })

pub next-line_clause : Next is_digit no_byte (Front (codes " : ") SpellsClauseLine)
next-line_clause = next-front 32 (58 ∷ 32 ∷ []) refl sure-clause_line

pub sure-line_rule : Sure no_byte (Cat SpellsRule (λ rule. Front (codes " : ") SpellsClauseLine))
sure-line_rule = sure-cat sure-rule (λ rule. next-line_clause)

pub next-line_rule : Next is_digit no_byte (Front (codes " ") (Cat SpellsRule (λ rule. Front (codes " : ") SpellsClauseLine)))
next-line_rule = next-front 32 [] refl sure-line_rule

sure-step_line : (n : ℕ) → Sure no_byte (StepLine n)
sure-step_line n = sure-image step_of (sure-cat (sure-step_number n) (λ number. next-line_rule))

digit_no_end : (b : ℕ) → is_digit b ≡ true → isnt_end b ≡ true
digit_no_end b h = let l = digit_below b h in grind (arith, nat_tests, l.0, l.1)

told-step : (n : ℕ) (s : Step) (t : List ℕ) → StepLine n s t → Told isnt_end true t
told-step n s t g =
    let c = g.spelled in
    let d = decimal_head (g.from.0) in
    record {
      head = d.head;
      tail = d.tail ++ c.second;
      is = c.joined ∙ ap (λ z. z ++ c.second) (c.first_spelled.digits ∙ d.is);
      tells = digit_no_end d.head d.digit;
    }

pub runs-steps : Runs no_byte StepLine isnt_end (codes "end\n")
runs-steps = record {
  one = λ n. (sure-step_line n).one;
  begins = told-step;
  ends = record { head = 101; tail = 110 ∷ 100 ∷ 10 ∷ []; is = refl; tells = refl };
  clear = λ n s t x g. free_none (t ++ x);
  clear_end = λ x. refl;
}

pub sure-steps : Sure no_byte (StepLines 0)
sure-steps = sure-run no_byte StepLine (λ n step. suc n) isnt_end (codes "end\n") runs-steps no_byte 0

abbrev pub On : List ℕ → List ℕ → ℕ → List Step → Type 0
On text rest n all = Lift no_byte (StepLines 0) text (StepLines n) rest (λ ss. all ++ ss)

pub step_none : (text : List ℕ) → On text text 0 []
step_none text = record { fails = λ left f. f; reads = λ b rest r. r }

pub step_read : {text rest more : List ℕ} {s : Step} (n : ℕ) (all : List Step) → On text rest n all → kind_at isnt_end false rest ≡ true → ReadsTo no_byte (StepLine n) rest s more → On text more (suc n) (all ++ s ∷ [])
step_read {s = s} n all w e r = one_more (λ ss. ss) all s (run_more no_byte StepLine (λ n step. suc n) isnt_end (codes "end\n") runs-steps w e r)

pub step_unread : {text rest : List ℕ} (n : ℕ) (all : List Step) → On text rest n all → kind_at isnt_end false rest ≡ true → (e : Unread) → UnreadTo no_byte (StepLine n) rest e → UnreadTo no_byte (StepLines 0) text e
step_unread {text = text} {rest = rest} n all w e u h =
    unread_on no_byte no_byte (StepLines 0) text (StepLine n) rest (λ left f. run_fails no_byte StepLine (λ n step. suc n) isnt_end (codes "end\n") runs-steps w e f) u h

pub steps_end : {text rest last : List ℕ} (n : ℕ) (all : List Step) → On text rest n all → kind_at isnt_end false rest ≡ false → rest ≡ codes "end\n" ++ last → ReadsTo no_byte (StepLines 0) text (all ++ []) last
steps_end {last = last} n all w e h = run_end no_byte StepLine (λ n step. suc n) isnt_end (codes "end\n") runs-steps n w e h (free_none last)

pub steps_open : {text rest : List ℕ} {left : ℕ} (n : ℕ) (all : List Step) → On text rest n all → kind_at isnt_end false rest ≡ false → NoFront (codes "end\n") rest left → FailsTo no_byte (StepLines 0) text left
steps_open n all w e h = run_no_end no_byte StepLine (λ n step. suc n) isnt_end (codes "end\n") runs-steps n w e h

-- ---- derivations
pub next-steps : Next is_digit no_byte (Front (codes "\n") (StepLines 0))
next-steps = next-front 10 [] refl sure-steps

pub sure-header : Sure no_byte (Cat VariablesWord (λ ordinary. Front (codes "\n") (StepLines 0)))
sure-header = sure-cat sure-variables_word (λ ordinary. next-steps)

pub sure-derivation : Sure no_byte SpellsDerivation
sure-derivation = sure-image derivation_of (sure-front (codes "derivation 1 ") sure-header)

pub next-derivation : Next is_digit no_byte (Front (codes " for stdin\n") SpellsDerivation)
next-derivation = next-front 32 (codes "for stdin\n") refl sure-derivation

pub sure-status : Sure no_byte (Cat StatusWord (λ status. Front (codes " for stdin\n") SpellsDerivation))
sure-status = sure-cat sure-status_word (λ status. next-derivation)

pub sure-proof : Sure no_byte Spells
sure-proof = sure-front (codes "% SZS status ") sure-status

-- the number of the next step is that of the steps so far
pub one_step_more : {text rest : List ℕ} (all : List Step) (s : Step) → On text rest (suc (length all)) (all ++ s ∷ []) → On text rest (length (all ++ s ∷ [])) (all ++ s ∷ [])
one_step_more {text} {rest} all s w =
    let count : suc (length all) ≡ length (all ++ s ∷ []) = omega (arith, length-append all (s ∷ [])) in
    subst (λ n. On text rest n (all ++ s ∷ [])) count w
