-- The texts of derivations, without and with their status line.
use Rattle.std.specs.Prelude.{◌≡◌, ℕ, zero, suc, Bool, true, false, List, codes, ◌==◌, not}
use Rattle.std.specs.List.{list_all}
use Rattle.term_base.specs.declared.clauses.Clause.{Clause}
use Rattle.proof_steps.specs.declared.steps.Rule.{Rule}
use Rattle.proof_steps.specs.declared.steps.Step.{Step}
use Rattle.proof_steps.specs.declared.steps.Derivation.{Derivation}
use Rattle.text_pieces.specs.Languages.{Cat, Image}
use Rattle.text_pieces.specs.Numbers.{Number, Within}
use Rattle.text_pieces.specs.Fronts.{Front}
use Rattle.text_pieces.specs.Runs.{Run}
use Rattle.term_text.specs.Clauses.{SpellsClauseLine}
use Rattle.proof_text.specs.declared.kinds.Status.{Status}
use Rattle.proof_text.specs.declared.kinds.Status.TheVariants.{Theorem, Unsatisfiable}
use Rattle.proof_text.specs.Rules.{SpellsRule, rule_is_spelled}

-- ---- steps
-- the step that is made of its rule and its clause, behind its number
abbrev pub step_of : ℕ × (Rule × Clause) → Step
step_of p = record { rule = p.1.0; clause = p.1.1 }

-- the line of the step of this number
abbrev pub StepLine : ℕ → Step → List ℕ → Type 0
StepLine n = Image step_of (Cat (Number (Within n n)) (λ number. Front (codes " ") (Cat SpellsRule (λ rule. Front (codes " : ") SpellsClauseLine))))

-- steps numbered from this one on, a line each, and the last line
abbrev pub StepLines : ℕ → List Step → List ℕ → Type 0
StepLines = Run StepLine (λ n step. suc n) (codes "end\n")

-- whether the first byte isn't that of the last line
abbrev pub isnt_end : ℕ → Bool
isnt_end b = not (b == 101)

-- ---- derivations
-- the word for the variables of clauses with a foreground symbol
abbrev pub variables_word : Bool → List ℕ
variables_word true = codes "ordinary"
variables_word false = codes "abstraction"

abbrev pub VariablesWord : Bool → List ℕ → Type 0
VariablesWord ordinary text = text ≡ variables_word ordinary

abbrev pub derivation_of : Bool × List Step → Derivation
derivation_of p = record { ordinary = p.0; steps = p.1 }

-- a derivation: its header, its steps numbered from 0, and the last line
abbrev pub SpellsDerivation : Derivation → List ℕ → Type 0
SpellsDerivation = Image derivation_of (Front (codes "derivation 1 ") (Cat VariablesWord (λ ordinary. Front (codes "\n") (StepLines 0))))

-- ---- with the status line
-- the word of a status in the SZS ontology
abbrev pub status_word : Status → List ℕ
status_word Theorem = codes "Theorem"
status_word Unsatisfiable = codes "Unsatisfiable"

-- the status whose word stands at this place
abbrev pub status_at : ℕ → Status
status_at zero = Theorem
status_at (suc n) = Unsatisfiable

abbrev pub StatusWord : Status → List ℕ → Type 0
StatusWord status text = text ≡ status_word status

-- the bytes spell the derivation with this status
abbrev pub Spells : Status × Derivation → List ℕ → Type 0
Spells = Front (codes "% SZS status ") (Cat StatusWord (λ status. Front (codes " for stdin\n") SpellsDerivation))

-- ---- derivations that have a spelling
abbrev pub step_is_spelled : Step → Bool
step_is_spelled step = rule_is_spelled step.rule

-- each certificate has one
abbrev pub is_spelled : Derivation → Bool
is_spelled d = list_all step_is_spelled d.steps
