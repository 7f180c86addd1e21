-- A derivation that has a spelling meets the condition of printing.
use Rattle.std.proofs.Common.{◌≡◌, ℕ, suc, true, List, [], ◌∷◌, refl, sym, subst}
use Rattle.std.specs.Prelude.{codes, IsTrue}
use Rattle.std.specs.List.{list_all}
use Rattle.std.proofs.lemmas.Bool.{and_from}
use Rattle.term_base.specs.declared.clauses.Clause.{Clause}
use Rattle.proof_steps.specs.declared.steps.Rule.{Rule}
use Rattle.proof_steps.specs.declared.steps.Step.{Step}
use Rattle.proof_steps.specs.declared.steps.Derivation.{Derivation}
use Rattle.text_pieces.specs.Languages.{Cat}
use Rattle.cert_text.proofs.Conditions.{cert_spelled}
use Rattle.text_pieces.specs.Fronts.{Front}
use Rattle.term_text.specs.Clauses.{SpellsClauseLine}
use Rattle.proof_text.specs.declared.kinds.RuleKind.{RuleKind}
use Rattle.proof_text.specs.declared.kinds.RuleKind.TheVariants.{Input, Superpose, Resolve, Factor, Abstract, Normal, Pin, Demodulate, Define, Close}
use Rattle.proof_text.specs.declared.kinds.Status.{Status}
use Rattle.proof_text.specs.Rules.{RuleParts, SpellsRule, rule_is_spelled}
use Rattle.proof_text.specs.Derivations.{StepLine, StepLines, VariablesWord, SpellsDerivation, Spells, is_spelled, step_is_spelled}

-- what follows from a text follows from the text with a word in front
from_front : {A P : Type 0} (word : List ℕ) (L : A → List ℕ → Type 0) (a : A) → ((text : List ℕ) → L a text → P) → (text : List ℕ) → Front word L a text → P
from_front [] L a follows text h = follows text h
from_front (b ∷ bs) L a follows text h = from_front bs L a follows h.behind h.spelled

-- ---- rules and steps
parts_spelled : (kind : RuleKind) (r : Rule) (text : List ℕ) → RuleParts kind r text → rule_is_spelled r ≡ true
parts_spelled Input r text h = subst (λ (r : Rule). rule_is_spelled r ≡ true) (sym h.is) refl
parts_spelled Superpose r text h = subst (λ (r : Rule). rule_is_spelled r ≡ true) (sym h.is) refl
parts_spelled Resolve r text h = subst (λ (r : Rule). rule_is_spelled r ≡ true) (sym h.is) refl
parts_spelled Factor r text h = subst (λ (r : Rule). rule_is_spelled r ≡ true) (sym h.is) refl
parts_spelled Abstract r text h = subst (λ (r : Rule). rule_is_spelled r ≡ true) (sym h.is) refl
parts_spelled Normal r text h = subst (λ (r : Rule). rule_is_spelled r ≡ true) (sym h.is) refl
parts_spelled Pin r text h = subst (λ (r : Rule). rule_is_spelled r ≡ true) (sym h.is) refl
parts_spelled Demodulate r text h = subst (λ (r : Rule). rule_is_spelled r ≡ true) (sym h.is) refl
parts_spelled Define r text h = subst (λ (r : Rule). rule_is_spelled r ≡ true) (sym h.is) refl
parts_spelled Close r text h =
    subst (λ (r : Rule). rule_is_spelled r ≡ true) (sym h.is) (cert_spelled _ h.spelled.second h.spelled.second_spelled)

rule_spelled : (r : Rule) (text : List ℕ) → SpellsRule r text → rule_is_spelled r ≡ true
rule_spelled r text h =
    subst (λ (r : Rule). rule_is_spelled r ≡ true) (sym h.is) (parts_spelled _ _ h.spelled.second h.spelled.second_spelled)

step_spelled : (n : ℕ) (step : Step) (text : List ℕ) → StepLine n step text → step_is_spelled step ≡ true
step_spelled n step text h =
    let line = h.spelled.second_spelled in
    subst (λ (s : Step). step_is_spelled s ≡ true) (sym h.is)
    (rule_spelled _ line.spelled.first line.spelled.first_spelled)

steps_spelled : (n : ℕ) (steps : List Step) (text : List ℕ) → StepLines n steps text → list_all step_is_spelled steps ≡ true
steps_spelled n [] text h = refl
steps_spelled n (step ∷ steps) text h =
    and_from _ _ (step_spelled n step h.first h.first_is) (steps_spelled (suc n) steps h.more h.more_is)

-- ---- derivations
pub derivation_spelled : (d : Derivation) (text : List ℕ) → SpellsDerivation d text → IsTrue (is_spelled d)
derivation_spelled d text h =
    subst (λ (d : Derivation). is_spelled d ≡ true) (sym h.is)
    (from_front (codes "derivation 1 ") (Cat VariablesWord (λ ordinary. Front (codes "\n") (StepLines 0))) _
    (λ text c. steps_spelled 0 _ c.second_spelled.behind c.second_spelled.spelled) text h.spelled)

pub text_spelled : (p : Status × Derivation) (text : List ℕ) → Spells p text → IsTrue (is_spelled p.1)
text_spelled p text h =
    from_front (codes "% SZS status ") _ p
    (λ text c. from_front (codes " for stdin\n") SpellsDerivation p.1 (λ text d. derivation_spelled p.1 text d) c.second c.second_spelled) text h
