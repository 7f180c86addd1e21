-- The one text of each derivation.
use Rattle.std.proofs.Common.{◌≡◌, ℕ, suc, Bool, true, false, List, [], ◌∷◌, ◌++◌, sym, ap, ◌∙◌, arith}
use Rattle.std.specs.Prelude.{codes}
use Rattle.term_base.specs.declared.variables.Variable.{Variable}
use Rattle.term_base.specs.declared.terms.Term.{Term}
use Rattle.term_base.specs.declared.places.Side.{Side}
use Rattle.proof_steps.specs.declared.steps.Rule.{Rule}
use Rattle.proof_steps.specs.declared.steps.Rule.TheVariants as rule
use Rattle.proof_steps.specs.declared.steps.Step.{Step}
use Rattle.proof_steps.specs.declared.steps.Derivation.{Derivation}
use Rattle.text_pieces.specs.Decimals.{decimal}
use Rattle.text_pieces.specs.Numbers.{Number, Word32}
use Rattle.text_pieces.specs.Separated.{Tail}
use Rattle.text_pieces.proofs.OneText.{Texts, text-cat, text-number, text-front, text-image, text-kinds, run_text, text-run}
use Rattle.cert_text.specs.Grammar.{Spells as SpellsCert}
use Rattle.cert_text.proofs.Ones.{cert_text, text-cert}
use Rattle.text_pieces.specs.Fronts.{Front, Word}
use Rattle.term_text.specs.Terms.{SpellsTerm}
use Rattle.term_text.specs.Places.{SpellsSide, SpellsPlace, side_word}
use Rattle.term_text.specs.Substitutions.{SpellsSubst}
use Rattle.term_text.specs.Clauses.{SpellsClauseLine}
use Rattle.term_text.proofs.TermTexts.{text-term, term_text}
use Rattle.term_text.proofs.ClauseTexts.{line_text, text-clause_line, text-side, place_text, text-place, substitution_text, text-substitution}
use Rattle.proof_text.specs.declared.kinds.RuleKind.{RuleKind}
use Rattle.proof_text.specs.declared.kinds.RuleKind.TheVariants.{Input, Superpose, Resolve, Factor, Abstract, Normal, Pin, Demodulate, Define, Close}
use Rattle.proof_text.specs.declared.kinds.Status.{Status}
use Rattle.proof_text.specs.Rules.{Index, Written, At, Sided, PremisesParts, Premises, rule_word, RuleParts, SpellsRule, superpose_of, resolve_of, factor_of, pin_of, demodulate_of, define_of, close_of}
use Rattle.proof_text.specs.Derivations.{StepLine, StepLines, VariablesWord, variables_word, SpellsDerivation, derivation_of, StatusWord, status_word, Spells}

-- ---- parts
abbrev index_text : ℕ → List ℕ
index_text n = codes " " ++ decimal n

text-index : Texts Index index_text
text-index = text-front (codes " ") (Number Word32) decimal (text-number Word32)

abbrev written_text : List (Variable × Term) → List ℕ
written_text s = codes " " ++ substitution_text s

text-written : Texts Written written_text
text-written = text-front (codes " ") SpellsSubst substitution_text text-substitution

text-at : Texts At (λ p. codes " " ++ place_text p)
text-at = text-front (codes " ") SpellsPlace place_text text-place

abbrev sided_text : ℕ × Side → List ℕ
sided_text p = index_text p.0 ++ side_word p.1

text-sided : Texts Sided sided_text
text-sided = text-cat Index (λ n. SpellsSide) index_text (λ n. side_word) text-index (λ n. text-side)

abbrev tail_text : List ℕ → List ℕ
tail_text [] = codes " "
tail_text (n ∷ ns) = 44 ∷ (decimal n ++ tail_text ns)

text-tail : Texts (Tail (Number Word32) 44 32) tail_text
text-tail [] t s = s
text-tail (n ∷ ns) t s = s.joined ∙ ap (λ z. 44 ∷ (z ++ s.more)) s.first_is.digits ∙ ap (λ z. 44 ∷ (decimal n ++ z)) (text-tail ns s.more s.more_is)

abbrev premises_text : List ℕ → List ℕ
premises_text [] = codes "- "
premises_text (n ∷ ns) = decimal n ++ tail_text ns

text-premises_parts : (k : Bool) → Texts (PremisesParts k) premises_text
text-premises_parts true = text-image (λ (u : Unit {0}). []) (Word (codes "- ")) premises_text (λ u t e. e)
text-premises_parts false =
    text-image (λ (p : ℕ × List ℕ). p.0 ∷ p.1) _ premises_text (text-cat (Number Word32) (λ first. Tail (Number Word32) 44 32) decimal (λ n. tail_text) (text-number Word32) (λ n. text-tail))

text-premises : Texts Premises (λ ns. codes " " ++ premises_text ns)
text-premises = text-front (codes " ") _ premises_text (text-kinds PremisesParts premises_text text-premises_parts)

-- ---- rules
abbrev parts_text : Rule → List ℕ
parts_text (rule.Input k) = index_text k
parts_text (rule.Superpose from literal side into place s1 s2) = index_text from ++ ((codes "." ++ decimal literal) ++ (side_word side ++ (index_text into ++ ((codes " " ++ place_text place) ++ (substitution_text s1 ++ written_text s2)))))
parts_text (rule.Resolve of literal s1) = index_text of ++ (index_text literal ++ written_text s1)
parts_text (rule.Factor of first first_side second second_side s1) = index_text of ++ (sided_text (first, first_side) ++ (sided_text (second, second_side) ++ written_text s1))
parts_text (rule.Abstract of) = index_text of
parts_text (rule.Normal of) = index_text of
parts_text (rule.Pin of literal) = index_text of ++ index_text literal
parts_text (rule.Demodulate of place by side s1) = index_text of ++ ((codes " " ++ place_text place) ++ (decimal by ++ (side_word side ++ written_text s1)))
parts_text (rule.Define t symbol) = (codes " " ++ term_text t) ++ (codes " s" ++ decimal symbol)
parts_text (rule.Close of cert) = (codes " " ++ premises_text of) ++ cert_text cert

text-parts : (k : RuleKind) → Texts (RuleParts k) parts_text
text-parts Input = text-image rule.Input Index parts_text text-index
text-parts Superpose =
    text-image superpose_of _ parts_text (text-cat Index _ index_text _ text-index
    (λ from. text-cat (Front (codes ".") (Number Word32)) _ (λ n. codes "." ++ decimal n) _ (text-front (codes ".") (Number Word32) decimal (text-number Word32))
    (λ literal. text-cat SpellsSide _ side_word _ text-side
    (λ side. text-cat Index _ index_text _ text-index
    (λ into. text-cat At _ (λ p. codes " " ++ place_text p) _ text-at
    (λ place. text-cat SpellsSubst (λ s1. Written) substitution_text (λ s1. written_text) text-substitution (λ s1. text-written)))))))
text-parts Resolve = text-image resolve_of _ parts_text (text-cat Index _ index_text _ text-index (λ of. text-cat Index (λ literal. Written) index_text (λ literal. written_text) text-index (λ literal. text-written)))
text-parts Factor =
    text-image factor_of _ parts_text (text-cat Index _ index_text _ text-index
    (λ of. text-cat Sided _ sided_text _ text-sided (λ first. text-cat Sided (λ second. Written) sided_text (λ second. written_text) text-sided (λ second. text-written))))
text-parts Abstract = text-image rule.Abstract Index parts_text text-index
text-parts Normal = text-image rule.Normal Index parts_text text-index
text-parts Pin = text-image pin_of _ parts_text (text-cat Index (λ of. Index) index_text (λ of. index_text) text-index (λ of. text-index))
text-parts Demodulate =
    text-image demodulate_of _ parts_text (text-cat Index _ index_text _ text-index
    (λ of. text-cat At _ (λ p. codes " " ++ place_text p) _ text-at
    (λ place. text-cat (Number Word32) _ decimal _ (text-number Word32) (λ by. text-cat SpellsSide (λ side. Written) side_word (λ side. written_text) text-side (λ side. text-written)))))
text-parts Define =
    text-image define_of _ parts_text (text-cat (Front (codes " ") SpellsTerm) (λ t. Front (codes " s") (Number Word32)) (λ t. codes " " ++ term_text t) (λ t n. codes " s" ++ decimal n)
    (text-front (codes " ") SpellsTerm term_text text-term) (λ t. text-front (codes " s") (Number Word32) decimal (text-number Word32)))
text-parts Close = text-image close_of _ parts_text (text-cat Premises (λ of. SpellsCert) (λ ns. codes " " ++ premises_text ns) (λ of. cert_text) text-premises (λ of. text-cert))

-- the word of a rule is told by the rule
abbrev word_of : Rule → List ℕ
word_of (rule.Input k) = codes "input"
word_of (rule.Superpose from literal side into place s1 s2) = codes "superpose"
word_of (rule.Resolve of literal s1) = codes "resolve"
word_of (rule.Factor of first first_side second second_side s1) = codes "factor"
word_of (rule.Abstract of) = codes "abstract"
word_of (rule.Normal of) = codes "normal"
word_of (rule.Pin of literal) = codes "pin"
word_of (rule.Demodulate of place by side s1) = codes "demodulate"
word_of (rule.Define t symbol) = codes "define"
word_of (rule.Close of cert) = codes "close"

word_is : (k : RuleKind) (r : Rule) (t : List ℕ) → RuleParts k r t → rule_word k ≡ word_of r
word_is Input r t s = ap word_of (sym s.is)
word_is Superpose r t s = ap word_of (sym s.is)
word_is Resolve r t s = ap word_of (sym s.is)
word_is Factor r t s = ap word_of (sym s.is)
word_is Abstract r t s = ap word_of (sym s.is)
word_is Normal r t s = ap word_of (sym s.is)
word_is Pin r t s = ap word_of (sym s.is)
word_is Demodulate r t s = ap word_of (sym s.is)
word_is Define r t s = ap word_of (sym s.is)
word_is Close r t s = ap word_of (sym s.is)

abbrev rule_text : Rule → List ℕ
rule_text r = word_of r ++ parts_text r

text-rule : Texts SpellsRule rule_text
text-rule r t s =
    let c = s.spelled in
    c.joined ∙ ap (λ z. z ++ c.second) (c.first_spelled ∙ word_is s.from.0 s.from.1 c.second c.second_spelled) ∙ ap (λ z. word_of s.from.1 ++ z) (text-parts s.from.0 s.from.1 c.second c.second_spelled) ∙ ap rule_text (sym s.is)

-- ---- derivations
abbrev step_text : ℕ → Step → List ℕ
step_text n step = decimal n ++ (codes " " ++ (rule_text step.rule ++ (codes " : " ++ line_text step.clause)))

text-step : (n : ℕ) → Texts (StepLine n) (step_text n)
text-step n step t s =
    let c = s.spelled in
    let d = c.second_spelled in
    let rest = text-front (codes " ") _ (λ p. rule_text p.0 ++ (codes " : " ++ line_text p.1))
    (text-cat SpellsRule (λ rule. Front (codes " : ") SpellsClauseLine) rule_text (λ rule c. codes " : " ++ line_text c) text-rule (λ rule. text-front (codes " : ") SpellsClauseLine line_text text-clause_line)) s.from.1 c.second d in
    let number : s.from.0 ≡ n = omega (arith, c.first_spelled.is_in.from_low, c.first_spelled.is_in.to_high) in
    c.joined ∙ ap (λ z. z ++ c.second) (c.first_spelled.digits ∙ ap decimal number) ∙ ap (λ z. decimal n ++ z) rest ∙ ap (step_text n) (sym s.is)

abbrev steps_text : ℕ → List Step → List ℕ
steps_text = run_text step_text (λ n step. suc n) (codes "end\n")

abbrev derivation_text : Derivation → List ℕ
derivation_text d = codes "derivation 1 " ++ (variables_word d.ordinary ++ (codes "\n" ++ steps_text 0 d.steps))

text-derivation : Texts SpellsDerivation derivation_text
text-derivation =
    text-image derivation_of _ derivation_text (text-front (codes "derivation 1 ") _ (λ p. variables_word p.0 ++ (codes "\n" ++ steps_text 0 p.1))
    (text-cat VariablesWord (λ ordinary. Front (codes "\n") (StepLines 0)) variables_word (λ o ss. codes "\n" ++ steps_text 0 ss) (λ o t e. e)
    (λ o. text-front (codes "\n") (StepLines 0) (steps_text 0) (text-run StepLine (λ n step. suc n) (codes "end\n") step_text text-step 0))))

text-proof : Texts Spells (λ p. codes "% SZS status " ++ (status_word p.0 ++ (codes " for stdin\n" ++ derivation_text p.1)))
text-proof =
    text-front (codes "% SZS status ") _ (λ p. status_word p.0 ++ (codes " for stdin\n" ++ derivation_text p.1))
    (text-cat StatusWord (λ status. Front (codes " for stdin\n") SpellsDerivation) status_word (λ s d. codes " for stdin\n" ++ derivation_text d) (λ s t e. e) (λ s. text-front (codes " for stdin\n") SpellsDerivation derivation_text text-derivation))

pub one_text : (d : Derivation) (t u : List ℕ) → SpellsDerivation d t → SpellsDerivation d u → t ≡ u
one_text d t u s r = text-derivation d t s ∙ sym (text-derivation d u r)

pub one_text_with_status : (p : Status × Derivation) (t u : List ℕ) → Spells p t → Spells p u → t ≡ u
one_text_with_status p t u s r = text-proof p t s ∙ sym (text-proof p u r)
