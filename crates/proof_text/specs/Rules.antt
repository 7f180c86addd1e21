-- The texts of rules: a word, and behind it the parts, with a blank in front of each.
use Rattle.std.specs.Prelude.{◌≡◌, ℕ, Bool, true, false, List, [], ◌∷◌, codes, ◌==◌, if◌then◌else◌}
use Rattle.term_base.specs.declared.variables.Variable.{Variable}
use Rattle.term_base.specs.declared.terms.Term.{Term}
use Rattle.term_base.specs.declared.places.Place.{Place}
use Rattle.term_base.specs.declared.places.Side.{Side}
use Rattle.cert_tree.specs.declared.certs.Cert.{Cert}
use Rattle.proof_steps.specs.declared.steps.Rule.{Rule}
use Rattle.proof_steps.specs.declared.steps.Rule.TheVariants as rule
use Rattle.text_pieces.specs.Languages.{Cat, Image}
use Rattle.text_pieces.specs.Numbers.{Number, Word32}
use Rattle.text_pieces.specs.Separated.{Separated}
use Rattle.cert_text.specs.Grammar.{Spells as SpellsCert}
use Rattle.cert_text.specs.Spelled.{is_spelled}
use Rattle.text_pieces.specs.Fronts.{Front, Word}
use Rattle.text_pieces.specs.Kinds.{OneKind}
use Rattle.term_text.specs.Terms.{SpellsTerm}
use Rattle.term_text.specs.Places.{SpellsSide, SpellsPlace}
use Rattle.term_text.specs.Substitutions.{SpellsSubst}
use Rattle.proof_text.specs.declared.kinds.RuleKind.{RuleKind}
use Rattle.proof_text.specs.declared.kinds.RuleKind.TheVariants.{Input, Superpose, Resolve, Factor, Abstract, Normal, Pin, Demodulate, Define, Close}

-- ---- parts
-- the number of a clause, a step or a literal
abbrev pub Index : ℕ → List ℕ → Type 0
Index = Front (codes " ") (Number Word32)

-- a substitution behind a blank
abbrev pub Written : List (Variable × Term) → List ℕ → Type 0
Written = Front (codes " ") SpellsSubst

-- a place between blanks
abbrev pub At : Place → List ℕ → Type 0
At = Front (codes " ") SpellsPlace

-- the number of a literal and a side
abbrev pub Sided : ℕ × Side → List ℕ → Type 0
Sided = Cat Index (λ n. SpellsSide)

-- no premise, or numbers of steps with a comma between each two, and a blank
abbrev pub PremisesParts : Bool → List ℕ → List ℕ → Type 0
PremisesParts true = Image (λ (u : Unit {0}). []) (Word (codes "- "))
PremisesParts false = Separated (Number Word32) 44 32

-- premises between blanks
abbrev pub Premises : List ℕ → List ℕ → Type 0
Premises = Front (codes " ") (OneKind PremisesParts)

-- whether the first byte is that of no premise
abbrev pub is_minus : ℕ → Bool
is_minus b = b == 45

-- ---- what rules are made of
abbrev pub superpose_of : ℕ × (ℕ × (Side × (ℕ × (Place × (List (Variable × Term) × List (Variable × Term)))))) → Rule
superpose_of p = rule.Superpose p.0 (p.1.0) (p.1.1.0) (p.1.1.1.0) (p.1.1.1.1.0) (p.1.1.1.1.1.0) (p.1.1.1.1.1.1)

abbrev pub resolve_of : ℕ × (ℕ × List (Variable × Term)) → Rule
resolve_of p = rule.Resolve p.0 (p.1.0) (p.1.1)

abbrev pub factor_of : ℕ × ((ℕ × Side) × ((ℕ × Side) × List (Variable × Term))) → Rule
factor_of p = rule.Factor p.0 (p.1.0.0) (p.1.0.1) (p.1.1.0.0) (p.1.1.0.1) (p.1.1.1)

abbrev pub pin_of : ℕ × ℕ → Rule
pin_of p = rule.Pin p.0 p.1

abbrev pub demodulate_of : ℕ × (Place × (ℕ × (Side × List (Variable × Term)))) → Rule
demodulate_of p = rule.Demodulate p.0 (p.1.0) (p.1.1.0) (p.1.1.1.0) (p.1.1.1.1)

abbrev pub define_of : Term × ℕ → Rule
define_of p = rule.Define p.0 p.1

abbrev pub close_of : List ℕ × Cert → Rule
close_of p = rule.Close p.0 p.1

-- ---- rules
-- what stands behind the word
abbrev pub RuleParts : RuleKind → Rule → List ℕ → Type 0
RuleParts Input = Image rule.Input Index
RuleParts Superpose = Image superpose_of (Cat Index (λ from. Cat (Front (codes ".") (Number Word32)) (λ literal. Cat SpellsSide (λ side. Cat Index (λ into. Cat At (λ place. Cat SpellsSubst (λ s1. Written)))))))
RuleParts Resolve = Image resolve_of (Cat Index (λ of. Cat Index (λ literal. Written)))
RuleParts Factor = Image factor_of (Cat Index (λ of. Cat Sided (λ first. Cat Sided (λ second. Written))))
RuleParts Abstract = Image rule.Abstract Index
RuleParts Normal = Image rule.Normal Index
RuleParts Pin = Image pin_of (Cat Index (λ of. Index))
RuleParts Demodulate = Image demodulate_of (Cat Index (λ of. Cat At (λ place. Cat (Number Word32) (λ by. Cat SpellsSide (λ side. Written)))))
RuleParts Define = Image define_of (Cat (Front (codes " ") SpellsTerm) (λ t. Front (codes " s") (Number Word32)))
RuleParts Close = Image close_of (Cat Premises (λ of. SpellsCert))

-- the word of a rule
abbrev pub rule_word : RuleKind → List ℕ
rule_word Input = codes "input"
rule_word Superpose = codes "superpose"
rule_word Resolve = codes "resolve"
rule_word Factor = codes "factor"
rule_word Abstract = codes "abstract"
rule_word Normal = codes "normal"
rule_word Pin = codes "pin"
rule_word Demodulate = codes "demodulate"
rule_word Define = codes "define"
rule_word Close = codes "close"

abbrev pub RuleWord : RuleKind → List ℕ → Type 0
RuleWord kind text = text ≡ rule_word kind

-- a rule: its word, and behind it its parts
abbrev pub SpellsRule : Rule → List ℕ → Type 0
SpellsRule = Image (λ (p : RuleKind × Rule). p.1) (Cat RuleWord RuleParts)

-- the words in the order in which they are looked for
abbrev pub rule_words : List (List ℕ)
rule_words = codes "input" ∷ codes "superpose" ∷ codes "resolve" ∷ codes "factor" ∷ codes "abstract" ∷ codes "normal" ∷ codes "pin" ∷ codes "demodulate" ∷ codes "define" ∷ codes "close" ∷ []

-- the kind of rule that the word at this place tells
abbrev pub rule_kind_at : ℕ → RuleKind
rule_kind_at place = if place == 0 then Input else (if place == 1 then Superpose else (if place == 2 then Resolve else (if place == 3 then Factor
    else (if place == 4 then Abstract else (if place == 5 then Normal else (if place == 6 then Pin else (if place == 7 then Demodulate else (if place == 8 then Define else Close))))))))

-- ---- rules that have a spelling
-- the certificate of a rule, if it has one, has a spelling
abbrev pub rule_is_spelled : Rule → Bool
rule_is_spelled (rule.Input clause) = true
rule_is_spelled (rule.Superpose from literal side into place s1 s2) = true
rule_is_spelled (rule.Resolve of literal s1) = true
rule_is_spelled (rule.Factor of first first_side second second_side s1) = true
rule_is_spelled (rule.Abstract of) = true
rule_is_spelled (rule.Normal of) = true
rule_is_spelled (rule.Pin of literal) = true
rule_is_spelled (rule.Demodulate of place by side s1) = true
rule_is_spelled (rule.Define t symbol) = true
rule_is_spelled (rule.Close of cert) = is_spelled cert
