-- The texts of answers: a derivation, a saturated list, or the line of a problem that was given up.
use Rattle.std.specs.Prelude.{◌≡◌, ℕ, suc, ℤ, Bool, List, [], ◌∷◌, ◌++◌, length, codes, IsTrue}
use Rattle.std.specs.List.{flat_map}
use Rattle.term_base.specs.declared.clauses.Clause.{Clause}
use Rattle.lin_base.specs.declared.wides.Wide.{Wide}
use Rattle.lin_base.specs.declared.wides.Op.{Op}
use Rattle.lin_base.specs.declared.wides.Op.TheVariants.{Add, Mul}
use Rattle.judge_base.specs.declared.verdicts.Why.{Why}
use Rattle.judge_base.specs.declared.verdicts.Why.TheVariants as why
use Rattle.text_pieces.specs.Decimals.{decimal, signed_decimal}
use Rattle.term_text.specs.Texts.{clause_text}
use Rattle.cert_text.specs.Spelled.{is_spelled}
use Rattle.proof_text.specs.Derivations.{Spells, variables_word}
use Rattle.arithmetic_answers.specs.declared.deciding.Decision.{Decision}
use Rattle.arithmetic_answers.specs.declared.deciding.Decision.TheVariants as decision
use Rattle.arithmetic_answers.specs.Derivations.{empty_clause_derivation, refutation, szs_status}

-- ---- a saturated list
-- a clause with its number
abbrev pub item : ℕ → Clause → List ℕ
item n c = decimal n ++ (codes " : " ++ (clause_text c ++ codes "\n"))

-- the clauses as items, numbered from n
abbrev pub items : ℕ → List Clause → List ℕ
items n [] = []
items n (c ∷ cs) = item n c ++ items (suc n) cs

-- a value behind a blank
abbrev pub value_text : ℤ → List ℕ
value_text z = codes " " ++ signed_decimal z

-- the values, behind their number
abbrev pub values_text : List ℤ → List ℕ
values_text values = codes "values " ++ (decimal (length values) ++ (flat_map value_text values ++ codes "\n"))

-- the list of the clauses, all of them kept, with the values of the parameters
abbrev pub saturated_list : Bool → List Clause → List ℤ → List ℕ
saturated_list ordinary cs values =
    codes "% Saturated for stdin\nlist 1 " ++ (variables_word ordinary ++ (codes "\nkept " ++ (decimal (length cs) ++ (codes "\n" ++ (items 0 cs
    ++ (codes "dropped 0\n" ++ (values_text values ++ codes "end\n")))))))

-- ---- lines of problems that were given up
-- the word of an operation
abbrev pub operation_word : Op → List ℕ
operation_word Add = codes "add"
operation_word Mul = codes "mul"

-- two operands, each behind a blank, and the end of the line
abbrev pub operands_text : ℤ → ℤ → List ℕ
operands_text left right = value_text left ++ (value_text right ++ codes "\n")

-- the operation that leaves the range, with its operands
abbrev pub wide_line : Wide → List ℕ
wide_line w = codes "% gave up: wide " ++ (operation_word w.op ++ operands_text w.left w.right)

-- the word of a reason
abbrev pub reason_word : Why → List ℕ
reason_word why.Spent = codes "spent"
reason_word why.Wide = codes "wide"
reason_word why.Deep = codes "deep"

-- the reason for which the judge did not decide
abbrev pub unknown_line : Why → List ℕ
unknown_line w = codes "% gave up: unknown " ++ (reason_word w ++ codes "\n")

-- ---- decisions
-- the text tells what was decided of the clauses: it spells a derivation with its status, or it is the list or the line
abbrev pub Tells : Bool → Bool → List Clause → Decision → List ℕ → Type 0
Tells ordinary has_conjecture cs (decision.EmptyClause k) text = Spells (szs_status has_conjecture, empty_clause_derivation ordinary k) text
Tells ordinary has_conjecture cs (decision.TooWide at) text = text ≡ wide_line at.wide
Tells ordinary has_conjecture cs (decision.Refuted cert) text = Spells (szs_status has_conjecture, refutation ordinary cs cert) text
Tells ordinary has_conjecture cs (decision.Satisfied values) text = text ≡ saturated_list ordinary cs values
Tells ordinary has_conjecture cs (decision.Unknown w) text = text ≡ unknown_line w

-- the decision has a text: its certificate has a spelling
abbrev pub HasText : Decision → Type 0
HasText (decision.EmptyClause k) = Unit {0}
HasText (decision.TooWide at) = Unit {0}
HasText (decision.Refuted cert) = IsTrue (is_spelled cert)
HasText (decision.Satisfied values) = Unit {0}
HasText (decision.Unknown w) = Unit {0}
