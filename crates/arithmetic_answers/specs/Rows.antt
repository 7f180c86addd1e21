-- Worked rows of the definitions.
use Rattle.std.specs.Prelude.{◌≡◌, pos, negsuc, true, false, [], ◌∷◌, codes, Some, None}
use Rattle.term_base.specs.declared.clauses.Clause.{Clause}
use Rattle.term_base.specs.declared.clauses.Literal.TheVariants as literal
use Rattle.term_base.specs.declared.terms.Term.TheVariants as term
use Rattle.lin_base.specs.declared.wides.Op.TheVariants.{Add}
use Rattle.cert_tree.specs.declared.certs.Cert.{Cert}
use Rattle.proof_steps.specs.declared.steps.Rule.TheVariants.{Input, Close}
use Rattle.proof_text.specs.declared.kinds.Status.TheVariants.{Theorem, Unsatisfiable}
use Rattle.arithmetic_answers.specs.Decisions.{first_empty, value_of}
use Rattle.arithmetic_answers.specs.Derivations.{empty_clause_derivation, numbers, refutation, szs_status}
use Rattle.arithmetic_answers.specs.Texts.{values_text, wide_line}

-- of two clauses the second is empty
abbrev pub SecondIsEmpty : Type 0
SecondIsEmpty = first_empty 0 (record { literals = literal.AtMost term.True term.True ∷ [] } ∷ record { literals = [] } ∷ []) ≡ Some 1

-- no clause among none is empty
abbrev pub NoneIsEmpty : Type 0
NoneIsEmpty = first_empty 0 [] ≡ None

-- the symbols 3 and 7 have the values 5 and -1, every other one 0
abbrev pub ValuesByPlace : Type 0
ValuesByPlace = (value_of (3 ∷ 7 ∷ []) (pos 5 ∷ negsuc 0 ∷ []) 7 ≡ negsuc 0) × (value_of (3 ∷ 7 ∷ []) (pos 5 ∷ negsuc 0 ∷ []) 4 ≡ pos 0)

-- the numbers of three steps, and of none
abbrev pub NumbersFromZero : Type 0
NumbersFromZero = (numbers 0 3 ≡ 0 ∷ 1 ∷ 2 ∷ []) × (numbers 0 0 ≡ [])

-- clause 4 is taken, and is empty
abbrev pub FourIsTaken : Type 0
FourIsTaken = empty_clause_derivation true 4 ≡ record { ordinary = true; steps = record { rule = Input 4; clause = record { literals = [] } } ∷ [] }

-- two clauses are taken, and closed by step 2
abbrev pub TwoClosed : Type 0
TwoClosed = (c d : Clause) (cert : Cert) → refutation false (c ∷ d ∷ []) cert ≡ record {
  ordinary = false;
  steps = record { rule = Input 0; clause = c } ∷ record { rule = Input 1; clause = d } ∷ record { rule = Close (0 ∷ 1 ∷ []) cert; clause = record { literals = [] } } ∷ [];
}

-- the statuses with a conjecture and without one
abbrev pub TwoStatuses : Type 0
TwoStatuses = (szs_status true ≡ Theorem) × (szs_status false ≡ Unsatisfiable)

-- two values
abbrev pub TwoValues : Type 0
TwoValues = values_text (pos 12 ∷ negsuc 2 ∷ []) ≡ codes "values 2 12 -3\n"

-- a sum that leaves the range
abbrev pub WideSum : Type 0
WideSum = wide_line (record { op = Add; left = pos 7; right = negsuc 0 }) ≡ codes "% gave up: wide add 7 -1\n"
