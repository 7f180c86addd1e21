-- Variables are told apart.
use Rattle.std.proofs.Common.{ℕ, List, [], refl, arith}
use Rattle.std.specs.Prelude.{codes}
use Rattle.term_base.specs.declared.variables.Variable.{Variable}
use Rattle.text_pieces.specs.Decimals.{is_digit}
use Rattle.text_pieces.specs.Numbers.{Number, Word32}
use Rattle.text_pieces.proofs.Reaching.{one_front-number, has_one-number}
use Rattle.text_pieces.proofs.Lifts.{Sure, sure-cat, sure-image}
use Rattle.text_pieces.proofs.WordReading.{sure-front, next-front}
use Rattle.text_pieces.proofs.Kinded.{Told, sure-kinds}
use Rattle.term_text.specs.declared.kinds.VariableKind.{VariableKind}
use Rattle.term_text.specs.declared.kinds.VariableKind.TheVariants.{Abstraction, Individual, Int, Declared}
use Rattle.term_text.specs.Variables.{VariableParts, SpellsVariable, variable_kind_of}

-- ---- numbers
pub sure-number : (In : ℕ → Type 0) (n : ℕ) → In n → Sure is_digit (Number In)
sure-number In n h = record { one = one_front-number In; some = has_one-number In n h }

pub sure-word32 : Sure is_digit (Number Word32)
sure-word32 = sure-number Word32 0 (record { from_low = omega arith; to_high = omega arith })

-- ---- variables
pub told-variable : (k : VariableKind) (v : Variable) (t : List ℕ) → VariableParts k v t → Told variable_kind_of k t
told-variable Abstraction v t s = record { head = 65; tail = s.spelled.behind; is = s.spelled.joined; tells = refl }
told-variable Individual v t s = record { head = 73; tail = s.spelled.behind; is = s.spelled.joined; tells = refl }
told-variable Int v t s = record { head = 78; tail = s.spelled.behind; is = s.spelled.joined; tells = refl }
told-variable Declared v t s = record { head = 68; tail = s.spelled.behind; is = s.spelled.joined; tells = refl }

pub sure-variable_parts : (k : VariableKind) → Sure is_digit (VariableParts k)
sure-variable_parts Abstraction = sure-image _ (sure-front (codes "A") sure-word32)
sure-variable_parts Individual = sure-image _ (sure-front (codes "I") sure-word32)
sure-variable_parts Int = sure-image _ (sure-front (codes "N") sure-word32)
sure-variable_parts Declared = sure-image _ (sure-front (codes "D") (sure-cat sure-word32 (λ n. next-front 46 [] refl sure-word32)))

pub sure-variable : Sure is_digit SpellsVariable
sure-variable = sure-kinds VariableParts variable_kind_of Declared told-variable is_digit (λ k. (sure-variable_parts k).one) Abstraction ((sure-variable_parts Abstraction).some)
