-- The texts of variables: a letter that tells the kind and the sort, and a number.
use Rattle.std.proofs.Common.{refl}
use Rattle.std.specs.Prelude.{◌≤◌, ◌+◌, ◌*◌, ◌-◌, ◌/◌, ◌%◌, ◌^◌, ℕ, List, codes, ◌==◌, if◌then◌else◌}
use Rattle.term_base.specs.declared.symbols.Sort.{Sort}
use Rattle.term_base.specs.declared.symbols.Sort.TheVariants as sort
use Rattle.term_base.specs.declared.variables.Kind.{Kind}
use Rattle.term_base.specs.declared.variables.Kind.TheVariants as kind
use Rattle.term_base.specs.declared.variables.Variable.{Variable}
use Rattle.text_pieces.specs.Languages.{Cat, Image}
use Rattle.text_pieces.specs.Numbers.{Number, Within, Word32}
use Rattle.text_pieces.specs.Fronts.{Front}
use Rattle.text_pieces.specs.Kinds.{OneKind}
use Rattle.term_text.specs.declared.kinds.VariableKind.{VariableKind}
use Rattle.term_text.specs.declared.kinds.VariableKind.TheVariants.{Abstraction, Individual, Int, Declared}

-- ---- variables by their kinds
abbrev pub abstraction : ℕ → Variable
abstraction id = record { kind = kind.Abstraction; sort = sort.Int; id = id; proper = refl }

abbrev pub individual : ℕ → Variable
individual id = record { kind = kind.Ordinary; sort = sort.Individual; id = id; proper = refl }

abbrev pub integer : ℕ → Variable
integer id = record { kind = kind.Ordinary; sort = sort.Int; id = id; proper = refl }

-- of the declared sort of this number
abbrev pub declared : ℕ × ℕ → Variable
declared p = record { kind = kind.Ordinary; sort = sort.Declared p.0; id = p.1; proper = refl }

-- ---- their texts
-- a variable of this kind
abbrev pub VariableParts : VariableKind → Variable → List ℕ → Type 0
VariableParts Abstraction = Image abstraction (Front (codes "A") (Number Word32))
VariableParts Individual = Image individual (Front (codes "I") (Number Word32))
VariableParts Int = Image integer (Front (codes "N") (Number Word32))
VariableParts Declared = Image declared (Front (codes "D") (Cat (Number Word32) (λ n. Front (codes ".") (Number Word32))))

-- a variable
abbrev pub SpellsVariable : Variable → List ℕ → Type 0
SpellsVariable = OneKind VariableParts

-- the kind that the first byte tells
abbrev pub variable_kind_of : ℕ → VariableKind
variable_kind_of b = if b == 65 then Abstraction else (if b == 73 then Individual else (if b == 78 then Int else Declared))

-- the id from which variables of a sort's number are from this number of both on, where the sort's number is
abbrev pub id_from : ℕ → ℕ → ℕ
id_from least n = if n == least / 2 ^ 32 then least % 2 ^ 32 else 0

-- the number of a sort and the id of one of its variables, in their order from this one on
abbrev pub SortedFrom : ℕ → ℕ × ℕ → List ℕ → Type 0
SortedFrom least = Front (codes "D") (Cat (Number (Within (least / 2 ^ 32) (2 ^ 32 - 1)))
    (λ n. Front (codes ".") (Number (Within (id_from least n) (2 ^ 32 - 1)))))

-- ---- their order as a number
-- the place of an ordinary variable's sort and id
abbrev pub ordinary_rank : Sort → ℕ → ℕ
ordinary_rank sort.Individual id = 2 ^ 32 + id
ordinary_rank sort.Int id = 2 * 2 ^ 32 + id
ordinary_rank (sort.Declared n) id = (3 + n) * 2 ^ 32 + id
ordinary_rank sort.Truth id = id

-- by kind, then by sort, then by id
abbrev pub kind_rank : Kind → Sort → ℕ → ℕ
kind_rank kind.Abstraction s id = id
kind_rank kind.Ordinary s id = ordinary_rank s id

-- the number of a variable in the order of those with 32 bit numbers
abbrev pub rank : Variable → ℕ
rank v = kind_rank v.kind v.sort v.id

-- a variable of this kind from this number on
pub record FromParts (low : ℕ) (k : VariableKind) (v : Variable) (text : List ℕ) : Type 0 where
  pub spelled : VariableParts k v text
  pub from : low ≤ rank v

-- a variable from this number on
abbrev pub VariableFrom : ℕ → Variable → List ℕ → Type 0
VariableFrom low = OneKind (FromParts low)
