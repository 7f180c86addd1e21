-- Number-terms, their values, and the faults of products: phase 4.
use Rattle.std.specs.Prelude.{ℕ, ℤ, pos, negsuc, ◌+ℤ◌, ◌*ℤ◌, nat_lt, ◌^◌, Bool, List, [], ◌∷◌, ◌++◌, map, flat_map, Option, Some, None, if◌then◌else◌}
use Rattle.tff_grammar.specs.declared.pieces.Span.{Span}
use Rattle.tff_grammar.specs.declared.pieces.Operation.{Operation}
use Rattle.tff_grammar.specs.declared.pieces.Operation.TheVariants as o
use Rattle.tff_grammar.specs.declared.trees.Head.{Head}
use Rattle.tff_grammar.specs.declared.trees.Head.TheVariants as head
use Rattle.tff_grammar.specs.declared.trees.Term.{Term}
use Rattle.tff_grammar.specs.declared.trees.Term.TheOpen as t
use Rattle.tff_grammar.specs.declared.trees.Term.TheOpen.{Term-F}
use Rattle.tff_grammar.specs.declared.trees.Term.TheFolds.{fold-Term}
use Rattle.tff_grammar.specs.declared.trees.Formula.{Formula}
use Rattle.tff_grammar.specs.declared.trees.Formula.TheOpen as f
use Rattle.tff_grammar.specs.declared.trees.Formula.TheOpen.{Formula-F}
use Rattle.tff_grammar.specs.declared.trees.Formula.TheFolds.{fold-Formula}
use Rattle.tff_grammar.specs.declared.trees.Content.{Content}
use Rattle.tff_grammar.specs.declared.trees.Content.TheVariants as content
use Rattle.tff_grammar.specs.declared.trees.Statement.{Statement}
use Rattle.tff_signature.specs.declared.faults.LaterName.TheVariants.{NonLinear, NumberTooWide}
use Rattle.tff_reader.specs.declared.numbers.Computed.{Computed}
use Rattle.tff_reader.specs.declared.numbers.Computed.TheVariants.{Value, Wide}
use Rattle.tff_signature.specs.Faults.{Faults, alone}

-- ---- the steps of computing a number-term

-- a number from -2^127 to 2^127 - 1; `negsuc n` is -1 - n
abbrev pub is_in_range : ℤ → Bool
is_in_range (pos n) = nat_lt n (2 ^ 127)
is_in_range (negsuc n) = nat_lt n (2 ^ 127)

-- a number that is formed; once one leaves the range, the term has no value
abbrev pub formed : ℤ → Computed
formed z = if is_in_range z then Value z else Wide

-- the sum of two values
abbrev pub sum : Computed → Computed → Computed
sum (Value a) (Value b) = formed (a +ℤ b)
sum (Value a) Wide = Wide
sum Wide b = Wide

-- the product of two values
abbrev pub product : Computed → Computed → Computed
product (Value a) (Value b) = formed (a *ℤ b)
product (Value a) Wide = Wide
product Wide b = Wide

-- -1 times a number
abbrev pub negative : Computed → Computed
negative a = product (Value (negsuc 0)) a

-- an arithmetic word over number-terms
abbrev pub operated : Operation → List (Option Computed) → Option Computed
operated o.Sum (Some a ∷ Some b ∷ []) = Some (sum a b)
operated o.Difference (Some a ∷ Some b ∷ []) = Some (sum a (negative b))
operated o.Uminus (Some a ∷ []) = Some (negative a)
operated o.Product (Some a ∷ Some b ∷ []) = Some (product a b)
operated op numbers = None

-- None where a head gives no number-term
abbrev pub head_number : Head → List (Option Computed) → Option Computed
head_number (head.Word w) numbers = None
head_number (head.Operation op s) numbers = operated op numbers

-- ---- products

-- the number-term of a product: its first argument where that is one, else its second
abbrev pub factor : List (Option Computed) → Option Computed
factor [] = None
factor (Some c ∷ more) = Some c
factor (None ∷ more) = factor more

-- the fault of a `$product` at this byte, by its number-term
abbrev pub product_fault : ℕ → Option Computed → Faults
product_fault at None = alone NonLinear at
product_fault at (Some Wide) = alone NumberTooWide at
product_fault at (Some (Value k)) = []

-- the fault of a head over these arguments, which a `$product` alone has
abbrev pub head_fault : Head → List (Option Computed) → Faults
head_fault (head.Operation o.Product s) numbers = product_fault s.start (factor numbers)
head_fault h numbers = []

-- what a term computes to, and its products
pub record Products : Type 0 where
  -- None where the term is no number-term
  pub number : Option Computed
  -- the faults of its products, in reading order
  pub faults : Faults

-- what these compute to
abbrev pub numbers_of : List Products → List (Option Computed)
numbers_of = map (λ p. p.number)

-- one layer of a term
abbrev pub products_step : Term-F Products → Products
products_step (t.Variable s) = record { number = None; faults = [] }
products_step (t.Numeral m) = record { number = Some (Value m.value); faults = [] }
products_step (t.Apply h args) = record {
  number = head_number h (numbers_of args);
  faults = head_fault h (numbers_of args) ++ flat_map (λ p. p.faults) args;
}

-- the products of a term
abbrev pub products : Term → Products
products = fold-Term Products products_step

-- one layer of a formula
abbrev pub product_faults_step : Formula-F Faults → Faults
product_faults_step (f.Constant b) = []
product_faults_step (f.Atom s) = (products s).faults
product_faults_step (f.Relation r s u) = (products s).faults ++ (products u).faults
product_faults_step (f.Not g) = g
product_faults_step (f.Quantified q vs g) = g
product_faults_step (f.Linked l g h) = g ++ h
product_faults_step (f.Joined j gs) = flat_map (λ g. g) gs

-- the faults of the products of a formula, in reading order
abbrev pub product_faults : Formula → Faults
product_faults = fold-Formula Faults product_faults_step

-- the faults of the products of a statement
abbrev pub content_products : Content → Faults
content_products (content.Declaration w ty) = []
content_products (content.Premise g) = product_faults g
content_products (content.Conjecture g) = product_faults g

-- the faults of all products, in file order
abbrev pub phase_4 : List Statement → Faults
phase_4 = flat_map (λ s. content_products s.content)
