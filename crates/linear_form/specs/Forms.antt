-- The form in which two literals over the integers are compared: an inequality's sum is tightened, that of an equation or a disequation is divided by the common divisor of all its numbers, and its first coefficient is made positive. The numbers are whole numbers without limit.
use Rattle.std.specs.Prelude.{ℕ, ℤ, pos, neg_ℤ, int_div, int_lt, ◌+ℤ◌, Bool, true, false, ◌&&◌, ◌==◌, List, [], ◌∷◌, map, Option, Some, None, if◌then◌else◌}
use Rattle.std.specs.Ordering.{int_eq}
use Rattle.std.specs.List.{list_all}
use Rattle.term_base.specs.Trees.{Tree}
use Rattle.term_base.specs.Lits.{Relation, equal, differ, at_most}
use Rattle.lin_base.specs.declared.sums.Lin.{Lin}
use Rattle.lin_base.specs.declared.facts.Fact.TheVariants.{AtMostZero}
use Rattle.lin_base.specs.Whole.{gcd}
use Rattle.lin_base.specs.Sum.{Terms}
use Rattle.lin_base.specs.Fact.{sum_of}
use Rattle.lin_base.specs.Change.{tight, common_divisor}
use Rattle.linear_form.specs.Summands.{place}

-- each number divided by g; where all are 0 the sum stays
abbrev pub divided_by : ℕ → Lin → Lin
divided_by g t = if g == 0 then t else record { coefs = map (λ e. (e.0, int_div e.1 (pos g))) t.coefs; constant = int_div t.constant (pos g) }

-- divided by the common divisor of all numbers
abbrev pub divided : Lin → Lin
divided t = divided_by (gcd t.constant (pos (common_divisor t.coefs))) t

-- the relation is that of an inequality
abbrev pub is_inequality : Relation → Bool
is_inequality equal = false
is_inequality differ = false
is_inequality at_most = true

-- tightened, or divided
abbrev pub reduced_by : Relation → Lin → Lin
reduced_by equal t = divided t
reduced_by differ t = divided t
reduced_by at_most t = sum_of (tight (AtMostZero t))

-- the first coefficient is negative
abbrev pub starts_negative : Terms → Bool
starts_negative [] = false
starts_negative (e ∷ es) = int_lt e.1 (pos 0)

-- the signs of an inequality stay, those of another literal change where its first coefficient is negative
abbrev pub turned_by : Relation → Lin → Bool
turned_by equal t = starts_negative t.coefs
turned_by differ t = starts_negative t.coefs
turned_by at_most t = false

-- a sum over terms, the unknown n being the term n: Linear, what it is reduced to, and whether all signs of this change
pub record Form : Type 0 where
  pub terms : List Tree
  pub sum : Lin
  pub reduced : Lin
  pub turned : Bool

-- the form of a literal's Linear
abbrev pub form : Relation → List Tree → Lin → Form
form r ts t = record { terms = ts; sum = t; reduced = reduced_by r t; turned = turned_by r (reduced_by r t) }

-- a number, its sign changed or not
abbrev pub signed : Bool → ℤ → ℤ
signed turned z = if turned then neg_ℤ z else z

-- a is -b
abbrev pub are_opposite : ℤ → ℤ → Bool
are_opposite a b = int_eq (a +ℤ b) (pos 0)

-- the coefficient at x, 0 where x doesn't occur
abbrev pub coefficient_at : ℕ → Terms → ℤ
coefficient_at x [] = pos 0
coefficient_at x (e ∷ es) = if e.0 == x then e.1 else coefficient_at x es

-- the coefficient of a term in the reduced sum
abbrev pub coefficient : Form → Tree → ℤ
coefficient f t = coefficient_at (place t f.terms) f.reduced.coefs

-- a term has the same coefficient in both
abbrev pub agree_at : Form → Form → Tree → Bool
agree_at f g t = int_eq (signed f.turned (coefficient f t)) (signed g.turned (coefficient g t))

-- the constants are equal, and each term has the same coefficient in both
abbrev pub same_form : Form → Form → Bool
same_form f g =
    int_eq (signed f.turned f.reduced.constant) (signed g.turned g.reduced.constant)
    && (list_all (agree_at f g) f.terms && list_all (agree_at f g) g.terms)

-- both have a form, and it is the same
abbrev pub same_forms : Option Form → Option Form → Bool
same_forms None g = false
same_forms (Some f) None = false
same_forms (Some f) (Some g) = same_form f g
