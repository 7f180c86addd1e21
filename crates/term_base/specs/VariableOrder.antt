-- The order of variables: by kind, then by sort, then by number.
use Rattle.std.specs.Prelude.{ℕ}
use Rattle.std.specs.Ordering.{nat_cmp, on, then_cmp}
use Rattle.std.specs.declared.cmp.Ordering.{Ordering}
use Rattle.term_base.specs.declared.symbols.Sort.{Sort}
use Rattle.term_base.specs.declared.symbols.Sort.TheVariants.{Individual, Int, Declared, Truth}
use Rattle.term_base.specs.declared.variables.Kind.{Kind}
use Rattle.term_base.specs.declared.variables.Kind.TheVariants.{Abstraction, Ordinary}
use Rattle.term_base.specs.declared.variables.Variable.{Variable}

-- abstraction variables come before ordinary ones
abbrev pub kind_rank : Kind → ℕ
kind_rank Abstraction = 0
kind_rank Ordinary = 1

abbrev pub kind_cmp : Kind → Kind → Ordering
kind_cmp = on kind_rank nat_cmp

abbrev pub sort_rank : Sort → ℕ
sort_rank Individual = 0
sort_rank Int = 1
sort_rank (Declared n) = 2
sort_rank Truth = 3

abbrev pub declared_number : Sort → ℕ
declared_number (Declared n) = n
declared_number _ = 0

-- sorts in the order in which their type lists them, declared ones by number
abbrev pub sort_cmp : Sort → Sort → Ordering
sort_cmp = then_cmp (on sort_rank nat_cmp) (on declared_number nat_cmp)

abbrev pub variable_cmp : Variable → Variable → Ordering
variable_cmp = then_cmp (on (λ v. v.kind) kind_cmp) (then_cmp (on (λ v. v.sort) sort_cmp) (on (λ v. v.id) nat_cmp))
