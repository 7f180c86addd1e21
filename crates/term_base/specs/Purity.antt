-- Foreground symbols, ordinary variables, and what a term is by them.
use Rattle.std.specs.Prelude.{◌≡◌, ℕ, Bool, true, false, ◌||◌, not, List, if◌then◌else◌, slice_get}
use Rattle.std.specs.Option.{option_map_or}
use Rattle.term_base.specs.declared.symbols.Class.{Class}
use Rattle.term_base.specs.declared.symbols.Class.TheVariants as class
use Rattle.term_base.specs.declared.symbols.Sort.TheVariants.{Int}
use Rattle.term_base.specs.declared.symbols.Symbol.{Symbol}
use Rattle.term_base.specs.declared.variables.Kind.TheVariants.{Abstraction}
use Rattle.term_base.specs.declared.terms.Purity.{Purity}
use Rattle.term_base.specs.declared.terms.Purity.TheVariants.{Pure, Impure, Foreground}
use Rattle.term_base.specs.declared.variables.Variable.{Variable}
use Rattle.term_base.specs.Same.{same_kind, same_sort}
use Rattle.term_base.specs.Trees.{Head, symbol, Tree, Trees, var, node, none, more}

abbrev pub is_foreground_class : Class → Bool
is_foreground_class class.Parameter = false
is_foreground_class class.Foreground = true

-- a symbol past the signature is a parameter
abbrev pub is_foreground : List Symbol → ℕ → Bool
is_foreground signature f = option_map_or (λ s. is_foreground_class s.class) (slice_get signature f) false

abbrev pub foreground_head : List Symbol → Head → Bool
foreground_head signature (symbol f) = is_foreground signature f
foreground_head signature _ = false

-- whether a foreground symbol is in it
abbrev mutual
  pub foreground : List Symbol → Tree → Bool
  foreground signature (var v) = false
  foreground signature (node f xs) = foreground_head signature f || any_foreground signature xs

  pub any_foreground : List Symbol → Trees → Bool
  any_foreground signature none = false
  any_foreground signature (more x xs) = foreground signature x || any_foreground signature xs

abbrev pub is_abstraction : Variable → Bool
is_abstraction v = same_kind v.kind Abstraction

-- whether an ordinary variable is in it
abbrev mutual
  pub ordinary : Tree → Bool
  ordinary (var v) = not (is_abstraction v)
  ordinary (node f xs) = any_ordinary xs

  pub any_ordinary : Trees → Bool
  any_ordinary none = false
  any_ordinary (more x xs) = ordinary x || any_ordinary xs

-- whether a variable of another sort than Int is in it
abbrev mutual
  pub foreign : Tree → Bool
  foreign (var v) = not (same_sort v.sort Int)
  foreign (node f xs) = any_foreign xs

  pub any_foreign : Trees → Bool
  any_foreign none = false
  any_foreign (more x xs) = foreign x || any_foreign xs

-- Foreground with a foreground symbol, else Impure with an ordinary variable, else Pure
abbrev pub purity : List Symbol → Tree → Purity
purity signature t = if foreground signature t then Foreground else (if ordinary t then Impure else Pure)

-- neither a foreground symbol nor an ordinary variable is in it
pub record IsPure (signature : List Symbol) (t : Tree) : Type 0 where
  pub no_foreground : foreground signature t ≡ false
  pub no_ordinary : ordinary t ≡ false
