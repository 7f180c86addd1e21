-- A walk through a term that looks for the first one to define.
use Rattle.std.specs.Prelude.{Bool, true, false, List, Option, Some, None, if◌then◌else◌}
use Rattle.std.specs.Option.{is_some, option_or}
use Rattle.term_base.specs.declared.symbols.Symbol.{Symbol}
use Rattle.term_base.specs.Trees.{Head, Tree, Trees, var, node, none, more}
use Rattle.term_base.specs.Lits.{Lit}
use Rattle.define_rule.specs.Pins.{pinned}
use Rattle.define_rule.specs.NextTerm.{is_integer_head}

-- the first term to define; or none, where each variable is pinned, or where some variable isn't
pub data Scan : Type 0 where
  found : Tree → Scan
  all_pinned : Scan
  not_pinned : Scan

-- what a list gives whose first term gave the first of these, and the others the second
abbrev pub then_scan : Scan → Scan → Scan
then_scan (found t) s = found t
then_scan all_pinned s = s
then_scan not_pinned (found t) = found t
then_scan not_pinned all_pinned = not_pinned
then_scan not_pinned not_pinned = not_pinned

-- what a term gives by its head and what its arguments gave
abbrev pub at_head : List Symbol → Head → Tree → Scan → Scan
at_head signature f t (found u) = found u
at_head signature f t all_pinned = if is_integer_head signature f then found t else all_pinned
at_head signature f t not_pinned = not_pinned

-- nothing is found, and each variable is pinned or some variable isn't
abbrev pub unfound : Bool → Scan
unfound true = all_pinned
unfound false = not_pinned

abbrev mutual
  pub scan : List Symbol → List Lit → Tree → Scan
  scan signature c (var v) = unfound (is_some (pinned signature c v))
  scan signature c (node f xs) = at_head signature f (node f xs) (scan_each signature c xs)

  pub scan_each : List Symbol → List Lit → Trees → Scan
  scan_each signature c none = all_pinned
  scan_each signature c (more x xs) = then_scan (scan signature c x) (scan_each signature c xs)

-- the first term to define
abbrev pub found_at : Scan → Option Tree
found_at (found t) = Some t
found_at all_pinned = None
found_at not_pinned = None

-- the first term to define of a literal, the left side first
abbrev pub literal_find : List Symbol → List Lit → Lit → Option Tree
literal_find signature c l = option_or (found_at (scan signature c l.left)) (found_at (scan signature c l.right))
