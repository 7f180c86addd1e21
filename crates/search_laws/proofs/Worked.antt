-- Worked pools: the premises of the laws are met.
use Rattle.std.specs.Prelude.{◌^◌, ◌<◌, ℕ, ℤ, pos, negsuc, List, [], ◌∷◌}
use Rattle.std.proofs.Common.{refl}
use Rattle.std.proofs.lemmas.Bool.{ltb-true}
use Rattle.lin_base.specs.declared.sums.Lin.{Lin}
use Rattle.lin_base.specs.declared.facts.Fact.TheVariants.{AtMostZero, Zero}
use Rattle.lin_base.specs.declared.facts.Pool.{Pool}
use Rattle.cert_tree.specs.declared.certs.Row.TheVariants.{Inst}
use Rattle.cert_tree.specs.declared.certs.Tree.TheOpen.{Case, Clash}
use Rattle.cert_tree.specs.declared.certs.Tree.TheViews.{roll-Tree}
use Rattle.cert_tree.specs.Stands.{Stands}
use Rattle.cert_tree.specs.Holds.{Holds}
use Rattle.cert_tree.specs.Measures.{span}
use Rattle.search_laws.proofs.Right.{right}

abbrev lin : List (ℕ × ℤ) → ℤ → Lin
lin ts c = record { coefs = ts; constant = c }

-- ---- for each y one at most the parameter: the grounding has a row, and the search closes
abbrev no_greatest : Pool
no_greatest = record { params = 1; clauses = (AtMostZero (lin ((0, negsuc 0) ∷ (1, pos 1) ∷ []) (pos 0)) ∷ []) ∷ [] }

small_span : span no_greatest < 2 ^ 127
small_span = ltb-true (span no_greatest) (2 ^ 127) refl

closed_stands : Stands no_greatest (record { rows = Inst 0 1 (pos 1) (lin ((0, pos 1) ∷ []) (pos 1)) ∷ []; tree = roll-Tree (Case 1 (roll-Tree (Clash 0) ∷ [])) })
closed_stands = right no_greatest refl small_span

-- ---- 2*u0 = u1, u1 <= 3, 2 <= u1: the search finds 1 and 2
abbrev halved : Pool
halved = record {
  params = 2;
  clauses = (Zero (lin ((0, pos 2) ∷ (1, negsuc 0) ∷ []) (pos 0)) ∷ []) ∷ (AtMostZero (lin ((1, pos 1) ∷ []) (negsuc 2)) ∷ []) ∷ (AtMostZero (lin ((1, negsuc 0) ∷ []) (pos 2)) ∷ []) ∷ [];
}

halved_span : span halved < 2 ^ 127
halved_span = ltb-true (span halved) (2 ^ 127) refl

found_check : Holds halved (pos 1 ∷ pos 2 ∷ [])
found_check = right halved refl halved_span
