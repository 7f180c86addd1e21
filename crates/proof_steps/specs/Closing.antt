-- Background clauses that a certificate refutes.
use Rattle.std.specs.Prelude.{ℕ, Bool, ◌&&◌, is_none, List, [], ◌∷◌, Option, Some, None, option_map, slice_get}
use Rattle.term_base.specs.declared.symbols.Symbol.{Symbol}
use Rattle.term_base.specs.declared.clauses.Clause.{Clause}
use Rattle.cert_tree.specs.declared.certs.Cert.{Cert}
use Rattle.cert_tree.specs.Stands.{stands}
use Rattle.bg_view.specs.Background.{are_background}
use Rattle.bg_view.specs.View.{view, view_steps, first_wide_at}
use Rattle.proof_steps.specs.declared.steps.Step.{Step}

-- the clause of a step
abbrev pub clause_of : Step → Clause
clause_of s = s.clause

-- the clause of an earlier step, if there is one of this number
abbrev pub at_step : List Step → ℕ → Option Clause
at_step before k = option_map clause_of (slice_get before k)

-- a clause in front of others, where all are there
abbrev pub and_clause : Option Clause → Option (List Clause) → Option (List Clause)
and_clause None cs = None
and_clause (Some c) None = None
and_clause (Some c) (Some cs) = Some (c ∷ cs)

-- the clauses of several earlier steps, if all are there
abbrev pub at_steps : List Step → List ℕ → Option (List Clause)
at_steps before [] = Some []
at_steps before (k ∷ ks) = and_clause (at_step before k) (at_steps before ks)

-- the clauses have a view whose numbers are in the range, and the certificate stands for its pool
abbrev pub view_stands : List Clause → Cert → Bool
view_stands clauses cert = is_none (first_wide_at 0 (view_steps clauses)) && stands (view clauses).pool cert

-- they are background clauses, and the certificate stands for their pool
abbrev pub refutes : List Symbol → Cert → List Clause → Bool
refutes signature cert clauses = are_background signature clauses && view_stands clauses cert
