-- The derivations that answers are given by: of a clause that is empty, and of all clauses closed by a certificate.
use Rattle.std.specs.Prelude.{◌≡◌, ℕ, zero, suc, Bool, true, false, List, [], ◌∷◌, ◌++◌, length}
use Rattle.std.specs.List.{list_all}
use Rattle.term_base.specs.declared.clauses.Clause.{Clause}
use Rattle.term_base.specs.declared.preparation.Prepared.{Prepared}
use Rattle.term_base.specs.Lits.{lits}
use Rattle.term_base.specs.Clauses.{is_well_sorted}
use Rattle.term_base.specs.Known.{is_known_clause}
use Rattle.cert_tree.specs.declared.certs.Cert.{Cert}
use Rattle.proof_steps.specs.declared.steps.Rule.TheVariants.{Input, Close}
use Rattle.proof_steps.specs.declared.steps.Step.{Step}
use Rattle.proof_steps.specs.declared.steps.Derivation.{Derivation}
use Rattle.proof_text.specs.declared.kinds.Status.{Status}
use Rattle.proof_text.specs.declared.kinds.Status.TheVariants.{Theorem, Unsatisfiable}

-- ---- steps
-- the step that takes the clause of this number
abbrev pub input_step : ℕ → Clause → Step
input_step k c = record { rule = Input k; clause = c }

-- each clause is taken, numbered from k on
abbrev pub input_steps : ℕ → List Clause → List Step
input_steps k [] = []
input_steps k (c ∷ cs) = input_step k c ∷ input_steps (suc k) cs

-- so many numbers from k on
abbrev pub numbers : ℕ → ℕ → List ℕ
numbers k zero = []
numbers k (suc count) = k ∷ numbers (suc k) count

-- the clause that has no literal
abbrev pub empty_clause : Clause
empty_clause = record { literals = [] }

-- so many first steps are closed
abbrev pub close_step : ℕ → Cert → Step
close_step count cert = record { rule = Close (numbers 0 count) cert; clause = empty_clause }

-- all clauses are taken, and closed by the certificate
abbrev pub refutation_steps : List Clause → Cert → List Step
refutation_steps cs cert = input_steps 0 cs ++ close_step (length cs) cert ∷ []

-- ---- derivations
-- the one step takes the clause of this number, which is empty
abbrev pub empty_clause_derivation : Bool → ℕ → Derivation
empty_clause_derivation ordinary k = record { ordinary = ordinary; steps = input_step k empty_clause ∷ [] }

-- all clauses are taken, and closed by the certificate
abbrev pub refutation : Bool → List Clause → Cert → Derivation
refutation ordinary cs cert = record { ordinary = ordinary; steps = refutation_steps cs cert }

-- the status of a problem whose clauses contradict each other, in the SZS ontology: Theorem where it has a conjecture
abbrev pub szs_status : Bool → Status
szs_status true = Theorem
szs_status false = Unsatisfiable

-- ---- clauses
-- each clause is well sorted, and its symbols are there
abbrev pub AreProper : Prepared → List Clause → Type 0
AreProper p cs = (list_all (λ c. is_well_sorted p.symbols (lits c)) cs ≡ true) × (list_all (λ c. is_known_clause (length p.symbols) (lits c)) cs ≡ true)
