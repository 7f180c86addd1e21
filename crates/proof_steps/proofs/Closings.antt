-- Certificates that stand for the pool of background clauses.
use Rattle.std.specs.Prelude.{◌≡◌, ℕ, Bool, true, false, ◌&&◌, is_none, List, Some, None, Result, IfOk}
use Rattle.std.specs.Option.{option_map_or}
use Rattle.std.proofs.Common.{sym, ◌∙◌, ap, subst}
use Rattle.term_base.specs.declared.clauses.Clause.{Clause}
use Rattle.term_base.specs.declared.symbols.Symbol.{Symbol}
use Rattle.term_base.specs.Lits.{Lit}
use Rattle.cert_tree.specs.declared.certs.Cert.{Cert}
use Rattle.cert_tree.specs.Stands.{stands}
use Rattle.bg_view.specs.declared.viewing.Viewed.{Viewed}
use Rattle.bg_view.specs.declared.viewing.WideAt.{WideAt}
use Rattle.bg_view.specs.View.{view, view_steps, first_wide_at}
use Rattle.proof_steps.specs.declared.steps.Step.{Step}
use Rattle.proof_steps.specs.Closing.{at_steps, view_stands, refutes}
use Rattle.proof_steps.specs.Standing.{is_empty_clause, close_stands}

module _ (clauses : List Clause) (cert : Cert) where
  -- the answer for the view's pool
  pub view-stands : {E : Type 0} (r : Result Bool E) (v : Viewed) → first_wide_at 0 (view_steps clauses) ≡ None → v ≡ view clauses →
      IfOk r (λ yes. yes ≡ stands v.pool cert) → IfOk r (λ yes. yes ≡ view_stands clauses cert)
  view-stands r v narrow is told =
      let same : stands v.pool cert ≡ view_stands clauses cert =
      ap (λ (w : Viewed). stands w.pool cert) is ∙ sym (ap (λ o. is_none o && stands (view clauses).pool cert) narrow) in
      subst (λ b. IfOk r (λ yes. yes ≡ b)) same told

  -- a number leaves the range
  pub view-wide : (w : WideAt) → first_wide_at 0 (view_steps clauses) ≡ Some w → false ≡ view_stands clauses cert
  view-wide w wide = sym (ap (λ o. is_none o && stands (view clauses).pool cert) wide)

module _ (signature : List Symbol) (before : List Step) (of : List ℕ) (cert : Cert) (c : List Lit) where
  -- the answer for the clauses of the steps
  pub close-there : {E : Type 0} (r : Result Bool E) (clauses : List Clause) → is_empty_clause c ≡ true → at_steps before of ≡ Some clauses →
      IfOk r (λ yes. yes ≡ refutes signature cert clauses) → IfOk r (λ yes. yes ≡ close_stands signature before of cert c)
  close-there r clauses empty there told =
      let same : refutes signature cert clauses ≡ close_stands signature before of cert c =
      sym (ap (λ b. b && option_map_or (refutes signature cert) (at_steps before of) false) empty
      ∙ ap (λ o. option_map_or (refutes signature cert) o false) there) in
      subst (λ b. IfOk r (λ yes. yes ≡ b)) same told
