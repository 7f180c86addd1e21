-- Written substitutions are simple.
use Rattle.std.specs.Prelude.{◌≡◌, ◌↔◌, ℕ, Bool, true, IsTrue, List}
use Rattle.std.specs.List.{list_all}
use Rattle.std.proofs.lemmas.Bool.{and_from}
use Rattle.term_base.specs.declared.symbols.Symbol.{Symbol}
use Rattle.term_base.specs.declared.terms.Term.{Term}
use Rattle.term_base.specs.declared.variables.Variable.{Variable}
use Rattle.term_base.specs.SameTerm.{either}
use Rattle.term_base.specs.TreeLemmas.{and-true}
use Rattle.term_base.specs.Substitution.{image, IsSubstitution, Simple}
use Rattle.term_base.specs.SimpleTest.{are_simple_pairs}
use Rattle.term_base.proofs.SimpleLemmas.{simple_pairs, pairs_simple}
use Rattle.step_rules.specs.Symbols.{is_known_pair, is_written}

module _ (signature : List Symbol) where
  -- an exact test is this one
  pub simple_test : (ps : List (Variable × Term)) (r : Bool) → IsSubstitution ps → IsTrue r ↔ Simple signature (image ps) → r ≡ are_simple_pairs signature ps
  simple_test ps r is exactly =
      either r (are_simple_pairs signature ps)
      (λ h. pairs_simple signature ps is (exactly.0 h))
      (λ h. exactly.1 (simple_pairs signature ps h))

  pub written : (n : ℕ) (ps : List (Variable × Term)) → IsSubstitution ps →
      (is_written signature n ps ≡ true) ↔ (Simple signature (image ps) × (list_all (is_known_pair n) ps ≡ true))
  written n ps is = (
    λ h. let two = and-true (are_simple_pairs signature ps) (list_all (is_known_pair n) ps) h in (simple_pairs signature ps two.0, two.1),
    λ h. and_from _ _ (pairs_simple signature ps is h.0) h.1,
  )
