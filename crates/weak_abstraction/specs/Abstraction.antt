-- Abstractions of a clause: some of its terms are replaced by new variables, and x != t stands behind for each.
use Rattle.std.specs.Prelude.{◌≡◌, ◌≢◌, true, false, List, [], ◌∷◌, ◌++◌, map, if◌then◌else◌}
use Rattle.term_base.specs.declared.symbols.Sort.TheVariants.{Int}
use Rattle.term_base.specs.declared.symbols.Symbol.{Symbol}
use Rattle.term_base.specs.declared.terms.Purity.{Purity}
use Rattle.term_base.specs.declared.terms.Purity.TheVariants.{Pure, Impure, Foreground}
use Rattle.term_base.specs.declared.variables.Kind.TheVariants.{Abstraction, Ordinary}
use Rattle.term_base.specs.declared.variables.Variable.{Variable}
use Rattle.term_base.specs.Same.{same_variable}
use Rattle.term_base.specs.Trees.{Tree, var, occurs}
use Rattle.term_base.specs.Purity.{purity}
use Rattle.term_base.specs.Lits.{Lit, disequation, put_clause, clause_occurs}

-- a fact of each variable with the term that it replaces
abbrev pub EachName : ((Variable × Tree) → Type 0) → List (Variable × Tree) → Type 0
EachName P [] = Unit {0}
EachName P (p ∷ ps) = P p × EachName P ps

-- an abstraction variable for a Pure term, an ordinary variable of sort Int for an Impure one
abbrev pub StandsFor : Variable → Purity → Type 0
StandsFor v Pure = v.kind ≡ Abstraction
StandsFor v Impure = (v.kind ≡ Ordinary) × (v.sort ≡ Int)
StandsFor v Foreground = ⊥

-- no two of the variables are one
abbrev pub VariablesDiffer : List (Variable × Tree) → Type 0
VariablesDiffer [] = Unit {0}
VariablesDiffer (p ∷ ps) = EachName (λ q. p.0 ≢ q.0) ps × VariablesDiffer ps

-- no two of the terms are one: equal terms share a variable
abbrev pub TermsDiffer : List (Variable × Tree) → Type 0
TermsDiffer [] = Unit {0}
TermsDiffer (p ∷ ps) = EachName (λ q. p.1 ≢ q.1) ps × TermsDiffer ps

-- x != t
abbrev pub definition : Variable × Tree → Lit
definition p = disequation (var p.0) p.1

-- t != t
abbrev pub from_itself : Variable × Tree → Lit
from_itself p = disequation p.1 p.1

-- each variable goes back to its term
abbrev pub put_back : List (Variable × Tree) → Variable → Tree
put_back [] v = var v
put_back (p ∷ ps) v = if same_variable p.0 v then p.1 else put_back ps v

-- d is c with some terms replaced by new variables, followed by one literal x != t for each variable x and its term t; to put each
-- t back for its x gives c and literals t != t
pub record IsAbstraction (signature : List Symbol) (c d : List Lit) : Type 0 where
  pub names : List (Variable × Tree)
  pub body : List Lit
  pub shape : d ≡ body ++ map definition names
  pub kinds : EachName (λ p. StandsFor p.0 (purity signature p.1)) names
  pub distinct : VariablesDiffer names
  pub new : EachName (λ p. clause_occurs p.0 c ≡ false) names
  pub apart : EachName (λ p. EachName (λ q. occurs p.0 q.1 ≡ false) names) names
  pub back : put_clause (put_back names) d ≡ c ++ map from_itself names

-- an abstraction in which each variable stands for a term somewhere, and equal terms share one
pub record IsSharing (signature : List Symbol) (c d : List Lit) : Type 0 where
  pub abstraction : IsAbstraction signature c d
  pub used : EachName (λ p. clause_occurs p.0 abstraction.body ≡ true) abstraction.names
  pub shared : TermsDiffer abstraction.names
