-- Conclusions of one rule, and how the variables of an answer are numbered.
use Rattle.std.specs.Prelude.{◌≡◌, ◌⊎◌, ℕ, Bool, true, false, List}
use Rattle.term_base.specs.declared.places.Place.{Place}
use Rattle.term_base.specs.declared.places.Side.{Side}
use Rattle.term_base.specs.declared.symbols.Symbol.{Symbol}
use Rattle.term_base.specs.declared.variables.Variable.{Variable}
use Rattle.term_base.specs.Trees.{Tree, var}
use Rattle.term_base.specs.Known.{is_known_clause, KnownImages}
use Rattle.term_base.specs.Substitution.{Simple}
use Rattle.term_base.specs.Lits.{Lit, clause_occurs}
use Rattle.term_base.specs.Places.{named}
use Rattle.unifier.specs.Unifiers.{IsMostGeneral, IsMostGeneralPair, IsInImage, AreNumbered}
use Rattle.hier_rules.specs.declared.inferences.Candidate.{Candidate}
use Rattle.hier_rules.specs.declared.inferences.Candidate.TheVariants.{Superpose, Resolve, Factor, Define}
use Rattle.hier_rules.specs.Premises.{Superposable, Resolvable, Factorable}
use Rattle.hier_rules.specs.Fires.{IsInstance}

-- what a rule asks of two substitutions and of the clause that it gives
abbrev pub Rule : Type 1
Rule = (Variable → Tree) → (Variable → Tree) → List Lit → Type 0

-- k is what the rule gives for s1 and s2, and whatever it gives is an instance of k
pub record IsConclusion (signature : List Symbol) (rule : Rule) (s1 s2 : Variable → Tree) (k : List Lit) : Type 0 where
  pub simple1 : Simple signature s1
  pub simple2 : Simple signature s2
  pub fires : rule s1 s2 k
  pub covers : (r1 r2 : Variable → Tree) (e : List Lit) → Simple signature r1 → Simple signature r2 → rule r1 r2 e → IsInstance signature k e

-- the rule gives nothing, for whatever simple substitutions
abbrev pub GivesNothing : List Symbol → Rule → Type 0
GivesNothing signature rule = (r1 r2 : Variable → Tree) (e : List Lit) → Simple signature r1 → Simple signature r2 → rule r1 r2 e → ⊥

-- ---- premises with most general substitutions on all their variables

pub record UnifiesPair (signature : List Symbol) (c d : List Lit) (literal : ℕ) (side : Side) (place : Place) (s1 s2 : Variable → Tree) : Type 0 where
  pub l : Lit
  pub m : Lit
  pub u : Tree
  pub premises : Superposable signature c d literal place l m u
  pub general : IsMostGeneralPair signature (λ v. clause_occurs v c) (λ v. clause_occurs v d) (named side l) u s1 s2

pub record UnifiesSides (signature : List Symbol) (c : List Lit) (literal : ℕ) (s : Variable → Tree) : Type 0 where
  pub l : Lit
  pub premise : Resolvable signature c literal l
  pub general : IsMostGeneral signature (λ v. clause_occurs v c) l.left l.right s

pub record UnifiesEquations (signature : List Symbol) (c : List Lit) (first : ℕ) (first_side : Side) (second : ℕ) (second_side : Side) (s : Variable → Tree) : Type 0 where
  pub l : Lit
  pub m : Lit
  pub premise : Factorable signature c first second l m
  pub general : IsMostGeneral signature (λ v. clause_occurs v c) (named first_side l) (named second_side m) s

-- ---- numbers of variables

-- the variables in the images of the clauses' variables have the numbers from 0 on, each its own
abbrev pub NumbersPair : List Lit → List Lit → (Variable → Tree) → (Variable → Tree) → Type 0
NumbersPair c d s1 s2 = AreNumbered (λ z. IsInImage (λ v. clause_occurs v c) s1 z ⊎ IsInImage (λ v. clause_occurs v d) s2 z)

abbrev pub NumbersOne : List Lit → (Variable → Tree) → Type 0
NumbersOne c s = AreNumbered (IsInImage (λ v. clause_occurs v c) s)

-- the variables of an answer, by the premises that the candidate has
abbrev pub IsNumbered : List Lit → List Lit → Candidate → (Variable → Tree) → (Variable → Tree) → Type 0
IsNumbered c d (Superpose from literal side into place) s1 s2 = NumbersPair c d s1 s2
IsNumbered c d (Resolve of literal) s1 s2 = NumbersOne c s1
IsNumbered c d (Factor of first first_side second second_side) s1 s2 = NumbersOne c s1
IsNumbered c d (Define of term) s1 s2 = ⊥

-- ---- other variables

-- the variables outside V stay as they are
abbrev pub Keeps : (Variable → Bool) → (Variable → Tree) → Type 0
Keeps V s = (v : Variable) → V v ≡ false → s v ≡ var v

-- every variable stays as it is
abbrev pub ChangesNothing : (Variable → Tree) → Type 0
ChangesNothing s = (v : Variable) → s v ≡ var v

-- each substitution keeps the variables that its clause hasn't
abbrev pub KeepsPair : List Lit → List Lit → (Variable → Tree) → (Variable → Tree) → Type 0
KeepsPair c d s1 s2 = Keeps (λ v. clause_occurs v c) s1 × Keeps (λ v. clause_occurs v d) s2

-- the first substitution keeps the variables that the clause hasn't, and the second one changes nothing
abbrev pub KeepsOne : List Lit → (Variable → Tree) → (Variable → Tree) → Type 0
KeepsOne c s1 s2 = Keeps (λ v. clause_occurs v c) s1 × ChangesNothing s2

-- the variables that the premises of the candidate haven't stay as they are
abbrev pub KeepsOthers : List Lit → List Lit → Candidate → (Variable → Tree) → (Variable → Tree) → Type 0
KeepsOthers c d (Superpose from literal side into place) s1 s2 = KeepsPair c d s1 s2
KeepsOthers c d (Resolve of literal) s1 s2 = KeepsOne c s1 s2
KeepsOthers c d (Factor of first first_side second second_side) s1 s2 = KeepsOne c s1 s2
KeepsOthers c d (Define of term) s1 s2 = ⊥

-- ---- symbols

-- whatever number the symbols of the clauses are below, those of the images are below it
abbrev pub KnownPair : List Lit → List Lit → (Variable → Tree) → (Variable → Tree) → Type 0
KnownPair c d s1 s2 = (n : ℕ) → is_known_clause n c ≡ true → is_known_clause n d ≡ true → KnownImages n s1 × KnownImages n s2

abbrev pub KnownOne : List Lit → (Variable → Tree) → (Variable → Tree) → Type 0
KnownOne c s1 s2 = (n : ℕ) → is_known_clause n c ≡ true → KnownImages n s1 × KnownImages n s2

-- the same of the premises of the candidate
abbrev pub KeepsSymbols : List Lit → List Lit → Candidate → (Variable → Tree) → (Variable → Tree) → Type 0
KeepsSymbols c d (Superpose from literal side into place) s1 s2 = KnownPair c d s1 s2
KeepsSymbols c d (Resolve of literal) s1 s2 = KnownOne c s1 s2
KeepsSymbols c d (Factor of first first_side second second_side) s1 s2 = KnownOne c s1 s2
KeepsSymbols c d (Define of term) s1 s2 = ⊥
