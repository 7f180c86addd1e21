-- When an inference fires, for whatever simple substitutions, and the clause that it gives.
use Rattle.std.specs.Prelude.{◌≡◌, ℕ, List}
use Rattle.term_base.specs.declared.places.Place.{Place}
use Rattle.term_base.specs.declared.places.Side.{Side}
use Rattle.term_base.specs.declared.symbols.Symbol.{Symbol}
use Rattle.term_base.specs.declared.variables.Variable.{Variable}
use Rattle.term_base.specs.Trees.{Tree}
use Rattle.term_base.specs.Substitution.{put_in, Simple}
use Rattle.term_base.specs.Lits.{Lit, put_lit, put_clause}
use Rattle.term_base.specs.Places.{named, left_out}
use Rattle.hier_rules.specs.declared.inferences.Candidate.{Candidate}
use Rattle.hier_rules.specs.declared.inferences.Candidate.TheVariants.{Superpose, Resolve, Factor, Define}
use Rattle.hier_rules.specs.Premises.{Superposable, Resolvable, Factorable}
use Rattle.hier_rules.specs.Rules.{ReplacesBy, ReplacedIn, ResolvesBy, superposed, factored}

-- superposition from the named side of the equation l of c into the term u at a place of d
pub record Superposes (signature : List Symbol) (c d : List Lit) (literal : ℕ) (side : Side) (place : Place) (s1 s2 : Variable → Tree) (k : List Lit) : Type 0 where
  pub l : Lit
  pub m : Lit
  pub u : Tree
  pub premises : Superposable signature c d literal place l m u
  pub common : put_in s1 (named side l) ≡ put_in s2 u
  pub from : ReplacesBy signature (put_clause s1 c) literal side (put_lit s1 l)
  pub into : ReplacedIn signature (put_clause s2 d) place (put_lit s2 m)
  pub conclusion : k ≡ superposed (put_clause s1 c) (put_clause s2 d) literal side place (put_lit s1 l)

-- resolution of the disequation l of c with equal sides
pub record Resolves (signature : List Symbol) (c : List Lit) (literal : ℕ) (s1 : Variable → Tree) (k : List Lit) : Type 0 where
  pub l : Lit
  pub premise : Resolvable signature c literal l
  pub common : put_in s1 l.left ≡ put_in s1 l.right
  pub by : ResolvesBy signature (put_clause s1 c) literal (put_lit s1 l)
  pub conclusion : k ≡ left_out literal (put_clause s1 c)

-- factoring of the equations l and m of c, whose named sides are equal
pub record Factors (signature : List Symbol) (c : List Lit) (first : ℕ) (first_side : Side) (second : ℕ) (second_side : Side) (s1 : Variable → Tree) (k : List Lit) : Type 0 where
  pub l : Lit
  pub m : Lit
  pub premise : Factorable signature c first second l m
  pub common : put_in s1 (named first_side l) ≡ put_in s1 (named second_side m)
  pub by : ReplacesBy signature (put_clause s1 c) first first_side (put_lit s1 l)
  pub conclusion : k ≡ factored (put_clause s1 c) first_side second second_side (put_lit s1 l) (put_lit s1 m)

-- what the rule of the candidate asks; c is its first premise, or its only one
abbrev pub FiresBy : List Symbol → List Lit → List Lit → Candidate → (Variable → Tree) → (Variable → Tree) → List Lit → Type 0
FiresBy signature c d (Superpose from literal side into place) s1 s2 k = Superposes signature c d literal side place s1 s2 k
FiresBy signature c d (Resolve of literal) s1 s2 k = Resolves signature c literal s1 k
FiresBy signature c d (Factor of first first_side second second_side) s1 s2 k = Factors signature c first first_side second second_side s1 k
FiresBy signature c d (Define of term) s1 s2 k = ⊥

-- the clause k fires for the candidate, by these simple substitutions
pub record Fires (signature : List Symbol) (c d : List Lit) (candidate : Candidate) (s1 s2 : Variable → Tree) (k : List Lit) : Type 0 where
  pub simple1 : Simple signature s1
  pub simple2 : Simple signature s2
  pub by_rule : FiresBy signature c d candidate s1 s2 k

-- ---- conclusions

-- the second clause is the first one under a simple substitution
pub record IsInstance (signature : List Symbol) (k e : List Lit) : Type 0 where
  pub by : Variable → Tree
  pub simple : Simple signature by
  pub is : put_clause by k ≡ e

-- every clause that fires for the candidate is an instance of this one
abbrev pub CoversAll : List Symbol → List Lit → List Lit → Candidate → List Lit → Type 0
CoversAll signature c d candidate k = (r1 r2 : Variable → Tree) (e : List Lit) → Fires signature c d candidate r1 r2 e → IsInstance signature k e

-- no clause fires for the candidate
abbrev pub NothingFires : List Symbol → List Lit → List Lit → Candidate → Type 0
NothingFires signature c d candidate = (r1 r2 : Variable → Tree) (e : List Lit) → Fires signature c d candidate r1 r2 e → ⊥
