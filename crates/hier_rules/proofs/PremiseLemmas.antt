-- What the code finds of the premises.
use Rattle.std.proofs.Common.{◌≡◌, ◌≢◌, ℕ, true, false, List, refl}
use Rattle.std.specs.Prelude.{Some}
use Rattle.term_base.specs.declared.places.Place.{Place}
use Rattle.term_base.specs.declared.places.Side.{Side}
use Rattle.term_base.specs.declared.symbols.Symbol.{Symbol}
use Rattle.term_base.specs.declared.variables.Variable.{Variable}
use Rattle.term_base.specs.Clauses.{is_background}
use Rattle.term_base.specs.LitLemmas.{first_of}
use Rattle.term_base.specs.Lits.{Lit, clause_occurs}
use Rattle.term_base.specs.Places.{named, item, at_path, tree_at}
use Rattle.term_base.specs.Trees.{Tree, var, node}
use Rattle.unifier.specs.Unifiers.{IsMostGeneral, IsMostGeneralPair}
use Rattle.hier_rules.specs.Conclusions.{UnifiesPair, UnifiesSides, UnifiesEquations}
use Rattle.hier_rules.specs.Heads.{is_variable}
use Rattle.hier_rules.specs.Premises.{IsEquation, IsDisequation, Superposable, Resolvable, Factorable}

no_variable : (u : Tree) → is_variable u ≡ false → (v : Variable) → u ≢ var v
no_variable (var w) h v e = cc
no_variable (node f xs) h v e = cc

pub a_variable : (u : Tree) → is_variable u ≡ true → (v : Variable) × (u ≡ var v)
a_variable (var w) h = (w, refl)
a_variable (node f xs) h = cc

module _ (S : List Symbol) (c d : List Lit) (n : ℕ) (side : Side) (place : Place) (l : Lit) (u : Tree)
    (first : is_background S c ≡ false) (second : is_background S d ≡ false) (from : IsEquation c n l) (there : tree_at d place ≡ Some u) (open_term : is_variable u ≡ false) where
  -- the literal of the place
  abbrev into : (m : Lit) × ((item place.literal d ≡ Some m) × (at_path place.path (named place.side m) ≡ Some u))
  into = first_of (λ m. at_path place.path (named place.side m)) (item place.literal d) u there

  pub superposable : Superposable S c d n place l into.0 u
  superposable = record {
    first = first;
    second = second;
    from = from;
    into = into.1.0;
    there = into.1.1;
    no_variable = no_variable u open_term;
  }

  pub unifies_pair : (s1 s2 : Variable → Tree) → IsMostGeneralPair S (λ v. clause_occurs v c) (λ v. clause_occurs v d) (named side l) u s1 s2 → UnifiesPair S c d n side place s1 s2
  unifies_pair s1 s2 g = record { l = l; m = into.0; u = u; premises = superposable; general = g }

module _ (S : List Symbol) (c : List Lit) (n : ℕ) (l : Lit) (foreground : is_background S c ≡ false) (from : IsDisequation c n l) where
  pub resolvable : Resolvable S c n l
  resolvable = record { foreground = foreground; from = from }

  pub unifies_sides : (s : Variable → Tree) → IsMostGeneral S (λ v. clause_occurs v c) l.left l.right s → UnifiesSides S c n s
  unifies_sides s g = record { l = l; premise = resolvable; general = g }

module _ (S : List Symbol) (c : List Lit) (first : ℕ) (first_side : Side) (second : ℕ) (second_side : Side) (l m : Lit)
    (foreground : is_background S c ≡ false) (from : IsEquation c first l) (into : IsEquation c second m) (two : first ≢ second) where
  pub factorable : Factorable S c first second l m
  factorable = record { foreground = foreground; from = from; into = into; two = two }

  pub unifies_equations : (s : Variable → Tree) → IsMostGeneral S (λ v. clause_occurs v c) (named first_side l) (named second_side m) s
      → UnifiesEquations S c first first_side second second_side s
  unifies_equations s g = record { l = l; m = m; premise = factorable; general = g }
