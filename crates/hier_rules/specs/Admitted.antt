-- What is decided of the instances of the premises, and the conclusion formed from them.
use Rattle.std.specs.Prelude.{◌≡◌, ℕ, List, Some}
use Rattle.term_base.specs.declared.places.Place.{Place}
use Rattle.term_base.specs.declared.places.Side.{Side}
use Rattle.term_base.specs.declared.symbols.Symbol.{Symbol}
use Rattle.term_base.specs.Lits.{Lit}
use Rattle.term_base.specs.Places.{item, left_out}
use Rattle.hier_rules.specs.Rules.{ReplacesBy, ReplacedIn, ResolvesBy, superposed, factored}

-- the literals of the instances c and d admit a superposition, whose conclusion is k
pub record AdmitsSuperposition (signature : List Symbol) (c d : List Lit) (literal : ℕ) (side : Side) (place : Place) (k : List Lit) : Type 0 where
  pub l : Lit
  pub m : Lit
  pub from_is : item literal c ≡ Some l
  pub into_is : item place.literal d ≡ Some m
  pub from : ReplacesBy signature c literal side l
  pub into : ReplacedIn signature d place m
  pub is : k ≡ superposed c d literal side place l

-- the literal of the instance c admits a resolution, whose conclusion is k
pub record AdmitsResolution (signature : List Symbol) (c : List Lit) (literal : ℕ) (k : List Lit) : Type 0 where
  pub l : Lit
  pub there : item literal c ≡ Some l
  pub by : ResolvesBy signature c literal l
  pub is : k ≡ left_out literal c

-- the literals of the instance c admit a factoring, whose conclusion is k
pub record AdmitsFactoring (signature : List Symbol) (c : List Lit) (first : ℕ) (first_side : Side) (second : ℕ) (second_side : Side) (k : List Lit) : Type 0 where
  pub l : Lit
  pub m : Lit
  pub first_is : item first c ≡ Some l
  pub second_is : item second c ≡ Some m
  pub by : ReplacesBy signature c first first_side l
  pub is : k ≡ factored c first_side second second_side l m
