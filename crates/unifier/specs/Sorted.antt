-- Substitutions that keep sorts, whatever the kinds: what the search for a most general one speaks of.
use Rattle.std.specs.Prelude.{◌≡◌, Some, List}
use Rattle.term_base.specs.declared.symbols.Symbol.{Symbol}
use Rattle.term_base.specs.declared.variables.Variable.{Variable}
use Rattle.term_base.specs.Trees.{Tree}
use Rattle.term_base.specs.Sorting.{sort}
use Rattle.term_base.specs.Substitution.{put_in}

-- each variable goes to a term of its sort
abbrev pub KeepsSorts : List Symbol → (Variable → Tree) → Type 0
KeepsSorts signature s = (v : Variable) → sort signature (s v) ≡ Some v.sort

-- s makes l and u equal, and whatever does goes on from it, on all variables
pub record IsGeneral (signature : List Symbol) (l u : Tree) (s : Variable → Tree) : Type 0 where
  pub equal : put_in s l ≡ put_in s u
  pub sorted : KeepsSorts signature s
  pub general : (r : Variable → Tree) → KeepsSorts signature r → put_in r l ≡ put_in r u → (v : Variable) → put_in r (s v) ≡ r v

-- nothing that keeps sorts makes the trees equal
abbrev pub NoneSorted : List Symbol → Tree → Tree → Type 0
NoneSorted signature l u = (r : Variable → Tree) → KeepsSorts signature r → put_in r l ≡ put_in r u → ⊥
