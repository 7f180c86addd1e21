-- The places of a clause that count, in their order.
use Rattle.std.specs.Prelude.{ℕ, ◌+◌, Bool, true, false, ◌||◌, List, [], ◌∷◌, ◌++◌, map}
use Rattle.term_base.specs.declared.places.Place.{Place}
use Rattle.term_base.specs.declared.places.Side.{Side}
use Rattle.term_base.specs.declared.places.Side.TheVariants.{Left, Right}
use Rattle.term_base.specs.declared.symbols.Symbol.{Symbol}
use Rattle.term_base.specs.Trees.{times, Tree, Trees, var, node, none, more}
use Rattle.term_base.specs.Purity.{foreground, ordinary}
use Rattle.term_base.specs.Lits.{Lit}

-- a place counts where its term is neither a variable nor Pure
abbrev pub counts : List Symbol → Tree → Bool
counts signature (var v) = false
counts signature (node f xs) = foreground signature (node f xs) || ordinary (node f xs)

abbrev pub this_path : Bool → List ℕ → List (List ℕ)
this_path true path = path ∷ []
this_path false path = []

-- the paths of the places that count, in preorder, of a tree that stands at the end of a path, and of children that are numbered from n. The
-- number of a product is no child
abbrev mutual
  pub paths : List Symbol → List ℕ → Tree → List (List ℕ)
  paths signature path (var v) = []
  paths signature path (node times (more k xs)) = this_path (counts signature (node times (more k xs))) path ++ paths_each signature path 0 xs
  paths signature path (node f xs) = this_path (counts signature (node f xs)) path ++ paths_each signature path 0 xs

  pub paths_each : List Symbol → List ℕ → ℕ → Trees → List (List ℕ)
  paths_each signature path n none = []
  paths_each signature path n (more x xs) = paths signature (path ++ n ∷ []) x ++ paths_each signature path (n + 1) xs

-- the places of a side of a literal
abbrev pub place_of : ℕ → Side → List ℕ → Place
place_of n side path = record { literal = n; side = side; path = path }

abbrev pub side_places : List Symbol → ℕ → Side → Tree → List Place
side_places signature n side t = map (place_of n side) (paths signature [] t)

-- the places of a clause whose literals are numbered from n: by literal, by side, and in preorder
abbrev pub places : List Symbol → ℕ → List Lit → List Place
places signature n [] = []
places signature n (l ∷ ls) = side_places signature n Left l.left ++ (side_places signature n Right l.right ++ places signature (n + 1) ls)
