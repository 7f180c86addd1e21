-- The variables of a clause.
use Rattle.std.proofs.Common.{◌≡◌, ℕ, zero, suc, Bool, true, false, ◌||◌, List, [], ◌∷◌, ◌++◌, refl, ap, sym, ◌∙◌, subst}
use Rattle.std.specs.Prelude.{Some}
use Rattle.term_base.specs.declared.places.Place.{Place}
use Rattle.term_base.specs.declared.places.Side.{Side}
use Rattle.term_base.specs.declared.places.Side.TheVariants.{Left, Right}
use Rattle.term_base.specs.declared.variables.Variable.{Variable}
use Rattle.term_base.specs.Same.{same_variable}
use Rattle.term_base.specs.LitLemmas.{first_of}
use Rattle.term_base.specs.Lits.{Lit, lit_occurs, clause_occurs}
use Rattle.term_base.specs.Places.{named, item, argument, argument_number, child, at_path, tree_at}
use Rattle.term_base.specs.TreeLemmas.{or-left, or-right}
use Rattle.term_base.specs.Trees.{Tree, Trees, var, node, none, more, occurs, any_occurs}
use Rattle.unifier.specs.Variables.{has}
use Rattle.hier_rules.specs.Occurrences.{gathered, all_gathered, lit_gathered, clause_gathered}

-- ---- lists of variables

or_assoc : (a b c : Bool) → ((a || b) || c) ≡ (a || (b || c))
or_assoc true b c = refl
or_assoc false b c = refl

or_nothing : (a : Bool) → (a || false) ≡ a
or_nothing true = refl
or_nothing false = refl

module _ (v : Variable) where
  has_append : (vs ws : List Variable) → has (vs ++ ws) v ≡ (has vs v || has ws v)
  has_append [] ws = refl
  has_append (w ∷ vs) ws = ap (λ b. same_variable w v || b) (has_append vs ws) ∙ sym (or_assoc (same_variable w v) (has vs v) (has ws v))

  mutual
    gathered_is : (t : Tree) (vs : List Variable) → has (gathered t vs) v ≡ (has vs v || occurs v t)
    gathered_is (var x) vs = has_append vs (x ∷ []) ∙ ap (λ b. has vs v || b) (or_nothing (same_variable x v))
    gathered_is (node f xs) vs = all_gathered_is xs vs

    all_gathered_is : (xs : Trees) (vs : List Variable) → has (all_gathered xs vs) v ≡ (has vs v || any_occurs v xs)
    all_gathered_is none vs = sym (or_nothing (has vs v))
    all_gathered_is (more x xs) vs =
        all_gathered_is xs (gathered x vs)
        ∙ ap (λ b. b || any_occurs v xs) (gathered_is x vs)
        ∙ or_assoc (has vs v) (occurs v x) (any_occurs v xs)

  lit_gathered_is : (l : Lit) (vs : List Variable) → has (lit_gathered l vs) v ≡ (has vs v || lit_occurs v l)
  lit_gathered_is l vs =
      gathered_is l.right (gathered l.left vs)
      ∙ ap (λ b. b || occurs v l.right) (gathered_is l.left vs)
      ∙ or_assoc (has vs v) (occurs v l.left) (occurs v l.right)

  clause_gathered_is : (c : List Lit) (vs : List Variable) → has (clause_gathered c vs) v ≡ (has vs v || clause_occurs v c)
  clause_gathered_is [] vs = sym (or_nothing (has vs v))
  clause_gathered_is (l ∷ ls) vs =
      clause_gathered_is ls (lit_gathered l vs)
      ∙ ap (λ b. b || clause_occurs v ls) (lit_gathered_is l vs)
      ∙ or_assoc (has vs v) (lit_occurs v l) (clause_occurs v ls)

  -- a list of the clause's variables has them
  pub has_is : (c : List Lit) (vs : List Variable) → vs ≡ clause_gathered c [] → has vs v ≡ clause_occurs v c
  has_is c vs is = ap (λ z. has z v) is ∙ clause_gathered_is c []

  -- ---- variables of a part are variables of the clause

  named_occurs : (side : Side) (l : Lit) → occurs v (named side l) ≡ true → lit_occurs v l ≡ true
  named_occurs Left l o = or-left (occurs v l.left) (occurs v l.right) o
  named_occurs Right l o = or-right (occurs v l.left) (occurs v l.right) o

  item_occurs : (n : ℕ) (c : List Lit) (l : Lit) → item n c ≡ Some l → lit_occurs v l ≡ true → clause_occurs v c ≡ true
  item_occurs n [] l e o = cc
  item_occurs zero (m ∷ ls) l e o = let i : l ≡ m = cc in or-left (lit_occurs v m) (clause_occurs v ls) (subst (λ z. lit_occurs v z ≡ true) i o)
  item_occurs (suc n) (m ∷ ls) l e o = or-right (lit_occurs v m) (clause_occurs v ls) (item_occurs n ls l e o)

  pub side_occurs : (n : ℕ) (c : List Lit) (l : Lit) (side : Side) → item n c ≡ Some l → occurs v (named side l) ≡ true → clause_occurs v c ≡ true
  side_occurs n c l side e o = item_occurs n c l e (named_occurs side l o)

  argument_occurs : (n : ℕ) (xs : Trees) (x : Tree) → argument n xs ≡ Some x → occurs v x ≡ true → any_occurs v xs ≡ true
  argument_occurs n none x e o = cc
  argument_occurs zero (more y ys) x e o = let i : x ≡ y = cc in or-left (occurs v y) (any_occurs v ys) (subst (λ z. occurs v z ≡ true) i o)
  argument_occurs (suc n) (more y ys) x e o = or-right (occurs v y) (any_occurs v ys) (argument_occurs n ys x e o)

  child_occurs : (n : ℕ) (t x : Tree) → child n t ≡ Some x → occurs v x ≡ true → occurs v t ≡ true
  child_occurs n (var w) x e o = cc
  child_occurs n (node f xs) x e o = argument_occurs (argument_number f n) xs x e o

  path_occurs : (path : List ℕ) (t u : Tree) → at_path path t ≡ Some u → occurs v u ≡ true → occurs v t ≡ true
  path_occurs [] t u e o = let i : u ≡ t = cc in subst (λ z. occurs v z ≡ true) i o
  path_occurs (n ∷ path) t u e o =
      let f = first_of (at_path path) (child n t) u e in
      child_occurs n t f.0 f.1.0 (path_occurs path f.0 u f.1.1 o)

  pub place_occurs : (d : List Lit) (p : Place) (u : Tree) → tree_at d p ≡ Some u → occurs v u ≡ true → clause_occurs v d ≡ true
  place_occurs d p u h o =
      let f = first_of (λ l. at_path p.path (named p.side l)) (item p.literal d) u h in
      side_occurs p.literal d f.0 p.side f.1.0 (path_occurs p.path (named p.side f.0) u f.1.1 o)
