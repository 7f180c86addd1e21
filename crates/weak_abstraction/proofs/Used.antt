-- The variable of each target stands in the clause with its targets replaced.
use Rattle.std.proofs.Common.{◌≡◌, ℕ, Bool, true, false, ◌&&◌, ◌||◌, List, [], ◌∷◌, ◌++◌, map, if◌then◌else◌}
use Rattle.term_base.specs.declared.symbols.Symbol.{Symbol}
use Rattle.term_base.specs.declared.variables.Variable.{Variable}
use Rattle.term_base.specs.SameLemmas.{same_variable-refl}
use Rattle.term_base.specs.Trees.{Tree, Trees, var, node, none, more, occurs, any_occurs}
use Rattle.term_base.specs.TreeLemmas.{or-left, or-right}
use Rattle.term_base.specs.Lits.{Lit, lit_occurs, clause_occurs}
use Rattle.weak_abstraction.specs.Targets.{is_plain, each_mixed, argument_counts, first_counts, other_counts, targets_below, targets_of_each, targets_in, is_equation, side_counts, lit_foreground, side_targets, literal_targets, targets}
use Rattle.weak_abstraction.specs.Abstracted.{variable_of, named, replaced_below, replaced_each, replaced_in, replaced_side, replaced_sides, replaced_lit}
use Rattle.weak_abstraction.proofs.Choices.{EachTree, each_join, each_weaken}

module _ (S : List Symbol) (n : ℕ) (us : List Tree) where
  abbrev g : Tree → Tree
  g = named S n us

  abbrev x_of : Tree → Variable
  x_of = variable_of S n us

  -- the variable of a target stands in a term, in one of several terms, in a literal, in a clause
  abbrev InTerm : Tree → Tree → Type 0
  InTerm s t = occurs (x_of t) s ≡ true

  abbrev InTerms : Trees → Tree → Type 0
  InTerms ss t = any_occurs (x_of t) ss ≡ true

  abbrev InLiteral : Lit → Tree → Type 0
  InLiteral l t = lit_occurs (x_of t) l ≡ true

  abbrev pub InClause : List Lit → Tree → Type 0
  InClause ls t = clause_occurs (x_of t) ls ≡ true

  -- in both parts of a disjunction
  in_either : (a b : Tree → Bool) (ts us' : List Tree) → EachTree (λ t. a t ≡ true) ts → EachTree (λ t. b t ≡ true) us' → EachTree (λ t. (a t || b t) ≡ true) (ts ++ us')
  in_either a b ts us' h k =
      each_join (λ t. (a t || b t) ≡ true) ts us'
      (each_weaken (λ t. a t ≡ true) (λ t. (a t || b t) ≡ true) (λ t e. or-left (a t) (b t) e) ts h)
      (each_weaken (λ t. b t ≡ true) (λ t. (a t || b t) ≡ true) (λ t e. or-right (a t) (b t) e) us' k)

  -- a target, or what is below
  by_case : (b : Bool) (t below : Tree) (ts : List Tree) → EachTree (InTerm below) ts → EachTree (InTerm (if b then g t else below)) (if b then t ∷ [] else ts)
  by_case true t below ts h = (same_variable-refl (x_of t), tt)
  by_case false t below ts h = h

  mutual
    used_below : (t : Tree) → EachTree (InTerm (replaced_below S g t)) (targets_below S t)
    used_below (var v) = tt
    used_below (node f xs) = used_each xs (argument_counts S f (each_mixed S xs))

    used_each : (xs : Trees) (cs : List Bool) → EachTree (InTerms (replaced_each S g xs cs)) (targets_of_each S xs cs)
    used_each none cs = tt
    used_each (more x xs) cs =
        in_either (λ t. occurs (x_of t) (replaced_in S g x (first_counts cs))) (λ t. any_occurs (x_of t) (replaced_each S g xs (other_counts cs)))
        (targets_in S x (first_counts cs)) (targets_of_each S xs (other_counts cs)) (by_case (is_plain S x && first_counts cs) x (replaced_below S g x) (targets_below S x) (used_below x)) (used_each xs (other_counts cs))

  used_in : (t : Tree) (c : Bool) → EachTree (InTerm (replaced_in S g t c)) (targets_in S t c)
  used_in t c = by_case (is_plain S t && c) t (replaced_below S g t) (targets_below S t) (used_below t)

  used_sides : (l : Lit) → EachTree (InLiteral (replaced_sides S g l)) (side_targets S (is_equation l.relation) l.left l.right)
  used_sides l =
      let q = is_equation l.relation in
      in_either (λ t. occurs (x_of t) (replaced_side S g q l.left l.right)) (λ t. occurs (x_of t) (replaced_side S g q l.right l.left))
      (targets_in S l.left (side_counts S q l.left l.right)) (targets_in S l.right (side_counts S q l.right l.left))
      (used_in l.left (side_counts S q l.left l.right)) (used_in l.right (side_counts S q l.right l.left))

  -- a literal with a foreground symbol, or one as it is
  by_symbol : (b : Bool) (l m : Lit) (ts : List Tree) → EachTree (InLiteral m) ts → EachTree (InLiteral (if b then m else l)) (if b then ts else [])
  by_symbol true l m ts h = h
  by_symbol false l m ts h = tt

  -- the variable of each target of the clause stands in it
  pub used_clause : (c : List Lit) → EachTree (InClause (map (replaced_lit S g) c)) (targets S c)
  used_clause [] = tt
  used_clause (l ∷ ls) =
      in_either (λ t. lit_occurs (x_of t) (replaced_lit S g l)) (λ t. clause_occurs (x_of t) (map (replaced_lit S g) ls))
      (literal_targets S l) (targets S ls)
      (by_symbol (lit_foreground S l) l (replaced_sides S g l) (side_targets S (is_equation l.relation) l.left l.right) (used_sides l)) (used_clause ls)
