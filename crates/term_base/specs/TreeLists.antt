-- The trees of a list of terms, and the literals of a list.
use Rattle.std.proofs.Common.{◌≡◌, ◌+◌, ◌<◌, ◌≤◌, ℕ, zero, suc, List, [], ◌∷◌, ◌++◌, map, length, take, drop, refl, ap, sym, ◌∙◌, add-one, arith}
use Rattle.std.specs.Prelude.{Some, None, Result, Ok, Err, IfOk, ◌-◌, option_map, slice_get}
use Rattle.std.proofs.lemmas.Grind.{common_steps}
use Rattle.std.specs.List.{slice_index_or}
use Rattle.std.specs.Option.{option_and_then, option_map_or}
use Rattle.term_base.specs.declared.terms.Term.{Term}
use Rattle.term_base.specs.declared.clauses.Literal.{Literal}
use Rattle.term_base.specs.declared.variables.Variable.{Variable}
use Rattle.term_base.specs.declared.terms.Term.TheVariants.{App}
use Rattle.term_base.specs.Trees.{Tree, node, symbol, more, trees, tree}
use Rattle.term_base.specs.TreeOf.{tree-App}
use Rattle.term_base.specs.Substitution.{put_in, put_all}
use Rattle.term_base.specs.declared.clauses.Clause.{Clause}
use Rattle.term_base.specs.declared.places.Place.{Place}
use Rattle.term_base.specs.Lits.{Lit, lit, lits}
use Rattle.term_base.specs.Places.{named, argument, with_argument, item, changed, child, with_child, at_path, put_child, put_at, tree_at, put_place, replaced}

-- substitution in arguments, one by one
pub put_all-trees : (s : Variable → Tree) (ts : List Term) → put_all s (trees (map tree ts)) ≡ trees (map (λ t. put_in s (tree t)) ts)
put_all-trees s [] = refl
put_all-trees s (t ∷ ts) = ap (more (put_in s (tree t))) (put_all-trees s ts)

-- the argument of a number is the tree of the term of that number
pub argument-trees : (ts : List Term) (n : ℕ) → argument n (trees (map tree ts)) ≡ option_map tree (slice_get ts n)
argument-trees [] n = refl
argument-trees (t ∷ ts) zero = refl
argument-trees (t ∷ ts) (suc n) = argument-trees ts n

-- another argument is another term
pub with_argument-trees : (ts : List Term) (n : ℕ) (new : Term) → n < length ts → with_argument n (tree new) (trees (map tree ts)) ≡ trees (map tree (take n ts ++ (new ∷ drop (suc n) ts)))
with_argument-trees [] n new h = absurd (omega arith)
with_argument-trees (t ∷ ts) zero new h = refl
with_argument-trees (t ∷ ts) (suc n) new h = ap (more (tree t)) (with_argument-trees ts n new (omega arith))

pub item-lits : (ls : List Literal) (n : ℕ) → item n (map lit ls) ≡ option_map lit (slice_get ls n)
item-lits [] n = refl
item-lits (l ∷ ls) zero = refl
item-lits (l ∷ ls) (suc n) = item-lits ls n

pub changed-lits : (ls : List Literal) (n : ℕ) (new : Literal) → n < length ls → changed n (lit new) (map lit ls) ≡ map lit (take n ls ++ (new ∷ drop (suc n) ls))
changed-lits [] n new h = absurd (omega arith)
changed-lits (l ∷ ls) zero new h = refl
changed-lits (l ∷ ls) (suc n) new h = ap (λ r. lit l ∷ r) (changed-lits ls n new (omega arith))

-- an application is under a substitution where its arguments are
pub applied-App : (s : Variable → Tree) (t : Term) (f : ℕ) (args all : List Term) → t ≡ App f args → map tree all ≡ map (λ u. put_in s (tree u)) args → tree (App f all) ≡ put_in s (tree t)
applied-App s t f args all is each =
    tree-App f all ∙ ap (λ us. node (symbol f) (trees us)) each ∙ ap (node (symbol f)) (sym (put_all-trees s args))
    ∙ sym (ap (λ u. put_in s (tree u)) is ∙ ap (put_in s) (tree-App f args))

module _ (t : Term) (f : ℕ) (args : List Term) (is : t ≡ App f args) where
  tree-is : tree t ≡ node (symbol f) (trees (map tree args))
  tree-is = ap tree is ∙ tree-App f args

  -- the children of an application are its arguments
  pub child-App : (n : ℕ) → child n (tree t) ≡ option_map tree (slice_get args n)
  child-App n = ap (child n) tree-is ∙ argument-trees args n

  -- another term below an argument
  pub put_at-App : (n : ℕ) (path : List ℕ) (new arg put : Term) → slice_get args n ≡ Some arg → n < length args → tree put ≡ put_at path (tree new) (tree arg) → tree (App f (take n args ++ (put ∷ drop (n + 1) args))) ≡ put_at (n ∷ path) (tree new) (tree t)
  put_at-App n path new arg put there in_range is_changed =
      let here : child n (tree t) ≡ Some (tree arg) = child-App n ∙ ap (option_map tree) there in
      tree-App f (take n args ++ (put ∷ drop (n + 1) args))
      ∙ ap (λ k. node (symbol f) (trees (map tree (take n args ++ (put ∷ drop k args))))) (add-one n)
      ∙ ap (node (symbol f)) (sym (with_argument-trees args n put in_range))
      ∙ ap (λ x. with_child n x (node (symbol f) (trees (map tree args)))) is_changed
      ∙ ap (with_child n (put_at path (tree new) (tree arg))) (sym tree-is)
      ∙ sym (ap (put_child (put_at path (tree new)) n (tree t)) here)

  -- where there is no argument of the number, nothing changes
  pub put_at-App-none : (n : ℕ) (path : List ℕ) (new : Term) → slice_get args n ≡ None → put_at (n ∷ path) (tree new) (tree t) ≡ tree t
  put_at-App-none n path new gone =
      let here : child n (tree t) ≡ None = child-App n ∙ ap (option_map tree) gone in
      ap (put_child (put_at path (tree new)) n (tree t)) here

module _ (c : Clause) (p : Place) where
  pub tree_at-lits : (l : Literal) → slice_get c.literals p.literal ≡ Some l → tree_at (lits c) p ≡ at_path p.path (named p.side (lit l))
  tree_at-lits l there = ap (option_and_then (λ k. at_path p.path (named p.side k))) (item-lits c.literals p.literal ∙ ap (option_map lit) there)

  pub tree_at-lits-none : slice_get c.literals p.literal ≡ None → tree_at (lits c) p ≡ None
  tree_at-lits-none gone = ap (option_and_then (λ k. at_path p.path (named p.side k))) (item-lits c.literals p.literal ∙ ap (option_map lit) gone)

  pub replaced-lits : (l new : Literal) (t : Tree) → slice_get c.literals p.literal ≡ Some l → p.literal < length c.literals → lit new ≡ put_place p t (lit l) → map lit (take p.literal c.literals ++ (new ∷ drop (p.literal + 1) c.literals)) ≡ replaced (lits c) p t
  replaced-lits l new t there in_range is =
      ap (λ k. map lit (take p.literal c.literals ++ (new ∷ drop k c.literals))) (add-one p.literal)
      ∙ sym (changed-lits c.literals p.literal new in_range)
      ∙ ap (λ k. changed p.literal k (lits c)) is
      ∙ sym (ap (λ o. option_map_or (λ k. changed p.literal (put_place p t k) (lits c)) o (lits c)) (item-lits c.literals p.literal ∙ ap (option_map lit) there))

  pub replaced-lits-none : (t : Tree) → slice_get c.literals p.literal ≡ None → replaced (lits c) p t ≡ lits c
  replaced-lits-none t gone = ap (λ o. option_map_or (λ k. changed p.literal (put_place p t k) (lits c)) o (lits c)) (item-lits c.literals p.literal ∙ ap (option_map lit) gone)

-- a path that is not empty begins with its first number
pub path-cons : (path : List ℕ) → 1 ≤ length path → path ≡ slice_index_or path 0 0 ∷ drop 1 path
path-cons [] h = absurd (omega arith)
path-cons (n ∷ rest) h = refl

pub path-rest : (path : List ℕ) → take (length path - 1) (drop 1 path) ≡ drop 1 path
path-rest path = grind (arith, common_steps)

-- what equals a term has its tree
pub same-tree : {E : Type 0} (r : Result Term E) (t : Term) (u : Tree) → IfOk r (λ x. x ≡ t) → tree t ≡ u → IfOk r (λ x. tree x ≡ u)
same-tree (Ok x) t u is e = ap tree is ∙ e
same-tree (Err x) t u is e = tt

pub same-lits : {E : Type 0} (r : Result Clause E) (c : Clause) (ls : List Lit) → IfOk r (λ x. x ≡ c) → lits c ≡ ls → IfOk r (λ x. lits x ≡ ls)
same-lits (Ok x) c ls is e = ap lits is ∙ e
same-lits (Err x) c ls is e = tt
