-- Whether a node stands depends on which parameters are used up, not on their order.
use Rattle.std.specs.Prelude.{◌≡◌, ℕ, Bool, true, false, cond, not, ◌&&◌, ◌||◌, ◌==◌, nat_eq, nat_lt, int_le, pos, length, take, List, [], ◌∷◌, ◌++◌, map, Option, Some, None, slice_get}
use Rattle.std.specs.List.{list_any, list_all}
use Rattle.std.proofs.Common.{refl, sym, ◌∙◌, ap, subst, arith}
use Rattle.std.proofs.lemmas.Bool.Decides.{nat_tests}
use Rattle.std.proofs.lemmas.Grind.{common_steps}
use Rattle.lin_base.specs.declared.sums.Lin.{Lin}
use Rattle.lin_base.specs.declared.facts.Fact.{Fact}
use Rattle.lin_base.specs.declared.facts.Fact.TheVariants.{AtMostZero}
use Rattle.lin_base.specs.Whole.{is_same}
use Rattle.lin_base.specs.Fact.{is_lin, sum_of}
use Rattle.lin_base.specs.Sum.{each_unknown, above}
use Rattle.lin_base.specs.Steps.{is_narrow, above_steps}
use Rattle.cert_tree.specs.declared.certs.Tree.{Tree}
use Rattle.cert_tree.specs.declared.certs.Tree.TheOpen.{Tree-F, Case, Combine, Cut, Branch, Residues, Solve, Least, Clash}
use Rattle.cert_tree.specs.declared.certs.Tree.TheFolds.{map-Tree, ind-Tree}
use Rattle.cert_tree.specs.declared.certs.Tree.TheViews.{roll-Tree}
use Rattle.cert_tree.specs.Counting.{is_free, is_one_of, is_over_free, with_number}
use Rattle.cert_tree.specs.Narrow.{some_and, option_then}
use Rattle.cert_tree.specs.Children.{with_each, combination, cut_of, branch_facts, residue_children, residues_steps, solve_child, least_children, least_steps}
use Rattle.cert_tree.specs.Stands.{Node, each_stands, is_open_case, tree_stands}
use Rattle.cert_tree.proofs.Nodes.{stands-case, stands-combine, stands-cut, stands-branch, stands-residues, stands-solve, stands-least, stands-clash}

-- ---- lists that have the same numbers
abbrev pub SameNumbers : List ℕ → List ℕ → Type 0
SameNumbers us vs = (x : ℕ) → is_one_of us x ≡ is_one_of vs x

eq_turned : (x y : ℕ) → nat_eq x y ≡ (y == x)
eq_turned x y = grind (arith, nat_tests)

-- a look-up tests a number the other way round
pub is_one_of-turned : (xs : List ℕ) (x : ℕ) → list_any (nat_eq x) xs ≡ is_one_of xs x
is_one_of-turned [] x = refl
is_one_of-turned (y ∷ ys) x = λ i. eq_turned x y i || is_one_of-turned ys x i

pub ruleset same_number = (common_steps, is_one_of-turned)

same_more : (us vs : List ℕ) (p : ℕ) → SameNumbers us vs → SameNumbers (p ∷ us) (p ∷ vs)
same_more us vs p same x = ap (λ b. (p == x) || b) (same x)

one_is : (us : List ℕ) (p x : ℕ) → is_one_of us p ≡ true → (p == x) ≡ true → is_one_of us x ≡ true
one_is us p x one e = let same : p ≡ x = grind (arith, nat_tests) in subst (λ y. is_one_of us y ≡ true) same one

-- ---- by what is tested
some_and-same : {A : Type 0} (o : Option A) (f g : A → Bool) → ((a : A) → f a ≡ g a) → some_and o f ≡ some_and o g
some_and-same None f g same = refl
some_and-same (Some a) f g same = same a

module _ (params : ℕ) (us vs : List ℕ) (same : SameNumbers us vs) where
  free_same : is_free params us ≡ is_free params vs
  free_same = λ i x. nat_lt x params && not (same x i)

  over_same : (t : Lin) → is_over_free params us t ≡ is_over_free params vs t
  over_same t = ap (λ test. each_unknown test t) free_same

  open_same : (clause : List Fact) → is_open_case params us clause ≡ is_open_case params vs clause
  open_same clause = ap (λ (test : ℕ → Bool). list_all (λ f. each_unknown test (sum_of f)) clause) free_same

  branch_same : (t : Lin) → branch_facts params us t ≡ branch_facts params vs t
  branch_same t = ap (λ b. cond (is_lin t && b && is_narrow (above_steps t)) (Some (AtMostZero t, AtMostZero (above t))) None) (over_same t)

module _ (params : ℕ) (clauses : List (List Fact)) where
  abbrev SameTree : Tree → Type 0
  SameTree t = (us vs : List ℕ) → SameNumbers us vs → (facts : List Fact) → tree_stands params clauses t us facts ≡ tree_stands params clauses t vs facts

  abbrev Such : Type 0
  Such = (t : Tree) × SameTree t

  abbrev nodes_of : List Such → List Node
  nodes_of kids = map (tree_stands params clauses) (map (λ e. e.0) kids)

  children_same : (kids : List Such) (states : List (List Fact)) (us vs : List ℕ) → SameNumbers us vs → each_stands us (nodes_of kids) states ≡ each_stands vs (nodes_of kids) states
  children_same [] [] us vs same = refl
  children_same [] (s ∷ ss) us vs same = refl
  children_same (k ∷ ks) [] us vs same = refl
  children_same (k ∷ ks) (s ∷ ss) us vs same = λ i. k.1 us vs same s i && children_same ks ss us vs same i

  node_same : (y : Tree-F Such) → SameTree (roll-Tree (map-Tree Such Tree (λ e. e.0) y))
  node_same (Case n kids) us vs same facts =
      let ts = map (λ k. k.0) kids in
      stands-case params clauses us facts n ts
      ∙ some_and-same (slice_get clauses n) _ _ (λ clause i. open_same params us vs same clause i && children_same kids (with_each facts clause) us vs same i)
      ∙ sym (stands-case params clauses vs facts n ts)
  node_same (Combine list kid) us vs same facts =
      stands-combine params clauses us facts list kid.0
      ∙ some_and-same (combination facts list) _ _ (λ t. kid.1 us vs same (facts ++ AtMostZero t ∷ []))
      ∙ sym (stands-combine params clauses vs facts list kid.0)
  node_same (Cut n kid) us vs same facts =
      stands-cut params clauses us facts n kid.0
      ∙ some_and-same (option_then (slice_get facts n) cut_of) _ _ (λ f. kid.1 us vs same (facts ++ f ∷ []))
      ∙ sym (stands-cut params clauses vs facts n kid.0)
  node_same (Branch t l r) us vs same facts =
      stands-branch params clauses us facts t l.0 r.0
      ∙ some_and-same (branch_facts params us t) _ _ (λ both i. l.1 us vs same (facts ++ both.0 ∷ []) i && r.1 us vs same (facts ++ both.1 ∷ []) i)
      ∙ ap (λ o. some_and o (λ both. tree_stands params clauses l.0 vs (facts ++ both.0 ∷ []) && tree_stands params clauses r.0 vs (facts ++ both.1 ∷ []))) (branch_same params us vs same t)
      ∙ sym (stands-branch params clauses vs facts t l.0 r.0)
  node_same (Residues m t kids) us vs same facts =
      let ts = map (λ k. k.0) kids in
      let children = length (map (tree_stands params clauses) ts) in
      stands-residues params clauses us facts m t ts
      ∙ (λ i. int_le (pos 2) m && is_lin t && over_same params us vs same t i && is_same (pos children) m && (is_narrow (residues_steps m t) && children_same kids (residue_children facts m t) us vs same i))
      ∙ sym (stands-residues params clauses vs facts m t ts)
  node_same (Solve n p kid) us vs same facts =
      stands-solve params clauses us facts n p kid.0
      ∙ some_and-same (solve_child facts n p) _ _ (kid.1 (p ∷ us) (p ∷ vs) (same_more us vs p same))
      ∙ sym (stands-solve params clauses vs facts n p kid.0)
  node_same (Least p kids) us vs same facts =
      let ts = map (λ k. k.0) kids in
      stands-least params clauses us facts p ts
      ∙ (λ i. free_same params us vs same i p && (is_narrow (least_steps p facts) && children_same kids (least_children p facts) (p ∷ us) (p ∷ vs) (same_more us vs p same) i))
      ∙ sym (stands-least params clauses vs facts p ts)
  node_same (Clash n) us vs same facts = stands-clash params clauses us facts n ∙ sym (stands-clash params clauses vs facts n)

  -- a tree stands over lists that have the same numbers alike
  tree_same : (t : Tree) → SameTree t
  tree_same = ind-Tree SameTree (λ x y is. subst (λ z. SameTree (roll-Tree z)) is (node_same y))

-- ---- one more number
with_same : (us : List ℕ) (p : ℕ) → SameNumbers (with_number us p) (p ∷ us)
with_same us p x = by_first (is_one_of us p) refl
  where
    last : is_one_of (us ++ p ∷ []) x ≡ ((p == x) || is_one_of us x)
    last = grind (arith, common_steps)

    there : (b : Bool) → (p == x) ≡ b → is_one_of us p ≡ true → is_one_of us x ≡ ((p == x) || is_one_of us x)
    there true e one = one_is us p x one e ∙ sym (ap (λ c. c || is_one_of us x) e)
    there false e one = sym (ap (λ c. c || is_one_of us x) e)

    by_first : (b : Bool) → is_one_of us p ≡ b → is_one_of (cond b us (us ++ p ∷ [])) x ≡ ((p == x) || is_one_of us x)
    by_first true one = there (p == x) refl one
    by_first false one = last

-- a tree stands with the number behind the others as with it in front
pub stands_marked : (params : ℕ) (clauses : List (List Fact)) (t : Tree) (us : List ℕ) (p : ℕ) (facts : List Fact) → tree_stands params clauses t (with_number us p) facts ≡ tree_stands params clauses t (p ∷ us) facts
stands_marked params clauses t us p facts = tree_same params clauses t (with_number us p) (p ∷ us) (with_same us p) facts

-- the numbers before come back
pub take_marked : (us : List ℕ) (p : ℕ) → take (length us) (with_number us p) ≡ us
take_marked us p = by_first (is_one_of us p)
  where
    by_first : (b : Bool) → take (length us) (cond b us (us ++ p ∷ [])) ≡ us
    by_first true = grind (arith, common_steps)
    by_first false = grind (arith, common_steps)

pub ruleset used_up = (common_steps, take_marked)
