-- What a visit of several children finds.
use Rattle.std.specs.Prelude.{◌≡◌, ℕ, ℤ, true, List, [], ◌∷◌, ◌++◌, map, ◌⊎◌}
use Rattle.std.specs.List.{flat_map, AllByRecursion}
use Rattle.std.proofs.Common.{refl, sym, ◌∙◌, ap, subst, inl, inr}
use Rattle.std.proofs.lemmas.Bool.{and_from}
use Rattle.std.proofs.lemmas.List.{append_assoc}
use Rattle.std.proofs.lemmas.List.Folds.{list_all-append}
use Rattle.lin_base.specs.declared.facts.Fact.{Fact}
use Rattle.lin_base.specs.Whole.{is_in_range}
use Rattle.lin_base.specs.Sum.{Valuation}
use Rattle.cert_tree.specs.declared.certs.Tree.{Tree}
use Rattle.cert_tree.specs.Search.{Found, closed, satisfied, Visit, Child, visit_each, node_of}
use Rattle.cert_tree.specs.Stands.{Node, each_stands, tree_stands}
use Rattle.search_laws.proofs.Ranges.{InRange, range_three}

pub found_cases : {A : Type 0} (r : Found A) → ((a : A) × (r ≡ closed a)) ⊎ ((v : Valuation) × (r ≡ satisfied v))
found_cases (closed a) = inl (a, refl)
found_cases (satisfied v) = inr (v, refl)

pub not_both : {A : Type 0} (a : A) (v : Valuation) → satisfied v ≡ closed a → ⊥
not_both a v e = cc

pub same_closed : {A : Type 0} (a b : A) → closed a ≡ closed b → a ≡ b
same_closed a b e = cc

pub same_satisfied : {A : Type 0} (v w : Valuation) → (let r : Found A = satisfied v in r) ≡ satisfied w → v ≡ w
same_satisfied v w e = cc

-- what is found of that of a part
through_closed : {A B : Type 0} (f : A → B) (r : Found A) (b : B) → (let s : Found B = elim r [ satisfied v ↦ satisfied v | closed a ↦ closed (f a) ] in s) ≡ closed b → (a : A) × (r ≡ closed a) × (f a ≡ b)
through_closed f (closed a) b e = (a, refl, same_closed (f a) b e)
through_closed f (satisfied v) b e = absurd (not_both b v e)

through_satisfied : {A B : Type 0} (f : A → B) (r : Found A) (w : Valuation) → (let s : Found B = elim r [ satisfied v ↦ satisfied v | closed a ↦ closed (f a) ] in s) ≡ satisfied w → r ≡ satisfied w
through_satisfied f (closed a) w e = absurd (not_both (f a) w (sym e))
through_satisfied f (satisfied v) w e = ap satisfied (same_satisfied v w e)

-- ---- a node
pub node_closed : (tree : List Tree → Tree) (formed : List ℤ) (below : Visit (List Tree)) (t : Tree) → (node_of tree formed below).found ≡ closed t → (ts : List Tree) × (below.found ≡ closed ts) × (tree ts ≡ t)
node_closed tree formed below t e = through_closed tree below.found t e

pub node_satisfied : (tree : List Tree → Tree) (formed : List ℤ) (below : Visit (List Tree)) (v : Valuation) → (node_of tree formed below).found ≡ satisfied v → below.found ≡ satisfied v
node_satisfied tree formed below v e = through_satisfied tree below.found v e

-- ---- the numbers and the facts of children
abbrev pub formed_of : List Child → List ℤ
formed_of cs = flat_map (λ (c : Child). c.formed) cs

abbrev pub facts_of : List Child → List (List Fact)
facts_of cs = map (λ (c : Child). c.facts) cs

pub formed-append : (cs ds : List Child) → formed_of (cs ++ ds) ≡ formed_of cs ++ formed_of ds
formed-append [] ds = refl
formed-append (c ∷ cs) ds = ap (λ zs. c.formed ++ zs) (formed-append cs ds) ∙ sym (append_assoc c.formed (formed_of cs) (formed_of ds))

-- ---- children that closed
module _ (params : ℕ) (clauses : List (List Fact)) where
  abbrev pub stand : Tree → Node
  stand = tree_stands params clauses

  -- a visit of the facts that closes within the range gives a tree that stands
  abbrev pub ClosesAt : (List Fact → Visit Tree) → List ℕ → List Fact → Type 0
  ClosesAt visit used facts = (t : Tree) → InRange (visit facts).formed → (visit facts).found ≡ closed t → stand t used facts ≡ true

  module _ (visit : List Fact → Visit Tree) (used : List ℕ) where
    abbrev AllStand : List Child → List Tree → Type 0
    AllStand cs ts = (each_stands used (map stand ts) (facts_of cs) ≡ true) × InRange (formed_of cs)

    pub each_closed : (cs : List Child) (ts : List Tree) → AllByRecursion (λ c. ClosesAt visit used c.facts) cs → InRange (visit_each visit cs).formed → (visit_each visit cs).found ≡ closed ts → AllStand cs ts
    each_closed [] ts all range e = let same : [] ≡ ts = same_closed [] ts e in subst (AllStand []) same (refl, refl)
    each_closed (c ∷ cs) ts all range e = elim (found_cases (visit c.facts).found) [
      | inl first ↦
          let t : Tree = first.0 in
          let rest : Visit (List Tree) = visit_each visit cs in
          let o = through_closed (λ us. t ∷ us) rest.found ts (rw (first.1, visit_each) at e) in
          let parts = range_three c.formed (visit c.facts).formed rest.formed (rw (first.1, visit_each) at range) in
          let here = all.0 t parts.1 first.1 in
          let more = each_closed cs o.0 all.1 parts.2 o.1 in
          subst (AllStand (c ∷ cs)) o.2 (and_from _ _ here more.0, list_all-append is_in_range c.formed (formed_of cs) ∙ and_from _ _ parts.0 more.1)
      | inr first ↦ absurd (not_both ts (c.back first.0) (rw (first.1, visit_each) at e))
    ]

-- ---- a child that is satisfied
module _ (visit : List Fact → Visit Tree) (Good : Valuation → Type 0) where
  -- the values back from a satisfied leaf below the child are good
  abbrev pub GivesGood : Child → Type 0
  GivesGood c = (w : Valuation) → (visit c.facts).found ≡ satisfied w → Good (c.back w)

  pub each_satisfied : (cs : List Child) (v : Valuation) → AllByRecursion GivesGood cs → (visit_each visit cs).found ≡ satisfied v → Good v
  each_satisfied [] v all e = absurd (not_both [] v (sym e))
  each_satisfied (c ∷ cs) v all e = elim (found_cases (visit c.facts).found) [
    | inl first ↦ each_satisfied cs v all.1 (through_satisfied (λ us. first.0 ∷ us) (visit_each visit cs).found v (rw (first.1, visit_each) at e))
    | inr first ↦ let same : c.back first.0 ≡ v = same_satisfied {A = List Tree} (c.back first.0) v (rw (first.1, visit_each) at e) in subst Good same (all.0 first.0 first.1)
  ]
