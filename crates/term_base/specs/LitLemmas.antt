-- Places and substitution.
use Rattle.std.proofs.Common.{◌≡◌, ℕ, zero, suc, true, List, [], ◌∷◌, ◌++◌, refl, ap, sym, ◌∙◌, subst}
use Rattle.std.proofs.lemmas.Option.{option_and_then_some}
use Rattle.std.specs.Prelude.{Option, Some}
use Rattle.std.specs.Option.{option_and_then}
use Rattle.term_base.specs.declared.variables.Variable.{Variable}
use Rattle.term_base.specs.declared.places.Side.{Side}
use Rattle.term_base.specs.declared.places.Side.TheVariants.{Left, Right}
use Rattle.term_base.specs.Trees.{Tree, Trees, var, node, none, more, occurs}
use Rattle.term_base.specs.Substitution.{put_in, put_all}
use Rattle.term_base.specs.Lits.{Lit, put_lit, put_clause, lit_occurs, clause_occurs}
use Rattle.term_base.specs.Places.{named, other, with_side, left_out, changed, item, argument, with_argument, argument_number, child, with_child, at_path, put_at, put_child}
use Rattle.term_base.specs.TreeLemmas.{or-left, or-right}
use Rattle.term_base.specs.SubstLemmas.{put_in-put_in, put_in-agree}

-- what the first of two partial functions gave where both gave something
pub first_of : {A B : Type 0} (f : A → Option B) (o : Option A) (y : B) → option_and_then f o ≡ Some y → (x : A) × ((o ≡ Some x) × (f x ≡ Some y))
first_of f o y h = option_and_then_some f o y h (λ x is there. (x, (is, there)))

module _ (s : Variable → Tree) where
  argument_put : (n : ℕ) (xs : Trees) (x : Tree) → argument n xs ≡ Some x → argument n (put_all s xs) ≡ Some (put_in s x)
  argument_put n none x h = cc
  argument_put zero (more y ys) x h = let e : y ≡ x = cc in ap (λ z. Some (put_in s z)) e
  argument_put (suc n) (more y ys) x h = argument_put n ys x h

  with_argument_put : (n : ℕ) (new : Tree) (xs : Trees) → with_argument n (put_in s new) (put_all s xs) ≡ put_all s (with_argument n new xs)
  with_argument_put n new none = refl
  with_argument_put zero new (more y ys) = refl
  with_argument_put (suc n) new (more y ys) = ap (more (put_in s y)) (with_argument_put n new ys)

  child_put : (n : ℕ) (t x : Tree) → child n t ≡ Some x → child n (put_in s t) ≡ Some (put_in s x)
  child_put n (var v) x h = cc
  child_put n (node f xs) x h = argument_put (argument_number f n) xs x h

  with_child_put : (n : ℕ) (new t x : Tree) → child n t ≡ Some x → with_child n (put_in s new) (put_in s t) ≡ put_in s (with_child n new t)
  with_child_put n new (var v) x h = cc
  with_child_put n new (node f xs) x h = ap (node f) (with_argument_put (argument_number f n) new xs)

  -- a place stays, and has the instance
  pub at_path-put : (path : List ℕ) (t u : Tree) → at_path path t ≡ Some u → at_path path (put_in s t) ≡ Some (put_in s u)
  at_path-put [] t u h = let e : t ≡ u = cc in ap (λ z. Some (put_in s z)) e
  at_path-put (n ∷ path) t u h =
      let f = first_of (at_path path) (child n t) u h in
      ap (option_and_then (at_path path)) (child_put n t f.0 f.1.0) ∙ at_path-put path f.0 u f.1.1

  pub put_at-put : (path : List ℕ) (new t u : Tree) → at_path path t ≡ Some u → put_at path (put_in s new) (put_in s t) ≡ put_in s (put_at path new t)
  put_at-put [] new t u h = refl
  put_at-put (n ∷ path) new t u h =
      let f = first_of (at_path path) (child n t) u h in
      ap (put_child (put_at path (put_in s new)) n (put_in s t)) (child_put n t f.0 f.1.0)
      ∙ ap (λ z. with_child n z (put_in s t)) (put_at-put path new f.0 u f.1.1)
      ∙ with_child_put n (put_at path new f.0) t f.0 f.1.0
      ∙ sym (ap (λ o. put_in s (put_child (put_at path new) n t o)) f.1.0)

  pub named-put : (side : Side) (l : Lit) → named side (put_lit s l) ≡ put_in s (named side l)
  named-put Left l = refl
  named-put Right l = refl

  pub other-put : (side : Side) (l : Lit) → other side (put_lit s l) ≡ put_in s (other side l)
  other-put Left l = refl
  other-put Right l = refl

  pub with_side-put : (side : Side) (t : Tree) (l : Lit) → with_side side (put_in s t) (put_lit s l) ≡ put_lit s (with_side side t l)
  with_side-put Left t l = refl
  with_side-put Right t l = refl

  pub left_out-put : (n : ℕ) (ls : List Lit) → left_out n (put_clause s ls) ≡ put_clause s (left_out n ls)
  left_out-put n [] = refl
  left_out-put zero (l ∷ ls) = refl
  left_out-put (suc n) (l ∷ ls) = ap (λ r. put_lit s l ∷ r) (left_out-put n ls)

  pub changed-put : (n : ℕ) (new : Lit) (ls : List Lit) → changed n (put_lit s new) (put_clause s ls) ≡ put_clause s (changed n new ls)
  changed-put n new [] = refl
  changed-put zero new (l ∷ ls) = refl
  changed-put (suc n) new (l ∷ ls) = ap (λ r. put_lit s l ∷ r) (changed-put n new ls)

  pub item-put : (n : ℕ) (ls : List Lit) (l : Lit) → item n ls ≡ Some l → item n (put_clause s ls) ≡ Some (put_lit s l)
  item-put n [] l h = cc
  item-put zero (m ∷ ls) l h = let e : m ≡ l = cc in ap (λ z. Some (put_lit s z)) e
  item-put (suc n) (m ∷ ls) l h = item-put n ls l h

  pub item-back : (n : ℕ) (ls : List Lit) (k : Lit) → item n (put_clause s ls) ≡ Some k → (l : Lit) × ((item n ls ≡ Some l) × (put_lit s l ≡ k))
  item-back n [] k h = cc
  item-back zero (m ∷ ls) k h = let e : put_lit s m ≡ k = cc in (m, (refl, e))
  item-back (suc n) (m ∷ ls) k h = item-back n ls k h

-- one substitution after another that give a third on the variables of a clause
module _ (r s q : Variable → Tree) where
  lit_agree : (l : Lit) → ((v : Variable) → lit_occurs v l ≡ true → put_in r (s v) ≡ q v) → put_lit r (put_lit s l) ≡ put_lit q l
  lit_agree l h =
      let a : put_in r (put_in s l.left) ≡ put_in q l.left = put_in-put_in r s l.left ∙ put_in-agree (λ v. put_in r (s v)) q l.left (λ v o. h v (or-left (occurs v l.left) (occurs v l.right) o)) in
      let b : put_in r (put_in s l.right) ≡ put_in q l.right = put_in-put_in r s l.right ∙ put_in-agree (λ v. put_in r (s v)) q l.right (λ v o. h v (or-right (occurs v l.left) (occurs v l.right) o)) in
      ap (λ (z : Tree). record { relation = l.relation; left = z; right = put_in r (put_in s l.right) }) a
      ∙ ap (λ (z : Tree). record { relation = l.relation; left = put_in q l.left; right = z }) b

  pub clause_agree : (c : List Lit) → ((v : Variable) → clause_occurs v c ≡ true → put_in r (s v) ≡ q v) → put_clause r (put_clause s c) ≡ put_clause q c
  clause_agree [] h = refl
  clause_agree (l ∷ ls) h =
      let a = lit_agree l (λ v o. h v (or-left (lit_occurs v l) (clause_occurs v ls) o)) in
      let b = clause_agree ls (λ v o. h v (or-right (lit_occurs v l) (clause_occurs v ls) o)) in cc

  -- so on each literal of the clause
  pub member_agree : (n : ℕ) (c : List Lit) (l : Lit) → item n c ≡ Some l → ((v : Variable) → clause_occurs v c ≡ true → put_in r (s v) ≡ q v) → put_lit r (put_lit s l) ≡ put_lit q l
  member_agree n [] l e h = cc
  member_agree zero (m ∷ ls) l e h = let i : m ≡ l = cc in subst (λ z. put_lit r (put_lit s z) ≡ put_lit q z) i (lit_agree m (λ v o. h v (or-left (lit_occurs v m) (clause_occurs v ls) o)))
  member_agree (suc n) (m ∷ ls) l e h = member_agree n ls l e (λ v o. h v (or-right (lit_occurs v m) (clause_occurs v ls) o))

pub clause_append : (s : Variable → Tree) (c d : List Lit) → put_clause s (c ++ d) ≡ put_clause s c ++ put_clause s d
clause_append s [] d = refl
clause_append s (l ∷ ls) d = ap (λ r. put_lit s l ∷ r) (clause_append s ls d)
