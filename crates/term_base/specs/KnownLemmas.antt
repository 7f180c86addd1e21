-- What substitution and places keep of the numbers of symbols.
use Rattle.std.proofs.Common.{◌≡◌, inl, inr, Bool, true, false, ◌&&◌, ℕ, zero, suc, List, [], ◌∷◌, ◌++◌, refl, ap, sym, ◌∙◌}
use Rattle.std.specs.Prelude.{Option, Some, None}
use Rattle.std.specs.Option.{option_map_or}
use Rattle.term_base.specs.declared.variables.Variable.{Variable}
use Rattle.term_base.specs.declared.places.Place.{Place}
use Rattle.term_base.specs.declared.places.Side.{Side}
use Rattle.term_base.specs.declared.places.Side.TheVariants.{Left, Right}
use Rattle.term_base.specs.Trees.{Tree, Trees, var, node, none, more}
use Rattle.term_base.specs.Substitution.{put_in, put_all, single}
use Rattle.term_base.specs.Lits.{Lit, put_lit, put_clause}
use Rattle.term_base.specs.Places.{named, other, with_side, left_out, changed, item, argument, with_argument, argument_number, child, with_child, at_path, put_at, put_child, tree_at, put_place, replaced}
use Rattle.term_base.specs.TreeLemmas.{and-true}
use Rattle.term_base.specs.LitLemmas.{first_of}
use Rattle.term_base.specs.SubstLemmas.{variable_or_not, single-same, single-other}
use Rattle.term_base.specs.Known.{is_known_head, is_known, are_known, is_known_lit, is_known_clause, KnownImages}

pub and-both : (a b : Bool) → a ≡ true → b ≡ true → (a && b) ≡ true
and-both true b h k = k
and-both false b h k = cc

module _ (n : ℕ) where
  module _ (s : Variable → Tree) (known : KnownImages n s) where
    mutual
      -- a term of known symbols keeps them under a substitution by such terms
      pub put_in-known : (t : Tree) → is_known n t ≡ true → is_known n (put_in s t) ≡ true
      put_in-known (var v) h = known v
      put_in-known (node f xs) h =
          let two = and-true (is_known_head n f) (are_known n xs) h in
          and-both (is_known_head n f) (are_known n (put_all s xs)) two.0 (put_all-known xs two.1)

      put_all-known : (xs : Trees) → are_known n xs ≡ true → are_known n (put_all s xs) ≡ true
      put_all-known none h = refl
      put_all-known (more x xs) h =
          let two = and-true (is_known n x) (are_known n xs) h in
          and-both (is_known n (put_in s x)) (are_known n (put_all s xs)) (put_in-known x two.0) (put_all-known xs two.1)

    put_lit-known : (l : Lit) → is_known_lit n l ≡ true → is_known_lit n (put_lit s l) ≡ true
    put_lit-known l h =
        let two = and-true (is_known n l.left) (is_known n l.right) h in
        and-both (is_known n (put_in s l.left)) (is_known n (put_in s l.right)) (put_in-known l.left two.0) (put_in-known l.right two.1)

    pub put_clause-known : (c : List Lit) → is_known_clause n c ≡ true → is_known_clause n (put_clause s c) ≡ true
    put_clause-known [] h = refl
    put_clause-known (l ∷ ls) h =
        let two = and-true (is_known_lit n l) (is_known_clause n ls) h in
        and-both (is_known_lit n (put_lit s l)) (is_known_clause n (put_clause s ls)) (put_lit-known l two.0) (put_clause-known ls two.1)

  pub single-known : (v : Variable) (t : Tree) → is_known n t ≡ true → KnownImages n (single v t)
  single-known v t h w = elim (variable_or_not v w) [
    | inl e ↦ ap (is_known n) (single-same v w t e) ∙ h
    | inr d ↦ ap (is_known n) (single-other v w t d)
  ]

  -- both sides of a literal of known symbols
  pub named-known : (side : Side) (l : Lit) → is_known_lit n l ≡ true → is_known n (named side l) ≡ true
  named-known Left l h = (and-true (is_known n l.left) (is_known n l.right) h).0
  named-known Right l h = (and-true (is_known n l.left) (is_known n l.right) h).1

  pub other-known : (side : Side) (l : Lit) → is_known_lit n l ≡ true → is_known n (other side l) ≡ true
  other-known Left l h = (and-true (is_known n l.left) (is_known n l.right) h).1
  other-known Right l h = (and-true (is_known n l.left) (is_known n l.right) h).0

  pub with_side-known : (side : Side) (t : Tree) (l : Lit) → is_known n t ≡ true → is_known_lit n l ≡ true → is_known_lit n (with_side side t l) ≡ true
  with_side-known Left t l h k = and-both (is_known n t) (is_known n l.right) h (other-known Left l k)
  with_side-known Right t l h k = and-both (is_known n l.left) (is_known n t) (other-known Right l k) h

  -- lists of literals
  pub item-known : (number : ℕ) (c : List Lit) (l : Lit) → item number c ≡ Some l → is_known_clause n c ≡ true → is_known_lit n l ≡ true
  item-known number [] l is h = cc
  item-known zero (m ∷ ls) l is h = let e : m ≡ l = cc in ap (is_known_lit n) (sym e) ∙ (and-true (is_known_lit n m) (is_known_clause n ls) h).0
  item-known (suc number) (m ∷ ls) l is h = item-known number ls l is (and-true (is_known_lit n m) (is_known_clause n ls) h).1

  pub left_out-known : (number : ℕ) (c : List Lit) → is_known_clause n c ≡ true → is_known_clause n (left_out number c) ≡ true
  left_out-known number [] h = refl
  left_out-known zero (m ∷ ls) h = (and-true (is_known_lit n m) (is_known_clause n ls) h).1
  left_out-known (suc number) (m ∷ ls) h =
      let two = and-true (is_known_lit n m) (is_known_clause n ls) h in
      and-both (is_known_lit n m) (is_known_clause n (left_out number ls)) two.0 (left_out-known number ls two.1)

  pub changed-known : (number : ℕ) (new : Lit) (c : List Lit) → is_known_lit n new ≡ true → is_known_clause n c ≡ true → is_known_clause n (changed number new c) ≡ true
  changed-known number new [] k h = refl
  changed-known zero new (m ∷ ls) k h =
      and-both (is_known_lit n new) (is_known_clause n ls) k (and-true (is_known_lit n m) (is_known_clause n ls) h).1
  changed-known (suc number) new (m ∷ ls) k h =
      let two = and-true (is_known_lit n m) (is_known_clause n ls) h in
      and-both (is_known_lit n m) (is_known_clause n (changed number new ls)) two.0 (changed-known number new ls k two.1)

  pub append-known : (c d : List Lit) → is_known_clause n c ≡ true → is_known_clause n d ≡ true → is_known_clause n (c ++ d) ≡ true
  append-known [] d h k = k
  append-known (l ∷ ls) d h k =
      let two = and-true (is_known_lit n l) (is_known_clause n ls) h in
      and-both (is_known_lit n l) (is_known_clause n (ls ++ d)) two.0 (append-known ls d two.1 k)

  -- places
  argument-known : (number : ℕ) (xs : Trees) (x : Tree) → argument number xs ≡ Some x → are_known n xs ≡ true → is_known n x ≡ true
  argument-known number none x is h = cc
  argument-known zero (more y ys) x is h = let e : y ≡ x = cc in ap (is_known n) (sym e) ∙ (and-true (is_known n y) (are_known n ys) h).0
  argument-known (suc number) (more y ys) x is h = argument-known number ys x is (and-true (is_known n y) (are_known n ys) h).1

  with_argument-known : (number : ℕ) (new : Tree) (xs : Trees) → is_known n new ≡ true → are_known n xs ≡ true → are_known n (with_argument number new xs) ≡ true
  with_argument-known number new none k h = refl
  with_argument-known zero new (more y ys) k h = and-both (is_known n new) (are_known n ys) k (and-true (is_known n y) (are_known n ys) h).1
  with_argument-known (suc number) new (more y ys) k h =
      let two = and-true (is_known n y) (are_known n ys) h in
      and-both (is_known n y) (are_known n (with_argument number new ys)) two.0 (with_argument-known number new ys k two.1)

  child-known : (number : ℕ) (t x : Tree) → child number t ≡ Some x → is_known n t ≡ true → is_known n x ≡ true
  child-known number (var v) x is h = cc
  child-known number (node f xs) x is h = argument-known (argument_number f number) xs x is (and-true (is_known_head n f) (are_known n xs) h).1

  with_child-known : (number : ℕ) (new t : Tree) → is_known n new ≡ true → is_known n t ≡ true → is_known n (with_child number new t) ≡ true
  with_child-known number new (var v) k h = refl
  with_child-known number new (node f xs) k h =
      let two = and-true (is_known_head n f) (are_known n xs) h in
      and-both (is_known_head n f) (are_known n (with_argument (argument_number f number) new xs)) two.0 (with_argument-known (argument_number f number) new xs k two.1)

  pub at_path-known : (path : List ℕ) (t u : Tree) → at_path path t ≡ Some u → is_known n t ≡ true → is_known n u ≡ true
  at_path-known [] t u is h = let e : t ≡ u = cc in ap (is_known n) (sym e) ∙ h
  at_path-known (number ∷ path) t u is h =
      let f = first_of (at_path path) (child number t) u is in
      at_path-known path f.0 u f.1.1 (child-known number t f.0 f.1.0 h)

  pub tree_at-known : (c : List Lit) (place : Place) (u : Tree) → tree_at c place ≡ Some u → is_known_clause n c ≡ true → is_known n u ≡ true
  tree_at-known c place u is h =
      let f = first_of (λ l. at_path place.path (named place.side l)) (item place.literal c) u is in
      at_path-known place.path (named place.side f.0) u f.1.1 (named-known place.side f.0 (item-known place.literal c f.0 f.1.0 h))

  put_child-known : (change : Tree → Tree) → ((x : Tree) → is_known n x ≡ true → is_known n (change x) ≡ true) → (number : ℕ) (t : Tree) (o : Option Tree) → child number t ≡ o
      → is_known n t ≡ true → is_known n (put_child change number t o) ≡ true
  put_child-known change keeps number t None is h = h
  put_child-known change keeps number t (Some x) is h = with_child-known number (change x) t (keeps x (child-known number t x is h)) h

  pub put_at-known : (path : List ℕ) (new t : Tree) → is_known n new ≡ true → is_known n t ≡ true → is_known n (put_at path new t) ≡ true
  put_at-known [] new t k h = k
  put_at-known (number ∷ path) new t k h = put_child-known (put_at path new) (λ x i. put_at-known path new x k i) number t (child number t) refl h

  pub put_place-known : (place : Place) (new : Tree) (l : Lit) → is_known n new ≡ true → is_known_lit n l ≡ true → is_known_lit n (put_place place new l) ≡ true
  put_place-known place new l k h =
      with_side-known place.side (put_at place.path new (named place.side l)) l (put_at-known place.path new (named place.side l) k (named-known place.side l h)) h

  replaced_at-known : (c : List Lit) (place : Place) (new : Tree) (o : Option Lit) → item place.literal c ≡ o → is_known n new ≡ true → is_known_clause n c ≡ true → is_known_clause n (option_map_or (λ l. changed place.literal (put_place place new l) c) o c) ≡ true
  replaced_at-known c place new None is k h = h
  replaced_at-known c place new (Some l) is k h =
      changed-known place.literal (put_place place new l) c (put_place-known place new l k (item-known place.literal c l is h)) h

  pub replaced-known : (c : List Lit) (place : Place) (new : Tree) → is_known n new ≡ true → is_known_clause n c ≡ true → is_known_clause n (replaced c place new) ≡ true
  replaced-known c place new k h = replaced_at-known c place new (item place.literal c) refl k h
