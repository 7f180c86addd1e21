-- The words of a set of keys in order are those of the definitions.
use Rattle.std.specs.Prelude.{◌≡◌, ℕ, suc, ◌+◌, ◌≤◌, Bool, true, false, cond, ◌||◌, nat_lt, List, [], ◌∷◌, ◌++◌, length, Some, None, position, if◌then◌else◌}
use Rattle.std.specs.List.{list_any, position_or_len}
use Rattle.std.proofs.Common.{refl, sym, ◌∙◌, ap, arith}
use Rattle.std.proofs.lemmas.Bool.Decides.{nat_tests}
use Rattle.std.proofs.lemmas.List.Recursion.{is_position_or_len}
use Rattle.indexmap.specs.IndexSet.{insert_key}
use Rattle.term_base.specs.SameTerm.{same_term_equiv}
use Rattle.term_base.specs.Trees.{Tree, tree, same_tree}
use Rattle.weak_abstraction.specs.declared.keys.Key.{Key}
use Rattle.weak_abstraction.specs.Abstracted.{is_among, add_new, place}
use Rattle.weak_abstraction.specs.Keys.{same_key, terms}

abbrev tree_of : Key → Tree
tree_of k = tree k.term.now

same_turned : (k l : Key) → same_key k l ≡ same_tree (tree_of l) (tree_of k)
same_turned k l = same_term_equiv.symm k.term.now l.term.now

any_same : (k : Key) (ks : List Key) → list_any (same_key k) ks ≡ is_among (tree_of k) (terms ks)
any_same k [] = refl
any_same k (l ∷ ls) = ap (λ b. b || list_any (same_key k) ls) (same_turned k l) ∙ ap (λ b. same_tree (tree_of l) (tree_of k) || b) (any_same k ls)

terms_last : (ks : List Key) (k : Key) → terms (ks ++ k ∷ []) ≡ terms ks ++ tree_of k ∷ []
terms_last [] k = refl
terms_last (l ∷ ls) k = ap (λ ts. tree_of l ∷ ts) (terms_last ls k)

terms_if : (b : Bool) (ks : List Key) (k : Key) → terms (if b then ks else ks ++ k ∷ []) ≡ (if b then terms ks else terms ks ++ tree_of k ∷ [])
terms_if true ks k = refl
terms_if false ks k = terms_last ks k

-- the terms of the keys after an insertion
pub inserted : (ks : List Key) (k : Key) → terms (insert_key same_key ks k) ≡ add_new (terms ks) (tree_of k)
inserted ks k =
    terms_if (list_any (same_key k) ks) ks k
    ∙ ap (λ b. if b then terms ks else terms ks ++ tree_of k ∷ []) (any_same k ks)

one_more : (n : ℕ) → suc n ≡ 1 + n
one_more n = omega arith

place-next : (k l : Key) (ks : List Key) → place (tree_of k) (terms (l ∷ ks)) ≡ cond (same_key k l) 0 (1 + place (tree_of k) (terms ks))
place-next k l ks =
    ap (λ b. cond b 0 (suc (place (tree_of k) (terms ks)))) (sym (same_turned k l))
    ∙ ap (cond (same_key k l) 0) (one_more (place (tree_of k) (terms ks)))

place-is : (k : Key) (ks : List Key) → place (tree_of k) (terms ks) ≡ position_or_len (same_key k) ks
place-is k ks = is_position_or_len (λ ls. place (tree_of k) (terms ls)) (same_key k) refl (place-next k) ks

place_next : (b : Bool) (m n : ℕ) → m ≤ n → cond b 0 (suc m) ≤ suc n
place_next true m n h = omega arith
place_next false m n h = omega (arith, h)

place-within : (k : Key) (ks : List Key) → place (tree_of k) (terms ks) ≤ length ks
place-within k [] = omega arith
place-within k (l ∷ ls) = place_next (same_tree (tree_of l) (tree_of k)) (place (tree_of k) (terms ls)) (length ls) (place-within k ls)

some_is : (b : Bool) (m i : ℕ) → cond b (Some m) None ≡ Some i → m ≡ i
some_is true m i h = cc
some_is false m i h = absurd (cc)

none_is : (b : Bool) (m : ℕ) → cond b (Some m) None ≡ None → b ≡ false
none_is true m h = absurd (cc)
none_is false m h = refl

-- what a look-up tells
pub place-found : (k : Key) (ks : List Key) (i : ℕ) → position (same_key k) ks ≡ Some i → place (tree_of k) (terms ks) ≡ i
place-found k ks i h = place-is k ks ∙ some_is (nat_lt (position_or_len (same_key k) ks) (length ks)) _ i h

pub place-none : (k : Key) (ks : List Key) → position (same_key k) ks ≡ None → place (tree_of k) (terms ks) ≡ length ks
place-none k ks h =
    let out : nat_lt (position_or_len (same_key k) ks) (length ks) ≡ false = none_is _ (position_or_len (same_key k) ks) h in
    let is = place-is k ks in
    let bound = place-within k ks in
    grind (arith, nat_tests)
