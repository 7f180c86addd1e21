-- Choices by a test, and facts of each tree of a list.
use Rattle.std.proofs.Common.{◌≡◌, Bool, true, false, not, List, [], ◌∷◌, ◌++◌, if◌then◌else◌, refl, ap, ◌∙◌}
use Rattle.term_base.specs.Trees.{Tree}

-- a fact of a choice, from its two cases
pub choice : {A : Type 0} (P : A → Type 0) (b : Bool) (x y : A) → (b ≡ true → P x) → (b ≡ false → P y) → P (if b then x else y)
choice P true x y p q = p refl
choice P false x y p q = q refl

pub not-true : (b : Bool) → not b ≡ true → b ≡ false
not-true true h = cc
not-true false h = refl

-- a fact of each tree of a list
abbrev pub EachTree : (Tree → Type 0) → List Tree → Type 0
EachTree P [] = Unit {0}
EachTree P (t ∷ ts) = P t × EachTree P ts

pub each_split : (P : Tree → Type 0) (xs ys : List Tree) → EachTree P (xs ++ ys) → EachTree P xs × EachTree P ys
each_split P [] ys h = (tt, h)
each_split P (x ∷ xs) ys h = let two = each_split P xs ys h.1 in ((h.0, two.0), two.1)

pub each_join : (P : Tree → Type 0) (xs ys : List Tree) → EachTree P xs → EachTree P ys → EachTree P (xs ++ ys)
each_join P [] ys h k = k
each_join P (x ∷ xs) ys h k = (h.0, each_join P xs ys h.1 k)

pub each_weaken : (P Q : Tree → Type 0) → ((t : Tree) → P t → Q t) → (ts : List Tree) → EachTree P ts → EachTree Q ts
each_weaken P Q w [] h = tt
each_weaken P Q w (t ∷ ts) h = (w t h.0, each_weaken P Q w ts h.1)

-- nothing in two lists is nothing in each
pub append_none : (xs ys : List Tree) → xs ++ ys ≡ [] → (xs ≡ []) × (ys ≡ [])
append_none [] ys h = (refl, h)
append_none (x ∷ xs) ys h = cc

pub none_of_both : (b : Bool) (xs ys : List Tree) → xs ≡ [] → ys ≡ [] → (if b then xs ++ ys else []) ≡ []
none_of_both true xs ys p q = ap (λ (z : List Tree). z ++ ys) p ∙ q
none_of_both false xs ys p q = refl
