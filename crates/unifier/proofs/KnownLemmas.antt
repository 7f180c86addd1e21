-- The numbers of symbols: what the search finds has those of the terms alone.
use Rattle.std.proofs.Common.{◌≡◌, inl, inr, true, false, ℕ, List, [], refl, ap, sym, ◌∙◌, subst}
use Rattle.std.specs.Prelude.{Option, Some, None, Result, Ok, Err, IfOk, IfSome}
use Rattle.term_base.specs.declared.terms.Term.{Term}
use Rattle.term_base.specs.declared.variables.Variable.{Variable}
use Rattle.term_base.specs.Known.{is_known_head, is_known, are_known, KnownImages}
use Rattle.term_base.specs.KnownLemmas.{put_in-known, single-known}
use Rattle.term_base.specs.Same.{same_variable}
use Rattle.term_base.specs.SameLemmas.{same_variable-true}
use Rattle.term_base.specs.Substitution.{image, put_in, put_all, single}
use Rattle.term_base.specs.Trees.{Tree, Trees, var, node, none, more, same_head, occurs, any_occurs}
use Rattle.term_base.specs.TreeLemmas.{true_or_false, both_ways, or-true, and-true}
use Rattle.unifier.specs.Disagreements.{Disagreement, agree, clash, bind, first_of, disagreement, disagreement_among}
use Rattle.unifier.specs.Naming.{raised, new_name, images_of, forced_of, known_of, named}
use Rattle.unifier.specs.Variables.{has}

-- the term of a disagreement has known symbols
abbrev KnownIn : ℕ → Disagreement → Type 0
KnownIn n agree = Unit {0}
KnownIn n clash = Unit {0}
KnownIn n (bind v t) = is_known n t ≡ true

known_or : (n : ℕ) (a b : Disagreement) → KnownIn n a → KnownIn n b → KnownIn n (first_of a b)
known_or n agree b p q = q
known_or n clash b p q = p
known_or n (bind v t) b p q = p

module _ (n : ℕ) where
  mutual
    known_in : (a b : Tree) → is_known n a ≡ true → is_known n b ≡ true → KnownIn n (disagreement a b)
    known_in (var v) (var w) p q = elim (true_or_false (same_variable v w)) [
      | inl h ↦ rw h tt
      | inr h ↦ rw h refl
    ]
    known_in (var v) (node g ys) p q = q
    known_in (node f xs) (var w) p q = p
    known_in (node f xs) (node g ys) p q = elim (true_or_false (same_head f g)) [
      | inl h ↦ rw h (known_among xs ys (and-true (is_known_head n f) (are_known n xs) p).1 (and-true (is_known_head n g) (are_known n ys) q).1)
      | inr h ↦ rw h tt
    ]

    known_among : (xs ys : Trees) → are_known n xs ≡ true → are_known n ys ≡ true → KnownIn n (disagreement_among xs ys)
    known_among none none p q = tt
    known_among none (more y ys) p q = tt
    known_among (more x xs) none p q = tt
    known_among (more x xs) (more y ys) p q =
        let one = and-true (is_known n x) (are_known n xs) p in
        let two = and-true (is_known n y) (are_known n ys) q in
        known_or n (disagreement x y) (disagreement_among xs ys) (known_in x y one.0 two.0) (known_among xs ys one.1 two.1)

  bind_known : (l u : Tree) (v : Variable) (t : Tree) → disagreement l u ≡ bind v t → is_known n l ≡ true → is_known n u ≡ true → is_known n t ≡ true
  bind_known l u v t is p q = subst (KnownIn n) is (known_in l u p q)

-- s takes l0 and u0 to l and u with no symbols but theirs
abbrev pub KeepsKnown : Tree → Tree → (Variable → Tree) → Tree → Tree → Type 0
KeepsKnown l0 u0 s l u = (n : ℕ) → is_known n l0 ≡ true → is_known n u0 ≡ true → KnownImages n s × ((is_known n l ≡ true) × (is_known n u ≡ true))

pub known_start : (l0 u0 : Tree) (s : Variable → Tree) (l u : Tree) → l0 ≡ l → u0 ≡ u → ((v : Variable) → s v ≡ var v) → KeepsKnown l0 u0 s l u
known_start l0 u0 s l u p q e n a b = ((λ v. ap (is_known n) (e v)), (ap (is_known n) (sym p) ∙ a, ap (is_known n) (sym q) ∙ b))

pub known_bound : (l0 u0 : Tree) (s : Variable → Tree) (l u : Tree) → KeepsKnown l0 u0 s l u → (v : Variable) (t : Tree) → disagreement l u ≡ bind v t
    → (s' : Variable → Tree) (l' u' : Tree) → l' ≡ put_in (single v t) l → u' ≡ put_in (single v t) u → ((w : Variable) → s' w ≡ put_in (single v t) (s w))
    → KeepsKnown l0 u0 s' l' u'
known_bound l0 u0 s l u h v t is s' l' u' p q e n a b =
    let k = h n a b in
    let new = single-known n v t (bind_known n l u v t is k.1.0 k.1.1) in (
      (λ w. ap (is_known n) (e w) ∙ put_in-known n (single v t) new (s w) (k.0 w)),
      (
        ap (is_known n) p ∙ put_in-known n (single v t) new l k.1.0,
        ap (is_known n) q ∙ put_in-known n (single v t) new u k.1.1,
      ),
    )

-- the answers
module _ (n : ℕ) where
  named_known : (forced known : List Variable) (found : List (Variable × Term)) (base : ℕ) (vs : List Variable) → KnownImages n (image found)
      → KnownImages n (named forced known found base vs)
  named_known forced known found base vs h v = elim (true_or_false (has vs v)) [
    | inl i ↦ rw i (put_in-known n (λ z. var (new_name forced known z)) (λ z. refl) (image found (raised base v)) (h (raised base v)))
    | inr i ↦ rw i refl
  ]

  same_known : (s t : Variable → Tree) → ((v : Variable) → s v ≡ t v) → KnownImages n t → KnownImages n s
  same_known s t e h v = ap (is_known n) (e v) ∙ h v

  raised_known : (base : ℕ) (u : Tree) → is_known n u ≡ true → is_known n (put_in (λ v. var (raised base v)) u) ≡ true
  raised_known base u h = put_in-known n (λ v. var (raised base v)) (λ v. refl) u h

-- what was found for two terms has their symbols alone
abbrev pub FoundKnown : Tree → Tree → (Variable → Tree) → Type 0
FoundKnown l u s = (n : ℕ) → is_known n l ≡ true → is_known n u ≡ true → KnownImages n s

pub one_known : {E : Type 0} (r : Result (Option (List (Variable × Term))) E) (found : List (Variable × Term)) (list : List Variable) (l u : Tree)
    → FoundKnown l u (image found)
    → IfOk r (λ o. IfSome o (λ s. (v : Variable) → image s v ≡ named (forced_of (images_of found 0 list) []) (known_of (images_of found 0 list) []) found 0 list v))
    → IfOk r (λ o. IfSome o (λ s. (n : ℕ) → is_known n l ≡ true → is_known n u ≡ true → KnownImages n (image s)))
one_known (Err e) found list l u h is = tt
one_known (Ok None) found list l u h is = tt
one_known (Ok (Some s)) found list l u h is = λ n a b.
    let left = images_of found 0 list in
    same_known n (image s) (named (forced_of left []) (known_of left []) found 0 list) is
    (named_known n (forced_of left []) (known_of left []) found 0 list (h n a b))

pub pair_known : {E : Type 0} (r : Result (Option (List (Variable × Term) × List (Variable × Term))) E) (found : List (Variable × Term)) (base : ℕ)
    (firsts seconds : List Variable) (l u : Tree)
    → FoundKnown l (put_in (λ v. var (raised base v)) u) (image found)
    → IfOk r (λ o. IfSome o (λ p. (v : Variable) → image p.0 v ≡ named (forced_of (images_of found 0 firsts) (images_of found base seconds)) (known_of (images_of found 0 firsts) (images_of found base seconds)) found 0 firsts v))
    → IfOk r (λ o. IfSome o (λ p. (v : Variable) → image p.1 v ≡ named (forced_of (images_of found 0 firsts) (images_of found base seconds)) (known_of (images_of found 0 firsts) (images_of found base seconds)) found base seconds v))
    → IfOk r (λ o. IfSome o (λ p. (n : ℕ) → is_known n l ≡ true → is_known n u ≡ true → KnownImages n (image p.0) × KnownImages n (image p.1)))
pair_known (Err e) found base firsts seconds l u h is1 is2 = tt
pair_known (Ok None) found base firsts seconds l u h is1 is2 = tt
pair_known (Ok (Some p)) found base firsts seconds l u h is1 is2 = λ n a b.
    let F = forced_of (images_of found 0 firsts) (images_of found base seconds) in
    let K = known_of (images_of found 0 firsts) (images_of found base seconds) in
    let k = h n a (raised_known n base u b) in (
      same_known n (image p.0) (named F K found 0 firsts) is1 (named_known n F K found 0 firsts k),
      same_known n (image p.1) (named F K found base seconds) is2 (named_known n F K found base seconds k),
    )

-- the image of a variable of a term is a part of what the term becomes
module _ (n : ℕ) (s : Variable → Tree) where
  mutual
    part_known : (v : Variable) (p : Tree) → occurs v p ≡ true → is_known n (put_in s p) ≡ true → is_known n (s v) ≡ true
    part_known v (var w) o h = let e : w ≡ v = same_variable-true w v o in ap (λ x. is_known n (s x)) (sym e) ∙ h
    part_known v (node f xs) o h = part_among v xs o (and-true (is_known_head n f) (are_known n (put_all s xs)) h).1

    part_among : (v : Variable) (xs : Trees) → any_occurs v xs ≡ true → are_known n (put_all s xs) ≡ true → is_known n (s v) ≡ true
    part_among v none o h = absurd (both_ways false o refl)
    part_among v (more x xs) o h =
        let two = and-true (is_known n (put_in s x)) (are_known n (put_all s xs)) h in
        elim (or-true (occurs v x) (any_occurs v xs) o) [
          | inl a ↦ part_known v x a two.0
          | inr b ↦ part_among v xs b two.1
        ]

-- what makes p into t, and keeps the variables that p hasn't, has the symbols of t alone
pub match_known : (n : ℕ) (p t : Tree) (s : Variable → Tree) → put_in s p ≡ t → ((v : Variable) → occurs v p ≡ false → s v ≡ var v) → is_known n t ≡ true → KnownImages n s
match_known n p t s e keeps h v = elim (true_or_false (occurs v p)) [
  | inl o ↦ part_known n s v p o (ap (is_known n) e ∙ h)
  | inr o ↦ ap (is_known n) (keeps v o)
]
