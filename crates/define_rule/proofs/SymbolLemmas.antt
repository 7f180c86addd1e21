-- The symbols of the next term are those of its clause.
use Rattle.std.proofs.Common.{◌≡◌, inl, inr, Result, IfOk, ℕ, true, ◌&&◌, List, [], ◌∷◌, ◌++◌, refl, ap, sym, ◌∙◌}
use Rattle.std.specs.Prelude.{Option, Some, None, IfSome, option_map}
use Rattle.std.specs.Option.{option_map_or}
use Rattle.term_base.specs.declared.symbols.Symbol.{Symbol}
use Rattle.term_base.specs.declared.terms.Term.{Term}
use Rattle.term_base.specs.declared.variables.Variable.{Variable}
use Rattle.term_base.specs.Known.{is_known_head, is_known, are_known, is_known_lit, is_known_clause, KnownImages}
use Rattle.term_base.specs.KnownLemmas.{put_in-known}
use Rattle.term_base.specs.Same.{same_variable}
use Rattle.term_base.specs.Trees.{Tree, Trees, var, node, none, more, tree}
use Rattle.term_base.specs.TreeLemmas.{and-true}
use Rattle.term_base.specs.Lits.{Relation, equal, differ, at_most, Lit}
use Rattle.define_rule.specs.Pins.{is_pin, pin_in, pinned, pin}
use Rattle.define_rule.specs.NextTerm.{subterms, subterms_of_each, in_order, next_term}
use Rattle.define_rule.proofs.AnswerLemmas.{chosen, or_some, EachOf, each_append, first-some, from_clause, of_answer}

module _ (n : ℕ) where
  abbrev IsKnown : Tree → Type 0
  IsKnown t = is_known n t ≡ true

  mutual
    subterms_known : (t : Tree) → is_known n t ≡ true → EachOf IsKnown (subterms t)
    subterms_known (var v) h = (h, tt)
    subterms_known (node f xs) h =
        each_append IsKnown (subterms_of_each xs) (node f xs ∷ [])
        (all_known xs (and-true (is_known_head n f) (are_known n xs) h).1) (h, tt)

    all_known : (xs : Trees) → are_known n xs ≡ true → EachOf IsKnown (subterms_of_each xs)
    all_known none h = tt
    all_known (more x xs) h =
        let two = and-true (is_known n x) (are_known n xs) h in
        each_append IsKnown (subterms x) (subterms_of_each xs) (subterms_known x two.0) (all_known xs two.1)

  -- the subterms of a clause have its symbols
  clause_known : (c : List Lit) → is_known_clause n c ≡ true → EachOf IsKnown (in_order c)
  clause_known [] h = tt
  clause_known (l ∷ ls) h =
      let two = and-true (is_known_lit n l) (is_known_clause n ls) h in
      let sides = and-true (is_known n l.left) (is_known n l.right) two.0 in
      each_append IsKnown (subterms l.left) (subterms l.right ++ in_order ls) (subterms_known l.left sides.0)
      (each_append IsKnown (subterms l.right) (in_order ls) (subterms_known l.right sides.1) (clause_known ls two.1))

  module _ (S : List Symbol) where
    pin_in_known : (v : Variable) (r : Relation) (s t g : Tree) → pin_in S v r s t ≡ Some g → is_known n t ≡ true → is_known n g ≡ true
    pin_in_known v equal s t g h k = cc
    pin_in_known v at_most s t g h k = cc
    pin_in_known v differ (node f xs) t g h k = cc
    pin_in_known v differ (var x) t g h k = ap (is_known n) (sym (chosen (same_variable x v && is_pin S t) t g h).1) ∙ k

    pinned_known : (c : List Lit) (v : Variable) (g : Tree) → pinned S c v ≡ Some g → is_known_clause n c ≡ true → is_known n g ≡ true
    pinned_known [] v g h k = cc
    pinned_known (l ∷ ls) v g h k =
        let two = and-true (is_known_lit n l) (is_known_clause n ls) k in
        elim (or_some (pin_in S v l.relation l.left l.right) (pinned S ls v) g h) [
          | inl a ↦ pin_in_known v l.relation l.left l.right g a (and-true (is_known n l.left) (is_known n l.right) two.0).1
          | inr b ↦ pinned_known ls v g b two.1
        ]

    module _ (c : List Lit) (known : is_known_clause n c ≡ true) where
      image_known : (v : Variable) (o : Option Tree) → pinned S c v ≡ o → is_known n (option_map_or (λ g. g) o (var v)) ≡ true
      image_known v None e = refl
      image_known v (Some g) e = pinned_known c v g e known

      pin_known : KnownImages n (pin S c)
      pin_known v = image_known v (pinned S c v) refl

      next_known : (u : Tree) → next_term S c ≡ Some u → is_known n u ≡ true
      next_known u h =
          let f = from_clause S c u h in
          let d = first-some S c IsKnown (in_order c) (clause_known c known) f.0 f.1.0 in
          ap (is_known n) (sym f.1.1) ∙ put_in-known n (pin S c) pin_known f.0 d.1

pub answer_known : {E : Type 0} (S : List Symbol) (c : List Lit) (r : Result (Option Term) E) → IfOk r (λ o. option_map tree o ≡ next_term S c)
    → IfOk r (λ o. IfSome o (λ t. (n : ℕ) → is_known_clause n c ≡ true → is_known n (tree t) ≡ true))
answer_known S c r e = of_answer S c (λ (u : Tree). (n : ℕ) → is_known_clause n c ≡ true → is_known n u ≡ true) (λ u h n k. next_known n S c k u h) r e
