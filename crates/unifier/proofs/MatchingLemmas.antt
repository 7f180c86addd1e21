-- Matching: a substitution that makes p into t puts for each variable of p what stands at its place in t.
use Rattle.std.proofs.Common.{◌≡◌, ◌⊎◌, inl, inr, ℕ, ◌≤◌, Bool, true, false, ◌==◌, List, [], ◌∷◌, ◌++◌, map, drop, length, refl, ap, sym, ◌∙◌, subst, arith, if◌then◌else◌}
use Rattle.std.specs.Prelude.{Result, Ok, Err, IfOk}
use Rattle.std.proofs.lemmas.Grind.{common_steps}
use Rattle.std.proofs.lemmas.List.{drop_all}
use Rattle.term_base.specs.declared.symbols.Symbol.{Symbol}
use Rattle.term_base.specs.declared.terms.Term.{Term}
use Rattle.term_base.specs.declared.variables.Variable.{Variable}
use Rattle.term_base.specs.Same.{same_variable}
use Rattle.term_base.specs.SameLemmas.{same_variable-true, same_variable-refl}
use Rattle.term_base.specs.Purity.{IsPure}
use Rattle.term_base.specs.Sorting.{sort}
use Rattle.term_base.specs.Substitution.{image, put_in, put_all, Simple}
use Rattle.term_base.specs.SubstLemmas.{put_in-agree}
use Rattle.term_base.specs.Trees.{Head, truth, number, plus, times, symbol, Tree, Trees, var, node, none, more, occurs, any_occurs, trees, tree, same_tree, same_trees}
use Rattle.term_base.specs.TreeLemmas.{true_or_false, both_ways, or-true, same_tree-refl}
use Rattle.unifier.specs.Variables.{has, gathered}
use Rattle.unifier.specs.Naming.{raised, seen, images_of, pick}
use Rattle.unifier.specs.Pairing.{is_alike, beside, all_beside}
use Rattle.unifier.specs.Unifiers.{NoMatch, IsOnlyCandidate}
use Rattle.unifier.proofs.ImageLemmas.{image_pick, listed_images}
use Rattle.unifier.proofs.KindLemmas.{variable_pure}
use Rattle.unifier.proofs.RaisingLemmas.{raised_none}
use Rattle.unifier.proofs.VariableLemmas.{has_gathered, gathered_own}

-- a variable is one of the pairs
abbrev Bound : List (Variable × Tree) → Variable → Type 0
Bound [] v = ⊥
Bound (p ∷ ps) v = (p.0 ≡ v) ⊎ Bound ps v

bound_left : (ps qs : List (Variable × Tree)) (v : Variable) → Bound ps v → Bound (ps ++ qs) v
bound_left [] qs v b = absurd b
bound_left (p ∷ ps) qs v (inl e) = inl e
bound_left (p ∷ ps) qs v (inr b) = inr (bound_left ps qs v b)

bound_right : (ps qs : List (Variable × Tree)) (v : Variable) → Bound qs v → Bound (ps ++ qs) v
bound_right [] qs v b = b
bound_right (p ∷ ps) qs v b = inr (bound_right ps qs v b)

alike-refl : (f : Head) → is_alike f f ≡ true
alike-refl truth = refl
alike-refl (number n) = refl
alike-refl plus = refl
alike-refl times = refl
alike-refl (symbol f) = grind (arith, common_steps)

module _ (r : Variable → Tree) where
  -- the substitution does what the pairs say
  abbrev Follows : List (Variable × Tree) → Type 0
  Follows [] = Unit {0}
  Follows (p ∷ ps) = (r p.0 ≡ p.1) × Follows ps

  follows_both : (ps qs : List (Variable × Tree)) → Follows ps → Follows qs → Follows (ps ++ qs)
  follows_both [] qs h k = k
  follows_both (p ∷ ps) qs h k = (h.0, follows_both ps qs h.1 k)

  pick_follows : (ps : List (Variable × Tree)) (v : Variable) → Follows ps → Bound ps v → pick ps v ≡ r v
  pick_follows [] v h b = absurd b
  pick_follows (p ∷ ps) v h b = elim (true_or_false (same_variable p.0 v)) [
    | inl e ↦ (let here : pick (p ∷ ps) v ≡ p.1 = rw e refl in here ∙ sym h.0 ∙ ap r (same_variable-true p.0 v e))
    | inr d ↦ (
        let there : pick (p ∷ ps) v ≡ pick ps v = rw d refl in
        let later : Bound ps v = elim b [
          | inl s ↦ absurd (both_ways (same_variable p.0 v) (ap (same_variable p.0) (sym s) ∙ same_variable-refl p.0) d)
          | inr m ↦ m
        ] in
        there ∙ pick_follows ps v h.1 later)
  ]

  mutual
    follows_beside : (p t : Tree) → put_in r p ≡ t → Follows (beside p t)
    follows_beside (var v) t e = (e, tt)
    follows_beside (node f xs) (var w) e = tt
    follows_beside (node f xs) (node g ys) e =
        let rest : put_all r xs ≡ ys = cc in
        elim (true_or_false (is_alike f g)) [ inl h ↦ rw h (follows_all xs ys rest) | inr h ↦ rw h tt ]

    follows_all : (xs ys : Trees) → put_all r xs ≡ ys → Follows (all_beside xs ys)
    follows_all none ys e = tt
    follows_all (more x xs) none e = tt
    follows_all (more x xs) (more y ys) e =
        let one : put_in r x ≡ y = cc in
        let rest : put_all r xs ≡ ys = cc in
        follows_both (beside x y) (all_beside xs ys) (follows_beside x y one) (follows_all xs ys rest)

  mutual
    bound_beside : (p t : Tree) → put_in r p ≡ t → (v : Variable) → occurs v p ≡ true → Bound (beside p t) v
    bound_beside (var w) t e v o = inl (same_variable-true w v o)
    bound_beside (node f xs) (var w) e v o = cc
    bound_beside (node f xs) (node g ys) e v o =
        let one : f ≡ g = cc in
        let rest : put_all r xs ≡ ys = cc in
        let h : is_alike f g ≡ true = ap (is_alike f) (sym one) ∙ alike-refl f in
        rw h (bound_all xs ys rest v o)

    bound_all : (xs ys : Trees) → put_all r xs ≡ ys → (v : Variable) → any_occurs v xs ≡ true → Bound (all_beside xs ys) v
    bound_all none ys e v o = absurd (both_ways false o refl)
    bound_all (more x xs) none e v o = cc
    bound_all (more x xs) (more y ys) e v o =
        let one : put_in r x ≡ y = cc in
        let rest : put_all r xs ≡ ys = cc in
        elim (or-true (occurs v x) (any_occurs v xs) o) [
          | inl p ↦ bound_left (beside x y) (all_beside xs ys) v (bound_beside x y one v p)
          | inr q ↦ bound_right (beside x y) (all_beside xs ys) v (bound_all xs ys rest v q)
        ]

  -- the variables of p have the images that r gives them
  pub image_beside : (p t : Tree) (found : List (Variable × Term)) → map seen found ≡ beside p t → put_in r p ≡ t → (v : Variable) → occurs v p ≡ true → image found v ≡ r v
  image_beside p t found is e v o =
      image_pick found v ∙ ap (λ l. pick l v) is ∙ pick_follows (beside p t) v (follows_beside p t e) (bound_beside p t e v o)

-- what stands at the places of p's variables is the only candidate
pub only_candidate : (p t : Tree) (found : List (Variable × Term)) (list : List Variable) (s : Variable → Tree)
    → map seen found ≡ beside p t → list ≡ gathered p []
    → ((v : Variable) → s v ≡ (if has list v then image found (raised 0 v) else var v))
    → IsOnlyCandidate p t s
only_candidate p t found list s is listed answer = record {
  agrees = λ r e v o.
      let i : has list v ≡ true = gathered_own p list v listed o in
      let chosen : (if has list v then image found (raised 0 v) else var v) ≡ image found (raised 0 v) = rw i refl in
      answer v ∙ chosen ∙ ap (image found) (raised_none v) ∙ image_beside r p t found is e v o;
  keeps = λ v o.
      let i : has list v ≡ false = ap (λ l. has l v) listed ∙ has_gathered p [] v ∙ o in
      let chosen : (if has list v then image found (raised 0 v) else var v) ≡ var v = rw i refl in
      answer v ∙ chosen;
}

pub candidate_result : {E : Type 0} (r : Result (List (Variable × Term)) E) (p t : Tree) (found pairs : List (Variable × Term)) (list : List Variable)
    → map seen found ≡ beside p t → list ≡ gathered p [] → map seen pairs ≡ images_of found 0 list
    → IfOk r (λ s. (v : Variable) → image s v ≡ image pairs v) → IfOk r (λ s. IsOnlyCandidate p t (image s))
candidate_result (Err e) p t found pairs list is listed im h = tt
candidate_result (Ok s) p t found pairs list is listed im h =
    only_candidate p t found list (image s) is listed (λ v. h v ∙ listed_images found 0 list pairs im v)

module _ (S : List Symbol) (p t : Tree) (s r : Variable → Tree) (h : IsOnlyCandidate p t s) (e : put_in r p ≡ t) where
  -- where something makes p into t, the candidate does
  pub match_equal : put_in s p ≡ t
  match_equal = put_in-agree s r p (λ v o. h.agrees r e v o) ∙ e

  -- and is simple where that is
  pub match_simple : Simple S r → Simple S s
  match_simple simple = record {
    sorted = λ v. elim (true_or_false (occurs v p)) [
      | inl o ↦ (ap (sort S) (h.agrees r e v o) ∙ simple.sorted v)
      | inr o ↦ ap (sort S) (h.keeps v o)
    ];
    pure = λ v a. elim (true_or_false (occurs v p)) [
      | inl o ↦ subst (IsPure S) (sym (h.agrees r e v o)) (simple.pure v a)
      | inr o ↦ subst (IsPure S) (sym (h.keeps v o)) (variable_pure S v a)
    ];
  }

ended_lists : (rest : List Term) → (length rest == 0) ≡ same_trees none (trees (map tree rest))
ended_lists [] = refl
ended_lists (y ∷ ys) = grind (arith, common_steps)

-- a list that has ended becomes another exactly where that is empty
pub each_ended : (empty whole : Bool) (s : Variable → Tree) (xs rest : List Term) (i : ℕ) → length xs ≤ i → empty ≡ (length rest == 0)
    → whole ≡ same_trees (put_all s (trees (map tree (drop i xs)))) (trees (map tree rest)) → empty ≡ whole
each_ended empty whole s xs rest i h is before =
    is ∙ ended_lists rest
    ∙ ap (λ (l : List Term). same_trees (put_all s (trees (map tree l))) (trees (map tree rest))) (sym (drop_all i xs h))
    ∙ sym before

-- where the candidate doesn't make p into t, no substitution does
pub match_differs : (S : List Symbol) (p t : Tree) (s : Variable → Tree) → IsOnlyCandidate p t s → same_tree (put_in s p) t ≡ false → NoMatch S p t
match_differs S p t s h d = λ r simple e.
    both_ways (same_tree (put_in s p) t) (ap (λ (x : Tree). same_tree x t) (match_equal S p t s r h e) ∙ same_tree-refl t) d

pub match_not_simple : (S : List Symbol) (p t : Tree) (s : Variable → Tree) → IsOnlyCandidate p t s → (Simple S s → ⊥) → NoMatch S p t
match_not_simple S p t s h d = λ r simple e. d (match_simple S p t s r h e simple)
