-- The different trees of a list: each is one of the list, each of the list is among them, and no two are one.
use Rattle.std.proofs.Common.{◌≡◌, ◌≢◌, ◌⊎◌, inl, inr, true, false, List, [], ◌∷◌, ◌++◌, fold, refl, ap, sym, ◌∙◌}
use Rattle.term_base.specs.Trees.{Tree, same_tree}
use Rattle.term_base.specs.TreeLemmas.{or-true, or-false, both_ways, same_tree-true, same_tree-refl}
use Rattle.weak_abstraction.specs.Abstracted.{is_among, add_new, each_once}
use Rattle.weak_abstraction.proofs.Choices.{choice, EachTree, each_join}

abbrev pub IsAmong : Tree → List Tree → Type 0
IsAmong t [] = ⊥
IsAmong t (u ∷ us) = (u ≡ t) ⊎ IsAmong t us

among_true : (t : Tree) (us : List Tree) → is_among t us ≡ true → IsAmong t us
among_true t [] h = absurd (both_ways false h refl)
among_true t (u ∷ us) h = elim (or-true (same_tree u t) (is_among t us) h) [ inl p ↦ inl (same_tree-true u t p) | inr q ↦ inr (among_true t us q) ]

among_last : (t : Tree) (us : List Tree) → IsAmong t (us ++ t ∷ [])
among_last t [] = inl refl
among_last t (u ∷ us) = inr (among_last t us)

among_left : (t : Tree) (us vs : List Tree) → IsAmong t us → IsAmong t (us ++ vs)
among_left t [] vs h = absurd h
among_left t (u ∷ us) vs (inl e) = inl e
among_left t (u ∷ us) vs (inr m) = inr (among_left t us vs m)

added : (found : List Tree) (t : Tree) → IsAmong t (add_new found t)
added found t = choice (IsAmong t) (is_among t found) found (found ++ t ∷ []) (λ h. among_true t found h) (λ _. among_last t found)

kept : (found : List Tree) (t u : Tree) → IsAmong u found → IsAmong u (add_new found t)
kept found t u h = choice (IsAmong u) (is_among t found) found (found ++ t ∷ []) (λ _. h) (λ _. among_left u found (t ∷ []) h)

all_kept : (found ts : List Tree) (u : Tree) → IsAmong u found → IsAmong u (fold add_new found ts)
all_kept found [] u h = h
all_kept found (t ∷ ts) u h = all_kept (add_new found t) ts u (kept found t u h)

each_in : (found ts : List Tree) → EachTree (λ u. IsAmong u (fold add_new found ts)) ts
each_in found [] = tt
each_in found (t ∷ ts) = (all_kept (add_new found t) ts t (added found t), each_in (add_new found t) ts)

-- each of the list is among the different ones
pub each_among : (ts : List Tree) → EachTree (λ u. IsAmong u (each_once ts)) ts
each_among ts = each_in [] ts

each_fold : (P : Tree → Type 0) (found ts : List Tree) → EachTree P found → EachTree P ts → EachTree P (fold add_new found ts)
each_fold P found [] h k = h
each_fold P found (t ∷ ts) h k =
    each_fold P (add_new found t) ts
    (choice (EachTree P) (is_among t found) found (found ++ t ∷ []) (λ _. h) (λ _. each_join P found (t ∷ []) h (k.0, tt)))
    k.1

-- what holds of each of the list holds of each different one
pub each_different : (P : Tree → Type 0) (ts : List Tree) → EachTree P ts → EachTree P (each_once ts)
each_different P ts k = each_fold P [] ts tt k

abbrev pub AreDifferent : List Tree → Type 0
AreDifferent [] = Unit {0}
AreDifferent (t ∷ ts) = EachTree (λ u. t ≢ u) ts × AreDifferent ts

different_last : (found : List Tree) (t : Tree) → is_among t found ≡ false → AreDifferent found → AreDifferent (found ++ t ∷ [])
different_last [] t h d = (tt, tt)
different_last (u ∷ us) t h d =
    let two = or-false (same_tree u t) (is_among t us) h in
    let apart : u ≢ t = λ e. both_ways (same_tree u t) (ap (same_tree u) (sym e) ∙ same_tree-refl u) two.0 in
    (each_join (λ w. u ≢ w) us (t ∷ []) d.0 (apart, tt), different_last us t two.1 d.1)

different_fold : (found ts : List Tree) → AreDifferent found → AreDifferent (fold add_new found ts)
different_fold found [] d = d
different_fold found (t ∷ ts) d =
    different_fold (add_new found t) ts
    (choice AreDifferent (is_among t found) found (found ++ t ∷ []) (λ _. d) (λ h. different_last found t h d))

-- no two of the different ones are one
pub all_different : (ts : List Tree) → AreDifferent (each_once ts)
all_different ts = different_fold [] ts tt
