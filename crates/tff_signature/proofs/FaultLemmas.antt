-- The first fault of parts that follow each other.
use Rattle.std.proofs.Common.{◌≡◌, ℕ, ◌+◌, ◌<◌, List, [], ◌∷◌, ◌++◌, length, get_or, drop, refl, sym, ap, ◌∙◌}
use Rattle.std.specs.List.{flat_map}
use Rattle.std.proofs.lemmas.List.{drop_more}
use Rattle.std.specs.Prelude.{Ok, Err}
use Rattle.tff_signature.specs.declared.faults.Later.{Later}
use Rattle.tff_signature.specs.Faults.{Faults, checked}

-- the parts before this one have no fault
pub checked_ok : (fs gs : Faults) (u : Unit {0}) → checked fs ≡ Ok u → checked (fs ++ gs) ≡ checked gs
checked_ok [] gs u h = refl
checked_ok (f ∷ fs) gs u h = absurd (cc)

-- the fault of the first part that has one
pub checked_err : (fs gs : Faults) (f : Later) → checked fs ≡ Err f → checked (fs ++ gs) ≡ Err f
checked_err [] gs f h = absurd (cc)
checked_err (g ∷ fs) gs f h = h

module _ {A : Type 0} (faults : A → Faults) (xs : List A) (i : ℕ) (x : A) (below : i < length xs) (is : x ≡ get_or xs i x) where
  here : flat_map faults (drop i xs) ≡ faults x ++ flat_map faults (drop (i + 1) xs)
  here = ap (flat_map faults) (drop_more xs i x below) ∙ ap (λ y. faults y ++ flat_map faults (drop (i + 1) xs)) (sym is)

  -- a part without a fault in a list of them
  pub goes_on : (u : Unit {0}) → Ok u ≡ checked (faults x) → checked (flat_map faults (drop i xs)) ≡ checked (flat_map faults (drop (i + 1) xs))
  goes_on u h = ap checked here ∙ checked_ok (faults x) (flat_map faults (drop (i + 1) xs)) u (sym h)

  -- the first part that has one
  pub stops : (f : Later) → Err f ≡ checked (faults x) → checked (flat_map faults (drop i xs)) ≡ Err f
  stops f h = ap checked here ∙ checked_err (faults x) (flat_map faults (drop (i + 1) xs)) f (sym h)
