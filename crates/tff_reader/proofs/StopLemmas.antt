-- The first fault of parts that follow each other, and what stops.
use Rattle.std.proofs.Common.{◌≡◌, ℕ, ◌+◌, ◌<◌, ◌≤◌, List, [], ◌∷◌, ◌++◌, map, length, get_or, drop, refl, sym, ◌∙◌, ap, subst}
use Rattle.std.specs.Prelude.{Some, Result, Ok, Err, flat_map}
use Rattle.std.specs.Option.{option_or}
use Rattle.std.proofs.lemmas.List.{at_drop_more, at_drop_all}
use Rattle.tff_signature.specs.declared.faults.Later.{Later}
use Rattle.tff_signature.specs.Faults.{Faults, checked}
use Rattle.tff_reader.specs.declared.stops.Stop.{Stop}
use Rattle.tff_reader.specs.declared.stops.Stop.TheVariants as stops
use Rattle.tff_reader.specs.Stops.{first_of, Stops, Stopped}

pub first_of_append : (fs gs : Faults) (f : Later) → first_of fs ≡ Some f → first_of (fs ++ gs) ≡ Some f
first_of_append [] gs f h = absurd (cc)
first_of_append (g ∷ fs) gs f h = h

-- the parts behind one that stops don't matter
pub stops_sooner : (e : Stop) (fs gs : Faults) → Stops e fs → Stops e (fs ++ gs)
stops_sooner stops.Memory fs gs h = tt
stops_sooner (stops.Fault f) fs gs h = first_of_append fs gs f h

-- the parts before one that stops have no fault
pub stops_later : (e : Stop) (fs gs : Faults) → fs ≡ [] → Stops e gs → Stops e (fs ++ gs)
stops_later e fs gs none h = subst (λ (hs : Faults). Stops e (hs ++ gs)) (sym none) h

pub stops_same : (e : Stop) (fs gs : Faults) → fs ≡ gs → Stops e gs → Stops e fs
stops_same e fs gs same h = subst (Stops e) (sym same) h

pub stopped_behind : {A : Type 0} (r : Result A Stop) (fs gs : Faults) → fs ≡ [] → Stopped r gs → Stopped r (fs ++ gs)
stopped_behind r fs gs none h = rw none h

-- the first fault of two parts
pub first_of_both : (fs gs : Faults) → option_or (first_of fs) (first_of gs) ≡ first_of (fs ++ gs)
first_of_both [] gs = refl
first_of_both (f ∷ fs) gs = refl

-- the fault that a check tells
pub checked_stops : (fs : Faults) (f : Later) → checked fs ≡ Err f → Stops (stops.Fault f) fs
checked_stops [] f h = absurd (cc)
checked_stops (g ∷ fs) f h = cc

pub checked_none : (fs : Faults) (u : Unit {0}) → checked fs ≡ Ok u → fs ≡ []
checked_none [] u h = refl
checked_none (g ∷ fs) u h = absurd (cc)

both_none : (fs gs : Faults) → fs ≡ [] → fs ++ gs ≡ gs
both_none fs gs none = ap (λ hs. hs ++ gs) none

-- ---- a list of parts

module _ {A : Type 0} (f : A → Faults) (xs : List A) (i : ℕ) (x : A) (below : i < length xs) (is : x ≡ get_or xs i x) where
  members_here : flat_map (λ (fs : Faults). fs) (map f (drop i xs)) ≡ f x ++ flat_map (λ (fs : Faults). fs) (map f (drop (i + 1) xs))
  members_here = at_drop_more (λ ys. flat_map (λ (fs : Faults). fs) (map f ys)) xs i x below ∙ ap (λ y. f y ++ flat_map (λ (fs : Faults). fs) (map f (drop (i + 1) xs))) (sym is)

  pub members_on : f x ≡ [] → flat_map (λ (fs : Faults). fs) (map f (drop i xs)) ≡ flat_map (λ (fs : Faults). fs) (map f (drop (i + 1) xs))
  members_on none = members_here ∙ both_none (f x) (flat_map (λ (fs : Faults). fs) (map f (drop (i + 1) xs))) none

  pub members_stop : (e : Stop) → Stops e (f x) → Stops e (flat_map (λ (fs : Faults). fs) (map f (drop i xs)))
  members_stop e h =
      stops_same e (flat_map (λ (fs : Faults). fs) (map f (drop i xs))) (f x ++ flat_map (λ (fs : Faults). fs) (map f (drop (i + 1) xs))) members_here
      (stops_sooner e (f x) (flat_map (λ (fs : Faults). fs) (map f (drop (i + 1) xs))) h)

pub members_end : {A : Type 0} (f : A → Faults) (xs : List A) (i : ℕ) → length xs ≤ i → flat_map (λ (fs : Faults). fs) (map f (drop i xs)) ≡ []
members_end f xs i over = at_drop_all (λ ys. flat_map (λ (fs : Faults). fs) (map f ys)) xs i over
