-- The lists of candidates have what is said of them, and nothing else; what fires is in them.
use Rattle.std.proofs.Common.{◌≡◌, ◌≢◌, ◌↔◌, inl, inr, ℕ, ◌+◌, ◌==◌, Bool, true, false, not, ◌||◌, List, [], ◌++◌, filter, flat_map, Contains, refl, ap, sym, ◌∙◌, subst, arith, if◌then◌else◌}
use Rattle.std.proofs.lemmas.Grind.{common_steps}
use Rattle.std.specs.Prelude.{Some}
use Rattle.query_board.specs.declared.queries.Stamp.{Stamp}
use Rattle.term_base.specs.declared.places.Place.{Place}
use Rattle.term_base.specs.declared.places.Side.{Side}
use Rattle.term_base.specs.declared.symbols.Symbol.{Symbol}
use Rattle.term_base.specs.declared.variables.Variable.{Variable}
use Rattle.term_base.specs.Clauses.{is_background}
use Rattle.term_base.specs.LitLemmas.{named-put}
use Rattle.term_base.specs.Lits.{Lit}
use Rattle.term_base.specs.Places.{item}
use Rattle.term_base.specs.Purity.{foreground, ordinary, IsPure}
use Rattle.term_base.specs.Substitution.{put_in, Simple}
use Rattle.term_base.specs.TreeLemmas.{or-false, both_ways, true_or_false}
use Rattle.term_base.specs.Trees.{Tree, var, node}
use Rattle.hier_rules.specs.declared.inferences.Candidate.{Candidate}
use Rattle.hier_rules.specs.declared.inferences.Candidate.TheVariants.{Superpose, Resolve, Factor, Define}
use Rattle.hier_rules.specs.Candidates.{equation_sides, superpositions_from, superpositions, resolutions, factorings_from, factorings, own_candidates}
use Rattle.hier_rules.specs.CountedPlaces.{counts, places}
use Rattle.hier_rules.specs.Fires.{Fires}
use Rattle.hier_rules.specs.Premises.{IsEquation}
use Rattle.hier_rules.specs.Listed.{IsIntoPlace, HasDisequation, HasEquations, IsSuperposition, IsOwn}
use Rattle.hier_rules.proofs.ListedLists.{In, in_left, in_right, in_cases, in_map, map_in, in_flat, flat_in, in_filter, filter_in, in_contains, contains_in}
use Rattle.hier_rules.proofs.ListedNumbers.{places_in, places_back, sides_in, sides_back, resolutions_in, resolutions_back}

-- ---- small parts

unless : {A : Type 0} (b : Bool) (xs : List A) (x : A) → b ≡ false → In x xs → In x (if b then [] else xs)
unless true xs x h k = absurd (both_ways true refl h)
unless false xs x h k = k

unless_back : {A : Type 0} (b : Bool) (xs : List A) (x : A) → In x (if b then [] else xs) → (b ≡ false) × In x xs
unless_back true xs x h = absurd h
unless_back false xs x h = (refl, h)

both_false : (a b : Bool) → a ≡ false → b ≡ false → (a || b) ≡ false
both_false true b h k = cc
both_false false b h k = k

differ_as_test : (m n : ℕ) → m ≢ n → not (n == m) ≡ true
differ_as_test m n h = grind (arith, common_steps, h)

test_as_differ : (m n : ℕ) → not (n == m) ≡ true → m ≢ n
test_as_differ m n h = grind (arith, common_steps, h)

from_zero : (j n : ℕ) → n ≡ 0 + j → n ≡ j
from_zero j n h = omega (arith, h)

module _ (S : List Symbol) where
  -- ---- terms that count

  counted_tree : (u : Tree) → ((v : Variable) → u ≢ var v) → (IsPure S u → ⊥) → counts S u ≡ true
  counted_tree (var v) h impure = absurd (h v refl)
  counted_tree (node f xs) h impure = elim (true_or_false (foreground S (node f xs) || ordinary (node f xs))) [
    | inl a ↦ a
    | inr b ↦ (let two = or-false (foreground S (node f xs)) (ordinary (node f xs)) b in absurd (impure (record { no_foreground = two.0; no_ordinary = two.1 })))
  ]

  no_variable : (u : Tree) → counts S u ≡ true → (v : Variable) → u ≢ var v
  no_variable (var w) h v e = both_ways false h refl
  no_variable (node f xs) h v e = cc

  -- ---- superpositions

  module _ (c : List Lit) (cs : Stamp) (d : List Lit) (ds : Stamp) where
    listed_superposition : (n : ℕ) (side : Side) (place : Place) → IsIntoPlace S c d n place → In (Superpose cs n side ds place) (superpositions S c cs d ds)
    listed_superposition n side place p =
        let side_there : In (n, side) (equation_sides 0 c) =
        (let same : 0 + n ≡ n = omega arith in subst (λ k. In (k, side) (equation_sides 0 c)) same (sides_in c 0 n side p.l p.premises.from)) in
        let place_there : In place (places S 0 d) =
        (let same : 0 + place.literal ≡ place.literal = omega arith in
        subst (λ k. In (record { literal = k; side = place.side; path = place.path }) (places S 0 d)) same (places_in S d 0 place.literal place.side place.path p.m p.u p.premises.into p.premises.there p.counted)) in
        unless (is_background S c || is_background S d) (flat_map (superpositions_from cs ds (places S 0 d)) (equation_sides 0 c)) (Superpose cs n side ds place)
        (both_false (is_background S c) (is_background S d) p.premises.first p.premises.second)
        (in_flat (superpositions_from cs ds (places S 0 d)) (equation_sides 0 c) (n, side) (Superpose cs n side ds place) side_there
        (in_map (λ q. Superpose cs n side ds q) (places S 0 d) place place_there))

    superposition_in : (x : Candidate) → IsSuperposition S c cs d ds x → In x (superpositions S c cs d ds)
    superposition_in (Superpose from n side into place) h =
        subst (λ z. In (Superpose z n side into place) (superpositions S c cs d ds)) (sym h.0)
        (subst (λ z. In (Superpose cs n side z place) (superpositions S c cs d ds)) (sym h.1) (listed_superposition n side place h.2))
    superposition_in (Resolve of n) h = absurd h
    superposition_in (Factor of m ms n ns) h = absurd h
    superposition_in (Define of t) h = absurd h

    superposition_back : (x : Candidate) → In x (superpositions S c cs d ds) → IsSuperposition S c cs d ds x
    superposition_back x h =
        let u = unless_back (is_background S c || is_background S d) (flat_map (superpositions_from cs ds (places S 0 d)) (equation_sides 0 c)) x h in
        let neither = or-false (is_background S c) (is_background S d) u.0 in
        let f = flat_in (superpositions_from cs ds (places S 0 d)) (equation_sides 0 c) x u.1 in
        let m = map_in (λ q. Superpose cs f.0.0 f.0.1 ds q) (places S 0 d) x f.1.1 in
        let e = sides_back c 0 f.0 f.1.0 in
        let p = places_back S d 0 m.0 m.1.0 in
        let from_is : IsEquation c f.0.0 e.l = subst (λ k. IsEquation c k e.l) (sym (from_zero e.j f.0.0 e.same)) e.is in
        let into_is : item m.0.literal d ≡ Some p.m = ap (λ k. item k d) (from_zero p.j m.0.literal p.number) ∙ p.literal in
        subst (IsSuperposition S c cs d ds) m.1.1 (
          refl,
          refl,
          record {
            l = e.l;
            m = p.m;
            u = p.u;
            premises = record { first = neither.0; second = neither.1; from = from_is; into = into_is; there = p.there; no_variable = no_variable p.u p.counted };
            counted = p.counted;
          },
        )

    pub superpositions_listed : (x : Candidate) → Contains (superpositions S c cs d ds) x ↔ IsSuperposition S c cs d ds x
    superpositions_listed x = (λ h. superposition_back x (contains_in (superpositions S c cs d ds) x h), λ h. in_contains (superpositions S c cs d ds) x (superposition_in x h))

    -- what fires is listed
    pub fired_superposition : (pure_stays : (s : Variable → Tree) → Simple S s → (t : Tree) → IsPure S t → IsPure S (put_in s t))
        → (n : ℕ) (side : Side) (place : Place) (s1 s2 : Variable → Tree) (k : List Lit)
        → Fires S c d (Superpose cs n side ds place) s1 s2 k → Contains (superpositions S c cs d ds) (Superpose cs n side ds place)
    fired_superposition pure_stays n side place s1 s2 k f =
        let by = f.by_rule in
        let impure : IsPure S by.u → ⊥ = λ p. by.from.not_pure (subst (IsPure S) (sym (named-put s1 side by.l ∙ by.common)) (pure_stays s2 f.simple2 by.u p)) in
        in_contains (superpositions S c cs d ds) (Superpose cs n side ds place)
        (listed_superposition n side place (record { l = by.l; m = by.m; u = by.u; premises = by.premises; counted = counted_tree by.u by.premises.no_variable impure }))

  -- ---- resolutions and factorings

  module _ (c : List Lit) (cs : Stamp) where
    listed_resolution : (n : ℕ) → HasDisequation S c n → In (Resolve cs n) (own_candidates S c cs)
    listed_resolution n h =
        let same : 0 + n ≡ n = omega arith in
        unless (is_background S c) (resolutions 0 c cs ++ factorings c cs) (Resolve cs n) h.premise.foreground
        (in_left (resolutions 0 c cs) (factorings c cs) (Resolve cs n)
        (subst (λ k. In (Resolve cs k) (resolutions 0 c cs)) same (resolutions_in cs c 0 n h.l h.premise.from)))

    there : (n : ℕ) (side : Side) (l : Lit) → IsEquation c n l → In (n, side) (equation_sides 0 c)
    there n side l is = let same : 0 + n ≡ n = omega arith in subst (λ k. In (k, side) (equation_sides 0 c)) same (sides_in c 0 n side l is)

    listed_factoring : (first : ℕ) (first_side : Side) (second : ℕ) (second_side : Side) → HasEquations S c first second → In (Factor cs first first_side second second_side) (own_candidates S c cs)
    listed_factoring first first_side second second_side h =
        let sides = equation_sides 0 c in
        unless (is_background S c) (resolutions 0 c cs ++ factorings c cs) (Factor cs first first_side second second_side) h.premise.foreground
        (in_right (resolutions 0 c cs) (factorings c cs) (Factor cs first first_side second second_side)
        (in_flat (factorings_from cs sides) sides (first, first_side) (Factor cs first first_side second second_side) (there first first_side h.l h.premise.from)
        (in_map (λ (q : ℕ × Side). Factor cs first first_side q.0 q.1) (filter (λ (q : ℕ × Side). not (q.0 == first)) sides) (second, second_side)
        (in_filter (λ (q : ℕ × Side). not (q.0 == first)) sides (second, second_side) (there second second_side h.m h.premise.into) (differ_as_test first second h.premise.two)))))

    own_in : (x : Candidate) → IsOwn S c cs x → In x (own_candidates S c cs)
    own_in (Superpose from n side into place) h = absurd h
    own_in (Resolve of n) h = subst (λ z. In (Resolve z n) (own_candidates S c cs)) (sym h.0) (listed_resolution n h.1)
    own_in (Factor of m ms n ns) h = subst (λ z. In (Factor z m ms n ns) (own_candidates S c cs)) (sym h.0) (listed_factoring m ms n ns h.1)
    own_in (Define of t) h = absurd h

    resolution_back : is_background S c ≡ false → (x : Candidate) → In x (resolutions 0 c cs) → IsOwn S c cs x
    resolution_back foreground x h =
        let r = resolutions_back cs c 0 x h in
        let same : r.j ≡ 0 + r.j = omega arith in
        subst (IsOwn S c cs) (ap (Resolve cs) same ∙ r.same) (refl, record { l = r.l; premise = record { foreground = foreground; from = r.is } })

    factoring_back : is_background S c ≡ false → (x : Candidate) → In x (factorings c cs) → IsOwn S c cs x
    factoring_back foreground x h =
        let sides = equation_sides 0 c in
        let f = flat_in (factorings_from cs sides) sides x h in
        let m = map_in (λ (q : ℕ × Side). Factor cs f.0.0 f.0.1 q.0 q.1) (filter (λ (q : ℕ × Side). not (q.0 == f.0.0)) sides) x f.1.1 in
        let k = filter_in (λ (q : ℕ × Side). not (q.0 == f.0.0)) sides m.0 m.1.0 in
        let one = sides_back c 0 f.0 f.1.0 in
        let two = sides_back c 0 m.0 k.0 in
        subst (IsOwn S c cs) m.1.1 (
          refl,
          record {
            l = one.l;
            m = two.l;
            premise = record {
              foreground = foreground;
              from = subst (λ n. IsEquation c n one.l) (sym (from_zero one.j f.0.0 one.same)) one.is;
              into = subst (λ n. IsEquation c n two.l) (sym (from_zero two.j m.0.0 two.same)) two.is;
              two = test_as_differ f.0.0 m.0.0 k.1;
            };
          },
        )

    own_back : (x : Candidate) → In x (own_candidates S c cs) → IsOwn S c cs x
    own_back x h =
        let u = unless_back (is_background S c) (resolutions 0 c cs ++ factorings c cs) x h in
        elim (in_cases (resolutions 0 c cs) (factorings c cs) x u.1) [
          | inl a ↦ resolution_back u.0 x a
          | inr b ↦ factoring_back u.0 x b
        ]

    pub own_listed : (x : Candidate) → Contains (own_candidates S c cs) x ↔ IsOwn S c cs x
    own_listed x = (λ h. own_back x (contains_in (own_candidates S c cs) x h), λ h. in_contains (own_candidates S c cs) x (own_in x h))

    pub fired_resolution : (d : List Lit) (n : ℕ) (s1 s2 : Variable → Tree) (k : List Lit) → Fires S c d (Resolve cs n) s1 s2 k → Contains (own_candidates S c cs) (Resolve cs n)
    fired_resolution d n s1 s2 k f = in_contains (own_candidates S c cs) (Resolve cs n) (listed_resolution n (record { l = f.by_rule.l; premise = f.by_rule.premise }))

    pub fired_factoring : (d : List Lit) (m : ℕ) (ms : Side) (n : ℕ) (ns : Side) (s1 s2 : Variable → Tree) (k : List Lit)
        → Fires S c d (Factor cs m ms n ns) s1 s2 k → Contains (own_candidates S c cs) (Factor cs m ms n ns)
    fired_factoring d m ms n ns s1 s2 k f =
        in_contains (own_candidates S c cs) (Factor cs m ms n ns) (listed_factoring m ms n ns (record { l = f.by_rule.l; m = f.by_rule.m; premise = f.by_rule.premise }))
