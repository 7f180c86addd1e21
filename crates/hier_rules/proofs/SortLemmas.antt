-- What fires is well sorted.
use Rattle.std.proofs.Common.{◌≡◌, ℕ, zero, suc, Bool, true, false, ◌&&◌, List, [], ◌∷◌, ◌++◌, refl, ap, sym, ◌∙◌, subst}
use Rattle.std.specs.Prelude.{Option, Some, None}
use Rattle.term_base.specs.declared.places.Place.{Place}
use Rattle.term_base.specs.declared.places.Side.{Side}
use Rattle.term_base.specs.declared.places.Side.TheVariants.{Left, Right}
use Rattle.term_base.specs.declared.symbols.Sort.{Sort}
use Rattle.term_base.specs.declared.symbols.Sort.TheVariants.{Int}
use Rattle.term_base.specs.declared.symbols.Symbol.{Symbol}
use Rattle.term_base.specs.declared.variables.Variable.{Variable}
use Rattle.term_base.specs.Clauses.{are_alike, are_sides, is_lit_sorted, is_well_sorted}
use Rattle.term_base.specs.LitLemmas.{item-put, named-put}
use Rattle.term_base.specs.Lits.{Relation, equal, differ, at_most, Lit, put_lit, put_clause, disequation}
use Rattle.term_base.specs.Places.{named, other, left_out, changed, item, tree_at, replaced}
use Rattle.term_base.specs.SameLemmas.{same_sort-true, same_sort-refl}
use Rattle.term_base.specs.Sorting.{has_sort, sort}
use Rattle.term_base.specs.Substitution.{put_in, Simple}
use Rattle.term_base.specs.TreeLemmas.{and-true, both_ways}
use Rattle.term_base.specs.Trees.{Tree}
use Rattle.hier_rules.specs.declared.inferences.Candidate.{Candidate}
use Rattle.hier_rules.specs.declared.inferences.Candidate.TheVariants.{Superpose, Resolve, Factor, Define}
use Rattle.hier_rules.specs.Fires.{Superposes, Resolves, Factors, Fires}
use Rattle.hier_rules.proofs.SuperposeLemmas.{place_there}

-- the laws of sorts
pub record SortLaws : Type 0 where
  pub clauses_stay : (S : List Symbol) (s : Variable → Tree) → ((v : Variable) → sort S (s v) ≡ Some v.sort) → (c : List Lit) → is_well_sorted S (put_clause s c) ≡ is_well_sorted S c
  pub places_stay : (c : List Lit) (p : Place) (u : Tree) → tree_at c p ≡ Some u → (s : Variable → Tree) → tree_at (put_clause s c) p ≡ Some (put_in s u)
  pub replacing_keeps : (S : List Symbol) (c : List Lit) (p : Place) (u new : Tree) → tree_at c p ≡ Some u → sort S new ≡ sort S u → is_well_sorted S (replaced c p new) ≡ is_well_sorted S c

both : (a b : Bool) → a ≡ true → b ≡ true → (a && b) ≡ true
both true b p q = q
both false b p q = cc

has_sort-true : (o : Option Sort) (s : Sort) → has_sort o s ≡ true → o ≡ Some s
has_sort-true None s h = cc
has_sort-true (Some r) s h = ap Some (same_sort-true r s h)

-- both sides of an equation have one sort
one_sort : (r : Relation) (a b : Option Sort) → r ≡ equal → are_sides r a b ≡ true → a ≡ b
one_sort differ a b e h = cc
one_sort at_most a b e h = cc
one_sort equal None b e h = cc
one_sort equal (Some s) b e h = sym (has_sort-true b s h)

module _ (S : List Symbol) where
  appended : (c d : List Lit) → is_well_sorted S c ≡ true → is_well_sorted S d ≡ true → is_well_sorted S (c ++ d) ≡ true
  appended [] d p q = q
  appended (l ∷ ls) d p q =
      let two = and-true (is_lit_sorted S l) (is_well_sorted S ls) p in
      both (is_lit_sorted S l) (is_well_sorted S (ls ++ d)) two.0 (appended ls d two.1 q)

  without_one : (n : ℕ) (c : List Lit) → is_well_sorted S c ≡ true → is_well_sorted S (left_out n c) ≡ true
  without_one n [] p = refl
  without_one zero (l ∷ ls) p = (and-true (is_lit_sorted S l) (is_well_sorted S ls) p).1
  without_one (suc n) (l ∷ ls) p =
      let two = and-true (is_lit_sorted S l) (is_well_sorted S ls) p in
      both (is_lit_sorted S l) (is_well_sorted S (left_out n ls)) two.0 (without_one n ls two.1)

  with_another : (n : ℕ) (new : Lit) (c : List Lit) → is_lit_sorted S new ≡ true → is_well_sorted S c ≡ true → is_well_sorted S (changed n new c) ≡ true
  with_another n new [] i p = refl
  with_another zero new (l ∷ ls) i p = both (is_lit_sorted S new) (is_well_sorted S ls) i (and-true (is_lit_sorted S l) (is_well_sorted S ls) p).1
  with_another (suc n) new (l ∷ ls) i p =
      let two = and-true (is_lit_sorted S l) (is_well_sorted S ls) p in
      both (is_lit_sorted S l) (is_well_sorted S (changed n new ls)) two.0 (with_another n new ls i two.1)

  of_item : (n : ℕ) (c : List Lit) (l : Lit) → item n c ≡ Some l → is_well_sorted S c ≡ true → is_lit_sorted S l ≡ true
  of_item n [] l e p = cc
  of_item zero (m ∷ ls) l e p = let i : m ≡ l = cc in subst (λ z. is_lit_sorted S z ≡ true) i (and-true (is_lit_sorted S m) (is_well_sorted S ls) p).0
  of_item (suc n) (m ∷ ls) l e p = of_item n ls l e (and-true (is_lit_sorted S m) (is_well_sorted S ls) p).1

  -- the sort of a side of an equation is that of the other side
  sides_alike : (n : ℕ) (c : List Lit) (l : Lit) (side : Side) → item n c ≡ Some l → l.relation ≡ equal → is_well_sorted S c ≡ true → sort S (other side l) ≡ sort S (named side l)
  sides_alike n c l Left e r p = sym (one_sort l.relation (sort S l.left) (sort S l.right) r (of_item n c l e p))
  sides_alike n c l Right e r p = one_sort l.relation (sort S l.left) (sort S l.right) r (of_item n c l e p)

  -- a side of a literal of a well sorted clause has a sort
  some_sort : (r : Relation) (a b : Option Sort) → are_sides r a b ≡ true → (s : Sort) × (a ≡ Some s)
  some_sort equal None b h = absurd (both_ways false h refl)
  some_sort equal (Some s) b h = (s, refl)
  some_sort differ None b h = absurd (both_ways false h refl)
  some_sort differ (Some s) b h = (s, refl)
  some_sort at_most None b h = absurd (both_ways false h refl)
  some_sort at_most (Some s) b h = (s, refl)

  other_sort : (r : Relation) (a b : Option Sort) → are_sides r a b ≡ true → (s : Sort) × (b ≡ Some s)
  other_sort equal None b h = absurd (both_ways false h refl)
  other_sort equal (Some s) b h = (s, has_sort-true b s h)
  other_sort differ None b h = absurd (both_ways false h refl)
  other_sort differ (Some s) b h = (s, has_sort-true b s h)
  other_sort at_most a b h = (Int, has_sort-true b Int (and-true (has_sort a Int) (has_sort b Int) h).1)

  side_sort : (n : ℕ) (c : List Lit) (l : Lit) (side : Side) → item n c ≡ Some l → is_well_sorted S c ≡ true → (s : Sort) × (sort S (other side l) ≡ Some s)
  side_sort n c l Left e p = other_sort l.relation (sort S l.left) (sort S l.right) (of_item n c l e p)
  side_sort n c l Right e p = some_sort l.relation (sort S l.left) (sort S l.right) (of_item n c l e p)

  alike_sorted : (a b : Option Sort) (s : Sort) → a ≡ Some s → b ≡ Some s → are_alike a b ≡ true
  alike_sorted a b s p q = rw p (rw q (same_sort-refl s))

  module _ (laws : SortLaws) where
    superposes_sorted : (c d : List Lit) (n : ℕ) (side : Side) (place : Place) (s1 s2 : Variable → Tree) (k : List Lit) → Simple S s1 → Simple S s2
        → is_well_sorted S c ≡ true → is_well_sorted S d ≡ true → Superposes S c d n side place s1 s2 k → is_well_sorted S k ≡ true
    superposes_sorted c d n side place s1 s2 k simple1 simple2 p q f =
        let c1 = put_clause s1 c in
        let d1 = put_clause s2 d in
        let l1 = put_lit s1 f.l in
        let p1 : is_well_sorted S c1 ≡ true = laws.clauses_stay S s1 simple1.sorted c ∙ p in
        let q1 : is_well_sorted S d1 ≡ true = laws.clauses_stay S s2 simple2.sorted d ∙ q in
        let there : tree_at d1 place ≡ Some (put_in s2 f.u) = laws.places_stay d place f.u (place_there place f.premises) s2 in
        let alike : sort S (other side l1) ≡ sort S (put_in s2 f.u) =
        sides_alike n c1 l1 side (item-put s1 n c f.l f.premises.from.there) f.premises.from.equation p1
        ∙ ap (sort S) (named-put s1 side f.l ∙ f.common) in
        ap (is_well_sorted S) f.conclusion
        ∙ appended (left_out n c1) (replaced d1 place (other side l1)) (without_one n c1 p1)
        (laws.replacing_keeps S d1 place (put_in s2 f.u) (other side l1) there alike ∙ q1)

    resolves_sorted : (c : List Lit) (n : ℕ) (s1 : Variable → Tree) (k : List Lit) → Simple S s1 → is_well_sorted S c ≡ true → Resolves S c n s1 k → is_well_sorted S k ≡ true
    resolves_sorted c n s1 k simple1 p f =
        ap (is_well_sorted S) f.conclusion ∙ without_one n (put_clause s1 c) (laws.clauses_stay S s1 simple1.sorted c ∙ p)

    factors_sorted : (c : List Lit) (first : ℕ) (first_side : Side) (second : ℕ) (second_side : Side) (s1 : Variable → Tree) (k : List Lit) → Simple S s1
        → is_well_sorted S c ≡ true → Factors S c first first_side second second_side s1 k → is_well_sorted S k ≡ true
    factors_sorted c first first_side second second_side s1 k simple1 p f =
        let c1 = put_clause s1 c in
        let l1 = put_lit s1 f.l in
        let m1 = put_lit s1 f.m in
        let p1 : is_well_sorted S c1 ≡ true = laws.clauses_stay S s1 simple1.sorted c ∙ p in
        let first_there = item-put s1 first c f.l f.premise.from.there in
        let second_there = item-put s1 second c f.m f.premise.into.there in
        let named_alike : sort S (named first_side l1) ≡ sort S (named second_side m1) =
        ap (sort S) (named-put s1 first_side f.l ∙ f.common ∙ sym (named-put s1 second_side f.m)) in
        let first_alike = sides_alike first c1 l1 first_side first_there f.premise.from.equation p1 in
        let second_alike = sides_alike second c1 m1 second_side second_there f.premise.into.equation p1 in
        let some = side_sort first c1 l1 first_side first_there p1 in
        ap (is_well_sorted S) f.conclusion
        ∙ with_another second (disequation (other first_side l1) (other second_side m1)) c1
        (alike_sorted (sort S (other first_side l1)) (sort S (other second_side m1)) some.0 some.1
        (second_alike ∙ sym named_alike ∙ sym first_alike ∙ some.1)) p1

    pub fires_sorted : (c d : List Lit) (candidate : Candidate) (s1 s2 : Variable → Tree) (k : List Lit) → is_well_sorted S c ≡ true → is_well_sorted S d ≡ true
        → Fires S c d candidate s1 s2 k → is_well_sorted S k ≡ true
    fires_sorted c d (Superpose from n side into place) s1 s2 k p q f = superposes_sorted c d n side place s1 s2 k f.simple1 f.simple2 p q f.by_rule
    fires_sorted c d (Resolve of n) s1 s2 k p q f = resolves_sorted c n s1 k f.simple1 p f.by_rule
    fires_sorted c d (Factor of first first_side second second_side) s1 s2 k p q f = factors_sorted c first first_side second second_side s1 k f.simple1 p f.by_rule
    fires_sorted c d (Define of term) s1 s2 k p q f = absurd f.by_rule
