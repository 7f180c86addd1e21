-- The new names of an answer's variables: which have to become abstraction variables, and the way back.
use Rattle.std.proofs.Common.{◌≡◌, ◌⊎◌, inl, inr, ℕ, zero, suc, Bool, true, false, ◌||◌, ◌&&◌, not, List, [], ◌∷◌, map, refl, ap, sym, ◌∙◌, subst}
use Rattle.std.specs.Prelude.{Some, None, Option, if◌then◌else◌}
use Rattle.std.proofs.lemmas.Bool.{not-true, not-false}
use Rattle.term_base.specs.declared.symbols.Sort.{Sort}
use Rattle.term_base.specs.declared.symbols.Sort.TheVariants.{Individual, Int, Declared, Truth}
use Rattle.term_base.specs.declared.symbols.Symbol.{Symbol}
use Rattle.term_base.specs.declared.variables.Kind.{Kind}
use Rattle.term_base.specs.declared.variables.Kind.TheVariants.{Abstraction, Ordinary}
use Rattle.term_base.specs.declared.variables.Variable.{Variable}
use Rattle.term_base.specs.Proper.{IsProper}
use Rattle.term_base.specs.Same.{same_variable, same_kind, same_sort}
use Rattle.term_base.specs.SameLemmas.{same_variable-true, same_variable-refl, same_sort-true}
use Rattle.term_base.specs.Clauses.{is_background_tree}
use Rattle.term_base.specs.Purity.{foreground, foreign, any_foreign, is_abstraction}
use Rattle.term_base.specs.Sorting.{sort}
use Rattle.term_base.specs.Trees.{Tree, Trees, var, node, none, more, occurs, any_occurs}
use Rattle.term_base.specs.TreeLemmas.{true_or_false, both_ways, or-true, or-false, or-left, or-right, and-true}
use Rattle.unifier.specs.Variables.{has, gathered}
use Rattle.unifier.specs.Naming.{with_id, abstraction, place_in, new_name, is_plain, forced_with, forced_in, known_in}
use Rattle.unifier.specs.Sorted.{KeepsSorts}
use Rattle.unifier.proofs.VariableLemmas.{has_gathered, has_gathered_own, has_gathered_before}
use Rattle.unifier.proofs.KindLemmas.{IsForced, IsRenaming}

-- the variable at a place
abbrev pub at_place : List Variable → ℕ → Option Variable
at_place [] n = None
at_place (w ∷ ws) zero = Some w
at_place (w ∷ ws) (suc n) = at_place ws n

abbrev old_or : List Variable → List Variable → Variable → Option Variable → Variable
old_or forced known x None = x
old_or forced known x (Some z) = if same_variable (new_name forced known z) x then z else x

-- the variable with this new name, or the variable itself
abbrev pub old_name : List Variable → List Variable → Variable → Variable
old_name forced known x = old_or forced known x (at_place known x.id)

pub found_there : (ws : List Variable) (z : Variable) → has ws z ≡ true → at_place ws (place_in ws z) ≡ Some z
found_there [] z h = absurd (both_ways false h refl)
found_there (w ∷ ws) z h = elim (true_or_false (same_variable w z)) [
  | inl p ↦ rw p (ap Some (same_variable-true w z p))
  | inr q ↦ elim (or-true (same_variable w z) (has ws z) h) [
    | inl p ↦ absurd (both_ways (same_variable w z) p q)
    | inr m ↦ rw q (found_there ws z m)
  ]
]

named_forced : (forced known : List Variable) (z : Variable) → has forced z ≡ true → new_name forced known z ≡ abstraction (place_in known z)
named_forced forced known z h = rw h refl

named_free : (forced known : List Variable) (z : Variable) → has forced z ≡ false → new_name forced known z ≡ with_id (place_in known z) z
named_free forced known z h = rw h refl

pub name_number : (forced known : List Variable) (z : Variable) → (new_name forced known z).id ≡ place_in known z
name_number forced known z = elim (true_or_false (has forced z)) [
  | inl h ↦ ap (λ (v : Variable). v.id) (named_forced forced known z h)
  | inr h ↦ ap (λ (v : Variable). v.id) (named_free forced known z h)
]

-- the old name is the variable itself, or one whose new name it is
old_cases : (forced known : List Variable) (x : Variable) (o : Option Variable)
    → (old_or forced known x o ≡ x) ⊎ (new_name forced known (old_or forced known x o) ≡ x)
old_cases forced known x None = inl refl
old_cases forced known x (Some z) = elim (true_or_false (same_variable (new_name forced known z) x)) [
  | inl p ↦ (let e : old_or forced known x (Some z) ≡ z = rw p refl in inr (ap (new_name forced known) e ∙ same_variable-true (new_name forced known z) x p))
  | inr q ↦ (let e : old_or forced known x (Some z) ≡ x = rw q refl in inl e)
]

old_found : (forced known : List Variable) (z : Variable) → has known z ≡ true → old_name forced known (new_name forced known z) ≡ z
old_found forced known z h =
    let x = new_name forced known z in
    let place : at_place known x.id ≡ Some z = ap (at_place known) (name_number forced known z) ∙ found_there known z h in
    let same : same_variable x x ≡ true = same_variable-refl x in
    let chosen : old_or forced known x (Some z) ≡ z = rw same refl in
    ap (old_or forced known x) place ∙ chosen

module _ (V : Variable → Bool) (s : Variable → Tree) (forced known : List Variable)
    (complete : (z : Variable) → IsForced V s z → has forced z ≡ true)
    (sound : (z : Variable) → has forced z ≡ true → IsForced V s z)
    (integers : (z : Variable) → has forced z ≡ true → z.sort ≡ Int)
    (all : (v z : Variable) → V v ≡ true → occurs z (s v) ≡ true → has known z ≡ true) where
  sort_kept : (z : Variable) → (new_name forced known z).sort ≡ z.sort
  sort_kept z = elim (true_or_false (has forced z)) [
    | inl h ↦ (ap (λ (v : Variable). v.sort) (named_forced forced known z h) ∙ sym (integers z h))
    | inr h ↦ ap (λ (v : Variable). v.sort) (named_free forced known z h)
  ]

  kept_kind : (z : Variable) → is_abstraction (new_name forced known z) ≡ true → (is_abstraction z ≡ true) ⊎ IsForced V s z
  kept_kind z a = elim (true_or_false (has forced z)) [
    | inl h ↦ inr (sound z h)
    | inr h ↦ inl (sym (ap is_abstraction (named_free forced known z h)) ∙ a)
  ]

  pub is_renaming : IsRenaming V s (new_name forced known) (old_name forced known)
  is_renaming = record {
    returns = λ v z i o. old_found forced known z (all v z i o);
    sort_there = sort_kept;
    sort_back = λ x. elim (old_cases forced known x (at_place known x.id)) [
      | inl e ↦ ap (λ (w : Variable). w.sort) e
      | inr e ↦ (sym (sort_kept (old_name forced known x)) ∙ ap (λ (w : Variable). w.sort) e)
    ];
    forced_there = λ z f. ap is_abstraction (named_forced forced known z (complete z f));
    abstraction_back = λ x a. elim (old_cases forced known x (at_place known x.id)) [
      | inl e ↦ inl (ap is_abstraction e ∙ a)
      | inr e ↦ kept_kind (old_name forced known x) (ap is_abstraction e ∙ a)
    ];
  }

-- variables beside trees, and what is gathered from them
module _ (f : Variable → Tree) where
  forced_with_before : (v : Variable) (vs : List Variable) (z : Variable) → has vs z ≡ true → has (forced_with (v, f v) vs) z ≡ true
  forced_with_before v vs z h = elim (true_or_false (is_abstraction v)) [
    | inl a ↦ (let e : forced_with (v, f v) vs ≡ gathered (f v) vs = rw a refl in ap (λ l. has l z) e ∙ has_gathered_before (f v) vs z h)
    | inr a ↦ (let e : forced_with (v, f v) vs ≡ vs = rw a refl in ap (λ l. has l z) e ∙ h)
  ]

  forced_with_own : (v : Variable) (vs : List Variable) (z : Variable) → is_abstraction v ≡ true → occurs z (f v) ≡ true → has (forced_with (v, f v) vs) z ≡ true
  forced_with_own v vs z a o = let e : forced_with (v, f v) vs ≡ gathered (f v) vs = rw a refl in ap (λ l. has l z) e ∙ has_gathered_own (f v) vs z o

  forced_with_only : (v : Variable) (vs : List Variable) (z : Variable) → has (forced_with (v, f v) vs) z ≡ true → (has vs z ≡ true) ⊎ ((is_abstraction v ≡ true) × (occurs z (f v) ≡ true))
  forced_with_only v vs z h = elim (true_or_false (is_abstraction v)) [
    | inl a ↦ (
        let e : forced_with (v, f v) vs ≡ gathered (f v) vs = rw a refl in
        let g : (has vs z || occurs z (f v)) ≡ true = sym (has_gathered (f v) vs z) ∙ sym (ap (λ l. has l z) e) ∙ h in
        elim (or-true (has vs z) (occurs z (f v)) g) [ inl b ↦ inl b | inr o ↦ inr (a, o) ])
    | inr a ↦ (let e : forced_with (v, f v) vs ≡ vs = rw a refl in inl (sym (ap (λ l. has l z) e) ∙ h))
  ]

  abbrev pub With : List Variable → List (Variable × Tree)
  With list = map (λ v. (v, f v)) list

  pub forced_before : (list vs : List Variable) (z : Variable) → has vs z ≡ true → has (forced_in (With list) vs) z ≡ true
  forced_before [] vs z h = h
  forced_before (v ∷ list) vs z h = forced_before list (forced_with (v, f v) vs) z (forced_with_before v vs z h)

  pub forced_own : (list vs : List Variable) (v z : Variable) → has list v ≡ true → is_abstraction v ≡ true → occurs z (f v) ≡ true → has (forced_in (With list) vs) z ≡ true
  forced_own [] vs v z i a o = absurd (both_ways false i refl)
  forced_own (w ∷ list) vs v z i a o = elim (or-true (same_variable w v) (has list v) i) [
    | inl e ↦ (
        let same : w ≡ v = same_variable-true w v e in
        forced_before list (forced_with (w, f w) vs) z (forced_with_own w vs z (ap is_abstraction same ∙ a) (ap (λ x. occurs z (f x)) same ∙ o)))
    | inr m ↦ forced_own list (forced_with (w, f w) vs) v z m a o
  ]

  -- the variable is in a tree beside an abstraction variable of the list
  pub record StandsBeside (list : List Variable) (z : Variable) : Type 0 where
    pub of : Variable
    pub listed : has list of ≡ true
    pub abstraction : is_abstraction of ≡ true
    pub below : occurs z (f of) ≡ true

  pub forced_only : (list vs : List Variable) (z : Variable) → has (forced_in (With list) vs) z ≡ true → (has vs z ≡ true) ⊎ StandsBeside list z
  forced_only [] vs z h = inl h
  forced_only (v ∷ list) vs z h = elim (forced_only list (forced_with (v, f v) vs) z h) [
    | inl b ↦ elim (forced_with_only v vs z b) [
      | inl before ↦ inl before
      | inr own ↦ inr (record { of = v; listed = or-left (same_variable v v) (has list v) (same_variable-refl v); abstraction = own.0; below = own.1 })
    ]
    | inr b ↦ inr (record { of = b.of; listed = or-right (same_variable v b.of) (has list b.of) b.listed; abstraction = b.abstraction; below = b.below })
  ]

  pub known_before : (list vs : List Variable) (z : Variable) → has vs z ≡ true → has (known_in (With list) vs) z ≡ true
  known_before [] vs z h = h
  known_before (v ∷ list) vs z h = known_before list (gathered (f v) vs) z (has_gathered_before (f v) vs z h)

  pub known_own : (list vs : List Variable) (v z : Variable) → has list v ≡ true → occurs z (f v) ≡ true → has (known_in (With list) vs) z ≡ true
  known_own [] vs v z i o = absurd (both_ways false i refl)
  known_own (w ∷ list) vs v z i o = elim (or-true (same_variable w v) (has list v) i) [
    | inl e ↦ known_before list (gathered (f w) vs) z (has_gathered_own (f w) vs z (ap (λ x. occurs z (f x)) (same_variable-true w v e) ∙ o))
    | inr m ↦ known_own list (gathered (f w) vs) v z m o
  ]

  module _ (S : List Symbol) where
    pub plain_own : (list : List Variable) → is_plain S (With list) ≡ true → (v : Variable) → has list v ≡ true → is_abstraction v ≡ true → foreground S (f v) ≡ false
    plain_own [] h v i a = absurd (both_ways false i refl)
    plain_own (w ∷ list) h v i a =
        let two = and-true (not (is_abstraction w && foreground S (f w))) (is_plain S (With list)) h in
        elim (or-true (same_variable w v) (has list v) i) [
          | inl e ↦ (
              let same : w ≡ v = same_variable-true w v e in
              let is : is_abstraction w ≡ true = ap is_abstraction same ∙ a in
              let free : foreground S (f w) ≡ false = subst (λ b. (b && foreground S (f w)) ≡ false) is (not-true (is_abstraction w && foreground S (f w)) two.0) in
              ap (λ x. foreground S (f x)) (sym same) ∙ free)
          | inr m ↦ plain_own list two.1 v m a
        ]

    -- an abstraction variable of the list has a foreground symbol beside it
    pub record HasForeground (list : List Variable) : Type 0 where
      pub of : Variable
      pub listed : has list of ≡ true
      pub abstraction : is_abstraction of ≡ true
      pub foreground_beside : foreground S (f of) ≡ true

    pub not_plain : (list : List Variable) → is_plain S (With list) ≡ false → HasForeground list
    not_plain [] h = absurd (both_ways true refl h)
    not_plain (w ∷ list) h = elim (true_or_false (is_abstraction w && foreground S (f w))) [
      | inl b ↦ (
          let two = and-true (is_abstraction w) (foreground S (f w)) b in
          record { of = w; listed = or-left (same_variable w w) (has list w) (same_variable-refl w); abstraction = two.0; foreground_beside = two.1 })
      | inr b ↦ (
          let later : is_plain S (With list) ≡ false = subst (λ c. (not c && is_plain S (With list)) ≡ false) b h in
          let r = not_plain list later in
          record { of = r.of; listed = or-right (same_variable w r.of) (has list r.of) r.listed; abstraction = r.abstraction; foreground_beside = r.foreground_beside })
    ]

-- an abstraction variable has sort Int
sort_of_abstraction : (k : Kind) (s : Sort) → IsProper k s → same_kind k Abstraction ≡ true → s ≡ Int
sort_of_abstraction Abstraction Int p a = refl
sort_of_abstraction Abstraction Individual p a = absurd (both_ways false p refl)
sort_of_abstraction Abstraction (Declared n) p a = absurd (both_ways false p refl)
sort_of_abstraction Abstraction Truth p a = absurd (both_ways false p refl)
sort_of_abstraction Ordinary s p a = absurd (both_ways false a refl)

pub abstraction_sort : (v : Variable) → is_abstraction v ≡ true → v.sort ≡ Int
abstraction_sort v a = sort_of_abstraction v.kind v.sort v.proper a

mutual
  -- a variable of a tree without variables of other sorts has sort Int
  integer_in : (z : Variable) (t : Tree) → foreign t ≡ false → occurs z t ≡ true → z.sort ≡ Int
  integer_in z (var v) h o =
      let own : same_sort v.sort Int ≡ true = not-false (same_sort v.sort Int) h in
      ap (λ (w : Variable). w.sort) (sym (same_variable-true v z o)) ∙ same_sort-true v.sort Int own
  integer_in z (node f xs) h o = integer_among z xs h o

  integer_among : (z : Variable) (xs : Trees) → any_foreign xs ≡ false → any_occurs z xs ≡ true → z.sort ≡ Int
  integer_among z none h o = absurd (both_ways false o refl)
  integer_among z (more x xs) h o =
      let two = or-false (foreign x) (any_foreign xs) h in
      elim (or-true (occurs z x) (any_occurs z xs) o) [ inl p ↦ integer_in z x two.0 p | inr q ↦ integer_among z xs two.1 q ]

-- integers without foreground symbols have variables of sort Int alone
abbrev pub BackgroundLaw : Type 0
BackgroundLaw = (S : List Symbol) (t : Tree) → sort S t ≡ Some Int → foreground S t ≡ false → is_background_tree S t ≡ true

pub forced_integers : BackgroundLaw → (S : List Symbol) (s : Variable → Tree) → KeepsSorts S s → (v z : Variable) → is_abstraction v ≡ true → foreground S (s v) ≡ false → occurs z (s v) ≡ true → z.sort ≡ Int
forced_integers law S s sorted v z a plain o =
    let is_int : sort S (s v) ≡ Some Int = sorted v ∙ ap Some (abstraction_sort v a) in
    let two = and-true (not (foreground S (s v))) (not (foreign (s v))) (law S (s v) is_int plain) in
    integer_in z (s v) (not-true (foreign (s v)) two.1) o
