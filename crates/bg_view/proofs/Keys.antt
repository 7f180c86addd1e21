-- The words of a set of variables in order are those of the definitions.
use Rattle.std.specs.Prelude.{◌≡◌, ℕ, suc, ◌+◌, ◌≤◌, Bool, true, false, cond, ◌&&◌, ◌||◌, ◌==◌, nat_eq, nat_lt, List, [], ◌∷◌, ◌++◌, length, Some, None, position, if◌then◌else◌}
use Rattle.std.specs.List.{list_any, position_or_len}
use Rattle.std.proofs.Common.{refl, sym, ◌∙◌, ap, arith}
use Rattle.std.proofs.lemmas.Bool.Decides.{nat_tests}
use Rattle.std.proofs.lemmas.List.Recursion.{is_position_or_len}
use Rattle.indexmap.specs.IndexSet.{insert_key}
use Rattle.term_base.specs.declared.variables.Variable.{Variable}
use Rattle.term_base.specs.declared.variables.Kind.{Kind}
use Rattle.term_base.specs.declared.variables.Kind.TheVariants.{Abstraction, Ordinary}
use Rattle.term_base.specs.declared.symbols.Sort.{Sort}
use Rattle.term_base.specs.declared.symbols.Sort.TheVariants.{Individual, Int, Declared, Truth}
use Rattle.term_base.specs.contracts.variables.VariablePartialEq.TheImpl.{ghosts}
use Rattle.term_base.specs.contracts.variables.KindPartialEq.TheImpl.{ghosts as kinds}
use Rattle.term_base.specs.contracts.symbols.SortPartialEq.TheImpl.{ghosts as sorts}
use Rattle.term_base.specs.Same.{same_kind, same_sort, same_variable}
use Rattle.bg_view.specs.Unknowns.{place, noted}

-- the derived equality of variables
abbrev pub derived_eq : Variable → Variable → Bool
derived_eq v u = ghosts.eq v u

same_kinds : (k l : Kind) → kinds.eq k l ≡ same_kind l k
same_kinds Abstraction Abstraction = refl
same_kinds Abstraction Ordinary = refl
same_kinds Ordinary Abstraction = refl
same_kinds Ordinary Ordinary = refl

same_numbers : (m n : ℕ) → nat_eq m n ≡ (n == m)
same_numbers m n = grind (arith, nat_tests)

same_sorts : (r s : Sort) → sorts.eq r s ≡ same_sort s r
same_sorts Individual Individual = refl
same_sorts Individual Int = refl
same_sorts Individual (Declared n) = refl
same_sorts Individual Truth = refl
same_sorts Int Individual = refl
same_sorts Int Int = refl
same_sorts Int (Declared n) = refl
same_sorts Int Truth = refl
same_sorts (Declared m) Individual = refl
same_sorts (Declared m) Int = refl
same_sorts (Declared m) (Declared n) = same_numbers m n
same_sorts (Declared m) Truth = refl
same_sorts Truth Individual = refl
same_sorts Truth Int = refl
same_sorts Truth (Declared n) = refl
same_sorts Truth Truth = refl

by_parts : (v u : Variable) → derived_eq v u ≡ kinds.eq v.kind u.kind && (sorts.eq v.sort u.sort && nat_eq v.id u.id)
by_parts v u = refl

pub derived_eq-is : (v u : Variable) → derived_eq v u ≡ same_variable u v
derived_eq-is v u =
    by_parts v u
    ∙ ap (λ b. b && (sorts.eq v.sort u.sort && nat_eq v.id u.id)) (same_kinds v.kind u.kind)
    ∙ ap (λ b. same_kind u.kind v.kind && (b && nat_eq v.id u.id)) (same_sorts v.sort u.sort)
    ∙ ap (λ b. same_kind u.kind v.kind && (same_sort u.sort v.sort && b)) (same_numbers v.id u.id)

any_same : (v : Variable) (us : List Variable) → list_any (derived_eq v) us ≡ list_any (λ u. same_variable u v) us
any_same v [] = refl
any_same v (u ∷ us) = ap (λ b. b || list_any (derived_eq v) us) (derived_eq-is v u) ∙ ap (λ b. same_variable u v || b) (any_same v us)

pub insert_key-is : (us : List Variable) (v : Variable) → insert_key derived_eq us v ≡ noted us v
insert_key-is us v = ap (λ b. if b then us else us ++ v ∷ []) (any_same v us)

one_more : (n : ℕ) → suc n ≡ 1 + n
one_more n = omega arith

place-next : (v u : Variable) (us : List Variable) → place v (u ∷ us) ≡ cond (derived_eq v u) 0 (1 + place v us)
place-next v u us = ap (λ b. cond b 0 (suc (place v us))) (sym (derived_eq-is v u)) ∙ ap (cond (derived_eq v u) 0) (one_more (place v us))

place-is : (v : Variable) (us : List Variable) → place v us ≡ position_or_len (derived_eq v) us
place-is v us = is_position_or_len (place v) (derived_eq v) refl (place-next v) us

place_next : (b : Bool) (m n : ℕ) → m ≤ n → cond b 0 (suc m) ≤ suc n
place_next true m n h = omega arith
place_next false m n h = omega (arith, h)

pub place-within : (v : Variable) (us : List Variable) → place v us ≤ length us
place-within v [] = omega arith
place-within v (u ∷ us) = place_next (same_variable u v) (place v us) (length us) (place-within v us)

some_is : (b : Bool) (m i : ℕ) → cond b (Some m) None ≡ Some i → m ≡ i
some_is true m i h = cc
some_is false m i h = absurd (cc)

none_is : (b : Bool) (m : ℕ) → cond b (Some m) None ≡ None → b ≡ false
none_is true m h = absurd (cc)
none_is false m h = refl

-- what `get_index_of` tells
pub place-found : (v : Variable) (us : List Variable) (i : ℕ) → position (derived_eq v) us ≡ Some i → place v us ≡ i
place-found v us i h = place-is v us ∙ some_is (nat_lt (position_or_len (derived_eq v) us) (length us)) _ i h

pub place-none : (v : Variable) (us : List Variable) → position (derived_eq v) us ≡ None → place v us ≡ length us
place-none v us h =
    let out : nat_lt (position_or_len (derived_eq v) us) (length us) ≡ false = none_is _ (position_or_len (derived_eq v) us) h in
    let is = place-is v us in
    let bound = place-within v us in
    grind (arith, nat_tests)
