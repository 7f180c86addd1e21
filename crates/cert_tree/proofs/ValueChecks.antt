-- The check of values, clause by clause.
use Rattle.std.specs.Prelude.{◌≡◌, ℕ, suc, ◌+◌, ◌<◌, ℤ, pos, Bool, true, false, not, cond, ◌&&◌, ◌||◌, int_le, IsTrue, IfOk, length, get_or, drop, map, List, [], ◌∷◌, ◌++◌, Option, Some, None, Result, Ok, Err, if◌then◌else◌}
use Rattle.std.specs.List.{list_all, enumerate_from}
use Rattle.std.specs.declared.alloc.AllocError.{AllocError}
use Rattle.std.proofs.Common.{refl, sym, ◌∙◌, ap, arith, add-one}
use Rattle.std.proofs.lemmas.Int.{ints}
use Rattle.std.proofs.Math.IntN.{*ℤ-zero}
use Rattle.std.proofs.lemmas.List.{drop_more}
use Rattle.std.proofs.lemmas.List.Folds.{list_all-append}
use Rattle.lin_base.specs.declared.sums.Lin.{Lin}
use Rattle.lin_base.specs.declared.facts.Fact.{Fact}
use Rattle.lin_base.specs.declared.facts.Fact.TheVariants.{AtMostZero, Zero, Divides, NotDivides}
use Rattle.lin_base.specs.Whole.{is_zero, divides}
use Rattle.lin_base.specs.Sum.{Terms, value, value_of_terms, occurs}
use Rattle.lin_base.specs.Fact.{holds, holds_at, sum_of, clause_holds}
use Rattle.lin_base.specs.Steps.{is_narrow}
use Rattle.cert_tree.specs.Counting.{occurs_in}
use Rattle.cert_tree.specs.Narrow.{if_narrow}
use Rattle.cert_tree.specs.Rows.{row_clause}
use Rattle.cert_tree.specs.Complete.{complete_rows, complete, complete_steps}
use Rattle.cert_tree.specs.Ground.{Numbered, Grounding, then_ground, ground_each, ground_by, variables}
use Rattle.cert_tree.specs.Holds.{at_value, at_steps, put_from, put_steps_from, clause_checks, ground_holds}
use Rattle.cert_tree.proofs.Narrow.{is_narrow-append}
use Rattle.cert_tree.proofs.Combinations.{if_narrow-append}
use Rattle.cert_tree.proofs.Truth.{if_narrow_out}
use Rattle.cert_tree.proofs.Completion.{complete_on}

-- ---- truth where each unknown is 0
zero_terms : (ts : Terms) → value_of_terms (λ x. pos 0) ts ≡ pos 0
zero_terms [] = refl
zero_terms ((x, k) ∷ ts) = omega (arith, ints, *ℤ-zero k, zero_terms ts)

zero_value : (t : Lin) → t.constant ≡ value (λ x. pos 0) t
zero_value t = omega (arith, ints, zero_terms t.coefs)

pub holds_zero : (f : Fact) → holds_at (sum_of f).constant f ≡ holds (λ x. pos 0) f
holds_zero (AtMostZero t) = ap (λ z. int_le z (pos 0)) (zero_value t)
holds_zero (Zero t) = ap is_zero (zero_value t)
holds_zero (Divides m t) = ap (divides m) (zero_value t)
holds_zero (NotDivides m t) = ap (λ z. not (divides m z)) (zero_value t)

pub true_at : (fs : List Fact) (i : ℕ) (f : Fact) → i < length fs → f ≡ get_or fs i f → holds (λ x. pos 0) f ≡ true → clause_holds (λ x. pos 0) (drop i fs) ≡ true
true_at fs i f h at_ is = ap (clause_holds (λ x. pos 0)) (drop_more fs i f h ∙ ap (λ g. g ∷ drop (i + 1) fs) (sym at_)) ∙ ap (λ b. b || clause_holds (λ x. pos 0) (drop (i + 1) fs)) is

pub false_at : (fs : List Fact) (i : ℕ) (f : Fact) → i < length fs → f ≡ get_or fs i f → holds (λ x. pos 0) f ≡ false → clause_holds (λ x. pos 0) (drop i fs) ≡ clause_holds (λ x. pos 0) (drop (i + 1) fs)
false_at fs i f h at_ is = ap (clause_holds (λ x. pos 0)) (drop_more fs i f h ∙ ap (λ g. g ∷ drop (i + 1) fs) (sym at_)) ∙ ap (λ b. b || clause_holds (λ x. pos 0) (drop (i + 1) fs)) is

-- ---- Complete of a clause, and what is left
pub ground_some : (x : ℕ) (xs : List ℕ) (clause : List Fact) (o : Option (List (List Fact))) (cs : List (List Fact)) → occurs_in x clause ≡ true → o ≡ if_narrow (complete_steps x clause) (complete x clause) → o ≡ Some cs
    → ground_holds (x ∷ xs) clause ≡ list_all (ground_holds xs) cs
ground_some x xs clause o cs occurs_ is some =
    let out = if_narrow_out (complete_steps x clause) (complete x clause) cs (sym is ∙ some) in
    ap (λ b. cond b (is_narrow (complete_steps x clause) && list_all (ground_holds xs) (complete x clause)) (ground_holds xs clause)) occurs_
    ∙ ap (λ b. b && list_all (ground_holds xs) (complete x clause)) out.0
    ∙ ap (list_all (ground_holds xs)) out.1

-- ---- Ground, whatever the numbers of its clauses
abbrev is_true : Numbered → Bool
is_true c = clause_holds (λ x. pos 0) c.1

abbrev passes : Grounding → Bool
passes g = is_narrow g.steps && list_all is_true g.clauses

swap_and : (a b c d : Bool) → ((a && b) && (c && d)) ≡ ((a && c) && (b && d))
swap_and true true c d = refl
swap_and true false true d = refl
swap_and true false false d = refl
swap_and false b c d = refl

and_true : (b : Bool) → (b && true) ≡ b
and_true true = refl
and_true false = refl

and_assoc : (a b c : Bool) → ((a && b) && c) ≡ (a && (b && c))
and_assoc true b c = refl
and_assoc false b c = refl

passes-then : (g h : Grounding) → passes (then_ground g h) ≡ (passes g && passes h)
passes-then g h =
    ap (λ b. b && list_all is_true (g.clauses ++ h.clauses)) (is_narrow-append g.steps h.steps)
    ∙ ap (λ b. (is_narrow g.steps && is_narrow h.steps) && b) (list_all-append is_true g.clauses h.clauses)
    ∙ swap_and (is_narrow g.steps) (is_narrow h.steps) (list_all is_true g.clauses) (list_all is_true h.clauses)

abbrev Passes : List ℕ → Type 0
Passes xs = (next : ℕ) (c : Numbered) → passes (ground_by xs next c) ≡ ground_holds xs c.1

each_passes : (xs : List ℕ) → Passes xs → (next start : ℕ) (cs : List (List Fact)) → passes (ground_each (ground_by xs) next (enumerate_from start cs)) ≡ list_all (ground_holds xs) cs
each_passes xs is next start [] = refl
each_passes xs is next start (c ∷ cs) =
    let e : Numbered = (start, c) in
    let g = ground_by xs next e in
    let rest = ground_each (ground_by xs) (next + length g.rows) (enumerate_from (start + 1) cs) in
    passes-then g rest
    ∙ ap (λ b. b && passes rest) (is next e)
    ∙ ap (λ b. ground_holds xs c && b) (each_passes xs is (next + length g.rows) (start + 1) cs)

pub ground_passes : (xs : List ℕ) → Passes xs
ground_passes [] next c = and_true (clause_holds (λ x. pos 0) c.1)
ground_passes (x ∷ xs) next c =
    let rows = complete_rows c.0 x c.1 in
    let first : Grounding = record { rows = rows; clauses = []; steps = complete_steps x c.1 } in
    let rest : Grounding = ground_each (ground_by xs) (next + length rows) (enumerate_from next (map (row_clause c.1) rows)) in
    let narrow = is_narrow (complete_steps x c.1) in
    (elim (occurs_in x c.1) as (λ b. passes (let g : Grounding = elim b [ true ↦ then_ground first rest | false ↦ ground_by xs next c ] in g) ≡ (if b then narrow && list_all (ground_holds xs) (complete x c.1) else ground_holds xs c.1)) [
      | true ↦
          passes-then first rest
          ∙ ap (λ b. b && passes rest) (and_true narrow)
          ∙ ap (λ b. narrow && b) (each_passes xs (ground_passes xs) (next + length rows) next (map (row_clause c.1) rows))
          ∙ ap (λ cs. narrow && list_all (ground_holds xs) cs) (complete_on x c.1 c.0)
      | false ↦ ground_passes xs next c
    ])

-- ---- the values put
module _ (params : ℕ) (values : List ℤ) (clause : List Fact) where
  checks_by : clause_checks params values clause ≡ (is_narrow (put_steps_from 0 values clause) && ground_holds (variables params (put_from 0 values clause)) (put_from 0 values clause))
  checks_by =
      let c : Numbered = (0, put_from 0 values clause) in
      let g = ground_by (variables params c.1) 0 c in
      ap (λ b. b && list_all is_true g.clauses) (is_narrow-append (put_steps_from 0 values clause) g.steps)
      ∙ and_assoc (is_narrow (put_steps_from 0 values clause)) (is_narrow g.steps) (list_all is_true g.clauses)
      ∙ ap (λ b. is_narrow (put_steps_from 0 values clause) && b) (ground_passes (variables params c.1) 0 c)

  pub checks_some : (o : Option (List Fact)) (put : List Fact) → o ≡ if_narrow (put_steps_from 0 values clause) (put_from 0 values clause) → o ≡ Some put → clause_checks params values clause ≡ ground_holds (variables params put) put
  checks_some o put is some =
      let out = if_narrow_out (put_steps_from 0 values clause) (put_from 0 values clause) put (sym is ∙ some) in
      checks_by
      ∙ ap (λ b. b && ground_holds (variables params (put_from 0 values clause)) (put_from 0 values clause)) out.0
      ∙ ap (λ fs. ground_holds (variables params fs) fs) out.1

  pub checks_none : (o : Option (List Fact)) → o ≡ if_narrow (put_steps_from 0 values clause) (put_from 0 values clause) → o ≡ None → clause_checks params values clause ≡ false
  checks_none o is none = checks_by ∙ by_steps (is_narrow (put_steps_from 0 values clause)) (sym is ∙ none)
    where
      by_steps : (b : Bool) → cond b (Some (put_from 0 values clause)) None ≡ None → (b && ground_holds (variables params (put_from 0 values clause)) (put_from 0 values clause)) ≡ false
      by_steps true h = absurd (cc)
      by_steps false h = refl

-- ---- a parameter that doesn't occur
neither : (a b : Bool) → (a || b) ≡ false → (a ≡ false) × (b ≡ false)
neither true b h = absurd (cc)
neither false b h = (refl, h)

module _ (p : ℕ) (z : ℤ) where
  absent_steps : (fs : List Fact) → occurs_in p fs ≡ false → at_steps p z fs ≡ []
  absent_steps [] h = refl
  absent_steps (f ∷ fs) h =
      let both = neither (occurs p (sum_of f)) (occurs_in p fs) h in
      rw (both.0, absent_steps fs both.1) refl

  absent_value : (fs : List Fact) → occurs_in p fs ≡ false → at_value p z fs ≡ fs
  absent_value [] h = refl
  absent_value (f ∷ fs) h =
      let both = neither (occurs p (sum_of f)) (occurs_in p fs) h in
      rw (both.0, absent_value fs both.1) refl

  pub absent_put : (fs : List Fact) → occurs_in p fs ≡ false → Some fs ≡ if_narrow (at_steps p z fs) (at_value p z fs)
  absent_put fs h = rw (absent_steps fs h, absent_value fs h) refl

-- from a place on
abbrev pub put_onto : ℕ → List ℤ → List Fact → Option (List Fact)
put_onto p values clause = if_narrow (put_steps_from p values clause) (put_from p values clause)

module _ (values : List ℤ) (i : ℕ) (z : ℤ) (clause : List Fact) (o : Option (List Fact)) (h : i < length values) (at_ : z ≡ get_or values i (pos 0)) (is : o ≡ if_narrow (at_steps i z clause) (at_value i z clause)) where
  opened : put_onto i (drop i values) clause ≡ cond (is_narrow (at_steps i z clause)) (put_onto (i + 1) (drop (i + 1) values) (at_value i z clause)) None
  opened =
      ap (λ zs. put_onto i zs clause) (drop_more values i (pos 0) h ∙ ap (λ y. y ∷ drop (i + 1) values) (sym at_))
      ∙ if_narrow-append (at_steps i z clause) (put_steps_from (suc i) (drop (i + 1) values) (at_value i z clause)) (put_from (suc i) (drop (i + 1) values) (at_value i z clause))
      ∙ ap (λ k. cond (is_narrow (at_steps i z clause)) (put_onto k (drop (i + 1) values) (at_value i z clause)) None) (sym (add-one i))

  pub put_on : (next : List Fact) → o ≡ Some next → put_onto i (drop i values) clause ≡ put_onto (i + 1) (drop (i + 1) values) next
  put_on next some =
      let out = if_narrow_out (at_steps i z clause) (at_value i z clause) next (sym is ∙ some) in
      opened
      ∙ ap (λ b. cond b (put_onto (i + 1) (drop (i + 1) values) (at_value i z clause)) None) out.0
      ∙ ap (put_onto (i + 1) (drop (i + 1) values)) out.1

  pub put_off : o ≡ None → put_onto i (drop i values) clause ≡ None
  put_off none = opened ∙ by_steps (is_narrow (at_steps i z clause)) (sym is ∙ none)
    where
      by_steps : (b : Bool) → cond b (Some (at_value i z clause)) None ≡ None → cond b (put_onto (i + 1) (drop (i + 1) values) (at_value i z clause)) None ≡ None
      by_steps true k = absurd (cc)
      by_steps false k = refl

-- ---- what the answer tells
pub told : (r : Result Bool AllocError) (b : Bool) (P : Type 0) → IfOk r (λ y. y ≡ b) → (b ≡ true → P) → IfOk r (λ y. IsTrue y → P)
told (Ok y) b P is f = λ h. f (sym is ∙ h)
told (Err e) b P is f = tt

pub shown : (r : Result Bool AllocError) (b : Bool) (P Q R : Type 0) → IfOk r (λ y. y ≡ b) → (P → Q → R → b ≡ true) → IfOk r (λ y. P → Q → R → IsTrue y)
shown (Ok y) b P Q R is f = λ p q s. is ∙ f p q s
shown (Err e) b P Q R is f = tt
