-- Facts that are changed each in its place, and put back.
use Rattle.std.specs.Prelude.{◌≡◌, ℕ, ℤ, zero, suc, ◌<◌, ◌+◌, Bool, true, false, get_or, drop, take, length, map, slice_set, List, [], ◌∷◌, ◌++◌, Result, Ok, Err, IfOk, if◌then◌else◌}
use Rattle.std.specs.List.{flat_map}
use Rattle.std.proofs.Common.{refl, sym, ◌∙◌, ap, arith}
use Rattle.std.proofs.lemmas.List.{at_drop_more, length-set, set-set, set-get_or, take_all}
use Rattle.lin_base.specs.declared.facts.Fact.{Fact}
use Rattle.lin_base.specs.declared.facts.Fact.TheVariants.{AtMostZero, Zero, Divides, NotDivides}
use Rattle.lin_base.specs.declared.wides.Wide.{Wide}
use Rattle.lin_base.specs.Change.{replace}
use Rattle.lin_base.specs.Fact.{sum_of}
use Rattle.lin_base.specs.Numbers.{results}
use Rattle.lin_base.specs.Steps.{replace_steps, replace_all_steps}
use Rattle.lin_base.specs.Sum.{occurs}
use Rattle.cert_tree.specs.declared.sums.Side.{Side}
use Rattle.cert_tree.specs.Children.{far_child, far_child_steps, far_down, far_down_steps}
use Rattle.cooper_rows.specs.declared.counting.BudgetError.{BudgetError}
use Rattle.cooper_rows.specs.Counted.{Fits}
use Rattle.cooper_rows.proofs.Budgets.{results-append}
use Rattle.cooper.specs.declared.sharing.Kept.{Kept}
use Rattle.cooper.specs.Sharing.{changed, changed_steps, remade_by, noted, put_back, restored, number_side}
use Rattle.cooper.proofs.Walking.{append_nil}

-- an answer that speaks of no value
pub if_ok : {A E P : Type 0} (r : Result A E) → P → IfOk r (λ _. P)
if_ok (Ok v) h = h
if_ok (Err e) h = tt

-- ---- put back
-- the last one first
pub put_back-last : (es : List (ℕ × Fact)) (e : ℕ × Fact) (facts : List Fact) → put_back (es ++ e ∷ []) facts ≡ put_back es (slice_set facts e.0 e.1)
put_back-last [] e facts = refl
put_back-last (d ∷ es) e facts = ap (λ fs. slice_set fs d.0 d.1) (put_back-last es e facts)

-- a fact that is changed, and noted
pub put_back-noted : (p : ℕ) (far : Bool) (s : Side) (es : List (ℕ × Fact)) (facts : List Fact) (n : ℕ) (f : Fact) → f ≡ get_or facts n f
    → put_back (es ++ noted p n f) (slice_set facts n (changed p far s f)) ≡ put_back es facts
put_back-noted p far s es facts n f is = by_cases (occurs p (sum_of f)) (remade_by p far s f)
  where
    same : slice_set facts n f ≡ facts
    same = ap (slice_set facts n) is ∙ set-get_or facts n f

    by_cases : (b : Bool) (g : Fact) → put_back (es ++ (if b then (n, f) ∷ [] else [])) (slice_set facts n (if b then g else f)) ≡ put_back es facts
    by_cases true g = put_back-last es (n, f) (slice_set facts n g) ∙ ap (put_back es) (set-set facts n g f ∙ same)
    by_cases false g = ap (λ ks. put_back ks (slice_set facts n f)) (sym (append_nil es)) ∙ ap (put_back es) same

-- ---- a list that is changed up to a place
pub not_yet : (f : Fact → Fact) (xs : List Fact) (i : ℕ) (d : Fact) → i < length xs → get_or (map f (take i xs) ++ drop i xs) i d ≡ get_or xs i d
not_yet f [] i d h = absurd (omega (arith, h))
not_yet f (x ∷ xs) zero d h = refl
not_yet f (x ∷ xs) (suc i) d h = not_yet f xs i d (omega (arith, h))

pub results_more : (steps : Fact → List Wide) (xs : List Fact) (i : ℕ) (d : Fact) → i < length xs
    → results (flat_map steps (drop i xs)) ≡ results (steps (get_or xs i d)) ++ results (flat_map steps (drop (i + 1) xs))
results_more steps xs i d h = at_drop_more (λ fs. results (flat_map steps fs)) xs i d h ∙ results-append (steps (get_or xs i d)) (flat_map steps (drop (i + 1) xs))

-- as many as there were
pub front : (f : Fact → Fact) (xs ys : List Fact) → take (length xs) (map f xs ++ ys) ≡ map f xs
front f [] ys = refl
front f (x ∷ xs) ys = ap (λ zs. f x ∷ zs) (front f xs ys)

-- what a list has whose slice was lent
pub lent : (xs ys : List Fact) (n : ℕ) → n ≡ length xs → take n (xs ++ ys) ≡ xs
lent [] ys n is = ap (λ k. take k ys) is
lent (x ∷ xs) ys zero is = absurd (omega (arith, is))
lent (x ∷ xs) ys (suc n) is = ap (λ zs. x ∷ zs) (lent xs ys n (omega (arith, is)))

pub length-changed : (f : Fact → Fact) (xs : List Fact) → length (map f xs) ≡ length xs
length-changed f [] = refl
length-changed f (x ∷ xs) = ap suc (length-changed f xs)

pub length-put_back : (es : List (ℕ × Fact)) (xs : List Fact) → length (put_back es xs) ≡ length xs
length-put_back [] xs = refl
length-put_back (e ∷ es) xs = length-set (put_back es xs) e.0 e.1 ∙ length-put_back es xs

-- nothing was put behind them
pub restored_all : (f : Fact → Fact) (new facts : List Fact) (zs : List ℤ) (r : Result Kept BudgetError) → Fits r zs (λ _. new ≡ map f facts) → IfOk r (λ k. k.length ≡ length facts)
    → IfOk r (λ k. put_back k.places new ≡ facts) → IfOk r (λ k. restored k new ≡ facts)
restored_all f new facts zs (Ok k) made count back = ap (put_back k.places) (take_all k.length new (omega (arith, count, ap length made.0.1, length-changed f facts))) ∙ back
restored_all f new facts zs (Err e) made count back = tt

pub fits_gives : {A P Q : Type 0} (zs : List ℤ) (r : Result A BudgetError) → Fits r zs (λ _. P) → (P → Q) → IfOk r (λ _. Q)
fits_gives zs (Ok v) h gives = gives h.0.1
fits_gives zs (Err e) h gives = tt

-- ---- the facts of the definition
twice : {A : Type 0} (b : Bool) (g f : A) → (if b then (if b then g else f) else f) ≡ (if b then g else f)
twice true g f = refl
twice false g f = refl

never : (b : Bool) → (let ss : List Wide = if b then [] else [] in ss) ≡ []
never true = refl
never false = refl

module _ (p : ℕ) (e : Side) where
  side_changed : (f : Fact) → changed p false e f ≡ replace p e.b e.rest f
  side_changed (AtMostZero t) = twice (occurs p t) _ _
  side_changed (Zero t) = twice (occurs p t) _ _
  side_changed (Divides m t) = twice (occurs p t) _ _
  side_changed (NotDivides m t) = twice (occurs p t) _ _

  side_steps : (f : Fact) → changed_steps p false e f ≡ replace_steps p e.b e.rest f
  side_steps (AtMostZero t) = twice (occurs p t) _ _
  side_steps (Zero t) = twice (occurs p t) _ _
  side_steps (Divides m t) = twice (occurs p t) _ _
  side_steps (NotDivides m t) = twice (occurs p t) _ _

  pub each_side : (facts : List Fact) → map (changed p false e) facts ≡ map (replace p e.b e.rest) facts
  each_side [] = refl
  each_side (f ∷ fs) = ap (λ g. g ∷ map (changed p false e) fs) (side_changed f) ∙ ap (λ gs. replace p e.b e.rest f ∷ gs) (each_side fs)

  pub each_side_steps : (facts : List Fact) → flat_map (changed_steps p false e) facts ≡ replace_all_steps p e.b e.rest facts
  each_side_steps [] = refl
  each_side_steps (f ∷ fs) = ap (λ ss. ss ++ flat_map (changed_steps p false e) fs) (side_steps f) ∙ ap (λ ss. replace_steps p e.b e.rest f ++ ss) (each_side_steps fs)

module _ (p j : ℕ) where
  far_changed : (f : Fact) → changed p true (number_side j) f ≡ far_down p j f
  far_changed (AtMostZero t) = refl
  far_changed (Zero t) = twice (occurs p t) _ _
  far_changed (Divides m t) = twice (occurs p t) _ _
  far_changed (NotDivides m t) = twice (occurs p t) _ _

  far_steps : (f : Fact) → changed_steps p true (number_side j) f ≡ far_down_steps p j f
  far_steps (AtMostZero t) = never (occurs p t)
  far_steps (Zero t) = twice (occurs p t) _ _
  far_steps (Divides m t) = twice (occurs p t) _ _
  far_steps (NotDivides m t) = twice (occurs p t) _ _

  pub each_far : (facts : List Fact) → map (changed p true (number_side j)) facts ≡ far_child p facts j
  each_far [] = refl
  each_far (f ∷ fs) = ap (λ g. g ∷ map (changed p true (number_side j)) fs) (far_changed f) ∙ ap (λ gs. far_down p j f ∷ gs) (each_far fs)

  pub each_far_steps : (facts : List Fact) → flat_map (changed_steps p true (number_side j)) facts ≡ far_child_steps p facts j
  each_far_steps [] = refl
  each_far_steps (f ∷ fs) = ap (λ ss. ss ++ flat_map (changed_steps p true (number_side j)) fs) (far_steps f) ∙ ap (λ ss. far_down_steps p j f ++ ss) (each_far_steps fs)
