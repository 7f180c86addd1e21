-- Substitution on trees: composition, agreement, occurrence, weight and sorts.
use Rattle.std.proofs.Common.{◌≡◌, ◌⊎◌, inl, inr, ◌+◌, ◌≤◌, true, false, not, List, refl, ap, sym, ◌∙◌, subst, arith}
use Rattle.std.specs.Prelude.{Some}
use Rattle.term_base.specs.declared.symbols.Symbol.{Symbol}
use Rattle.term_base.specs.declared.variables.Variable.{Variable}
use Rattle.term_base.specs.Same.{same_variable}
use Rattle.term_base.specs.SameLemmas.{same_variable-true, same_variable-refl}
use Rattle.term_base.specs.Sorting.{sort, sorts}
use Rattle.term_base.specs.Trees.{Head, Tree, Trees, var, node, none, more, occurs, any_occurs}
use Rattle.term_base.specs.Substitution.{put_in, put_all, single, Simple}
use Rattle.term_base.specs.Purity.{IsPure, is_abstraction, foreground, any_foreground, foreground_head, ordinary, any_ordinary}
use Rattle.term_base.specs.Weight.{weight, weight_all}
use Rattle.term_base.specs.TreeLemmas.{true_or_false, both_ways, or-true, or-false, or-left, or-right}

pub variable_or_not : (v w : Variable) → (v ≡ w) ⊎ ((v ≡ w) → ⊥)
variable_or_not v w = elim (true_or_false (same_variable v w)) [
  | inl h ↦ inl (same_variable-true v w h)
  | inr h ↦ inr (λ e. both_ways (same_variable v w) (ap (same_variable v) (sym e) ∙ same_variable-refl v) h)
]

pub single-same : (v w : Variable) (t : Tree) → v ≡ w → single v t w ≡ t
single-same v w t e = let h : same_variable v w ≡ true = ap (same_variable v) (sym e) ∙ same_variable-refl v in rw h refl

pub single-other : (v w : Variable) (t : Tree) → ((v ≡ w) → ⊥) → single v t w ≡ var w
single-other v w t d = let h : same_variable v w ≡ false = elim (true_or_false (same_variable v w)) [ inl p ↦ absurd (d (same_variable-true v w p)) | inr q ↦ q ] in rw h refl

-- one variable goes to a term of its sort, to a pure one where it is an abstraction variable
pub single-simple : (signature : List Symbol) (v : Variable) (t : Tree) → sort signature t ≡ Some v.sort → (is_abstraction v ≡ true → IsPure signature t) → Simple signature (single v t)
single-simple signature v t sorted pure = record {
  sorted = λ w. elim (variable_or_not v w) [
    | inl e ↦ ap (sort signature) (single-same v w t e) ∙ sorted ∙ ap (λ (u : Variable). Some u.sort) e
    | inr d ↦ ap (sort signature) (single-other v w t d)
  ];
  pure = λ w is. elim (variable_or_not v w) [
    | inl e ↦ subst (IsPure signature) (sym (single-same v w t e)) (pure (ap is_abstraction e ∙ is))
    | inr d ↦ subst (IsPure signature) (sym (single-other v w t d)) (record { no_foreground = refl; no_ordinary = ap not is })
  ];
}

module _ (r s : Variable → Tree) where
  mutual
    -- one substitution after another
    pub put_in-put_in : (t : Tree) → put_in r (put_in s t) ≡ put_in (λ v. put_in r (s v)) t
    put_in-put_in (var v) = refl
    put_in-put_in (node f xs) = ap (node f) (put_all-put_all xs)

    put_all-put_all : (xs : Trees) → put_all r (put_all s xs) ≡ put_all (λ v. put_in r (s v)) xs
    put_all-put_all none = refl
    put_all-put_all (more x xs) = let a = put_in-put_in x in let b = put_all-put_all xs in cc

  mutual
    -- substitutions that agree on the variables of a tree
    pub put_in-agree : (t : Tree) → ((v : Variable) → occurs v t ≡ true → r v ≡ s v) → put_in r t ≡ put_in s t
    put_in-agree (var v) h = h v (same_variable-refl v)
    put_in-agree (node f xs) h = ap (node f) (put_all-agree xs h)

    put_all-agree : (xs : Trees) → ((v : Variable) → any_occurs v xs ≡ true → r v ≡ s v) → put_all r xs ≡ put_all s xs
    put_all-agree none h = refl
    put_all-agree (more x xs) h =
        let a = put_in-agree x (λ v o. h v (or-left (occurs v x) (any_occurs v xs) o)) in
        let b = put_all-agree xs (λ v o. h v (or-right (occurs v x) (any_occurs v xs) o)) in cc

mutual
  pub put_in-var : (t : Tree) → put_in var t ≡ t
  put_in-var (var v) = refl
  put_in-var (node f xs) = ap (node f) (put_all-var xs)

  put_all-var : (xs : Trees) → put_all var xs ≡ xs
  put_all-var none = refl
  put_all-var (more x xs) = let a = put_in-var x in let b = put_all-var xs in cc

module _ (s : Variable → Tree) where
  mutual
    -- a variable after a substitution comes from one before
    pub occurs-put_in : (w : Variable) (t : Tree) → occurs w (put_in s t) ≡ true → (v : Variable) × ((occurs v t ≡ true) × (occurs w (s v) ≡ true))
    occurs-put_in w (var v) h = (v, (same_variable-refl v, h))
    occurs-put_in w (node f xs) h = occurs-put_all w xs h

    occurs-put_all : (w : Variable) (xs : Trees) → any_occurs w (put_all s xs) ≡ true → (v : Variable) × ((any_occurs v xs ≡ true) × (occurs w (s v) ≡ true))
    occurs-put_all w none h = absurd (both_ways false h refl)
    occurs-put_all w (more x xs) h = elim (or-true (occurs w (put_in s x)) (any_occurs w (put_all s xs)) h) [
      | inl p ↦ (let o = occurs-put_in w x p in (o.0, (or-left (occurs o.0 x) (any_occurs o.0 xs) o.1.0, o.1.1)))
      | inr q ↦ (let o = occurs-put_all w xs q in (o.0, (or-right (occurs o.0 x) (any_occurs o.0 xs) o.1.0, o.1.1)))
    ]

module _ (s : Variable → Tree) (v : Variable) where
  mutual
    weight_within : (t : Tree) → occurs v t ≡ true → weight (s v) ≤ weight (put_in s t)
    weight_within (var w) h = let e : weight (s w) ≡ weight (s v) = ap (λ z. weight (s z)) (same_variable-true w v h) in omega arith
    weight_within (node f xs) h = let a = weight_within_all xs h in omega arith

    weight_within_all : (xs : Trees) → any_occurs v xs ≡ true → weight (s v) ≤ weight_all (put_all s xs)
    weight_within_all none h = absurd (both_ways false h refl)
    weight_within_all (more x xs) h = elim (or-true (occurs v x) (any_occurs v xs) h) [
      | inl p ↦ (let a = weight_within x p in omega arith)
      | inr q ↦ (let a = weight_within_all xs q in omega arith)
    ]

  -- no substitution makes a variable and a larger term that has it equal
  pub no_cycle : (f : Head) (xs : Trees) → any_occurs v xs ≡ true → s v ≡ put_in s (node f xs) → ⊥
  no_cycle f xs h e = let a = weight_within_all xs h in let b : weight (s v) ≡ 1 + weight_all (put_all s xs) = ap weight e in omega arith

module _ (signature : List Symbol) (s : Variable → Tree) (sorted : (v : Variable) → sort signature (s v) ≡ Some v.sort) where
  mutual
    -- a substitution that keeps the sorts of variables keeps those of trees
    pub sort-put_in : (t : Tree) → sort signature (put_in s t) ≡ sort signature t
    sort-put_in (var v) = sorted v
    sort-put_in (node f xs) = rw (sorts-put_all xs) refl

    sorts-put_all : (xs : Trees) → sorts signature (put_all s xs) ≡ sorts signature xs
    sorts-put_all none = refl
    sorts-put_all (more x xs) = let a = sort-put_in x in let b = sorts-put_all xs in cc

module _ (signature : List Symbol) (s : Variable → Tree) where
  mutual
    -- what goes for the variables of a tree without foreground symbol has none where the answer has none
    pub foreground-put_in : (t : Tree) → foreground signature t ≡ false → ((v : Variable) → occurs v t ≡ true → foreground signature (s v) ≡ false) → foreground signature (put_in s t) ≡ false
    foreground-put_in (var v) h each = each v (same_variable-refl v)
    foreground-put_in (node f xs) h each =
        let two = or-false (foreground_head signature f) (any_foreground signature xs) h in
        let rest = foreground-put_all xs two.1 each in rw (two.0) rest

    foreground-put_all : (xs : Trees) → any_foreground signature xs ≡ false → ((v : Variable) → any_occurs v xs ≡ true → foreground signature (s v) ≡ false) → any_foreground signature (put_all s xs) ≡ false
    foreground-put_all none h each = refl
    foreground-put_all (more x xs) h each =
        let two = or-false (foreground signature x) (any_foreground signature xs) h in
        let one = foreground-put_in x two.0 (λ v o. each v (or-left (occurs v x) (any_occurs v xs) o)) in
        let rest = foreground-put_all xs two.1 (λ v o. each v (or-right (occurs v x) (any_occurs v xs) o)) in
        rw one rest

  mutual
    pub ordinary-put_in : (t : Tree) → ((v : Variable) → occurs v t ≡ true → ordinary (s v) ≡ false) → ordinary (put_in s t) ≡ false
    ordinary-put_in (var v) each = each v (same_variable-refl v)
    ordinary-put_in (node f xs) each = ordinary-put_all xs each

    ordinary-put_all : (xs : Trees) → ((v : Variable) → any_occurs v xs ≡ true → ordinary (s v) ≡ false) → any_ordinary (put_all s xs) ≡ false
    ordinary-put_all none each = refl
    ordinary-put_all (more x xs) each =
        let one = ordinary-put_in x (λ v o. each v (or-left (occurs v x) (any_occurs v xs) o)) in
        let rest = ordinary-put_all xs (λ v o. each v (or-right (occurs v x) (any_occurs v xs) o)) in
        rw one rest

-- every variable of a pure instance goes to a pure term
module _ (signature : List Symbol) (s : Variable → Tree) where
  mutual
    pub inner_foreground : (t : Tree) → foreground signature (put_in s t) ≡ false → (v : Variable) → occurs v t ≡ true → foreground signature (s v) ≡ false
    inner_foreground (var w) h v o = ap (λ z. foreground signature (s z)) (sym (same_variable-true w v o)) ∙ h
    inner_foreground (node f xs) h v o = inner_foreground_all xs (or-false (foreground_head signature f) (any_foreground signature (put_all s xs)) h).1 v o

    inner_foreground_all : (xs : Trees) → any_foreground signature (put_all s xs) ≡ false → (v : Variable) → any_occurs v xs ≡ true → foreground signature (s v) ≡ false
    inner_foreground_all none h v o = absurd (both_ways false o refl)
    inner_foreground_all (more x xs) h v o =
        let two = or-false (foreground signature (put_in s x)) (any_foreground signature (put_all s xs)) h in
        elim (or-true (occurs v x) (any_occurs v xs) o) [ inl p ↦ inner_foreground x two.0 v p | inr q ↦ inner_foreground_all xs two.1 v q ]

  mutual
    pub inner_ordinary : (t : Tree) → ordinary (put_in s t) ≡ false → (v : Variable) → occurs v t ≡ true → ordinary (s v) ≡ false
    inner_ordinary (var w) h v o = ap (λ z. ordinary (s z)) (sym (same_variable-true w v o)) ∙ h
    inner_ordinary (node f xs) h v o = inner_ordinary_all xs h v o

    inner_ordinary_all : (xs : Trees) → any_ordinary (put_all s xs) ≡ false → (v : Variable) → any_occurs v xs ≡ true → ordinary (s v) ≡ false
    inner_ordinary_all none h v o = absurd (both_ways false o refl)
    inner_ordinary_all (more x xs) h v o =
        let two = or-false (ordinary (put_in s x)) (any_ordinary (put_all s xs)) h in
        elim (or-true (occurs v x) (any_occurs v xs) o) [ inl p ↦ inner_ordinary x two.0 v p | inr q ↦ inner_ordinary_all xs two.1 v q ]

  pub inner_pure : (t : Tree) → IsPure signature (put_in s t) → (v : Variable) → occurs v t ≡ true → IsPure signature (s v)
  inner_pure t p v o = record { no_foreground = inner_foreground t p.no_foreground v o; no_ordinary = inner_ordinary t p.no_ordinary v o }
