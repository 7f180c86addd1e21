-- A formula without quantifiers makes no Skolem symbols.
use Rattle.std.proofs.Common.{◌≡◌, ℕ, ◌+◌, Bool, true, false, ◌||◌, not, List, [], ◌∷◌, ◌++◌, length, map, refl, ap, ◌∙◌}
use Rattle.std.specs.List.{list_any}
use Rattle.formula_base.specs.declared.formulas.Formula.{Formula}
use Rattle.formula_base.specs.FormulaFolds.{fold-True, fold-False, fold-Same, fold-Less, fold-LessEq, fold-Not, fold-Implies, fold-Iff, fold-All, fold-Some, fold-Atom, fold-And, fold-Or}
use Rattle.formula_base.specs.FormulaInduction.{Each, formula_induction}
use Rattle.normal_form.specs.declared.scopes.Scope.{Scope}
use Rattle.normal_form.proofs.Quantifiers.{is_quantified, quantified_step}
use Rattle.normal_form.specs.Cnf.{Meaning, cnf, cnf_step, visit, all_symbols, always, negated, conjunction, disjunction, implication}

-- nothing is made
abbrev IsSilent : Meaning → Type 0
IsSilent m = (sign : Bool) (scope : Scope) (at : ℕ) → (m sign scope at).symbols ≡ []

abbrev AllSilent : List Meaning → Type 0
AllSilent [] = Unit {0}
AllSilent (m ∷ ms) = IsSilent m × AllSilent ms

visit_silent : (ms : List Meaning) → AllSilent ms → (sign : Bool) (scope : Scope) (at : ℕ) → all_symbols (visit ms sign scope at) ≡ []
visit_silent [] h sign scope at = refl
visit_silent (m ∷ ms) h sign scope at =
    ap (λ xs. xs ++ all_symbols (visit ms sign scope (at + length (m sign scope at).symbols))) (h.0 sign scope at)
    ∙ visit_silent ms h.1 sign scope (at + length (m sign scope at).symbols)

conjunction_silent : (ms : List Meaning) → AllSilent ms → IsSilent (conjunction ms)
conjunction_silent ms h true scope at = visit_silent ms h true scope at
conjunction_silent ms h false scope at = visit_silent ms h false scope at

disjunction_silent : (ms : List Meaning) → AllSilent ms → IsSilent (disjunction ms)
disjunction_silent ms h true scope at = visit_silent ms h true scope at
disjunction_silent ms h false scope at = visit_silent ms h false scope at

implication_silent : (m n : Meaning) → IsSilent m → IsSilent n → IsSilent (implication m n)
implication_silent m n h k = disjunction_silent (negated m ∷ n ∷ []) (λ sign scope at. h (not sign) scope at, (k, tt))

always_silent : IsSilent (λ sign scope at. always sign)
always_silent true scope at = refl
always_silent false scope at = refl

or_left : (a b : Bool) → a || b ≡ false → a ≡ false
or_left true b h = h
or_left false b h = refl

or_right : (a b : Bool) → a || b ≡ false → b ≡ false
or_right true b h = cc
or_right false b h = h

abbrev IsSilentWithout : Formula → Type 0
IsSilentWithout g = is_quantified g ≡ false → IsSilent (cnf g)

members_silent : (gs : List Formula) → Each IsSilentWithout gs → list_any (λ a. a) (map is_quantified gs) ≡ false → AllSilent (map cnf gs)
members_silent [] all h = tt
members_silent (g ∷ gs) all h =
    let rest = list_any (λ a. a) (map is_quantified gs) in
    (all.0 (or_left (is_quantified g) rest h), members_silent gs all.1 (or_right (is_quantified g) rest h))

-- from the equations of the two folds
by_equations : (m m' : Meaning) (b b' : Bool) → m ≡ m' → b ≡ b' → (b' ≡ false → IsSilent m') → b ≡ false → IsSilent m
by_equations m m' b b' p q h = rw (p, q) h

pub silent : (g : Formula) → IsSilentWithout g
silent = formula_induction IsSilentWithout
    (by_equations _ _ _ _ (fold-True Meaning cnf_step) (fold-True Bool quantified_step) (λ _. always_silent))
    (by_equations _ _ _ _ (fold-False Meaning cnf_step) (fold-False Bool quantified_step) (λ _ sign scope at. always_silent (not sign) scope at))
    (λ s. by_equations _ _ _ _ (fold-Atom Meaning cnf_step s) (fold-Atom Bool quantified_step s) (λ _ sign scope at. refl))
    (λ s u. by_equations _ _ _ _ (fold-Same Meaning cnf_step s u) (fold-Same Bool quantified_step s u) (λ _ sign scope at. refl))
    (λ s u. by_equations _ _ _ _ (fold-Less Meaning cnf_step s u) (fold-Less Bool quantified_step s u) (λ _ sign scope at. refl))
    (λ s u. by_equations _ _ _ _ (fold-LessEq Meaning cnf_step s u) (fold-LessEq Bool quantified_step s u) (λ _ sign scope at. refl))
    (λ g h. by_equations _ _ _ _ (fold-Not Meaning cnf_step g) (fold-Not Bool quantified_step g) (λ e sign scope at. h e (not sign) scope at))
    (λ gs all. by_equations _ _ _ _ (fold-And Meaning cnf_step gs) (fold-And Bool quantified_step gs) (λ e. conjunction_silent (map cnf gs) (members_silent gs all e)))
    (λ gs all. by_equations _ _ _ _ (fold-Or Meaning cnf_step gs) (fold-Or Bool quantified_step gs) (λ e. disjunction_silent (map cnf gs) (members_silent gs all e)))
    (λ g h p q. by_equations _ _ _ _ (fold-Implies Meaning cnf_step g h) (fold-Implies Bool quantified_step g h)
    (λ e. implication_silent (cnf g) (cnf h) (p (or_left (is_quantified g) (is_quantified h) e)) (q (or_right (is_quantified g) (is_quantified h) e))))
    (λ g h p q. by_equations _ _ _ _ (fold-Iff Meaning cnf_step g h) (fold-Iff Bool quantified_step g h)
    (λ e. let at_g = p (or_left (is_quantified g) (is_quantified h) e) in
    let at_h = q (or_right (is_quantified g) (is_quantified h) e) in
    conjunction_silent (implication (cnf g) (cnf h) ∷ implication (cnf h) (cnf g) ∷ []) (implication_silent (cnf g) (cnf h) at_g at_h, (implication_silent (cnf h) (cnf g) at_h at_g, tt))))
    (λ vs g p. by_equations _ _ _ _ (fold-All Meaning cnf_step vs g) (fold-All Bool quantified_step vs g) (λ e. absurd (cc)))
    (λ vs g p. by_equations _ _ _ _ (fold-Some Meaning cnf_step vs g) (fold-Some Bool quantified_step vs g) (λ e. absurd (cc)))
