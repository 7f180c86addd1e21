-- The count is the number of clauses.
use Rattle.std.proofs.Common.{◌≡◌, ℕ, suc, ◌+◌, ◌*◌, Bool, true, false, List, [], ◌∷◌, ◌++◌, length, map, refl, sym, ap, ◌∙◌, arith}
use Rattle.std.specs.Prelude.{not, sum, fold}
use Rattle.std.proofs.lemmas.List.{length-append, length-map}
use Rattle.term_base.specs.declared.variables.Variable.{Variable}
use Rattle.formula_base.specs.declared.formulas.Formula.{Formula}
use Rattle.formula_base.specs.FormulaFolds.{fold-True, fold-False, fold-Same, fold-Less, fold-LessEq, fold-Not, fold-Implies, fold-Iff, fold-All, fold-Some, fold-Atom, fold-And, fold-Or}
use Rattle.formula_base.specs.FormulaInduction.{Each, formula_induction}
use Rattle.normal_form.specs.Count.{Number, number, number_step, product}
use Rattle.normal_form.specs.Count as c
use Rattle.formula_base.specs.declared.problems.Problem.{Problem}
use Rattle.normal_form.specs.Numbering.{numbered}
use Rattle.normal_form.specs.Clauses.{Signed, signed, nothing_bound, made_from, made, prepared, count_all, count_of}
use Rattle.normal_form.specs.Cnf
use Rattle.normal_form.specs.declared.scopes.Scope.{Scope}
use Rattle.normal_form.specs.Cnf.{Literals, Meaning, Made, cnf, cnf_step, join, appended, joined, visit, conjunction, disjunction, negated, implication, universally, by_skolem, quantified}

-- what is made has as many clauses as this number says
abbrev Counts : Meaning → Number → Type 0
Counts m n = (sign : Bool) (scope : Scope) (next : ℕ) → length (m sign scope next).clauses ≡ n sign

-- ---- lists of clauses

length-join : (left right : List Literals) → length (join left right) ≡ length left * length right
length-join [] right = grind arith
length-join (l ∷ left) right =
    let one : length (map (λ (d : Literals). l ++ d) right) ≡ length right = length-map right (λ (d : Literals). l ++ d) in
    length-append (map (λ (d : Literals). l ++ d) right) (join left right) ∙ rw (one, length-join left right) (product_step (length right) (length left))
  where
    product_step : (r n : ℕ) → r + n * r ≡ suc n * r
    product_step r n = grind arith

sum_from : (acc : ℕ) (ns : List ℕ) → fold (λ a b. a + b) acc ns ≡ acc + fold (λ a b. a + b) 0 ns
sum_from acc [] = grind arith
sum_from acc (n ∷ ns) = sum_from (acc + n) ns ∙ rw (sum_from (0 + n) ns) (omega arith)

sum-cons : (n : ℕ) (ns : List ℕ) → sum (n ∷ ns) ≡ n + sum ns
sum-cons n ns = sum_from (0 + n) ns ∙ omega arith

length-appended : (ms : List (List Literals)) → length (appended ms) ≡ sum (map (λ x. length x) ms)
length-appended [] = refl
length-appended (m ∷ ms) = length-append m (appended ms) ∙ ap (λ (n : ℕ). length m + n) (length-appended ms) ∙ sym (sum-cons (length m) (map (λ x. length x) ms))

length-joined_from : (acc : List Literals) (ms : List (List Literals)) → length (fold join acc ms) ≡ fold (λ a b. a * b) (length acc) (map (λ x. length x) ms)
length-joined_from acc [] = refl
length-joined_from acc (m ∷ ms) = length-joined_from (join acc m) ms ∙ ap (λ (n : ℕ). fold (λ a b. a * b) n (map (λ x. length x) ms)) (length-join acc m)

length-joined : (ms : List (List Literals)) → length (joined ms) ≡ product (map (λ x. length x) ms)
length-joined ms = length-joined_from ([] ∷ []) ms

-- ---- members

data AllCount : List Meaning → List Number → Type 0 where
  none : AllCount [] []
  next : (m : Meaning) (n : Number) {ms : List Meaning} {ns : List Number} → Counts m n → AllCount ms ns → AllCount (m ∷ ms) (n ∷ ns)

visit_counts : {ms : List Meaning} {ns : List Number} → AllCount ms ns → (sign : Bool) (scope : Scope) (at : ℕ)
    → map (λ x. length x) (map (λ x. x.clauses) (visit ms sign scope at)) ≡ map (λ n. n sign) ns
visit_counts none sign scope at = refl
visit_counts (next m n {ms = ms} {ns = ns} h all) sign scope at =
    ap (λ (k : ℕ). k ∷ map (λ x. length x) (map (λ x. x.clauses) (visit ms sign scope (at + length (m sign scope at).symbols)))) (h sign scope at)
    ∙ ap (λ (ks : List ℕ). n sign ∷ ks) (visit_counts all sign scope (at + length (m sign scope at).symbols))

conjunction_counts : {ms : List Meaning} {ns : List Number} → AllCount ms ns → Counts (conjunction ms) (c.conjunction ns)
conjunction_counts {ms = ms} all true scope at = length-appended (map (λ x. x.clauses) (visit ms true scope at)) ∙ ap sum (visit_counts all true scope at)
conjunction_counts {ms = ms} all false scope at = length-joined (map (λ x. x.clauses) (visit ms false scope at)) ∙ ap product (visit_counts all false scope at)

disjunction_counts : {ms : List Meaning} {ns : List Number} → AllCount ms ns → Counts (disjunction ms) (c.disjunction ns)
disjunction_counts {ms = ms} all true scope at = length-joined (map (λ x. x.clauses) (visit ms true scope at)) ∙ ap product (visit_counts all true scope at)
disjunction_counts {ms = ms} all false scope at = length-appended (map (λ x. x.clauses) (visit ms false scope at)) ∙ ap sum (visit_counts all false scope at)

implication_counts : (m m' : Meaning) (n n' : Number) → Counts m n → Counts m' n' → Counts (implication m m') (c.implication n n')
implication_counts m m' n n' h h' = disjunction_counts (next (negated m) (c.negated n) (λ sign scope at. h (not sign) scope at) (next m' n' h' none))

quantified_counts : (universal : Bool) (vs : List Variable) (m : Meaning) (n : Number) → Counts m n → Counts (quantified universal vs m) n
quantified_counts true vs m n h sign scope at = h sign _ at
quantified_counts false vs m n h sign scope at = h sign _ _

-- ---- formulas

abbrev IsCounted : Formula → Type 0
IsCounted g = Counts (cnf g) (number g)

each_counts : (gs : List Formula) → Each IsCounted gs → AllCount (map cnf gs) (map number gs)
each_counts [] all = none
each_counts (g ∷ gs) all = next (cnf g) (number g) all.0 (each_counts gs all.1)

-- from the equations of the two folds
by_equations : (m m' : Meaning) (n n' : Number) → m ≡ m' → n ≡ n' → Counts m' n' → Counts m n
by_equations m m' n n' p q h = rw (p, q) h

always_counts : (sign : Bool) → length (Cnf.always sign).clauses ≡ c.always sign
always_counts true = refl
always_counts false = refl

pub counted : (g : Formula) → IsCounted g
counted = formula_induction IsCounted
    (by_equations _ _ _ _ (fold-True Meaning cnf_step) (fold-True Number number_step) (λ sign scope at. always_counts sign))
    (by_equations _ _ _ _ (fold-False Meaning cnf_step) (fold-False Number number_step) (λ sign scope at. always_counts (not sign)))
    (λ s. by_equations _ _ _ _ (fold-Atom Meaning cnf_step s) (fold-Atom Number number_step s) (λ sign scope at. refl))
    (λ s u. by_equations _ _ _ _ (fold-Same Meaning cnf_step s u) (fold-Same Number number_step s u) (λ sign scope at. refl))
    (λ s u. by_equations _ _ _ _ (fold-Less Meaning cnf_step s u) (fold-Less Number number_step s u) (λ sign scope at. refl))
    (λ s u. by_equations _ _ _ _ (fold-LessEq Meaning cnf_step s u) (fold-LessEq Number number_step s u) (λ sign scope at. refl))
    (λ g h. by_equations _ _ _ _ (fold-Not Meaning cnf_step g) (fold-Not Number number_step g) (λ sign scope at. h (not sign) scope at))
    (λ gs all. by_equations _ _ _ _ (fold-And Meaning cnf_step gs) (fold-And Number number_step gs) (conjunction_counts (each_counts gs all)))
    (λ gs all. by_equations _ _ _ _ (fold-Or Meaning cnf_step gs) (fold-Or Number number_step gs) (disjunction_counts (each_counts gs all)))
    (λ g h p q. by_equations _ _ _ _ (fold-Implies Meaning cnf_step g h) (fold-Implies Number number_step g h) (implication_counts (cnf g) (cnf h) (number g) (number h) p q))
    (λ g h p q. by_equations _ _ _ _ (fold-Iff Meaning cnf_step g h) (fold-Iff Number number_step g h) (conjunction_counts (next (implication (cnf g) (cnf h)) (c.implication (number g) (number h)) (implication_counts (cnf g) (cnf h) (number g) (number h) p q)
    (next (implication (cnf h) (cnf g)) (c.implication (number h) (number g)) (implication_counts (cnf h) (cnf g) (number h) (number g) q p) none))))
    (λ vs g p. by_equations _ _ _ _ (fold-All Meaning cnf_step vs g) (fold-All Number number_step vs g) (λ sign scope at. quantified_counts sign vs (cnf g) (number g) p sign scope at))
    (λ vs g p. by_equations _ _ _ _ (fold-Some Meaning cnf_step vs g) (fold-Some Number number_step vs g) (λ sign scope at. quantified_counts (not sign) vs (cnf g) (number g) p sign scope at))

-- an implication of two formulas too
pub implication_counted : (g h : Formula) → Counts (implication (cnf g) (cnf h)) (c.implication (number g) (number h))
implication_counted g h = implication_counts (cnf g) (cnf h) (number g) (number h) (counted g) (counted h)

-- ---- where the count is 0

pub no_items : (cs : List Literals) → length cs ≡ 0 → cs ≡ []
no_items [] h = refl
no_items (l ∷ ls) h = absurd (omega arith)

pub no_clauses : (g : Formula) (sign : Bool) (scope : Scope) (at : ℕ) → number g sign ≡ 0 → (cnf g sign scope at).clauses ≡ []
no_clauses g sign scope at h = no_items (cnf g sign scope at).clauses (counted g sign scope at ∙ h)

pub no_implication : (g h : Formula) (sign : Bool) (scope : Scope) (at : ℕ) → c.implication (number g) (number h) sign ≡ 0 → (implication (cnf g) (cnf h) sign scope at).clauses ≡ []
no_implication g h sign scope at e = no_items (implication (cnf g) (cnf h) sign scope at).clauses (implication_counted g h sign scope at ∙ e)

-- ---- a problem

made_counts : (ss : List Signed) (at : ℕ) → length (appended (map (λ m. m.clauses) (made_from ss at))) ≡ count_all ss
made_counts [] at = refl
made_counts (s ∷ more) at =
    let first = cnf s.formula s.sign nothing_bound at in
    let rest = made_from more (at + length first.symbols) in
    length-append first.clauses (appended (map (λ m. m.clauses) rest))
    ∙ ap (λ (n : ℕ). n + length (appended (map (λ m. m.clauses) rest))) (counted s.formula s.sign nothing_bound at)
    ∙ ap (λ (n : ℕ). number s.formula s.sign + n) (made_counts more (at + length first.symbols))

pub clauses_counted : (p : Problem) (ordinary : Bool) → length (prepared p ordinary).clauses ≡ count_of p
clauses_counted p ordinary =
    length-map (made p).clauses (numbered (p.symbols ++ (made p).symbols) ordinary) ∙ made_counts (signed p) (length p.symbols)
