-- An implication and an equivalence from what their parts make, with the scope as it is after each part.
use Rattle.std.proofs.Common.{◌≡◌, ℕ, ◌+◌, ◌*◌, ◌<◌, min, cond, Bool, true, false, not, List, [], ◌++◌, length, refl, sym, ap, ◌∙◌, arith}
use Rattle.std.specs.Prelude.{Result, Ok, Err, IfOk, OnOk}
use Rattle.term_base.specs.declared.symbols.Symbol.{Symbol}
use Rattle.formula_base.specs.declared.formulas.Formula.{Formula}
use Rattle.formula_base.specs.declared.formulas.Formula.TheVariants.{Implies, Iff}
use Rattle.formula_base.specs.FormulaFolds.{fold-Implies, fold-Iff}
use Rattle.normal_form.specs.declared.scopes.Scope.{Scope}
use Rattle.normal_form.specs.Count.{number, saturated}
use Rattle.normal_form.specs.Count as c
use Rattle.normal_form.specs.Cnf.{Literals, Meaning, cnf, cnf_step, implication, equivalence}
use Rattle.normal_form.specs.declared.measuring.Measured.{Measured}
use Rattle.normal_form.specs.Measures.{measures, counts}
use Rattle.normal_form.proofs.FormulaCounts.{two_sum, two_product}
use Rattle.normal_form.proofs.Measures.{counts_plus, counts_minus}
use Rattle.normal_form.proofs.Saturation.{saturated_sum, saturated_product}
use Rattle.normal_form.proofs.Steps.{implication_symbols, equivalence_symbols, implication_parts, implication_kept, equivalence_parts, put_together, kept}

cnf-Implies : (g h : Formula) → cnf (Implies g h) ≡ implication (cnf g) (cnf h)
cnf-Implies g h = fold-Implies Meaning cnf_step g h

cnf-Iff : (g h : Formula) → cnf (Iff g h) ≡ equivalence (cnf g) (cnf h)
cnf-Iff g h = fold-Iff Meaning cnf_step g h

-- what is added for a formula is added for it in an equal scope
moved : (g : Formula) (sign : Bool) (scope inner : Scope) → inner ≡ scope → (a b : List Symbol) → b ≡ a ++ (cnf g sign inner (length a)).symbols → b ≡ a ++ (cnf g sign scope (length a)).symbols
moved g sign scope inner i a b p = p ∙ ap (λ (x : Scope). a ++ (cnf g sign x (length a)).symbols) i

pub implies_symbols : (whole f g : Formula) → whole ≡ Implies f g → (sign : Bool) (scope inner : Scope) → inner ≡ scope → (s a b : List Symbol)
    → a ≡ s ++ (cnf f (not sign) scope (length s)).symbols → b ≡ a ++ (cnf g sign inner (length a)).symbols → b ≡ s ++ (cnf whole sign scope (length s)).symbols
implies_symbols whole f g e sign scope inner i s a b p q =
    implication_symbols (cnf f) (cnf g) sign scope s a b p (q ∙ ap (λ (x : Scope). a ++ (cnf g sign x (length a)).symbols) i)
    ∙ ap (λ (m : Meaning). s ++ (m sign scope (length s)).symbols) (sym (ap cnf e ∙ cnf-Implies f g))

pub iff_symbols : (whole f g : Formula) → whole ≡ Iff f g → (sign : Bool) (scope u v w : Scope) → u ≡ scope → v ≡ u → w ≡ v → (s a b x y : List Symbol)
    → a ≡ s ++ (cnf f (not sign) scope (length s)).symbols → b ≡ a ++ (cnf g sign u (length a)).symbols → x ≡ b ++ (cnf g (not sign) v (length b)).symbols → y ≡ x ++ (cnf f sign w (length x)).symbols
    → y ≡ s ++ (cnf whole sign scope (length s)).symbols
iff_symbols whole f g e sign scope u v w i j k s a b x y p q n o =
    equivalence_symbols (cnf f) (cnf g) sign scope s a b x y p (q ∙ ap (λ (z : Scope). a ++ (cnf g sign z (length a)).symbols) i)
    (moved g (not sign) scope v (j ∙ i) b x n) (moved f sign scope w (k ∙ j ∙ i) x y o)
    ∙ ap (λ (m : Meaning). s ++ (m sign scope (length s)).symbols) (sym (ap cnf e ∙ cnf-Iff f g))

-- ---- clauses

pub implies_clauses : (whole f g : Formula) → whole ≡ Implies f g → (sign : Bool) (scope inner : Scope) → inner ≡ scope → (s a : List Symbol)
    → a ≡ s ++ (cnf f (not sign) scope (length s)).symbols → (x y z : List Literals) → x ≡ (cnf f (not sign) scope (length s)).clauses → y ≡ (cnf g sign inner (length a)).clauses
    → z ≡ put_together sign x y → z ≡ (cnf whole sign scope (length s)).clauses
implies_clauses whole f g e sign scope inner i s a p x y z h k l =
    l ∙ ap (λ (c : List Literals). put_together sign c y) h
    ∙ ap (put_together sign (cnf f (not sign) scope (length s)).clauses) (k ∙ ap (λ (sc : Scope). (cnf g sign sc (length a)).clauses) i)
    ∙ implication_parts (cnf f) (cnf g) sign scope s a p ∙ ap (λ (m : Meaning). (m sign scope (length s)).clauses) (sym (ap cnf e ∙ cnf-Implies f g))

pub iff_clauses : (whole f g : Formula) → whole ≡ Iff f g → (sign : Bool) (scope u v w : Scope) → u ≡ scope → v ≡ u → w ≡ v → (s a b x : List Symbol)
    → a ≡ s ++ (cnf f (not sign) scope (length s)).symbols → b ≡ a ++ (cnf g sign u (length a)).symbols → x ≡ b ++ (cnf g (not sign) v (length b)).symbols
    → (there back : Bool) → (there ≡ false → c.implication (number f) (number g) sign ≡ 0) → (back ≡ false → c.implication (number g) (number f) sign ≡ 0)
    → (l1 l2 first l3 l4 second z : List Literals) → l1 ≡ kept there (cnf f (not sign) scope (length s)).clauses → l2 ≡ kept there (cnf g sign u (length a)).clauses → first ≡ put_together sign l1 l2
    → l3 ≡ kept back (cnf g (not sign) v (length b)).clauses → l4 ≡ kept back (cnf f sign w (length x)).clauses → second ≡ put_together sign l3 l4
    → z ≡ put_together (not sign) first second → z ≡ (cnf whole sign scope (length s)).clauses
iff_clauses whole f g e sign scope u v w i j k s a b x p q n there back zero zero' l1 l2 first l3 l4 second z h1 h2 h3 h4 h5 h6 h7 =
    let q' = q ∙ ap (λ (y : Scope). a ++ (cnf g sign y (length a)).symbols) i in
    let n' = moved g (not sign) scope v (j ∙ i) b x n in
    let one = h3 ∙ ap (λ (c : List Literals). put_together sign c l2) h1 ∙ ap (put_together sign (kept there (cnf f (not sign) scope (length s)).clauses)) (h2 ∙ ap (λ (y : Scope). kept there (cnf g sign y (length a)).clauses) i)
    ∙ implication_kept f g sign scope s a p there zero in
    let l3' = h4 ∙ ap (λ (y : Scope). kept back (cnf g (not sign) y (length b)).clauses) (j ∙ i) in
    let l4' = h5 ∙ ap (λ (y : Scope). kept back (cnf f sign y (length x)).clauses) (k ∙ j ∙ i) in
    let two = h6 ∙ ap (λ (c : List Literals). put_together sign c l4) l3' ∙ ap (put_together sign (kept back (cnf g (not sign) scope (length b)).clauses)) l4' ∙ implication_kept g f sign scope b x n' back zero' in
    h7 ∙ ap (λ (c : List Literals). put_together (not sign) c second) one ∙ ap (put_together (not sign) (implication (cnf f) (cnf g) sign scope (length s)).clauses) two
    ∙ equivalence_parts (cnf f) (cnf g) sign scope s b (implication_symbols (cnf f) (cnf g) sign scope s a b p q') ∙ ap (λ (m : Meaning). (m sign scope (length s)).clauses) (sym (ap cnf e ∙ cnf-Iff f g))

-- ---- where the count is 0

min_zero : (m n : ℕ) → 0 < m → min n m ≡ 0 → n ≡ 0
min_zero m n h e = omega arith

pub saturated_zero : (n : ℕ) → saturated n ≡ 0 → n ≡ 0
saturated_zero n e = min_zero _ n (omega arith) e

product_zero : (a b : ℕ) → saturated a * saturated b ≡ 0 → a * b ≡ 0
product_zero a b e = saturated_zero (a * b) (sym (saturated_product a b) ∙ ap saturated e)

sum_zero : (a b : ℕ) → saturated a + saturated b ≡ 0 → a + b ≡ 0
sum_zero a b e = saturated_zero (a + b) (sym (saturated_sum a b) ∙ ap saturated e)

-- of an implication, by the measures of its parts
pub implied_zero : (f g : Formula) (m n : Measured) → m ≡ measures f → n ≡ measures g → (sign : Bool)
    → cond sign ((counts m).minus * (counts n).plus) ((counts m).plus + (counts n).minus) ≡ 0 → c.implication (number f) (number g) sign ≡ 0
implied_zero f g m n p q true e = two_product (number f false) (number g true)
    ∙ product_zero (number f false) (number g true) (ap (λ (x : ℕ). x * saturated (number g true)) (sym (counts_minus f m p)) ∙ ap (λ (x : ℕ). (counts m).minus * x) (sym (counts_plus g n q)) ∙ e)
implied_zero f g m n p q false e = two_sum (number f true) (number g false)
    ∙ sum_zero (number f true) (number g false) (ap (λ (x : ℕ). x + saturated (number g false)) (sym (counts_plus f m p)) ∙ ap (λ (x : ℕ). (counts m).plus + x) (sym (counts_minus g n q)) ∙ e)

pub formula_zero : (f : Formula) (sign : Bool) (n plus minus : ℕ) → plus ≡ saturated (number f true) → minus ≡ saturated (number f false) → n ≡ cond sign plus minus → n ≡ 0 → number f sign ≡ 0
formula_zero f true n plus minus p q e z = saturated_zero (number f true) (sym p ∙ sym e ∙ z)
formula_zero f false n plus minus p q e z = saturated_zero (number f false) (sym q ∙ sym e ∙ z)

-- a consequence of what an Ok holds
pub if_ok : {A E : Type 0} (r : Result A E) (P Q : A → Type 0) → ((x : A) → P x → Q x) → IfOk r P → IfOk r Q
if_ok (Ok x) P Q f h = f x h
if_ok (Err e) P Q f h = h

-- what holds anyway holds where there is an Ok
pub always_ok : {A E : Type 0} (r : Result A E) (P : Type 0) → P → OnOk r P
always_ok (Ok x) P h = h
always_ok (Err e) P h = tt

-- ---- what is wanted

pub unwanted : (b : Bool) (xs : List Literals) → b ≡ false → [] ≡ kept b xs
unwanted true xs e = absurd (cc)
unwanted false xs e = refl

pub emptied : (b : Bool) (xs : List Literals) → xs ≡ [] → [] ≡ kept b xs
emptied true xs e = sym e
emptied false xs e = refl

pub kept_all : (b : Bool) (xs : List Literals) → b ≡ true → xs ≡ kept b xs
kept_all true xs e = refl
kept_all false xs e = absurd (cc)
