-- Steps of the recursion: the two parts of an implication and of an equivalence.
use Rattle.std.proofs.Common.{◌≡◌, ℕ, ◌+◌, Bool, true, false, not, List, [], ◌∷◌, ◌++◌, length, map, take, get_or, ◌<◌, refl, sym, ap, ◌∙◌, append_assoc, length-append}
use Rattle.std.specs.Prelude.{if◌then◌else◌, Result, Ok, Err, OnOk}
use Rattle.std.proofs.lemmas.List.{append-nil, map-id, map-append, take_more}
use Rattle.term_base.specs.declared.symbols.Symbol.{Symbol}
use Rattle.term_base.specs.declared.variables.Variable.{Variable}
use Rattle.formula_base.specs.declared.formulas.Formula.{Formula}
use Rattle.normal_form.specs.declared.scopes.Scope.{Scope}
use Rattle.normal_form.specs.Count.{number}
use Rattle.normal_form.specs.Count as c
use Rattle.normal_form.specs.Cnf.{Literals, Meaning, cnf, join, appended, joined, visit, all_symbols, negated, implication, equivalence}
use Rattle.normal_form.proofs.Counted.{no_implication}

module _ (sign : Bool) (scope : Scope) where
  module _ (m n : Meaning) (s a b : List Symbol) (p : a ≡ s ++ (m sign scope (length s)).symbols) (q : b ≡ a ++ (n sign scope (length a)).symbols) where
    second_at : length a ≡ length s + length (m sign scope (length s)).symbols
    second_at = ap (λ (x : List Symbol). length x) p ∙ length-append s (m sign scope (length s)).symbols

    pub two_symbols : b ≡ s ++ all_symbols (visit (m ∷ n ∷ []) sign scope (length s))
    two_symbols =
        let first = (m sign scope (length s)).symbols in
        let second = (n sign scope (length s + length first)).symbols in
        q ∙ ap (λ (k : ℕ). a ++ (n sign scope k).symbols) second_at ∙ ap (λ (x : List Symbol). x ++ second) p
        ∙ append_assoc s first second ∙ ap (λ (x : List Symbol). s ++ (first ++ x)) (sym (append-nil second))

-- joining one list changes nothing
join_first : (x : List Literals) → join ([] ∷ []) x ≡ x
join_first x = append-nil (map (λ d. d) x) ∙ map-id x

pub joined_two : (x y : List Literals) → joined (x ∷ y ∷ []) ≡ join x y
joined_two x y = ap (λ (z : List Literals). join z y) (join_first x)

pub appended_two : (x y : List Literals) → appended (x ∷ y ∷ []) ≡ x ++ y
appended_two x y = ap (λ (z : List Literals). x ++ z) (append-nil y)

-- joined, or one after the other
abbrev pub put_together : Bool → List Literals → List Literals → List Literals
put_together b x y = if b then join x y else x ++ y

-- only where they are wanted
abbrev pub kept : Bool → List Literals → List Literals
kept b x = if b then x else []

-- the two parts of an implication
pub implication_parts : (m n : Meaning) (sign : Bool) (scope : Scope) (s a : List Symbol) → a ≡ s ++ (m (not sign) scope (length s)).symbols
    → put_together sign (m (not sign) scope (length s)).clauses (n sign scope (length a)).clauses ≡ (implication m n sign scope (length s)).clauses
implication_parts m n true scope s a p =
    let first = m false scope (length s) in
    ap (λ (k : ℕ). join first.clauses (n true scope k).clauses) (ap (λ (x : List Symbol). length x) p ∙ length-append s first.symbols)
    ∙ sym (joined_two first.clauses (n true scope (length s + length first.symbols)).clauses)
implication_parts m n false scope s a p =
    let first = m true scope (length s) in
    ap (λ (k : ℕ). first.clauses ++ (n false scope k).clauses) (ap (λ (x : List Symbol). length x) p ∙ length-append s first.symbols)
    ∙ sym (appended_two first.clauses (n false scope (length s + length first.symbols)).clauses)

nothing_kept : (sign : Bool) → put_together sign [] [] ≡ []
nothing_kept true = refl
nothing_kept false = refl

-- and none of them where the implication gives no clause
pub implication_kept : (g h : Formula) (sign : Bool) (scope : Scope) (s a : List Symbol) → a ≡ s ++ (cnf g (not sign) scope (length s)).symbols
    → (wanted : Bool) → (wanted ≡ false → c.implication (number g) (number h) sign ≡ 0)
    → put_together sign (kept wanted (cnf g (not sign) scope (length s)).clauses) (kept wanted (cnf h sign scope (length a)).clauses) ≡ (implication (cnf g) (cnf h) sign scope (length s)).clauses
implication_kept g h sign scope s a p true e = implication_parts (cnf g) (cnf h) sign scope s a p
implication_kept g h sign scope s a p false e = nothing_kept sign ∙ sym (no_implication g h sign scope (length s) (e refl))

-- the two parts of an equivalence
pub equivalence_parts : (m n : Meaning) (sign : Bool) (scope : Scope) (s b : List Symbol) → b ≡ s ++ (implication m n sign scope (length s)).symbols
    → put_together (not sign) (implication m n sign scope (length s)).clauses (implication n m sign scope (length b)).clauses ≡ (equivalence m n sign scope (length s)).clauses
equivalence_parts m n true scope s b p =
    let first = implication m n true scope (length s) in
    ap (λ (k : ℕ). first.clauses ++ (implication n m true scope k).clauses) (ap (λ (x : List Symbol). length x) p ∙ length-append s first.symbols)
    ∙ sym (appended_two first.clauses (implication n m true scope (length s + length first.symbols)).clauses)
equivalence_parts m n false scope s b p =
    let first = implication m n false scope (length s) in
    ap (λ (k : ℕ). join first.clauses (implication n m false scope k).clauses) (ap (λ (x : List Symbol). length x) p ∙ length-append s first.symbols)
    ∙ sym (joined_two first.clauses (implication n m false scope (length s + length first.symbols)).clauses)

-- the symbols of the two parts of an implication
pub implication_symbols : (m n : Meaning) (sign : Bool) (scope : Scope) (s a b : List Symbol) → a ≡ s ++ (m (not sign) scope (length s)).symbols → b ≡ a ++ (n sign scope (length a)).symbols
    → b ≡ s ++ (implication m n sign scope (length s)).symbols
implication_symbols m n sign scope s a b p q = two_symbols sign scope (negated m) n s a b p q

-- the symbols of the four parts of an equivalence
pub equivalence_symbols : (m n : Meaning) (sign : Bool) (scope : Scope) (s a b x y : List Symbol) → a ≡ s ++ (m (not sign) scope (length s)).symbols → b ≡ a ++ (n sign scope (length a)).symbols
    → x ≡ b ++ (n (not sign) scope (length b)).symbols → y ≡ x ++ (m sign scope (length x)).symbols → y ≡ s ++ (equivalence m n sign scope (length s)).symbols
equivalence_symbols m n sign scope s a b x y p q u v =
    two_symbols sign scope (implication m n) (implication n m) s b y (implication_symbols m n sign scope s a b p q) (implication_symbols n m sign scope b x y u v)

-- ---- lists that grow by one

pub push_more : (f : Variable → Symbol) (vs : List Variable) (i : ℕ) (v : Variable) (a b new : List Symbol) (s : Symbol) → i < length vs → v ≡ get_or vs i v
    → b ≡ a ++ map f (take i vs) → s ≡ f v → new ≡ b ++ s ∷ [] → new ≡ a ++ map f (take (i + 1) vs)
push_more f vs i v a b new s h e p q r =
    r ∙ ap (λ (x : List Symbol). x ++ s ∷ []) p ∙ ap (λ (x : Symbol). a ++ map f (take i vs) ++ x ∷ []) (q ∙ ap f e)
    ∙ append_assoc a (map f (take i vs)) (f (get_or vs i v) ∷ [])
    ∙ ap (λ (x : List Symbol). a ++ x) (sym (map-append f (take i vs) (get_or vs i v ∷ [])) ∙ ap (map f) (sym (take_more vs i v h)))

-- a consequence of what an Ok says
pub on_ok : {A E : Type 0} (r : Result A E) (P Q : Type 0) → (P → Q) → OnOk r P → OnOk r Q
on_ok (Ok x) P Q f h = f h
on_ok (Err e) P Q f h = h
