-- The innermost binder of a number, and ascending numbers in a shorter scope.
use Rattle.std.proofs.Common.{◌≡◌, ◌≢◌, ℕ, zero, suc, ◌-◌, ◌<◌, ◌≤◌, min, true, ◌==◌, ◌⊎◌, inl, inr, Option, Some, find, List, [], ◌∷◌, length, take, reverse, get_or, sym, ap, ◌∙◌, subst, arith}
use Rattle.std.proofs.Math.Nat.{eq-or-lt_of_le}
use Rattle.std.proofs.Math.Seq.{take-suc, take-length}
use Rattle.std.proofs.lemmas.Grind.{common_steps}
use Rattle.std.proofs.lemmas.List.{get_or-map, get_or-take, reverse-append, length-take}
use Rattle.std.proofs.lemmas.Bool.{eq-eqb}
use Rattle.term_base.specs.declared.variables.Variable.{Variable}
use Rattle.term_base.specs.declared.terms.Term.{Term}
use Rattle.term_base.specs.declared.terms.Term.TheVariants as term
use Rattle.normal_form.specs.Cnf.{at_variable}
use Rattle.normal_form.specs.Lookup.{number_at, Ascends, IsBehind}

abbrev Entries : Type 0
Entries = List (ℕ × Term)

number_read : (terms : Entries) (k : ℕ) (x : ℕ × Term) → k < length terms → number_at k terms ≡ (get_or terms k x).0
number_read terms k x h = get_or-map (λ p. p.0) terms k x 0 h

number_in_take : (n : ℕ) (xs : Entries) (k : ℕ) → k < n → k < length xs → number_at k (take n xs) ≡ number_at k xs
number_in_take n xs k p h =
    let x : ℕ × Term = (0, term.True) in
    let within : k < length (take n xs) = omega (arith, length-take n xs) in
    number_read (take n xs) k x within ∙ ap (λ (p : ℕ × Term). p.0) (get_or-take n xs k x p) ∙ sym (number_read xs k x h)

pub ascends_shorter : (n d : ℕ) (xs : Entries) → Ascends n xs → Ascends (min n d) (take d xs)
ascends_shorter n d xs a = record {
  within = let w : n ≤ length xs = a.within in omega (arith, length-take d xs);
  rising = λ i j p q.
      let w : n ≤ length xs = a.within in
      let e = number_in_take d xs i (omega arith) (omega arith) in
      let f = number_in_take d xs j (omega arith) (omega arith) in
      let r : number_at i xs < number_at j xs = a.rising i j p (omega arith) in
      rw (e, f) r;
}

module _ (id : ℕ) (terms : Entries) where
  abbrev innermost : Entries → Option (ℕ × Term)
  innermost ps = find (λ p. p.0 == id) (reverse ps)

  last_first : (m : ℕ) (x : ℕ × Term) → m < length terms → reverse (take (suc m) terms) ≡ get_or terms m x ∷ reverse (take m terms)
  last_first m x h = ap (λ (ps : Entries). reverse ps) (take-suc terms m x h) ∙ reverse-append (take m terms) (get_or terms m x ∷ [])

  found_first : (x : ℕ × Term) (ps : Entries) → x.0 ≡ id → find (λ p. p.0 == id) (x ∷ ps) ≡ Some x
  found_first x ps e = let h : (x.0 == id) ≡ true = eq-eqb x.0 id e in grind (arith, common_steps)

  passed : (x : ℕ × Term) (ps : Entries) → x.0 ≢ id → find (λ p. p.0 == id) (x ∷ ps) ≡ find (λ p. p.0 == id) ps
  passed x ps ne = grind (arith, common_steps)

  one_back : (m : ℕ) → m < length terms → number_at m terms ≢ id → innermost (take (suc m) terms) ≡ innermost (take m terms)
  one_back m h ne =
      let x : ℕ × Term = (0, term.True) in
      ap (λ (ps : Entries). find (λ p. p.0 == id) ps) (last_first m x h) ∙ passed (get_or terms m x) (reverse (take m terms)) (λ e. ne (number_read terms m x h ∙ e))

  back_from : (n m : ℕ) → suc m ≤ length terms → ((k : ℕ) → n ≤ k → k < suc m → number_at k terms ≢ id) → (n ≤ m → innermost (take m terms) ≡ innermost (take n terms)) → (n ≡ suc m) ⊎ (n < suc m) → innermost (take (suc m) terms) ≡ innermost (take n terms)
  back_from n m q h less (inl e) = ap (λ (k : ℕ). innermost (take k terms)) (sym e)
  back_from n m q h less (inr r) = one_back m (omega arith) (h m (omega arith) (omega arith)) ∙ less (omega arith)

  back : (n m : ℕ) → n ≤ m → m ≤ length terms → ((k : ℕ) → n ≤ k → k < m → number_at k terms ≢ id) → innermost (take m terms) ≡ innermost (take n terms)
  back n zero p q h = let e : 0 ≡ n = omega arith in ap (λ (k : ℕ). innermost (take k terms)) e
  back n (suc m) p q h = back_from n m q h (λ r. back n m r (omega arith) (λ k a b. h k a (omega arith))) (eq-or-lt_of_le p)

  innermost_behind : (place : ℕ) → IsBehind id terms place → innermost terms ≡ innermost (take place terms)
  innermost_behind place b =
      ap innermost (sym (take-length terms)) ∙ back place (length terms) b.within (omega arith) b.above

-- what stands for a variable that nothing binds
unbound : (terms : Entries) (v : Variable) → IsBehind v.id terms 0 → at_variable terms v ≡ term.Var v
unbound terms v b = let h = innermost_behind v.id terms 0 b in grind (arith, common_steps, h)

-- and for one that is bound
bound : (terms : Entries) (v : Variable) (m : ℕ) (x : ℕ × Term) → m < length terms → IsBehind v.id terms (suc m) → at_variable terms v ≡ (get_or terms m x).1
bound terms v m x h b =
    let e : innermost v.id terms terms ≡ innermost v.id terms (take (suc m) terms) = innermost_behind v.id terms (suc m) b in
    let last : m ≡ suc m - 1 = omega arith in
    let number : number_at m terms ≡ v.id = ap (λ (k : ℕ). number_at k terms) last ∙ b.here (omega arith) in
    let f : innermost v.id terms (take (suc m) terms) ≡ Some (get_or terms m x) =
    ap (λ (ps : Entries). find (λ p. p.0 == v.id) ps) (last_first v.id terms m x h) ∙ found_first v.id terms (get_or terms m x) (reverse (take m terms)) (sym (number_read terms m x h) ∙ number) in
    grind (arith, common_steps, e, f)

pub unbound_read : (terms ts : Entries) (v : Variable) (place : ℕ) → ts ≡ terms → place ≡ 0 → IsBehind v.id ts place → term.Var v ≡ at_variable terms v
unbound_read terms ts v place e z b =
    let at_terms : IsBehind v.id terms place = subst (λ (x : Entries). IsBehind v.id x place) e b in
    sym (unbound terms v (subst (λ (k : ℕ). IsBehind v.id terms k) z at_terms))

pub bound_read : (terms ts : Entries) (v : Variable) (place : ℕ) (x : ℕ × Term) → ts ≡ terms → 0 < place → IsBehind v.id ts place → (get_or ts (place - 1) x).1 ≡ at_variable terms v
bound_read terms ts v place x e p b =
    let w : place ≤ length ts = b.within in
    let again : place ≡ suc (place - 1) = omega arith in
    let found : at_variable ts v ≡ (get_or ts (place - 1) x).1 = bound ts v (place - 1) x (omega arith) (subst (λ (k : ℕ). IsBehind v.id ts k) again b) in
    sym found ∙ ap (λ (y : Entries). at_variable y v) e
