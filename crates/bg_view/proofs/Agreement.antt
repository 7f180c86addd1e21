-- The truth of a clause at other values that are the same for its symbols and its variables.
use Rattle.std.specs.Prelude.{◌≡◌, ℕ, ℤ, ◌+ℤ◌, ◌*ℤ◌, not, int_le, List, [], ◌∷◌, ◌++◌, ◌||◌}
use Rattle.std.specs.List.{list_any}
use Rattle.std.proofs.Common.{refl, sym, ◌∙◌, ap, subst}
use Rattle.term_base.specs.declared.variables.Variable.{Variable}
use Rattle.term_base.specs.declared.terms.Term.{Term}
use Rattle.term_base.specs.declared.clauses.Literal.{Literal}
use Rattle.term_base.specs.declared.clauses.Literal.TheVariants.{Equal, Differ, AtMost}
use Rattle.term_base.specs.TermFolds.{fold-Var, fold-Num, fold-True, fold-Sum, fold-Scale, fold-App}
use Rattle.term_base.specs.TermInduction.{term_induction}
use Rattle.lin_base.specs.Whole.{is_same}
use Rattle.bg_view.specs.Unknowns.{symbols_step, symbols_in, symbols_in_literal, symbols_in_literals, variables_step, variables_in, variables_in_literal, variables_in_literals}
use Rattle.bg_view.specs.Truth.{Symbols, Variables, value_step, value, literal_holds}
use Rattle.bg_view.proofs.Each.{Each, each_left, each_right}

module _ (p q : Symbols) (w u : Variables) where
  abbrev SameSymbols : List ℕ → Type 0
  SameSymbols = Each (λ f. p f ≡ q f)

  abbrev SameVariables : List Variable → Type 0
  SameVariables = Each (λ x. w x ≡ u x)

  abbrev Agrees : Term → Type 0
  Agrees t = SameSymbols (symbols_in t) → SameVariables (variables_in t) → value p w t ≡ value q u t

  pub value_agrees : (t : Term) → Agrees t
  value_agrees = term_induction Agrees
      (λ v s x. fold-Var ℤ (value_step p w) v ∙ (subst SameVariables (fold-Var (List Variable) variables_step v) x).0 ∙ sym (fold-Var ℤ (value_step q u) v))
      (λ k s x. fold-Num ℤ (value_step p w) k ∙ sym (fold-Num ℤ (value_step q u) k))
      (λ s x. fold-True ℤ (value_step p w) ∙ sym (fold-True ℤ (value_step q u)))
      (λ a b at_a at_b s x.
      let ss = subst SameSymbols (fold-Sum (List ℕ) symbols_step a b) s in
      let xs = subst SameVariables (fold-Sum (List Variable) variables_step a b) x in
      let left = at_a (each_left (λ f. p f ≡ q f) (symbols_in a) (symbols_in b) ss) (each_left (λ v. w v ≡ u v) (variables_in a) (variables_in b) xs) in
      let right = at_b (each_right (λ f. p f ≡ q f) (symbols_in a) (symbols_in b) ss) (each_right (λ v. w v ≡ u v) (variables_in a) (variables_in b) xs) in
      fold-Sum ℤ (value_step p w) a b ∙ ap (λ z. z +ℤ value p w b) left ∙ ap (λ z. value q u a +ℤ z) right ∙ sym (fold-Sum ℤ (value_step q u) a b))
      (λ k a at_a s x.
      let part = at_a (subst SameSymbols (fold-Scale (List ℕ) symbols_step k a) s) (subst SameVariables (fold-Scale (List Variable) variables_step k a) x) in
      fold-Scale ℤ (value_step p w) k a ∙ ap (λ z. k *ℤ z) part ∙ sym (fold-Scale ℤ (value_step q u) k a))
      (λ f ts _ s x. fold-App ℤ (value_step p w) f ts ∙ (subst SameSymbols (fold-App (List ℕ) symbols_step f ts) s).0 ∙ sym (fold-App ℤ (value_step q u) f ts))

  left_agrees : (s t : Term) → SameSymbols (symbols_in s ++ symbols_in t) → SameVariables (variables_in s ++ variables_in t) → value p w s ≡ value q u s
  left_agrees s t ss xs = value_agrees s (each_left (λ f. p f ≡ q f) (symbols_in s) (symbols_in t) ss) (each_left (λ v. w v ≡ u v) (variables_in s) (variables_in t) xs)

  right_agrees : (s t : Term) → SameSymbols (symbols_in s ++ symbols_in t) → SameVariables (variables_in s ++ variables_in t) → value p w t ≡ value q u t
  right_agrees s t ss xs = value_agrees t (each_right (λ f. p f ≡ q f) (symbols_in s) (symbols_in t) ss) (each_right (λ v. w v ≡ u v) (variables_in s) (variables_in t) xs)

  pub literal_agrees : (l : Literal) → SameSymbols (symbols_in_literal l) → SameVariables (variables_in_literal l) → literal_holds p w l ≡ literal_holds q u l
  literal_agrees (Equal s t) ss xs = ap (λ z. is_same z (value p w t)) (left_agrees s t ss xs) ∙ ap (is_same (value q u s)) (right_agrees s t ss xs)
  literal_agrees (Differ s t) ss xs = ap (λ z. not (is_same z (value p w t))) (left_agrees s t ss xs) ∙ ap (λ z. not (is_same (value q u s) z)) (right_agrees s t ss xs)
  literal_agrees (AtMost s t) ss xs = ap (λ z. int_le z (value p w t)) (left_agrees s t ss xs) ∙ ap (int_le (value q u s)) (right_agrees s t ss xs)

  pub literals_agree : (ls : List Literal) → SameSymbols (symbols_in_literals ls) → SameVariables (variables_in_literals ls) → list_any (literal_holds p w) ls ≡ list_any (literal_holds q u) ls
  literals_agree [] ss xs = refl
  literals_agree (l ∷ ls) ss xs =
      let first = literal_agrees l (each_left (λ f. p f ≡ q f) (symbols_in_literal l) (symbols_in_literals ls) ss) (each_left (λ v. w v ≡ u v) (variables_in_literal l) (variables_in_literals ls) xs) in
      let rest = literals_agree ls (each_right (λ f. p f ≡ q f) (symbols_in_literal l) (symbols_in_literals ls) ss) (each_right (λ v. w v ≡ u v) (variables_in_literal l) (variables_in_literals ls) xs) in
      ap (λ b. b || list_any (literal_holds p w) ls) first ∙ ap (λ b. literal_holds q u l || b) rest
