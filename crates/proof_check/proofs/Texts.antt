-- The first byte with which no text goes on is one alone.
use Rattle.std.proofs.Common.{◌≡◌, ◌≤◌, ◌<◌, ◌+◌, ◌⊎◌, ◌∙◌, ℕ, List, [], ◌∷◌, ◌++◌, codes, take, drop, length, refl, sym, ap, subst, inl, inr, arith, append_assoc}
use Rattle.std.specs.Prelude.{nat_eq, false}
use Rattle.std.proofs.lemmas.List.{take-append-drop, take-take}
use Rattle.text_pieces.specs.Languages.{GoesOn}
use Rattle.proof_steps.specs.declared.steps.Derivation.{Derivation}
use Rattle.proof_text.specs.declared.kinds.Status.{Status}
use Rattle.proof_text.specs.Derivations.{Spells}
use Rattle.proof_text.specs.Parsing.{NoneIs}
use Rattle.proof_check.specs.Sections.{begins_list}
use Rattle.proof_check.proofs.Comparing.{compared}

-- the parts of a front
parts : (m n : ℕ) (bytes : List ℕ) → m ≤ n → take n bytes ≡ take m bytes ++ drop m (take n bytes)
parts m n bytes le =
    sym (take-append-drop m (take n bytes)) ∙ ap (λ (t : List ℕ). t ++ drop m (take n bytes)) (take-take m n bytes le)

module _ {A : Type 0} (L : A → List ℕ → Type 0) (bytes : List ℕ) where
  -- where a front goes on, each shorter one does
  shorter : (m n : ℕ) → m ≤ n → GoesOn L (take n bytes) → GoesOn L (take m bytes)
  shorter m n le g = record {
    value = g.value;
    text = g.text;
    tail = drop m (take n bytes) ++ g.tail;
    spelled = g.spelled;
    begins = g.begins
        ∙ (ap (λ (t : List ℕ). t ++ g.tail) (parts m n bytes le) ∙ append_assoc (take m bytes) (drop m (take n bytes)) g.tail);
  }

  not_less : (m n : ℕ) → NoneIs L m bytes → NoneIs L n bytes → m < n → ⊥
  not_less m n f g l =
      let within = g.within in
      f.stops (omega (arith, l, within)) (shorter (m + 1) n (omega (arith, l)) g.goes_on)

  one_of : (m n : ℕ) → NoneIs L m bytes → NoneIs L n bytes → (m < n) ⊎ ((m ≡ n) ⊎ (n < m)) → m ≡ n
  one_of m n f g (inl l) = absurd (not_less m n f g l)
  one_of m n f g (inr (inl e)) = e
  one_of m n f g (inr (inr l)) = absurd (not_less n m g f l)

  pub one_bad : (m n : ℕ) → NoneIs L m bytes → NoneIs L n bytes → m ≡ n
  one_bad m n f g = one_of m n f g (compared m n)

-- a derivation is no list
pub no_list : (p : Status × Derivation) (text : List ℕ) → Spells p text → begins_list text ≡ false
no_list p text s =
    let front : text ≡ 37 ∷ 32 ∷ 83 ∷ 90 ∷ s.spelled.spelled.spelled.behind =
    s.joined ∙ ap (λ (t : List ℕ). 37 ∷ t) (s.spelled.joined ∙ ap (λ (t : List ℕ). 32 ∷ t)
    (s.spelled.spelled.joined ∙ ap (λ (t : List ℕ). 83 ∷ t) s.spelled.spelled.spelled.joined)) in
    ap begins_list front

-- no bytes are no derivation
pub not_empty : (p : Status × Derivation) → Spells p [] → ⊥
not_empty p s =
    let bad : ◌≡◌ {A = List ℕ} [] (37 ∷ s.behind) = s.joined in
    cc
