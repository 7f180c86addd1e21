-- Whole texts.
use Rattle.std.proofs.Common.{◌≡◌, ℕ, ◌+◌, ◌-◌, ◌<◌, ◌≤◌, List, [], ◌∷◌, ◌++◌, length, length-append, take, refl, sym, ap, subst, ◌∙◌, append_assoc, append-nil, arith}
use Rattle.std.proofs.Math.Seq.{take-append_seam}
use Rattle.text_pieces.specs.Languages.{GoesOn, StopsAt, ReadsTo, FailsTo}
use Rattle.text_pieces.proofs.Joining.{not_longer}
use Rattle.text_pieces.specs.Unambiguous.{OneFrontTo}
use Rattle.text_pieces.specs.Ending.{no_byte}
use Rattle.text_pieces.proofs.Ends.{free_none}
use Rattle.proof_text.specs.Parsing.{NoneIs}

module _ {A : Type 0} (L : A → List ℕ → Type 0) where
  -- the front with which a text goes on, and the first byte with which none does
  stopped : (bytes front rest : List ℕ) (at : ℕ) → bytes ≡ front ++ rest → at + length rest ≡ length bytes → GoesOn L front → StopsAt L front rest → ((a : A) → L a bytes → ⊥) → NoneIs L at bytes
  stopped bytes front rest at whole count on stops none =
      let n : at ≡ length front = omega (arith, count, ap length whole, length-append front rest) in
      record {
        within = omega (arith, count);
        goes_on = subst (GoesOn L) (sym (ap (λ k. take k bytes) n ∙ ap (take (length front)) whole ∙ take-append_seam front rest)) on;
        stops = stop rest whole n stops;
        none = none;
      }
    where
      stop : (rest : List ℕ) → bytes ≡ front ++ rest → at ≡ length front → StopsAt L front rest → at < length bytes → GoesOn L (take (at + 1) bytes) → ⊥
      stop [] w n s less g = absurd (omega (arith, n, ap length w, length-append front [], less))
      stop (b ∷ bs) w n s less g =
          let longer : at + 1 ≡ length (front ++ b ∷ []) = omega (arith, n, length-append front (b ∷ [])) in
          let split : bytes ≡ (front ++ b ∷ []) ++ bs = w ∙ sym (append_assoc front (b ∷ []) bs) in
          s (subst (GoesOn L) (ap (λ m. take m bytes) longer ∙ ap (take (length (front ++ b ∷ []))) split ∙ take-append_seam (front ++ b ∷ []) bs) g)

  pub failed : {bytes : List ℕ} {left : ℕ} → FailsTo no_byte L bytes left → NoneIs L (length bytes - left) bytes
  failed {bytes} {left} f =
      let count = ap length f.whole ∙ length-append f.front f.rest in
      stopped bytes f.front f.rest (length bytes - left) f.whole (omega (arith, count, f.left_is)) f.goes_on f.stops
      (λ a s. f.none a [] (record { text = bytes; spelled = s; whole = sym (append-nil bytes); ends = tt }))

  pub left_within : {bytes : List ℕ} {left : ℕ} → FailsTo no_byte L bytes left → left ≤ length bytes
  left_within {bytes} {left} f = omega (arith, ap length f.whole, length-append f.front f.rest, f.left_is)

  -- the whole was read
  pub all_read : {bytes rest : List ℕ} {a : A} → ReadsTo no_byte L bytes a rest → rest ≡ [] → L a bytes
  all_read {bytes} {rest} {a} r e = subst (L a) (sym (r.whole ∙ ap (λ z. r.text ++ z) e ∙ append-nil r.text)) r.spelled

  pub rest_within : {bytes rest : List ℕ} {a : A} → ReadsTo no_byte L bytes a rest → length rest ≤ length bytes
  rest_within {bytes} {rest} r = omega (arith, ap length r.whole, length-append r.text rest)

  -- a part of it was
  pub part_read : {bytes rest : List ℕ} {a : A} → OneFrontTo no_byte L → ReadsTo no_byte L bytes a rest → 0 < length rest → NoneIs L (length bytes - length rest) bytes
  part_read {bytes} {rest} {a} one r more =
      let count = ap length r.whole ∙ length-append r.text rest in
      stopped bytes r.text rest (length bytes - length rest) r.whole (omega (arith, count)) (record { value = a; text = r.text; tail = []; spelled = r.spelled; begins = sym (append-nil r.text) })
      (stop rest) (λ b s. no_rest rest more ((one b a bytes r.text [] rest s r.spelled (append-nil bytes ∙ r.whole) tt (free_none rest)).rest))
    where
      no_rest : (rest : List ℕ) → 0 < length rest → [] ≡ rest → ⊥
      no_rest [] h e = omega (arith, h)
      no_rest (b ∷ bs) h e = cc

      stop : (rest : List ℕ) → StopsAt L r.text rest
      stop [] = tt
      stop (b ∷ bs) = λ g.
          let same = one a g.value r.text g.text (b ∷ g.tail) [] r.spelled g.spelled (sym (append_assoc r.text (b ∷ []) g.tail) ∙ sym g.begins ∙ sym (append-nil g.text)) (free_none (b ∷ g.tail)) tt in
          not_longer r.text b g.tail (same.text ∙ g.begins ∙ append_assoc r.text (b ∷ []) g.tail)

  -- ---- laws
  pub one_value : OneFrontTo no_byte L → (a b : A) (t : List ℕ) → L a t → L b t → a ≡ b
  one_value one a b t s r = (one a b t t [] [] s r refl tt tt).value
