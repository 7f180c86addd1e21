-- Texts put behind a text part by part.
use Rattle.std.proofs.Common.{◌≡◌, ℕ, zero, suc, ◌+◌, ◌^◌, ◌<◌, ◌≤◌, List, [], ◌∷◌, ◌++◌, length, drop, get_or, drop-cons, refl, sym, ap, subst, ◌∙◌, append_assoc, append-nil, arith}
use Rattle.text_pieces.specs.Decimals.{decimal}
use Rattle.text_pieces.specs.Numbers.{Number, Word32}
use Rattle.text_pieces.specs.Printing.{Adds}
use Rattle.text_pieces.proofs.Adding.{adds-behind}
use Rattle.text_pieces.specs.Fronts.{Front, Word}
use Rattle.text_pieces.specs.Kinds.{OneKind}
use Rattle.text_pieces.specs.Runs.{Run}

pub adds-number : (In : ℕ → Type 0) (n : ℕ) (x y : List ℕ) → In n → y ≡ x ++ decimal n → Adds (Number In) n x y
adds-number In n x y h e = record { text = decimal n; spelled = record { is_in = h; digits = refl }; is = e }

pub adds-word32 : (n : ℕ) (x y : List ℕ) → n < 2 ^ 32 → y ≡ x ++ decimal n → Adds (Number Word32) n x y
adds-word32 n x y h e = adds-number Word32 n x y (record { from_low = omega arith; to_high = omega (arith, h) }) e

pub adds-word : (word : List ℕ) (x y : List ℕ) → y ≡ x ++ word → Adds (Word word) tt x y
adds-word word x y e = record { text = word; spelled = refl; is = e }

-- a word that stands for a value
pub adds-as : {A : Type 0} (word : A → List ℕ) (a : A) (x y : List ℕ) → y ≡ x ++ word a → Adds (λ (b : A) (t : List ℕ). t ≡ word b) a x y
adds-as word a x y e = record { text = word a; spelled = refl; is = e }

pub adds-front : {A : Type 0} (word : List ℕ) (L : A → List ℕ → Type 0) (a : A) (x y z : List ℕ) → y ≡ x ++ word → Adds L a y z → Adds (Front word L) a x z
adds-front [] L a x y z e r = subst (λ w. Adds L a w z) (e ∙ append-nil x) r
adds-front (b ∷ bs) L a x y z e r =
    adds-behind b (Front bs L) a x (x ++ b ∷ []) z refl (adds-front bs L a (x ++ b ∷ []) y z (e ∙ sym (append_assoc x (b ∷ []) bs)) r)

pub adds-kind : {K A : Type 0} (Parts : K → A → List ℕ → Type 0) (k : K) (a : A) (x y : List ℕ) → Adds (Parts k) a x y → Adds (OneKind Parts) a x y
adds-kind Parts k a x y r = record { text = r.text; spelled = record { kind = k; spelled = r.spelled }; is = r.is }

-- ---- runs, an element after the other
module _ {S A : Type 0} (L : S → A → List ℕ → Type 0) (next : S → A → S) (end : List ℕ) where
  abbrev Rest : S → List A → List ℕ → Type 0
  Rest = Run L next end

  -- where the elements from the i-th on are put behind t, all of them are put behind the first text
  abbrev pub Putting : S → List A → List ℕ → S → ℕ → List ℕ → Type 0
  Putting first xs old s i t = (z : List ℕ) → Adds (Rest s) (drop i xs) t z → Adds (Rest first) xs old z

  pub put_none : (first : S) (xs : List A) (old : List ℕ) → Putting first xs old first 0 old
  put_none first xs old z r = r

  pub put_at : (first s : S) (xs : List A) (i : ℕ) (a : A) (old t u : List ℕ) → drop i xs ≡ a ∷ drop (suc i) xs → Putting first xs old s i t → Adds (L s) a t u → Putting first xs old (next s a) (i + 1) u
  put_at first s xs i a old t u split p r z m =
      let one : i + 1 ≡ suc i = omega arith in
      let rest : Adds (Rest (next s a)) (drop (suc i) xs) u z = subst (λ n. Adds (Rest (next s a)) (drop n xs) u z) one m in
      let both : Adds (Rest s) (a ∷ drop (suc i) xs) t z = record {
        text = r.text ++ rest.text;
        spelled = record { first = r.text; more = rest.text; first_is = r.spelled; more_is = rest.spelled; joined = refl };
        is = rest.is ∙ ap (λ w. w ++ rest.text) r.is ∙ append_assoc t r.text rest.text;
      } in
      p z (subst (λ ys. Adds (Rest s) ys t z) (sym split) both)

  pub put_next : (first s : S) (xs : List A) (i : ℕ) (a : A) (old t u : List ℕ) → i < length xs → a ≡ get_or xs i a → Putting first xs old s i t → Adds (L s) a t u → Putting first xs old (next s a) (i + 1) u
  put_next first s xs i a old t u l e p r = put_at first s xs i a old t u (drop-cons xs i a l ∙ ap (λ b. b ∷ drop (suc i) xs) (sym e)) p r

  no_more : (i : ℕ) (xs : List A) → length xs ≤ i → drop i xs ≡ []
  no_more zero [] h = refl
  no_more zero (x ∷ xs) h = absurd (omega arith)
  no_more (suc i) [] h = refl
  no_more (suc i) (x ∷ xs) h = no_more i xs (omega arith)

  pub put_end : (first s : S) (xs : List A) (i : ℕ) (old t z : List ℕ) → length xs ≤ i → Putting first xs old s i t → z ≡ t ++ end → Adds (Rest first) xs old z
  put_end first s xs i old t z l p e = p z (subst (λ ys. Adds (Rest s) ys t z) (sym (no_more i xs l)) (record { text = end; spelled = refl; is = e }))
