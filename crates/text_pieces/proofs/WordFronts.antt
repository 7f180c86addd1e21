-- Words are read in one way alone.
use Rattle.std.proofs.Common.{◌≡◌, ℕ, List, ◌++◌, refl, sym, ap, subst, ◌∙◌}
use Rattle.text_pieces.specs.Languages.{NoDigit, Exactly}
use Rattle.text_pieces.proofs.Joining.{drop_front}
use Rattle.text_pieces.specs.Unambiguous.{OneFront, Unambiguous}

-- words that are told apart by what they begin with
pub one_front-words : {K : Type 0} (word : K → List ℕ) (guess : List ℕ → K) → ((k : K) (x : List ℕ) → guess (word k ++ x) ≡ k) → OneFront (λ (k : K) (t : List ℕ). t ≡ word k)
one_front-words word guess known a b t u x y s r h d e =
    let both : word a ++ x ≡ word b ++ y = ap (λ z. z ++ x) (sym s) ∙ h ∙ ap (λ z. z ++ y) r in
    let same : a ≡ b = sym (known a x) ∙ ap guess both ∙ known b y in
    record { value = same; text = s ∙ ap word same ∙ sym r; rest = drop_front (word b) x y (ap (λ k. word k ++ x) (sym same) ∙ both) }

pub unambiguous-exactly : (word : List ℕ) → NoDigit word → Unambiguous (Exactly word)
unambiguous-exactly word clear = record {
  one = λ a b t u x y s r h d e. record { value = refl; text = s ∙ sym r; rest = drop_front word x y (ap (λ z. z ++ x) (sym s) ∙ h ∙ ap (λ z. z ++ y) r) };
  clear = λ a t s. subst NoDigit (sym s) clear;
  some = record { value = tt; text = word; spelled = refl };
}
