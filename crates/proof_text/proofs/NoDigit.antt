-- Texts that no digit may follow.
use Rattle.std.proofs.Common.{◌≡◌, ℕ, Bool, true, false, List, [], ◌∷◌, ◌++◌, length, refl, sym, ap, subst, ◌∙◌}
use Rattle.text_pieces.specs.Decimals.{is_digit}
use Rattle.text_pieces.specs.Languages.{NoDigit, Reads, Fails, Exactly, ReadsTo}
use Rattle.text_pieces.specs.Unambiguous.{OneFrontTo}
use Rattle.text_pieces.specs.Ending.{Followed, no_byte}
use Rattle.text_pieces.proofs.Ends.{within_none, followed_fails, read_on}

-- a digit follows
followed : (rest : List ℕ) (left : ℕ) → Fails (Exactly []) rest left → Followed is_digit rest left
followed [] left f = absurd (f.none tt [] (record { text = []; spelled = refl; whole = refl; ends = tt }))
followed (b ∷ bs) left f = by (is_digit b) refl f.front f.rest f.whole f.left_is f.goes_on.text f.goes_on.tail f.goes_on.spelled f.goes_on.begins
  where
    by : (t : Bool) → is_digit b ≡ t → (front rest : List ℕ) → b ∷ bs ≡ front ++ rest → length rest ≡ left → (text tail : List ℕ) → text ≡ [] → text ≡ front ++ tail → Followed is_digit (b ∷ bs) left
    by false e front rest w n text tail s g = absurd (f.none tt (b ∷ bs) (record { text = []; spelled = refl; whole = refl; ends = e }))
    by true e [] rest w n text tail s g = record { byte = b; behind = bs; is = refl; follows = e; left_is = ap length w ∙ n }
    by true e (c ∷ front) rest w n text tail s g = absurd (no_more (sym s ∙ g))
      where
        no_more : {c : ℕ} {cs : List ℕ} → ◌≡◌ {A = List ℕ} [] (c ∷ cs) → ⊥
        no_more h = cc

pub digit_fails : {A : Type 0} {L : A → List ℕ → Type 0} {text rest : List ℕ} {a : A} {left : ℕ} → OneFrontTo no_byte L → ReadsTo no_byte L text a rest → Fails (Exactly []) rest left → Fails L text left
digit_fails {rest = rest} {left = left} one r f = followed_fails (within_none is_digit) one r (followed rest left f)

pub no_digit_reads : {A : Type 0} {L : A → List ℕ → Type 0} {text rest last : List ℕ} {a : A} → ReadsTo no_byte L text a rest → Reads (Exactly []) rest tt last → Reads L text a last
no_digit_reads {A} {L} {text} {rest} {last} {a} r e =
    let same : rest ≡ last = e.whole ∙ ap (λ z. z ++ last) e.spelled in
    subst (λ z. Reads L text a z) same (read_on r (subst NoDigit (sym same) e.ends))
