-- White space and comments are passed over one by one.
use Rattle.std.proofs.Common.{◌≡◌, ℕ, zero, suc, ◌<◌, ◌≤◌, List, [], ◌∷◌, length, drop, Option, Some, None, refl, sym, ap, ◌∙◌, subst, ◌==◌, arith, length-drop}
use Rattle.std.proofs.lemmas.Bool.{cond_both}
use Rattle.std.proofs.lemmas.Option.{none-some}
use Rattle.tff_lexer.specs.Forms.{begins_with}
use Rattle.tff_lexer.specs.Blanks.{is_white_space, after_comment_line, after_comment_block, after_blank, skip_on, skip_times, skip}

after_comment_line-length : (bs : List ℕ) → length (after_comment_line bs) ≤ length bs
after_comment_line-length [] = omega arith
after_comment_line-length (b ∷ bs) = let h = after_comment_line-length bs in cond_both (b == 10) bs (after_comment_line bs) (λ (r : List ℕ). length r ≤ suc (length bs)) (λ e. omega arith) (λ e. omega arith)

-- what is left is at most this long
abbrev AtMost : ℕ → Option (List ℕ) → Type 0
AtMost n None = Unit {0}
AtMost n (Some rest) = length rest ≤ n

at_most_more : (n : ℕ) (o : Option (List ℕ)) → AtMost n o → AtMost (suc n) o
at_most_more n None h = tt
at_most_more n (Some rest) h = omega arith

drop_one : (bs : List ℕ) → length (drop 1 bs) ≤ length bs
drop_one bs = omega (arith, length-drop 1 bs)

at_most_less : (m n : ℕ) (o : Option (List ℕ)) → m ≤ n → AtMost m o → AtMost n o
at_most_less m n None le h = tt
at_most_less m n (Some rest) le h = omega arith

after_comment_block-length : (bs : List ℕ) → AtMost (length bs) (after_comment_block bs)
after_comment_block-length [] = tt
after_comment_block-length (b ∷ bs) =
    cond_both (begins_with "*/" (b ∷ bs)) (Some (drop 1 bs)) (after_comment_block bs) (AtMost (suc (length bs)))
    (λ e. let h = drop_one bs in omega arith)
    (λ e. at_most_more (length bs) (after_comment_block bs) (after_comment_block-length bs))

after_blank-length : (b : ℕ) (bs : List ℕ) → AtMost (length bs) (after_blank (b ∷ bs))
after_blank-length b bs =
    let P : Option (List ℕ) → Type 0 = AtMost (length bs) in
    cond_both (is_white_space b) (Some bs) _ P (λ e. omega arith)
    (λ e. cond_both (b == 37) (Some (after_comment_line bs)) _ P (λ f. after_comment_line-length bs)
    (λ f. cond_both (begins_with "/*" (b ∷ bs)) (after_comment_block (drop 1 bs)) None P (λ g. at_most_less (length (drop 1 bs)) (length bs) (after_comment_block (drop 1 bs)) (drop_one bs) (after_comment_block-length (drop 1 bs))) (λ g. tt)))

pub shorter : (bs rest : List ℕ) → after_blank bs ≡ Some rest → length rest < length bs
shorter [] rest e = absurd (none-some rest e)
shorter (b ∷ bs) rest e = let h : AtMost (length bs) (Some rest) = subst (AtMost (length bs)) e (after_blank-length b bs) in omega arith

skip_times-nil : (n : ℕ) → skip_times n [] ≡ []
skip_times-nil zero = refl
skip_times-nil (suc n) = refl

skip_on-same : (f g : List ℕ → List ℕ) (n : ℕ) (bs : List ℕ) (o : Option (List ℕ)) → AtMost n o → ((rest : List ℕ) → length rest ≤ n → f rest ≡ g rest) → skip_on f bs o ≡ skip_on g bs o
skip_on-same f g n bs None h same = refl
skip_on-same f g n bs (Some rest) h same = same rest h

-- more turns than bytes change nothing
skip_times-enough : (m n : ℕ) (bs : List ℕ) → length bs ≤ m → length bs ≤ n → skip_times m bs ≡ skip_times n bs
skip_times-enough m n [] p q = skip_times-nil m ∙ sym (skip_times-nil n)
skip_times-enough zero n (b ∷ bs) p q = absurd (omega arith)
skip_times-enough (suc m) zero (b ∷ bs) p q = absurd (omega arith)
skip_times-enough (suc m) (suc n) (b ∷ bs) p q =
    skip_on-same (skip_times m) (skip_times n) (length bs) (b ∷ bs) (after_blank (b ∷ bs)) (after_blank-length b bs) (λ rest h. skip_times-enough m n rest (omega arith) (omega arith))

pub skip_step : (bs rest : List ℕ) → after_blank bs ≡ Some rest → skip rest ≡ skip bs
skip_step [] rest e = absurd (none-some rest e)
skip_step (b ∷ bs) rest e =
    let less = shorter (b ∷ bs) rest e in
    skip_times-enough (length rest) (length bs) rest (omega arith) (omega (arith, less)) ∙ sym (ap (skip_on (skip_times (length bs)) (b ∷ bs)) e)

pub skip_end : (bs : List ℕ) → after_blank bs ≡ None → skip bs ≡ bs
skip_end [] e = refl
skip_end (b ∷ bs) e = ap (skip_on (skip_times (length bs)) (b ∷ bs)) e
