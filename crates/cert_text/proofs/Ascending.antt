-- The terms of a sum, put one behind the other.
use Rattle.std.proofs.Common.{◌≡◌, ℕ, zero, suc, ◌-◌, ◌^◌, ◌≤◌, true, ℤ, pos, negsuc, List, [], ◌∷◌, ◌++◌, length, drop, refl, sym, ap, subst, ◌∙◌, append_assoc, append-nil, arith}
use Rattle.std.specs.Prelude.{◌&&◌, not}
use Rattle.std.proofs.lemmas.Bool.{and_parts, ltb-true, false≢true}
use Rattle.lin_base.specs.declared.sums.Lin.{Lin}
use Rattle.lin_base.specs.Whole.{is_zero}
use Rattle.lin_base.specs.Sum.{is_reduced}
use Rattle.lin_base.specs.Fact.{is_ascending}
use Rattle.text_pieces.specs.Languages.{Blank}
use Rattle.text_pieces.specs.Numbers.{Number, Any, Signed128}
use Rattle.cert_text.specs.Sums.{Term, Terms}
use Rattle.cert_text.specs.Grammar.{Whole, Sum, Multiple}
use Rattle.text_pieces.specs.Printing.{Adds}

-- the unknowns ascend from low on, and no coefficient is 0
abbrev pub AscendsFrom : ℕ → List (ℕ × ℤ) → Type 0
AscendsFrom low [] = Unit {0}
AscendsFrom low (e ∷ ts) = (low ≤ e.0) × ((e.1 ≡ pos 0 → ⊥) × AscendsFrom (suc (e.0)) ts)

not_zero : (k : ℤ) → not (is_zero k) ≡ true → k ≡ pos 0 → ⊥
not_zero k h e = false≢true (sym (ap (λ z. not (is_zero z)) e) ∙ h)

ascends_from : (low : ℕ) (e : ℕ × ℤ) (ts : List (ℕ × ℤ)) → low ≤ e.0 → is_ascending (e ∷ ts) ≡ true → is_reduced (e ∷ ts) ≡ true → AscendsFrom low (e ∷ ts)
ascends_from low e [] l a r = (l, (not_zero (e.1) (and_parts _ _ r).0, tt))
ascends_from low e (f ∷ ts) l a r =
    let both = and_parts _ _ a in
    let less = ltb-true (e.0) (f.0) both.0 in
    let here = and_parts _ _ r in
    (l, (not_zero (e.1) here.0, ascends_from (suc (e.0)) f ts (omega (arith, less)) both.1 here.1))

pub ascends : (ts : List (ℕ × ℤ)) → is_ascending ts && is_reduced ts ≡ true → AscendsFrom 0 ts
ascends [] h = tt
ascends (e ∷ ts) h = let both = and_parts _ _ h in ascends_from 0 e ts (omega arith) both.0 both.1

pub whole_term : (z : ℤ) → (z ≡ pos 0 → ⊥) → Signed128 0 z → Signed128 1 z
whole_term (pos zero) n h = absurd (n refl)
whole_term (pos (suc k)) n h = record { from_low = omega arith; to_high = h.to_high }
whole_term (negsuc k) n h = h

multiple_term : (low : ℕ) (e : ℕ × ℤ) (u : List ℕ) → low ≤ e.0 → (e.1 ≡ pos 0 → ⊥) → Multiple e u → Term low (2 ^ 32 - 1) e u
multiple_term low e u l n s =
    let i = s.first_spelled in
    let k = s.second_spelled in
    record {
      first = s.first;
      second = s.second;
      first_spelled = record { behind = i.behind; spelled = record { is_in = record { from_low = l; to_high = i.spelled.is_in.to_high }; digits = i.spelled.digits }; joined = i.joined };
      second_spelled = record { behind = k.behind; spelled = record { is_in = whole_term (e.1) n k.spelled.is_in; digits = k.spelled.digits }; joined = k.joined };
      joined = s.joined;
    }

-- the terms in front were put, and each text of the others completes the text
pub record TermsLeft (all rest : List (ℕ × ℤ)) (old new : List ℕ) : Type 0 where
  pub text : List ℕ
  pub low : ℕ
  pub is : new ≡ old ++ text
  pub complete : (u : List ℕ) → Terms (length rest) low rest u → Terms (length all) 0 all (text ++ u)
  pub ascending : AscendsFrom low rest

pub terms_left : (all : List (ℕ × ℤ)) (old : List ℕ) → is_ascending all && is_reduced all ≡ true → TermsLeft all all old old
terms_left all old h = record { text = []; low = 0; is = sym (append-nil old); complete = λ u s. s; ascending = ascends all h }

pub terms_put : (all rest more : List (ℕ × ℤ)) (e : ℕ × ℤ) (old mid new : List ℕ) → rest ≡ e ∷ more → TermsLeft all rest old mid → Adds Multiple e mid new → TermsLeft all more old new
terms_put all rest more e old mid new split t a =
    let asc : AscendsFrom t.low (e ∷ more) = subst (AscendsFrom t.low) split t.ascending in
    let complete : (u : List ℕ) → Terms (suc (length more)) t.low (e ∷ more) u → Terms (length all) 0 all (t.text ++ u) =
    subst (λ xs. (u : List ℕ) → Terms (length xs) t.low xs u → Terms (length all) 0 all (t.text ++ u)) split t.complete in
    record {
      text = t.text ++ a.text;
      low = suc (e.0);
      is = a.is ∙ ap (λ z. z ++ a.text) t.is ∙ append_assoc old t.text a.text;
      complete = λ u s. subst (λ z. Terms (length all) 0 all z) (sym (append_assoc t.text a.text u))
          (complete (a.text ++ u) (record { first = a.text; second = u; first_spelled = multiple_term t.low e a.text asc.0 asc.1.0 a.spelled; second_spelled = s; joined = refl }));
      ascending = asc.1.1;
    }

pub terms_done : (all rest : List (ℕ × ℤ)) (old new : List ℕ) → rest ≡ [] → TermsLeft all rest old new → Adds (Terms (length all) 0) all old new
terms_done all rest old new none t =
    let last : Terms (length rest) t.low rest [] = subst (λ xs. Terms (length xs) t.low xs []) (sym none) refl in
    record { text = t.text ++ []; spelled = t.complete [] last; is = t.is ∙ ap (λ z. old ++ z) (sym (append-nil t.text)) }

pub drop_whole : (n : ℕ) (xs : List (ℕ × ℤ)) → length xs ≤ n → drop n xs ≡ []
drop_whole zero [] h = refl
drop_whole (suc n) [] h = refl
drop_whole zero (x ∷ xs) h = absurd (omega arith)
drop_whole (suc n) (x ∷ xs) h = drop_whole n xs (omega arith)

-- the count, the terms and the constant
pub adds-lin : (t : Lin) (x y z w : List ℕ) → Adds (Blank (Number Any)) (length t.coefs) x y → Adds (Terms (length t.coefs) 0) t.coefs y z → Adds Whole t.constant z w → Adds Sum t x w
adds-lin t x y z w c ts k =
    let n = c.spelled in
    record {
      text = c.text ++ (ts.text ++ k.text);
      spelled = record {
        behind = n.behind ++ (ts.text ++ k.text);
        spelled = record {
          from = (length t.coefs, (t.coefs, t.constant));
          is = refl;
          spelled = record {
            first = n.behind;
            second = ts.text ++ k.text;
            first_spelled = n.spelled;
            second_spelled = record { first = ts.text; second = k.text; first_spelled = ts.spelled; second_spelled = k.spelled; joined = refl };
            joined = refl;
          };
        };
        joined = ap (λ s. s ++ (ts.text ++ k.text)) n.joined;
      };
      is = k.is ∙ ap (λ s. s ++ k.text) (ts.is ∙ ap (λ s. s ++ ts.text) c.is ∙ append_assoc x c.text ts.text) ∙ append_assoc x (c.text ++ ts.text) k.text ∙ ap (λ s. x ++ s) (append_assoc c.text ts.text k.text);
    }
