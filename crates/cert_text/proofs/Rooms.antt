-- Linear sums: each unknown leaves room for those behind it.
use Rattle.std.proofs.Common.{◌≡◌, ℕ, zero, suc, ◌+◌, ◌-◌, ◌^◌, ◌<◌, ◌≤◌, List, [], ◌∷◌, ◌++◌, ℤ, refl, sym, ap, subst, ◌∙◌, append_assoc, append-nil, arith}
use Rattle.text_pieces.specs.Decimals.{decimal}
use Rattle.text_pieces.specs.Languages.{NoDigit, Reads, Fails, Cat, Blank}
use Rattle.text_pieces.specs.Numbers.{Number, Within, Any, Signed, Signed128}
use Rattle.cert_text.specs.Sums.{Term, Terms, RoomTerms, SpellsLin, lin_of}
use Rattle.text_pieces.proofs.Joining.{clear-blank, has_one-blank, one_front-blank, cat_fails_first, one_front-cat, same_fails, same_reads}
use Rattle.text_pieces.proofs.Lifting.{Lift, lift-then, lift-cat, lift-image, clear-cat, one_front-image}
use Rattle.text_pieces.proofs.Reaching.{one_front-number}
use Rattle.text_pieces.proofs.Negatives.{one_front-signed, has_one-signed}
use Rattle.text_pieces.specs.Unambiguous.{HasOne, OneFront, StartsClear}

-- ---- one term
abbrev Unknown : ℕ → ℕ → ℕ → List ℕ → Type 0
Unknown low high = Blank (Number (Within low high))

abbrev Coefficient : ℕ → ℤ → List ℕ → Type 0
Coefficient x = Blank (Signed (Signed128 1))

one_front-coefficient : (x : ℕ) → OneFront (Coefficient x)
one_front-coefficient x = one_front-blank (Signed (Signed128 1)) (one_front-signed 1)

clear-coefficient : (x : ℕ) → StartsClear (Coefficient x)
clear-coefficient x = clear-blank (Signed (Signed128 1))

one_front-unknown : (low high : ℕ) → OneFront (Unknown low high)
one_front-unknown low high = one_front-blank (Number (Within low high)) (one_front-number (Within low high))

pub one_front-term : (low high : ℕ) → OneFront (Term low high)
one_front-term low high = one_front-cat (Unknown low high) Coefficient (one_front-unknown low high) one_front-coefficient clear-coefficient

pub clear-term : (low high : ℕ) → StartsClear (Term low high)
clear-term low high = clear-cat (Unknown low high) Coefficient (clear-blank (Number (Within low high))) clear-coefficient

-- a text with the least unknown
pub record OneTerm (low high : ℕ) : Type 0 where
  pub coefficient : ℤ
  pub text : List ℕ
  pub spelled : Term low high (low, coefficient) text

pub one_term : (low high : ℕ) → low ≤ high → OneTerm low high
one_term low high h =
    let k = has_one-blank (Signed (Signed128 1)) (has_one-signed 1 (omega arith)) in
    record {
      coefficient = k.value;
      text = (32 ∷ decimal low) ++ k.text;
      spelled = record {
        first = 32 ∷ decimal low;
        second = k.text;
        first_spelled = record { behind = decimal low; spelled = record { is_in = record { from_low = omega arith; to_high = h }; digits = refl }; joined = refl };
        second_spelled = k.spelled;
        joined = refl;
      };
    }

pub term_fails_first : (low high : ℕ) (bytes : List ℕ) (left : ℕ) → Fails (Unknown low high) bytes left → Fails (Term low high) bytes left
term_fails_first low high bytes left f =
    cat_fails_first (Unknown low high) Coefficient bytes left (λ a t s. has_one-blank (Signed (Signed128 1)) (has_one-signed 1 (omega arith))) clear-coefficient f

pub term_second : (low high : ℕ) (bytes middle : List ℕ) (x : ℕ) → Reads (Unknown low high) bytes x middle → Lift (Term low high) bytes (Coefficient x) middle (λ k. (x, k))
term_second low high bytes middle x r = lift-cat (Unknown low high) Coefficient bytes middle x (one_front-unknown low high) clear-coefficient r

-- ---- some terms
abbrev Step : ℕ → ℕ → (ℕ × ℤ) × List (ℕ × ℤ) → List ℕ → Type 0
Step n low = Cat (Term low (2 ^ 32 - suc n)) (λ first. RoomTerms n (suc (first.0)))

record Split (n low : ℕ) (terms : List (ℕ × ℤ)) (t : List ℕ) : Type 0 where
  first : ℕ × ℤ
  more : List (ℕ × ℤ)
  is : terms ≡ first ∷ more
  spelled : Step n low (first, more) t

split_terms : (n low : ℕ) (terms : List (ℕ × ℤ)) (t : List ℕ) → RoomTerms (suc n) low terms t → Split n low terms t
split_terms n low [] t s = absurd s
split_terms n low (x ∷ xs) t s = record { first = x; more = xs; is = refl; spelled = s }

one_front-no_terms : (low : ℕ) → OneFront (RoomTerms 0 low)
one_front-no_terms low [] [] t u x y s r h d e = record { value = refl; text = s ∙ sym r; rest = sym (ap (λ z. z ++ x) s) ∙ h ∙ ap (λ z. z ++ y) r }
one_front-no_terms low [] (b ∷ bs) t u x y s r h d e = absurd r
one_front-no_terms low (a ∷ more) b t u x y s r h d e = absurd s

clear-no_terms : (low : ℕ) → StartsClear (RoomTerms 0 low)
clear-no_terms low [] t s = subst NoDigit (sym s) tt
clear-no_terms low (x ∷ xs) t s = absurd s

pub clear-terms : (n low : ℕ) → StartsClear (RoomTerms n low)
clear-terms zero low terms t s = clear-no_terms low terms t s
clear-terms (suc n) low terms t s =
    let p = split_terms n low terms t s in
    clear-cat (Term low (2 ^ 32 - suc n)) (λ first. RoomTerms n (suc (first.0))) (clear-term low (2 ^ 32 - suc n)) (λ first. clear-terms n (suc (first.0))) (p.first, p.more) t p.spelled

pub one_front-terms : (n low : ℕ) → OneFront (RoomTerms n low)
one_front-terms zero low a b t u x y s r h d e = one_front-no_terms low a b t u x y s r h d e
one_front-terms (suc n) low a b t u x y s r h d e =
    let p = split_terms n low a t s in
    let q = split_terms n low b u r in
    let same = one_front-cat (Term low (2 ^ 32 - suc n)) (λ first. RoomTerms n (suc (first.0))) (one_front-term low (2 ^ 32 - suc n)) (λ first. one_front-terms n (suc (first.0)))
    (λ first. clear-terms n (suc (first.0))) (p.first, p.more) (q.first, q.more) t u x y p.spelled q.spelled h d e in
    record { value = p.is ∙ ap (λ (z : (ℕ × ℤ) × List (ℕ × ℤ)). z.0 ∷ z.1) same.value ∙ sym q.is; text = same.text; rest = same.rest }

pub has_one-terms : (n low : ℕ) → low + n ≤ 2 ^ 32 → HasOne (RoomTerms n low)
has_one-terms zero low h = record { value = []; text = []; spelled = refl }
has_one-terms (suc n) low h =
    let first = one_term low (2 ^ 32 - suc n) (omega arith) in
    let more = has_one-terms n (suc low) (omega arith) in
    record {
      value = (low, first.coefficient) ∷ more.value;
      text = first.text ++ more.text;
      spelled = record { first = first.text; second = more.text; first_spelled = first.spelled; second_spelled = more.spelled; joined = refl };
    }

terms_step : (n low : ℕ) (bytes : List ℕ) → Lift (RoomTerms (suc n) low) bytes (Step n low) bytes (λ p. p.0 ∷ p.1)
terms_step n low bytes = record {
  fails = λ left f. same_fails (Step n low) (RoomTerms (suc n) low) (λ p t s. (p.0 ∷ p.1, s)) (λ xs t s. let p = split_terms n low xs t s in ((p.first, p.more), p.spelled)) bytes left f;
  reads = λ p rest r. same_reads (Step n low) (RoomTerms (suc n) low) p (p.0 ∷ p.1) (λ t s. s) bytes rest r;
}

pub terms_first_fails : (n low : ℕ) (bytes : List ℕ) (left : ℕ) → low + suc n ≤ 2 ^ 32 → Fails (Term low (2 ^ 32 - suc n)) bytes left → Fails (RoomTerms (suc n) low) bytes left
terms_first_fails n low bytes left room f =
    (terms_step n low bytes).fails left (cat_fails_first (Term low (2 ^ 32 - suc n)) (λ first. RoomTerms n (suc (first.0))) bytes left
    (λ a t s. let m = s.first_spelled.spelled.is_in.to_high in has_one-terms n (suc (a.0)) (omega (arith, m))) (λ first. clear-terms n (suc (first.0))) f)

pub terms_first_reads : (n low : ℕ) (bytes middle : List ℕ) (a : ℕ × ℤ) → Reads (Term low (2 ^ 32 - suc n)) bytes a middle
    → Lift (RoomTerms (suc n) low) bytes (RoomTerms n (suc (a.0))) middle (λ more. a ∷ more)
terms_first_reads n low bytes middle a r =
    lift-then (terms_step n low bytes) (lift-cat (Term low (2 ^ 32 - suc n)) (λ first. RoomTerms n (suc (first.0))) bytes middle a (one_front-term low (2 ^ 32 - suc n)) (λ first. clear-terms n (suc (first.0))) r)

-- ---- a loop that has read some terms
pub record TermsSo (count : ℕ) (bytes : List ℕ) (terms : List (ℕ × ℤ)) (low left : ℕ) (rest : List ℕ) : Type 0 where
  pub lift : Lift (RoomTerms count 0) bytes (RoomTerms left low) rest (λ more. terms ++ more)
  pub room : low + left ≤ 2 ^ 32
  pub ends : NoDigit rest

pub terms_none : (count : ℕ) (bytes : List ℕ) → count ≤ 2 ^ 32 → NoDigit bytes → TermsSo count bytes [] 0 count bytes
terms_none count bytes h d = record { lift = record { fails = λ left f. f; reads = λ b rest r. r }; room = omega arith; ends = d }

pub terms_more : (count : ℕ) (bytes : List ℕ) (terms : List (ℕ × ℤ)) (low left : ℕ) (rest last : List ℕ) (a : ℕ × ℤ) → 0 < left → TermsSo count bytes terms low left rest
    → Reads (Term low (2 ^ 32 - left)) rest a last → TermsSo count bytes (terms ++ a ∷ []) (a.0 + 1) (left - 1) last
terms_more count bytes terms low zero rest last a h s r = absurd (omega arith)
terms_more count bytes terms low (suc n) rest last a h s r =
    let whole = lift-then s.lift (terms_first_reads n low rest last a r) in
    let x = a.0 in
    let next : suc x ≡ x + 1 = omega arith in
    let less : n ≡ suc n - 1 = omega arith in
    record {
      lift = subst (λ y. Lift (RoomTerms count 0) bytes (RoomTerms (suc n - 1) y) last (λ more. (terms ++ a ∷ []) ++ more)) next
          (subst (λ m. Lift (RoomTerms count 0) bytes (RoomTerms m (suc x)) last (λ more. (terms ++ a ∷ []) ++ more)) less
          (record {
            fails = whole.fails;
            reads = λ b end g. subst (λ v. Reads (RoomTerms count 0) bytes v end) (sym (append_assoc terms (a ∷ []) b)) (whole.reads b end g);
          }));
      room = omega (arith, s.room, r.spelled.first_spelled.spelled.is_in.to_high);
      ends = r.ends;
    }

pub terms_fail : (count : ℕ) (bytes : List ℕ) (terms : List (ℕ × ℤ)) (low left : ℕ) (rest : List ℕ) (at : ℕ) → 0 < left → TermsSo count bytes terms low left rest
    → Fails (Term low (2 ^ 32 - left)) rest at → Fails (RoomTerms count 0) bytes at
terms_fail count bytes terms low zero rest at h s f = absurd (omega arith)
terms_fail count bytes terms low (suc n) rest at h s f = s.lift.fails at (terms_first_fails n low rest at s.room f)

pub terms_all : (count : ℕ) (bytes : List ℕ) (terms : List (ℕ × ℤ)) (low left : ℕ) (rest : List ℕ) → left ≤ 0 → TermsSo count bytes terms low left rest → Reads (RoomTerms count 0) bytes terms rest
terms_all count bytes terms low (suc n) rest h s = absurd (omega arith)
terms_all count bytes terms low zero rest h s =
    subst (λ v. Reads (RoomTerms count 0) bytes v rest) (append-nil terms) (s.lift.reads [] rest (record { text = []; spelled = refl; whole = refl; ends = s.ends }))

-- ---- sums
abbrev Constant : ℤ → List ℕ → Type 0
Constant = Blank (Signed (Signed128 0))

abbrev Ending : ℕ → List (ℕ × ℤ) × ℤ → List ℕ → Type 0
Ending n = Cat (RoomTerms n 0) (λ terms. Constant)

abbrev Parts : ℕ × (List (ℕ × ℤ) × ℤ) → List ℕ → Type 0
Parts = Cat (Number (Within 0 (2 ^ 32))) Ending

abbrev Written : ℕ × (List (ℕ × ℤ) × ℤ) → List ℕ → Type 0
Written = Cat (Number Any) (λ n. Cat (Terms n 0) (λ terms. Constant))

terms_forth : (n low : ℕ) (ts : List (ℕ × ℤ)) (t : List ℕ) → RoomTerms n low ts t → Terms n low ts t
terms_forth zero low [] t s = s
terms_forth zero low (x ∷ xs) t s = absurd s
terms_forth (suc n) low [] t s = absurd s
terms_forth (suc n) low (x ∷ xs) t s =
    let f = s.first_spelled in
    let u = f.first_spelled in
    record {
      first = s.first;
      second = s.second;
      first_spelled = record {
        first = f.first;
        second = f.second;
        first_spelled = record { behind = u.behind; spelled = record { is_in = record { from_low = u.spelled.is_in.from_low; to_high = omega (arith, u.spelled.is_in.to_high) }; digits = u.spelled.digits }; joined = u.joined };
        second_spelled = f.second_spelled;
        joined = f.joined;
      };
      second_spelled = terms_forth n (suc (x.0)) xs s.second s.second_spelled;
      joined = s.joined;
    }

-- the first unknown leaves room
record Roomy (n low : ℕ) (ts : List (ℕ × ℤ)) (t : List ℕ) : Type 0 where
  room : 0 < n → low + n ≤ 2 ^ 32
  spelled : RoomTerms n low ts t

terms_back : (n low : ℕ) (ts : List (ℕ × ℤ)) (t : List ℕ) → Terms n low ts t → Roomy n low ts t
terms_back zero low [] t s = record { room = λ h. absurd (omega arith); spelled = s }
terms_back zero low (x ∷ xs) t s = absurd s
terms_back (suc n) low [] t s = absurd s
terms_back (suc n) low (x ∷ xs) t s =
    let f = s.first_spelled in
    let u = f.first_spelled in
    let more = terms_back n (suc (x.0)) xs s.second s.second_spelled in
    let fits : x.0 ≤ 2 ^ 32 - suc n = fit n (x.0) more.room u.spelled.is_in.to_high in
    record {
      room = λ h. omega (arith, u.spelled.is_in.from_low, room_fit n (x.0) more.room u.spelled.is_in.to_high);
      spelled = record {
        first = s.first;
        second = s.second;
        first_spelled = record {
          first = f.first;
          second = f.second;
          first_spelled = record { behind = u.behind; spelled = record { is_in = record { from_low = u.spelled.is_in.from_low; to_high = fits }; digits = u.spelled.digits }; joined = u.joined };
          second_spelled = f.second_spelled;
          joined = f.joined;
        };
        second_spelled = more.spelled;
        joined = s.joined;
      };
    }
  where
    room_fit : (n x : ℕ) → (0 < n → suc x + n ≤ 2 ^ 32) → x ≤ 2 ^ 32 - 1 → x + suc n ≤ 2 ^ 32
    room_fit zero x r h = omega arith
    room_fit (suc n) x r h = omega (arith, r (omega arith))

    fit : (n x : ℕ) → (0 < n → suc x + n ≤ 2 ^ 32) → x ≤ 2 ^ 32 - 1 → x ≤ 2 ^ 32 - suc n
    fit n x r h = omega (arith, room_fit n x r h)

parts_forth : (p : ℕ × (List (ℕ × ℤ) × ℤ)) (t : List ℕ) → Parts p t → Written p t
parts_forth p t s =
    let e = s.second_spelled in
    record {
      first = s.first;
      second = s.second;
      first_spelled = record { is_in = tt; digits = s.first_spelled.digits };
      second_spelled = record { first = e.first; second = e.second; first_spelled = terms_forth p.0 0 (p.1.0) e.first e.first_spelled; second_spelled = e.second_spelled; joined = e.joined };
      joined = s.joined;
    }

parts_back : (p : ℕ × (List (ℕ × ℤ) × ℤ)) (t : List ℕ) → Written p t → Parts p t
parts_back p t s =
    let e = s.second_spelled in
    let r = terms_back p.0 0 (p.1.0) e.first e.first_spelled in
    record {
      first = s.first;
      second = s.second;
      first_spelled = record { is_in = record { from_low = omega arith; to_high = few p.0 r.room }; digits = s.first_spelled.digits };
      second_spelled = record { first = e.first; second = e.second; first_spelled = r.spelled; second_spelled = e.second_spelled; joined = e.joined };
      joined = s.joined;
    }
  where
    few : (n : ℕ) → (0 < n → 0 + n ≤ 2 ^ 32) → n ≤ 2 ^ 32
    few zero r = omega arith
    few (suc n) r = omega (arith, r (omega arith))

has_one-constant : HasOne Constant
has_one-constant = has_one-blank (Signed (Signed128 0)) (has_one-signed 0 (omega arith))

has_one-ending : (n : ℕ) → n ≤ 2 ^ 32 → HasOne (Ending n)
has_one-ending n h =
    let a = has_one-terms n 0 (omega arith) in
    let b = has_one-constant in
    record { value = (a.value, b.value); text = a.text ++ b.text; spelled = record { first = a.text; second = b.text; first_spelled = a.spelled; second_spelled = b.spelled; joined = refl } }

clear-ending : (n : ℕ) → StartsClear (Ending n)
clear-ending n = clear-cat (RoomTerms n 0) (λ terms. Constant) (clear-terms n 0) (λ terms. clear-blank (Signed (Signed128 0)))

one_front-ending : (n : ℕ) → OneFront (Ending n)
one_front-ending n =
    one_front-cat (RoomTerms n 0) (λ terms. Constant) (one_front-terms n 0) (λ terms. one_front-blank (Signed (Signed128 0)) (one_front-signed 0)) (λ terms. clear-blank (Signed (Signed128 0)))

one_front-parts : OneFront Parts
one_front-parts = one_front-cat (Number (Within 0 (2 ^ 32))) Ending (one_front-number (Within 0 (2 ^ 32))) one_front-ending clear-ending

one_front-written : OneFront Written
one_front-written a b t u x y s r h d e = one_front-parts a b t u x y (parts_back a t s) (parts_back b u r) h d e

pub one_front-lin : OneFront SpellsLin
one_front-lin = one_front-image lin_of Written one_front-written

pub has_one-lin : HasOne SpellsLin
has_one-lin =
    let e = has_one-ending 0 (omega arith) in
    record {
      value = lin_of (0, e.value);
      text = decimal 0 ++ e.text;
      spelled = record {
        from = (0, e.value);
        is = refl;
        spelled = parts_forth (0, e.value) (decimal 0 ++ e.text) (record {
          first = decimal 0;
          second = e.text;
          first_spelled = record { is_in = record { from_low = omega arith; to_high = omega arith }; digits = refl };
          second_spelled = e.spelled;
          joined = refl;
        });
      };
    }

lin_parts : (bytes : List ℕ) → Lift SpellsLin bytes Parts bytes lin_of
lin_parts bytes = lift-then (lift-image lin_of Written bytes) (record {
  fails = λ left f. same_fails Parts Written (λ p t s. (p, parts_forth p t s)) (λ p t s. (p, parts_back p t s)) bytes left f;
  reads = λ p rest r. same_reads Parts Written p p (parts_forth p) bytes rest r;
})

pub lin_fails : (bytes : List ℕ) (left : ℕ) → Fails (Number (Within 0 (2 ^ 32))) bytes left → Fails SpellsLin bytes left
lin_fails bytes left f =
    (lin_parts bytes).fails left (cat_fails_first (Number (Within 0 (2 ^ 32))) Ending bytes left (λ n t s. has_one-ending n s.is_in.to_high) clear-ending f)

pub lin_ending : (bytes middle : List ℕ) (n : ℕ) → Reads (Number (Within 0 (2 ^ 32))) bytes n middle → Lift SpellsLin bytes (Ending n) middle (λ p. lin_of (n, p))
lin_ending bytes middle n r = lift-then (lin_parts bytes) (lift-cat (Number (Within 0 (2 ^ 32))) Ending bytes middle n (one_front-number (Within 0 (2 ^ 32))) clear-ending r)

pub lin_terms_fail : (bytes middle : List ℕ) (n : ℕ) (left : ℕ) → Reads (Number (Within 0 (2 ^ 32))) bytes n middle → Fails (RoomTerms n 0) middle left → Fails SpellsLin bytes left
lin_terms_fail bytes middle n left r f =
    (lin_ending bytes middle n r).fails left (cat_fails_first (RoomTerms n 0) (λ terms. Constant) middle left (λ a t s. has_one-constant) (λ a. clear-blank (Signed (Signed128 0))) f)

pub lin_constant : (bytes middle last : List ℕ) (n : ℕ) (terms : List (ℕ × ℤ)) → Reads (Number (Within 0 (2 ^ 32))) bytes n middle → Reads (RoomTerms n 0) middle terms last
    → Lift SpellsLin bytes Constant last (λ k. lin_of (n, (terms, k)))
lin_constant bytes middle last n terms r s =
    lift-then (lin_ending bytes middle n r) (lift-cat (RoomTerms n 0) (λ terms. Constant) middle last terms (one_front-terms n 0) (λ terms. clear-blank (Signed (Signed128 0))) s)
