-- Lists with a byte between each two members and another byte behind the last.
use Rattle.std.proofs.Common.{◌≡◌, ℕ, false, List, [], ◌∷◌, ◌++◌, refl, sym, ap, subst, ◌∙◌, append-nil, append_assoc}
use Rattle.text_pieces.specs.Decimals.{is_digit}
use Rattle.text_pieces.specs.Languages.{NoDigit, GoesOn, Reads, StopsAt, Fails, Cat, Exactly}
use Rattle.text_pieces.specs.Separated.{Tail, Separated}
use Rattle.text_pieces.specs.Unambiguous.{OneFront, StartsClear, Unambiguous}
use Rattle.text_pieces.proofs.Joining.{head_same, tail_same, no_digit-append}
use Rattle.text_pieces.proofs.Lifting.{Lift, lift-then, lift-image, first_fails, first_reads}

module _ {A : Type 0} (L : A → List ℕ → Type 0) (one : OneFront L) (between end : ℕ) (clear_between : is_digit between ≡ false) (clear_end : is_digit end ≡ false) (apart : between ≡ end → ⊥) where
  abbrev Behind_it : List A → List ℕ → Type 0
  Behind_it = Tail L between end

  clear-tail : StartsClear Behind_it
  clear-tail [] t s = subst NoDigit (sym s) clear_end
  clear-tail (x ∷ xs) t s = subst NoDigit (sym s.joined) clear_between

  one-tail : OneFront Behind_it
  one-tail [] [] t u x y s r h d e = record { value = refl; text = s ∙ sym r; rest = tail_same (sym (ap (λ z. z ++ x) s) ∙ h ∙ ap (λ z. z ++ y) r) }
  one-tail [] (b ∷ bs) t u x y s r h d e = absurd (apart (head_same (sym (ap (λ z. z ++ y) r.joined) ∙ sym h ∙ ap (λ z. z ++ x) s)))
  one-tail (a ∷ xs) [] t u x y s r h d e = absurd (apart (head_same (sym (ap (λ z. z ++ x) s.joined) ∙ h ∙ ap (λ z. z ++ y) r)))
  one-tail (a ∷ xs) (b ∷ ys) t u x y s r h d e =
      let both = tail_same (sym (ap (λ z. z ++ x) s.joined) ∙ h ∙ ap (λ z. z ++ y) r.joined) in
      let first = one a b s.first r.first (s.more ++ x) (r.more ++ y) s.first_is r.first_is (sym (append_assoc s.first s.more x) ∙ both ∙ append_assoc r.first r.more y)
      (no_digit-append s.more x (clear-tail xs s.more s.more_is) d) (no_digit-append r.more y (clear-tail ys r.more r.more_is) e) in
      let more = one-tail xs ys s.more r.more x y s.more_is r.more_is first.rest d e in
      record {
        value = ap (λ z. z ∷ xs) first.value ∙ ap (λ z. b ∷ z) more.value;
        text = s.joined ∙ ap (λ z. between ∷ (z ++ s.more)) first.text ∙ ap (λ z. between ∷ (r.first ++ z)) more.text ∙ sym r.joined;
        rest = more.rest;
      }

  pub unambiguous-tail : Unambiguous Behind_it
  unambiguous-tail = record { one = one-tail; clear = clear-tail; some = record { value = []; text = end ∷ []; spelled = refl } }

  abbrev Pair : A × List A → List ℕ → Type 0
  Pair = Cat L (λ x. Behind_it)

  -- a text that begins with the byte between is a member and a tail
  pub record Split (xs : List A) (t more : List ℕ) : Type 0 where
    pub value : A × List A
    pub is : xs ≡ value.0 ∷ value.1
    pub text : List ℕ
    pub spelled : Pair value text
    pub joined : t ≡ between ∷ text

  split : (xs : List A) (t more x : List ℕ) → Behind_it xs t → t ++ x ≡ between ∷ more → Split xs t more
  split [] t more x s h = absurd (apart (head_same (sym h ∙ ap (λ z. z ++ x) s)))
  split (a ∷ others) t more x s h = record {
    value = (a, others);
    is = refl;
    text = s.first ++ s.more;
    spelled = record { first = s.first; second = s.more; first_spelled = s.first_is; second_spelled = s.more_is; joined = refl };
    joined = s.joined;
  }

  join : (p : A × List A) (t : List ℕ) → Pair p t → Behind_it (p.0 ∷ p.1) (between ∷ t)
  join p t s = record { first = s.first; more = s.second; first_is = s.first_spelled; more_is = s.second_spelled; joined = ap (λ z. between ∷ z) s.joined }

  -- ---- behind the byte between
  tail_fails : (more : List ℕ) (left : ℕ) → Fails Pair more left → Fails Behind_it (between ∷ more) left
  tail_fails more left f = record {
    front = between ∷ f.front;
    rest = f.rest;
    whole = ap (λ z. between ∷ z) f.whole;
    left_is = f.left_is;
    goes_on =
        let g = f.goes_on in
        record { value = g.value.0 ∷ g.value.1; text = between ∷ g.text; tail = g.tail; spelled = join g.value g.text g.spelled; begins = ap (λ z. between ∷ z) g.begins };
    stops = stop f.rest f.stops;
    none = λ xs rest r.
        let p = split xs r.text more rest r.spelled (sym r.whole) in
        f.none p.value rest (record { text = p.text; spelled = p.spelled; whole = tail_same (r.whole ∙ ap (λ z. z ++ rest) p.joined); ends = r.ends });
  }
    where
      stop : (rest : List ℕ) → StopsAt Pair f.front rest → StopsAt Behind_it (between ∷ f.front) rest
      stop [] k = tt
      stop (b ∷ bs) k = λ g.
          let p = split g.value g.text ((f.front ++ b ∷ []) ++ g.tail) [] g.spelled (append-nil g.text ∙ g.begins) in
          k (record { value = p.value; text = p.text; tail = g.tail; spelled = p.spelled; begins = tail_same (sym p.joined ∙ g.begins) })

  pub tail-step : (bytes more : List ℕ) → bytes ≡ between ∷ more → Lift Behind_it bytes Pair more (λ p. p.0 ∷ p.1)
  tail-step bytes more e = record {
    fails = λ left f. subst (λ z. Fails Behind_it z left) (sym e) (tail_fails more left f);
    reads = λ p rest r. subst (λ z. Reads Behind_it z (p.0 ∷ p.1) rest) (sym e) (record { text = between ∷ r.text; spelled = join p r.text r.spelled; whole = ap (λ z. between ∷ z) r.whole; ends = r.ends });
  }

  pub tail-first : (bytes more rest : List ℕ) (a : A) → bytes ≡ between ∷ more → Reads L more a rest → Lift Behind_it bytes Behind_it rest (λ xs. a ∷ xs)
  tail-first bytes more rest a e r = lift-then (tail-step bytes more e) (first_reads L (λ x. Behind_it) more rest a one (λ x. unambiguous-tail) r)

  pub tail-fails : (bytes more : List ℕ) (left : ℕ) → bytes ≡ between ∷ more → Fails L more left → Fails Behind_it bytes left
  tail-fails bytes more left e f = (tail-step bytes more e).fails left (first_fails L (λ x. Behind_it) more left (λ x. unambiguous-tail) f)

  -- ---- at the end
  abbrev Last : Unit {0} → List ℕ → Type 0
  Last = Exactly (end ∷ [])

  pub tail-read : (bytes rest : List ℕ) → Reads Last bytes tt rest → Reads Behind_it bytes [] rest
  tail-read bytes rest r = record { text = r.text; spelled = r.spelled; whole = r.whole; ends = r.ends }

  pub tail-ends : (bytes : List ℕ) (left : ℕ) → ((more : List ℕ) → bytes ≡ between ∷ more → ⊥) → Fails Last bytes left → Fails Behind_it bytes left
  tail-ends bytes left missing f = record {
    front = f.front;
    rest = f.rest;
    whole = f.whole;
    left_is = f.left_is;
    goes_on = let g = f.goes_on in record { value = []; text = g.text; tail = g.tail; spelled = g.spelled; begins = g.begins };
    stops = stop f.front f.rest f.whole f.goes_on f.stops;
    none = λ xs rest r. none xs r.text rest r.spelled r.whole r.ends;
  }
    where
      none : (xs : List A) (t rest : List ℕ) → Behind_it xs t → bytes ≡ t ++ rest → NoDigit rest → ⊥
      none [] t rest s w d = f.none tt rest (record { text = t; spelled = s; whole = w; ends = d })
      none (x ∷ xs) t rest s w d = missing ((s.first ++ s.more) ++ rest) (w ∙ ap (λ z. z ++ rest) s.joined)

      goes : (front : List ℕ) (b : ℕ) (bs : List ℕ) → bytes ≡ front ++ b ∷ bs → GoesOn Last front → (xs : List A) (t tail : List ℕ) → Behind_it xs t → t ≡ (front ++ b ∷ []) ++ tail → (GoesOn Last (front ++ b ∷ []) → ⊥) → ⊥
      goes front b bs w g [] t tail s e k = k (record { value = tt; text = t; tail = tail; spelled = s; begins = e })
      goes [] b bs w g (x ∷ xs) t tail s e k = missing bs (w ∙ ap (λ z. z ∷ bs) (head_same (sym e ∙ s.joined)))
      goes (c ∷ front) b bs w g (x ∷ xs) t tail s e k = apart (head_same (sym s.joined ∙ e) ∙ head_same (sym g.begins ∙ g.spelled))

      stop : (front rest : List ℕ) → bytes ≡ front ++ rest → GoesOn Last front → StopsAt Last front rest → StopsAt Behind_it front rest
      stop front [] w g k = tt
      stop front (b ∷ bs) w g k = λ h. goes front b bs w g h.value h.text h.tail h.spelled h.begins k

  -- ---- the whole list
  abbrev All_of : List A → List ℕ → Type 0
  All_of = Separated L between end

  pub separated-fails : (bytes : List ℕ) (left : ℕ) → Fails L bytes left → Fails All_of bytes left
  separated-fails bytes left f = (lift-image (λ (p : A × List A). p.0 ∷ p.1) Pair bytes).fails left (first_fails L (λ x. Behind_it) bytes left (λ x. unambiguous-tail) f)

  pub separated-first : (bytes rest : List ℕ) (a : A) → Reads L bytes a rest → Lift All_of bytes Behind_it rest (λ xs. (a ∷ []) ++ xs)
  separated-first bytes rest a r = lift-then (lift-image (λ (p : A × List A). p.0 ∷ p.1) Pair bytes) (first_reads L (λ x. Behind_it) bytes rest a one (λ x. unambiguous-tail) r)

  pub separated-more : (bytes rest more last : List ℕ) (so_far : List A) (a : A) → Lift All_of bytes Behind_it rest (λ xs. so_far ++ xs) → rest ≡ between ∷ more → Reads L more a last
      → Lift All_of bytes Behind_it last (λ xs. (so_far ++ a ∷ []) ++ xs)
  separated-more bytes rest more last so_far a w e r =
      let next = lift-then w (tail-first rest more last a e r) in
      record { fails = next.fails; reads = λ b end h. subst (λ v. Reads All_of bytes v end) (sym (append_assoc so_far (a ∷ []) b)) (next.reads b end h) }

  pub separated-read : (bytes rest last : List ℕ) (so_far : List A) → Lift All_of bytes Behind_it rest (λ xs. so_far ++ xs) → Reads Last rest tt last → Reads All_of bytes so_far last
  separated-read bytes rest last so_far w r = subst (λ v. Reads All_of bytes v last) (append-nil so_far) (w.reads [] last (tail-read rest last r))
