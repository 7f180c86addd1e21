-- Words in front of bytes.
use Rattle.std.proofs.Common.{◌≡◌, ℕ, zero, suc, ◌+◌, ◌<◌, ◌≤◌, Bool, true, false, ltb, Bor, map, get_or, take, List, [], ◌∷◌, ◌++◌, length, length-append, min, Option, Some, refl, sym, ap, subst, ◌∙◌, append_assoc, append-nil, ◌⊎◌, inl, inr, arith}
use Rattle.std.specs.Prelude.{slice_get}
use Rattle.std.proofs.lemmas.Bool.{ltb-true}
use Rattle.std.proofs.lemmas.Bool.Decides.{nat_tests}
use Rattle.text_pieces.specs.Languages.{NoDigit, GoesOn, Reads, StopsAt, Fails, Exactly, OneOf, NoneBefore}
use Rattle.text_pieces.proofs.Joining.{Fronts, within, beyond, fronts, head_same, drop_front, not_longer}

-- ---- one word
pub exactly_stops : (word done todo : List ℕ) (c : ℕ) (text rest : List ℕ) → word ≡ done ++ c ∷ todo → text ≡ done ++ rest → ((more : List ℕ) → rest ≡ c ∷ more → ⊥) → Fails (Exactly word) text (length rest)
exactly_stops word done todo c text rest split whole missing = record {
  front = done;
  rest = rest;
  whole = whole;
  left_is = refl;
  goes_on = record { value = tt; text = word; tail = c ∷ todo; spelled = refl; begins = split };
  stops = stop rest missing;
  none = λ a rest' r.
      let both : done ++ rest ≡ done ++ c ∷ (todo ++ rest') = sym whole ∙ r.whole ∙ ap (λ t. t ++ rest') (r.spelled ∙ split) ∙ append_assoc done (c ∷ todo) rest' in
      missing (todo ++ rest') (drop_front done rest (c ∷ (todo ++ rest')) both);
}
  where
    stop : (rest : List ℕ) → ((more : List ℕ) → rest ≡ c ∷ more → ⊥) → StopsAt (Exactly word) done rest
    stop [] m = tt
    stop (b ∷ bs) m = λ g.
        let both : done ++ c ∷ todo ≡ done ++ b ∷ g.tail = sym split ∙ sym g.spelled ∙ g.begins ∙ append_assoc done (b ∷ []) g.tail in
        m bs (ap (λ d. d ∷ bs) (sym (head_same (drop_front done (c ∷ todo) (b ∷ g.tail) both))))

pub exactly_digit : (word text rest : List ℕ) → text ≡ word ++ rest → (NoDigit rest → ⊥) → Fails (Exactly word) text (length rest)
exactly_digit word text rest whole digit = record {
  front = word;
  rest = rest;
  whole = whole;
  left_is = refl;
  goes_on = record { value = tt; text = word; tail = []; spelled = refl; begins = sym (append-nil word) };
  stops = stop rest;
  none = λ a rest' r. digit (subst NoDigit (drop_front word rest' rest (ap (λ t. t ++ rest') (sym r.spelled) ∙ sym r.whole ∙ whole)) r.ends);
}
  where
    stop : (rest : List ℕ) → StopsAt (Exactly word) word rest
    stop [] = tt
    stop (b ∷ bs) = λ g. not_longer word b g.tail (sym g.spelled ∙ g.begins ∙ append_assoc word (b ∷ []) g.tail)

pub exactly_reads : (word text rest : List ℕ) → text ≡ word ++ rest → NoDigit rest → Reads (Exactly word) text tt rest
exactly_reads word text rest whole ends = record { text = word; spelled = refl; whole = whole; ends = ends }

-- ---- some words
-- words below i were tried: none is read, and the longest front with which some word goes on leaves so many bytes
pub record Tried (words : List (List ℕ)) (i : ℕ) (text : List ℕ) (left : ℕ) : Type 0 where
  pub front : List ℕ
  pub rest : List ℕ
  pub whole : text ≡ front ++ rest
  pub left_is : length rest ≡ left
  pub goes_on : GoesOn (OneOf words) front
  pub stops : (k : ℕ) (w : List ℕ) → k < i → slice_get words k ≡ Some w → StopsAt (Exactly w) front rest
  pub none : NoneBefore words i text

pub tried_none : (words : List (List ℕ)) (text : List ℕ) → 0 < length words → Tried words 0 text (length text)
tried_none [] text h = absurd (omega arith)
tried_none (w ∷ ws) text h = record {
  front = [];
  rest = text;
  whole = refl;
  left_is = refl;
  goes_on = record { value = 0; text = w; tail = w; spelled = refl; begins = refl };
  stops = λ k v l e. absurd (omega arith);
  none = λ k v l e. absurd (omega arith);
}

-- what stops at a front stops at a longer one
stops_on : {A : Type 0} (L : A → List ℕ → Type 0) (f r more f2 r2 : List ℕ) → StopsAt L f r → f2 ≡ f ++ more → r ≡ more ++ r2 → StopsAt L f2 r2
stops_on L f r [] f2 r2 s p q = subst (λ z. StopsAt L z r2) (sym (p ∙ append-nil f)) (subst (StopsAt L f) q s)
stops_on L f r (c ∷ cs) f2 [] s p q = tt
stops_on L f r (c ∷ cs) f2 (b ∷ bs) s p q = λ g.
    subst (StopsAt L f) q s (record {
      value = g.value;
      text = g.text;
      tail = cs ++ b ∷ g.tail;
      spelled = g.spelled;
      begins = g.begins ∙ append_assoc f2 (b ∷ []) g.tail ∙ ap (λ z. z ++ b ∷ g.tail) p ∙ append_assoc f (c ∷ cs) (b ∷ g.tail) ∙ sym (append_assoc f (c ∷ []) (cs ++ b ∷ g.tail));
    })

pub tried_more : (words : List (List ℕ)) (i : ℕ) (text : List ℕ) (left : ℕ) (w : List ℕ) (m : ℕ) → Tried words i text left → slice_get words i ≡ Some w → Fails (Exactly w) text m
    → Tried words (i + 1) text (min left m)
tried_more words i text left w m t at f = by (fronts t.front t.rest f.front f.rest (sym t.whole ∙ f.whole))
  where
    here : (k : ℕ) (v : List ℕ) → (k < i ⊎ (k ≡ i)) → slice_get words k ≡ Some v → (k < i) ⊎ (v ≡ w)
    here k v (inl l) e = inl l
    here k v (inr e) g = inr (some_same (sym g ∙ ap (slice_get words) e ∙ at))
      where
        some_same : ◌≡◌ {A = Option (List ℕ)} (Some v) (Some w) → v ≡ w
        some_same h = cc

    split : (k : ℕ) → k < i + 1 → (k < i) ⊎ (k ≡ i)
    split k l = cases (ltb k i) refl
      where
        cases : (b : Bool) → ltb k i ≡ b → (k < i) ⊎ (k ≡ i)
        cases true e = inl (ltb-true k i e)
        cases false e = let n : i ≤ k = grind (arith, nat_tests) in inr (omega arith)

    none : (k : ℕ) (v : List ℕ) → k < i + 1 → slice_get words k ≡ Some v → (rest' : List ℕ) → Reads (Exactly v) text tt rest' → ⊥
    none k v l e rest' r = cases (here k v (split k l) e)
      where
        cases : (k < i) ⊎ (v ≡ w) → ⊥
        cases (inl below) = t.none k v below e rest' r
        cases (inr same) = f.none tt rest' (subst (λ z. Reads (Exactly z) text tt rest') same r)

    by : Fronts t.front t.rest f.front f.rest → Tried words (i + 1) text (min left m)
    by (within more p q) = record {
      front = f.front;
      rest = f.rest;
      whole = f.whole;
      left_is = omega (arith, t.left_is, f.left_is, ap length q, length-append more f.rest);
      goes_on = let g = f.goes_on in record { value = i; text = g.text; tail = g.tail; spelled = at ∙ ap Some (sym g.spelled); begins = g.begins };
      stops = λ k v l e. cases k v e (here k v (split k l) e);
      none = none;
    }
      where
        cases : (k : ℕ) (v : List ℕ) → slice_get words k ≡ Some v → (k < i) ⊎ (v ≡ w) → StopsAt (Exactly v) f.front f.rest
        cases k v e (inl below) = stops_on (Exactly v) t.front t.rest more f.front f.rest (t.stops k v below e) p q
        cases k v e (inr same) = subst (λ z. StopsAt (Exactly z) f.front f.rest) (sym same) f.stops
    by (beyond c more p q) = record {
      front = t.front;
      rest = t.rest;
      whole = t.whole;
      left_is = omega (arith, t.left_is, f.left_is, ap length q, length-append (c ∷ more) t.rest);
      goes_on = t.goes_on;
      stops = λ k v l e. cases k v e (here k v (split k l) e);
      none = none;
    }
      where
        cases : (k : ℕ) (v : List ℕ) → slice_get words k ≡ Some v → (k < i) ⊎ (v ≡ w) → StopsAt (Exactly v) t.front t.rest
        cases k v e (inl below) = t.stops k v below e
        cases k v e (inr same) = subst (λ z. StopsAt (Exactly z) t.front t.rest) (sym same) (stops_on (Exactly w) f.front f.rest (c ∷ more) t.front t.rest f.stops p q)

-- a place with an element is within the list
within_list : (words : List (List ℕ)) (k : ℕ) (w : List ℕ) → slice_get words k ≡ Some w → k < length words
within_list [] k w e = none k e
  where
    none : (k : ℕ) → slice_get {X = List ℕ} [] k ≡ Some w → k < 0
    none zero e = cc
    none (suc k) e = cc
within_list (v ∷ vs) zero w e = omega arith
within_list (v ∷ vs) (suc k) w e = let l = within_list vs k w e in omega arith

pub tried_all : (words : List (List ℕ)) (i : ℕ) (text : List ℕ) (left : ℕ) → length words ≤ i → Tried words i text left → Fails (OneOf words) text left
tried_all words i text left all t = record {
  front = t.front;
  rest = t.rest;
  whole = t.whole;
  left_is = t.left_is;
  goes_on = t.goes_on;
  stops = stop t.rest t.stops;
  none = λ k rest' r.
      t.none k r.text (let l = within_list words k r.text r.spelled in omega arith) r.spelled rest' (record { text = r.text; spelled = refl; whole = r.whole; ends = r.ends });
}
  where
    stop : (rest : List ℕ) → ((k : ℕ) (w : List ℕ) → k < i → slice_get words k ≡ Some w → StopsAt (Exactly w) t.front rest) → StopsAt (OneOf words) t.front rest
    stop [] h = tt
    stop (b ∷ bs) h = λ g.
        h g.value g.text (let l = within_list words g.value g.text g.spelled in omega arith) g.spelled (record { value = tt; text = g.text; tail = g.tail; spelled = refl; begins = g.begins })

pub one_of_reads : (words : List (List ℕ)) (i : ℕ) (text rest w : List ℕ) → slice_get words i ≡ Some w → Reads (Exactly w) text tt rest → Reads (OneOf words) text i rest
one_of_reads words i text rest w at r = record { text = r.text; spelled = at ∙ ap Some (sym r.spelled); whole = r.whole; ends = r.ends }

-- ---- lists of words
pub word_at : (ws : List (Bor (List ℕ))) (i : ℕ) (d : Bor (List ℕ)) → i < length ws → slice_get (map (λ (w : Bor (List ℕ)). w.now) ws) i ≡ Some (get_or ws i d).now
word_at [] i d h = absurd (omega arith)
word_at (w ∷ ws) zero d h = refl
word_at (w ∷ ws) (suc i) d h = word_at ws i d (omega arith)

pub take_whole : (i : ℕ) (xs : List ℕ) → length xs ≤ i → take i xs ≡ xs
take_whole i [] h = take_none i
  where
    take_none : (i : ℕ) → take i (◌++◌ {A = ℕ} [] []) ≡ []
    take_none zero = refl
    take_none (suc i) = refl
take_whole zero (x ∷ xs) h = absurd (omega arith)
take_whole (suc i) (x ∷ xs) h = ap (λ t. x ∷ t) (take_whole i xs (omega arith))
