-- Texts one behind the other, up to a word that no text begins as.
use Rattle.std.proofs.Common.{◌≡◌, ℕ, Bool, true, false, List, [], ◌∷◌, ◌++◌, refl, sym, ap, subst, ◌∙◌, append_assoc}
use Rattle.std.specs.Prelude.{◌==◌}
use Rattle.std.proofs.lemmas.Bool.{eqb-true}
use Rattle.text_pieces.specs.Languages.{Cat, Image, Free, ReadsTo, FailsTo}
use Rattle.text_pieces.specs.Unambiguous.{HasOne, OneFrontTo}
use Rattle.text_pieces.proofs.Joining.{head_same}
use Rattle.text_pieces.specs.Fronts.{Word, NoFront}
use Rattle.text_pieces.specs.Kinds.{OneKind, kind_at}
use Rattle.text_pieces.specs.Runs.{Run}
use Rattle.text_pieces.proofs.Ends.{Joins, same_fails, same_reads}
use Rattle.text_pieces.proofs.Lifts.{Lift, lift-then, lift-image, Sure, Next, read_next, next_fails}
use Rattle.text_pieces.proofs.WordReading.{sure-word, word_reads, no_word}
use Rattle.text_pieces.proofs.Kinded.{Told, kinded}

differ : true ≡ false → ⊥
differ h = cc

-- whether a byte stands in front
pub there : (byte : ℕ) (rest behind : List ℕ) → rest ≡ byte ∷ behind → byte == byte ≡ true → kind_at (λ b. b == byte) false rest ≡ true
there byte rest behind e same = ap (kind_at (λ b. b == byte) false) e ∙ same

pub not_there : (byte : ℕ) (rest : List ℕ) → ((behind : List ℕ) → rest ≡ byte ∷ behind → ⊥) → kind_at (λ b. b == byte) false rest ≡ false
not_there byte [] n = refl
not_there byte (b ∷ bs) n = by (b == byte) refl
  where
    by : (t : Bool) → b == byte ≡ t → b == byte ≡ false
    by true e = absurd (n bs (ap (λ c. c ∷ bs) (eqb-true b byte e)))
    by false e = e

-- the texts are read up to bytes that aren't of p, each begins with a byte for which goes is true, and the word of the end doesn't
pub record Runs {S A : Type 0} (p : ℕ → Bool) (L : S → A → List ℕ → Type 0) (goes : ℕ → Bool) (end : List ℕ) : Type 0 where
  pub one : (s : S) → OneFrontTo p (L s)
  pub begins : (s : S) (a : A) (t : List ℕ) → L s a t → Told goes true t
  pub ends : Told goes false end
  pub clear : (s : S) (a : A) (t x : List ℕ) → L s a t → Free p (t ++ x)
  pub clear_end : (x : List ℕ) → Free p (end ++ x)

module _ {S A : Type 0} (p : ℕ → Bool) (L : S → A → List ℕ → Type 0) (next : S → A → S) (goes : ℕ → Bool) (end : List ℕ) (r : Runs p L goes end) where
  abbrev Rest : S → List A → List ℕ → Type 0
  Rest = Run L next end

  abbrev More : S → A × List A → List ℕ → Type 0
  More s = Cat (L s) (λ y. Rest (next s y))

  abbrev Parts : S → Bool → List A → List ℕ → Type 0
  Parts s true = Image (λ (v : A × List A). v.0 ∷ v.1) (More s)
  Parts s false = Image (λ (v : Unit {0}). []) (Word end)

  told-cat : (s : S) (v : A × List A) (t : List ℕ) → More s v t → Told goes true t
  told-cat s v t h =
      let n = r.begins s v.0 h.first h.first_spelled in
      record { head = n.head; tail = n.tail ++ h.second; is = h.joined ∙ ap (λ z. z ++ h.second) n.is; tells = n.tells }

  known : (s : S) (k : Bool) (xs : List A) (t : List ℕ) → Parts s k xs t → Told goes k t
  known s true xs t h = told-cat s h.from t h.spelled
  known s false xs t h = subst (Told goes false) (sym h.spelled) r.ends

  in_parts : (s : S) (x : A) (xs : List A) (t : List ℕ) → Rest s (x ∷ xs) t → More s (x, xs) t
  in_parts s x xs t h = record { first = h.first; second = h.more; first_spelled = h.first_is; second_spelled = h.more_is; joined = h.joined }

  forth : (s : S) (xs : List A) (t : List ℕ) → OneKind (Parts s) xs t → Rest s xs t
  forth s xs t h = by h.kind h.spelled
    where
      by : (k : Bool) → Parts s k xs t → Rest s xs t
      by true g =
          let c = g.spelled in
          subst (λ z. Rest s z t) (sym g.is) (record { first = c.first; more = c.second; first_is = c.first_spelled; more_is = c.second_spelled; joined = c.joined })
      by false g = subst (λ z. Rest s z t) (sym g.is) g.spelled

  back : (s : S) (xs : List A) (t : List ℕ) → Rest s xs t → OneKind (Parts s) xs t
  back s [] t h = record { kind = false; spelled = record { from = tt; is = refl; spelled = h } }
  back s (x ∷ xs) t h = record { kind = true; spelled = record { from = (x, xs); is = refl; spelled = in_parts s x xs t h } }

  run_kinds : (q : ℕ → Bool) (s : S) (bytes : List ℕ) → Lift q (Rest s) bytes (OneKind (Parts s)) bytes (λ a. a)
  run_kinds q s bytes = record {
    fails = λ left f. same_fails q (OneKind (Parts s)) (Rest s) (λ a t h. (a, forth s a t h)) (λ a t h. (a, back s a t h)) bytes left f;
    reads = λ a rest h. same_reads q (OneKind (Parts s)) (Rest s) a a (forth s a) bytes rest h;
  }

  run_at : (q : ℕ → Bool) (s : S) (bytes : List ℕ) (k : Bool) → kind_at goes false bytes ≡ k → Lift q (Rest s) bytes (Parts s k) bytes (λ a. a)
  run_at q s bytes k e = lift-then (run_kinds q s bytes) (subst (λ z. Lift q (OneKind (Parts s)) bytes (Parts s z) bytes (λ a. a)) e (kinded (Parts s) goes false (known s) q bytes))

  joins-run : (q : ℕ → Bool) (s : S) → Joins p q (Rest s)
  joins-run q s [] t x h d = subst (λ z. Free p (z ++ x)) (sym h) (r.clear_end x)
  joins-run q s (a ∷ more) t x h d = subst (Free p) (sym (ap (λ z. z ++ x) h.joined ∙ append_assoc h.first h.more x)) (r.clear s a h.first (h.more ++ x) h.first_is)

  same_head : {j k : Bool} (t u x y : List ℕ) → Told goes j t → Told goes k u → t ++ x ≡ u ++ y → j ≡ k
  same_head t u x y m n h = sym m.tells ∙ ap goes (head_same (sym (ap (λ z. z ++ x) m.is) ∙ h ∙ ap (λ z. z ++ y) n.is)) ∙ n.tells

  one-run : (q : ℕ → Bool) (s : S) → OneFrontTo q (Rest s)
  one-run q s [] [] t u x y g h e d f = record { value = refl; text = g ∙ sym h; rest = let w = (sure-word q end).one tt tt t u x y g h e d f in w.rest }
  one-run q s [] (b ∷ bs) t u x y g h e d f = absurd (differ (sym (same_head t u x y (subst (Told goes false) (sym g) r.ends) (told-cat s (b, bs) u (in_parts s b bs u h)) e)))
  one-run q s (a ∷ more) [] t u x y g h e d f = absurd (differ (same_head t u x y (told-cat s (a, more) t (in_parts s a more t g)) (subst (Told goes false) (sym h) r.ends) e))
  one-run q s (a ∷ more) (b ∷ bs) t u x y g h e d f =
      let whole = sym (append_assoc g.first g.more x) ∙ ap (λ z. z ++ x) (sym g.joined) ∙ e ∙ ap (λ z. z ++ y) h.joined ∙ append_assoc h.first h.more y in
      let first = r.one s a b g.first h.first (g.more ++ x) (h.more ++ y) g.first_is h.first_is whole
      (joins-run q (next s a) more g.more x g.more_is d) (joins-run q (next s b) bs h.more y h.more_is f) in
      let second = one-run q (next s b) more bs g.more h.more x y (subst (λ z. Rest (next s z) more g.more) first.value g.more_is) h.more_is first.rest d f in
      record {
        value = ap (λ z. z ∷ more) first.value ∙ ap (λ z. b ∷ z) second.value;
        text = g.joined ∙ ap (λ z. z ++ g.more) first.text ∙ ap (λ z. h.first ++ z) second.text ∙ sym h.joined;
        rest = second.rest;
      }

  pub sure-run : (q : ℕ → Bool) (s : S) → Sure q (Rest s)
  sure-run q s = record { one = one-run q s; some = record { value = []; text = end; spelled = refl } }

  pub next-run : (q : ℕ → Bool) (s : S) → Next p q (Rest s)
  next-run q s = record { sure = sure-run q s; joins = joins-run q s }

  -- ---- a run that is read in a loop
  sure_one : (s : S) → HasOne (L s) → Sure p (L s)
  sure_one s h = record { one = r.one s; some = h }

  pub run_more : {C : Type 0} {q : ℕ → Bool} {W : C → List ℕ → Type 0} {bytes rest last : List ℕ} {f : List A → C} {s : S} {a : A}
      → Lift q W bytes (Rest s) rest f → kind_at goes false rest ≡ true → ReadsTo p (L s) rest a last → Lift q W bytes (Rest (next s a)) last (λ xs. f (a ∷ xs))
  run_more {q = q} {rest = rest} {last = last} {s = s} {a = a} w e h =
      let first = lift-then w (lift-then (run_at q s rest true e) (lift-image q (λ (v : A × List A). v.0 ∷ v.1) (More s) rest)) in
      read_next first (sure_one s (record { value = a; text = h.text; spelled = h.spelled })) (λ y. next-run q (next s y)) h

  pub run_fails : {C : Type 0} {q : ℕ → Bool} {W : C → List ℕ → Type 0} {bytes rest : List ℕ} {f : List A → C} {s : S} {left : ℕ}
      → Lift q W bytes (Rest s) rest f → kind_at goes false rest ≡ true → FailsTo p (L s) rest left → FailsTo q W bytes left
  run_fails {q = q} {rest = rest} {s = s} w e h =
      let first = lift-then w (lift-then (run_at q s rest true e) (lift-image q (λ (v : A × List A). v.0 ∷ v.1) (More s) rest)) in
      next_fails first (λ y. next-run q (next s y)) h

  run_last : {C : Type 0} {q : ℕ → Bool} {W : C → List ℕ → Type 0} {bytes rest : List ℕ} {f : List A → C} (s : S)
      → Lift q W bytes (Rest s) rest f → kind_at goes false rest ≡ false → Lift q W bytes (Word end) rest (λ v. f [])
  run_last {q = q} {rest = rest} s w e = lift-then w (lift-then (run_at q s rest false e) (lift-image q (λ (v : Unit {0}). []) (Word end) rest))

  pub run_end : {C : Type 0} {q : ℕ → Bool} {W : C → List ℕ → Type 0} {bytes rest last : List ℕ} {f : List A → C} (s : S)
      → Lift q W bytes (Rest s) rest f → kind_at goes false rest ≡ false → rest ≡ end ++ last → Free q last → ReadsTo q W bytes (f []) last
  run_end {q = q} {rest = rest} {last = last} s w e h d = (run_last s w e).reads tt last (word_reads q end rest last h d)

  pub run_no_end : {C : Type 0} {q : ℕ → Bool} {W : C → List ℕ → Type 0} {bytes rest : List ℕ} {f : List A → C} {left : ℕ} (s : S)
      → Lift q W bytes (Rest s) rest f → kind_at goes false rest ≡ false → NoFront end rest left → FailsTo q W bytes left
  run_no_end {q = q} {rest = rest} {left = left} s w e n = (run_last s w e).fails left (no_word q end rest left n)

  -- where no text is left but the word of the end
  empty_back : (s : S) → ((a : A) (t : List ℕ) → L s a t → ⊥) → (xs : List A) (t : List ℕ) → Rest s xs t → (u : Unit {0}) × Word end u t
  empty_back s none [] t h = (tt, h)
  empty_back s none (x ∷ xs) t h = absurd (none x h.first h.first_is)

  empty_last : {C : Type 0} {q : ℕ → Bool} {W : C → List ℕ → Type 0} {bytes rest : List ℕ} {f : List A → C} (s : S)
      → ((a : A) (t : List ℕ) → L s a t → ⊥) → Lift q W bytes (Rest s) rest f → Lift q W bytes (Word end) rest (λ v. f [])
  empty_last {q = q} {rest = rest} s none w = lift-then w (record {
    fails = λ left f. same_fails q (Word end) (Rest s) (λ u t e. ([], e)) (empty_back s none) rest left f;
    reads = λ u last h. same_reads q (Word end) (Rest s) u [] (λ t e. e) rest last h;
  })

  pub empty_end : {C : Type 0} {q : ℕ → Bool} {W : C → List ℕ → Type 0} {bytes rest last : List ℕ} {f : List A → C} (s : S)
      → ((a : A) (t : List ℕ) → L s a t → ⊥) → Lift q W bytes (Rest s) rest f → rest ≡ end ++ last → Free q last → ReadsTo q W bytes (f []) last
  empty_end {q = q} {rest = rest} {last = last} s none w h d = (empty_last s none w).reads tt last (word_reads q end rest last h d)

  pub empty_no_end : {C : Type 0} {q : ℕ → Bool} {W : C → List ℕ → Type 0} {bytes rest : List ℕ} {f : List A → C} {left : ℕ} (s : S)
      → ((a : A) (t : List ℕ) → L s a t → ⊥) → Lift q W bytes (Rest s) rest f → NoFront end rest left → FailsTo q W bytes left
  empty_no_end {q = q} {rest = rest} {left = left} s none w n = (empty_last s none w).fails left (no_word q end rest left n)

-- one more behind those so far
pub one_more : {A C : Type 0} {q : ℕ → Bool} {W : C → List ℕ → Type 0} {M : List A → List ℕ → Type 0} {bytes rest : List ℕ} (f : List A → C) (so_far : List A) (a : A)
    → Lift q W bytes M rest (λ xs. f (so_far ++ (a ∷ xs))) → Lift q W bytes M rest (λ xs. f ((so_far ++ a ∷ []) ++ xs))
one_more {q = q} {W = W} {bytes = bytes} f so_far a w = record {
  fails = w.fails;
  reads = λ b end h. subst (λ v. ReadsTo q W bytes (f v) end) (sym (append_assoc so_far (a ∷ []) b)) (w.reads b end h);
}
