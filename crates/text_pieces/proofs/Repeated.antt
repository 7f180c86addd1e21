-- So many texts, one behind the other.
use Rattle.std.proofs.Common.{◌≡◌, ℕ, zero, suc, ◌+◌, ◌<◌, ◌≤◌, List, [], ◌∷◌, ◌++◌, length, length-append, refl, sym, ap, subst, ◌∙◌, append-nil, append_assoc, arith}
use Rattle.text_pieces.specs.Languages.{NoDigit, Reads, Fails, Cat, Blank, Times}
use Rattle.text_pieces.specs.Numbers.{Number, Any, Counted}
use Rattle.text_pieces.proofs.Joining.{same_fails, same_reads}
use Rattle.text_pieces.proofs.Lifting.{Lift, lift-then, lift-image, unambiguous-cat, unambiguous-blank, unambiguous-image, first_fails, first_reads}
use Rattle.text_pieces.proofs.Reaching.{one_front-number, has_one-number}
use Rattle.text_pieces.specs.Unambiguous.{OneFront, Unambiguous, StartsClear}

pub reads_le : {A : Type 0} (L : A → List ℕ → Type 0) (bytes : List ℕ) (a : A) (rest : List ℕ) → Reads L bytes a rest → length rest ≤ length bytes
reads_le L bytes a rest r = omega (arith, ap length r.whole, length-append r.text rest)

module _ {A : Type 0} (L : A → List ℕ → Type 0) where
  abbrev Step : ℕ → A × List A → List ℕ → Type 0
  Step n = Cat L (λ y. Times L n)

  -- a list of one more is a member and a list
  pub record Split (n : ℕ) (xs : List A) (t : List ℕ) : Type 0 where
    pub first : A
    pub more : List A
    pub is : xs ≡ first ∷ more
    pub spelled : Step n (first, more) t

  pub split-times : (n : ℕ) (xs : List A) (t : List ℕ) → Times L (suc n) xs t → Split n xs t
  split-times n [] t s = absurd s
  split-times n (x ∷ xs) t s = record { first = x; more = xs; is = refl; spelled = s }

  pub one_front-none : OneFront (Times L 0)
  one_front-none [] [] t u x y s r h d e = record { value = refl; text = s ∙ sym r; rest = sym (ap (λ z. z ++ x) s) ∙ h ∙ ap (λ z. z ++ y) r }
  one_front-none [] (b ∷ bs) t u x y s r h d e = absurd r
  one_front-none (a ∷ more) b t u x y s r h d e = absurd s

  pub clear-none : StartsClear (Times L 0)
  clear-none [] t s = subst NoDigit (sym s) tt
  clear-none (x ∷ xs) t s = absurd s

  pub unambiguous-times : Unambiguous L → (n : ℕ) → Unambiguous (Times L n)
  unambiguous-times l zero = record { one = one_front-none; clear = clear-none; some = record { value = []; text = []; spelled = refl } }
  unambiguous-times l (suc n) =
      let c = unambiguous-cat L (λ y. Times L n) l (λ y. unambiguous-times l n) in
      record {
        one = λ a b t u x y s r h d e.
            let p = split-times n a t s in
            let q = split-times n b u r in
            let same = c.one (p.first, p.more) (q.first, q.more) t u x y p.spelled q.spelled h d e in
            record { value = p.is ∙ ap (λ (z : A × List A). z.0 ∷ z.1) same.value ∙ sym q.is; text = same.text; rest = same.rest };
        clear = λ a t s. let p = split-times n a t s in c.clear (p.first, p.more) t p.spelled;
        some = let h = c.some in record { value = h.value.0 ∷ h.value.1; text = h.text; spelled = h.spelled };
      }

  pub length-times : (n : ℕ) (xs : List A) (t : List ℕ) → Times L n xs t → length xs ≡ n
  length-times zero [] t s = refl
  length-times zero (x ∷ xs) t s = absurd s
  length-times (suc n) [] t s = absurd s
  length-times (suc n) (x ∷ xs) t s = ap suc (length-times n xs s.second s.second_spelled)

  -- ---- from a list of one more to what follows its first
  pub times-step : (n : ℕ) (bytes : List ℕ) → Lift (Times L (suc n)) bytes (Step n) bytes (λ p. p.0 ∷ p.1)
  times-step n bytes = record {
    fails = λ left f. same_fails (Step n) (Times L (suc n)) (λ p t s. (p.0 ∷ p.1, s)) (λ xs t s. let p = split-times n xs t s in ((p.first, p.more), p.spelled)) bytes left f;
    reads = λ p rest r. same_reads (Step n) (Times L (suc n)) p (p.0 ∷ p.1) (λ t s. s) bytes rest r;
  }

  pub times-first : Unambiguous L → (n : ℕ) (bytes middle : List ℕ) (a : A) → Reads L bytes a middle → Lift (Times L (suc n)) bytes (Times L n) middle (λ more. a ∷ more)
  times-first l n bytes middle a r = lift-then (times-step n bytes) (first_reads L (λ y. Times L n) bytes middle a l.one (λ y. unambiguous-times l n) r)

  pub times-fails : Unambiguous L → (n : ℕ) (bytes : List ℕ) (left : ℕ) → Fails L bytes left → Fails (Times L (suc n)) bytes left
  times-fails l n bytes left f = (times-step n bytes).fails left (first_fails L (λ y. Times L n) bytes left (λ y. unambiguous-times l n) f)

  pub times-none : (bytes : List ℕ) → NoDigit bytes → Reads (Times L 0) bytes [] bytes
  times-none bytes d = record { text = []; spelled = refl; whole = refl; ends = d }

  -- ---- a count in front
  abbrev Count : ℕ → List ℕ → Type 0
  Count = Blank (Number Any)

  unambiguous-count : Unambiguous Count
  unambiguous-count = unambiguous-blank (Number Any) (one_front-number Any) (has_one-number Any 0 tt)

  pub unambiguous-counted : Unambiguous L → Unambiguous (Counted L)
  unambiguous-counted l = unambiguous-image (λ (p : ℕ × List A). p.1) (Cat Count (Times L)) (unambiguous-cat Count (Times L) unambiguous-count (unambiguous-times l))

  pub counted-fails : Unambiguous L → (bytes : List ℕ) (left : ℕ) → Fails Count bytes left → Fails (Counted L) bytes left
  counted-fails l bytes left f = (lift-image (λ (p : ℕ × List A). p.1) (Cat Count (Times L)) bytes).fails left (first_fails Count (Times L) bytes left (unambiguous-times l) f)

  pub counted-count : Unambiguous L → (n : ℕ) (bytes middle : List ℕ) → Reads Count bytes n middle → Lift (Counted L) bytes (Times L n) middle (λ xs. xs)
  counted-count l n bytes middle r =
      lift-then (lift-image (λ (p : ℕ × List A). p.1) (Cat Count (Times L)) bytes) (first_reads Count (Times L) bytes middle n unambiguous-count.one (unambiguous-times l) r)

  -- ---- a loop that has read some of so many
  pub record ReadSo (n : ℕ) (bytes : List ℕ) (so_far : List A) (rest : List ℕ) : Type 0 where
    pub left : ℕ
    pub lift : Lift (Times L n) bytes (Times L left) rest (λ more. so_far ++ more)
    pub count : length so_far + left ≡ n
    pub ends : NoDigit rest

  pub read_none : (n : ℕ) (bytes : List ℕ) → NoDigit bytes → ReadSo n bytes [] bytes
  read_none n bytes d = record { left = n; lift = record { fails = λ left f. f; reads = λ b rest r. r }; count = omega arith; ends = d }

  pub read_more : Unambiguous L → (n : ℕ) (bytes : List ℕ) (so_far : List A) (rest last : List ℕ) (a : A) → length so_far < n → ReadSo n bytes so_far rest → Reads L rest a last
      → ReadSo n bytes (so_far ++ a ∷ []) last
  read_more l n bytes so_far rest last a less s r = by s.left s.lift s.count
    where
      by : (left : ℕ) → Lift (Times L n) bytes (Times L left) rest (λ more. so_far ++ more) → length so_far + left ≡ n → ReadSo n bytes (so_far ++ a ∷ []) last
      by zero lift count = absurd (omega arith)
      by (suc left) lift count =
          let whole = lift-then lift (times-first l left rest last a r) in
          record {
            left = left;
            lift = record {
              fails = whole.fails;
              reads = λ b end h. subst (λ v. Reads (Times L n) bytes v end) (sym (append_assoc so_far (a ∷ []) b)) (whole.reads b end h);
            };
            count = omega (arith, count, length-append so_far (a ∷ []));
            ends = r.ends;
          }

  pub read_all : (n : ℕ) (bytes : List ℕ) (so_far : List A) (rest : List ℕ) → n ≤ length so_far → ReadSo n bytes so_far rest → Reads (Times L n) bytes so_far rest
  read_all n bytes so_far rest all s = by s.left s.lift s.count
    where
      by : (left : ℕ) → Lift (Times L n) bytes (Times L left) rest (λ more. so_far ++ more) → length so_far + left ≡ n → Reads (Times L n) bytes so_far rest
      by zero lift count = subst (λ v. Reads (Times L n) bytes v rest) (append-nil so_far) (lift.reads [] rest (times-none rest s.ends))
      by (suc left) lift count = absurd (omega arith)

  pub read_fails : Unambiguous L → (n : ℕ) (bytes : List ℕ) (so_far : List A) (rest : List ℕ) (at : ℕ) → length so_far < n → ReadSo n bytes so_far rest → Fails L rest at → Fails (Times L n) bytes at
  read_fails l n bytes so_far rest at less s f = by s.left s.lift s.count
    where
      by : (left : ℕ) → Lift (Times L n) bytes (Times L left) rest (λ more. so_far ++ more) → length so_far + left ≡ n → Fails (Times L n) bytes at
      by zero lift count = absurd (omega arith)
      by (suc left) lift count = lift.fails at (times-fails l left rest at f)
