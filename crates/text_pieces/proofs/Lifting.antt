-- From a part that is read to the whole: where the part fails the whole fails, and where it is read the whole is.
use Rattle.std.proofs.Common.{◌≡◌, ℕ, false, List, [], ◌∷◌, ◌++◌, length, refl, sym, ap, subst, ◌∙◌}
use Rattle.text_pieces.specs.Decimals.{is_digit}
use Rattle.text_pieces.specs.Languages.{NoDigit, Reads, StopsAt, Fails, Cat, Behind, Blank, Image}
use Rattle.text_pieces.specs.declared.bad_texts.Unread.{Unread}
use Rattle.text_pieces.specs.declared.bad_texts.Unread.TheVariants.{Memory, Bad}
use Rattle.text_pieces.specs.Failing.{Unreadable}
use Rattle.text_pieces.proofs.Joining.{cat_reads, one_front-cat, cat_fails_first, cat_fails_second, clear-behind, has_one-behind, one_front-behind, behind_reads, behind_fails, behind_missing, no_digit-append}
use Rattle.text_pieces.specs.Unambiguous.{HasOne, OneFront, Unambiguous, StartsClear}

-- the last part of a whole is read in the middle of the bytes, and f makes the whole's value
pub record Lift {A B : Type 0} (L : A → List ℕ → Type 0) (bytes : List ℕ) (M : B → List ℕ → Type 0) (middle : List ℕ) (f : B → A) : Type 0 where
  pub fails : (left : ℕ) → Fails M middle left → Fails L bytes left
  pub reads : (b : B) (rest : List ℕ) → Reads M middle b rest → Reads L bytes (f b) rest

pub lift-self : {A : Type 0} (L : A → List ℕ → Type 0) (bytes : List ℕ) → Lift L bytes L bytes (λ (a : A). a)
lift-self L bytes = record { fails = λ left f. f; reads = λ b rest r. r }

pub lift-then : {A B C : Type 0} {L : A → List ℕ → Type 0} {M : B → List ℕ → Type 0} {N : C → List ℕ → Type 0} {bytes middle last : List ℕ} {f : B → A} {g : C → B}
    → Lift L bytes M middle f → Lift M middle N last g → Lift L bytes N last (λ c. f (g c))
lift-then {g = g} l m = record { fails = λ left h. l.fails left (m.fails left h); reads = λ c rest r. l.reads (g c) rest (m.reads c rest r) }

pub lift-cat : {A B : Type 0} (L : A → List ℕ → Type 0) (M : A → B → List ℕ → Type 0) (bytes middle : List ℕ) (a : A) → OneFront L → ((a : A) → StartsClear (M a)) → Reads L bytes a middle
    → Lift (Cat L M) bytes (M a) middle (λ b. (a, b))
lift-cat L M bytes middle a one clear r = record {
  fails = λ left h. cat_fails_second L M bytes middle a left one clear r h;
  reads = λ b rest s. cat_reads L M bytes middle rest a b r s;
}

pub lift-behind : {A : Type 0} (byte : ℕ) (L : A → List ℕ → Type 0) (bytes after : List ℕ) → bytes ≡ byte ∷ after → Lift (Behind byte L) bytes L after (λ a. a)
lift-behind byte L bytes after e = record {
  fails = λ left h. subst (λ z. Fails (Behind byte L) z left) (sym e) (behind_fails byte L after left h);
  reads = λ b rest s. subst (λ z. Reads (Behind byte L) z b rest) (sym e) (behind_reads byte L after rest b s);
}

pub lift-blank : {A : Type 0} (L : A → List ℕ → Type 0) (bytes after : List ℕ) → bytes ≡ 32 ∷ after → Lift (Blank L) bytes L after (λ a. a)
lift-blank L = lift-behind 32 L

pub lift-image : {A B : Type 0} (f : A → B) (L : A → List ℕ → Type 0) (bytes : List ℕ) → Lift (Image f L) bytes L bytes f
lift-image f L bytes = record {
  fails = λ left h. record {
    front = h.front;
    rest = h.rest;
    whole = h.whole;
    left_is = h.left_is;
    goes_on = let g = h.goes_on in record { value = f g.value; text = g.text; tail = g.tail; spelled = record { from = g.value; is = refl; spelled = g.spelled }; begins = g.begins };
    stops = stop h.front h.rest h.stops;
    none = λ b rest r. h.none r.spelled.from rest (record { text = r.text; spelled = r.spelled.spelled; whole = r.whole; ends = r.ends });
  };
  reads = λ b rest r. record { text = r.text; spelled = record { from = b; is = refl; spelled = r.spelled }; whole = r.whole; ends = r.ends };
}
  where
    stop : (front rest : List ℕ) → StopsAt L front rest → StopsAt (Image f L) front rest
    stop front [] k = tt
    stop front (b ∷ bs) k = λ g. k (record { value = g.spelled.from; text = g.text; tail = g.tail; spelled = g.spelled.spelled; begins = g.begins })

-- ---- languages whose texts are told apart
pub unambiguous-behind : {A : Type 0} (byte : ℕ) (L : A → List ℕ → Type 0) → is_digit byte ≡ false → OneFront L → HasOne L → Unambiguous (Behind byte L)
unambiguous-behind byte L h one some = record { one = one_front-behind byte L one; clear = clear-behind byte L h; some = has_one-behind byte L some }

pub unambiguous-blank : {A : Type 0} (L : A → List ℕ → Type 0) → OneFront L → HasOne L → Unambiguous (Blank L)
unambiguous-blank L = unambiguous-behind 32 L refl

pub unambiguous-cat : {A B : Type 0} (L : A → List ℕ → Type 0) (M : A → B → List ℕ → Type 0) → Unambiguous L → ((a : A) → Unambiguous (M a)) → Unambiguous (Cat L M)
unambiguous-cat L M l m = record {
  one = one_front-cat L M l.one (λ a. (m a).one) (λ a. (m a).clear);
  clear = λ p t s. subst NoDigit (sym s.joined) (no_digit-append s.first s.second (l.clear p.0 s.first s.first_spelled) ((m p.0).clear p.1 s.second s.second_spelled));
  some =
      let a = l.some in
      let b = (m a.value).some in
      record { value = (a.value, b.value); text = a.text ++ b.text; spelled = record { first = a.text; second = b.text; first_spelled = a.spelled; second_spelled = b.spelled; joined = refl } };
}

pub one_front-image : {A B : Type 0} (f : A → B) (L : A → List ℕ → Type 0) → OneFront L → OneFront (Image f L)
one_front-image f L one a b t u x y s r h d e =
    let same = one s.from r.from t u x y s.spelled r.spelled h d e in
    record { value = s.is ∙ ap f same.value ∙ sym r.is; text = same.text; rest = same.rest }

pub has_one-image : {A B : Type 0} (f : A → B) (L : A → List ℕ → Type 0) → HasOne L → HasOne (Image f L)
has_one-image f L h = record { value = f h.value; text = h.text; spelled = record { from = h.value; is = refl; spelled = h.spelled } }

pub unambiguous-image : {A B : Type 0} (f : A → B) (L : A → List ℕ → Type 0) → Unambiguous L → Unambiguous (Image f L)
unambiguous-image f L l = record { one = one_front-image f L l.one; clear = λ b t s. l.clear s.from t s.spelled; some = has_one-image f L l.some }

-- the first part fails
pub first_fails : {A B : Type 0} (L : A → List ℕ → Type 0) (M : A → B → List ℕ → Type 0) (bytes : List ℕ) (left : ℕ) → ((a : A) → Unambiguous (M a)) → Fails L bytes left → Fails (Cat L M) bytes left
first_fails L M bytes left m f = cat_fails_first L M bytes left (λ a t s. (m a).some) (λ a. (m a).clear) f

-- the first part was read
pub first_reads : {A B : Type 0} (L : A → List ℕ → Type 0) (M : A → B → List ℕ → Type 0) (bytes middle : List ℕ) (a : A) → OneFront L → ((a : A) → Unambiguous (M a)) → Reads L bytes a middle
    → Lift (Cat L M) bytes (M a) middle (λ b. (a, b))
first_reads L M bytes middle a one m r = lift-cat L M bytes middle a one (λ a. (m a).clear) r

pub clear-cat : {A B : Type 0} (L : A → List ℕ → Type 0) (M : A → B → List ℕ → Type 0) → StartsClear L → ((a : A) → StartsClear (M a)) → StartsClear (Cat L M)
clear-cat L M l m p t s = subst NoDigit (sym s.joined) (no_digit-append s.first s.second (l p.0 s.first s.first_spelled) (m p.0 p.1 s.second s.second_spelled))

-- ---- where want of memory may come in between
pub unreadable_on : {A B : Type 0} (L : A → List ℕ → Type 0) (bytes : List ℕ) (M : B → List ℕ → Type 0) (middle : List ℕ) → ((left : ℕ) → Fails M middle left → Fails L bytes left)
    → (e : Unread) → Unreadable M middle e → Unreadable L bytes e
unreadable_on L bytes M middle on Memory h = tt
unreadable_on L bytes M middle on (Bad bad) h = on bad.left h

-- what is told where the byte isn't there
pub no_behind : {A : Type 0} (byte : ℕ) (L : A → List ℕ → Type 0) (bytes : List ℕ) (left : ℕ) → HasOne L → (left ≡ length bytes) × ((rest : List ℕ) → bytes ≡ byte ∷ rest → ⊥) → Fails (Behind byte L) bytes left
no_behind byte L bytes left one h = subst (Fails (Behind byte L) bytes) (sym h.0) (behind_missing byte L bytes one h.1)

pub no_blank : {A : Type 0} (L : A → List ℕ → Type 0) (bytes : List ℕ) (left : ℕ) → HasOne L → (left ≡ length bytes) × ((rest : List ℕ) → bytes ≡ 32 ∷ rest → ⊥) → Fails (Blank L) bytes left
no_blank L = no_behind 32 L
