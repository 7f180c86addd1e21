-- From a part that is read to the whole: where the part fails the whole fails, and where it is read the whole is.
use Rattle.std.proofs.Common.{◌≡◌, ℕ, Bool, List, [], ◌∷◌, ◌++◌, refl, sym, subst}
use Rattle.text_pieces.specs.Languages.{StopsAt, Cat, Behind, Image, ReadsTo, FailsTo}
use Rattle.text_pieces.specs.declared.bad_texts.Unread.{Unread}
use Rattle.text_pieces.specs.declared.bad_texts.Unread.TheVariants.{Memory, Bad}
use Rattle.text_pieces.specs.Failing.{UnreadTo}
use Rattle.text_pieces.specs.Unambiguous.{HasOne, OneFrontTo}
use Rattle.text_pieces.proofs.Ends.{Within, Joins, cat_reads, one_front-cat, one_front-behind, one_front-image, cat_fails_first, cat_fails_second, behind_reads, behind_fails, fails_within}

-- the last part of a whole is read in the middle of the bytes, and f makes the whole's value
pub record Lift {A B : Type 0} (q : ℕ → Bool) (L : A → List ℕ → Type 0) (bytes : List ℕ) (M : B → List ℕ → Type 0) (middle : List ℕ) (f : B → A) : Type 0 where
  pub fails : (left : ℕ) → FailsTo q M middle left → FailsTo q L bytes left
  pub reads : (b : B) (rest : List ℕ) → ReadsTo q M middle b rest → ReadsTo q L bytes (f b) rest

pub lift-self : {A : Type 0} (q : ℕ → Bool) (L : A → List ℕ → Type 0) (bytes : List ℕ) → Lift q L bytes L bytes (λ (a : A). a)
lift-self q L bytes = record { fails = λ left f. f; reads = λ b rest r. r }

pub lift-then : {A B C : Type 0} {q : ℕ → Bool} {L : A → List ℕ → Type 0} {M : B → List ℕ → Type 0} {N : C → List ℕ → Type 0} {bytes middle last : List ℕ} {f : B → A} {g : C → B}
    → Lift q L bytes M middle f → Lift q M middle N last g → Lift q L bytes N last (λ c. f (g c))
lift-then {g = g} l m = record { fails = λ left h. l.fails left (m.fails left h); reads = λ c rest r. l.reads (g c) rest (m.reads c rest r) }

pub lift-behind : {A : Type 0} (q : ℕ → Bool) (byte : ℕ) (L : A → List ℕ → Type 0) (bytes after : List ℕ) → bytes ≡ byte ∷ after → Lift q (Behind byte L) bytes L after (λ a. a)
lift-behind q byte L bytes after e = record {
  fails = λ left h. subst (λ z. FailsTo q (Behind byte L) z left) (sym e) (behind_fails q byte L after left h);
  reads = λ b rest s. subst (λ z. ReadsTo q (Behind byte L) z b rest) (sym e) (behind_reads q byte L after rest b s);
}

pub lift-image : {A B : Type 0} (q : ℕ → Bool) (f : A → B) (L : A → List ℕ → Type 0) (bytes : List ℕ) → Lift q (Image f L) bytes L bytes f
lift-image q f L bytes = record {
  fails = λ left h. record {
    front = h.front;
    rest = h.rest;
    whole = h.whole;
    left_is = h.left_is;
    goes_on = let g = h.goes_on in record { value = f g.value; text = g.text; tail = g.tail; spelled = record { from = g.value; is = refl; spelled = g.spelled }; begins = g.begins };
    stops = stop h.front h.rest h.stops;
    none = λ b rest r. h.none r.spelled.from rest (record { text = r.text; spelled = r.spelled.spelled; whole = r.whole; ends = r.ends });
  };
  reads = λ b rest r. record { text = r.text; spelled = record { from = b; is = refl; spelled = r.spelled }; whole = r.whole; ends = r.ends };
}
  where
    stop : (front rest : List ℕ) → StopsAt L front rest → StopsAt (Image f L) front rest
    stop front [] k = tt
    stop front (b ∷ bs) k = λ g. k (record { value = g.spelled.from; text = g.text; tail = g.tail; spelled = g.spelled.spelled; begins = g.begins })

-- ---- languages whose texts are told apart, each up to a byte that isn't of p
-- at most one text is read in front of bytes, and there is one
pub record Sure {A : Type 0} (p : ℕ → Bool) (L : A → List ℕ → Type 0) : Type 0 where
  pub one : OneFrontTo p L
  pub some : HasOne L

-- and what stands in front of it may be read up to a byte that isn't of p
pub record Next {B : Type 0} (p q : ℕ → Bool) (M : B → List ℕ → Type 0) : Type 0 where
  pub sure : Sure q M
  pub joins : Joins p q M

pub sure-cat : {A B : Type 0} {p q : ℕ → Bool} {L : A → List ℕ → Type 0} {M : A → B → List ℕ → Type 0} → Sure p L → ((a : A) → Next p q (M a)) → Sure q (Cat L M)
sure-cat {p = p} {q = q} {L = L} {M = M} l m = record {
  one = one_front-cat p q L M l.one (λ a. (m a).sure.one) (λ a. (m a).joins);
  some =
      let a = l.some in
      let b = (m a.value).sure.some in
      record { value = (a.value, b.value); text = a.text ++ b.text; spelled = record { first = a.text; second = b.text; first_spelled = a.spelled; second_spelled = b.spelled; joined = refl } };
}

pub sure-image : {A B : Type 0} {q : ℕ → Bool} (f : A → B) {L : A → List ℕ → Type 0} → Sure q L → Sure q (Image f L)
sure-image {q = q} f {L = L} l = record {
  one = one_front-image q f L l.one;
  some = let h = l.some in record { value = f h.value; text = h.text; spelled = record { from = h.value; is = refl; spelled = h.spelled } };
}

pub sure-behind : {A : Type 0} {q : ℕ → Bool} (byte : ℕ) {L : A → List ℕ → Type 0} → Sure q L → Sure q (Behind byte L)
sure-behind {q = q} byte {L = L} l = record {
  one = one_front-behind q byte L l.one;
  some = let h = l.some in record { value = h.value; text = byte ∷ h.text; spelled = record { behind = h.text; spelled = h.spelled; joined = refl } };
}

-- ---- parts that are read one behind the other
pub read_next : {A B C : Type 0} {p q : ℕ → Bool} {W : C → List ℕ → Type 0} {L : A → List ℕ → Type 0} {M : A → B → List ℕ → Type 0} {bytes middle last : List ℕ} {f : A × B → C} {a : A}
    → Lift q W bytes (Cat L M) middle f → Sure p L → ((a : A) → Next p q (M a)) → ReadsTo p L middle a last → Lift q W bytes (M a) last (λ b. f (a, b))
read_next {p = p} {q = q} {L = L} {M = M} {middle = middle} {last = last} {a = a} w l m r = lift-then w (record {
  fails = λ left h. cat_fails_second p q L M middle last a left l.one (λ a. (m a).joins) r h;
  reads = λ b rest s. cat_reads p q L M middle last rest a b r s;
})

pub next_fails : {A B C : Type 0} {p q : ℕ → Bool} {W : C → List ℕ → Type 0} {L : A → List ℕ → Type 0} {M : A → B → List ℕ → Type 0} {bytes middle : List ℕ} {f : A × B → C} {left : ℕ}
    → Lift q W bytes (Cat L M) middle f → ((a : A) → Next p q (M a)) → FailsTo p L middle left → FailsTo q W bytes left
next_fails {p = p} {q = q} {L = L} {M = M} {middle = middle} {left = left} w m h = w.fails left (cat_fails_first p q L M middle left (λ a. (m a).sure.some) (λ a. (m a).joins) h)

-- ---- where want of memory may come in between
pub unread_on : {A B : Type 0} (p q : ℕ → Bool) (L : A → List ℕ → Type 0) (bytes : List ℕ) (M : B → List ℕ → Type 0) (middle : List ℕ) → ((left : ℕ) → FailsTo p M middle left → FailsTo q L bytes left)
    → (e : Unread) → UnreadTo p M middle e → UnreadTo q L bytes e
unread_on p q L bytes M middle on Memory h = tt
unread_on p q L bytes M middle on (Bad bad) h = on bad.left h

pub next_unread : {A B C : Type 0} {p q : ℕ → Bool} {W : C → List ℕ → Type 0} {L : A → List ℕ → Type 0} {M : A → B → List ℕ → Type 0} {bytes middle : List ℕ} {f : A × B → C}
    → Lift q W bytes (Cat L M) middle f → ((a : A) → Next p q (M a)) → (e : Unread) → UnreadTo p L middle e → UnreadTo q W bytes e
next_unread {p = p} {q = q} {W = W} {L = L} {M = M} {bytes = bytes} {middle = middle} w m e h = unread_on p q W bytes L middle (λ left g. next_fails w m g) e h

pub last_unread : {B C : Type 0} {q : ℕ → Bool} {W : C → List ℕ → Type 0} {M : B → List ℕ → Type 0} {bytes middle : List ℕ} {f : B → C} → Lift q W bytes M middle f → (e : Unread) → UnreadTo q M middle e → UnreadTo q W bytes e
last_unread {q = q} {W = W} {M = M} {bytes = bytes} {middle = middle} w e h = unread_on q q W bytes M middle w.fails e h

pub unread_within : {A : Type 0} (p q : ℕ → Bool) (L : A → List ℕ → Type 0) (bytes : List ℕ) → Within p q → (e : Unread) → UnreadTo p L bytes e → UnreadTo q L bytes e
unread_within p q L bytes w e h = unread_on p q L bytes L bytes (λ left f. fails_within p q L bytes left w f) e h

pub bad_within : {A : Type 0} {p q : ℕ → Bool} {L : A → List ℕ → Type 0} {bytes : List ℕ} {left : ℕ} → Within p q → FailsTo p L bytes left → FailsTo q L bytes left
bad_within {p = p} {q = q} {L = L} {bytes = bytes} {left = left} w f = fails_within p q L bytes left w f
