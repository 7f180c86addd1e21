-- Parts that are read one behind the other.
use Rattle.std.proofs.Common.{ℕ, List}
use Rattle.text_pieces.specs.declared.bad_texts.Unread.{Unread}
use Rattle.text_pieces.specs.Failing.{Unreadable}
use Rattle.text_pieces.specs.Languages.{Reads, Fails, Cat}
use Rattle.text_pieces.proofs.Lifting.{Lift, lift-then, unambiguous-cat, first_fails, first_reads, unreadable_on}
use Rattle.text_pieces.specs.Unambiguous.{Unambiguous}

pub read_next : {A B C : Type 0} {W : C → List ℕ → Type 0} {L : A → List ℕ → Type 0} {M : A → B → List ℕ → Type 0} {bytes middle last : List ℕ} {f : A × B → C} {a : A}
    → Lift W bytes (Cat L M) middle f → Unambiguous L → ((a : A) → Unambiguous (M a)) → Reads L middle a last → Lift W bytes (M a) last (λ b. f (a, b))
read_next {L = L} {M = M} {middle = middle} {last = last} {a = a} w l m r = lift-then w (first_reads L M middle last a l.one m r)

pub next_fails : {A B C : Type 0} {W : C → List ℕ → Type 0} {L : A → List ℕ → Type 0} {M : A → B → List ℕ → Type 0} {bytes middle : List ℕ} {f : A × B → C} {left : ℕ}
    → Lift W bytes (Cat L M) middle f → ((a : A) → Unambiguous (M a)) → Fails L middle left → Fails W bytes left
next_fails {L = L} {M = M} {middle = middle} {left = left} w m h = w.fails left (first_fails L M middle left m h)

pub next_unread : {A B C : Type 0} {W : C → List ℕ → Type 0} {L : A → List ℕ → Type 0} {M : A → B → List ℕ → Type 0} {bytes middle : List ℕ} {f : A × B → C}
    → Lift W bytes (Cat L M) middle f → ((a : A) → Unambiguous (M a)) → (e : Unread) → Unreadable L middle e → Unreadable W bytes e
next_unread {W = W} {L = L} {M = M} {bytes = bytes} {middle = middle} w m e h = unreadable_on W bytes L middle (λ left g. w.fails left (first_fails L M middle left m g)) e h

pub last_unread : {B C : Type 0} {W : C → List ℕ → Type 0} {M : B → List ℕ → Type 0} {bytes middle : List ℕ} {f : B → C} → Lift W bytes M middle f → (e : Unread) → Unreadable M middle e → Unreadable W bytes e
last_unread {W = W} {M = M} {bytes = bytes} {middle = middle} w e h = unreadable_on W bytes M middle w.fails e h

pub both : {A B : Type 0} {L : A → List ℕ → Type 0} {M : A → B → List ℕ → Type 0} → Unambiguous L → ((a : A) → Unambiguous (M a)) → Unambiguous (Cat L M)
both {L = L} {M = M} l m = unambiguous-cat L M l m
