-- Values that have a spelling.
use Rattle.std.proofs.Common.{ℕ, ℤ, List, [], ◌∷◌, ◌++◌, length, refl}
use Rattle.text_pieces.specs.Decimals.{decimal, signed_decimal}
use Rattle.text_pieces.specs.Languages.{HasSpelling, Cat, Behind, Blank, Image, Times}
use Rattle.text_pieces.specs.Numbers.{Number, Any, Signed, Counted}

pub has-cat : {A B : Type 0} (L : A → List ℕ → Type 0) (M : A → B → List ℕ → Type 0) (a : A) (b : B) → HasSpelling L a → HasSpelling (M a) b → HasSpelling (Cat L M) (a, b)
has-cat L M a b h k = record { text = h.text ++ k.text; spelled = record { first = h.text; second = k.text; first_spelled = h.spelled; second_spelled = k.spelled; joined = refl } }

pub has-behind : {A : Type 0} (byte : ℕ) (L : A → List ℕ → Type 0) (a : A) → HasSpelling L a → HasSpelling (Behind byte L) a
has-behind byte L a h = record { text = byte ∷ h.text; spelled = record { behind = h.text; spelled = h.spelled; joined = refl } }

pub has-blank : {A : Type 0} (L : A → List ℕ → Type 0) (a : A) → HasSpelling L a → HasSpelling (Blank L) a
has-blank L = has-behind 32 L

pub has-image : {A B : Type 0} (f : A → B) (L : A → List ℕ → Type 0) (a : A) → HasSpelling L a → HasSpelling (Image f L) (f a)
has-image f L a h = record { text = h.text; spelled = record { from = a; is = refl; spelled = h.spelled } }

pub has-number : (In : ℕ → Type 0) (n : ℕ) → In n → HasSpelling (Number In) n
has-number In n h = record { text = decimal n; spelled = record { is_in = h; digits = refl } }

pub has-signed : (In : ℤ → Type 0) (z : ℤ) → In z → HasSpelling (Signed In) z
has-signed In z h = record { text = signed_decimal z; spelled = record { is_in = h; digits = refl } }

-- each of these values has one
abbrev pub EachHas : {A : Type 0} → (A → List ℕ → Type 0) → List A → Type 0
EachHas L [] = Unit {0}
EachHas L (x ∷ xs) = HasSpelling L x × EachHas L xs

pub has-times : {A : Type 0} (L : A → List ℕ → Type 0) (xs : List A) → EachHas L xs → HasSpelling (Times L (length xs)) xs
has-times L [] h = record { text = []; spelled = refl }
has-times L (x ∷ xs) h =
    let more = has-times L xs h.1 in
    record { text = h.0.text ++ more.text; spelled = record { first = h.0.text; second = more.text; first_spelled = h.0.spelled; second_spelled = more.spelled; joined = refl } }

pub has-counted : {A : Type 0} (L : A → List ℕ → Type 0) (xs : List A) → EachHas L xs → HasSpelling (Counted L) xs
has-counted {A} L xs h =
    has-image (λ (p : ℕ × List A). p.1) (Cat (Blank (Number Any)) (Times L)) (length xs, xs)
    (has-cat (Blank (Number Any)) (Times L) (length xs) xs (has-blank (Number Any) (length xs) (has-number Any (length xs) tt)) (has-times L xs h))
