-- The one text that a language has for a value, where it has one.
use Rattle.std.proofs.Common.{◌≡◌, ℕ, zero, suc, ℤ, List, [], ◌∷◌, ◌++◌, length, sym, ap, ◌∙◌}
use Rattle.text_pieces.specs.Decimals.{decimal, signed_decimal}
use Rattle.text_pieces.specs.Languages.{Cat, Behind, Blank, Image, Times}
use Rattle.text_pieces.specs.Numbers.{Number, Any, Signed, Counted}
use Rattle.text_pieces.specs.Fronts.{Front}
use Rattle.text_pieces.specs.Kinds.{OneKind}
use Rattle.text_pieces.specs.Runs.{Run}
use Rattle.text_pieces.proofs.Repeated.{length-times}

-- each text of the language for a value is this one
abbrev pub Texts : {A : Type 0} → (A → List ℕ → Type 0) → (A → List ℕ) → Type 0
Texts {A} L f = (a : A) (t : List ℕ) → L a t → t ≡ f a

pub text-cat : {A B : Type 0} (L : A → List ℕ → Type 0) (M : A → B → List ℕ → Type 0) (f : A → List ℕ) (g : A → B → List ℕ) → Texts L f → ((a : A) → Texts (M a) (g a))
    → Texts (Cat L M) (λ p. f p.0 ++ g p.0 p.1)
text-cat L M f g l m p t s = s.joined ∙ ap (λ z. z ++ s.second) (l p.0 s.first s.first_spelled) ∙ ap (λ z. f p.0 ++ z) (m p.0 p.1 s.second s.second_spelled)

pub text-behind : {A : Type 0} (byte : ℕ) (L : A → List ℕ → Type 0) (f : A → List ℕ) → Texts L f → Texts (Behind byte L) (λ a. byte ∷ f a)
text-behind byte L f l a t s = s.joined ∙ ap (λ z. byte ∷ z) (l a s.behind s.spelled)

pub text-blank : {A : Type 0} (L : A → List ℕ → Type 0) (f : A → List ℕ) → Texts L f → Texts (Blank L) (λ a. 32 ∷ f a)
text-blank L = text-behind 32 L

pub text-number : (In : ℕ → Type 0) → Texts (Number In) decimal
text-number In n t s = s.digits

pub text-signed : (In : ℤ → Type 0) → Texts (Signed In) signed_decimal
text-signed In z t s = s.digits

pub text-front : {A : Type 0} (word : List ℕ) (L : A → List ℕ → Type 0) (f : A → List ℕ) → Texts L f → Texts (Front word L) (λ a. word ++ f a)
text-front [] L f l = l
text-front (b ∷ bs) L f l = text-behind b (Front bs L) (λ a. bs ++ f a) (text-front bs L f l)

-- of a value that is made
pub text-image : {A B : Type 0} (f : A → B) (L : A → List ℕ → Type 0) (g : B → List ℕ) → Texts L (λ a. g (f a)) → Texts (Image f L) g
text-image f L g l b t s = l s.from t s.spelled ∙ ap g (sym s.is)

pub text-kinds : {K A : Type 0} (Parts : K → A → List ℕ → Type 0) (f : A → List ℕ) → ((k : K) → Texts (Parts k) f) → Texts (OneKind Parts) f
text-kinds Parts f l a t s = l s.kind a t s.spelled

abbrev pub each_text : {A : Type 0} → (A → List ℕ) → List A → List ℕ
each_text f [] = []
each_text f (x ∷ xs) = f x ++ each_text f xs

pub text-times : {A : Type 0} (L : A → List ℕ → Type 0) (f : A → List ℕ) → Texts L f → (n : ℕ) → Texts (Times L n) (each_text f)
text-times L f l zero [] t s = s
text-times L f l zero (x ∷ xs) t s = absurd s
text-times L f l (suc n) [] t s = absurd s
text-times L f l (suc n) (x ∷ xs) t s = s.joined ∙ ap (λ z. z ++ s.second) (l x s.first s.first_spelled) ∙ ap (λ z. f x ++ z) (text-times L f l n xs s.second s.second_spelled)

abbrev pub counted_text : {A : Type 0} → (A → List ℕ) → List A → List ℕ
counted_text f xs = (32 ∷ decimal (length xs)) ++ each_text f xs

pub text-counted : {A : Type 0} (L : A → List ℕ → Type 0) (f : A → List ℕ) → Texts L f → Texts (Counted L) (counted_text f)
text-counted {A} L f l xs t s =
    let c = s.spelled in
    let n = s.from.0 in
    let count : n ≡ length (s.from.1) = sym (length-times L n (s.from.1) c.second c.second_spelled) in
    text-cat (Blank (Number Any)) (Times L) (λ k. 32 ∷ decimal k) (λ k. each_text f) (text-blank (Number Any) decimal (text-number Any)) (text-times L f l) s.from t c
    ∙ ap (λ k. (32 ∷ decimal k) ++ each_text f (s.from.1)) count ∙ ap (counted_text f) (sym s.is)

abbrev pub run_text : {S A : Type 0} → (S → A → List ℕ) → (S → A → S) → List ℕ → S → List A → List ℕ
run_text f next end s [] = end
run_text f next end s (x ∷ xs) = f s x ++ run_text f next end (next s x) xs

pub text-run : {S A : Type 0} (L : S → A → List ℕ → Type 0) (next : S → A → S) (end : List ℕ) (f : S → A → List ℕ) → ((s : S) → Texts (L s) (f s)) → (s : S) → Texts (Run L next end s) (run_text f next end s)
text-run L next end f l s [] t h = h
text-run L next end f l s (x ∷ xs) t h = h.joined ∙ ap (λ z. z ++ h.more) (l s x h.first h.first_is) ∙ ap (λ z. f s x ++ z) (text-run L next end f l (next s x) xs h.more h.more_is)
