-- The one text of each term.
use Rattle.std.proofs.Common.{◌≡◌, ℕ, zero, suc, ℤ, List, [], ◌∷◌, ◌++◌, map, Option, Some, None, refl, sym, ap, ◌∙◌, append_assoc}
use Rattle.std.specs.Prelude.{codes}
use Rattle.term_base.specs.declared.terms.Term.{Term}
use Rattle.term_base.specs.declared.terms.Term.TheVariants as term
use Rattle.term_base.specs.TermFolds.{fold-Var, fold-Num, fold-True, fold-Sum, fold-Scale, fold-App}
use Rattle.term_base.specs.TermInduction.{term_induction}
use Rattle.text_pieces.specs.Decimals.{decimal, signed_decimal}
use Rattle.text_pieces.specs.Numbers.{Number, Word32, Signed, Signed128}
use Rattle.text_pieces.proofs.OneText.{Texts, text-cat, text-number, text-signed, text-front, text-image, text-kinds, run_text, text-run}
pub use Rattle.term_text.specs.Texts.{term_text}
use Rattle.term_text.specs.Texts.{variable_text, term_step, arguments_text, listed}
use Rattle.text_pieces.specs.Fronts.{Front, Word}
use Rattle.term_text.specs.declared.kinds.VariableKind.{VariableKind}
use Rattle.term_text.specs.declared.kinds.VariableKind.TheVariants.{Abstraction, Individual, Int, Declared}
use Rattle.term_text.specs.declared.kinds.TermKind.{TermKind}
use Rattle.term_text.specs.declared.kinds.TermKind.TheVariants.{Variable as VariableTerm, Number as NumberTerm, Truth, Bracket, Symbol}
use Rattle.term_text.specs.declared.kinds.Operation.{Operation}
use Rattle.term_text.specs.declared.kinds.Operation.TheVariants.{Plus, Times}
use Rattle.term_text.specs.Variables.{abstraction, individual, integer, declared, VariableParts, SpellsVariable}
use Rattle.term_text.specs.Terms.{number_step, number_of, Sign, operated, Second, MoreArguments, ListedArguments, Arguments, TermParts, Layer, TermWithin, SpellsTerm}

-- ---- variables
text-variable_parts : (k : VariableKind) → Texts (VariableParts k) variable_text
text-variable_parts Abstraction = text-image abstraction _ variable_text (text-front (codes "A") (Number Word32) decimal (text-number Word32))
text-variable_parts Individual = text-image individual _ variable_text (text-front (codes "I") (Number Word32) decimal (text-number Word32))
text-variable_parts Int = text-image integer _ variable_text (text-front (codes "N") (Number Word32) decimal (text-number Word32))
text-variable_parts Declared =
    text-image declared _ variable_text (text-front (codes "D") _ (λ p. decimal p.0 ++ (codes "." ++ decimal p.1))
    (text-cat (Number Word32) (λ n. Front (codes ".") (Number Word32)) decimal (λ n id. codes "." ++ decimal id) (text-number Word32) (λ n. text-front (codes ".") (Number Word32) decimal (text-number Word32))))

pub text-variable : Texts SpellsVariable variable_text
text-variable = text-kinds VariableParts variable_text text-variable_parts

-- ---- numbers as terms
abbrev IsNumber : Term → Type 0
IsNumber a = (k : ℤ) → number_of a ≡ Some k → a ≡ term.Num k

none_some : {k : ℤ} → ◌≡◌ {A = Option ℤ} None (Some k) → ⊥
none_some h = cc

some_same : {j k : ℤ} → ◌≡◌ {A = Option ℤ} (Some j) (Some k) → j ≡ k
some_same h = cc

number_is : (a : Term) → IsNumber a
number_is =
    term_induction IsNumber
    (λ v k h. absurd (none_some (sym (fold-Var (Option ℤ) number_step v) ∙ h)))
    (λ n k h. ap term.Num (some_same (sym (fold-Num (Option ℤ) number_step n) ∙ h)))
    (λ k h. absurd (none_some (sym (fold-True (Option ℤ) number_step) ∙ h)))
    (λ a b p q k h. absurd (none_some (sym (fold-Sum (Option ℤ) number_step a b) ∙ h)))
    (λ j a p k h. absurd (none_some (sym (fold-Scale (Option ℤ) number_step j a) ∙ h)))
    (λ f ts ps k h. absurd (none_some (sym (fold-App (Option ℤ) number_step f ts) ∙ h)))

-- ---- in brackets
abbrev sign_text : Operation → List ℕ
sign_text Plus = codes "+"
sign_text (Times k) = codes "*"

text-sign : (n : Option ℤ) → Texts (Sign n) sign_text
text-sign n Plus t s = s
text-sign (Some k) (Times j) t s = s.1
text-sign None (Times j) t s = absurd s

-- the first term of a multiple is its number
first_number : (a : Term) (k : ℤ) (n : Option ℤ) (t : List ℕ) → number_of a ≡ n → Sign n (Times k) t → a ≡ term.Num k
first_number a k (Some j) t e s = number_is a k (e ∙ ap Some (sym s.0))
first_number a k None t e s = absurd s

abbrev behind_sign : Term → List ℕ
behind_sign b = codes " " ++ (term_text b ++ codes ")")

operated_is : (a : Term) (o : Operation) (b : Term) (t : List ℕ) → Sign (number_of a) o t → codes "(" ++ (term_text a ++ (codes " " ++ (sign_text o ++ behind_sign b))) ≡ term_text (operated a o b)
operated_is a Plus b t s = sym (fold-Sum (List ℕ) term_step a b)
operated_is a (Times k) b t s =
    let number : term_text a ≡ signed_decimal k = ap term_text (first_number a k (number_of a) t refl s) ∙ fold-Num (List ℕ) term_step k in
    ap (λ z. codes "(" ++ (z ++ (codes " " ++ (codes "*" ++ behind_sign b)))) number ∙ sym (fold-Scale (List ℕ) term_step k b)

module _ (L : Term → List ℕ → Type 0) (l : Texts L term_text) where
  text-second : Texts (Second L) (λ p. behind_sign p.0)
  text-second = text-front (codes " ") _ (λ p. term_text p.0 ++ codes ")") (text-cat L (λ b. Word (codes ")")) term_text (λ b u. codes ")") l (λ b u t e. e))

  text-bracket : Texts (TermParts L Bracket) term_text
  text-bracket a t s =
      let p = s.from in
      let f = s.spelled in
      let c = f.spelled in
      let b = c.second_spelled in
      let d = b.spelled in
      let parts = text-cat (Sign (number_of p.0)) (λ sign. Second L) sign_text (λ sign q. behind_sign q.0) (text-sign (number_of p.0)) (λ sign. text-second) p.1 b.behind d in
      f.joined ∙ ap (λ z. 40 ∷ z) (c.joined ∙ ap (λ z. z ++ c.second) (l p.0 c.first c.first_spelled) ∙ ap (λ z. term_text p.0 ++ z) (b.joined ∙ ap (λ z. 32 ∷ z) parts))
      ∙ operated_is p.0 (p.1.0) (p.1.1.0) d.first d.first_spelled ∙ ap term_text (sym s.is)

  -- ---- symbols
  abbrev comma : Unit {0} → Term → List ℕ
  comma u a = codes "," ++ term_text a

  abbrev more_text : List Term → List ℕ
  more_text = run_text comma (λ u a. u) (codes ")") tt

  more_is : (ts : List Term) → more_text ts ≡ listed (codes ",") (map term_text ts) ++ codes ")"
  more_is [] = refl
  more_is (t ∷ ts) =
      ap (λ z. (codes "," ++ term_text t) ++ z) (more_is ts) ∙ append_assoc (codes ",") (term_text t) (listed (codes ",") (map term_text ts) ++ codes ")")
      ∙ ap (λ z. codes "," ++ z) (sym (append_assoc (term_text t) (listed (codes ",") (map term_text ts)) (codes ")")))

  text-listed : Texts (ListedArguments L) (λ ts. arguments_text (map term_text ts))
  text-listed =
      text-image (λ (p : Term × List Term). p.0 ∷ p.1) _ (λ ts. arguments_text (map term_text ts)) (λ p t s.
      text-front (codes "(") _ (λ (q : Term × List Term). term_text q.0 ++ more_text q.1)
      (text-cat L (λ first. MoreArguments L) term_text (λ first. more_text) l (λ first. text-run (λ (u : Unit {0}). Front (codes ",") L) (λ u a. u) (codes ")") comma (λ u. text-front (codes ",") L term_text l) tt)) p t s
      ∙ ap (λ z. codes "(" ++ (term_text p.0 ++ z)) (more_is p.1)
      ∙ ap (λ z. codes "(" ++ z) (sym (append_assoc (term_text p.0) (listed (codes ",") (map term_text p.1)) (codes ")"))))

  text-arguments : Texts (Arguments L) (λ ts. arguments_text (map term_text ts))
  text-arguments [] t s = s
  text-arguments (x ∷ xs) t s = text-listed (x ∷ xs) t s

  text-parts : (k : TermKind) → Texts (TermParts L k) term_text
  text-parts VariableTerm = text-image term.Var SpellsVariable term_text (λ v t s. text-variable v t s ∙ sym (fold-Var (List ℕ) term_step v))
  text-parts NumberTerm = text-image term.Num (Signed (Signed128 0)) term_text (λ n t s. text-signed (Signed128 0) n t s ∙ sym (fold-Num (List ℕ) term_step n))
  text-parts Truth = text-image (λ (u : Unit {0}). term.True) (Word (codes "true")) term_text (λ u t s. s ∙ sym (fold-True (List ℕ) term_step))
  text-parts Bracket = text-bracket
  text-parts Symbol =
      text-image (λ (p : ℕ × List Term). term.App p.0 p.1) _ term_text (λ p t s.
      text-front (codes "s") _ (λ (q : ℕ × List Term). decimal q.0 ++ arguments_text (map term_text q.1))
      (text-cat (Number Word32) (λ f. Arguments L) decimal (λ f ts. arguments_text (map term_text ts)) (text-number Word32) (λ f. text-arguments)) p t s
      ∙ sym (fold-App (List ℕ) term_step p.0 p.1))

  text-layer : Texts (Layer L) term_text
  text-layer = text-kinds (TermParts L) term_text text-parts

text-within : (k : ℕ) → Texts (TermWithin k) term_text
text-within zero a t s = absurd s
text-within (suc k) a t s = text-layer (TermWithin k) (text-within k) a t s

pub text-term : Texts SpellsTerm term_text
text-term a t s = text-within s.levels a t s.within
