-- Rules, steps and derivations put behind a text part by part.
use Rattle.std.proofs.Common.{◌≡◌, ℕ, ◌-◌, ◌^◌, ◌<◌, ◌≤◌, take, drop, get_or, true, false, List, [], ◌∷◌, ◌++◌, length, refl, sym, ap, subst, ◌∙◌, append_assoc, arith}
use Rattle.std.specs.Prelude.{codes, IsTrue}
use Rattle.std.specs.List.{list_all}
use Rattle.std.proofs.lemmas.List.{take_all}
use Rattle.term_base.specs.declared.variables.Variable.{Variable}
use Rattle.term_base.specs.declared.terms.Term.{Term}
use Rattle.term_base.specs.declared.places.Place.{Place}
use Rattle.term_base.specs.declared.places.Side.{Side}
use Rattle.cert_tree.specs.declared.certs.Cert.{Cert}
use Rattle.proof_steps.specs.declared.steps.Rule.{Rule}
use Rattle.proof_steps.specs.declared.steps.Rule.TheVariants as rule
use Rattle.proof_steps.specs.declared.steps.Step.{Step}
use Rattle.proof_steps.specs.declared.steps.Derivation.{Derivation}
use Rattle.text_pieces.specs.Decimals.{decimal}
use Rattle.text_pieces.specs.Languages.{Cat}
use Rattle.text_pieces.specs.Numbers.{Number, Within, Word32}
use Rattle.text_pieces.specs.Printing.{Adds}
use Rattle.text_pieces.specs.Separated.{Separated}
use Rattle.text_pieces.proofs.Adding.{adds-cat, adds-image}
use Rattle.cert_text.specs.Grammar.{Spells as SpellsCert}
use Rattle.text_pieces.specs.Fronts.{Front, Word}
use Rattle.text_pieces.proofs.Putting.{adds-word32, adds-number, adds-word, adds-as, adds-front, adds-kind}
use Rattle.term_text.specs.Terms.{SpellsTerm}
use Rattle.term_text.specs.Places.{SpellsSide, SpellsPlace}
use Rattle.term_text.specs.Substitutions.{SpellsSubst}
use Rattle.term_text.specs.Clauses.{SpellsClauseLine}
use Rattle.proof_text.specs.declared.kinds.RuleKind.{RuleKind}
use Rattle.proof_text.specs.declared.kinds.RuleKind.TheVariants.{Input, Superpose, Resolve, Factor, Abstract, Normal, Pin, Demodulate, Define, Close}
use Rattle.proof_text.specs.declared.kinds.Status.{Status}
use Rattle.proof_text.specs.Rules.{Index, Written, At, Sided, PremisesParts, Premises, RuleWord, rule_word, RuleParts, SpellsRule, superpose_of, resolve_of, factor_of, pin_of, demodulate_of, define_of, close_of}
use Rattle.proof_text.specs.Derivations.{StepLine, StepLines, step_of, VariablesWord, variables_word, SpellsDerivation, derivation_of, StatusWord, status_word, Spells}

abbrev Pairs : Type 0
Pairs = List (Variable × Term)

-- ---- parts
pub adds-index : (n : ℕ) (o p : List ℕ) → n < 2 ^ 32 → p ≡ o ++ 32 ∷ decimal n → Adds Index n o p
adds-index n o p h e = adds-front (codes " ") (Number Word32) n o (o ++ codes " ") p refl (adds-word32 n (o ++ codes " ") p h (e ∙ sym (append_assoc o (codes " ") (decimal n))))

pub adds-written : (s : Pairs) (o p q : List ℕ) → p ≡ o ++ codes " " → Adds SpellsSubst s p q → Adds Written s o q
adds-written s o p q e r = adds-front (codes " ") SpellsSubst s o p q e r

pub adds-at : (s : Place) (o p q : List ℕ) → p ≡ o ++ codes " " → Adds SpellsPlace s p q → Adds At s o q
adds-at s o p q e r = adds-front (codes " ") SpellsPlace s o p q e r

pub adds-sided : (n : ℕ) (side : Side) (o p q : List ℕ) → Adds Index n o p → Adds SpellsSide side p q → Adds Sided (n, side) o q
adds-sided n side o p q r s = adds-cat Index (λ n. SpellsSide) n side o p q r s

-- ---- premises
pub adds-no_premise : (o p : List ℕ) → p ≡ o ++ codes " - " → Adds Premises [] o p
adds-no_premise o p e =
    adds-front (codes " ") _ [] o (o ++ codes " ") p refl (adds-kind PremisesParts true [] (o ++ codes " ") p
    (adds-image (λ (u : Unit {0}). []) (Word (codes "- ")) tt (o ++ codes " ") p (adds-word (codes "- ") (o ++ codes " ") p (e ∙ sym (append_assoc o (codes " ") (codes "- "))))))

-- all that a slice pattern takes apart
pub sliced : (xs : List ℕ) (d : ℕ) → 1 ≤ length xs → get_or xs 0 d ∷ take (length xs - 1) (drop 1 xs) ≡ xs
sliced [] d h = absurd (omega (arith, h))
sliced (x ∷ xs) d h = ap (λ z. x ∷ z) (take_all (length (x ∷ xs) - 1) xs (omega arith))

pub adds-none : (ns : List ℕ) (o p : List ℕ) → length ns < 1 → p ≡ o ++ codes " - " → Adds Premises ns o p
adds-none [] o p h e = adds-no_premise o p e
adds-none (n ∷ ns) o p h e = absurd (omega (arith, h))

-- a test that is always true is true of each premise
pub all_true : {A : Type 0} (xs : List A) → IsTrue (list_all (λ (x : A). true) xs)
all_true [] = refl
all_true (x ∷ xs) = all_true xs

pub adds-premises : (ns : List ℕ) (o p q : List ℕ) → p ≡ o ++ codes " " → Adds (Separated (Number Word32) 44 32) ns p q → Adds Premises ns o q
adds-premises ns o p q e r = adds-front (codes " ") _ ns o p q e (adds-kind PremisesParts false ns p q r)

-- ---- rules
adds-rule : (k : RuleKind) (a : Rule) (o p q : List ℕ) → p ≡ o ++ rule_word k → Adds (RuleParts k) a p q → Adds SpellsRule a o q
adds-rule k a o p q e r = adds-image (λ (p : RuleKind × Rule). p.1) (Cat RuleWord RuleParts) (k, a) o q (adds-cat RuleWord RuleParts k a o p q (adds-as rule_word k o p e) r)

-- a word and an index
split_front : (word : List ℕ) (n : ℕ) (o q : List ℕ) → Adds (Front word Index) n o q → Adds Index n (o ++ word) q
split_front word n o q r = by word r.text r.spelled r.is
  where
    by : (word : List ℕ) (t : List ℕ) → Front word Index n t → q ≡ o ++ t → Adds Index n (o ++ word) q
    by word t s e = let c = cut word t s in record { text = c.0; spelled = c.1.0; is = e ∙ ap (λ z. o ++ z) c.1.1 ∙ sym (append_assoc o word c.0) }
      where
        cut : (word : List ℕ) (t : List ℕ) → Front word Index n t → (u : List ℕ) × (Index n u × (t ≡ word ++ u))
        cut [] t s = (t, (s, refl))
        cut (b ∷ bs) t s = let c = cut bs s.behind s.spelled in (c.0, (c.1.0, s.joined ∙ ap (λ z. b ∷ z) c.1.1))

pub adds-input : (n : ℕ) (o q : List ℕ) → Adds (Front (codes "input") Index) n o q → Adds SpellsRule (rule.Input n) o q
adds-input n o q r = adds-rule Input (rule.Input n) o (o ++ codes "input") q refl (adds-image rule.Input Index n (o ++ codes "input") q (split_front (codes "input") n o q r))

pub adds-abstract : (n : ℕ) (o q : List ℕ) → Adds (Front (codes "abstract") Index) n o q → Adds SpellsRule (rule.Abstract n) o q
adds-abstract n o q r = adds-rule Abstract (rule.Abstract n) o (o ++ codes "abstract") q refl (adds-image rule.Abstract Index n (o ++ codes "abstract") q (split_front (codes "abstract") n o q r))

pub adds-normal : (n : ℕ) (o q : List ℕ) → Adds (Front (codes "normal") Index) n o q → Adds SpellsRule (rule.Normal n) o q
adds-normal n o q r = adds-rule Normal (rule.Normal n) o (o ++ codes "normal") q refl (adds-image rule.Normal Index n (o ++ codes "normal") q (split_front (codes "normal") n o q r))

pub adds-superpose : (from literal : ℕ) (side : Side) (into : ℕ) (place : Place) (s1 s2 : Pairs) (o p q r s t u v w x : List ℕ) → literal < 2 ^ 32 → p ≡ o ++ codes "superpose" → Adds Index from p q → r ≡ q ++ codes "." → s ≡ r ++ decimal literal
    → Adds SpellsSide side s t → Adds Index into t u → Adds At place u v → Adds SpellsSubst s1 v w → Adds Written s2 w x → Adds SpellsRule (rule.Superpose from literal side into place s1 s2) o x
adds-superpose from literal side into place s1 s2 o p q r s t u v w x h e a f g b c d i j =
    adds-rule Superpose (rule.Superpose from literal side into place s1 s2) o p x e
    (adds-image superpose_of _ (from, (literal, (side, (into, (place, (s1, s2)))))) p x
    (adds-cat Index _ from (literal, (side, (into, (place, (s1, s2))))) p q x a
    (adds-cat (Front (codes ".") (Number Word32)) _ literal (side, (into, (place, (s1, s2)))) q s x (adds-front (codes ".") (Number Word32) literal q r s f (adds-word32 literal r s h g))
    (adds-cat SpellsSide _ side (into, (place, (s1, s2))) s t x b
    (adds-cat Index _ into (place, (s1, s2)) t u x c
    (adds-cat At _ place (s1, s2) u v x d
    (adds-cat SpellsSubst (λ s1. Written) s1 s2 v w x i j)))))))

pub adds-resolve : (of literal : ℕ) (s1 : Pairs) (o p q r s : List ℕ) → p ≡ o ++ codes "resolve" → Adds Index of p q → Adds Index literal q r → Adds Written s1 r s → Adds SpellsRule (rule.Resolve of literal s1) o s
adds-resolve of literal s1 o p q r s e a b c =
    adds-rule Resolve (rule.Resolve of literal s1) o p s e
    (adds-image resolve_of _ (of, (literal, s1)) p s (adds-cat Index _ of (literal, s1) p q s a (adds-cat Index (λ literal. Written) literal s1 q r s b c)))

pub adds-factor : (of first : ℕ) (first_side : Side) (second : ℕ) (second_side : Side) (s1 : Pairs) (o p q r s t : List ℕ) → p ≡ o ++ codes "factor" → Adds Index of p q → Adds Sided (first, first_side) q r → Adds Sided (second, second_side) r s
    → Adds Written s1 s t → Adds SpellsRule (rule.Factor of first first_side second second_side s1) o t
adds-factor of first first_side second second_side s1 o p q r s t e a b c d =
    adds-rule Factor (rule.Factor of first first_side second second_side s1) o p t e
    (adds-image factor_of _ (of, ((first, first_side), ((second, second_side), s1))) p t
    (adds-cat Index _ of ((first, first_side), ((second, second_side), s1)) p q t a
    (adds-cat Sided _ (first, first_side) ((second, second_side), s1) q r t b (adds-cat Sided (λ second. Written) (second, second_side) s1 r s t c d))))

pub adds-pin : (of literal : ℕ) (o p q r : List ℕ) → p ≡ o ++ codes "pin" → Adds Index of p q → Adds Index literal q r → Adds SpellsRule (rule.Pin of literal) o r
adds-pin of literal o p q r e a b = adds-rule Pin (rule.Pin of literal) o p r e (adds-image pin_of _ (of, literal) p r (adds-cat Index (λ of. Index) of literal p q r a b))

pub adds-demodulate : (of : ℕ) (place : Place) (by : ℕ) (side : Side) (s1 : Pairs) (o p q r s t u : List ℕ) → by < 2 ^ 32 → p ≡ o ++ codes "demodulate" → Adds Index of p q → Adds At place q r → s ≡ r ++ decimal by → Adds SpellsSide side s t
    → Adds Written s1 t u → Adds SpellsRule (rule.Demodulate of place by side s1) o u
adds-demodulate of place by side s1 o p q r s t u h e a b f c d =
    adds-rule Demodulate (rule.Demodulate of place by side s1) o p u e
    (adds-image demodulate_of _ (of, (place, (by, (side, s1)))) p u
    (adds-cat Index _ of (place, (by, (side, s1))) p q u a
    (adds-cat At _ place (by, (side, s1)) q r u b (adds-cat (Number Word32) _ by (side, s1) r s u (adds-word32 by r s h f) (adds-cat SpellsSide (λ side. Written) side s1 s t u c d)))))

pub adds-define : (t : Term) (symbol : ℕ) (o p q r s : List ℕ) → symbol < 2 ^ 32 → p ≡ o ++ codes "define " → Adds SpellsTerm t p q → r ≡ q ++ codes " s" → s ≡ r ++ decimal symbol → Adds SpellsRule (rule.Define t symbol) o s
adds-define t symbol o p q r s h e a f g =
    let mid = o ++ codes "define" in
    adds-rule Define (rule.Define t symbol) o mid s refl
    (adds-image define_of _ (t, symbol) mid s
    (adds-cat (Front (codes " ") SpellsTerm) (λ t. Front (codes " s") (Number Word32)) t symbol mid q s
    (adds-front (codes " ") SpellsTerm t mid p q (e ∙ sym (append_assoc o (codes "define") (codes " "))) a)
    (adds-front (codes " s") (Number Word32) symbol q r s f (adds-word32 symbol r s h g))))

pub adds-close : (of : List ℕ) (cert : Cert) (o p q r : List ℕ) → p ≡ o ++ codes "close" → Adds Premises of p q → Adds SpellsCert cert q r → Adds SpellsRule (rule.Close of cert) o r
adds-close of cert o p q r e a b = adds-rule Close (rule.Close of cert) o p r e (adds-image close_of _ (of, cert) p r (adds-cat Premises (λ of. SpellsCert) of cert p q r a b))

-- ---- steps and derivations
pub adds-step : (n : ℕ) (step : Step) (o p q r s t : List ℕ) → p ≡ o ++ decimal n → q ≡ p ++ codes " " → Adds SpellsRule step.rule q r → s ≡ r ++ codes " : " → Adds SpellsClauseLine step.clause s t → Adds (StepLine n) step o t
adds-step n step o p q r s t e f a g b =
    adds-image step_of _ (n, (step.rule, step.clause)) o t
    (adds-cat (Number (Within n n)) _ n (step.rule, step.clause) o p t (adds-number (Within n n) n o p (record { from_low = omega arith; to_high = omega arith }) e)
    (adds-front (codes " ") _ (step.rule, step.clause) p q t f (adds-cat SpellsRule (λ rule. Front (codes " : ") SpellsClauseLine) step.rule step.clause q r t a (adds-front (codes " : ") SpellsClauseLine step.clause r s t g b))))

pub adds-derivation : (d : Derivation) (o p q r s : List ℕ) → p ≡ o ++ codes "derivation 1 " → q ≡ p ++ variables_word d.ordinary → r ≡ q ++ codes "\n" → Adds (StepLines 0) d.steps r s → Adds SpellsDerivation d o s
adds-derivation d o p q r s e f g a =
    adds-image derivation_of _ (d.ordinary, d.steps) o s (adds-front (codes "derivation 1 ") _ (d.ordinary, d.steps) o p s e
    (adds-cat VariablesWord (λ ordinary. Front (codes "\n") (StepLines 0)) d.ordinary d.steps p q s (adds-as variables_word d.ordinary p q f) (adds-front (codes "\n") (StepLines 0) d.steps q r s g a)))

pub adds-proof : (status : Status) (d : Derivation) (o p q r s : List ℕ) → p ≡ o ++ codes "% SZS status " → q ≡ p ++ status_word status → r ≡ q ++ codes " for stdin\n" → Adds SpellsDerivation d r s → Adds Spells (status, d) o s
adds-proof status d o p q r s e f g a =
    adds-front (codes "% SZS status ") _ (status, d) o p s e
    (adds-cat StatusWord (λ status. Front (codes " for stdin\n") SpellsDerivation) status d p q s (adds-as status_word status p q f) (adds-front (codes " for stdin\n") SpellsDerivation d q r s g a))

-- what was put behind nothing
pub put_whole : {A : Type 0} {L : A → List ℕ → Type 0} {a : A} {o p : List ℕ} → o ≡ [] → Adds L a o p → L a p
put_whole {A} {L} {a} {o} {p} e r = subst (L a) (sym (r.is ∙ ap (λ z. z ++ r.text) e)) r.spelled
