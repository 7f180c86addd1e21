-- Rules are told apart.
use Rattle.std.proofs.Common.{◌≡◌, ℕ, Bool, true, false, List, [], ◌∷◌, ◌++◌, refl, sym, ap, subst, ◌∙◌, arith}
use Rattle.std.specs.Prelude.{codes}
use Rattle.std.proofs.lemmas.Bool.Decides.{nat_tests}
use Rattle.term_base.specs.declared.places.Place.{Place}
use Rattle.term_base.specs.declared.places.Side.{Side}
use Rattle.proof_steps.specs.declared.steps.Rule.{Rule}
use Rattle.text_pieces.specs.Decimals.{is_digit}
use Rattle.text_pieces.specs.Languages.{Cat, Free}
use Rattle.text_pieces.specs.Numbers.{Number, Word32}
use Rattle.text_pieces.specs.Separated.{Tail}
use Rattle.text_pieces.proofs.Digits.{digit_below}
use Rattle.text_pieces.proofs.Reaching.{decimal_head, one_front-number}
use Rattle.text_pieces.proofs.Lifting.{one_front-image as digits-image}
use Rattle.text_pieces.proofs.Joining.{one_front-cat as digits-cat}
use Rattle.text_pieces.proofs.Tails.{unambiguous-tail}
use Rattle.cert_text.specs.Grammar.{Spells as SpellsCert}
use Rattle.cert_text.proofs.Wholes.{unambiguous-cert}
use Rattle.text_pieces.specs.Ending.{no_byte, is_digit_or_bracket}
use Rattle.text_pieces.specs.Fronts.{Front}
use Rattle.text_pieces.specs.Kinds.{OneKind, kind_at}
use Rattle.text_pieces.proofs.Ends.{joins-first}
use Rattle.text_pieces.proofs.Lifts.{Lift, Sure, Next, sure-cat, sure-image}
use Rattle.text_pieces.proofs.WordReading.{sure-front, next-front, sure-word}
use Rattle.text_pieces.proofs.Kinded.{Told, kinded, sure-kinds}
use Rattle.text_pieces.specs.Unambiguous.{OneFront}
use Rattle.term_text.specs.Terms.{SpellsTerm}
use Rattle.term_text.specs.Places.{SpellsSide}
use Rattle.term_text.specs.Substitutions.{SpellsSubst}
use Rattle.term_text.proofs.VariableFronts.{sure-word32}
use Rattle.term_text.proofs.TermFronts.{sure-term}
use Rattle.term_text.proofs.PlaceReading.{sure-place, next-sided, next-side}
use Rattle.term_text.proofs.SubstFronts.{sure-substitution}
use Rattle.proof_text.specs.declared.kinds.RuleKind.{RuleKind}
use Rattle.proof_text.specs.declared.kinds.RuleKind.TheVariants.{Input, Superpose, Resolve, Factor, Abstract, Normal, Pin, Demodulate, Define, Close}
use Rattle.proof_text.specs.Rules.{Index, Written, At, Sided, PremisesParts, Premises, is_minus, RuleParts, SpellsRule, superpose_of, resolve_of, factor_of, pin_of, demodulate_of, define_of, close_of}
use Rattle.proof_text.proofs.RuleWords.{sure-rule_word}

-- ---- parts
pub next-index : Next is_digit is_digit Index
next-index = next-front 32 [] refl sure-word32

pub sure-index : Sure is_digit Index
sure-index = next-index.sure

index_clear : (n : ℕ) (t x : List ℕ) → Index n t → Free is_digit (t ++ x)
index_clear n t x s = subst (λ z. Free is_digit (z ++ x)) (sym s.joined) refl

-- what begins with an index
pub next-indexed : {A : Type 0} {q : ℕ → Bool} {M : ℕ → A → List ℕ → Type 0} → ((n : ℕ) → Next is_digit q (M n)) → Next is_digit q (Cat Index M)
next-indexed {q = q} {M = M} next = record { sure = sure-cat sure-index next; joins = joins-first is_digit q Index M index_clear }

pub next-written : Next is_digit is_digit Written
next-written = next-front 32 [] refl (sure-substitution is_digit)

pub after-written : Next no_byte is_digit Written
after-written = next-front 32 [] refl (sure-substitution is_digit)

pub next-at : {A : Type 0} {q : ℕ → Bool} {M : Place → A → List ℕ → Type 0} → ((p : Place) → Next no_byte q (M p)) → Next is_digit q (Cat At M)
next-at {q = q} {M = M} next = record { sure = sure-cat (sure-front (codes " ") sure-place) next; joins = joins-first is_digit q At M (λ p t x s. subst (λ z. Free is_digit (z ++ x)) (sym s.joined) refl) }

pub sure-at : Sure no_byte At
sure-at = sure-front (codes " ") sure-place

-- whatever stands behind a blank
pub next-any : {B : Type 0} {q : ℕ → Bool} {M : B → List ℕ → Type 0} → Sure q M → Next no_byte q M
next-any l = record { sure = l; joins = λ b t x s d. none_free (t ++ x) }
  where
    none_free : (x : List ℕ) → Free no_byte x
    none_free [] = tt
    none_free (b ∷ bs) = refl

pub sure-sided : Sure is_digit Sided
sure-sided = sure-cat sure-index (λ n. next-side)

sided_clear : (p : ℕ × Side) (t x : List ℕ) → Sided p t → Free is_digit (t ++ x)
sided_clear p t x s = subst (λ z. Free is_digit (z ++ x)) (sym (s.joined ∙ ap (λ z. z ++ s.second) s.first_spelled.joined)) refl

pub next-two_sided : {A : Type 0} {q : ℕ → Bool} {M : ℕ × Side → A → List ℕ → Type 0} → ((p : ℕ × Side) → Next is_digit q (M p)) → Next is_digit q (Cat Sided M)
next-two_sided {q = q} {M = M} next = record { sure = sure-cat sure-sided next; joins = joins-first is_digit q Sided M sided_clear }

-- ---- premises
digit_no_minus : (b : ℕ) → is_digit b ≡ true → is_minus b ≡ false
digit_no_minus b h = let l = digit_below b h in grind (arith, nat_tests, l.0, l.1)

pub told-premises : (k : Bool) (ns : List ℕ) (t : List ℕ) → PremisesParts k ns t → Told is_minus k t
told-premises true ns t s = record { head = 45; tail = 32 ∷ []; is = s.spelled; tells = refl }
told-premises false ns t s =
    let c = s.spelled in
    let d = decimal_head (s.from.0) in
    record {
      head = d.head;
      tail = d.tail ++ c.second;
      is = c.joined ∙ ap (λ z. z ++ c.second) (c.first_spelled.digits ∙ d.is);
      tells = digit_no_minus d.head d.digit;
    }

one_front-premises : (k : Bool) → OneFront (PremisesParts k)
one_front-premises true = (sure-image _ (sure-word is_digit (codes "- "))).one
one_front-premises false =
    let tail = unambiguous-tail (Number Word32) (one_front-number Word32) 44 32 refl refl apart in
    digits-image (λ (p : ℕ × List ℕ). p.0 ∷ p.1) _ (digits-cat (Number Word32) (λ first. Tail (Number Word32) 44 32) (one_front-number Word32) (λ a. tail.one) (λ a. tail.clear))
  where
    apart : ◌≡◌ {A = ℕ} 44 32 → ⊥
    apart e = omega (arith, e)

pub sure-premises_kinds : Sure is_digit (OneKind PremisesParts)
sure-premises_kinds = sure-kinds PremisesParts is_minus false told-premises is_digit one_front-premises true (record { value = []; text = codes "- "; spelled = record { from = tt; is = refl; spelled = refl } })

pub sure-premises : Sure is_digit Premises
sure-premises = sure-front (codes " ") sure-premises_kinds

pub premises_at : (text : List ℕ) (k : Bool) → kind_at is_minus false text ≡ k → Lift is_digit (OneKind PremisesParts) text (PremisesParts k) text (λ (ns : List ℕ). ns)
premises_at text k e = subst (λ z. Lift is_digit (OneKind PremisesParts) text (PremisesParts z) text (λ (ns : List ℕ). ns)) e (kinded PremisesParts is_minus false told-premises is_digit text)

pub next-cert : Next is_digit is_digit SpellsCert
next-cert = record {
  sure = record { one = unambiguous-cert.one; some = unambiguous-cert.some };
  joins = λ a t x s d. subst (λ z. Free is_digit (z ++ x)) (sym (s.spelled.joined ∙ ap (λ z. z ++ s.spelled.second) s.spelled.first_spelled)) refl;
}

-- ---- the chains of parts
pub next-s2 : Next no_byte is_digit (Cat SpellsSubst (λ s1. Written))
next-s2 = next-any (sure-cat (sure-substitution no_byte) (λ s1. after-written))

pub next-place : Next is_digit is_digit (Cat At (λ place. Cat SpellsSubst (λ s1. Written)))
next-place = next-at (λ place. next-s2)

pub next-into : Next is_digit is_digit (Cat Index (λ into. Cat At (λ place. Cat SpellsSubst (λ s1. Written))))
next-into = next-indexed (λ into. next-place)

pub next-from_side : Next is_digit is_digit (Cat SpellsSide (λ side. Cat Index (λ into. Cat At (λ place. Cat SpellsSubst (λ s1. Written)))))
next-from_side = next-sided (λ side. next-into)

pub sure-from_literal : Sure is_digit (Cat (Number Word32) (λ literal. Cat SpellsSide (λ side. Cat Index (λ into. Cat At (λ place. Cat SpellsSubst (λ s1. Written))))))
sure-from_literal = sure-cat sure-word32 (λ literal. next-from_side)

pub sure-dotted : Sure is_digit (Front (codes ".") (Number Word32))
sure-dotted = sure-front (codes ".") sure-word32

pub next-from_literal : Next is_digit is_digit (Cat (Front (codes ".") (Number Word32)) (λ literal. Cat SpellsSide (λ side. Cat Index (λ into. Cat At (λ place. Cat SpellsSubst (λ s1. Written))))))
next-from_literal = record {
  sure = sure-cat sure-dotted (λ literal. next-from_side);
  joins = joins-first is_digit is_digit (Front (codes ".") (Number Word32)) _ (λ n t x s. subst (λ z. Free is_digit (z ++ x)) (sym s.joined) refl);
}

pub next-resolved : Next is_digit is_digit (Cat Index (λ literal. Written))
next-resolved = next-indexed (λ literal. next-written)

pub next-second : Next is_digit is_digit (Cat Sided (λ second. Written))
next-second = next-two_sided (λ second. next-written)

pub next-first : Next is_digit is_digit (Cat Sided (λ first. Cat Sided (λ second. Written)))
next-first = next-two_sided (λ first. next-second)

pub next-by_side : Next is_digit is_digit (Cat SpellsSide (λ side. Written))
next-by_side = next-sided (λ side. next-written)

pub next-by : Next no_byte is_digit (Cat (Number Word32) (λ by. Cat SpellsSide (λ side. Written)))
next-by = next-any (sure-cat sure-word32 (λ by. next-by_side))

pub next-demodulated : Next is_digit is_digit (Cat At (λ place. Cat (Number Word32) (λ by. Cat SpellsSide (λ side. Written))))
next-demodulated = next-at (λ place. next-by)

pub next-symbol : Next is_digit_or_bracket is_digit (Front (codes " s") (Number Word32))
next-symbol = next-front 32 (115 ∷ []) refl sure-word32

pub sure-defined : Sure is_digit (Cat SpellsTerm (λ t. Front (codes " s") (Number Word32)))
sure-defined = sure-cat sure-term (λ t. next-symbol)

-- ---- rules
sure-parts : (k : RuleKind) → Sure is_digit (RuleParts k)
sure-parts Input = sure-image _ sure-index
sure-parts Superpose = sure-image superpose_of (sure-cat sure-index (λ from. next-from_literal))
sure-parts Resolve = sure-image resolve_of (sure-cat sure-index (λ of. next-resolved))
sure-parts Factor = sure-image factor_of (sure-cat sure-index (λ of. next-first))
sure-parts Abstract = sure-image _ sure-index
sure-parts Normal = sure-image _ sure-index
sure-parts Pin = sure-image pin_of (sure-cat sure-index (λ of. next-index))
sure-parts Demodulate = sure-image demodulate_of (sure-cat sure-index (λ of. next-demodulated))
sure-parts Define = sure-image define_of (sure-cat (sure-front (codes " ") sure-term) (λ t. next-symbol))
sure-parts Close = sure-image close_of (sure-cat sure-premises (λ of. next-cert))

blank_clear : {u t w : List ℕ} (v x : List ℕ) → t ≡ u ++ v → u ≡ 32 ∷ w → Free is_digit (t ++ x)
blank_clear v x e i = subst (λ z. Free is_digit (z ++ x)) (sym (e ∙ ap (λ z. z ++ v) i)) refl

parts_clear : (k : RuleKind) (r : Rule) (t x : List ℕ) → RuleParts k r t → Free is_digit (t ++ x)
parts_clear Input r t x s = subst (λ z. Free is_digit (z ++ x)) (sym s.spelled.joined) refl
parts_clear Superpose r t x s = blank_clear _ x s.spelled.joined s.spelled.first_spelled.joined
parts_clear Resolve r t x s = blank_clear _ x s.spelled.joined s.spelled.first_spelled.joined
parts_clear Factor r t x s = blank_clear _ x s.spelled.joined s.spelled.first_spelled.joined
parts_clear Abstract r t x s = subst (λ z. Free is_digit (z ++ x)) (sym s.spelled.joined) refl
parts_clear Normal r t x s = subst (λ z. Free is_digit (z ++ x)) (sym s.spelled.joined) refl
parts_clear Pin r t x s = blank_clear _ x s.spelled.joined s.spelled.first_spelled.joined
parts_clear Demodulate r t x s = blank_clear _ x s.spelled.joined s.spelled.first_spelled.joined
parts_clear Define r t x s = blank_clear _ x s.spelled.joined s.spelled.first_spelled.joined
parts_clear Close r t x s = blank_clear _ x s.spelled.joined s.spelled.first_spelled.joined

pub next-parts : (k : RuleKind) → Next is_digit is_digit (RuleParts k)
next-parts k = record { sure = sure-parts k; joins = λ r t x s d. parts_clear k r t x s }

pub sure-rule : Sure is_digit SpellsRule
sure-rule = sure-image (λ (p : RuleKind × Rule). p.1) (sure-cat sure-rule_word next-parts)
