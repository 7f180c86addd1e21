-- Substitutions are told apart.
use Rattle.std.proofs.Common.{◌≡◌, ℕ, Bool, true, false, List, [], ◌++◌, Option, Some, None, refl, sym, ap, subst, ◌∙◌}
use Rattle.std.specs.Prelude.{codes, ◌==◌}
use Rattle.term_base.specs.declared.variables.Variable.{Variable}
use Rattle.term_base.specs.declared.terms.Term.{Term}
use Rattle.term_base.specs.declared.terms.Term.TheVariants as term
use Rattle.term_base.specs.SameTerm.{same_term}
use Rattle.term_base.specs.Trees.{tree, node, truth, none, same_tree}
use Rattle.term_base.specs.TreeOf.{tree-True, tree-Var}
use Rattle.text_pieces.specs.Decimals.{is_digit}
use Rattle.text_pieces.specs.Languages.{Free}
use Rattle.text_pieces.specs.Unambiguous.{OneFrontTo, OneFront}
use Rattle.text_pieces.specs.Ending.{is_digit_or_bracket, no_byte}
use Rattle.text_pieces.specs.Fronts.{Front}
use Rattle.text_pieces.specs.Kinds.{OneKind, kind_at}
use Rattle.text_pieces.proofs.Ends.{one_front-cat, one_front-image}
use Rattle.text_pieces.proofs.Lifts.{Lift, Sure, Next}
use Rattle.text_pieces.proofs.WordReading.{one_front-front, next-front, sure-front, sure-word}
use Rattle.text_pieces.proofs.Kinded.{Told, kinded, sure-kinds}
use Rattle.text_pieces.proofs.Running.{Runs, next-run}
use Rattle.term_text.specs.declared.kinds.VariableKind.{VariableKind}
use Rattle.term_text.specs.declared.kinds.VariableKind.TheVariants.{Abstraction, Individual, Int, Declared}
use Rattle.term_text.specs.declared.kinds.TermKind.TheVariants.{Truth}
use Rattle.term_text.specs.Variables.{VariableParts}
use Rattle.term_text.specs.Substitutions.{VariableAfter, TermBut, PairAfter, MorePairs, PairsParts, SpellsSubst, is_closing}
use Rattle.term_text.proofs.VariableFronts.{sure-variable}
use Rattle.term_text.proofs.TermLevels.{from_layer}
use Rattle.term_text.proofs.TermFronts.{sure-term}

abbrev m : ℕ → Bool
m = is_digit_or_bracket

abbrev Pair : Type 0
Pair = Variable × Term

-- ---- pairs
pub one_front-after : (last : Option Variable) → OneFront (VariableAfter last)
one_front-after last a b t u x y s r h d e = sure-variable.one a b t u x y s.spelled r.spelled h d e

pub one_front-but : (v : Variable) → OneFrontTo m (TermBut v)
one_front-but v a b t u x y s r h d e = sure-term.one a b t u x y s.spelled r.spelled h d e

truth_other : (v : Variable) → same_term term.True (term.Var v) ≡ false
truth_other v = ap (λ z. same_tree z (tree (term.Var v))) tree-True ∙ ap (λ z. same_tree (node truth none) z) (tree-Var v)

pub sure-but : (v : Variable) → Sure m (TermBut v)
sure-but v = record {
  one = one_front-but v;
  some = record {
    value = term.True;
    text = codes "true";
    spelled = record { spelled = from_layer term.True (codes "true") (record { kind = Truth; spelled = record { from = tt; is = refl; spelled = refl } }); other = truth_other v };
  };
}

pub next-but : (v : Variable) → Next is_digit m (Front (codes ">") (TermBut v))
next-but v = next-front 62 [] refl (sure-but v)

pub one_front-pair : (last : Option Variable) → OneFrontTo m (PairAfter last)
one_front-pair last = one_front-cat is_digit m (VariableAfter last) (λ v. Front (codes ">") (TermBut v)) (one_front-after last) (λ v. (next-but v).sure.one) (λ v. (next-but v).joins)

pub runs-pairs : Runs m (λ last. Front (codes ",") (PairAfter last)) (λ b. b == 44) (codes "]")
runs-pairs = record {
  one = λ last. one_front-front m (codes ",") (PairAfter last) (one_front-pair last);
  begins = λ last a t s. record { head = 44; tail = s.behind; is = s.joined; tells = refl };
  ends = record { head = 93; tail = []; is = refl; tells = refl };
  clear = λ last a t x s. subst (λ z. Free m (z ++ x)) (sym s.joined) refl;
  clear_end = λ x. refl;
}

pub next-more_pairs : (q : ℕ → Bool) (last : Option Variable) → Next m q (MorePairs last)
next-more_pairs q last = next-run m (λ last. Front (codes ",") (PairAfter last)) (λ last p. Some p.0) (λ b. b == 44) (codes "]") runs-pairs q last

-- ---- substitutions
letter_open : (k : VariableKind) (v : Variable) (t : List ℕ) → VariableParts k v t → Told is_closing false t
letter_open Abstraction v t s = record { head = 65; tail = s.spelled.behind; is = s.spelled.joined; tells = refl }
letter_open Individual v t s = record { head = 73; tail = s.spelled.behind; is = s.spelled.joined; tells = refl }
letter_open Int v t s = record { head = 78; tail = s.spelled.behind; is = s.spelled.joined; tells = refl }
letter_open Declared v t s = record { head = 68; tail = s.spelled.behind; is = s.spelled.joined; tells = refl }

told_on : {u t : List ℕ} (v : List ℕ) → Told is_closing false u → t ≡ u ++ v → Told is_closing false t
told_on v n e = record { head = n.head; tail = n.tail ++ v; is = e ∙ ap (λ z. z ++ v) n.is; tells = n.tells }

told-pairs : (k : Bool) (ps : List Pair) (t : List ℕ) → PairsParts k ps t → Told is_closing k t
told-pairs true ps t s = record { head = 93; tail = []; is = s.spelled; tells = refl }
told-pairs false ps t s =
    let c = s.spelled in
    let d = c.first_spelled in
    let v = d.first_spelled.spelled in
    told_on c.second (told_on d.second (letter_open v.kind (s.from.0.0) d.first v.spelled) d.joined) c.joined

one_front-pairs : (q : ℕ → Bool) (k : Bool) → OneFrontTo q (PairsParts k)
one_front-pairs q true = one_front-image q _ _ (sure-word q (codes "]")).one
one_front-pairs q false =
    one_front-image q _ _ (one_front-cat m q (PairAfter None) (λ p. MorePairs (Some p.0)) (one_front-pair None) (λ p. (next-more_pairs q (Some p.0)).sure.one) (λ p. (next-more_pairs q (Some p.0)).joins))

pub sure-pairs : (q : ℕ → Bool) → Sure q (OneKind PairsParts)
sure-pairs q = sure-kinds PairsParts is_closing false told-pairs q (one_front-pairs q) true (record { value = []; text = codes "]"; spelled = record { from = tt; is = refl; spelled = refl } })

pub sure-substitution : (q : ℕ → Bool) → Sure q SpellsSubst
sure-substitution q = sure-front (codes "[") (sure-pairs q)

pub pairs_at : (text : List ℕ) (k : Bool) → kind_at is_closing false text ≡ k → Lift no_byte (OneKind PairsParts) text (PairsParts k) text (λ (ps : List Pair). ps)
pairs_at text k e = subst (λ z. Lift no_byte (OneKind PairsParts) text (PairsParts z) text (λ (ps : List Pair). ps)) e (kinded PairsParts is_closing false told-pairs no_byte text)
