-- How substitutions are read and printed.
use Rattle.std.proofs.Common.{◌≡◌, ℕ, ◌+◌, ◌*◌, ◌^◌, ◌<◌, ◌≤◌, Bool, true, false, ◌&&◌, not, List, [], ◌∷◌, ◌++◌, ◌-◌, take, drop, length, get_or, Option, Some, None, refl, sym, ap, subst, ◌∙◌, append_assoc, arith, inl, inr}
use Rattle.std.specs.Prelude.{codes, ◌==◌, ◌⊎◌}
use Rattle.std.proofs.lemmas.Bool.{and_from, and_parts}
use Rattle.std.proofs.lemmas.List.{take_all}
use Rattle.term_base.specs.declared.variables.Variable.{Variable}
use Rattle.term_base.specs.declared.terms.Term.{Term}
use Rattle.term_base.specs.declared.terms.Term.TheVariants as term
use Rattle.term_base.specs.SameTerm.{same_term}
use Rattle.term_base.specs.SubstTest.{follows, ascends_after}
use Rattle.term_base.specs.Substitution.{IsSubstitution}
use Rattle.term_base.proofs.Ascending.{test_is_right, right_passes_test}
use Rattle.text_pieces.specs.Languages.{HasSpelling, Cat, ReadsTo, FailsTo, Fails, Reads}
use Rattle.text_pieces.specs.Printing.{Adds}
use Rattle.text_pieces.specs.declared.bad_texts.Unread.{Unread}
use Rattle.text_pieces.proofs.Adding.{adds-cat}
use Rattle.text_pieces.specs.Failing.{UnreadTo}
use Rattle.text_pieces.specs.Ending.{is_digit_or_bracket, no_byte}
use Rattle.text_pieces.specs.Fronts.{Front, NoFront}
use Rattle.text_pieces.proofs.Ends.{free_none}
use Rattle.text_pieces.proofs.Lifts.{Lift, lift-self, lift-image, lift-behind, unread_on, read_next, next_fails, next_unread}
use Rattle.text_pieces.proofs.Running.{run_more, run_fails, run_end, run_no_end, empty_end, empty_no_end, one_more, there, not_there}
use Rattle.text_pieces.proofs.Putting.{adds-front}
use Rattle.term_text.specs.Variables.{SpellsVariable, VariableFrom, rank}
use Rattle.term_text.specs.Terms.{SpellsTerm}
use Rattle.term_text.specs.Substitutions.{TermBut, PairAfter, MorePairs, PairsParts, SpellsSubst, SpellsPair, SpellsMore, low_after, IsNumbered}
use Rattle.term_text.proofs.Ranks.{variable_after, none_after}
use Rattle.term_text.proofs.SubstFronts.{one_front-after, one_front-pair, next-but, runs-pairs, next-more_pairs}

abbrev m : ℕ → Bool
m = is_digit_or_bracket

abbrev Pair : Type 0
Pair = Variable × Term

-- ---- a pair
pub after_read : {text rest : List ℕ} {v : Variable} (last : Option Variable) → IsNumbered last → Reads (VariableFrom (low_after last)) text v rest → Lift m (PairAfter last) text (Front (codes ">") (TermBut v)) rest (λ t. (v, t))
after_read {text} {rest} {v} last h r =
    let a = (variable_after last h text).reads v rest r in
    read_next (lift-self m (PairAfter last) text) (record { one = one_front-after last; some = record { value = v; text = a.text; spelled = a.spelled } }) next-but a

pub after_fails : {text : List ℕ} {left : ℕ} (last : Option Variable) → IsNumbered last → Fails (VariableFrom (low_after last)) text left → FailsTo m (PairAfter last) text left
after_fails {text} {left} last h f = next_fails (lift-self m (PairAfter last) text) next-but ((variable_after last h text).fails left f)

pub pair_numbered : {text rest : List ℕ} {p : Pair} {last : Option Variable} → ReadsTo m (PairAfter last) text p rest → HasSpelling SpellsVariable p.0
pair_numbered r = let f = r.spelled in record { text = f.first; spelled = f.first_spelled.spelled }

-- ---- the loop
pub record On (text rest : List ℕ) (last : Variable) (all : List Pair) : Type 0 where
  pub lift : Lift no_byte (PairsParts false) text (MorePairs (Some last)) rest (λ ps. all ++ ps)
  pub numbered : HasSpelling SpellsVariable last

pub first_pair : {text rest : List ℕ} {p : Pair} → ReadsTo m (PairAfter None) text p rest → On text rest p.0 (p ∷ [])
first_pair {text} {rest} {p} r = record {
  lift =
      read_next (lift-image no_byte (λ (p : Pair × List Pair). p.0 ∷ p.1) (Cat (PairAfter None) (λ p. MorePairs (Some p.0))) text)
      (record { one = one_front-pair None; some = record { value = p; text = r.text; spelled = r.spelled } }) (λ p. next-more_pairs no_byte (Some p.0)) r;
  numbered = pair_numbered r;
}

pub first_unread : (text : List ℕ) (e : Unread) → UnreadTo m (PairAfter None) text e → UnreadTo no_byte (PairsParts false) text e
first_unread text e h = next_unread (lift-image no_byte (λ (p : Pair × List Pair). p.0 ∷ p.1) (Cat (PairAfter None) (λ p. MorePairs (Some p.0))) text) (λ p. next-more_pairs no_byte (Some p.0)) e h

pub pair_read : {text rest behind more : List ℕ} {last : Variable} {p : Pair} (all : List Pair) → On text rest last all → rest ≡ 44 ∷ behind → ReadsTo m (PairAfter (Some last)) behind p more → On text more p.0 (all ++ p ∷ [])
pair_read {rest = rest} {behind = behind} {last = last} {p = p} all w e r = record {
  lift =
      one_more (λ ps. ps) all p (run_more m (λ last. Front (codes ",") (PairAfter last)) (λ last p. Some p.0) (λ b. b == 44) (codes "]") runs-pairs w.lift (there 44 rest behind e refl)
      ((lift-behind m 44 (PairAfter (Some last)) rest behind e).reads p _ r));
  numbered = pair_numbered r;
}

pub pair_unread : {text rest behind : List ℕ} {last : Variable} {all : List Pair} → On text rest last all → rest ≡ 44 ∷ behind → (e : Unread) → UnreadTo m (PairAfter (Some last)) behind e → UnreadTo no_byte (PairsParts false) text e
pair_unread {text = text} {rest = rest} {behind = behind} {last = last} w e u h =
    unread_on m no_byte (PairsParts false) text (PairAfter (Some last)) behind
    (λ left f. run_fails m (λ last. Front (codes ",") (PairAfter last)) (λ last p. Some p.0) (λ b. b == 44) (codes "]") runs-pairs w.lift (there 44 rest behind e refl) ((lift-behind m 44 (PairAfter (Some last)) rest behind e).fails left f)) u h

abbrev Ended : List ℕ → Variable → Type 0
Ended rest last = ((behind : List ℕ) → rest ≡ 44 ∷ behind → ⊥) ⊎ ((3 + 2 ^ 32) * 2 ^ 32 ≤ rank last + 1)

no_pair : (last : Variable) → HasSpelling SpellsVariable last → (3 + 2 ^ 32) * 2 ^ 32 ≤ rank last + 1 → (p : Pair) (t : List ℕ) → Front (codes ",") (PairAfter (Some last)) p t → ⊥
no_pair last h r p t s = let c = s.spelled in none_after last p.0 h.text c.first h.spelled r c.first_spelled

pub pairs_end : {text rest after : List ℕ} {last : Variable} {all : List Pair} → On text rest last all → Ended rest last → rest ≡ codes "]" ++ after → ReadsTo no_byte (PairsParts false) text (all ++ []) after
pairs_end {rest = rest} {after = after} {last = last} w n e = elim n [
  | inl k ↦ run_end m (λ last. Front (codes ",") (PairAfter last)) (λ last p. Some p.0) (λ b. b == 44) (codes "]") runs-pairs (Some last) w.lift (not_there 44 rest k) e (free_none after)
  | inr r ↦ empty_end m (λ last. Front (codes ",") (PairAfter last)) (λ last p. Some p.0) (λ b. b == 44) (codes "]") runs-pairs (Some last) (no_pair last w.numbered r) w.lift e (free_none after)
]

pub pairs_open : {text rest : List ℕ} {last : Variable} {all : List Pair} {left : ℕ} → On text rest last all → Ended rest last → NoFront (codes "]") rest left → FailsTo no_byte (PairsParts false) text left
pairs_open {rest = rest} {last = last} w n f = elim n [
  | inl k ↦ run_no_end m (λ last. Front (codes ",") (PairAfter last)) (λ last p. Some p.0) (λ b. b == 44) (codes "]") runs-pairs (Some last) w.lift (not_there 44 rest k) f
  | inr r ↦ empty_no_end m (λ last. Front (codes ",") (PairAfter last)) (λ last p. Some p.0) (λ b. b == 44) (codes "]") runs-pairs (Some last) (no_pair last w.numbered r) w.lift f
]

-- ---- what is read is a substitution
pair_ascends : (last : Option Variable) (p : Pair) (t : List ℕ) (rest : Bool) → PairAfter last p t → rest ≡ true → follows last p.0 && (not (same_term p.1 (term.Var p.0)) && rest) ≡ true
pair_ascends last p t rest s h = and_from _ _ s.first_spelled.after (and_from _ _ (ap not s.second_spelled.spelled.other) h)

more_ascend : (last : Option Variable) (ps : List Pair) (t : List ℕ) → MorePairs last ps t → ascends_after last ps ≡ true
more_ascend last [] t s = refl
more_ascend last (p ∷ ps) t s = let f = s.first_is in pair_ascends last p f.behind (ascends_after (Some p.0) ps) f.spelled (more_ascend (Some p.0) ps s.more s.more_is)

pub pairs_substitution : (ps : List Pair) (t : List ℕ) → PairsParts false ps t → IsSubstitution ps
pairs_substitution ps t s =
    let c = s.spelled in
    subst IsSubstitution (sym s.is) (test_is_right (s.from.0 ∷ s.from.1) (pair_ascends None s.from.0 c.first (ascends_after (Some s.from.0.0) s.from.1) c.first_spelled (more_ascend (Some s.from.0.0) s.from.1 c.second c.second_spelled)))

-- ---- what is printed ascends
not_out : (b : Bool) → not b ≡ true → b ≡ false
not_out false h = refl
not_out true h = cc

pair_after : (last : Option Variable) (p : Pair) (t : List ℕ) (rest : Bool) → SpellsPair p t → follows last p.0 && (not (same_term p.1 (term.Var p.0)) && rest) ≡ true → PairAfter last p t
pair_after last p t rest s h =
    let a = and_parts _ _ h in
    let b = and_parts _ _ a.1 in
    let f = s.second_spelled in
    record {
      first = s.first;
      second = s.second;
      first_spelled = record { spelled = s.first_spelled; after = a.0 };
      second_spelled = record { behind = f.behind; spelled = record { spelled = f.spelled; other = not_out (same_term p.1 (term.Var p.0)) b.0 }; joined = f.joined };
      joined = s.joined;
    }

more_after : (last : Option Variable) (ps : List Pair) (t : List ℕ) → SpellsMore ps t → ascends_after last ps ≡ true → MorePairs last ps t
more_after last [] t s h = s
more_after last (p ∷ ps) t s h =
    let f = s.first_is in
    let a = and_parts (follows last p.0) _ h in
    let b = and_parts (not (same_term p.1 (term.Var p.0))) (ascends_after (Some p.0) ps) a.1 in
    record {
      first = s.first;
      more = s.more;
      first_is = record { behind = f.behind; spelled = pair_after last p f.behind (ascends_after (Some p.0) ps) f.spelled h; joined = f.joined };
      more_is = more_after (Some p.0) ps s.more s.more_is b.1;
      joined = s.joined;
    }

pub adds-no_pair : (o p q : List ℕ) → p ≡ o ++ codes "[" → q ≡ p ++ codes "]" → Adds SpellsSubst [] o q
adds-no_pair o p q e f =
    adds-front (codes "[") _ [] o p q e (record { text = codes "]"; spelled = record { kind = true; spelled = record { from = tt; is = refl; spelled = refl } }; is = f })

pub adds-pairs : (x : Pair) (xs : List Pair) (o p q r : List ℕ) → IsSubstitution (x ∷ xs) → p ≡ o ++ codes "[" → Adds SpellsPair x p q → Adds SpellsMore xs q r → Adds SpellsSubst (x ∷ xs) o r
adds-pairs x xs o p q r h e a b =
    let up = right_passes_test (x ∷ xs) h in
    let later = and_parts (follows None x.0) _ up in
    let last = and_parts (not (same_term x.1 (term.Var x.0))) (ascends_after (Some x.0) xs) later.1 in
    let both : Adds (PairsParts false) (x ∷ xs) p r = record {
      text = a.text ++ b.text;
      spelled = record {
        from = (x, xs);
        is = refl;
        spelled = record {
          first = a.text;
          second = b.text;
          first_spelled = pair_after None x a.text (ascends_after (Some x.0) xs) a.spelled up;
          second_spelled = more_after (Some x.0) xs b.text b.spelled last.1;
          joined = refl;
        };
      };
      is = b.is ∙ ap (λ z. z ++ b.text) a.is ∙ append_assoc p a.text b.text;
    } in
    adds-front (codes "[") _ (x ∷ xs) o p r e (record { text = both.text; spelled = record { kind = false; spelled = both.spelled }; is = both.is })

pub adds-none : (s xs : List Pair) (o p q : List ℕ) → xs ≡ s → length xs < 1 → p ≡ o ++ codes "[" → q ≡ p ++ codes "]" → Adds SpellsSubst s o q
adds-none s [] o p q e h f g = subst (λ z. Adds SpellsSubst z o q) e (adds-no_pair o p q f g)
adds-none s (x ∷ xs) o p q e h f g = absurd (omega (arith, h))

take_rest : {A : Type 0} (x : A) (xs : List A) → take (length (x ∷ xs) - 1) xs ≡ xs
take_rest x xs = take_all (length (x ∷ xs) - 1) xs (omega arith)

pub adds-sliced : (s xs : List Pair) (x : Pair) (o p q r : List ℕ) → IsSubstitution s → xs ≡ s → 1 ≤ length xs → x ≡ get_or xs 0 x → p ≡ o ++ codes "[" → Adds SpellsPair x p q → Adds SpellsMore (take (length xs - 1) (drop 1 xs)) q r → Adds SpellsSubst s o r
adds-sliced s [] x o p q r i e h g f a b = absurd (omega (arith, h))
adds-sliced s (y ∷ ys) x o p q r i e h g f a b =
    subst (λ z. Adds SpellsSubst z o r) e (adds-pairs y ys o p q r (subst IsSubstitution (sym e) i) f (subst (λ z. Adds SpellsPair z p q) g a) (subst (λ z. Adds SpellsMore z q r) (take_rest y ys) b))

pub adds-pair : (v : Variable) (t : Term) (o p q r : List ℕ) → Adds SpellsVariable v o p → q ≡ p ++ codes ">" → Adds SpellsTerm t q r → Adds SpellsPair (v, t) o r
adds-pair v t o p q r a e b = adds-cat SpellsVariable (λ v. Front (codes ">") SpellsTerm) v t o p r a (adds-front (codes ">") SpellsTerm t p q r e b)
