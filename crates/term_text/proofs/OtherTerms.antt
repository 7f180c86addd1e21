-- Terms that aren't one variable: how their texts begin.
use Rattle.std.proofs.Common.{◌≡◌, ℕ, ◌+◌, ◌*◌, ◌/◌, ◌%◌, ◌^◌, ◌<◌, ◌≤◌, Bool, true, false, ◌||◌, List, [], ◌∷◌, ◌++◌, length, refl, sym, ap, subst, ◌∙◌, append_assoc, append-nil, inl, inr, Bor, arith}
use Rattle.std.specs.Prelude.{codes, ◌==◌, ◌⊎◌, nat_lt, Option, Some, option_map}
use Rattle.std.proofs.lemmas.Bool.{eqb-true, ltb-true}
use Rattle.std.proofs.lemmas.Bool.Decides.{nat_tests}
use Rattle.std.proofs.Math.Nat.{div-le_self}
use Rattle.term_base.specs.declared.variables.Variable.{Variable}
use Rattle.term_base.specs.declared.terms.Term.{Term}
use Rattle.term_base.specs.declared.terms.Term.TheVariants as term
use Rattle.term_base.specs.SameTerm.{same_term, same_term-true, same_term-refl}
use Rattle.term_base.specs.Trees.{tree, var}
use Rattle.term_base.specs.TreeOf.{tree-Var}
use Rattle.term_base.specs.TermFolds.{fold-Var}
use Rattle.term_text.specs.Texts.{variable_text, term_step}
use Rattle.text_pieces.specs.Decimals.{is_digit, decimal}
use Rattle.text_pieces.specs.Languages.{GoesOn, StopsAt, HasSpelling, Free, ReadsTo, FailsTo}
use Rattle.text_pieces.specs.Numbers.{Number, Word32}
use Rattle.text_pieces.proofs.Digits.{decimal_digit, decimal_step}
use Rattle.text_pieces.proofs.Reaching.{one_decimal, one_more_digit, longer}
use Rattle.text_pieces.proofs.Joining.{Fronts, within, beyond, fronts, head_same, tail_same, not_longer}
use Rattle.text_pieces.specs.Failing.{UnreadTo}
use Rattle.text_pieces.specs.Ending.{is_digit_or_bracket}
use Rattle.text_pieces.specs.declared.bad_texts.Unread.{Unread}
use Rattle.text_pieces.proofs.Lifts.{unread_on}
use Rattle.term_text.specs.declared.kinds.VariableKind.{VariableKind}
use Rattle.term_text.specs.declared.kinds.VariableKind.TheVariants.{Abstraction, Individual, Int, Declared}
use Rattle.term_text.specs.declared.kinds.TermKind.TheVariants.{Variable as VariableTerm}
use Rattle.term_text.specs.Variables.{VariableParts, SpellsVariable, variable_kind_of}
use Rattle.term_text.specs.Terms.{TermParts, SpellsTerm, term_kind_of}
use Rattle.term_text.specs.Substitutions.{TermBut, is_full, BehindVariable}
use Rattle.term_text.proofs.VariableFronts.{told-variable}
use Rattle.term_text.proofs.TermKinds.{told-term}
use Rattle.term_text.proofs.TermLevels.{from_layer, to_layer}
use Rattle.term_text.proofs.TermFronts.{sure-term}
use Rattle.term_text.proofs.TermTexts.{text-variable, text-term}
use Rattle.term_text.proofs.Ranks.{made, Made, parts_made}

abbrev m : ℕ → Bool
m = is_digit_or_bracket

-- ---- the text of a variable: what stands before its id, and the id
abbrev before : VariableKind → ℕ → List ℕ
before Abstraction n = codes "A"
before Individual n = codes "I"
before Int n = codes "N"
before Declared n = codes "D" ++ (decimal n ++ codes ".")

own_text : (k : VariableKind) (p : ℕ × ℕ) → variable_text (made k p) ≡ before k p.0 ++ decimal p.1
own_text Abstraction p = refl
own_text Individual p = refl
own_text Int p = refl
own_text Declared p = ap (λ z. 68 ∷ z) (sym (append_assoc (decimal p.0) (codes ".") (decimal p.1)))

number_spelled : (n : ℕ) → n < 2 ^ 32 → Number Word32 n (decimal n)
number_spelled n h = record { is_in = record { from_low = omega arith; to_high = omega (arith, h) }; digits = refl }

parts_spelled : (k : VariableKind) (p : ℕ × ℕ) → p.0 < 2 ^ 32 → p.1 < 2 ^ 32 → VariableParts k (made k p) (variable_text (made k p))
parts_spelled Abstraction p h i = record { from = p.1; is = refl; spelled = record { behind = decimal p.1; spelled = number_spelled p.1 i; joined = refl } }
parts_spelled Individual p h i = record { from = p.1; is = refl; spelled = record { behind = decimal p.1; spelled = number_spelled p.1 i; joined = refl } }
parts_spelled Int p h i = record { from = p.1; is = refl; spelled = record { behind = decimal p.1; spelled = number_spelled p.1 i; joined = refl } }
parts_spelled Declared p h i = record {
  from = p;
  is = refl;
  spelled = record {
    behind = decimal p.0 ++ (codes "." ++ decimal p.1);
    spelled = record {
      first = decimal p.0;
      second = codes "." ++ decimal p.1;
      first_spelled = number_spelled p.0 h;
      second_spelled = record { behind = decimal p.1; spelled = number_spelled p.1 i; joined = refl };
      joined = refl;
    };
    joined = refl;
  };
}

var_spelled : (v : Variable) (t : List ℕ) → SpellsVariable v t → SpellsTerm (term.Var v) t
var_spelled v t s = from_layer (term.Var v) t (record { kind = VariableTerm; spelled = record { from = v; is = refl; spelled = s } })

pub var_text : (v : Variable) (t : List ℕ) → SpellsTerm (term.Var v) t → t ≡ variable_text v
var_text v t s = text-term (term.Var v) t s ∙ fold-Var (List ℕ) term_step v

-- ---- other variables
var_same : (v w : Variable) → ◌≡◌ {A = Term} (term.Var v) (term.Var w) → v ≡ w
var_same v w h = in_tree (sym (tree-Var v) ∙ ap tree h ∙ tree-Var w)
  where
    in_tree : var v ≡ var w → v ≡ w
    in_tree h = cc

itself : (a : Term) (v : Variable) → same_term a (term.Var v) ≡ false → a ≡ term.Var v → ⊥
itself a v h e = differ (sym (ap (λ z. same_term z (term.Var v)) e ∙ same_term-refl (term.Var v)) ∙ h)
  where
    differ : true ≡ false → ⊥
    differ h = cc

ids_differ : (v w : Variable) → (v.id ≡ w.id → ⊥) → same_term (term.Var v) (term.Var w) ≡ false
ids_differ v w n = by (same_term (term.Var v) (term.Var w)) refl
  where
    by : (t : Bool) → same_term (term.Var v) (term.Var w) ≡ t → same_term (term.Var v) (term.Var w) ≡ false
    by true e = absurd (n (ap (λ (u : Variable). u.id) (var_same v w (same_term-true (term.Var v) (term.Var w) e))))
    by false e = e

id_of : (k : VariableKind) (p : ℕ × ℕ) → (made k p).id ≡ p.1
id_of Abstraction p = refl
id_of Individual p = refl
id_of Int p = refl
id_of Declared p = refl

-- another id of the same kind and sort
other_id : (k : VariableKind) (n i j : ℕ) → (i ≡ j → ⊥) → same_term (term.Var (made k (n, i))) (term.Var (made k (n, j))) ≡ false
other_id k n i j h = ids_differ (made k (n, i)) (made k (n, j)) (λ e. h (sym (id_of k (n, i)) ∙ e ∙ id_of k (n, j)))

-- ---- a term that goes on behind a variable's text
same_kind_text : (k : VariableKind) (q p : ℕ × ℕ) (tail : List ℕ) → variable_text (made k q) ≡ variable_text (made k p) ++ tail → Free is_digit (codes ".") → decimal q.1 ≡ decimal p.1 ++ tail
same_kind_text Abstraction q p tail h d = tail_same h
same_kind_text Individual q p tail h d = tail_same h
same_kind_text Int q p tail h d = tail_same h
same_kind_text Declared q p tail h d =
    let whole : decimal q.0 ++ (codes "." ++ decimal q.1) ≡ decimal p.0 ++ (codes "." ++ (decimal p.1 ++ tail)) = tail_same h ∙ append_assoc (decimal p.0) (codes "." ++ decimal p.1) tail in
    let first = one_decimal q.0 p.0 (codes "." ++ decimal q.1) (codes "." ++ (decimal p.1 ++ tail)) whole refl refl in
    tail_same first.1

sorts_same : (k : VariableKind) (q p : ℕ × ℕ) (tail : List ℕ) → variable_text (made k q) ≡ variable_text (made k p) ++ tail → q.1 ≡ p.1 → made k q ≡ made k p
sorts_same Abstraction q p tail h e = ap (λ i. made Abstraction (0, i)) e
sorts_same Individual q p tail h e = ap (λ i. made Individual (0, i)) e
sorts_same Int q p tail h e = ap (λ i. made Int (0, i)) e
sorts_same Declared q p tail h e =
    let whole : decimal q.0 ++ (codes "." ++ decimal q.1) ≡ decimal p.0 ++ (codes "." ++ (decimal p.1 ++ tail)) = tail_same h ∙ append_assoc (decimal p.0) (codes "." ++ decimal p.1) tail in
    let first = one_decimal q.0 p.0 (codes "." ++ decimal q.1) (codes "." ++ (decimal p.1 ++ tail)) whole refl refl in
    ap (λ n. made Declared (n, q.1)) first.0 ∙ ap (λ i. made Declared (p.0, i)) e

full_out : (id : ℕ) → is_full id ≡ true → (0 < id) → 429496729 < id
full_out id h p = by (id == 0) refl
  where
    by : (t : Bool) → id == 0 ≡ t → 429496729 < id
    by true e = let z = eqb-true id 0 e in absurd (omega (arith, z, p))
    by false e = ltb-true 429496729 id (sym (ap (λ b. b || nat_lt 429496729 id) e) ∙ h)

no_longer : (j id : ℕ) (tail : List ℕ) → is_full id ≡ true → j < 2 ^ 32 → decimal j ≡ decimal id ++ tail → j ≡ id
no_longer j id [] h l e = (one_decimal j id [] [] (append-nil (decimal j) ∙ e) tt tt).0
no_longer j id (c ∷ w) h l e =
    let g = longer j id c w e in
    let below = div-le_self j (10 ^ length w) in
    let high = full_out id h g.positive in
    absurd (omega (arith, g.front, below, high, l))

-- the first byte of a variable's text
abbrev letter : VariableKind → ℕ
letter Abstraction = 65
letter Individual = 73
letter Int = 78
letter Declared = 68

letter_kind : (k : VariableKind) → variable_kind_of (letter k) ≡ k
letter_kind Abstraction = refl
letter_kind Individual = refl
letter_kind Int = refl
letter_kind Declared = refl

letter_term : (k : VariableKind) → term_kind_of (letter k) ≡ VariableTerm
letter_term Abstraction = refl
letter_term Individual = refl
letter_term Int = refl
letter_term Declared = refl

record Lettered (k : VariableKind) (t : List ℕ) : Type 0 where
  more : List ℕ
  is : t ≡ letter k ∷ more

lettered : (k : VariableKind) (p : ℕ × ℕ) → Lettered k (variable_text (made k p))
lettered Abstraction p = record { more = decimal p.1; is = refl }
lettered Individual p = record { more = decimal p.1; is = refl }
lettered Int p = record { more = decimal p.1; is = refl }
lettered Declared p = record { more = decimal p.0 ++ (codes "." ++ decimal p.1); is = refl }

-- where the id is full, the variable alone has a text that begins as its own
no_other : (k : VariableKind) (p : ℕ × ℕ) (a : Term) (t tail : List ℕ) → is_full p.1 ≡ true → SpellsTerm a t → t ≡ variable_text (made k p) ++ tail → a ≡ term.Var (made k p)
no_other k p a t tail f s e =
    let l = to_layer a t s in
    let o = lettered k p in
    let n = told-term SpellsTerm l.kind a t l.spelled in
    let head : n.head ≡ letter k = head_same (sym n.is ∙ e ∙ ap (λ z. z ++ tail) o.is) in
    let is_var : l.kind ≡ VariableTerm = sym n.tells ∙ ap term_kind_of head ∙ letter_term k in
    let v = subst (λ z. TermParts SpellsTerm z a t) is_var l.spelled in
    let w = v.spelled in
    let n2 = told-variable w.kind v.from t w.spelled in
    let head2 : n2.head ≡ letter k = head_same (sym n2.is ∙ e ∙ ap (λ z. z ++ tail) o.is) in
    let same_kind : w.kind ≡ k = sym n2.tells ∙ ap variable_kind_of head2 ∙ letter_kind k in
    let q = parts_made k v.from t (subst (λ z. VariableParts z v.from t) same_kind w.spelled) in
    let whole : variable_text (made k q.numbers) ≡ variable_text (made k p) ++ tail = ap variable_text (sym q.is) ∙ sym (text-variable v.from t w) ∙ e in
    let ids = no_longer q.numbers.1 p.1 tail f q.id (same_kind_text k q.numbers p tail whole refl) in
    v.is ∙ ap term.Var (q.is ∙ sorts_same k q.numbers p tail whole ids)

-- ---- other terms with a front of the variable's text
record Twin (k : VariableKind) (p : ℕ × ℕ) : Type 0 where
  body : List ℕ
  last : ℕ
  more : List ℕ
  other : Variable
  own : variable_text (made k p) ≡ body ++ last ∷ []
  spelled : SpellsVariable other (body ++ more)
  differs : same_term (term.Var other) (term.Var (made k p)) ≡ false

spelled_as : (k : VariableKind) (n i : ℕ) (t : List ℕ) → n < 2 ^ 32 → i < 2 ^ 32 → variable_text (made k (n, i)) ≡ t → SpellsVariable (made k (n, i)) t
spelled_as k n i t h l e = subst (SpellsVariable (made k (n, i))) e (record { kind = k; spelled = parts_spelled k (n, i) h l })

twin : (k : VariableKind) (p : ℕ × ℕ) → p.0 < 2 ^ 32 → p.1 < 2 ^ 32 → is_full p.1 ≡ true → Twin k p
twin k p h l f = by (p.1 == 0) refl
  where
    by : (t : Bool) → p.1 == 0 ≡ t → Twin k p
    by true e =
        let z : p.1 ≡ 0 = eqb-true p.1 0 e in
        record {
          body = before k p.0;
          last = 48;
          more = 49 ∷ [];
          other = made k (p.0, 1);
          own = own_text k p ∙ ap (λ i. before k p.0 ++ decimal i) z ∙ ap (λ ds. before k p.0 ++ ds) (decimal_digit 0 (omega arith));
          spelled = spelled_as k p.0 1 (before k p.0 ++ 49 ∷ []) h (omega arith) (own_text k (p.0, 1) ∙ ap (λ ds. before k p.0 ++ ds) (decimal_digit 1 (omega arith)));
          differs = other_id k p.0 1 p.1 (λ e. omega (arith, e, z));
        }
    by false e =
        let pos : 0 < p.1 = grind (arith, nat_tests, e) in
        let high = full_out p.1 f pos in
        let tenth = p.1 / 10 in
        record {
          body = before k p.0 ++ decimal tenth;
          last = 48 + p.1 % 10;
          more = [];
          other = made k (p.0, tenth);
          own = own_text k p ∙ ap (λ ds. before k p.0 ++ ds) (decimal_step p.1 (omega (arith, high))) ∙ sym (append_assoc (before k p.0) (decimal tenth) ((48 + p.1 % 10) ∷ []));
          spelled = spelled_as k p.0 tenth ((before k p.0 ++ decimal tenth) ++ []) h (omega (arith, l)) (own_text k (p.0, tenth) ∙ sym (append-nil (before k p.0 ++ decimal tenth)));
          differs = other_id k p.0 tenth p.1 (λ e. omega (arith, e, high));
        }

-- a front that isn't the whole text of the variable
twin_goes : (k : VariableKind) (p : ℕ × ℕ) (w : Twin k p) (front z : List ℕ) → w.body ≡ front ++ z → GoesOn (TermBut (made k p)) front
twin_goes k p w front z e = record {
  value = term.Var w.other;
  text = w.body ++ w.more;
  tail = z ++ w.more;
  spelled = record { spelled = var_spelled w.other (w.body ++ w.more) w.spelled; other = w.differs };
  begins = ap (λ b. b ++ w.more) e ∙ append_assoc front z w.more;
}

proper_front : (front body tail : List ℕ) (c last : ℕ) → front ++ c ∷ tail ≡ body ++ last ∷ [] → (z : List ℕ) × (body ≡ front ++ z)
proper_front front body tail c last e = by (fronts front (c ∷ tail) body (last ∷ []) e)
  where
    no_more : (w : List ℕ) → ◌≡◌ {A = List ℕ} [] (w ++ c ∷ tail) → ⊥
    no_more [] h = cc
    no_more (d ∷ w) h = cc

    by : Fronts front (c ∷ tail) body (last ∷ []) → (z : List ℕ) × (body ≡ front ++ z)
    by (within z p q) = (z, p)
    by (beyond d w p q) = absurd (no_more w (tail_same q))

-- ---- the variable's text with one digit more
record Longer (k : VariableKind) (p : ℕ × ℕ) : Type 0 where
  other : Variable
  spelled : SpellsVariable other (variable_text (made k p) ++ 48 ∷ [])
  differs : same_term (term.Var other) (term.Var (made k p)) ≡ false

not_full : (id : ℕ) → is_full id ≡ false → (0 < id) × (id ≤ 429496729)
not_full id h = (grind (arith, nat_tests, h), grind (arith, nat_tests, h))

one_longer : (k : VariableKind) (p : ℕ × ℕ) → p.0 < 2 ^ 32 → is_full p.1 ≡ false → Longer k p
one_longer k p h f =
    let b = not_full p.1 f in
    record {
      other = made k (p.0, 10 * p.1 + 0);
      spelled = spelled_as k p.0 (10 * p.1 + 0) (variable_text (made k p) ++ 48 ∷ []) h (omega (arith, b.1))
          (own_text k (p.0, 10 * p.1 + 0) ∙ ap (λ ds. before k p.0 ++ ds) (one_more_digit p.1 0 b.0 (omega arith)) ∙ sym (append_assoc (before k p.0) (decimal p.1) (48 ∷ [])) ∙ ap (λ z. z ++ 48 ∷ []) (sym (own_text k p)));
      differs = other_id k p.0 (10 * p.1 + 0) p.1 (λ e. omega (arith, e, b.0));
    }

-- ---- reading
module _ (k : VariableKind) (p : ℕ × ℕ) (h : p.0 < 2 ^ 32) (l : p.1 < 2 ^ 32) where
  abbrev v : Variable
  v = made k p

  but_reads : (bytes rest : List ℕ) (a : Term) → ReadsTo m SpellsTerm bytes a rest → same_term a (term.Var v) ≡ false → ReadsTo m (TermBut v) bytes a rest
  but_reads bytes rest a r o = record { text = r.text; spelled = record { spelled = r.spelled; other = o }; whole = r.whole; ends = r.ends }

  plain_stops : (front rest : List ℕ) → StopsAt SpellsTerm front rest → StopsAt (TermBut v) front rest
  plain_stops front [] s = tt
  plain_stops front (b ∷ bs) s = λ g. s (record { value = g.value; text = g.text; tail = g.tail; spelled = g.spelled.spelled; begins = g.begins })

  -- where another term has each front that a term has
  but_fails : (bytes : List ℕ) (left : ℕ) (f : FailsTo m SpellsTerm bytes left) → GoesOn (TermBut v) f.front → FailsTo m (TermBut v) bytes left
  but_fails bytes left f g = record {
    front = f.front;
    rest = f.rest;
    whole = f.whole;
    left_is = f.left_is;
    goes_on = g;
    stops = plain_stops f.front f.rest f.stops;
    none = λ a rest r. f.none a rest (record { text = r.text; spelled = r.spelled.spelled; whole = r.whole; ends = r.ends });
  }

  goes_either : {P : Type 0} (front : List ℕ) → GoesOn SpellsTerm front → (GoesOn (TermBut v) front → P) → ((tail : List ℕ) → variable_text v ≡ front ++ tail → P) → P
  goes_either {P} front g other own = by (same_term g.value (term.Var v)) refl
    where
      by : (t : Bool) → same_term g.value (term.Var v) ≡ t → P
      by true e = own g.tail (sym (var_text v g.text (subst (λ z. SpellsTerm z g.text) (same_term-true g.value (term.Var v) e) g.spelled)) ∙ g.begins)
      by false e = other (record { value = g.value; text = g.text; tail = g.tail; spelled = record { spelled = g.spelled; other = e }; begins = g.begins })

  longer_goes : is_full p.1 ≡ false → (front tail : List ℕ) → variable_text v ≡ front ++ tail → GoesOn (TermBut v) front
  longer_goes f front tail e =
      let o = one_longer k p h f in
      record {
        value = term.Var o.other;
        text = variable_text v ++ 48 ∷ [];
        tail = tail ++ 48 ∷ [];
        spelled = record { spelled = var_spelled o.other (variable_text v ++ 48 ∷ []) o.spelled; other = o.differs };
        begins = ap (λ z. z ++ 48 ∷ []) e ∙ append_assoc front tail (48 ∷ []);
      }

  pub open_fails : (bytes : List ℕ) (left : ℕ) → is_full p.1 ≡ false → FailsTo m SpellsTerm bytes left → FailsTo m (TermBut v) bytes left
  open_fails bytes left full f = but_fails bytes left f (goes_either f.front f.goes_on (λ g. g) (longer_goes full f.front))

  pub full_fails : (bytes : List ℕ) (left : ℕ) → is_full p.1 ≡ true → ((rest : List ℕ) → bytes ≡ variable_text v ++ rest → ⊥) → FailsTo m SpellsTerm bytes left → FailsTo m (TermBut v) bytes left
  full_fails bytes left full missing f = but_fails bytes left f (goes_either f.front f.goes_on (λ g. g) short)
    where
      short : (tail : List ℕ) → variable_text v ≡ f.front ++ tail → GoesOn (TermBut v) f.front
      short [] e = absurd (missing f.rest (f.whole ∙ ap (λ z. z ++ f.rest) (sym (e ∙ append-nil f.front))))
      short (c ∷ tail) e =
          let w = twin k p h l full in
          let z = proper_front f.front w.body tail c w.last (sym e ∙ w.own) in
          twin_goes k p w f.front z.0 z.1

  -- the variable was read, and a longer number may come
  pub open_itself : (bytes rest : List ℕ) (a : Term) → is_full p.1 ≡ false → ReadsTo m SpellsTerm bytes a rest → a ≡ term.Var v → FailsTo m (TermBut v) bytes (length rest)
  open_itself bytes rest a full r e =
      let own : variable_text v ≡ r.text = sym (var_text v r.text (subst (λ z. SpellsTerm z r.text) e r.spelled)) in
      record {
        front = r.text;
        rest = rest;
        whole = r.whole;
        left_is = refl;
        goes_on = longer_goes full r.text [] (own ∙ sym (append-nil r.text));
        stops = stop rest r.ends;
        none = λ b rest' s.
            let same = sure-term.one b a s.text r.text rest' rest s.spelled.spelled r.spelled (sym s.whole ∙ r.whole) s.ends r.ends in
            itself b v s.spelled.other (same.value ∙ e);
      }
    where
      stop : (rest : List ℕ) → Free m rest → StopsAt (TermBut v) r.text rest
      stop [] d = tt
      stop (b ∷ bs) d = λ g.
          let same = sure-term.one a g.value r.text g.text (b ∷ g.tail) [] r.spelled g.spelled.spelled (sym (append_assoc r.text (b ∷ []) g.tail) ∙ sym g.begins ∙ sym (append-nil g.text)) d tt in
          not_longer r.text b g.tail (same.text ∙ g.begins ∙ append_assoc r.text (b ∷ []) g.tail)

  -- the variable's text stands in front, and no longer number may come
  pub full_itself : (bytes rest : List ℕ) → is_full p.1 ≡ true → bytes ≡ variable_text v ++ rest → FailsTo m (TermBut v) bytes (length rest + 1)
  full_itself bytes rest full e =
      let w = twin k p h l full in
      record {
        front = w.body;
        rest = w.last ∷ rest;
        whole = e ∙ ap (λ z. z ++ rest) w.own ∙ append_assoc w.body (w.last ∷ []) rest;
        left_is = omega arith;
        goes_on = twin_goes k p w w.body [] (sym (append-nil w.body));
        stops = λ g. itself g.value v g.spelled.other (no_other k p g.value g.text g.tail full g.spelled.spelled (g.begins ∙ ap (λ z. z ++ g.tail) (sym w.own)));
        none = λ a rest' r. none a rest' r (fronts (variable_text v) rest r.text rest' (sym e ∙ r.whole));
      }
    where
      none : (a : Term) (rest' : List ℕ) (r : ReadsTo m (TermBut v) bytes a rest') → Fronts (variable_text v) rest r.text rest' → ⊥
      none a rest' r (within u i j) = itself a v r.spelled.other (no_other k p a r.text u full r.spelled.spelled i)
      none a rest' r (beyond c u i j) =
          let mine : SpellsVariable v (variable_text v) = record { kind = k; spelled = parts_spelled k p h l } in
          let same = sure-term.one (term.Var v) a (variable_text v) r.text [] (c ∷ u) (var_spelled v (variable_text v) mine) r.spelled.spelled (append-nil (variable_text v) ∙ i) tt (clear c u rest' j r.ends) in
          not_longer r.text c u (sym same.text ∙ i)
        where
          clear : (c : ℕ) (u rest' : List ℕ) → rest' ≡ c ∷ (u ++ rest) → Free m rest' → Free m (c ∷ u)
          clear c u rest' j d = subst (Free m) j d

  -- it isn't read where its text doesn't stand in front
  pub full_other : (bytes rest : List ℕ) (a : Term) → ((more : List ℕ) → bytes ≡ variable_text v ++ more → ⊥) → ReadsTo m SpellsTerm bytes a rest → a ≡ term.Var v → ⊥
  full_other bytes rest a missing r e = missing rest (r.whole ∙ ap (λ z. z ++ rest) (var_text v r.text (subst (λ z. SpellsTerm z r.text) e r.spelled)))

-- ---- for a variable that has a text
module _ (v : Variable) (s : HasSpelling SpellsVariable v) where
  abbrev mine : Made s.spelled.kind v
  mine = parts_made s.spelled.kind v s.text s.spelled.spelled

  pub own_in_front : {bytes : List ℕ} (rest : List ℕ) → is_full v.id ≡ true → bytes ≡ variable_text v ++ rest → FailsTo m (TermBut v) bytes (length rest + 1)
  own_in_front {bytes} rest f e =
      let n = mine in
      let k = s.spelled.kind in
      let full : is_full n.numbers.1 ≡ true = ap is_full (sym (id_of k n.numbers) ∙ ap (λ (u : Variable). u.id) (sym n.is)) ∙ f in
      subst (λ z. FailsTo m (TermBut z) bytes (length rest + 1)) (sym n.is) (full_itself k n.numbers n.sort n.id bytes rest full (e ∙ ap (λ z. variable_text z ++ rest) n.is))

  abbrev Apart : List ℕ → Type 0
  Apart bytes = (is_full v.id ≡ false) ⊎ ((rest : List ℕ) → bytes ≡ variable_text v ++ rest → ⊥)

  fails_other : {bytes : List ℕ} {left : ℕ} → Apart bytes → FailsTo m SpellsTerm bytes left → FailsTo m (TermBut v) bytes left
  fails_other {bytes} {left} o f =
      let n = mine in
      let k = s.spelled.kind in
      let id_is : is_full n.numbers.1 ≡ is_full v.id = ap is_full (sym (id_of k n.numbers) ∙ ap (λ (u : Variable). u.id) (sym n.is)) in
      subst (λ z. FailsTo m (TermBut z) bytes left) (sym n.is) (by (is_full n.numbers.1) refl id_is o)
    where
      by : (t : Bool) → is_full mine.numbers.1 ≡ t → is_full mine.numbers.1 ≡ is_full v.id → Apart bytes → FailsTo m (TermBut (made s.spelled.kind mine.numbers)) bytes left
      by false e i o = open_fails s.spelled.kind mine.numbers mine.sort mine.id bytes left e f
      by true e i (inl h) = absurd (differ (sym e ∙ i ∙ h))
        where
          differ : true ≡ false → ⊥
          differ h = cc
      by true e i (inr h) = full_fails s.spelled.kind mine.numbers mine.sort mine.id bytes left e (λ rest w. h rest (w ∙ ap (λ z. variable_text z ++ rest) (sym mine.is))) f

  pub unread_other : {bytes : List ℕ} → Apart bytes → (e : Unread) → UnreadTo m SpellsTerm bytes e → UnreadTo m (TermBut v) bytes e
  unread_other {bytes} o e h = unread_on m m (TermBut v) bytes SpellsTerm bytes (λ left f. fails_other o f) e h

  pub read_itself : {bytes rest : List ℕ} {a : Term} → Apart bytes → ReadsTo m SpellsTerm bytes a rest → a ≡ term.Var v → FailsTo m (TermBut v) bytes (length rest)
  read_itself {bytes} {rest} {a} o r e =
      let n = mine in
      let k = s.spelled.kind in
      let id_is : is_full n.numbers.1 ≡ is_full v.id = ap is_full (sym (id_of k n.numbers) ∙ ap (λ (u : Variable). u.id) (sym n.is)) in
      elim o [
        | inl h ↦ subst (λ z. FailsTo m (TermBut z) bytes (length rest)) (sym n.is) (open_itself k n.numbers n.sort n.id bytes rest a (id_is ∙ h) r (e ∙ ap term.Var n.is))
        | inr h ↦ absurd (full_other k n.numbers n.sort n.id bytes rest a (λ more w. h more (w ∙ ap (λ z. variable_text z ++ more) (sym n.is))) r (e ∙ ap term.Var n.is))
      ]

  pub read_other : {bytes rest : List ℕ} {a : Term} → ReadsTo m SpellsTerm bytes a rest → same_term a (term.Var v) ≡ false → ReadsTo m (TermBut v) bytes a rest
  read_other {bytes} {rest} {a} r o = record { text = r.text; spelled = record { spelled = r.spelled; other = o }; whole = r.whole; ends = r.ends }

-- what was found behind the variable's text
pub behind_some : (v : Variable) (bytes : List ℕ) (o : Option (Bor (List ℕ))) (r : Bor (List ℕ)) → BehindVariable v bytes (option_map (λ r. r.now) o) → o ≡ Some r → bytes ≡ variable_text v ++ r.now
behind_some v bytes o r h e = subst (λ z. BehindVariable v bytes (option_map (λ r. r.now) z)) e h
