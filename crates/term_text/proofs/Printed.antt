-- Terms, clauses and places put behind a text part by part.
use Rattle.std.proofs.Common.{◌≡◌, ℕ, zero, suc, ◌+◌, ◌^◌, ◌<◌, ◌≤◌, ℤ, true, false, List, [], ◌∷◌, ◌++◌, ◌-◌, take, refl, sym, ap, subst, ◌∙◌, append_assoc, append-nil, length, drop, drop-cons, get_or, arith, FitsSigned}
use Rattle.std.specs.Prelude.{codes, ◌==◌}
use Rattle.std.specs.Int.{w128}
use Rattle.std.proofs.lemmas.List.{take_all}
use Rattle.std.proofs.lemmas.Bool.{eqb-true}
use Rattle.term_base.specs.declared.symbols.Sort.{Sort}
use Rattle.term_base.specs.declared.symbols.Sort.TheVariants as sort
use Rattle.term_base.specs.declared.variables.Kind.{Kind}
use Rattle.term_base.specs.declared.variables.Kind.TheVariants as kind
use Rattle.term_base.specs.declared.variables.Variable.{Variable}
use Rattle.term_base.specs.declared.terms.Term.{Term}
use Rattle.term_base.specs.declared.terms.Term.TheVariants as term
use Rattle.term_base.specs.declared.clauses.Literal.{Literal}
use Rattle.term_base.specs.declared.clauses.Clause.{Clause}
use Rattle.term_base.specs.declared.places.Side.{Side}
use Rattle.term_base.specs.Proper.{IsProper}
use Rattle.term_base.specs.TermFolds.{fold-Num}
use Rattle.text_pieces.specs.Decimals.{decimal, signed_decimal}
use Rattle.text_pieces.specs.Languages.{Cat}
use Rattle.text_pieces.specs.Numbers.{Number, Word32, Signed, Signed128}
use Rattle.text_pieces.specs.Printing.{Adds}
use Rattle.text_pieces.proofs.Adding.{adds-cat, adds-image, whole_in}
use Rattle.text_pieces.specs.Fronts.{Front, Word}
use Rattle.text_pieces.proofs.Putting.{adds-word32, adds-word, adds-as, adds-front, adds-kind}
use Rattle.term_text.specs.declared.kinds.VariableKind.TheVariants.{Abstraction, Individual, Int, Declared}
use Rattle.term_text.specs.declared.kinds.TermKind.{TermKind}
use Rattle.term_text.specs.declared.kinds.TermKind.TheVariants.{Variable as VariableTerm, Number as NumberTerm, Truth, Bracket, Symbol}
use Rattle.term_text.specs.declared.kinds.Operation.{Operation}
use Rattle.term_text.specs.declared.kinds.Operation.TheVariants.{Plus, Times}
use Rattle.term_text.specs.declared.kinds.Relation.{Relation}
use Rattle.term_text.specs.Variables.{abstraction, individual, integer, declared, VariableParts, SpellsVariable}
use Rattle.term_text.specs.Terms.{number_step, number_of, Sign, bracketed, Second, BehindFirst, InBrackets, MoreArguments, ListedArguments, Arguments, TermParts, SpellsTerm, Opened}
use Rattle.term_text.specs.Clauses.{relation_word, RelationWord, related, literal_of, SpellsLiteral, MoreLiterals, ClauseParts, SpellsClauseLine, clause_of}
use Rattle.term_text.specs.Places.{SpellsSide, SpellsPath, SpellsPlace, place_of}
use Rattle.term_text.proofs.TermLevels.{from_layer}
use Rattle.term_text.proofs.VariableWindows.{is_abstraction, is_individual, is_integer, is_declared}

-- ---- variables
pub adds-numbered : (letter : List ℕ) (n : ℕ) (o p q : List ℕ) → n < 2 ^ 32 → p ≡ o ++ letter → q ≡ p ++ decimal n → Adds (Front letter (Number Word32)) n o q
adds-numbered letter n o p q h e f = adds-front letter (Number Word32) n o p q e (adds-word32 n p q h f)

false_true : false ≡ true → ⊥
false_true h = cc

sort_int : (s : Sort) → IsProper kind.Abstraction s → s ≡ sort.Int
sort_int sort.Individual h = absurd (false_true h)
sort_int sort.Int h = refl
sort_int (sort.Declared n) h = absurd (false_true h)
sort_int sort.Truth h = absurd (false_true h)

not_truth : (k : Kind) (s : Sort) → IsProper k s → k ≡ kind.Ordinary → s ≡ sort.Truth → ⊥
not_truth k s h e f = false_true (subst (λ z. IsProper kind.Ordinary z) f (subst (λ z. IsProper z s) e h))

pub adds-abstraction : (v : Variable) (o q : List ℕ) → v.kind ≡ kind.Abstraction → Adds (Front (codes "A") (Number Word32)) v.id o q → Adds SpellsVariable v o q
adds-abstraction v o q k r =
    let is = is_abstraction v v.id k (sort_int v.sort (subst (λ z. IsProper z v.sort) k v.proper)) refl in
    subst (λ z. Adds SpellsVariable z o q) (sym is) (adds-kind VariableParts Abstraction (abstraction v.id) o q (adds-image abstraction _ v.id o q r))

pub adds-individual : (v : Variable) (o q : List ℕ) → v.kind ≡ kind.Ordinary → v.sort ≡ sort.Individual → Adds (Front (codes "I") (Number Word32)) v.id o q → Adds SpellsVariable v o q
adds-individual v o q k s r = subst (λ z. Adds SpellsVariable z o q) (sym (is_individual v v.id k s refl)) (adds-kind VariableParts Individual (individual v.id) o q (adds-image individual _ v.id o q r))

pub adds-integer : (v : Variable) (o q : List ℕ) → v.kind ≡ kind.Ordinary → v.sort ≡ sort.Int → Adds (Front (codes "N") (Number Word32)) v.id o q → Adds SpellsVariable v o q
adds-integer v o q k s r = subst (λ z. Adds SpellsVariable z o q) (sym (is_integer v v.id k s refl)) (adds-kind VariableParts Int (integer v.id) o q (adds-image integer _ v.id o q r))

pub adds-declared : (n id : ℕ) (o p q : List ℕ) → Adds (Front (codes "D") (Number Word32)) n o p → Adds (Front (codes ".") (Number Word32)) id p q → Adds SpellsVariable (declared (n, id)) o q
adds-declared n id o p q r s =
    let f = r.spelled in
    let both : Adds (Front (codes "D") (Cat (Number Word32) (λ n. Front (codes ".") (Number Word32)))) (n, id) o q = record {
      text = r.text ++ s.text;
      spelled = record {
        behind = f.behind ++ s.text;
        spelled = record { first = f.behind; second = s.text; first_spelled = f.spelled; second_spelled = s.spelled; joined = refl };
        joined = ap (λ z. z ++ s.text) f.joined;
      };
      is = s.is ∙ ap (λ z. z ++ s.text) r.is ∙ append_assoc o r.text s.text;
    } in
    adds-kind VariableParts Declared (declared (n, id)) o q (adds-image declared _ (n, id) o q both)

pub as-declared : (v : Variable) (n : ℕ) (o q : List ℕ) → v.kind ≡ kind.Ordinary → v.sort ≡ sort.Declared n → Adds SpellsVariable (declared (n, v.id)) o q → Adds SpellsVariable v o q
as-declared v n o q k s r = subst (λ z. Adds SpellsVariable z o q) (sym (is_declared v (n, v.id) k s refl)) r

pub no-truth : (v : Variable) → v.kind ≡ kind.Ordinary → v.sort ≡ sort.Truth → ⊥
no-truth v k s = not_truth v.kind v.sort v.proper k s

-- ---- terms
adds-layer : (k : TermKind) (a : Term) (o q : List ℕ) → Adds (TermParts SpellsTerm k) a o q → Adds SpellsTerm a o q
adds-layer k a o q r = record { text = r.text; spelled = from_layer a r.text (record { kind = k; spelled = r.spelled }); is = r.is }

pub adds-var : (v : Variable) (o q : List ℕ) → Adds SpellsVariable v o q → Adds SpellsTerm (term.Var v) o q
adds-var v o q r = adds-layer VariableTerm (term.Var v) o q (adds-image term.Var SpellsVariable v o q r)

pub adds-num : (z : ℤ) (o q : List ℕ) → FitsSigned w128 z → q ≡ o ++ signed_decimal z → Adds SpellsTerm (term.Num z) o q
adds-num z o q h e =
    adds-layer NumberTerm (term.Num z) o q (adds-image term.Num (Signed (Signed128 0)) z o q (record { text = signed_decimal z; spelled = record { is_in = whole_in z h; digits = refl }; is = e }))

pub adds-true : (o q : List ℕ) → q ≡ o ++ codes "true" → Adds SpellsTerm term.True o q
adds-true o q e = adds-layer Truth term.True o q (adds-image (λ (u : Unit {0}). term.True) (Word (codes "true")) tt o q (adds-word (codes "true") o q e))

-- two words behind a text are one
cut : (a b : List ℕ) (x y : List ℕ) → y ≡ x ++ (a ++ b) → y ≡ (x ++ a) ++ b
cut a b x y e = e ∙ sym (append_assoc x a b)

adds-brackets : (a : Term) (op : Operation) (sign : List ℕ) (b : Term) (o p q r s u : List ℕ) → Sign (number_of a) op sign → p ≡ o ++ codes "(" → Adds SpellsTerm a p q
    → r ≡ q ++ (codes " " ++ (sign ++ codes " ")) → Adds SpellsTerm b r s → u ≡ s ++ codes ")" → Adds (TermParts SpellsTerm Bracket) (bracketed (a, (op, (b, tt)))) o u
adds-brackets a op sign b o p q r s u g e f h i j =
    let q1 = q ++ codes " " in
    let q2 = q1 ++ sign in
    let second : Adds (Second SpellsTerm) (b, tt) q2 u =
    adds-front (codes " ") _ (b, tt) q2 r u (h ∙ sym (append_assoc q (codes " ") (sign ++ codes " ")) ∙ sym (append_assoc q1 sign (codes " ")))
    (adds-cat SpellsTerm (λ b. Word (codes ")")) b tt r s u i (adds-word (codes ")") s u j)) in
    let signed : Adds (BehindFirst SpellsTerm a) (op, (b, tt)) q u =
    adds-front (codes " ") _ (op, (b, tt)) q q1 u refl (adds-cat (Sign (number_of a)) (λ sign. Second SpellsTerm) op (b, tt) q1 q2 u (record { text = sign; spelled = g; is = refl }) second) in
    adds-image bracketed (InBrackets SpellsTerm) (a, (op, (b, tt))) o u (adds-front (codes "(") _ (a, (op, (b, tt))) o p u e (adds-cat SpellsTerm (BehindFirst SpellsTerm) a (op, (b, tt)) p q u f signed))

pub adds-sum : (a b : Term) (o p q r s u : List ℕ) → p ≡ o ++ codes "(" → Adds SpellsTerm a p q → r ≡ q ++ codes " + " → Adds SpellsTerm b r s → u ≡ s ++ codes ")" → Adds SpellsTerm (term.Sum a b) o u
adds-sum a b o p q r s u e f h i j = adds-layer Bracket (term.Sum a b) o u (adds-brackets a Plus (codes "+") b o p q r s u refl e f h i j)

times_sign : (k : ℤ) → Sign (number_of (term.Num k)) (Times k) (codes "*")
times_sign k = subst (λ n. Sign n (Times k) (codes "*")) (sym (fold-Num _ number_step k)) (refl, refl)

pub adds-multiple : (k : ℤ) (b : Term) (o p q r s u : List ℕ) → FitsSigned w128 k → p ≡ o ++ codes "(" → q ≡ p ++ signed_decimal k → r ≡ q ++ codes " * " → Adds SpellsTerm b r s → u ≡ s ++ codes ")"
    → Adds SpellsTerm (term.Scale k b) o u
adds-multiple k b o p q r s u w e f h i j = adds-layer Bracket (term.Scale k b) o u (adds-brackets (term.Num k) (Times k) (codes "*") b o p q r s u (times_sign k) e (adds-num k p q w f) h i j)

adds-symbol : (f : ℕ) (ts : List Term) (o p q r : List ℕ) → f < 2 ^ 32 → p ≡ o ++ codes "s" → q ≡ p ++ decimal f → Adds (Arguments SpellsTerm) ts q r → Adds SpellsTerm (term.App f ts) o r
adds-symbol f ts o p q r h e g a =
    adds-layer Symbol (term.App f ts) o r (adds-image (λ (p : ℕ × List Term). term.App p.0 p.1) _ (f, ts) o r
    (adds-front (codes "s") _ (f, ts) o p r e (adds-cat (Number Word32) (λ f. Arguments SpellsTerm) f ts p q r (adds-word32 f p q h g) a)))

pub adds-constant : (f : ℕ) (o p q : List ℕ) → f < 2 ^ 32 → p ≡ o ++ codes "s" → q ≡ p ++ decimal f → Adds SpellsTerm (term.App f []) o q
adds-constant f o p q h e g = adds-symbol f [] o p q q h e g (record { text = []; spelled = refl; is = sym (append-nil q) })

pub adds-application : (f : ℕ) (x : Term) (xs : List Term) (o p q r s u : List ℕ) → f < 2 ^ 32 → p ≡ o ++ codes "s" → q ≡ p ++ decimal f → r ≡ q ++ codes "(" → Adds SpellsTerm x r s → Adds (MoreArguments SpellsTerm) xs s u
    → Adds SpellsTerm (term.App f (x ∷ xs)) o u
adds-application f x xs o p q r s u h e g i a b =
    let all : Adds (ListedArguments SpellsTerm) (x ∷ xs) q u =
    adds-image (λ (p : Term × List Term). p.0 ∷ p.1) _ (x, xs) q u (adds-front (codes "(") _ (x, xs) q r u i (adds-cat SpellsTerm (λ first. MoreArguments SpellsTerm) x xs r s u a b)) in
    adds-symbol f (x ∷ xs) o p q u h e g (record { text = all.text; spelled = all.spelled; is = all.is })

-- arguments up to the i-th were put behind the text, and what stands in front of the next
abbrev pub Opening : List Term → List ℕ → ℕ → List ℕ → List ℕ → Type 0
Opening xs old zero front t = (front ≡ codes "(") × (t ≡ old)
Opening xs old (suc i) front t = (front ≡ codes ",") × ((z : List ℕ) → Adds (MoreArguments SpellsTerm) (drop (suc i) xs) t z → Adds (ListedArguments SpellsTerm) xs old z)

pub opening_next : (xs : List Term) (i : ℕ) (a : Term) (old front t p u : List ℕ) → i < length xs → a ≡ get_or xs i a → Opening xs old i front t → p ≡ t ++ front → Adds SpellsTerm a p u → Opening xs old (i + 1) (codes ",") u
opening_next xs i a old front t p u l e o f r = subst (λ n. Opening xs old n (codes ",") u) one (by i l e o)
  where
    one : suc i ≡ i + 1
    one = omega arith

    by : (i : ℕ) → i < length xs → a ≡ get_or xs i a → Opening xs old i front t → Opening xs old (suc i) (codes ",") u
    by zero l e o = (
      refl,
      λ z m.
          let split : xs ≡ a ∷ drop 1 xs = drop-cons xs 0 a l ∙ ap (λ b. b ∷ drop 1 xs) (sym e) in
          let open_at : p ≡ old ++ codes "(" = f ∙ ap (λ w. w ++ front) o.1 ∙ ap (λ w. old ++ w) o.0 in
          subst (λ ys. Adds (ListedArguments SpellsTerm) ys old z) (sym split)
          (adds-image (λ (p : Term × List Term). p.0 ∷ p.1) _ (a, drop 1 xs) old z (adds-front (codes "(") _ (a, drop 1 xs) old p z open_at (adds-cat SpellsTerm (λ first. MoreArguments SpellsTerm) a (drop 1 xs) p u z r m))),
    )
    by (suc i) l e o = (
      refl,
      λ z m.
          let split : drop (suc i) xs ≡ a ∷ drop (suc (suc i)) xs = drop-cons xs (suc i) a l ∙ ap (λ b. b ∷ drop (suc (suc i)) xs) (sym e) in
          let here : Adds (Front (codes ",") SpellsTerm) a t u = adds-front (codes ",") SpellsTerm a t p u (f ∙ ap (λ w. t ++ w) o.0) r in
          let both : Adds (MoreArguments SpellsTerm) (a ∷ drop (suc (suc i)) xs) t z = record {
            text = here.text ++ m.text;
            spelled = record { first = here.text; more = m.text; first_is = here.spelled; more_is = m.spelled; joined = refl };
            is = m.is ∙ ap (λ w. w ++ m.text) here.is ∙ append_assoc t here.text m.text;
          } in
          o.1 z (subst (λ ys. Adds (MoreArguments SpellsTerm) ys t z) (sym split) both),
    )

drop_all : (i : ℕ) (xs : List Term) → length xs ≤ i → drop i xs ≡ []
drop_all zero [] h = refl
drop_all zero (x ∷ xs) h = absurd (omega arith)
drop_all (suc i) [] h = refl
drop_all (suc i) (x ∷ xs) h = drop_all i xs (omega arith)

pub opening_all : (xs : List Term) (i : ℕ) (old front t : List ℕ) → length xs ≤ i → i ≤ length xs → Opening xs old i front t → Opened xs old t
opening_all [] zero old front t l h o = o.1
opening_all [] (suc i) old front t l h o = absurd (omega (arith, h))
opening_all (x ∷ xs) zero old front t l h o = absurd (omega (arith, l))
opening_all (x ∷ xs) (suc i) old front t l h o = λ z e.
    o.1 z (subst (λ ys. Adds (MoreArguments SpellsTerm) ys t z) (sym (drop_all (suc i) (x ∷ xs) l)) (record { text = codes ")"; spelled = refl; is = e }))

pub adds-no_argument : (f : ℕ) (xs : List Term) (o p q r : List ℕ) → f < 2 ^ 32 → p ≡ o ++ codes "s" → q ≡ p ++ decimal f → Opened xs q r → (length xs == 0) ≡ true → Adds SpellsTerm (term.App f xs) o r
adds-no_argument f [] o p q r h e g a n = adds-symbol f [] o p q r h e g (record { text = []; spelled = refl; is = a ∙ sym (append-nil q) })
adds-no_argument f (x ∷ xs) o p q r h e g a n = let none = eqb-true (length (x ∷ xs)) 0 n in absurd (omega (arith, none))

pub adds-some_arguments : (f : ℕ) (xs : List Term) (o p q r s : List ℕ) → f < 2 ^ 32 → p ≡ o ++ codes "s" → q ≡ p ++ decimal f → Opened xs q r → (length xs == 0) ≡ false → s ≡ r ++ codes ")" → Adds SpellsTerm (term.App f xs) o s
adds-some_arguments f [] o p q r s h e g a n i = absurd (false_true (sym n))
adds-some_arguments f (x ∷ xs) o p q r s h e g a n i = let all = a s i in adds-symbol f (x ∷ xs) o p q s h e g (record { text = all.text; spelled = all.spelled; is = all.is })

-- ---- literals and clauses
pub adds-literal : (s : Term) (l : Relation) (t : Term) (o p q r u v : List ℕ) → Adds SpellsTerm s o p → q ≡ p ++ codes " " → r ≡ q ++ relation_word l → u ≡ r ++ codes " " → Adds SpellsTerm t u v → Adds SpellsLiteral (related l s t) o v
adds-literal s l t o p q r u v a e f g b =
    adds-image literal_of _ (s, (l, t)) o v (adds-cat SpellsTerm (λ s. Front (codes " ") (Cat RelationWord (λ relation. Front (codes " ") SpellsTerm))) s (l, t) o p v a
    (adds-front (codes " ") _ (l, t) p q v e (adds-cat RelationWord (λ relation. Front (codes " ") SpellsTerm) l t q r v (adds-as relation_word l q r f) (adds-front (codes " ") SpellsTerm t r u v g b))))

pub adds-empty_clause : (o q : List ℕ) → q ≡ o ++ codes "$false\n" → Adds SpellsClauseLine (record { literals = [] }) o q
adds-empty_clause o q e = adds-kind ClauseParts true (record { literals = [] }) o q (adds-image (λ (u : Unit {0}). record { literals = [] }) (Word (codes "$false\n")) tt o q (adds-word (codes "$false\n") o q e))

pub adds-clause : (l : Literal) (ls : List Literal) (o p q : List ℕ) → Adds SpellsLiteral l o p → Adds MoreLiterals ls p q → Adds SpellsClauseLine (record { literals = l ∷ ls }) o q
adds-clause l ls o p q a b = adds-kind ClauseParts false (record { literals = l ∷ ls }) o q (adds-image clause_of _ (l, ls) o q (adds-cat SpellsLiteral (λ first. MoreLiterals) l ls o p q a b))

-- all that follows the first item of a slice
take_rest : {A : Type 0} (x : A) (xs : List A) → take (length (x ∷ xs) - 1) xs ≡ xs
take_rest x xs = take_all (length (x ∷ xs) - 1) xs (omega arith)

pub adds-slice : (c : Clause) (xs : List Literal) (l : Literal) (o p q : List ℕ) → xs ≡ c.literals → 1 ≤ length xs → l ≡ get_or xs 0 l → Adds SpellsLiteral l o p → Adds MoreLiterals (take (length xs - 1) (drop 1 xs)) p q → Adds SpellsClauseLine c o q
adds-slice c [] l o p q e h g a b = absurd (omega (arith, h))
adds-slice c (x ∷ xs) l o p q e h g a b =
    subst (λ ls. Adds SpellsClauseLine (record { literals = ls }) o q) e (adds-clause x xs o p q (subst (λ z. Adds SpellsLiteral z o p) g a) (subst (λ ls. Adds MoreLiterals ls p q) (take_rest x xs) b))

-- ---- places
pub adds-place : (n : ℕ) (side : Side) (path : List ℕ) (o p q r : List ℕ) → n < 2 ^ 32 → p ≡ o ++ decimal n → Adds SpellsSide side p q → Adds SpellsPath path q r → Adds SpellsPlace (record { literal = n; side = side; path = path }) o r
adds-place n side path o p q r h e a b =
    adds-image place_of _ (n, (side, path)) o r (adds-cat (Number Word32) (λ n. Cat SpellsSide (λ side. SpellsPath)) n (side, path) o p r (adds-word32 n o p h e) (adds-cat SpellsSide (λ side. SpellsPath) side path p q r a b))
