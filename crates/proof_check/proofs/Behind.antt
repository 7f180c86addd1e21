-- An answer behind a problem is cut off where it begins.
use Rattle.std.proofs.Common.{◌≡◌, ◌∙◌, ℕ, Bool, true, false, cond, List, [], ◌∷◌, ◌++◌, length, take, drop, codes, refl, sym, ap, ap₂, subst}
use Rattle.std.proofs.Math.Seq.{drop-append_seam}
use Rattle.std.proofs.lemmas.Bool.{and_from, and_parts, or_left, eq-eqb, eqb-true, false≢true}
use Rattle.std.specs.Prelude.{nat_eq, not, ◌&&◌, ◌||◌, ◌≤◌}
use Rattle.std.specs.List.{starts_with}
use Rattle.std.specs.Cmp.Lexicographic.{pointwise}
use Rattle.text_pieces.specs.Fronts.{Front}
use Rattle.formula_base.specs.declared.problems.Problem.{Problem}
use Rattle.tff_reader.specs.Answer.{IsProblem}
use Rattle.normal_form.specs.Clauses.{count_of, max_clauses, prepared}
use Rattle.proof_steps.specs.declared.steps.Derivation.{Derivation}
use Rattle.proof_steps.specs.Derivations.{Derives}
use Rattle.proof_text.specs.declared.kinds.Status.{Status}
use Rattle.proof_text.specs.Derivations.{Spells, StatusWord, SpellsDerivation}
use Rattle.text_pieces.specs.Languages.{Cat}
use Rattle.proof_check.specs.Sections.{answer_part, before_answer, begins_answer, begins_list, ends_line, problem_part}
use Rattle.proof_check.specs.Checks.{IsProved, IsStatusOf}

-- ---- lines
-- whether a line begins behind the bytes, where it is told whether one begins in front of them
abbrev line_after : Bool → List ℕ → Bool
line_after begins_line [] = begins_line
line_after begins_line (b ∷ bs) = line_after (nat_eq b 10) bs

last_line : (b : ℕ) (bs : List ℕ) → ends_line (b ∷ bs) ≡ line_after (nat_eq b 10) bs
last_line b [] = refl
last_line b (c ∷ bs) = last_line c bs

ends_so : (bytes : List ℕ) → ends_line bytes ≡ line_after true bytes
ends_so [] = refl
ends_so (b ∷ bs) = last_line b bs

-- ---- words
-- no byte of the word ends a line
abbrev is_within_line : List ℕ → Bool
is_within_line [] = true
is_within_line (w ∷ ws) = not (nat_eq w 10) && is_within_line ws

is_false : (b : Bool) → not b ≡ true → b ≡ false
is_false false h = refl
is_false true h = absurd (false≢true h)

-- bytes that end a line tell whether they begin with a word of a line, whatever follows them
same_start : (word bs answer : List ℕ) → is_within_line word ≡ true → line_after false bs ≡ true
    → starts_with nat_eq (bs ++ answer) word ≡ starts_with nat_eq bs word
same_start [] bs answer h l = refl
same_start (w ∷ ws) [] answer h l = absurd (false≢true l)
same_start (w ∷ ws) (b ∷ bs) answer h l =
    by (nat_eq b 10) refl l (λ m. same_start ws bs answer (and_parts (not (nat_eq w 10)) (is_within_line ws) h).1 m)
  where
    by : (t : Bool) → nat_eq b 10 ≡ t → line_after t bs ≡ true
        → (line_after false bs ≡ true → starts_with nat_eq (bs ++ answer) ws ≡ starts_with nat_eq bs ws)
        → starts_with nat_eq (b ∷ (bs ++ answer)) (w ∷ ws) ≡ starts_with nat_eq (b ∷ bs) (w ∷ ws)
    by true e m later =
        let is : b ≡ 10 = eqb-true b 10 e in
        let other : nat_eq w b ≡ false = ap (λ (n : ℕ). nat_eq w n) is ∙ is_false (nat_eq w 10) (and_parts (not (nat_eq w 10)) (is_within_line ws) h).0 in
        ap (λ t. t && pointwise nat_eq ws (take (length ws) (bs ++ answer))) other
        ∙ sym (ap (λ t. t && pointwise nat_eq ws (take (length ws) bs)) other)
    by false e m later = ap (λ t. nat_eq w b && t) (later m)

same_begin : (bs answer : List ℕ) → line_after false bs ≡ true → begins_answer (bs ++ answer) ≡ begins_answer bs
same_begin bs answer l =
    ap₂ (λ s t. s || t) (same_start (codes "% SZS status ") bs answer refl l) (same_start (codes "% Saturated ") bs answer refl l)

-- ---- parts
no_bytes : {b : ℕ} {bs : List ℕ} → ◌≡◌ {A = List ℕ} [] (b ∷ bs) → ⊥
no_bytes h = cc

same_rest : {b : ℕ} {xs ys : List ℕ} → b ∷ xs ≡ b ∷ ys → xs ≡ ys
same_rest h = cc

cut_behind : (begins_line : Bool) (bs answer : List ℕ) → before_answer begins_line bs ≡ bs → line_after begins_line bs ≡ true
    → begins_answer answer ≡ true → before_answer begins_line (bs ++ answer) ≡ bs
cut_behind begins_line [] [] s l h = absurd (false≢true h)
cut_behind begins_line [] (a ∷ rest) s l h =
    ap (λ t. cond {A = List ℕ} t [] (a ∷ before_answer (nat_eq a 10) rest)) (and_from begins_line (begins_answer (a ∷ rest)) l h)
cut_behind begins_line (b ∷ bs) answer s l h =
    by (begins_line && begins_answer (b ∷ bs)) refl s (λ r. cut_behind (nat_eq b 10) bs answer r l h)
  where
    by : (t : Bool) → (begins_line && begins_answer (b ∷ bs)) ≡ t → cond {A = List ℕ} t [] (b ∷ before_answer (nat_eq b 10) bs) ≡ b ∷ bs
        → (before_answer (nat_eq b 10) bs ≡ bs → before_answer (nat_eq b 10) (bs ++ answer) ≡ bs)
        → before_answer begins_line (b ∷ (bs ++ answer)) ≡ b ∷ bs
    by true e r later = absurd (no_bytes r)
    by false e r later =
        let none : (begins_line && begins_answer (b ∷ (bs ++ answer))) ≡ false = ap (λ t. begins_line && t) (same_begin (b ∷ bs) answer l) ∙ e in
        ap (λ t. cond {A = List ℕ} t [] (b ∷ before_answer (nat_eq b 10) (bs ++ answer))) none
        ∙ ap (λ (z : List ℕ). b ∷ z) (later (same_rest r))

pub parts_behind : (bytes answer : List ℕ) → problem_part bytes ≡ bytes → ends_line bytes ≡ true → begins_answer answer ≡ true
    → (problem_part (bytes ++ answer) ≡ bytes) × (answer_part (bytes ++ answer) ≡ answer)
parts_behind bytes answer all end begins =
    let front : problem_part (bytes ++ answer) ≡ bytes = cut_behind true bytes answer all (sym (ends_so bytes) ∙ end) begins in
    (front, ap (λ (p : List ℕ). drop (length p) (bytes ++ answer)) front ∙ drop-append_seam bytes answer)

-- ---- derivations
front_starts : {A : Type 0} (word : List ℕ) (L : A → List ℕ → Type 0) (a : A) (text : List ℕ) → Front word L a text → starts_with nat_eq text word ≡ true
front_starts [] L a text s = refl
front_starts (w ∷ ws) L a text s =
    ap (λ (t : List ℕ). starts_with nat_eq t (w ∷ ws)) s.joined
    ∙ and_from (nat_eq w w) (starts_with nat_eq s.behind ws) (eq-eqb w w refl) (front_starts ws L a s.behind s.spelled)

-- a derivation with its status line begins as an answer does
spelled_begins : (p : Status × Derivation) (text : List ℕ) → Spells p text → begins_answer text ≡ true
spelled_begins p text s =
    or_left (starts_with nat_eq text (codes "% SZS status ")) (begins_list text)
    (front_starts (codes "% SZS status ") (Cat StatusWord (λ status. Front (codes " for stdin\n") SpellsDerivation)) p text s)

pub proved_behind : (bytes answer : List ℕ) (p : Problem) (status : Status) (d : Derivation) → problem_part bytes ≡ bytes → ends_line bytes ≡ true
    → IsProblem bytes p → count_of p ≤ max_clauses → Spells (status, d) answer → IsStatusOf p status
    → Derives (prepared p d.ordinary) d.steps → IsProved (bytes ++ answer)
proved_behind bytes answer p status d all end is few text word derives =
    let parts = parts_behind bytes answer all end (spelled_begins (status, d) answer text) in
    record {
      problem = p;
      read = subst (λ (b : List ℕ). IsProblem b p) (sym parts.0) is;
      few = few;
      status = status;
      derivation = d;
      spelled = subst (λ (t : List ℕ). Spells (status, d) t) (sym parts.1) text;
      word = word;
      derives = derives;
    }
