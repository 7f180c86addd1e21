-- What `skip` passes over are blanks, and all that the text begins with.
use Rattle.std.proofs.Common.{◌≡◌, ◌⊎◌, inl, inr, ℕ, zero, suc, ◌<◌, ◌≤◌, true, false, not, ◌==◌, ◌&&◌, nat_eq, List, [], ◌∷◌, ◌++◌, length, drop, get_or, Option, Some, None, refl, sym, ap, ◌∙◌, subst, arith, codes, length-append, append_assoc, append-nil}
use Rattle.std.specs.List.{concat, starts_with}
use Rattle.std.proofs.lemmas.Bool.{false≢true, and_parts, and_from, eqb-true, not-true, false_from_ne_true, cond_both}
use Rattle.std.proofs.lemmas.Option.{none-some, same_Some}
use Rattle.tff_lexer.specs.declared.spans.TokenKind.TheVariants.{Sign}
use Rattle.tff_lexer.specs.Forms.{begins_with}
use Rattle.tff_lexer.specs.Blanks.{is_white_space, has_no_newline, HasNoStarSlash, IsBlank, AreBlanks, BeginsNoBlank, after_comment_line, after_comment_block, after_blank, skip}
use Rattle.tff_lexer.specs.Scans.{BeginsNoToken}
use Rattle.tff_lexer.proofs.SkipLemmas.{shorter, skip_step, skip_end}
use Rattle.tff_lexer.proofs.FirstBytes.{first_of}
use Rattle.tff_lexer.proofs.SignPrefixes.{sign_prefix}

head : (x y : ℕ) (xs ys : List ℕ) → x ∷ xs ≡ y ∷ ys → x ≡ y
head x y xs ys e = ap (λ l. get_or l 0 0) e

tail : (x y : ℕ) (xs ys : List ℕ) → x ∷ xs ≡ y ∷ ys → xs ≡ ys
tail x y xs ys e = ap (λ (l : List ℕ). drop 1 l) e

-- a word of two bytes stands here
two_bytes : (x y b : ℕ) (bs : List ℕ) → (nat_eq x b && starts_with nat_eq bs (y ∷ [])) ≡ true → b ∷ bs ≡ x ∷ (y ∷ drop 1 bs)
two_bytes x y b [] h = absurd (false≢true (and_parts (nat_eq x b) false h).1)
two_bytes x y b (c ∷ cs) h =
    let parts = and_parts (nat_eq x b) (nat_eq y c && true) h in
    let first : b ≡ x = sym (eqb-true x b parts.0) in
    let second : c ≡ y = sym (eqb-true y c (and_parts (nat_eq y c) true parts.1).0) in
    ap (λ z. z ∷ (c ∷ cs)) first ∙ ap (λ z. x ∷ (z ∷ cs)) second

-- ---- what follows a blank

line_ended : (line rest : List ℕ) → has_no_newline line ≡ true → after_comment_line (line ++ (10 ∷ rest)) ≡ rest
line_ended [] rest none = refl
line_ended (b ∷ bs) rest none =
    let parts = and_parts (not (b == 10)) (has_no_newline bs) none in
    rw (not-true (b == 10) parts.0) (line_ended bs rest parts.1)

line_open : (line : List ℕ) → has_no_newline line ≡ true → after_comment_line line ≡ []
line_open [] none = refl
line_open (b ∷ bs) none =
    let parts = and_parts (not (b == 10)) (has_no_newline bs) none in
    rw (not-true (b == 10) parts.0) (line_open bs parts.1)

later : (b : ℕ) (text : List ℕ) → HasNoStarSlash (b ∷ text) → HasNoStarSlash text
later b text none before after e = none (b ∷ before) after (ap (λ (t : List ℕ). b ∷ t) e)

-- before the first `*/` none begins
not_here : (b : ℕ) (bs rest : List ℕ) → HasNoStarSlash (b ∷ (bs ++ codes "*")) → begins_with "*/" (b ∷ ((bs ++ codes "*/") ++ rest)) ≡ true → ⊥
not_here b [] rest none h = false≢true (and_parts (nat_eq 42 b) false h).1
not_here b (c ∷ cs) rest none h =
    let e = two_bytes 42 47 b (c ∷ ((cs ++ codes "*/") ++ rest)) h in
    let first : b ≡ 42 = head b 42 (c ∷ ((cs ++ codes "*/") ++ rest)) (47 ∷ ((cs ++ codes "*/") ++ rest)) e in
    let second : c ≡ 47 = head c 47 ((cs ++ codes "*/") ++ rest) ((cs ++ codes "*/") ++ rest) (tail b 42 (c ∷ ((cs ++ codes "*/") ++ rest)) (47 ∷ ((cs ++ codes "*/") ++ rest)) e) in
    none [] (cs ++ codes "*") (ap (λ z. z ∷ (c ∷ (cs ++ codes "*"))) first ∙ ap (λ z. 42 ∷ (z ∷ (cs ++ codes "*"))) second)

block_ended : (inside rest : List ℕ) → HasNoStarSlash (inside ++ codes "*") → after_comment_block ((inside ++ codes "*/") ++ rest) ≡ Some rest
block_ended [] rest none = refl
block_ended (b ∷ bs) rest none =
    rw (false_from_ne_true (begins_with "*/" (b ∷ ((bs ++ codes "*/") ++ rest))) (not_here b bs rest none)) (block_ended bs rest (later b (bs ++ codes "*") none))

pub after_is : (blank rest : List ℕ) → IsBlank blank rest → after_blank (blank ++ rest) ≡ Some rest
after_is blank rest (inl (b, white, e)) = subst (λ (t : List ℕ). after_blank (t ++ rest) ≡ Some rest) (sym e) (rw white refl)
after_is blank rest (inr (inl (line, none, inl e))) =
    subst (λ (t : List ℕ). after_blank (t ++ rest) ≡ Some rest) (sym e) (ap Some (ap after_comment_line (append_assoc line (10 ∷ []) rest) ∙ line_ended line rest none))
after_is blank rest (inr (inl (line, none, inr (e, end_of_text)))) =
    subst (λ (t : List ℕ). after_blank (t ++ rest) ≡ Some rest) (sym e) (ap Some (subst (λ (r : List ℕ). after_comment_line (line ++ r) ≡ r) (sym end_of_text) (ap after_comment_line (append-nil line) ∙ line_open line none)))
after_is blank rest (inr (inr (inside, none, e))) = subst (λ (t : List ℕ). after_blank (t ++ rest) ≡ Some rest) (sym e) (block_ended inside rest none)

-- ---- which blank it is

abbrev LineParts : List ℕ → List ℕ → Type 0
LineParts bs rest = (line : List ℕ) × (has_no_newline line ≡ true) × ((bs ≡ line ++ (10 ∷ rest)) ⊎ ((bs ≡ line) × (rest ≡ [])))

longer_line : (b : ℕ) (bs rest : List ℕ) → (b == 10) ≡ false → LineParts bs rest → LineParts (b ∷ bs) rest
longer_line b bs rest e (line, none, inl f) = (b ∷ line, and_from (not (b == 10)) (has_no_newline line) (rw e refl) none, inl (ap (λ (t : List ℕ). b ∷ t) f))
longer_line b bs rest e (line, none, inr (f, g)) = (b ∷ line, and_from (not (b == 10)) (has_no_newline line) (rw e refl) none, inr (ap (λ (t : List ℕ). b ∷ t) f, g))

line_parts : (bs : List ℕ) → LineParts bs (after_comment_line bs)
line_parts [] = ([], refl, inr (refl, refl))
line_parts (b ∷ bs) =
    cond_both (b == 10) bs (after_comment_line bs) (LineParts (b ∷ bs)) (λ e. ([], refl, inl (ap (λ z. z ∷ bs) (eqb-true b 10 e))))
    (λ e. longer_line b bs (after_comment_line bs) e (line_parts bs))

abbrev BlockParts : List ℕ → List ℕ → Type 0
BlockParts bs rest = (inside : List ℕ) × HasNoStarSlash (inside ++ codes "*") × (bs ≡ (inside ++ codes "*/") ++ rest)

star_alone : HasNoStarSlash (codes "*")
star_alone before after e = omega (arith, ap length e, length-append before (42 ∷ (47 ∷ after)))

star_is_slash : ◌≡◌ {A = ℕ} 42 47 → ⊥
star_is_slash e = omega (arith, e)

slash_next : (inside after : List ℕ) → inside ++ codes "*" ≡ 47 ∷ after → (more : List ℕ) × (inside ≡ 47 ∷ more)
slash_next [] after e = absurd (star_is_slash (head 42 47 [] after e))
slash_next (c ∷ cs) after e = (cs, ap (λ z. z ∷ cs) (head c 47 (cs ++ codes "*") after e))

longer_block : (b : ℕ) (bs rest : List ℕ) → begins_with "*/" (b ∷ bs) ≡ false → BlockParts bs rest → BlockParts (b ∷ bs) rest
longer_block b bs rest not_begins (inside, none, e) = (b ∷ inside, nowhere, ap (λ (t : List ℕ). b ∷ t) e)
  where
    nowhere : HasNoStarSlash (b ∷ (inside ++ codes "*"))
    nowhere [] after f =
        let first : b ≡ 42 = head b 42 (inside ++ codes "*") (47 ∷ after) f in
        let (more, second) = slash_next inside after (tail b 42 (inside ++ codes "*") (47 ∷ after) f) in
        let text : b ∷ bs ≡ 42 ∷ (47 ∷ ((more ++ codes "*/") ++ rest)) = ap (λ z. z ∷ bs) first ∙ ap (λ (t : List ℕ). 42 ∷ t) (e ∙ ap (λ (t : List ℕ). (t ++ codes "*/") ++ rest) second) in
        false≢true (sym not_begins ∙ ap (begins_with "*/") text)
    nowhere (x ∷ before) after f = none before after (tail b x (inside ++ codes "*") (before ++ (codes "*/" ++ after)) f)

block_parts : (bs rest : List ℕ) → after_comment_block bs ≡ Some rest → BlockParts bs rest
block_parts [] rest h = absurd (none-some rest h)
block_parts (b ∷ bs) rest h =
    cond_both (begins_with "*/" (b ∷ bs)) (Some (drop 1 bs)) (after_comment_block bs) (λ o. o ≡ Some rest → BlockParts (b ∷ bs) rest)
    (λ e g. ([], star_alone, two_bytes 42 47 b bs e ∙ ap (λ (t : List ℕ). 42 ∷ (47 ∷ t)) (same_Some (drop 1 bs) rest g)))
    (λ e g. longer_block b bs rest e (block_parts bs rest g)) h

abbrev BlankParts : List ℕ → List ℕ → Type 0
BlankParts text rest = (blank : List ℕ) × (text ≡ blank ++ rest) × IsBlank blank rest

line_blank : (b : ℕ) (bs rest : List ℕ) → b ≡ 37 → LineParts bs rest → BlankParts (b ∷ bs) rest
line_blank b bs rest is (line, none, inl f) =
    (37 ∷ (line ++ codes "\n"), ap (λ z. z ∷ bs) is ∙ ap (λ (t : List ℕ). 37 ∷ t) (f ∙ sym (append_assoc line (10 ∷ []) rest)), inr (inl (line, none, inl refl)))
line_blank b bs rest is (line, none, inr (f, g)) =
    (37 ∷ line, ap (λ z. z ∷ bs) is ∙ ap (λ (t : List ℕ). 37 ∷ t) (f ∙ sym (append-nil line) ∙ ap (λ (r : List ℕ). line ++ r) (sym g)), inr (inl (line, none, inr (refl, g))))

block_blank : (b : ℕ) (bs rest : List ℕ) → begins_with "/*" (b ∷ bs) ≡ true → BlockParts (drop 1 bs) rest → BlankParts (b ∷ bs) rest
block_blank b bs rest is (inside, none, f) =
    (47 ∷ (42 ∷ (inside ++ codes "*/")), two_bytes 47 42 b bs is ∙ ap (λ (t : List ℕ). 47 ∷ (42 ∷ t)) f, inr (inr (inside, none, refl)))

pub blank_is : (text rest : List ℕ) → after_blank text ≡ Some rest → BlankParts text rest
blank_is [] rest h = absurd (none-some rest h)
blank_is (b ∷ bs) rest h =
    let P : Option (List ℕ) → Type 0 = λ o. o ≡ Some rest → BlankParts (b ∷ bs) rest in
    cond_both (is_white_space b) (Some bs) _ P (λ e g. (b ∷ [], ap (λ (t : List ℕ). b ∷ t) (same_Some bs rest g), inl (b, e, refl)))
    (λ _. cond_both (b == 37) (Some (after_comment_line bs)) _ P (λ e g. line_blank b bs rest (eqb-true b 37 e) (subst (LineParts bs) (same_Some (after_comment_line bs) rest g) (line_parts bs)))
    (λ _. cond_both (begins_with "/*" (b ∷ bs)) (after_comment_block (drop 1 bs)) None P (λ e g. block_blank b bs rest e (block_parts (drop 1 bs) rest g)) (λ _ g. absurd (none-some rest g)))) h

-- ---- all of them

abbrev Skipped : List ℕ → List ℕ → Type 0
Skipped bytes rest = (blanks : List (List ℕ)) × AreBlanks blanks rest × (bytes ≡ concat blanks ++ rest)

one_more : (bytes middle rest : List ℕ) → BlankParts bytes middle → Skipped middle rest → Skipped bytes rest
one_more bytes middle rest (blank, here, is) (blanks, are, split) =
    (blank ∷ blanks, (subst (IsBlank blank) split is, are), here ∙ ap (λ (t : List ℕ). blank ++ t) split ∙ sym (append_assoc blank (concat blanks) rest))

abbrev AllSkipped : List ℕ → Type 0
AllSkipped bytes = Skipped bytes (skip bytes) × (after_blank (skip bytes) ≡ None)

one_skipped : (bytes : List ℕ) (o : Option (List ℕ)) → after_blank bytes ≡ o → ((rest : List ℕ) → length rest < length bytes → AllSkipped rest) → AllSkipped bytes
one_skipped bytes None e more = let same = skip_end bytes e in (([], tt, sym same), ap after_blank same ∙ e)
one_skipped bytes (Some rest) e more =
    let (skipped, none) = more rest (shorter bytes rest e) in
    subst (λ (r : List ℕ). Skipped bytes r × (after_blank r ≡ None)) (skip_step bytes rest e) (one_more bytes rest (skip rest) (blank_is bytes rest e) skipped, none)

skipped_within : (n : ℕ) (bytes : List ℕ) → length bytes ≤ n → AllSkipped bytes
skipped_within zero [] h = (([], tt, refl), refl)
skipped_within zero (b ∷ bs) h = absurd (omega arith)
skipped_within (suc n) bytes h = one_skipped bytes (after_blank bytes) refl (λ rest less. skipped_within n rest (omega (arith, less)))

pub skipped : (bytes : List ℕ) → (blanks : List (List ℕ)) × AreBlanks blanks (skip bytes) × (bytes ≡ concat blanks ++ skip bytes)
skipped bytes = (skipped_within (length bytes) bytes (omega arith)).0

begins_none : (text : List ℕ) → after_blank text ≡ None → BeginsNoBlank text
begins_none text h blank rest e is = none-some rest (sym h ∙ ap after_blank e ∙ after_is blank rest is)

pub left : (bytes : List ℕ) → BeginsNoBlank (skip bytes)
left bytes = begins_none (skip bytes) (skipped_within (length bytes) bytes (omega arith)).1

none_follows : (text : List ℕ) → BeginsNoBlank text → after_blank text ≡ None
none_follows text none = step (after_blank text) refl
  where
    step : (o : Option (List ℕ)) → after_blank text ≡ o → after_blank text ≡ None
    step None e = e
    step (Some rest) e = let (blank, here, is) = blank_is text rest e in absurd (none blank rest here is)

over_blanks : (blanks : List (List ℕ)) (rest : List ℕ) → AreBlanks blanks rest → skip (concat blanks ++ rest) ≡ skip rest
over_blanks [] rest are = refl
over_blanks (blank ∷ blanks) rest (is, are) =
    ap skip (append_assoc blank (concat blanks) rest) ∙ sym (skip_step (blank ++ (concat blanks ++ rest)) (concat blanks ++ rest) (after_is blank (concat blanks ++ rest) is)) ∙ over_blanks blanks rest are

pub longest : (bytes rest : List ℕ) (blanks : List (List ℕ)) → AreBlanks blanks rest → bytes ≡ concat blanks ++ rest → length (skip bytes) ≤ length rest
longest bytes rest blanks are split =
    let same : skip bytes ≡ skip rest = ap skip split ∙ over_blanks blanks rest are in
    let (more, _, e) = skipped rest in
    omega (arith, ap length same, ap length e, length-append (concat more) (skip rest))

pub all : (bytes rest : List ℕ) (blanks : List (List ℕ)) → AreBlanks blanks rest → bytes ≡ concat blanks ++ rest → BeginsNoBlank rest → rest ≡ skip bytes
all bytes rest blanks are split none = sym (skip_end rest (none_follows rest none)) ∙ sym (over_blanks blanks rest are) ∙ sym (ap skip split)

-- ---- `/*` that never ends

block_open : (rest : List ℕ) → HasNoStarSlash rest → after_comment_block rest ≡ None
block_open rest none = step (after_comment_block rest) refl
  where
    step : (o : Option (List ℕ)) → after_comment_block rest ≡ o → after_comment_block rest ≡ None
    step None e = e
    step (Some more) e = let (inside, _, f) = block_parts rest more e in absurd (none inside more (f ∙ append_assoc inside (codes "*/") more))

pub open_comment : (rest : List ℕ) → HasNoStarSlash rest → (skip (codes "/*" ++ rest) ≡ codes "/*" ++ rest) × BeginsNoToken (codes "/*" ++ rest)
open_comment rest none = (skip_end (47 ∷ (42 ∷ rest)) (block_open rest none), first_of Sign (47 ∷ (42 ∷ rest)) 0 (λ e. cc) refl (sign_prefix (47 ∷ (42 ∷ rest))))
