-- Certificates are read in one way alone.
use Rattle.std.proofs.Common.{◌≡◌, ℕ, ◌+◌, ◌<◌, Bool, true, false, List, [], ◌∷◌, ◌++◌, length, length-append, take, drop, refl, sym, ap, subst, ◌∙◌, append_assoc, append-nil, arith}
use Rattle.std.specs.Prelude.{codes}
use Rattle.std.proofs.lemmas.List.{take-append-drop}
use Rattle.std.proofs.Math.Seq.{take-append_seam, drop-append_seam}
use Rattle.cert_tree.specs.declared.certs.Cert.{Cert}
use Rattle.text_pieces.specs.Decimals.{is_digit}
use Rattle.text_pieces.specs.Languages.{NoDigit, GoesOn, Reads, StopsAt, Fails, Blank, Exactly}
use Rattle.text_pieces.specs.Numbers.{Counted}
use Rattle.cert_text.specs.Grammar.{SpellsRow, Spells, cert_of}
use Rattle.cert_text.specs.Parsing.{Begins, NoneBegins}
use Rattle.text_pieces.proofs.Lifting.{unambiguous-image}
use Rattle.text_pieces.proofs.Repeated.{unambiguous-counted}
use Rattle.text_pieces.proofs.WordFronts.{unambiguous-exactly}
use Rattle.cert_text.proofs.ToldApart.{unambiguous-blank_row}
use Rattle.cert_text.proofs.Sure.{unambiguous-blank_tree}
use Rattle.text_pieces.proofs.Chains.{both}
use Rattle.text_pieces.specs.Unambiguous.{Unambiguous}

pub unambiguous-rows : Unambiguous (Counted (Blank SpellsRow))
unambiguous-rows = unambiguous-counted (Blank SpellsRow) unambiguous-blank_row

pub unambiguous-word : Unambiguous (Exactly (codes "cert"))
unambiguous-word = unambiguous-exactly (codes "cert") refl

pub unambiguous-cert : Unambiguous Spells
unambiguous-cert = unambiguous-image cert_of _ (both unambiguous-word (λ word. both unambiguous-rows (λ rows. unambiguous-blank_tree)))

-- ---- laws
no_more : {c : ℕ} {cs : List ℕ} → ◌≡◌ {A = List ℕ} (c ∷ cs) [] → ⊥
no_more h = cc

pub digit_behind : (a b : Cert) (t : List ℕ) (c : ℕ) (more : List ℕ) → Spells a t → Spells b (t ++ c ∷ more) → is_digit c ≡ true
digit_behind a b t c more s r = by (is_digit c) refl
  where
    by : (d : Bool) → is_digit c ≡ d → is_digit c ≡ true
    by true e = e
    by false e = absurd (no_more (unambiguous-cert.one a b t (t ++ c ∷ more) (c ∷ more) [] s r (sym (append-nil (t ++ c ∷ more))) e tt).rest)

pub same_cert : (a b : Cert) (t : List ℕ) → Spells a t → Spells b t → a ≡ b
same_cert a b t s r = (unambiguous-cert.one a b t t [] [] s r refl tt tt).value

-- ---- by places
pub begins : (bytes : List ℕ) (cert : Cert) (rest : List ℕ) (taken : ℕ) → taken + length rest ≡ length bytes → Reads Spells bytes cert rest → Begins cert taken bytes
begins bytes cert rest taken e r =
    let count : taken ≡ length r.text = omega (arith, ap length r.whole, length-append r.text rest) in
    record {
      within = omega arith;
      spelled = subst (λ z. Spells cert z) (sym (ap (λ n. take n bytes) count ∙ ap (take (length r.text)) r.whole ∙ take-append_seam r.text rest)) r.spelled;
      ends = subst NoDigit (sym (ap (λ n. drop n bytes) count ∙ ap (drop (length r.text)) r.whole ∙ drop-append_seam r.text rest)) r.ends;
    }

pub begins_reads : (bytes : List ℕ) (cert : Cert) (taken : ℕ) → Begins cert taken bytes → Reads Spells bytes cert (drop taken bytes)
begins_reads bytes cert taken b = record { text = take taken bytes; spelled = b.spelled; whole = sym (take-append-drop taken bytes); ends = b.ends }

pub none_begins : (bytes : List ℕ) (left at : ℕ) → at + left ≡ length bytes → Fails Spells bytes left → NoneBegins at bytes
none_begins bytes left at e f =
    let count : at ≡ length f.front = omega (arith, ap length f.whole, length-append f.front f.rest, f.left_is) in
    record {
      within = omega arith;
      goes_on = subst (GoesOn Spells) (sym (ap (λ n. take n bytes) count ∙ ap (take (length f.front)) f.whole ∙ take-append_seam f.front f.rest)) f.goes_on;
      stops = stop f.front f.rest f.whole count f.stops;
      none = λ cert taken b. f.none cert (drop taken bytes) (begins_reads bytes cert taken b);
    }
  where
    stop : (front rest : List ℕ) → bytes ≡ front ++ rest → at ≡ length front → StopsAt Spells front rest → at < length bytes → GoesOn Spells (take (at + 1) bytes) → ⊥
    stop front [] w n s less g = absurd (omega (arith, n, ap length w, length-append front [], less))
    stop front (b ∷ bs) w n s less g =
        let longer : at + 1 ≡ length (front ++ b ∷ []) = omega (arith, n, length-append front (b ∷ [])) in
        let split : bytes ≡ (front ++ b ∷ []) ++ bs = w ∙ sym (append_assoc front (b ∷ []) bs) in
        s (subst (GoesOn Spells) (ap (λ m. take m bytes) longer ∙ ap (take (length (front ++ b ∷ []))) split ∙ take-append_seam (front ++ b ∷ []) bs) g)
