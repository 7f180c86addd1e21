-- Equality of literals as a test: they have one relation, and their sides have one tree each.
use Rattle.std.proofs.Common.{◌≡◌, ◌↔◌, Bool, true, List, [], ◌∷◌, map, refl, ap, sym, ◌∙◌}
use Rattle.std.specs.Cmp.{IsEquivalence}
use Rattle.term_base.specs.declared.clauses.Clause.{Clause}
use Rattle.term_base.specs.declared.clauses.Literal.{Literal}
use Rattle.term_base.specs.declared.clauses.Literal.TheVariants.{Equal, Differ, AtMost}
use Rattle.term_base.specs.Lits.{Lit, lit, lits}
use Rattle.term_base.specs.LitTests.{same_lit, same_lits}
use Rattle.term_base.specs.LitTestLemmas.{same_lit-true, same_lit-refl, same_lits-true, same_lits-refl}
use Rattle.term_base.specs.SameTerm.{either}
use Rattle.term_base.specs.TreeBack.{tree_injective}

abbrev pub same_literal : Literal → Literal → Bool
same_literal l m = same_lit (lit l) (lit m)

-- a literal, literals and a clause are known by their trees
pub lit_injective : (l m : Literal) → lit l ≡ lit m → l ≡ m
lit_injective (Equal a b) (Equal c d) h = let one : a ≡ c = tree_injective a c (ap (λ (z : Lit). z.left) h) in let two : b ≡ d = tree_injective b d (ap (λ (z : Lit). z.right) h) in cc
lit_injective (Differ a b) (Differ c d) h = let one : a ≡ c = tree_injective a c (ap (λ (z : Lit). z.left) h) in let two : b ≡ d = tree_injective b d (ap (λ (z : Lit). z.right) h) in cc
lit_injective (AtMost a b) (AtMost c d) h = let one : a ≡ c = tree_injective a c (ap (λ (z : Lit). z.left) h) in let two : b ≡ d = tree_injective b d (ap (λ (z : Lit). z.right) h) in cc
lit_injective _ _ h = let r = ap (λ (z : Lit). z.relation) h in cc

pub lits_injective : (ls ms : List Literal) → map lit ls ≡ map lit ms → ls ≡ ms
lits_injective [] [] h = refl
lits_injective [] (m ∷ ms) h = cc
lits_injective (l ∷ ls) [] h = cc
lits_injective (l ∷ ls) (m ∷ ms) h =
    let one : lit l ≡ lit m = cc in
    let rest : map lit ls ≡ map lit ms = cc in
    let same : l ≡ m = lit_injective l m one in
    let others : ls ≡ ms = lits_injective ls ms rest in cc

abbrev clause_of : List Literal → Clause
clause_of ls = record { literals = ls }

pub clause_injective : (c d : Clause) → lits c ≡ lits d → c ≡ d
clause_injective c d h = ap clause_of (lits_injective c.literals d.literals h)

pub same_literal-true : (l m : Literal) → same_literal l m ≡ true → l ≡ m
same_literal-true l m h = lit_injective l m (same_lit-true (lit l) (lit m) h)

pub same_literal-refl : (l : Literal) → same_literal l l ≡ true
same_literal-refl l = same_lit-refl (lit l)

pub same_literal_equiv : IsEquivalence same_literal
same_literal_equiv = record {
  refl = same_literal-refl;
  symm = λ l m. either (same_literal l m) (same_literal m l)
      (λ h. let e : l ≡ m = same_literal-true l m h in ap (λ z. same_literal z l) (sym e) ∙ same_literal-refl l)
      (λ h. let e : m ≡ l = same_literal-true m l h in ap (λ z. same_literal z m) (sym e) ∙ same_literal-refl m);
  congr = λ l m n h. ap (λ z. same_literal z n) (same_literal-true l m h);
}

-- the tests of literals and of clauses are equality
pub literals_equal : (b : Bool) (l m : Literal) → b ≡ same_literal l m → (b ≡ true) ↔ (l ≡ m)
literals_equal b l m is = (
  λ h. same_literal-true l m (sym is ∙ h),
  λ e. is ∙ ap (same_literal l) (sym e) ∙ same_literal-refl l,
)

pub clauses_equal : (b : Bool) (c d : Clause) → b ≡ same_lits (lits c) (lits d) → (b ≡ true) ↔ (c ≡ d)
clauses_equal b c d is = (
  λ h. clause_injective c d (same_lits-true (lits c) (lits d) (sym is ∙ h)),
  λ e. is ∙ ap (λ z. same_lits (lits c) (lits z)) (sym e) ∙ same_lits-refl (lits c),
)
