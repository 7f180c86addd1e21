-- The test of a covered clause is right.
use Rattle.std.proofs.Common.{◌≡◌, ◌⊎◌, ◌↔◌, inl, inr, Bool, true, List, [], ◌∷◌, refl, ap, sym, ◌∙◌}
use Rattle.std.proofs.lemmas.Bool.{and_from}
use Rattle.std.specs.List.{list_all}
use Rattle.term_base.specs.declared.symbols.Symbol.{Symbol}
use Rattle.term_base.specs.declared.variables.Variable.{Variable}
use Rattle.term_base.specs.CoverTest.{is_among, is_covered}
use Rattle.term_base.specs.Lits.{Lit, put_clause, Among, EachLit}
use Rattle.term_base.specs.LitTests.{same_lit, differs_from_itself}
use Rattle.term_base.specs.LitTestLemmas.{same_lit-true, same_lit-refl, differs_from_itself-true, differs_from_itself-from}
use Rattle.term_base.specs.Redundancy.{DiffersFromItself, CoversBy}
use Rattle.term_base.specs.Substitution.{Simple}
use Rattle.term_base.specs.TreeLemmas.{or-true, or-left, or-right, and-true}
use Rattle.term_base.specs.Trees.{Tree}

abbrev IsCovered : List Lit → Lit → Type 0
IsCovered k l = Among l k ⊎ DiffersFromItself l

among_says : (k : List Lit) (l : Lit) → is_among k l ≡ true → Among l k
among_says [] l h = cc
among_says (m ∷ ms) l h = elim (or-true (same_lit l m) (is_among ms l) h) [
  | inl a ↦ inl (sym (same_lit-true l m a))
  | inr b ↦ inr (among_says ms l b)
]

says_among : (k : List Lit) (l : Lit) → Among l k → is_among k l ≡ true
says_among [] l h = absurd h
says_among (m ∷ ms) l (inl e) = or-left (same_lit l m) (is_among ms l) (ap (same_lit l) e ∙ same_lit-refl l)
says_among (m ∷ ms) l (inr h) = or-right (same_lit l m) (is_among ms l) (says_among ms l h)

covered_says : (k : List Lit) (l : Lit) → is_covered k l ≡ true → IsCovered k l
covered_says k l h = elim (or-true (is_among k l) (differs_from_itself l) h) [
  | inl a ↦ inl (among_says k l a)
  | inr b ↦ inr (differs_from_itself-true l b)
]

says_covered : (k : List Lit) (l : Lit) → IsCovered k l → is_covered k l ≡ true
says_covered k l (inl m) = or-left (is_among k l) (differs_from_itself l) (says_among k l m)
says_covered k l (inr d) = or-right (is_among k l) (differs_from_itself l) (differs_from_itself-from l d)

all_say : (k c : List Lit) → list_all (is_covered k) c ≡ true → EachLit (IsCovered k) c
all_say k [] h = tt
all_say k (l ∷ ls) h = let two = and-true (is_covered k l) (list_all (is_covered k) ls) h in (covered_says k l two.0, all_say k ls two.1)

say_all : (k c : List Lit) → EachLit (IsCovered k) c → list_all (is_covered k) c ≡ true
say_all k [] h = refl
say_all k (l ∷ ls) h = and_from _ _ (says_covered k l h.0) (say_all k ls h.1)

-- the instance's literals are covered exactly where the test passes
pub covers-test : (S : List Symbol) (s : Variable → Tree) (e k : List Lit) (passes : Bool) → Simple S s → passes ≡ list_all (is_covered k) (put_clause s e) → (passes ≡ true) ↔ CoversBy S s e k
covers-test S s e k passes simple is = (
  λ h. record { simple = simple; each = all_say k (put_clause s e) (sym is ∙ h) },
  λ c. is ∙ say_all k (put_clause s e) c.each,
)
