-- Small cases of unification and matching. s0 is a function of one integer.
use Rattle.std.proofs.Common.{◌≡◌, inl, inr, ℤ, pos, negsuc, false, List, [], ◌∷◌, refl, ap, sym, subst}
use Rattle.term_base.specs.declared.symbols.Class.TheVariants as class
use Rattle.term_base.specs.declared.symbols.Sort.TheVariants.{Int}
use Rattle.term_base.specs.declared.symbols.Symbol.{Symbol}
use Rattle.term_base.specs.declared.variables.Kind.TheVariants.{Abstraction, Ordinary}
use Rattle.term_base.specs.declared.variables.Variable.{Variable}
use Rattle.term_base.specs.Purity.{foreground, ordinary, IsPure}
use Rattle.term_base.specs.Trees.{Tree, var, node, none, more, number, plus, symbol, occurs}
use Rattle.term_base.specs.TreeLemmas.{both_ways, or-true, pure_member}
use Rattle.term_base.specs.Substitution.{put_in, single}
use Rattle.term_base.specs.SubstLemmas.{single-simple}
use Rattle.term_base.specs.Same.{same_variable}
use Rattle.term_base.specs.SameLemmas.{same_variable-true}
use Rattle.unifier.specs.Disagreements.{agree, clash, bind, disagreement}
use Rattle.unifier.specs.Naming.{new_name}
use Rattle.unifier.specs.Pairing.{beside}
use Rattle.unifier.specs.Unifiers.{IsMostGeneralPair, NoPair, NoMatch}

abbrev symbols : List Symbol
symbols = record { name = []; args = Int ∷ []; result = Int; class = class.Foreground; classified = refl } ∷ []

abbrev a0 : Variable
a0 = record { kind = Abstraction; sort = Int; id = 0; proper = refl }

abbrev n1 : Variable
n1 = record { kind = Ordinary; sort = Int; id = 1; proper = refl }

abbrev num : ℤ → Tree
num n = node (number n) none

abbrev unary : Tree → Tree
unary t = node (symbol 0) (more t none)

abbrev sum_of : Tree → Tree → Tree
sum_of s t = node plus (more s (more t none))

-- A0 and N1 + 1 disagree at A0
first_disagreement : disagreement (var a0) (sum_of (var n1) (num (pos 1))) ≡ bind a0 (sum_of (var n1) (num (pos 1)))
first_disagreement = refl

-- 3 and -3 clash, and N1 + 3 and N1 + 3 agree
numbers_clash : disagreement (num (pos 3)) (num (negsuc 2)) ≡ clash
numbers_clash = refl

sums_agree : disagreement (sum_of (var n1) (num (pos 3))) (sum_of (var n1) (num (pos 3))) ≡ agree
sums_agree = refl

-- N1, below the image of A0, becomes A0
named_abstraction : new_name (n1 ∷ []) (n1 ∷ []) n1 ≡ a0
named_abstraction = refl

-- no pair makes A0 and s0(0) equal
no_foreground_for_abstraction : NoPair symbols (var a0) (unary (num (pos 0)))
no_foreground_for_abstraction = λ r1 r2 p q e. both_ways (foreground symbols (r1 a0)) (ap (foreground symbols) e) (p.pure a0 refl).no_foreground

-- A0 doesn't become N1
no_ordinary_for_abstraction : NoMatch symbols (var a0) (var n1)
no_ordinary_for_abstraction = λ r p e. both_ways (ordinary (r a0)) (ap ordinary e) (p.pure a0 refl).no_ordinary

-- s0(N1) beside s0(3): 3 stands at the place of N1
number_beside : beside (unary (var n1)) (unary (num (pos 3))) ≡ (n1, num (pos 3)) ∷ []
number_beside = refl

abbrev plus_one : Tree → Tree
plus_one t = sum_of t (num (pos 1))

-- what stands for the variables of A0 and of N1 + 1: A0 goes to A0 + 1, and N1 to A0
abbrev first_answer : Variable → Tree
first_answer = single a0 (plus_one (var a0))

abbrev second_answer : Variable → Tree
second_answer = single n1 (var a0)

below_abstraction : (t u : Tree) → IsPure symbols t → t ≡ plus_one u → IsPure symbols u
below_abstraction t u p e = pure_member symbols plus (more u (more (num (pos 1)) none)) (subst (IsPure symbols) e p) u (inl refl)

-- the pair is most general on the variables of the two terms
ordinary_becomes_abstraction : IsMostGeneralPair symbols (λ v. occurs v (var a0)) (λ v. occurs v (plus_one (var n1))) (var a0) (plus_one (var n1)) first_answer second_answer
ordinary_becomes_abstraction = record {
  simple1 = single-simple symbols a0 (plus_one (var a0)) refl (λ is. record { no_foreground = refl; no_ordinary = refl });
  simple2 = single-simple symbols n1 (var a0) refl (λ is. record { no_foreground = refl; no_ordinary = refl });
  equal = refl;
  general = λ r1 r2 p q e. (
    single a0 (r2 n1),
    (
      single-simple symbols a0 (r2 n1) (q.sorted n1) (λ is. below_abstraction (r1 a0) (r2 n1) (p.pure a0 refl) e),
      (
        (λ v o. subst (λ (w : Variable). put_in (single a0 (r2 n1)) (first_answer w) ≡ r1 w) (same_variable-true a0 v o) (sym e)),
        (λ v o. elim (or-true (same_variable n1 v) false o) [
          | inl s ↦ subst (λ (w : Variable). put_in (single a0 (r2 n1)) (second_answer w) ≡ r2 w) (same_variable-true n1 v s) refl
          | inr other ↦ absurd (both_ways false other refl)
        ]),
      ),
    ),
  );
}
