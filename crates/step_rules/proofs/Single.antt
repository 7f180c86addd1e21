-- The substitution of a number for a variable.
use Rattle.std.specs.Prelude.{◌≡◌, ◌≢◌, ℤ, [], ◌∷◌, if◌then◌else◌}
use Rattle.std.proofs.Common.{sym, ◌∙◌, ap, arith}
use Rattle.std.proofs.lemmas.Grind.{common_steps}
use Rattle.std.proofs.lemmas.Int.{to_z-of_z}
use Rattle.std.proofs.lemmas.List.Elements.{All-cons, All-nil}
use Rattle.term_base.specs.declared.terms.Term.{Term}
use Rattle.term_base.specs.declared.terms.Term.TheVariants as term
use Rattle.term_base.specs.declared.variables.Variable.{Variable}
use Rattle.term_base.specs.Same.{same_variable}
use Rattle.term_base.specs.Trees.{tree, var, node, none, number}
use Rattle.term_base.specs.TreeOf.{tree-Var, tree-Num}
use Rattle.term_base.specs.Substitution.{image, single, IsSubstitution}

abbrev Moves : Variable × Term → Type 0
Moves p = p.1 ≢ term.Var p.0

number_moves : (v : Variable) (n : ℤ) → term.Num n ≢ term.Var v
number_moves v n e = let h : node (number n) none ≡ var v = sym (tree-Num n) ∙ ap tree e ∙ tree-Var v in absurd (cc)

pub is_single : (v : Variable) (n : ℤ) → IsSubstitution ((v, term.Num n) ∷ [])
is_single v n = record {
  ascending = λ i j d lt in_range. absurd (omega arith);
  moves = All-cons Moves (v, term.Num n) [] (number_moves v n) (All-nil Moves);
}

pub image-single : (v : Variable) (n : ℤ) → image ((v, term.Num n) ∷ []) ≡ single v (node (number n) none)
image-single v n = ap (λ t w. if same_variable v w then t else var w) (tree-Num n)

pub ruleset single_steps = (common_steps, to_z-of_z, image-single)
