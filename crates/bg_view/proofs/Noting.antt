-- Variables noted by first place.
use Rattle.std.specs.Prelude.{◌≡◌, List, [], ◌∷◌, ◌++◌}
use Rattle.std.proofs.Common.{refl, sym, ◌∙◌, ap}
use Rattle.std.proofs.lemmas.Grind.{common_steps}
use Rattle.term_base.specs.declared.variables.Variable.{Variable}
use Rattle.term_base.specs.declared.terms.Term.{Term}
use Rattle.term_base.specs.declared.terms.Term.TheVariants.{Sum}
use Rattle.term_base.specs.TermFolds.{fold-Sum}
use Rattle.bg_view.specs.Unknowns.{noted, all_noted, variables_step, variables_in}

pub all_noted-append : (so_far us vs : List Variable) → all_noted so_far (us ++ vs) ≡ all_noted (all_noted so_far us) vs
all_noted-append so_far [] vs = refl
all_noted-append so_far (u ∷ us) vs = all_noted-append (noted so_far u) us vs

-- the variables of a sum are those of its parts, x and y being a and b
pub noted_sum : (t a b x y : Term) (so_far mid : List Variable) → t ≡ Sum a b → x ≡ a → y ≡ b → mid ≡ all_noted so_far (variables_in x) → all_noted mid (variables_in y) ≡ all_noted so_far (variables_in t)
noted_sum t a b x y so_far mid is left right noted_left =
    ap (λ us. all_noted us (variables_in y)) noted_left
    ∙ sym (all_noted-append so_far (variables_in x) (variables_in y))
    ∙ ap (λ z. all_noted so_far (variables_in z ++ variables_in y)) left
    ∙ ap (λ z. all_noted so_far (variables_in a ++ variables_in z)) right
    ∙ sym (ap (λ z. all_noted so_far (variables_in z)) is ∙ ap (all_noted so_far) (fold-Sum (List Variable) variables_step a b))

pub ruleset noting = (common_steps, all_noted-append)
