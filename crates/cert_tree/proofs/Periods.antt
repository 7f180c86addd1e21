-- The period, fact by fact.
use Rattle.std.specs.Prelude.{◌≡◌, ℕ, ◌<◌, ◌+◌, ℤ, pos, ◌≤ℤ◌, length, get_or, drop, List, ◌++◌, Option, Some, None}
use Rattle.std.specs.List.{filter_map, cons_option}
use Rattle.std.proofs.Common.{refl, ◌∙◌, arith}
use Rattle.std.proofs.lemmas.Int.{ints}
use Rattle.std.proofs.lemmas.List.{at_drop_more}
use Rattle.lin_base.specs.declared.facts.Fact.{Fact}
use Rattle.lin_base.specs.Whole.{lcm}
use Rattle.lin_base.proofs.Forming.{forming}
use Rattle.cert_tree.specs.Points.{modulus_at, lcm_onto, lcm_onto_steps, next_period, next_period_steps}
use Rattle.cert_tree.proofs.Least.{lcm-both}

by_modulus : (d : ℤ) (o : Option ℤ) (ms : List ℤ) → lcm_onto d (cons_option o ms) ≡ lcm_onto (next_period d o) ms
by_modulus d None ms = refl
by_modulus d (Some m) ms = refl

steps_by_modulus : (d : ℤ) (o : Option ℤ) (ms : List ℤ) → lcm_onto_steps d (cons_option o ms) ≡ next_period_steps d o ++ lcm_onto_steps (next_period d o) ms
steps_by_modulus d None ms = refl
steps_by_modulus d (Some m) ms = refl

pub period-drop : (x : ℕ) (d : ℤ) (facts : List Fact) (i : ℕ) (f : Fact) → i < length facts
    → lcm_onto d (filter_map (modulus_at x) (drop i facts)) ≡ lcm_onto (next_period d (modulus_at x (get_or facts i f))) (filter_map (modulus_at x) (drop (i + 1) facts))
period-drop x d facts i f h = at_drop_more (λ fs. lcm_onto d (filter_map (modulus_at x) fs)) facts i f h ∙ by_modulus d (modulus_at x (get_or facts i f)) (filter_map (modulus_at x) (drop (i + 1) facts))

pub period_steps-drop : (x : ℕ) (d : ℤ) (facts : List Fact) (i : ℕ) (f : Fact) → i < length facts
    → lcm_onto_steps d (filter_map (modulus_at x) (drop i facts)) ≡ next_period_steps d (modulus_at x (get_or facts i f)) ++ lcm_onto_steps (next_period d (modulus_at x (get_or facts i f))) (filter_map (modulus_at x) (drop (i + 1) facts))
period_steps-drop x d facts i f h = at_drop_more (λ fs. lcm_onto_steps d (filter_map (modulus_at x) fs)) facts i f h ∙ steps_by_modulus d (modulus_at x (get_or facts i f)) (filter_map (modulus_at x) (drop (i + 1) facts))

pub lcm_up : (a b : ℤ) → pos 1 ≤ℤ a → pos 1 ≤ℤ b → pos 1 ≤ℤ lcm a b
lcm_up a b h k = let both = lcm-both a b (omega (arith, ints, h)) (omega (arith, ints, k)) in omega (arith, ints, both)

pub ruleset periods = (forming, lcm_up)
