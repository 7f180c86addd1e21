use Rattle.std.proofs.Common.{refl, ◌≡◌, ◌∙◌, sym, ap, arith, Bool, true, false, not, ◌&&◌, pos}
use Rattle.std.proofs.lemmas.Grind.{common_steps}
use Rattle.lin_base.specs.Sum.{Valuation, has_unknown}
use Rattle.lin_base.specs.Fact.{sum_of, holds, holds_at}
use Rattle.lin_base.proofs.Lookup.{holds-constant}
use Rattle.lin_base.proofs.facts.is_false.Goals as goal

not_true : (b : Bool) → not b ≡ true → b ≡ false
not_true true h = cc
not_true false h = refl

pub returns-then-not-has_unknown-clause-value : goal.returns-then-not-has_unknown-clause-value
returns-then-not-has_unknown-clause-value c =
    let f = c.args.fact.now in
    let none : has_unknown (sum_of f) ≡ false = grind (arith, common_steps, not_true) in
    let told : c.holds_at.result ≡ holds_at (sum_of f).constant f = grind (arith, common_steps) in
    let v : Valuation = λ x. pos 0 in
    ap not (told ∙ sym (holds-constant v f none)) ∙ sym (ap (λ b. not b && not (holds v f)) none)

pub returns-then-not-has_unknown-clause-refutes : goal.returns-then-not-has_unknown-clause-refutes
returns-then-not-has_unknown-clause-refutes c =
    let f = c.args.fact.now in
    let none : has_unknown (sum_of f) ≡ false = grind (arith, common_steps, not_true) in
    let told : c.holds_at.result ≡ holds_at (sum_of f).constant f = grind (arith, common_steps) in
    λ h v. holds-constant v f none ∙ sym told ∙ not_true c.holds_at.result h
