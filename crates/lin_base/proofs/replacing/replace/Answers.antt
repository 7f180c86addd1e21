use Rattle.std.proofs.Common.{◌≡◌, sym, subst, ◌++◌, [], arith, ℤ, Bool, true, false, cond, ap, ◌∙◌, IsTrue, to_z, of_z}
use Rattle.std.specs.Int.{w128}
use Rattle.std.proofs.lemmas.Int.{to_z-of_z}
use Rattle.std.proofs.lemmas.Bool.{true≢false}
use Rattle.std.proofs.lemmas.Grind.{common_steps}
use Rattle.lin_base.specs.declared.facts.Fact.{Fact}
use Rattle.lin_base.specs.Sum.{occurs, has_unknown}
use Rattle.lin_base.specs.Fact.{sum_of, is_fact}
use Rattle.lin_base.specs.Change.{replaced}
use Rattle.lin_base.specs.Steps.{replace_in_steps, modulus_steps, Forms}
use Rattle.lin_base.proofs.Forming.{Forms-value}
use Rattle.lin_base.proofs.Occurring.{without-absent}
use Rattle.lin_base.proofs.WellFormed.{is_fact-replaced}
use Rattle.lin_base.proofs.replacing.replace.Goals as goal

pub returns-then-occurs-clause-replaced : goal.returns-then-occurs-clause-replaced
returns-then-occurs-clause-replaced c =
    let x = c.args.x in
    let t = c.args.t.now in
    let f = c.args.fact.now in
    let P : ℤ → Type 0 = λ a. Forms c.replace_occurring.result (replace_in_steps x a t (sum_of f) ++ modulus_steps a f) (replaced x a t f) in
    let told : P (to_z w128 (of_z w128 c.args.a)) = c.replace_occurring.ensures.fact in
    let is : occurs x (sum_of f) ≡ true = grind (arith, common_steps) in
    let a = c.args.a in
    let Q : Bool → Type 0 = λ b. Forms c.replace_occurring.result (cond b (replace_in_steps x a t (sum_of f) ++ modulus_steps a f) []) (cond b (replaced x a t f) f) in
    subst Q (sym is) (subst P (to_z-of_z _ _ c.ranges.a) told)

pub returns-then-occurs-clause-well_formed : goal.returns-then-occurs-clause-well_formed
returns-then-occurs-clause-well_formed c =
    let x = c.args.x in
    let t = c.args.t.now in
    let f = c.args.fact.now in
    let a = c.args.a in
    let P : ℤ → Type 0 = λ a. Forms c.replace_occurring.result (replace_in_steps x a t (sum_of f) ++ modulus_steps a f) (replaced x a t f) in
    let told : P (to_z w128 (of_z w128 a)) = c.replace_occurring.ensures.fact in
    let R : Fact → Type 0 = λ g. IsTrue (is_fact g) in
    Forms-value R c.replace_occurring.result (replace_in_steps x a t (sum_of f) ++ modulus_steps a f) (replaced x a t f) (subst P (to_z-of_z _ _ c.ranges.a) told)
    (is_fact-replaced x a t f c.requires.positive c.requires.value c.requires.fact)

pub returns-in_err-copy-clause-memory : goal.returns-in_err-copy-clause-memory
returns-in_err-copy-clause-memory c = λ h g.
    let f = c.args.fact.now in
    let absent : occurs c.args.x (sum_of f) ≡ false = grind (arith, common_steps) in
    let none : has_unknown (sum_of f) ≡ false = ap has_unknown (sym (without-absent c.args.x (sum_of f) absent)) ∙ g in
    absurd (true≢false (sym (c.in_err-copy.ensures.memory none)))
