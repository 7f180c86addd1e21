use Rattle.std.proofs.Common.{ℕ, ℤ, rules, FitsSigned}
use Rattle.std.specs.Int.{w128}
use Rattle.std.proofs.lemmas.Int.{to_z-of_z}
use Rattle.std.proofs.lemmas.Result.{err_from_is_err_and}
use Rattle.cert_tree.specs.declared.certs.Row.TheVariants as row
use Rattle.text_pieces.specs.Languages.{Cat}
use Rattle.cert_text.specs.Grammar.{Index, Whole}
use Rattle.text_pieces.proofs.Lifting.{lift-image}
use Rattle.text_pieces.proofs.Chains.{read_next, next_fails, both}
use Rattle.cert_text.proofs.ToldApart.{unambiguous-index, unambiguous-whole}
use Rattle.cert_text.proofs.parts.low.Goals as goal

pub returns-in_err-clause : goal.returns-in_err-clause
returns-in_err-clause c =
    let l0 = lift-image (λ (p : ℕ × (ℕ × ℤ)). row.Low p.0 (p.1.0) (p.1.1)) (Cat Index (λ clause. Cat Index (λ x. Whole))) c.args.text.now in
    let p = err_from_is_err_and c.from_residual.result c.from_residual.ensures.1 in
    rw (p.1, p.2) (next_fails l0 (λ v. (both unambiguous-index (λ v. unambiguous-whole))) c.in_err-clause.ensures)

pub returns-in_err-x : goal.returns-in_err-x
returns-in_err-x c =
    let l0 = lift-image (λ (p : ℕ × (ℕ × ℤ)). row.Low p.0 (p.1.0) (p.1.1)) (Cat Index (λ clause. Cat Index (λ x. Whole))) c.args.text.now in
    let l1 = read_next l0 unambiguous-index (λ v. (both unambiguous-index (λ v. unambiguous-whole))) c.in_ok-clause.ensures in
    let p = err_from_is_err_and c.from_residual-in_err-x.result c.from_residual-in_err-x.ensures.1 in
    rw (p.1, p.2) (next_fails l1 (λ v. unambiguous-whole) c.in_err-x.ensures)

pub returns-in_err-j : goal.returns-in_err-j
returns-in_err-j c =
    let l0 = lift-image (λ (p : ℕ × (ℕ × ℤ)). row.Low p.0 (p.1.0) (p.1.1)) (Cat Index (λ clause. Cat Index (λ x. Whole))) c.args.text.now in
    let l1 = read_next l0 unambiguous-index (λ v. (both unambiguous-index (λ v. unambiguous-whole))) c.in_ok-clause.ensures in
    let l2 = read_next l1 unambiguous-index (λ v. unambiguous-whole) c.in_ok-x.ensures in
    let p = err_from_is_err_and c.from_residual-in_err-j.result c.from_residual-in_err-j.ensures.1 in
    rw (p.1, p.2) (l2.fails c.in_err-j.field-0.0.left c.in_err-j.ensures)

pub returns : goal.returns
returns c =
    let l0 = lift-image (λ (p : ℕ × (ℕ × ℤ)). row.Low p.0 (p.1.0) (p.1.1)) (Cat Index (λ clause. Cat Index (λ x. Whole))) c.args.text.now in
    let l1 = read_next l0 unambiguous-index (λ v. (both unambiguous-index (λ v. unambiguous-whole))) c.in_ok-clause.ensures in
    let l2 = read_next l1 unambiguous-index (λ v. unambiguous-whole) c.in_ok-x.ensures in
    let fits : FitsSigned w128 c.in_ok-j.j = search rules in
    rw (to_z-of_z w128 c.in_ok-j.j fits) (l2.reads c.in_ok-j.j c.in_ok-j.rest.now c.in_ok-j.ensures)
