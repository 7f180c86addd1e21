use Rattle.std.proofs.Common.{ℕ, ℤ, rules, FitsSigned}
use Rattle.std.specs.Int.{w128}
use Rattle.std.proofs.lemmas.Int.{to_z-of_z}
use Rattle.std.proofs.lemmas.Result.{err_from_is_err_and}
use Rattle.lin_base.specs.declared.sums.Lin.{Lin}
use Rattle.cert_tree.specs.declared.certs.Row.TheVariants as row
use Rattle.text_pieces.specs.Languages.{Cat}
use Rattle.cert_text.specs.Grammar.{Index, Whole, Sum}
use Rattle.text_pieces.proofs.Lifting.{lift-image}
use Rattle.text_pieces.proofs.Chains.{read_next, next_fails, last_unread, both}
use Rattle.cert_text.proofs.ToldApart.{unambiguous-index, unambiguous-whole, unambiguous-sum}
use Rattle.cert_text.proofs.parts.inst.Goals as goal

pub returns-in_err-clause : goal.returns-in_err-clause
returns-in_err-clause c =
    let l0 = lift-image (λ (p : ℕ × (ℕ × (ℤ × Lin))). row.Inst p.0 (p.1.0) (p.1.1.0) (p.1.1.1)) (Cat Index (λ clause. Cat Index (λ x. Cat Whole (λ a. Sum)))) c.args.text.now in
    let p = err_from_is_err_and c.from_residual.result c.from_residual.ensures.1 in
    rw (p.1, p.2) (next_fails l0 (λ v. (both unambiguous-index (λ v. (both unambiguous-whole (λ v. unambiguous-sum))))) c.in_err-clause.ensures)

pub returns-in_err-x : goal.returns-in_err-x
returns-in_err-x c =
    let l0 = lift-image (λ (p : ℕ × (ℕ × (ℤ × Lin))). row.Inst p.0 (p.1.0) (p.1.1.0) (p.1.1.1)) (Cat Index (λ clause. Cat Index (λ x. Cat Whole (λ a. Sum)))) c.args.text.now in
    let l1 = read_next l0 unambiguous-index (λ v. (both unambiguous-index (λ v. (both unambiguous-whole (λ v. unambiguous-sum))))) c.in_ok-clause.ensures in
    let p = err_from_is_err_and c.from_residual-in_err-x.result c.from_residual-in_err-x.ensures.1 in
    rw (p.1, p.2) (next_fails l1 (λ v. (both unambiguous-whole (λ v. unambiguous-sum))) c.in_err-x.ensures)

pub returns-in_err-a : goal.returns-in_err-a
returns-in_err-a c =
    let l0 = lift-image (λ (p : ℕ × (ℕ × (ℤ × Lin))). row.Inst p.0 (p.1.0) (p.1.1.0) (p.1.1.1)) (Cat Index (λ clause. Cat Index (λ x. Cat Whole (λ a. Sum)))) c.args.text.now in
    let l1 = read_next l0 unambiguous-index (λ v. (both unambiguous-index (λ v. (both unambiguous-whole (λ v. unambiguous-sum))))) c.in_ok-clause.ensures in
    let l2 = read_next l1 unambiguous-index (λ v. (both unambiguous-whole (λ v. unambiguous-sum))) c.in_ok-x.ensures in
    let p = err_from_is_err_and c.from_residual-in_err-a.result c.from_residual-in_err-a.ensures.1 in
    rw (p.1, p.2) (next_fails l2 (λ v. unambiguous-sum) c.in_err-a.ensures)

pub returns-in_err-t : goal.returns-in_err-t
returns-in_err-t c =
    let l0 = lift-image (λ (p : ℕ × (ℕ × (ℤ × Lin))). row.Inst p.0 (p.1.0) (p.1.1.0) (p.1.1.1)) (Cat Index (λ clause. Cat Index (λ x. Cat Whole (λ a. Sum)))) c.args.text.now in
    let l1 = read_next l0 unambiguous-index (λ v. (both unambiguous-index (λ v. (both unambiguous-whole (λ v. unambiguous-sum))))) c.in_ok-clause.ensures in
    let l2 = read_next l1 unambiguous-index (λ v. (both unambiguous-whole (λ v. unambiguous-sum))) c.in_ok-x.ensures in
    let l3 = read_next l2 unambiguous-whole (λ v. unambiguous-sum) c.in_ok-a.ensures in
    let p = err_from_is_err_and c.from_residual-in_err-t.result c.from_residual-in_err-t.ensures.1 in
    rw (p.1, p.2) (last_unread l3 c.in_err-t.field-0.0 c.in_err-t.ensures)

pub returns : goal.returns
returns c =
    let l0 = lift-image (λ (p : ℕ × (ℕ × (ℤ × Lin))). row.Inst p.0 (p.1.0) (p.1.1.0) (p.1.1.1)) (Cat Index (λ clause. Cat Index (λ x. Cat Whole (λ a. Sum)))) c.args.text.now in
    let l1 = read_next l0 unambiguous-index (λ v. (both unambiguous-index (λ v. (both unambiguous-whole (λ v. unambiguous-sum))))) c.in_ok-clause.ensures in
    let l2 = read_next l1 unambiguous-index (λ v. (both unambiguous-whole (λ v. unambiguous-sum))) c.in_ok-x.ensures in
    let l3 = read_next l2 unambiguous-whole (λ v. unambiguous-sum) c.in_ok-a.ensures in
    let fits : FitsSigned w128 c.in_ok-a.a = search rules in
    rw (to_z-of_z w128 c.in_ok-a.a fits) (l3.reads c.in_ok-t.t c.in_ok-t.rest.now c.in_ok-t.ensures)
