use Rattle.std.proofs.Common.{List, sym, refl, subst}
use Rattle.std.specs.List.{All}
use Rattle.formula_base.specs.declared.problems.Problem.{Problem}
use Rattle.formula_base.specs.Binders.{IsNumbered}
use Rattle.formula_base.specs.Typing.{IsWellTyped, formulas}
use Rattle.tff_grammar.specs.declared.trees.Statement.{Statement}
use Rattle.tff_grammar.specs.Answer.{IsText}
use Rattle.tff_reader.specs.Answer.{by_grammar}
use Rattle.tff_reader.proofs.Numbered.{problem_numbered}
use Rattle.tff_reader.proofs.WellTyped.{problem_typed}
use Rattle.tff_reader.proofs.ReaderLemmas.{is_problem, is_refused, same_problem, not_refused}
use Rattle.tff_reader.proofs.reader.read.Goals as goal

pub returns-in-Err-Fault-clause-refused : goal.returns-in-Err-Fault-clause-refused
returns-in-Err-Fault-clause-refused c =
    let fault = rw c.in-Err-Fault.field-0-is at c.in-Err-Fault.ensures.fault in
    by_grammar c.in-Err-Fault.fault fault c.in_ok-refused_early-in-Err-Fault.ensures

pub returns-in-Err-Fault-clause-only : goal.returns-in-Err-Fault-clause-only
returns-in-Err-Fault-clause-only c = λ p is.
    let fault = rw c.in-Err-Fault.field-0-is at c.in-Err-Fault.ensures.fault in
    absurd (c.no_fault_of_text.ensures c.args.bytes.now is.statements c.in-Err-Fault.fault is.text fault)

pub returns-in-Ok-problem-clause-typed : goal.returns-in-Ok-problem-clause-typed
returns-in-Ok-problem-clause-typed c =
    let h = c.in-Ok-problem.ensures in
    subst IsWellTyped (sym h.1) (problem_typed c.args.bytes.now c.in-Ok.statements h.0)

pub returns-in-Ok-problem-clause-numbered : goal.returns-in-Ok-problem-clause-numbered
returns-in-Ok-problem-clause-numbered c =
    let h = c.in-Ok-problem.ensures in
    subst (λ (q : Problem). All IsNumbered (formulas q)) (sym h.1) (problem_numbered c.args.bytes.now c.in-Ok.statements)

pub returns-in-Ok-problem-clause-only : goal.returns-in-Ok-problem-clause-only
returns-in-Ok-problem-clause-only c = λ p is.
    let bytes = c.args.bytes.now in
    let ss : List Statement = c.in-Ok.statements in
    let text = c.in-Ok.ensures.ok in
    same_problem c.one_text.ensures bytes ss c.in-Ok-problem.problem p text c.in-Ok-problem.ensures.1 is

pub returns-in_ok-refused_later-in-Err-Fault-problem-clause-refused : goal.returns-in_ok-refused_later-in-Err-Fault-problem-clause-refused
returns-in_ok-refused_later-in-Err-Fault-problem-clause-refused c =
    let bytes = c.args.bytes.now in
    let ss : List Statement = c.in-Ok.statements in
    let text = c.in-Ok.ensures.ok in
    let first = rw c.in-Err-Fault-problem.field-0-is at c.in-Err-Fault-problem.ensures in
    is_refused bytes ss c.in-Err-Fault-problem.fault c.in_ok-refused_later-in-Err-Fault-problem.field-0 text first c.in_ok-refused_later-in-Err-Fault-problem.ensures

pub returns-in_ok-refused_later-in-Err-Fault-problem-clause-only : goal.returns-in_ok-refused_later-in-Err-Fault-problem-clause-only
returns-in_ok-refused_later-in-Err-Fault-problem-clause-only c = λ p is.
    let bytes = c.args.bytes.now in
    let ss : List Statement = c.in-Ok.statements in
    let text = c.in-Ok.ensures.ok in
    let first = rw c.in-Err-Fault-problem.field-0-is at c.in-Err-Fault-problem.ensures in
    absurd (not_refused c.one_text.ensures bytes ss c.in-Err-Fault-problem.fault p text first is)
