use Rattle.term_base.specs.Lits.{lits}
use Rattle.define_rule.proofs.AnswerLemmas.{answer_form, answer_sort}
use Rattle.define_rule.proofs.FoundLemmas.{exactly}
use Rattle.define_rule.proofs.SymbolLemmas.{answer_known}
use Rattle.define_rule.proofs.next.next_term.Goals as goal

pub returns-clause-exactly : goal.returns-clause-exactly
returns-clause-exactly c = exactly c.args.signature.now (lits c.args.c.now) c.found.result c.found.ensures

pub returns-clause-form : goal.returns-clause-form
returns-clause-form c =
    let S = c.args.signature.now in
    let ls = lits c.args.c.now in
    answer_form S ls c.found.result (exactly S ls c.found.result c.found.ensures)

pub returns-clause-sorted : goal.returns-clause-sorted
returns-clause-sorted c =
    let S = c.args.signature.now in
    let ls = lits c.args.c.now in
    answer_sort S ls c.found.result (exactly S ls c.found.result c.found.ensures)

pub returns-clause-known : goal.returns-clause-known
returns-clause-known c =
    let S = c.args.signature.now in
    let ls = lits c.args.c.now in
    answer_known S ls c.found.result (exactly S ls c.found.result c.found.ensures)
