use Rattle.tff_grammar.proofs.Reading.{relation_reads}
use Rattle.tff_grammar.proofs.formulas.atom.Goals as goal

pub returns-in_ok-right-in-Some-Relation-default-clause-ok : goal.returns-in_ok-right-in-Some-Relation-default-clause-ok
returns-in_ok-right-in-Some-Relation-default-clause-ok c =
    let a = c.in-Some-Relation-default in
    let l = c.in_ok-left in
    let r = c.in_ok-right-in-Some-Relation-default in
    let e = rw a.field-0-0-is at a.ensures in
    relation_reads c.args.level c.args.pieces.now l.rest a.after r.behind a.relation l.left r.right l.ensures.ok e r.ensures.ok
