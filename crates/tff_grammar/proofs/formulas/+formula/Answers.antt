use Rattle.std.proofs.Common.{◌≡◌, rules, ◌+◌, ◌≤◌, arith, true}
use Rattle.std.proofs.lemmas.Result.{IfErr-weaker}
use Rattle.tff_grammar.specs.Machine.{begins_atom}
use Rattle.tff_grammar.proofs.Reading.{link_reads, members_end, not_reads, quantified_reads, atom_stops}
use Rattle.tff_grammar.proofs.formulas.+formula.Goals as goal
use Rattle.tff_grammar.proofs.formulas.+formula.Goals.{unit-in_default-via-in-Some+in-Sign+in_default, unit-in_default-via-in-Some+in_default, unit-in_default-via-in_default}

pub formula-returns-in_ok-new-in-Some-Link-default-2-clause-ok : goal.formula-returns-in_ok-new-in-Some-Link-default-2-clause-ok
formula-returns-in_ok-new-in-Some-Link-default-2-clause-ok t c =
    let a = c.in-Some-Link-default in
    let f = c.in_ok-first in
    let s = c.in_ok-second-in-Some-Link-default in
    let e = rw a.field-0-0-is at a.ensures in
    rw (c.in_ok-new-in-Some-Link-default.ensures, c.in_ok-new-in-Some-Link-default-2.ensures)
    (link_reads c.args.level c.args.pieces.now f.rest a.after s.behind a.link f.first s.second f.ensures.ok e s.ensures.ok)

pub unit-returns-in_ok-new-in-Some-Sign-Not-default-clause-ok : goal.unit-returns-in_ok-new-in-Some-Sign-Not-default-clause-ok
unit-returns-in_ok-new-in-Some-Sign-Not-default-clause-ok t c =
    let a = c.in-Some-Sign-Not-default in
    let s = c.in_ok-operand-in-Some-Sign-Not-default in
    let d = c.in_ok-inside-in-Some-Sign-Not-default.ensures.ok in
    let e = rw (a.field-0-0-is, a.field-0-0-0-is) at a.ensures in
    let deep : c.args.level + 1 ≤ 500 = omega (arith, d) in
    let inner = rw d.0 at s.ensures.ok in
    rw c.in_ok-new-in-Some-Sign-Not-default.ensures (not_reads c.args.level c.args.pieces.now a.after s.rest s.operand e deep inner)

pub unit-returns-in_ok-new-in-Some-Quantifier-default-clause-ok : goal.unit-returns-in_ok-new-in-Some-Quantifier-default-clause-ok
unit-returns-in_ok-new-in-Some-Quantifier-default-clause-ok t c =
    let a = c.in-Some-Quantifier-default in
    let d = c.in_ok-inside-in-Some-Quantifier-default.ensures.ok in
    let o = c.in_ok-open-in-Some-Quantifier-default in
    let v = c.in_ok-variables-in-Some-Quantifier-default in
    let b = c.in_ok-behind-in-Some-Quantifier-default in
    let s = c.in_ok-body-in-Some-Quantifier-default in
    let e = rw a.field-0-0-is at a.ensures in
    let deep : c.args.level + 1 ≤ 500 = omega (arith, d) in
    let inner = rw d.0 at s.ensures.ok in
    let binders = rw d.0 at v.ensures.ok in
    rw (c.in_ok-new-in-Some-Quantifier-default.ensures, c.variables-in-Some-Quantifier-default.view_is)
    (quantified_reads c.args.level c.args.pieces.now a.after o.open v.close b.behind s.rest a.quantifier v.variables s.body e deep o.ensures.ok binders b.ensures.ok inner)

pub unit-returns-in_default-clause-err : goal.unit-returns-in_default-clause-err
unit-returns-in_default-clause-err t c =
    let b : begins_atom c.args.pieces.now ≡ true = elim c.in_default.branch [ unit-in_default-via-in-Some+in-Sign+in_default w ↦ search rules | unit-in_default-via-in-Some+in_default w ↦ search rules | unit-in_default-via-in_default w ↦ search rules ] in
    IfErr-weaker _ _ _ (λ e h. atom_stops c.args.level c.args.pieces.now e b h) c.atom.ensures.err

pub members-returns-in-None-clause-ok : goal.members-returns-in-None-clause-ok
members-returns-in-None-clause-ok t c =
    let s = c.in_ok-member in
    rw (c.exact.ensures, c.in_ok-add-2.ensures)
    (members_end c.args.level c.args.pieces.now c.loop-members.rest s.behind c.args.junction c.args.first c.loop-members.members.items s.member c.loop-members.invariant.read s.ensures.ok c.in-None.ensures)
