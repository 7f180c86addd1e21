use Rattle.std.proofs.Common.{◌≡◌, ◌∙◌, List, Err, arith, rules}
use Rattle.tff_grammar.specs.declared.trees.Formula.{Formula}
use Rattle.tff_reader.specs.NumberTerms.{product_faults}
use Rattle.tff_reader.proofs.StopLemmas.{stops_same, members_on, members_stop, members_end}
use Rattle.tff_reader.proofs.products.+check_formula.Goals as goal

pub loop-member-preserved : goal.loop-member-preserved
loop-member-preserved t c =
    let gs : List Formula = c.as_slice-member-items.result.now in
    c.loop-member.invariant
    ∙ members_on product_faults gs c.loop-member.member-index c.member-item.result (omega arith) c.member-item.is c.in_ok-check_formula-in-Joined.ensures

pub returns-in_err-check_formula-in-Joined : goal.returns-in_err-check_formula-in-Joined
returns-in_err-check_formula-in-Joined t c =
    let gs : List Formula = c.as_slice-member-items.result.now in
    let e = c.in_err-check_formula-in-Joined.field-0 in
    let r : c.from_residual-in_err-check_formula-in-Joined.result ≡ Err e.0 = search rules in
    rw r (stops_same e.0 (product_faults c.args.formula.now) _ c.loop-member.invariant
    (members_stop product_faults gs c.loop-member.member-index c.member-item.result (omega arith) c.member-item.is e.0 c.in_err-check_formula-in-Joined.ensures))

pub returns-after-loop-member : goal.returns-after-loop-member
returns-after-loop-member t c =
    let gs : List Formula = c.as_slice-member-items.result.now in
    c.loop-member.invariant ∙ members_end product_faults gs c.loop-member.member-index (omega arith)
