use Rattle.std.proofs.Common.{rules, arith}
use Rattle.std.proofs.lemmas.Grind.{common_steps}
use Rattle.normal_form.proofs.FormulaCounts.{counted_implies_plus, counted_iff_plus, counted_iff_minus}
use Rattle.normal_form.proofs.counting.+counts.Goals as goal

pub counts_of-returns-in-Iff-clause-plus : goal.counts_of-returns-in-Iff-clause-plus
counts_of-returns-in-Iff-clause-plus t c = let e = counted_iff_plus c.get-in-Iff.result.now c.get-in-Iff-2.result.now in first_of (search (rules, e), cc, grind (arith, common_steps))

pub counts_of-returns-in-Iff-clause-minus : goal.counts_of-returns-in-Iff-clause-minus
counts_of-returns-in-Iff-clause-minus t c = let e = counted_iff_minus c.get-in-Iff.result.now c.get-in-Iff-2.result.now in first_of (search (rules, e), cc, grind (arith, common_steps))

pub counts_of-returns-in-Implies-clause-plus : goal.counts_of-returns-in-Implies-clause-plus
counts_of-returns-in-Implies-clause-plus t c = let e = counted_implies_plus c.get-in-Implies.result.now c.get-in-Implies-2.result.now in first_of (search (rules, e), cc, grind (arith, common_steps))
