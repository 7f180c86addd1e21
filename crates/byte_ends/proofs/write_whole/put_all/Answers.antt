use Rattle.std.proofs.Common.{arith, length-take, length-drop, ap, length}
use Rattle.byte_ends.proofs.Told.{appends_next}
use Rattle.byte_ends.proofs.write_whole.put_all.Goals as goal

pub loop-taken-preserved : goal.loop-taken-preserved
loop-taken-preserved g c = record {
  within = omega (arith, simp (length-take, length-drop) at c.in_ok-taken.ensures.count);
  took = appends_next _ _ _ c.args.bytes.now c.loop-taken.taken c.in_ok-taken.field-0 c.loop-taken.invariant.took c.in_ok-taken.ensures.bytes;
  never_falls = omega (arith, c.in_ok-taken.ensures.faults);
  nothing = λ e. absurd (let h = ap length e in omega arith);
}
