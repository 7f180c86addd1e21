use Rattle.std.proofs.Common.{arith, ◌<◌, length, append_assoc, inl, inr, ◌⊎◌, ◌≡◌, None}
use Rattle.lin_base.specs.Sum.{add_terms}
use Rattle.lin_base.specs.Steps.{first_wide, add_terms_steps}
use Rattle.lin_base.proofs.Forming.{forming, formed_by-narrow}
use Rattle.lin_base.proofs.Scaling.{with_term-append}
use Rattle.lin_base.proofs.Merging.{first_and_rest, left_rest, right_rest, merge-lower, merge-higher, merge-same, merge-end}
use Rattle.lin_base.proofs.changes.add_terms.Goals as goal
use Rattle.lin_base.proofs.changes.add_terms.Goals.{in_default, in_default-2}

pub loop-left-preserved-then-a-b : goal.loop-left-preserved-then-a-b
loop-left-preserved-then-a-b c =
    let ts = c.loop-left.left.now in
    let us = c.loop-left.right.now in
    let old = c.loop-left.invariant in
    let e = first_and_rest ts (grind arith) in
    let f = first_and_rest us (grind arith) in
    let merge = merge-lower _ _ _ _ ts us e f old.left old.right c.if-a-b.true in
    let pushed = c.push.ensures.items in
    record {
      left = left_rest _ _ _ _ ts us e f old.left old.right;
      right = old.right;
      steps = grind arith;
      sum = grind (arith, append_assoc);
      room = grind arith;
    }

pub loop-left-preserved-then-b-a : goal.loop-left-preserved-then-b-a
loop-left-preserved-then-b-a c =
    let ts = c.loop-left.left.now in
    let us = c.loop-left.right.now in
    let old = c.loop-left.invariant in
    let e = first_and_rest ts (grind arith) in
    let f = first_and_rest us (grind arith) in
    let merge = merge-higher _ _ _ _ ts us e f old.left old.right c.if-b-a.true in
    let pushed = c.push-then-b-a.ensures.items in
    record {
      left = old.left;
      right = right_rest _ _ _ _ ts us e f old.left old.right;
      steps = grind arith;
      sum = grind (arith, append_assoc);
      room = grind arith;
    }

pub loop-left-preserved : goal.loop-left-preserved
loop-left-preserved c =
    let ts = c.loop-left.left.now in
    let us = c.loop-left.right.now in
    let old = c.loop-left.invariant in
    let e = first_and_rest ts (grind arith) in
    let f = first_and_rest us (grind arith) in
    let merge = merge-same _ _ _ _ ts us e f old.left old.right (omega arith) in
    let pushed = c.push_term.ensures.items in
    record {
      left = left_rest _ _ _ _ ts us e f old.left old.right;
      right = right_rest _ _ _ _ ts us e f old.left old.right;
      steps = grind (arith, forming);
      sum = grind (arith, forming, with_term-append, append_assoc);
      room = grind arith;
    }

pub returns : goal.returns
returns c =
    let ts = c.loop-left.left.now in
    let us = c.loop-left.right.now in
    let old = c.loop-left.invariant in
    let one : (length ts < 1) ⊎ (length us < 1) = elim c.if-left-lt1.branch [ in_default w ↦ inl w.in_default.len_below | in_default-2 w ↦ inr (grind arith) ] in
    let end = merge-end ts us old.left one in
    let narrow : first_wide (add_terms_steps c.args.left.now c.args.right.now) ≡ None = grind arith in
    let sum : c.from_vec.result ≡ add_terms c.args.left.now c.args.right.now = grind (arith, append_assoc) in
    formed_by-narrow (add_terms_steps c.args.left.now c.args.right.now) (add_terms c.args.left.now c.args.right.now) c.from_vec.result narrow sum
