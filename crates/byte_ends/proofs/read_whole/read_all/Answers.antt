use Rattle.std.proofs.Common.{arith, length-append, length-take, length-drop, length, ◌≡◌, ◌++◌, ◌+◌, ◌∙◌}
use Rattle.byte_ends.proofs.Told.{consumes_none, consumes_more, left_within, left_after, told_as_long, whole_read, none_left}
use Rattle.byte_ends.proofs.Outcomes.{same_err}
use Rattle.byte_ends.specs.declared.read_whole.ReadEnd.TheVariants as end
use Rattle.byte_ends.proofs.read_whole.read_all.Goals as goal

pub pieces-init : goal.pieces-init
pieces-init g c = record {
  read = rw c.new-all.ensures.items (consumes_none _);
  count = rw c.new-all.ensures.items (omega arith);
  never_falls = omega arith;
  buffer = omega (arith, c.in_ok-buffer.ensures.len, c.in_ok-buffer.buffer.ok.0);
}

pub returns-in_err-n-clause-failed_within : goal.returns-in_err-n-clause-failed_within
returns-in_err-n-clause-failed_within g c = λ is.
    let piece = c.in_err-n.ensures.failed_within (same_err _ end.Failed _ c.from_residual-in_err-n.ensures.1 is) in
    left_within _ _ (c.pieces.all.items ++ piece.0) _ (consumes_more _ _ _ _ _ c.pieces.invariant.read piece.2) (omega (arith, length-append c.pieces.all.items piece.0, piece.1))

pub returns-in_err-n-clause-memory_within : goal.returns-in_err-n-clause-memory_within
returns-in_err-n-clause-memory_within g c = λ is.
    let piece = c.in_err-n.ensures.memory_within (same_err _ end.Memory _ c.from_residual-in_err-n.ensures.1 is) in
    left_within _ _ (c.pieces.all.items ++ piece.0) _ (consumes_more _ _ _ _ _ c.pieces.invariant.read piece.2) (omega (arith, length-append c.pieces.all.items piece.0, piece.1))

pub returns-in_err-n-clause-too_long : goal.returns-in_err-n-clause-too_long
returns-in_err-n-clause-too_long g c = λ is.
    let piece = c.in_err-n.ensures.too_long (same_err _ end.TooLong _ c.from_residual-in_err-n.ensures.1 is) in
    told_as_long _ _ (c.pieces.all.items ++ piece.0) _ (consumes_more _ _ _ _ _ c.pieces.invariant.read piece.2) (omega (arith, length-append c.pieces.all.items piece.0, piece.1))

pub returns-in_err-n-clause-stops : goal.returns-in_err-n-clause-stops
returns-in_err-n-clause-stops g c = λ is.
    let piece = c.in_err-n.ensures.too_long (same_err _ end.TooLong _ c.from_residual-in_err-n.ensures.1 is) in
    let count : length (c.pieces.all.items ++ piece.0) ≡ c.args.limit + 1 = omega (arith, length-append c.pieces.all.items piece.0, piece.1) in
    rw (← count) (left_after _ _ (c.pieces.all.items ++ piece.0) (consumes_more _ _ _ _ _ c.pieces.invariant.read piece.2))

pub returns-then-n-eq0-clause-bytes : goal.returns-then-n-eq0-clause-bytes
returns-then-n-eq0-clause-bytes g c =
    let piece = c.in_ok-n.ensures.appends in
    rw piece.2 (whole_read _ _ _ _ _ c.pieces.invariant.read piece.3 (piece.1 ∙ c.if-n-eq0.true) (c.in_ok-n.ensures.end c.if-n-eq0.true))

pub returns-then-n-eq0-clause-emptied : goal.returns-then-n-eq0-clause-emptied
returns-then-n-eq0-clause-emptied g c =
    let piece = c.in_ok-n.ensures.appends in
    none_left _ _ _ _ _ c.pieces.invariant.read piece.3 (c.in_ok-n.ensures.end c.if-n-eq0.true)

pub pieces-preserved : goal.pieces-preserved
pieces-preserved g c =
    let piece = c.in_ok-n.ensures.appends in
    record {
      read = rw piece.2 (consumes_more _ _ _ _ _ c.pieces.invariant.read piece.3);
      count = rw piece.2 (omega (arith, length-append c.pieces.all.items piece.0, piece.1, c.in_ok-n.ensures.room));
      never_falls = omega (arith, c.in_ok-n.ensures.faults);
      buffer = simp (length-take, length-append, length-drop) (omega (arith, c.pieces.buffer.ok.0, c.read_piece.auto.buffer, c.deref_mut.ensures.len));
    }
