use Rattle.std.proofs.Common.{◌≡◌, ◌++◌, take, drop, true}
use Rattle.proof_check.specs.Sections as spec
use Rattle.proof_check.proofs.sections.before_answer.Given as goal

abbrev pub invariant-loop-place : goal.invariant-loop-place
invariant-loop-place l = take l.place l.bytes ++ spec.before_answer l.begins_line (drop l.place l.bytes) ≡ spec.before_answer true l.bytes
