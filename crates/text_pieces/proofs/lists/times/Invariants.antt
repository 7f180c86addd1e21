use Rattle.std.proofs.Common.{ℕ, ◌-◌, length}
use Rattle.text_pieces.specs.Numbers.{IsCount}
use Rattle.text_pieces.proofs.Repeated.{ReadSo}
use Rattle.text_pieces.proofs.lists.times.Given as goal

abbrev pub invariant-loop-alloc : goal.invariant-loop-alloc
invariant-loop-alloc g l = (n : ℕ) → IsCount l.count n → ReadSo g.R.Reader.spells n l.fn.text l.values l.rest

abbrev pub decreases-loop-alloc : goal.decreases-loop-alloc
decreases-loop-alloc g l = l.count - length l.values
