use Rattle.std.proofs.Common.{◌≡◌, [], ◌∷◌, length}
use Rattle.tff_grammar.specs.Machine.{file_value, go, read}
use Rattle.tff_grammar.specs.Machine as m
use Rattle.tff_grammar.proofs.statements.statements.Given as goal

abbrev pub invariant-loop-after : goal.invariant-loop-after
invariant-loop-after l = read l.fn.pieces ≡ go (m.statements l.again ∷ []) (file_value l.statements ∷ []) l.rest

abbrev pub decreases-loop-after : goal.decreases-loop-after
decreases-loop-after l = length l.rest
