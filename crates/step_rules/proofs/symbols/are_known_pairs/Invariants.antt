use Rattle.std.proofs.Common.{◌≡◌, drop}
use Rattle.std.specs.List.{list_all}
use Rattle.step_rules.specs.Symbols.{is_known_pair}
use Rattle.step_rules.proofs.symbols.are_known_pairs.Given as goal

abbrev pub invariant-loop-pair : goal.invariant-loop-pair
invariant-loop-pair l = list_all (is_known_pair l.n) l.pairs ≡ list_all (is_known_pair l.n) (drop l.pair-index l.pairs)
