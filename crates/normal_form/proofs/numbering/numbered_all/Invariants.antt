use Rattle.std.proofs.Common.{◌≡◌, map}
use Rattle.normal_form.specs.Numbering.{numbered}
use Rattle.normal_form.proofs.numbering.numbered_all.Given as goal

abbrev pub invariant-loop-clause : goal.invariant-loop-clause
invariant-loop-clause l = l.all ≡ map (numbered l.symbols l.ordinary) l.yielded
