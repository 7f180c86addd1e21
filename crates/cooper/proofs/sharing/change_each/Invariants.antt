use Rattle.std.proofs.Common.{◌≡◌, ◌++◌, take, drop, map}
use Rattle.std.specs.List.{flat_map}
use Rattle.lin_base.specs.Numbers.{results}
use Rattle.cooper_rows.proofs.Budgets.{Due}
use Rattle.cooper.specs.Sharing.{changed, changed_steps, put_back}
use Rattle.cooper.proofs.sharing.change_each.Given as goal

-- what is left to form, the facts so far, and what they were
abbrev pub invariant-loop-i : goal.invariant-loop-i
invariant-loop-i l = record {
  formed : Due 0 0 0 0 (results (flat_map (changed_steps l.p l.far l.side) (drop l.i l.initial.facts))) (results (flat_map (changed_steps l.p l.far l.side) l.initial.facts));
  facts : l.facts ≡ map (changed l.p l.far l.side) (take l.i l.initial.facts) ++ drop l.i l.initial.facts;
  kept : put_back l.kept l.facts ≡ l.initial.facts;
}
