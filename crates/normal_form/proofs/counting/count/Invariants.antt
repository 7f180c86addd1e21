use Rattle.std.proofs.Common.{◌≡◌, ◌+◌, ◌≤◌, ◌++◌, [], ◌∷◌, drop, true, false}
use Rattle.std.specs.Option.{option_map_or}
use Rattle.normal_form.specs.Count.{saturated, max_count}
use Rattle.normal_form.specs.Clauses.{count_all, count_of, with_sign}
use Rattle.normal_form.proofs.counting.count.Given as goal

abbrev pub invariant-loop-premise : goal.invariant-loop-premise
invariant-loop-premise l = record {
  within : l.all ≤ max_count;
  rest : saturated (l.all + count_all (with_sign true (drop l.premise-index l.premise-items) ++ with_sign false (option_map_or (λ g. g ∷ []) l.problem.conjecture [])))
      ≡ saturated (count_of l.problem);
}
