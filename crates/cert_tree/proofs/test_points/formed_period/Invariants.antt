use Rattle.std.proofs.Common.{◌≡◌, ◌≤ℤ◌, pos, drop}
use Rattle.std.specs.List.{filter_map}
use Rattle.lin_base.specs.Steps.{first_wide}
use Rattle.cert_tree.specs.Points as points
use Rattle.cert_tree.proofs.test_points.formed_period.Given as goal

abbrev pub invariant-loop-fact : goal.invariant-loop-fact
invariant-loop-fact l = record {
  steps : first_wide (points.period_steps l.x l.facts) ≡ first_wide (points.lcm_onto_steps l.so_far (filter_map (points.modulus_at l.x) (drop l.fact-index l.facts)));
  value : points.period l.x l.facts ≡ points.lcm_onto l.so_far (filter_map (points.modulus_at l.x) (drop l.fact-index l.facts));
  positive : pos 1 ≤ℤ l.so_far;
}
