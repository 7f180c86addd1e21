use Rattle.std.proofs.Common.{◌≡◌, map, sum, take, true, false}
use Rattle.normal_form.specs.Count.{number, product, saturated}
use Rattle.normal_form.proofs.counting.+counts.Given as goal

abbrev pub invariant-conjunction_counts-loop-member : goal.invariant-conjunction_counts-loop-member
invariant-conjunction_counts-loop-member l = record {
  plus : l.all.plus ≡ saturated (sum (map (λ g. number g true) (take l.member-index l.members)));
  minus : l.all.minus ≡ saturated (product (map (λ g. number g false) (take l.member-index l.members)));
}

abbrev pub invariant-disjunction_counts-loop-member : goal.invariant-disjunction_counts-loop-member
invariant-disjunction_counts-loop-member l = record {
  plus : l.all.plus ≡ saturated (product (map (λ g. number g true) (take l.member-index l.members)));
  minus : l.all.minus ≡ saturated (sum (map (λ g. number g false) (take l.member-index l.members)));
}
