-- Worked rows: counts of faults, and what a sink in memory takes.
use Rattle.std.specs.Prelude.{◌≡◌, ◌^◌, ◌-◌}
use Rattle.std.proofs.Common.{refl}
use Rattle.byte_ends.specs.Faults.{counted}

pub row-first_fault : counted 0 ≡ 1
row-first_fault = refl

-- the count stays at its last value
pub row-last_fault : counted (2 ^ 64 - 1) ≡ 2 ^ 64 - 1
row-last_fault = refl
