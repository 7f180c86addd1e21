-- Steps of the walk.
use Rattle.std.proofs.Common.{◌≡◌, Bool, true, false, refl}
use Rattle.define_rule.specs.Scan.{Scan, found, all_pinned, not_pinned, then_scan, unfound}
use Rattle.term_base.specs.Trees.{Tree}

-- a find stands over what came before
pub found_after : (b : Bool) (t : Tree) → then_scan (unfound b) (found t) ≡ found t
found_after true t = refl
found_after false t = refl

-- a variable that isn't pinned stands over what came before
pub not_pinned_after : (b : Bool) (s : Scan) → then_scan (unfound b) (then_scan not_pinned s) ≡ then_scan not_pinned s
not_pinned_after true s = refl
not_pinned_after false (found t) = refl
not_pinned_after false all_pinned = refl
not_pinned_after false not_pinned = refl

pub then_nothing : (s : Scan) → then_scan s all_pinned ≡ s
then_nothing (found t) = refl
then_nothing all_pinned = refl
then_nothing not_pinned = refl
