use Rattle.std.proofs.Common.{◌≡◌, drop}
use Rattle.cert_tree.specs.Ground.{unknowns}
use Rattle.cooper.specs.Walks.{first_of, lesser_of}
use Rattle.cooper.proofs.choosing.first_unknown.Given as goal

-- the least so far, and of what is left
abbrev pub invariant-loop-fact : goal.invariant-loop-fact
invariant-loop-fact l = lesser_of l.first (first_of (unknowns (drop l.fact-index l.facts))) ≡ first_of (unknowns l.facts)
