use Rattle.hier_rules.proofs.ListedCandidates.{superpositions_listed}
use Rattle.hier_rules.proofs.listing_laws.superpositions_are_listed.Goals as goal

pub returns : goal.returns
returns c = superpositions_listed
