use Rattle.hier_rules.proofs.ListedCandidates.{own_listed}
use Rattle.hier_rules.proofs.listing_laws.own_candidates_are_listed.Goals as goal

pub returns : goal.returns
returns c = own_listed
