use Rattle.hier_rules.proofs.ListedCandidates.{fired_superposition, fired_resolution, fired_factoring}
use Rattle.hier_rules.proofs.listing_laws.what_fires_is_listed.Goals as goal

pub returns-clause-superpositions : goal.returns-clause-superpositions
returns-clause-superpositions c S a cs b ds = fired_superposition S a cs b ds (c.pure_stays_pure.ensures S)

pub returns-clause-resolutions : goal.returns-clause-resolutions
returns-clause-resolutions c = fired_resolution

pub returns-clause-factorings : goal.returns-clause-factorings
returns-clause-factorings c = fired_factoring
