use Rattle.tff_signature.proofs.FaultPlaces.{ascending, least}
use Rattle.tff_signature.proofs.laws.faults_ascend.Goals as goal

pub returns-clause-ascending : goal.returns-clause-ascending
returns-clause-ascending c = ascending

pub returns-clause-least : goal.returns-clause-least
returns-clause-least c = least
