use Rattle.beagle_top.proofs.Verified.{line_exactly, status_exactly}
use Rattle.beagle_top.proofs.laws.verified_where_proved.Goals as goal

pub returns-clause-status : goal.returns-clause-status
returns-clause-status c = status_exactly c.verified_exactly.ensures

pub returns-clause-text : goal.returns-clause-text
returns-clause-text c = line_exactly
