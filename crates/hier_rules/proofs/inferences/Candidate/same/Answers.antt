use Rattle.hier_rules.specs.SameCandidateLemmas.{candidates_equal}
use Rattle.hier_rules.proofs.inferences.Candidate.same.Goals as goal

pub returns-clause-exactly : goal.returns-clause-exactly
returns-clause-exactly c =
    candidates_equal c.same_candidate.result c.args.self.now c.args.other.now c.same_candidate.ensures
