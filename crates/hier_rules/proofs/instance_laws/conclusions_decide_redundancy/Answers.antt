use Rattle.hier_rules.proofs.InstanceLemmas.{decides}
use Rattle.hier_rules.proofs.instance_laws.conclusions_decide_redundancy.Goals as goal

pub returns : goal.returns
returns c S items a b x k is =
    decides
    (record {
      after = c.simple_substitutions_compose.ensures;
      tautology = c.tautologies_stay.ensures;
      covered = c.covered_clauses_stay_covered.ensures;
      covers_by = c.clauses_cover_by_their_instances.ensures;
      covers_more = c.covering_composes.ensures.more;
      weighs = c.substitutions_make_nothing_lighter.ensures.clause;
    })
    S a b x items k is
