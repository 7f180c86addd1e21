use Rattle.hier_rules.proofs.InstanceLemmas.{instance_itself, instance_after}
use Rattle.hier_rules.proofs.instance_laws.instances_compose.Goals as goal

pub returns-clause-itself : goal.returns-clause-itself
returns-clause-itself c =
    instance_itself

pub returns-clause-after : goal.returns-clause-after
returns-clause-after c =
    instance_after
    (record {
      after = c.simple_substitutions_compose.ensures;
      tautology = c.tautologies_stay.ensures;
      covered = c.covered_clauses_stay_covered.ensures;
      covers_by = c.clauses_cover_by_their_instances.ensures;
      covers_more = c.covering_composes.ensures.more;
      weighs = c.substitutions_make_nothing_lighter.ensures.clause;
    })
