use Rattle.hier_rules.proofs.InstanceLemmas.{tautology_instance, covered_instance, covers_instance, instance_covered, instance_weighs}
use Rattle.hier_rules.proofs.instance_laws.instances_stay_redundant.Goals as goal

pub returns-clause-tautology : goal.returns-clause-tautology
returns-clause-tautology c =
    tautology_instance
    (record {
      after = c.simple_substitutions_compose.ensures;
      tautology = c.tautologies_stay.ensures;
      covered = c.covered_clauses_stay_covered.ensures;
      covers_by = c.clauses_cover_by_their_instances.ensures;
      covers_more = c.covering_composes.ensures.more;
      weighs = c.substitutions_make_nothing_lighter.ensures.clause;
    })

pub returns-clause-covered : goal.returns-clause-covered
returns-clause-covered c =
    covered_instance
    (record {
      after = c.simple_substitutions_compose.ensures;
      tautology = c.tautologies_stay.ensures;
      covered = c.covered_clauses_stay_covered.ensures;
      covers_by = c.clauses_cover_by_their_instances.ensures;
      covers_more = c.covering_composes.ensures.more;
      weighs = c.substitutions_make_nothing_lighter.ensures.clause;
    })

pub returns-clause-covers : goal.returns-clause-covers
returns-clause-covers c =
    covers_instance
    (record {
      after = c.simple_substitutions_compose.ensures;
      tautology = c.tautologies_stay.ensures;
      covered = c.covered_clauses_stay_covered.ensures;
      covers_by = c.clauses_cover_by_their_instances.ensures;
      covers_more = c.covering_composes.ensures.more;
      weighs = c.substitutions_make_nothing_lighter.ensures.clause;
    })

pub returns-clause-by_itself : goal.returns-clause-by_itself
returns-clause-by_itself c =
    instance_covered
    (record {
      after = c.simple_substitutions_compose.ensures;
      tautology = c.tautologies_stay.ensures;
      covered = c.covered_clauses_stay_covered.ensures;
      covers_by = c.clauses_cover_by_their_instances.ensures;
      covers_more = c.covering_composes.ensures.more;
      weighs = c.substitutions_make_nothing_lighter.ensures.clause;
    })

pub returns-clause-weight : goal.returns-clause-weight
returns-clause-weight c =
    instance_weighs
    (record {
      after = c.simple_substitutions_compose.ensures;
      tautology = c.tautologies_stay.ensures;
      covered = c.covered_clauses_stay_covered.ensures;
      covers_by = c.clauses_cover_by_their_instances.ensures;
      covers_more = c.covering_composes.ensures.more;
      weighs = c.substitutions_make_nothing_lighter.ensures.clause;
    })
