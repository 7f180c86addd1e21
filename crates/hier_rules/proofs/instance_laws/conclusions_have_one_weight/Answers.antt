use Rattle.hier_rules.proofs.InstanceLemmas.{least_weight, one_weight}
use Rattle.hier_rules.proofs.instance_laws.conclusions_have_one_weight.Goals as goal

pub returns-clause-least : goal.returns-clause-least
returns-clause-least c =
    least_weight
    (record {
      after = c.simple_substitutions_compose.ensures;
      tautology = c.tautologies_stay.ensures;
      covered = c.covered_clauses_stay_covered.ensures;
      covers_by = c.clauses_cover_by_their_instances.ensures;
      covers_more = c.covering_composes.ensures.more;
      weighs = c.substitutions_make_nothing_lighter.ensures.clause;
    })

pub returns-clause-one : goal.returns-clause-one
returns-clause-one c =
    one_weight
    (record {
      after = c.simple_substitutions_compose.ensures;
      tautology = c.tautologies_stay.ensures;
      covered = c.covered_clauses_stay_covered.ensures;
      covers_by = c.clauses_cover_by_their_instances.ensures;
      covers_more = c.covering_composes.ensures.more;
      weighs = c.substitutions_make_nothing_lighter.ensures.clause;
    })
