use Rattle.hier_rules.proofs.SortLemmas.{fires_sorted}
use Rattle.hier_rules.proofs.laws.conclusions_are_well_sorted.Goals as goal

pub returns : goal.returns
returns c S ps qs candidate s1 s2 k p q f =
    fires_sorted S (record {
      clauses_stay = c.clauses_stay_well_sorted.ensures;
      places_stay = c.places_stay.ensures;
      replacing_keeps = c.replacing_keeps_sorts.ensures;
    }) ps qs candidate s1 s2 k p q f
