use Rattle.std.proofs.Common.{sym, subst, List}
use Rattle.term_base.specs.Lits.{Lit, lits, put_clause}
use Rattle.term_base.specs.Substitution.{image}
use Rattle.hier_rules.specs.Admitted.{AdmitsSuperposition}
use Rattle.hier_rules.proofs.OptionLemmas.{match_some, match_none}
use Rattle.hier_rules.proofs.SuperposeLemmas.{superposition_concluded, superposition_refused}
use Rattle.hier_rules.proofs.superposing.superposition_by.Goals as goal

pub returns-in-Some-clause-conclusion : goal.returns-in-Some-clause-conclusion
returns-in-Some-clause-conclusion c =
    let S = c.args.signature.now in
    let n = c.args.literal in
    let side = c.args.side in
    let place = c.args.place.now in
    let k = lits c.in-Some.clause in
    superposition_concluded
    (record { above_stays = c.above_stays.ensures; maximal_before = c.maximal_before.ensures; pure_stays = c.pure_stays_pure.ensures })
    (record { places_stay = c.places_stay.ensures; replacing_commutes = c.replacing_commutes.ensures })
    S (lits c.args.c.now) (lits c.args.d.now) n side place (image c.args.s1) (image c.args.s2) c.requires k
    (subst (λ z. AdmitsSuperposition S z (put_clause (image c.args.s2) (lits c.args.d.now)) n side place k) c.in_ok-first.ensures
    (subst (λ z. AdmitsSuperposition S (lits c.in_ok-first.first) z n side place k) c.in_ok-second.ensures
    (match_some c.in_ok-clause.field-0 c.in-Some.clause _ (λ e. AdmitsSuperposition S (lits c.in_ok-first.first) (lits c.in_ok-second.second) n side place (lits e))
    c.in-Some.is c.in_ok-clause.ensures)))

pub returns-in-None-clause-conclusion : goal.returns-in-None-clause-conclusion
returns-in-None-clause-conclusion c =
    let S = c.args.signature.now in
    let n = c.args.literal in
    let side = c.args.side in
    let place = c.args.place.now in
    superposition_refused
    (record { above_stays = c.above_stays.ensures; maximal_before = c.maximal_before.ensures; pure_stays = c.pure_stays_pure.ensures })
    (record { places_stay = c.places_stay.ensures; replacing_commutes = c.replacing_commutes.ensures })
    S (lits c.args.c.now) (lits c.args.d.now) n side place (image c.args.s1) (image c.args.s2) c.requires
    (λ k a. match_none c.in_ok-clause.field-0
    ((e : List Lit) → AdmitsSuperposition S (lits c.in_ok-first.first) (lits c.in_ok-second.second) n side place e → ⊥)
    (λ e. AdmitsSuperposition S (lits c.in_ok-first.first) (lits c.in_ok-second.second) n side place (lits e))
    c.in-None.is c.in_ok-clause.ensures k
    (subst (λ z. AdmitsSuperposition S z (lits c.in_ok-second.second) n side place k) (sym c.in_ok-first.ensures)
    (subst (λ z. AdmitsSuperposition S (put_clause (image c.args.s1) (lits c.args.c.now)) z n side place k) (sym c.in_ok-second.ensures) a)))
