use Rattle.std.proofs.Common.{refl, sym, subst, List, []}
use Rattle.term_base.specs.Lits.{Lit, lits}
use Rattle.term_base.specs.Substitution.{image}
use Rattle.hier_rules.specs.Admitted.{AdmitsFactoring}
use Rattle.hier_rules.proofs.OptionLemmas.{match_some, match_none}
use Rattle.hier_rules.proofs.ResolveLemmas.{factoring_concluded, factoring_refused}
use Rattle.hier_rules.proofs.StableLemmas.{nothing_simple}
use Rattle.hier_rules.proofs.factoring.factoring_by.Goals as goal

pub returns-in-Some-clause-conclusion : goal.returns-in-Some-clause-conclusion
returns-in-Some-clause-conclusion c =
    let S = c.args.signature.now in
    factoring_concluded
    (record { above_stays = c.above_stays.ensures; maximal_before = c.maximal_before.ensures; pure_stays = c.pure_stays_pure.ensures })
    S (lits c.args.c.now) c.args.first c.args.first_side c.args.second c.args.second_side (image c.args.s) (image c.empty.result)
    (nothing_simple S c.empty.result c.empty.ensures) c.requires (lits c.in-Some.clause)
    (subst (λ z. AdmitsFactoring S z c.args.first c.args.first_side c.args.second c.args.second_side (lits c.in-Some.clause)) c.in_ok-instance.ensures
    (match_some c.in_ok-clause.field-0 c.in-Some.clause _
    (λ e. AdmitsFactoring S (lits c.in_ok-instance.instance) c.args.first c.args.first_side c.args.second c.args.second_side (lits e)) c.in-Some.is c.in_ok-clause.ensures))

pub returns-in-None-clause-conclusion : goal.returns-in-None-clause-conclusion
returns-in-None-clause-conclusion c =
    let S = c.args.signature.now in
    factoring_refused
    (record { above_stays = c.above_stays.ensures; maximal_before = c.maximal_before.ensures; pure_stays = c.pure_stays_pure.ensures })
    S (lits c.args.c.now) c.args.first c.args.first_side c.args.second c.args.second_side (image c.args.s) (image []) (nothing_simple S [] refl) c.requires
    (λ k a. match_none c.in_ok-clause.field-0
    ((e : List Lit) → AdmitsFactoring S (lits c.in_ok-instance.instance) c.args.first c.args.first_side c.args.second c.args.second_side e → ⊥)
    (λ e. AdmitsFactoring S (lits c.in_ok-instance.instance) c.args.first c.args.first_side c.args.second c.args.second_side (lits e))
    c.in-None.is c.in_ok-clause.ensures k
    (subst (λ z. AdmitsFactoring S z c.args.first c.args.first_side c.args.second c.args.second_side k) (sym c.in_ok-instance.ensures) a))
