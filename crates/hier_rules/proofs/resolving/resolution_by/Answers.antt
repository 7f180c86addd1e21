use Rattle.std.proofs.Common.{refl, sym, subst, List, []}
use Rattle.term_base.specs.Lits.{Lit, lits}
use Rattle.term_base.specs.Substitution.{image}
use Rattle.hier_rules.specs.Admitted.{AdmitsResolution}
use Rattle.hier_rules.proofs.OptionLemmas.{match_some, match_none}
use Rattle.hier_rules.proofs.ResolveLemmas.{resolution_concluded, resolution_refused}
use Rattle.hier_rules.proofs.StableLemmas.{nothing_simple}
use Rattle.hier_rules.proofs.resolving.resolution_by.Goals as goal

pub returns-in-Some-clause-conclusion : goal.returns-in-Some-clause-conclusion
returns-in-Some-clause-conclusion c =
    let S = c.args.signature.now in
    let n = c.args.literal in
    resolution_concluded
    (record { above_stays = c.above_stays.ensures; maximal_before = c.maximal_before.ensures; pure_stays = c.pure_stays_pure.ensures })
    S (lits c.args.c.now) n (image c.args.s) (image c.empty.result) (nothing_simple S c.empty.result c.empty.ensures) c.requires (lits c.in-Some.clause)
    (subst (λ z. AdmitsResolution S z n (lits c.in-Some.clause)) c.in_ok-instance.ensures
    (match_some c.resolved.result c.in-Some.clause _ (λ e. AdmitsResolution S (lits c.in_ok-instance.instance) n (lits e)) c.in-Some.is c.resolved.ensures))

pub returns-in-None-clause-conclusion : goal.returns-in-None-clause-conclusion
returns-in-None-clause-conclusion c =
    let S = c.args.signature.now in
    let n = c.args.literal in
    resolution_refused
    (record { above_stays = c.above_stays.ensures; maximal_before = c.maximal_before.ensures; pure_stays = c.pure_stays_pure.ensures })
    S (lits c.args.c.now) n (image c.args.s) (image []) (nothing_simple S [] refl) c.requires
    (λ k a. match_none c.resolved.result
    ((e : List Lit) → AdmitsResolution S (lits c.in_ok-instance.instance) n e → ⊥)
    (λ e. AdmitsResolution S (lits c.in_ok-instance.instance) n (lits e))
    c.in-None.is c.resolved.ensures k
    (subst (λ z. AdmitsResolution S z n k) (sym c.in_ok-instance.ensures) a))
