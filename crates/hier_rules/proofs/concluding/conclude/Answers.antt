use Rattle.std.proofs.Common.{◌≡◌, ℕ, true, sym, subst}
use Rattle.term_base.specs.Known.{is_known_clause, KnownImages}
use Rattle.term_base.specs.Lits.{lits, clause_occurs}
use Rattle.term_base.specs.Substitution.{image}
use Rattle.hier_rules.specs.Conclusions.{ChangesNothing, Keeps, KeepsPair, KeepsOthers, KeepsSymbols, KnownPair, NumbersOne, NumbersPair, IsNumbered}
use Rattle.hier_rules.specs.Fires.{FiresBy, Superposes, Resolves, Factors}
use Rattle.hier_rules.proofs.AnswerLemmas.{of_answer, of_both, rule_fires, rule_covers, rule_refuses}
use Rattle.hier_rules.proofs.SymbolLemmas.{one_known}
use Rattle.hier_rules.proofs.concluding.conclude.Goals as goal

pub returns-in-Superpose-clause-fires : goal.returns-in-Superpose-clause-fires
returns-in-Superpose-clause-fires c =
    let S = c.args.signature.now in
    let ls = lits c.args.c.now in
    let ms = lits c.args.d.now in
    rule_fires S ls ms c.args.candidate.now (Superposes S ls ms c.in-Superpose.literal c.in-Superpose.side c.in-Superpose.place)
    (λ s1 s2 k h. subst (λ z. FiresBy S ls ms z s1 s2 k) (sym c.in-Superpose.is) h)
    (λ s1 s2 k h. subst (λ z. FiresBy S ls ms z s1 s2 k) c.in-Superpose.is h)
    c.superposition.result c.superposition.ensures.conclusion

pub returns-in-Superpose-clause-covers : goal.returns-in-Superpose-clause-covers
returns-in-Superpose-clause-covers c =
    let S = c.args.signature.now in
    let ls = lits c.args.c.now in
    let ms = lits c.args.d.now in
    rule_covers S ls ms c.args.candidate.now (Superposes S ls ms c.in-Superpose.literal c.in-Superpose.side c.in-Superpose.place)
    (λ s1 s2 k h. subst (λ z. FiresBy S ls ms z s1 s2 k) (sym c.in-Superpose.is) h)
    (λ s1 s2 k h. subst (λ z. FiresBy S ls ms z s1 s2 k) c.in-Superpose.is h)
    c.superposition.result c.superposition.ensures.conclusion

pub returns-in-Superpose-clause-none : goal.returns-in-Superpose-clause-none
returns-in-Superpose-clause-none c =
    let S = c.args.signature.now in
    let ls = lits c.args.c.now in
    let ms = lits c.args.d.now in
    rule_refuses S ls ms c.args.candidate.now (Superposes S ls ms c.in-Superpose.literal c.in-Superpose.side c.in-Superpose.place)
    (λ s1 s2 k h. subst (λ z. FiresBy S ls ms z s1 s2 k) (sym c.in-Superpose.is) h)
    (λ s1 s2 k h. subst (λ z. FiresBy S ls ms z s1 s2 k) c.in-Superpose.is h)
    c.superposition.result c.superposition.ensures.conclusion

pub returns-in-Resolve-clause-fires : goal.returns-in-Resolve-clause-fires
returns-in-Resolve-clause-fires c =
    let S = c.args.signature.now in
    let ls = lits c.args.c.now in
    let ms = lits c.args.d.now in
    rule_fires S ls ms c.args.candidate.now (λ s1 s2 k. Resolves S ls c.in-Resolve.literal s1 k)
    (λ s1 s2 k h. subst (λ z. FiresBy S ls ms z s1 s2 k) (sym c.in-Resolve.is) h)
    (λ s1 s2 k h. subst (λ z. FiresBy S ls ms z s1 s2 k) c.in-Resolve.is h)
    c.resolution.result c.resolution.ensures.conclusion

pub returns-in-Resolve-clause-covers : goal.returns-in-Resolve-clause-covers
returns-in-Resolve-clause-covers c =
    let S = c.args.signature.now in
    let ls = lits c.args.c.now in
    let ms = lits c.args.d.now in
    rule_covers S ls ms c.args.candidate.now (λ s1 s2 k. Resolves S ls c.in-Resolve.literal s1 k)
    (λ s1 s2 k h. subst (λ z. FiresBy S ls ms z s1 s2 k) (sym c.in-Resolve.is) h)
    (λ s1 s2 k h. subst (λ z. FiresBy S ls ms z s1 s2 k) c.in-Resolve.is h)
    c.resolution.result c.resolution.ensures.conclusion

pub returns-in-Resolve-clause-none : goal.returns-in-Resolve-clause-none
returns-in-Resolve-clause-none c =
    let S = c.args.signature.now in
    let ls = lits c.args.c.now in
    let ms = lits c.args.d.now in
    rule_refuses S ls ms c.args.candidate.now (λ s1 s2 k. Resolves S ls c.in-Resolve.literal s1 k)
    (λ s1 s2 k h. subst (λ z. FiresBy S ls ms z s1 s2 k) (sym c.in-Resolve.is) h)
    (λ s1 s2 k h. subst (λ z. FiresBy S ls ms z s1 s2 k) c.in-Resolve.is h)
    c.resolution.result c.resolution.ensures.conclusion

pub returns-in-Factor-clause-fires : goal.returns-in-Factor-clause-fires
returns-in-Factor-clause-fires c =
    let S = c.args.signature.now in
    let ls = lits c.args.c.now in
    let ms = lits c.args.d.now in
    rule_fires S ls ms c.args.candidate.now (λ s1 s2 k. Factors S ls c.in-Factor.first c.in-Factor.first_side c.in-Factor.second c.in-Factor.second_side s1 k)
    (λ s1 s2 k h. subst (λ z. FiresBy S ls ms z s1 s2 k) (sym c.in-Factor.is) h)
    (λ s1 s2 k h. subst (λ z. FiresBy S ls ms z s1 s2 k) c.in-Factor.is h)
    c.factoring.result c.factoring.ensures.conclusion

pub returns-in-Factor-clause-covers : goal.returns-in-Factor-clause-covers
returns-in-Factor-clause-covers c =
    let S = c.args.signature.now in
    let ls = lits c.args.c.now in
    let ms = lits c.args.d.now in
    rule_covers S ls ms c.args.candidate.now (λ s1 s2 k. Factors S ls c.in-Factor.first c.in-Factor.first_side c.in-Factor.second c.in-Factor.second_side s1 k)
    (λ s1 s2 k h. subst (λ z. FiresBy S ls ms z s1 s2 k) (sym c.in-Factor.is) h)
    (λ s1 s2 k h. subst (λ z. FiresBy S ls ms z s1 s2 k) c.in-Factor.is h)
    c.factoring.result c.factoring.ensures.conclusion

pub returns-in-Factor-clause-none : goal.returns-in-Factor-clause-none
returns-in-Factor-clause-none c =
    let S = c.args.signature.now in
    let ls = lits c.args.c.now in
    let ms = lits c.args.d.now in
    rule_refuses S ls ms c.args.candidate.now (λ s1 s2 k. Factors S ls c.in-Factor.first c.in-Factor.first_side c.in-Factor.second c.in-Factor.second_side s1 k)
    (λ s1 s2 k h. subst (λ z. FiresBy S ls ms z s1 s2 k) (sym c.in-Factor.is) h)
    (λ s1 s2 k h. subst (λ z. FiresBy S ls ms z s1 s2 k) c.in-Factor.is h)
    c.factoring.result c.factoring.ensures.conclusion

pub returns-in-Superpose-clause-numbered : goal.returns-in-Superpose-clause-numbered
returns-in-Superpose-clause-numbered c =
    let ls = lits c.args.c.now in
    let ms = lits c.args.d.now in
    of_answer c.superposition.result (λ f. NumbersPair ls ms (image f.s1) (image f.s2)) (λ f. IsNumbered ls ms c.args.candidate.now (image f.s1) (image f.s2))
    (λ f n. subst (λ z. IsNumbered ls ms z (image f.s1) (image f.s2)) (sym c.in-Superpose.is) n) c.superposition.ensures.numbered

pub returns-in-Resolve-clause-numbered : goal.returns-in-Resolve-clause-numbered
returns-in-Resolve-clause-numbered c =
    let ls = lits c.args.c.now in
    let ms = lits c.args.d.now in
    of_answer c.resolution.result (λ f. NumbersOne ls (image f.s1)) (λ f. IsNumbered ls ms c.args.candidate.now (image f.s1) (image f.s2))
    (λ f n. subst (λ z. IsNumbered ls ms z (image f.s1) (image f.s2)) (sym c.in-Resolve.is) n) c.resolution.ensures.numbered

pub returns-in-Factor-clause-numbered : goal.returns-in-Factor-clause-numbered
returns-in-Factor-clause-numbered c =
    let ls = lits c.args.c.now in
    let ms = lits c.args.d.now in
    of_answer c.factoring.result (λ f. NumbersOne ls (image f.s1)) (λ f. IsNumbered ls ms c.args.candidate.now (image f.s1) (image f.s2))
    (λ f n. subst (λ z. IsNumbered ls ms z (image f.s1) (image f.s2)) (sym c.in-Factor.is) n) c.factoring.ensures.numbered

pub returns-in-Superpose-clause-others : goal.returns-in-Superpose-clause-others
returns-in-Superpose-clause-others c =
    let ls = lits c.args.c.now in
    let ms = lits c.args.d.now in
    of_answer c.superposition.result (λ f. KeepsPair ls ms (image f.s1) (image f.s2)) (λ f. KeepsOthers ls ms c.args.candidate.now (image f.s1) (image f.s2))
    (λ f h. subst (λ z. KeepsOthers ls ms z (image f.s1) (image f.s2)) (sym c.in-Superpose.is) h) c.superposition.ensures.others

pub returns-in-Resolve-clause-others : goal.returns-in-Resolve-clause-others
returns-in-Resolve-clause-others c =
    let ls = lits c.args.c.now in
    let ms = lits c.args.d.now in
    of_both c.resolution.result (λ f. Keeps (λ v. clause_occurs v ls) (image f.s1)) (λ f. ChangesNothing (image f.s2))
    (λ f. KeepsOthers ls ms c.args.candidate.now (image f.s1) (image f.s2))
    (λ f h k. subst (λ z. KeepsOthers ls ms z (image f.s1) (image f.s2)) (sym c.in-Resolve.is) (h, k)) c.resolution.ensures.others c.resolution.ensures.second

pub returns-in-Factor-clause-others : goal.returns-in-Factor-clause-others
returns-in-Factor-clause-others c =
    let ls = lits c.args.c.now in
    let ms = lits c.args.d.now in
    of_both c.factoring.result (λ f. Keeps (λ v. clause_occurs v ls) (image f.s1)) (λ f. ChangesNothing (image f.s2))
    (λ f. KeepsOthers ls ms c.args.candidate.now (image f.s1) (image f.s2))
    (λ f h k. subst (λ z. KeepsOthers ls ms z (image f.s1) (image f.s2)) (sym c.in-Factor.is) (h, k)) c.factoring.ensures.others c.factoring.ensures.second

pub returns-in-Superpose-clause-known : goal.returns-in-Superpose-clause-known
returns-in-Superpose-clause-known c =
    let ls = lits c.args.c.now in
    let ms = lits c.args.d.now in
    of_answer c.superposition.result (λ f. KnownPair ls ms (image f.s1) (image f.s2)) (λ f. KeepsSymbols ls ms c.args.candidate.now (image f.s1) (image f.s2))
    (λ f h. subst (λ z. KeepsSymbols ls ms z (image f.s1) (image f.s2)) (sym c.in-Superpose.is) h) c.superposition.ensures.known

pub returns-in-Resolve-clause-known : goal.returns-in-Resolve-clause-known
returns-in-Resolve-clause-known c =
    let ls = lits c.args.c.now in
    let ms = lits c.args.d.now in
    of_both c.resolution.result (λ f. (n : ℕ) → is_known_clause n ls ≡ true → KnownImages n (image f.s1)) (λ f. ChangesNothing (image f.s2))
    (λ f. KeepsSymbols ls ms c.args.candidate.now (image f.s1) (image f.s2))
    (λ f h k. subst (λ z. KeepsSymbols ls ms z (image f.s1) (image f.s2)) (sym c.in-Resolve.is) (one_known ls (image f.s1) (image f.s2) h k)) c.resolution.ensures.known c.resolution.ensures.second

pub returns-in-Factor-clause-known : goal.returns-in-Factor-clause-known
returns-in-Factor-clause-known c =
    let ls = lits c.args.c.now in
    let ms = lits c.args.d.now in
    of_both c.factoring.result (λ f. (n : ℕ) → is_known_clause n ls ≡ true → KnownImages n (image f.s1)) (λ f. ChangesNothing (image f.s2))
    (λ f. KeepsSymbols ls ms c.args.candidate.now (image f.s1) (image f.s2))
    (λ f h k. subst (λ z. KeepsSymbols ls ms z (image f.s1) (image f.s2)) (sym c.in-Factor.is) (one_known ls (image f.s1) (image f.s2) h k)) c.factoring.ensures.known c.factoring.ensures.second

pub returns-in-Define-clause-none : goal.returns-in-Define-clause-none
returns-in-Define-clause-none c r1 r2 e f = subst (λ z. FiresBy c.args.signature.now (lits c.args.c.now) (lits c.args.d.now) z r1 r2 e) c.in-Define.is f.by_rule
