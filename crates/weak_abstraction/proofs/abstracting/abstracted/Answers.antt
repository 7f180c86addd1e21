use Rattle.std.proofs.Common.{◌≡◌, [], List}
use Rattle.term_base.specs.Clauses.{is_well_sorted}
use Rattle.term_base.specs.Lits.{Lit, lits}
use Rattle.weak_abstraction.specs.Targets.{targets}
use Rattle.weak_abstraction.specs.Abstraction.{IsAbstraction, IsSharing}
use Rattle.weak_abstraction.specs.Abstracted.{abstracted}
use Rattle.weak_abstraction.proofs.Made.{made_abstraction, made_sharing, made_no_target, made_sorted, made_unchanged, of_answer, same_answer}
use Rattle.weak_abstraction.proofs.abstracting.abstracted.Goals as goal

pub returns-clause-abstraction : goal.returns-clause-abstraction
returns-clause-abstraction c =
    let S = c.args.signature.now in
    let ls = lits c.args.c.now in
    of_answer (λ (ds : List Lit). IsAbstraction S ls ds) c.made.result (abstracted S ls) c.made.ensures (made_abstraction S ls)

pub returns-clause-shared : goal.returns-clause-shared
returns-clause-shared c =
    let S = c.args.signature.now in
    let ls = lits c.args.c.now in
    of_answer (λ (ds : List Lit). IsSharing S ls ds) c.made.result (abstracted S ls) c.made.ensures (made_sharing S ls)

pub returns-clause-no_target : goal.returns-clause-no_target
returns-clause-no_target c =
    let S = c.args.signature.now in
    let ls = lits c.args.c.now in
    of_answer (λ (ds : List Lit). targets S ds ≡ []) c.made.result (abstracted S ls) c.made.ensures (made_no_target S ls)

pub returns-clause-unchanged : goal.returns-clause-unchanged
returns-clause-unchanged c =
    let S = c.args.signature.now in
    let ls = lits c.args.c.now in
    λ gone. same_answer c.made.result c.args.c.now (abstracted S ls) c.clause_is_its_literals.ensures c.made.ensures (made_unchanged S ls gone)

pub returns-clause-sorted : goal.returns-clause-sorted
returns-clause-sorted c =
    let S = c.args.signature.now in
    let ls = lits c.args.c.now in
    of_answer (λ (ds : List Lit). is_well_sorted S ds ≡ is_well_sorted S ls) c.made.result (abstracted S ls) c.made.ensures (made_sorted S ls)
