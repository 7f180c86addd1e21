use Rattle.std.proofs.Common.{◌≡◌, ◌∷◌, ◌++◌, [], Err, Some, sym, ap, refl, ◌∙◌, append-nil, rules}
use Rattle.std.specs.Option.{option_or}
use Rattle.tff_reader.proofs.FileLemmas.{or_none}
use Rattle.tff_reader.proofs.reader.Formulas.add.Goals as goal

pub returns-in-Declaration : goal.returns-in-Declaration
returns-in-Declaration c =
    rw c.in-Declaration.is (refl, record { premises = sym (append-nil c.args.self.now.premises); conjecture = sym (or_none c.args.self.now.conjecture) })

pub returns-in_err-premise-in-Premise : goal.returns-in_err-premise-in-Premise
returns-in_err-premise-in-Premise c =
    let e = c.in_err-premise-in-Premise.field-0.0 in
    let r : c.from_residual.result ≡ Err e = search rules in
    rw (r, c.in-Premise.is) c.in_err-premise-in-Premise.ensures

pub returns-in_ok-push-in-Premise : goal.returns-in_ok-push-in-Premise
returns-in_ok-push-in-Premise c =
    let read = c.in_ok-premise-in-Premise.ensures in
    let old = c.args.self.now in
    rw c.in-Premise.is (read.0, record { premises = c.in_ok-push-in-Premise.ensures.ok ∙ ap (λ f. old.premises ++ f ∷ []) read.1; conjecture = sym (or_none old.conjecture) })

pub returns-in_err-conjecture-in-Conjecture : goal.returns-in_err-conjecture-in-Conjecture
returns-in_err-conjecture-in-Conjecture c =
    let e = c.in_err-conjecture-in-Conjecture.field-0.0 in
    let r : c.from_residual-in_err-conjecture-in-Conjecture.result ≡ Err e = search rules in
    rw (r, c.in-Conjecture.is) c.in_err-conjecture-in-Conjecture.ensures

pub returns-in_ok-conjecture-in-Conjecture : goal.returns-in_ok-conjecture-in-Conjecture
returns-in_ok-conjecture-in-Conjecture c =
    let read = c.in_ok-conjecture-in-Conjecture.ensures in
    let old = c.args.self.now in
    rw c.in-Conjecture.is (
      read.0,
      record {
        premises = c.add_conjecture.ensures.premises ∙ sym (append-nil old.premises);
        conjecture = c.add_conjecture.ensures.conjecture ∙ ap (λ f. option_or old.conjecture (Some f)) read.1;
      },
    )
