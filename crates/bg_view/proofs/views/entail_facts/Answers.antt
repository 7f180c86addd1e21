use Rattle.std.proofs.Common.{◌≡◌, ◌∙◌, ap, sym, subst, arith, ◌++◌, [], ◌∷◌, length, None}
use Rattle.std.proofs.lemmas.Grind.{common_steps}
use Rattle.bg_view.specs.Numbers.{numbering_of}
use Rattle.bg_view.specs.View.{wide_at, IsErrorAt, clauses_steps, clauses_facts, negated_steps_of, negated_facts}
use Rattle.bg_view.proofs.Clauses.{Forms-err, error_before, first_wide_at-last, clauses_steps-length}
use Rattle.bg_view.proofs.views.entail_facts.Goals as goal

pub returns-in_err-pool : goal.returns-in_err-pool
returns-in_err-pool c =
    let symbols = c.args.unknowns.now.symbols.now in
    let params = c.args.params in
    let cs = c.args.clauses.now in
    let ls = c.args.target.now.literals in
    let n = numbering_of c.args.unknowns.now in
    let e = c.in_err-pool.field-0.0 in
    Forms-err _ e (clauses_steps symbols params cs ++ negated_steps_of n ls ∷ []) (clauses_facts symbols params cs ++ negated_facts n ls)
    (grind (arith, common_steps)) (error_before e (clauses_steps symbols params cs) (negated_steps_of n ls ∷ []) c.in_err-pool.ensures.1)

pub returns-in_err-units : goal.returns-in_err-units
returns-in_err-units c =
    let symbols = c.args.unknowns.now.symbols.now in
    let params = c.args.params in
    let cs = c.args.clauses.now in
    let ls = c.args.target.now.literals in
    let n = numbering_of c.args.unknowns.now in
    let e = c.in_err-units.field-0.0 in
    let count : c.in_ok-number.number ≡ length cs = grind (arith, common_steps) in
    let last = first_wide_at-last c.in_ok-number.number (clauses_steps symbols params cs) (negated_steps_of n ls) (count ∙ sym (clauses_steps-length symbols params cs)) c.in_ok-pool.ensures.0.0 in
    Forms-err _ e (clauses_steps symbols params cs ++ negated_steps_of n ls ∷ []) (clauses_facts symbols params cs ++ negated_facts n ls)
    (grind (arith, common_steps)) (subst (IsErrorAt e) (sym last) c.in_err-units.ensures.1)

pub returns : goal.returns
returns c =
    let symbols = c.args.unknowns.now.symbols.now in
    let params = c.args.params in
    let cs = c.args.clauses.now in
    let ls = c.args.target.now.literals in
    let n = numbering_of c.args.unknowns.now in
    let count : c.in_ok-number.number ≡ length cs = grind (arith, common_steps) in
    let last = first_wide_at-last c.in_ok-number.number (clauses_steps symbols params cs) (negated_steps_of n ls) (count ∙ sym (clauses_steps-length symbols params cs)) c.in_ok-pool.ensures.0.0 in (
      (
        last ∙ ap (λ o. wide_at c.in_ok-number.number o None) c.in_ok-units.ensures.0.0,
        c.in_ok-append.ensures ∙ ap (λ z. z ++ c.in_ok-units.units) c.in_ok-pool.ensures.0.1 ∙ ap (λ z. clauses_facts symbols params cs ++ z) c.in_ok-units.ensures.0.1,
      ),
      tt,
    )
