use Rattle.std.proofs.Common.{◌≡◌, ◌++◌, [], true, not, length, rules, ◌∙◌, arith}
use Rattle.std.proofs.lemmas.Grind.{common_steps}
use Rattle.formula_base.specs.declared.formulas.Formula.TheVariants.{Implies, Iff}
use Rattle.normal_form.specs.Cnf.{cnf}
use Rattle.normal_form.proofs.Counted.{no_clauses}
use Rattle.normal_form.specs.Measures.{measures, counts}
use Rattle.normal_form.proofs.Measures.{counts_plus, counts_minus, left_part, right_part}
use Rattle.normal_form.proofs.Folds.{implies_symbols, implies_clauses, iff_symbols, iff_clauses, formula_zero, implied_zero, always_ok, if_ok, unwanted, emptied, kept_all}
use Rattle.normal_form.proofs.Steps.{put_together, kept}
use Rattle.normal_form.proofs.conversion.Conversion.+visit.Goals as goal
use Rattle.normal_form.proofs.conversion.Conversion.+visit.Goals.{visit-then-not-wanted-via-then-not-wanted, visit-then-not-wanted-via-else-not-wanted+then-of-eq0}

pub visit-returns-then-not-wanted-clause-clauses : goal.visit-returns-then-not-wanted-clause-clauses
visit-returns-then-not-wanted-clause-clauses t c =
    let f = c.args.formula.now in
    let s = c.args.self.now in
    let xs = (cnf f c.args.sign s.scope (length s.symbols)).clauses in
    let rest : [] ≡ kept c.args.wanted xs = elim c.then-not-wanted.branch [
      | visit-then-not-wanted-via-then-not-wanted w ↦ unwanted c.args.wanted xs (first_of (cc, search rules, grind (arith, common_steps)))
      | visit-then-not-wanted-via-else-not-wanted+then-of-eq0 w ↦ emptied c.args.wanted xs (no_clauses f c.args.sign s.scope (length s.symbols)
          (formula_zero f c.args.sign w.of.result (counts c.args.measured.now).plus (counts c.args.measured.now).minus (counts_plus f c.args.measured.now c.requires) (counts_minus f c.args.measured.now c.requires) w.of.ensures w.if-of-eq0.true))
    ] in
    c.new.ensures.items ∙ rest

pub visit-returns-in_ok-right-in-Implies-clause-clauses : goal.visit-returns-in_ok-right-in-Implies-clause-clauses
visit-returns-in_ok-right-in-Implies-clause-clauses t c =
    let f = c.get-in-Implies.result.now in
    let g = c.get-in-Implies-2.result.now in
    let s = c.args.self.now in
    let a = c.visit-in-Implies.new.self in
    let left = c.in_ok-left-in-Implies in
    let right = c.in_ok-right-in-Implies in
    let whole : c.args.formula.now ≡ Implies f g = first_of (cc, search rules) in
    let yes : c.args.wanted ≡ true = first_of (cc, search rules, grind (arith, common_steps)) in
    let all = (cnf c.args.formula.now c.args.sign s.scope (length s.symbols)).clauses in
    if_ok c.disjoined.result (λ cs. cs.items ≡ put_together c.args.sign left.left.items right.right.items) (λ cs. cs.items ≡ kept c.args.wanted all)
    (λ cs h. implies_clauses c.args.formula.now f g whole c.args.sign s.scope a.scope left.ensures.scope s.symbols a.symbols left.ensures.symbols left.left.items right.right.items cs.items left.ensures.clauses right.ensures.clauses h
    ∙ kept_all c.args.wanted all yes)
    c.disjoined.ensures

pub visit-returns-in_ok-right-in-Implies-clause-symbols : goal.visit-returns-in_ok-right-in-Implies-clause-symbols
visit-returns-in_ok-right-in-Implies-clause-symbols t c =
    let f = c.get-in-Implies.result.now in
    let g = c.get-in-Implies-2.result.now in
    let s = c.args.self.now in
    let a = c.visit-in-Implies.new.self in
    let b = c.visit-in-Implies-2.new.self in
    let whole : c.args.formula.now ≡ Implies f g = first_of (cc, search rules) in
    always_ok c.disjoined.result (b.symbols ≡ s.symbols ++ (cnf c.args.formula.now c.args.sign s.scope (length s.symbols)).symbols)
    (implies_symbols c.args.formula.now f g whole c.args.sign s.scope a.scope c.in_ok-left-in-Implies.ensures.scope s.symbols a.symbols b.symbols c.in_ok-left-in-Implies.ensures.symbols c.in_ok-right-in-Implies.ensures.symbols)

pub visit-returns-in_ok-second-in-Iff-clause-clauses : goal.visit-returns-in_ok-second-in-Iff-clause-clauses
visit-returns-in_ok-second-in-Iff-clause-clauses t c =
    let f = c.get-f.result.now in
    let g = c.get-g.result.now in
    let m = c.index-parts-0-in-Iff.result in
    let n = c.index-parts-1-in-Iff.result in
    let s = c.args.self.now in
    let a = c.visit-in-Iff.new.self in
    let b = c.visit-in-Iff-2.new.self in
    let x = c.visit-in-Iff-3.new.self in
    let one = c.in_ok-left-in-Iff in
    let two = c.in_ok-right-in-Iff in
    let three = c.in_ok-left-in-Iff-2 in
    let four = c.in_ok-right-in-Iff-2 in
    let whole : c.args.formula.now ≡ Iff f g = first_of (cc, search rules) in
    let ps = c.as_slice-parts.result.now in
    let at_f : m ≡ measures f = left_part c.args.formula.now c.args.measured.now c.requires f g whole ps c.as_slice-parts.ensures m c.index-parts-0-in-Iff.is in
    let at_g : n ≡ measures g = right_part c.args.formula.now c.args.measured.now c.requires f g whole ps c.as_slice-parts.ensures n c.index-parts-1-in-Iff.is in
    let yes : c.args.wanted ≡ true = first_of (cc, search rules, grind (arith, common_steps)) in
    let all = (cnf c.args.formula.now c.args.sign s.scope (length s.symbols)).clauses in
    if_ok c.disjoined-in-Iff-3.result (λ cs. cs.items ≡ put_together (not c.args.sign) c.in_ok-first-in-Iff.first.items c.in_ok-second-in-Iff.second.items) (λ cs. cs.items ≡ kept c.args.wanted all)
    (λ cs h. iff_clauses c.args.formula.now f g whole c.args.sign s.scope a.scope b.scope x.scope one.ensures.scope two.ensures.scope three.ensures.scope
    s.symbols a.symbols b.symbols x.symbols one.ensures.symbols two.ensures.symbols three.ensures.symbols c.may_give_clauses-there.result c.may_give_clauses-back.result
    (λ z. implied_zero f g m n at_f at_g c.args.sign (c.may_give_clauses-there.ensures z))
    (λ z. implied_zero g f n m at_g at_f c.args.sign (c.may_give_clauses-back.ensures z))
    one.left.items two.right.items c.in_ok-first-in-Iff.first.items three.left.items four.right.items c.in_ok-second-in-Iff.second.items cs.items
    one.ensures.clauses two.ensures.clauses c.in_ok-first-in-Iff.ensures three.ensures.clauses four.ensures.clauses c.in_ok-second-in-Iff.ensures h
    ∙ kept_all c.args.wanted all yes)
    c.disjoined-in-Iff-3.ensures

pub visit-returns-in_ok-second-in-Iff-clause-symbols : goal.visit-returns-in_ok-second-in-Iff-clause-symbols
visit-returns-in_ok-second-in-Iff-clause-symbols t c =
    let f = c.get-f.result.now in
    let g = c.get-g.result.now in
    let s = c.args.self.now in
    let a = c.visit-in-Iff.new.self in
    let b = c.visit-in-Iff-2.new.self in
    let x = c.visit-in-Iff-3.new.self in
    let y = c.visit-in-Iff-4.new.self in
    let whole : c.args.formula.now ≡ Iff f g = first_of (cc, search rules) in
    always_ok c.disjoined-in-Iff-3.result (y.symbols ≡ s.symbols ++ (cnf c.args.formula.now c.args.sign s.scope (length s.symbols)).symbols)
    (iff_symbols c.args.formula.now f g whole c.args.sign s.scope a.scope b.scope x.scope
    c.in_ok-left-in-Iff.ensures.scope c.in_ok-right-in-Iff.ensures.scope c.in_ok-left-in-Iff-2.ensures.scope s.symbols a.symbols b.symbols x.symbols y.symbols
    c.in_ok-left-in-Iff.ensures.symbols c.in_ok-right-in-Iff.ensures.symbols c.in_ok-left-in-Iff-2.ensures.symbols c.in_ok-right-in-Iff-2.ensures.symbols)
