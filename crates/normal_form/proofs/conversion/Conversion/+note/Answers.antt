use Rattle.std.proofs.Common.{◌≡◌, ◌++◌, false, length, rules, sym, ◌∙◌}
use Rattle.std.proofs.lemmas.List.{append-nil}
use Rattle.formula_base.specs.declared.formulas.Formula.TheVariants.{Implies, Iff}
use Rattle.normal_form.proofs.Quantifiers.{is_quantified}
use Rattle.normal_form.specs.Cnf.{cnf}
use Rattle.normal_form.proofs.Silent.{silent}
use Rattle.normal_form.proofs.Measures.{told_quantified}
use Rattle.normal_form.proofs.Folds.{implies_symbols, iff_symbols}
use Rattle.normal_form.proofs.Steps.{on_ok}
use Rattle.normal_form.proofs.conversion.Conversion.+note.Goals as goal

pub note-returns-then-not-measured-clause-symbols : goal.note-returns-then-not-measured-clause-symbols
note-returns-then-not-measured-clause-symbols t c =
    let h : is_quantified c.args.formula.now ≡ false = sym (told_quantified c.args.formula.now c.args.measured.now c.requires) ∙ c.if-not-measured.true in
    rw (silent c.args.formula.now h c.args.sign c.args.self.now.scope (length c.args.self.now.symbols)) (sym (append-nil c.args.self.now.symbols))

pub note-returns-in_ok-note-in-Implies-clause-symbols : goal.note-returns-in_ok-note-in-Implies-clause-symbols
note-returns-in_ok-note-in-Implies-clause-symbols t c =
    let f = c.get-in-Implies.result.now in
    let g = c.get-in-Implies-2.result.now in
    let s = c.args.self.now in
    let a = c.note-in-Implies.new.self in
    let b = c.note-in-Implies-2.new.self in
    let whole : c.args.formula.now ≡ Implies f g = first_of (cc, search rules) in
    on_ok c.note-in-Implies-2.result (b.symbols ≡ a.symbols ++ (cnf g c.args.sign a.scope (length a.symbols)).symbols) (b.symbols ≡ s.symbols ++ (cnf c.args.formula.now c.args.sign s.scope (length s.symbols)).symbols)
    (λ q. implies_symbols c.args.formula.now f g whole c.args.sign s.scope a.scope c.in_ok-note-in-Implies.ensures.scope s.symbols a.symbols b.symbols c.in_ok-note-in-Implies.ensures.symbols q)
    c.note-in-Implies-2.ensures.symbols

pub note-returns-in_ok-note-in-Iff-3-clause-symbols : goal.note-returns-in_ok-note-in-Iff-3-clause-symbols
note-returns-in_ok-note-in-Iff-3-clause-symbols t c =
    let f = c.get-f.result.now in
    let g = c.get-g.result.now in
    let s = c.args.self.now in
    let a = c.note-in-Iff.new.self in
    let b = c.note-in-Iff-2.new.self in
    let x = c.note-in-Iff-3.new.self in
    let y = c.note-in-Iff-4.new.self in
    let whole : c.args.formula.now ≡ Iff f g = first_of (cc, search rules) in
    on_ok c.note-in-Iff-4.result (y.symbols ≡ x.symbols ++ (cnf f c.args.sign x.scope (length x.symbols)).symbols) (y.symbols ≡ s.symbols ++ (cnf c.args.formula.now c.args.sign s.scope (length s.symbols)).symbols)
    (λ q. iff_symbols c.args.formula.now f g whole c.args.sign s.scope a.scope b.scope x.scope
    c.in_ok-note-in-Iff.ensures.scope c.in_ok-note-in-Iff-2.ensures.scope c.in_ok-note-in-Iff-3.ensures.scope s.symbols a.symbols b.symbols x.symbols y.symbols
    c.in_ok-note-in-Iff.ensures.symbols c.in_ok-note-in-Iff-2.ensures.symbols c.in_ok-note-in-Iff-3.ensures.symbols q)
    c.note-in-Iff-4.ensures.symbols
