use Rattle.std.proofs.Common.{◌≡◌, ◌∙◌, [], List, length, Err, sym, ap, subst, rules}
use Rattle.tff_grammar.specs.declared.trees.Statement.{Statement}
use Rattle.tff_signature.specs.Declarations.{phase_2}
use Rattle.tff_signature.specs.Symbols.{Signature}
use Rattle.tff_reader.specs.Stops.{Stops}
use Rattle.tff_reader.specs.NumberTerms.{phase_4}
use Rattle.tff_reader.specs.Meaning.{typing_faults, phase_3, premises_of, conjectures_of, first}
use Rattle.tff_reader.proofs.ReaderLemmas.{stops_typing, stops_products, no_faults, same_signature, same_parts}
use Rattle.tff_reader.proofs.reader.problem.Goals as goal

pub returns-in_err-formulas : goal.returns-in_err-formulas
returns-in_err-formulas c =
    let text = c.args.text.now in
    let ss : List Statement = c.args.statements in
    let e = c.in_err-formulas.field-0.0 in
    let r : c.from_residual-in_err-formulas.result ≡ Err e = search (rules, c.from_residual-in_err-formulas.ensures) in
    let tables = rw c.as_slice.ensures at c.in_ok-sorts.ensures in
    let same = same_signature text ss c.in_ok-sorts.sorts c.in_ok-sorts.signature.symbols tables.1.0 tables.1.2 in
    rw r (stops_typing e (phase_2 text ss) (phase_3 text ss) (phase_4 ss) tables.0 (subst (λ (s : Signature). Stops e (typing_faults text s ss)) same c.in_err-formulas.ensures))

pub returns-in_err-products : goal.returns-in_err-products
returns-in_err-products c =
    let text = c.args.text.now in
    let ss : List Statement = c.args.statements in
    let e = c.in_err-products.field-0.0 in
    let r : c.from_residual-in_err-products.result ≡ Err e = search (rules, c.from_residual-in_err-products.ensures) in
    let tables = rw c.as_slice.ensures at c.in_ok-sorts.ensures in
    let same = same_signature text ss c.in_ok-sorts.sorts c.in_ok-sorts.signature.symbols tables.1.0 tables.1.2 in
    let typed : phase_3 text ss ≡ [] = sym (ap (λ (s : Signature). typing_faults text s ss) same) ∙ c.in_ok-formulas.ensures.0 in
    let stops : Stops e (phase_4 ss) = rw c.as_slice-2.ensures at c.in_err-products.ensures in
    rw r (stops_products e (phase_2 text ss) (phase_3 text ss) (phase_4 ss) tables.0 typed stops)

pub returns : goal.returns
returns c =
    let text = c.args.text.now in
    let ss : List Statement = c.args.statements in
    let tables = rw c.as_slice.ensures at c.in_ok-sorts.ensures in
    let same = same_signature text ss c.in_ok-sorts.sorts c.in_ok-sorts.signature.symbols tables.1.0 tables.1.2 in
    let read = c.in_ok-formulas.ensures in
    let typed : phase_3 text ss ≡ [] = sym (ap (λ (s : Signature). typing_faults text s ss) same) ∙ read.0 in
    let linear : phase_4 ss ≡ [] = rw c.as_slice-2.ensures at c.in_ok-products.ensures in (
      no_faults (phase_2 text ss) (phase_3 text ss) (phase_4 ss) tables.0 typed linear,
      same_parts text ss _ tables.1.2 (c.in_ok-count.ensures ∙ ap length tables.1.0)
          (read.1.premises ∙ ap (λ (s : Signature). premises_of text s ss) same) (read.1.conjecture ∙ ap (λ (s : Signature). first (conjectures_of text s ss)) same),
    )
