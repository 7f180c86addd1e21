use Rattle.std.proofs.Common.{◌≡◌, List, ◌∙◌, Err, arith, rules}
use Rattle.tff_grammar.specs.declared.trees.Statement.{Statement}
use Rattle.tff_signature.specs.Declarations.{Declaration, declarations, content_faults, sort_names, phase_2}
use Rattle.tff_signature.specs.Faults.{Faults, checked}
use Rattle.tff_signature.proofs.FaultLemmas.{goes_on, stops}
use Rattle.tff_signature.proofs.declarations.check_declarations.Goals as goal

pub loop-statement-preserved : goal.loop-statement-preserved
loop-statement-preserved c =
    let text = c.args.text.now in
    let statements : List Statement = c.args.statements.now in
    let ds : List Declaration = declarations statements in
    let faults : Statement → Faults = λ s. content_faults text ds (sort_names text ds) s.content in
    c.loop-statement.invariant
    ∙ goes_on faults statements c.loop-statement.statement-index c.statement-item.result (omega arith) c.statement-item.is _ (c.in_ok-check_content.ensures ds c.requires)

pub returns-in_err-check_content : goal.returns-in_err-check_content
returns-in_err-check_content c =
    let text = c.args.text.now in
    let statements : List Statement = c.args.statements.now in
    let ds : List Declaration = declarations statements in
    let faults : Statement → Faults = λ s. content_faults text ds (sort_names text ds) s.content in
    let first : checked (phase_2 text statements) ≡ Err c.in_err-check_content.field-0.0 =
    c.loop-statement.invariant
    ∙ stops faults statements c.loop-statement.statement-index c.statement-item.result (omega arith) c.statement-item.is _ (c.in_err-check_content.ensures ds c.requires) in
    rw first (search rules)
