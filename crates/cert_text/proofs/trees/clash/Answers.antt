use Rattle.std.proofs.lemmas.Result.{err_from_is_err_and}
use Rattle.cert_tree.specs.declared.certs.Tree.TheVariants as node
use Rattle.cert_text.specs.Grammar.{Index}
use Rattle.text_pieces.proofs.Lifting.{lift-image}
use Rattle.cert_text.proofs.trees.clash.Goals as goal

pub returns-in_err-fact : goal.returns-in_err-fact
returns-in_err-fact c =
    let l0 = lift-image node.Clash Index c.args.text.now in
    let p = err_from_is_err_and c.from_residual.result c.from_residual.ensures.1 in
    rw (p.1, p.2) (l0.fails c.in_err-fact.field-0.0.left c.in_err-fact.ensures)
