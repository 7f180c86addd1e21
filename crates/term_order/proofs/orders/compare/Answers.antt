use Rattle.term_base.specs.Trees.{tree}
use Rattle.term_order.specs.declared.orders.Order.TheVariants.{Above, Below}
use Rattle.term_order.proofs.CompareLemmas.{compared_is, exactly, terms_equal, terms_open}
use Rattle.term_order.proofs.orders.compare.Goals as goal

pub returns-clause-above : goal.returns-clause-above
returns-clause-above c =
    let S = c.args.signature.now in
    let s = tree c.args.s.now in
    let t = tree c.args.t.now in
    exactly S s t c.compared.result (compared_is S s t c.compared.result c.compared.ensures) Above

pub returns-clause-below : goal.returns-clause-below
returns-clause-below c =
    let S = c.args.signature.now in
    let s = tree c.args.s.now in
    let t = tree c.args.t.now in
    exactly S s t c.compared.result (compared_is S s t c.compared.result c.compared.ensures) Below

pub returns-clause-equal : goal.returns-clause-equal
returns-clause-equal c =
    let S = c.args.signature.now in
    terms_equal S c.args.s.now c.args.t.now c.compared.result (compared_is S (tree c.args.s.now) (tree c.args.t.now) c.compared.result c.compared.ensures)

pub returns-clause-open : goal.returns-clause-open
returns-clause-open c =
    let S = c.args.signature.now in
    terms_open S c.args.s.now c.args.t.now c.compared.result (compared_is S (tree c.args.s.now) (tree c.args.t.now) c.compared.result c.compared.ensures)
