use Rattle.std.proofs.Common.{sym, subst}
use Rattle.std.specs.Int.{w128}
use Rattle.std.proofs.lemmas.Int.{to_z-of_z}
use Rattle.std.proofs.lemmas.Result.{MatchResult-weaker}
use Rattle.text_pieces.proofs.Keeping.{as_it_was, by_bytes, by_added, then_kept, then_added, puts_err}
use Rattle.text_pieces.specs.Languages.{Blank}
use Rattle.text_pieces.specs.Printing.{Adds}
use Rattle.text_pieces.proofs.Adding.{adds-counted, adds-item}
use Rattle.cert_text.specs.Grammar.{Whole, SpellsTree}
use Rattle.cert_text.proofs.Printed.{adds-case, adds-combine, adds-cut, adds-branch, adds-residues, adds-solve, adds-least}
use Rattle.cert_text.proofs.tree_printing.+push_blank_tree.Goals as goal

pub push_case-returns-in_err-push : goal.push_case-returns-in_err-push
push_case-returns-in_err-push t c = puts_err _ _ _ c.from_residual.result c.from_residual.ensures.1 (as_it_was c.in_err-push.ensures)

pub push_case-returns-in_err-push_index : goal.push_case-returns-in_err-push_index
push_case-returns-in_err-push_index t c = puts_err _ _ _ c.from_residual-in_err-push_index.result c.from_residual-in_err-push_index.ensures.1 (then_kept (by_bytes _ c.in_ok-push.ensures) c.in_err-push_index.ensures)

pub push_case-returns-in_err-push_count : goal.push_case-returns-in_err-push_count
push_case-returns-in_err-push_count t c = puts_err _ _ _ c.from_residual-in_err-push_count.result c.from_residual-in_err-push_count.ensures.1 (then_kept (then_added (by_bytes _ c.in_ok-push.ensures) c.in_ok-push_index.ensures) c.in_err-push_count.ensures)

pub push_case-returns : goal.push_case-returns
push_case-returns t c =
    MatchResult-weaker c.push_trees.result c.push_trees.ensures
    (λ d a. adds-case c.args.clause c.args.children.now c.args.text.now.items c.push.new.text.items c.push_index.new.text.items c.push_trees.new.text.items c.in_ok-push.ensures c.in_ok-push_index.ensures (adds-counted (Blank SpellsTree) c.args.children.now c.push_index.new.text.items c.push_count.new.text.items c.push_trees.new.text.items c.in_ok-push_count.ensures a))
    (λ d k. then_kept (then_added (then_added (by_bytes _ c.in_ok-push.ensures) c.in_ok-push_index.ensures) c.in_ok-push_count.ensures) k)

pub push_combine-returns-in_err-push : goal.push_combine-returns-in_err-push
push_combine-returns-in_err-push t c = puts_err _ _ _ c.from_residual.result c.from_residual.ensures.1 (as_it_was c.in_err-push.ensures)

pub push_combine-returns-in_err-push_multiples : goal.push_combine-returns-in_err-push_multiples
push_combine-returns-in_err-push_multiples t c = puts_err _ _ _ c.from_residual-in_err-push_multiples.result c.from_residual-in_err-push_multiples.ensures.1 (then_kept (by_bytes _ c.in_ok-push.ensures) c.in_err-push_multiples.ensures)

pub push_combine-returns : goal.push_combine-returns
push_combine-returns t c =
    MatchResult-weaker c.push_blank_tree.result c.push_blank_tree.ensures
    (λ d a. adds-combine c.args.list.now c.args.child.now c.args.text.now.items c.push.new.text.items c.push_multiples.new.text.items c.push_blank_tree.new.text.items c.in_ok-push.ensures c.in_ok-push_multiples.ensures a)
    (λ d k. then_kept (then_added (by_bytes _ c.in_ok-push.ensures) c.in_ok-push_multiples.ensures) k)

pub push_cut-returns-in_err-push : goal.push_cut-returns-in_err-push
push_cut-returns-in_err-push t c = puts_err _ _ _ c.from_residual.result c.from_residual.ensures.1 (as_it_was c.in_err-push.ensures)

pub push_cut-returns-in_err-push_index : goal.push_cut-returns-in_err-push_index
push_cut-returns-in_err-push_index t c = puts_err _ _ _ c.from_residual-in_err-push_index.result c.from_residual-in_err-push_index.ensures.1 (then_kept (by_bytes _ c.in_ok-push.ensures) c.in_err-push_index.ensures)

pub push_cut-returns : goal.push_cut-returns
push_cut-returns t c =
    MatchResult-weaker c.push_blank_tree.result c.push_blank_tree.ensures
    (λ d a. adds-cut c.args.fact c.args.child.now c.args.text.now.items c.push.new.text.items c.push_index.new.text.items c.push_blank_tree.new.text.items c.in_ok-push.ensures c.in_ok-push_index.ensures a)
    (λ d k. then_kept (then_added (by_bytes _ c.in_ok-push.ensures) c.in_ok-push_index.ensures) k)

pub push_blank_tree-returns-in_err-push-in-Branch : goal.push_blank_tree-returns-in_err-push-in-Branch
push_blank_tree-returns-in_err-push-in-Branch t c = puts_err _ _ _ c.from_residual.result c.from_residual.ensures.1 (as_it_was c.in_err-push-in-Branch.ensures)

pub push_blank_tree-returns-in_err-push_lin-in-Branch : goal.push_blank_tree-returns-in_err-push_lin-in-Branch
push_blank_tree-returns-in_err-push_lin-in-Branch t c =
    puts_err _ _ _ c.from_residual-in_err-push_lin-in-Branch.result c.from_residual-in_err-push_lin-in-Branch.ensures.1 (then_kept (by_bytes _ c.in_ok-push-in-Branch.ensures) c.in_err-push_lin-in-Branch.ensures)

pub push_blank_tree-returns-in_err-push_blank_tree-in-Branch : goal.push_blank_tree-returns-in_err-push_blank_tree-in-Branch
push_blank_tree-returns-in_err-push_blank_tree-in-Branch t c =
    puts_err _ _ _ c.from_residual-in_err-push_blank_tree-in-Branch.result c.from_residual-in_err-push_blank_tree-in-Branch.ensures.1
    (then_kept (then_added (by_bytes _ c.in_ok-push-in-Branch.ensures) c.in_ok-push_lin-in-Branch.ensures) c.in_err-push_blank_tree-in-Branch.ensures)

pub push_blank_tree-returns-in_ok-push_blank_tree-in-Branch : goal.push_blank_tree-returns-in_ok-push_blank_tree-in-Branch
push_blank_tree-returns-in_ok-push_blank_tree-in-Branch t c =
    let u = c.in-Branch.t in
    let l = c.in-Branch.left in
    let r = c.in-Branch.right in
    let left : Adds (Blank SpellsTree) l c.push_lin.new.text.items c.push_blank_tree.new.text.items =
    subst (λ z. Adds (Blank SpellsTree) z c.push_lin.new.text.items c.push_blank_tree.new.text.items) c.get-in-Branch.ensures c.in_ok-push_blank_tree-in-Branch.ensures in
    MatchResult-weaker c.push_blank_tree-in-Branch.result c.push_blank_tree-in-Branch.ensures
    (λ d a. subst (λ z. Adds (Blank SpellsTree) z c.args.text.now.items c.push_blank_tree-in-Branch.new.text.items) (sym c.in-Branch.is)
    (adds-branch u l r c.args.text.now.items c.push.new.text.items c.push_lin.new.text.items c.push_blank_tree.new.text.items c.push_blank_tree-in-Branch.new.text.items c.in_ok-push-in-Branch.ensures c.in_ok-push_lin-in-Branch.ensures left
    (subst (λ z. Adds (Blank SpellsTree) z c.push_blank_tree.new.text.items c.push_blank_tree-in-Branch.new.text.items) c.get-in-Branch-2.ensures a)))
    (λ d k. then_kept (then_added (then_added (by_bytes _ c.in_ok-push-in-Branch.ensures) c.in_ok-push_lin-in-Branch.ensures) left) k)

pub push_residues-returns-in_err-push : goal.push_residues-returns-in_err-push
push_residues-returns-in_err-push t c = puts_err _ _ _ c.from_residual.result c.from_residual.ensures.1 (as_it_was c.in_err-push.ensures)

pub push_residues-returns-in_err-push_whole : goal.push_residues-returns-in_err-push_whole
push_residues-returns-in_err-push_whole t c = puts_err _ _ _ c.from_residual-in_err-push_whole.result c.from_residual-in_err-push_whole.ensures.1 (then_kept (by_bytes _ c.in_ok-push.ensures) c.in_err-push_whole.ensures)

pub push_residues-returns-in_err-push_lin : goal.push_residues-returns-in_err-push_lin
push_residues-returns-in_err-push_lin t c = puts_err _ _ _ c.from_residual-in_err-push_lin.result c.from_residual-in_err-push_lin.ensures.1 (then_kept (then_added (by_bytes _ c.in_ok-push.ensures) c.in_ok-push_whole.ensures) c.in_err-push_lin.ensures)

pub push_residues-returns : goal.push_residues-returns
push_residues-returns t c =
    let whole = subst (λ z. Adds Whole z c.push.new.text.items c.push_whole.new.text.items) (to_z-of_z w128 c.args.m c.ranges.m) c.in_ok-push_whole.ensures in
    MatchResult-weaker c.push_trees.result c.push_trees.ensures
    (λ d a. adds-residues c.args.m c.args.t.now c.args.children.now c.args.text.now.items c.push.new.text.items c.push_whole.new.text.items c.push_lin.new.text.items c.push_trees.new.text.items c.requires.count c.in_ok-push.ensures whole c.in_ok-push_lin.ensures a)
    (λ d k. then_kept (then_added (then_added (by_bytes _ c.in_ok-push.ensures) c.in_ok-push_whole.ensures) c.in_ok-push_lin.ensures) k)

pub push_solve-returns-in_err-push : goal.push_solve-returns-in_err-push
push_solve-returns-in_err-push t c = puts_err _ _ _ c.from_residual.result c.from_residual.ensures.1 (as_it_was c.in_err-push.ensures)

pub push_solve-returns-in_err-push_index : goal.push_solve-returns-in_err-push_index
push_solve-returns-in_err-push_index t c = puts_err _ _ _ c.from_residual-in_err-push_index.result c.from_residual-in_err-push_index.ensures.1 (then_kept (by_bytes _ c.in_ok-push.ensures) c.in_err-push_index.ensures)

pub push_solve-returns-in_err-push_index-2 : goal.push_solve-returns-in_err-push_index-2
push_solve-returns-in_err-push_index-2 t c = puts_err _ _ _ c.from_residual-in_err-push_index-2.result c.from_residual-in_err-push_index-2.ensures.1 (then_kept (then_added (by_bytes _ c.in_ok-push.ensures) c.in_ok-push_index.ensures) c.in_err-push_index-2.ensures)

pub push_solve-returns : goal.push_solve-returns
push_solve-returns t c =
    MatchResult-weaker c.push_blank_tree.result c.push_blank_tree.ensures
    (λ d a. adds-solve c.args.fact c.args.p c.args.child.now c.args.text.now.items c.push.new.text.items c.push_index.new.text.items c.push_index-2.new.text.items c.push_blank_tree.new.text.items c.in_ok-push.ensures c.in_ok-push_index.ensures c.in_ok-push_index-2.ensures a)
    (λ d k. then_kept (then_added (then_added (by_bytes _ c.in_ok-push.ensures) c.in_ok-push_index.ensures) c.in_ok-push_index-2.ensures) k)

pub push_least-returns-in_err-push : goal.push_least-returns-in_err-push
push_least-returns-in_err-push t c = puts_err _ _ _ c.from_residual.result c.from_residual.ensures.1 (as_it_was c.in_err-push.ensures)

pub push_least-returns-in_err-push_index : goal.push_least-returns-in_err-push_index
push_least-returns-in_err-push_index t c = puts_err _ _ _ c.from_residual-in_err-push_index.result c.from_residual-in_err-push_index.ensures.1 (then_kept (by_bytes _ c.in_ok-push.ensures) c.in_err-push_index.ensures)

pub push_least-returns-in_err-push_count : goal.push_least-returns-in_err-push_count
push_least-returns-in_err-push_count t c = puts_err _ _ _ c.from_residual-in_err-push_count.result c.from_residual-in_err-push_count.ensures.1 (then_kept (then_added (by_bytes _ c.in_ok-push.ensures) c.in_ok-push_index.ensures) c.in_err-push_count.ensures)

pub push_least-returns : goal.push_least-returns
push_least-returns t c =
    MatchResult-weaker c.push_trees.result c.push_trees.ensures
    (λ d a. adds-least c.args.p c.args.children.now c.args.text.now.items c.push.new.text.items c.push_index.new.text.items c.push_trees.new.text.items c.in_ok-push.ensures c.in_ok-push_index.ensures (adds-counted (Blank SpellsTree) c.args.children.now c.push_index.new.text.items c.push_count.new.text.items c.push_trees.new.text.items c.in_ok-push_count.ensures a))
    (λ d k. then_kept (then_added (then_added (by_bytes _ c.in_ok-push.ensures) c.in_ok-push_index.ensures) c.in_ok-push_count.ensures) k)

pub push_trees-returns-in_err-push_blank_tree : goal.push_trees-returns-in_err-push_blank_tree
push_trees-returns-in_err-push_blank_tree t c = puts_err _ _ _ c.from_residual.result c.from_residual.ensures.1 (then_kept (by_added c.loop-tree.invariant) c.in_err-push_blank_tree.ensures)

pub push_trees-loop-tree-preserved : goal.push_trees-loop-tree-preserved
push_trees-loop-tree-preserved t c =
    adds-item (Blank SpellsTree) c.args.trees.now c.loop-tree.tree-index c.tree-item.result c.args.text.now.items c.loop-tree.text.items c.push_blank_tree.new.text.items c.loop-tree-test.true c.tree-item.is c.loop-tree.invariant
    c.in_ok-push_blank_tree.ensures
