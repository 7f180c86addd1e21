use Rattle.std.proofs.Common.{◌≡◌, ℕ, ℤ, List, arith, pos}
use Rattle.std.specs.Int.{w128}
use Rattle.std.proofs.lemmas.Result.{err_from_is_err_and, MatchResult-weaker}
use Rattle.lin_base.specs.declared.sums.Lin.{Lin}
use Rattle.cert_tree.specs.declared.certs.Tree.{Tree}
use Rattle.cert_tree.specs.declared.certs.Tree.TheVariants as node
use Rattle.cert_text.specs.declared.kinds.NodeKind.TheVariants as nodekind
use Rattle.text_pieces.specs.Languages.{Cat, Blank, Times, Reads}
use Rattle.text_pieces.specs.Numbers.{Counted}
use Rattle.cert_text.specs.Grammar.{Index, Modulus, Sum, Multiple, SpellsTree}
use Rattle.text_pieces.proofs.Lifting.{lift-image, no_blank}
use Rattle.text_pieces.proofs.Chains.{read_next, next_fails, next_unread, last_unread, both}
use Rattle.cert_text.proofs.ToldApart.{unambiguous-index, unambiguous-modulus, unambiguous-sum, unambiguous-multiples}
use Rattle.std.proofs.Common.{subst, to_z}
use Rattle.std.proofs.lemmas.Int.{ints}
use Rattle.text_pieces.specs.Numbers.{IsCount}
use Rattle.cert_text.specs.Grammar.{NodeWord}
use Rattle.text_pieces.proofs.Lifting.{lift-then, unreadable_on}
use Rattle.text_pieces.proofs.Repeated.{reads_le, read_none, read_more, read_fails, read_all, counted-fails, counted-count}
use Rattle.cert_text.proofs.Kinded.{unambiguous-node_word}
use Rattle.cert_text.proofs.Sure.{unambiguous-tree, unambiguous-blank_tree, unambiguous-some_trees, unambiguous-times_trees, unambiguous-node_parts, blank_node}
use Rattle.cert_text.proofs.trees.+blank_tree.Goals as goal

pub case-returns-in_err-clause : goal.case-returns-in_err-clause
case-returns-in_err-clause t c =
    let l0 = lift-image (λ (p : ℕ × List Tree). node.Case p.0 p.1) (Cat Index (λ clause. Counted (Blank SpellsTree))) c.args.text.now in
    let p = err_from_is_err_and c.from_residual.result c.from_residual.ensures.1 in
    rw (p.1, p.2) (next_fails l0 (λ v. unambiguous-some_trees) c.in_err-clause.ensures)

pub case-returns-in_err-literals : goal.case-returns-in_err-literals
case-returns-in_err-literals t c =
    let l0 = lift-image (λ (p : ℕ × List Tree). node.Case p.0 p.1) (Cat Index (λ clause. Counted (Blank SpellsTree))) c.args.text.now in
    let l1 = read_next l0 unambiguous-index (λ v. unambiguous-some_trees) c.in_ok-clause.ensures in
    let p = err_from_is_err_and c.from_residual-in_err-literals.result c.from_residual-in_err-literals.ensures.1 in
    rw (p.1, p.2) (l1.fails c.in_err-literals.field-0.0.left (counted-fails (Blank SpellsTree) unambiguous-blank_tree c.in_ok-clause.rest.now c.in_err-literals.field-0.0.left c.in_err-literals.ensures))

pub case-returns-in_err-children : goal.case-returns-in_err-children
case-returns-in_err-children t c =
    let l0 = lift-image (λ (p : ℕ × List Tree). node.Case p.0 p.1) (Cat Index (λ clause. Counted (Blank SpellsTree))) c.args.text.now in
    let l1 = read_next l0 unambiguous-index (λ v. unambiguous-some_trees) c.in_ok-clause.ensures in
    let r = c.in_ok-literals.ensures in
    let l2 = lift-then l1 (counted-count (Blank SpellsTree) unambiguous-blank_tree r.number c.in_ok-clause.rest.now c.in_ok-literals.rest.now r.reads) in
    let p = err_from_is_err_and c.from_residual-in_err-children.result c.from_residual-in_err-children.ensures.1 in
    rw (p.1, p.2) (last_unread l2 c.in_err-children.field-0.0 (c.in_err-children.ensures r.number r.is))

pub case-returns : goal.case-returns
case-returns t c =
    let l0 = lift-image (λ (p : ℕ × List Tree). node.Case p.0 p.1) (Cat Index (λ clause. Counted (Blank SpellsTree))) c.args.text.now in
    let l1 = read_next l0 unambiguous-index (λ v. unambiguous-some_trees) c.in_ok-clause.ensures in
    let r = c.in_ok-literals.ensures in
    let l2 = lift-then l1 (counted-count (Blank SpellsTree) unambiguous-blank_tree r.number c.in_ok-clause.rest.now c.in_ok-literals.rest.now r.reads) in
    l2.reads c.in_ok-children.children c.in_ok-children.rest.now (c.in_ok-children.ensures r.number r.is)

pub combine-returns-in_err-list : goal.combine-returns-in_err-list
combine-returns-in_err-list t c =
    let l0 = lift-image (λ (p : List (ℕ × ℤ) × Tree). node.Combine p.0 p.1) (Cat (Counted Multiple) (λ list. Blank SpellsTree)) c.args.text.now in
    let p = err_from_is_err_and c.from_residual.result c.from_residual.ensures.1 in
    rw (p.1, p.2) (next_unread l0 (λ v. unambiguous-blank_tree) c.in_err-list.field-0.0 c.in_err-list.ensures)

pub combine-returns-in_err-child : goal.combine-returns-in_err-child
combine-returns-in_err-child t c =
    let l0 = lift-image (λ (p : List (ℕ × ℤ) × Tree). node.Combine p.0 p.1) (Cat (Counted Multiple) (λ list. Blank SpellsTree)) c.args.text.now in
    let l1 = read_next l0 unambiguous-multiples (λ v. unambiguous-blank_tree) c.in_ok-list.ensures in
    let p = err_from_is_err_and c.from_residual-in_err-child.result c.from_residual-in_err-child.ensures.1 in
    rw (p.1, p.2) (last_unread l1 c.in_err-child.field-0.0 c.in_err-child.ensures)

pub combine-returns : goal.combine-returns
combine-returns t c =
    let l0 = lift-image (λ (p : List (ℕ × ℤ) × Tree). node.Combine p.0 p.1) (Cat (Counted Multiple) (λ list. Blank SpellsTree)) c.args.text.now in
    let l1 = read_next l0 unambiguous-multiples (λ v. unambiguous-blank_tree) c.in_ok-list.ensures in
    rw c.in_ok-child-2.ensures (l1.reads c.in_ok-child.child c.in_ok-child.rest.now c.in_ok-child.ensures)

pub cut-returns-in_err-fact : goal.cut-returns-in_err-fact
cut-returns-in_err-fact t c =
    let l0 = lift-image (λ (p : ℕ × Tree). node.Cut p.0 p.1) (Cat Index (λ fact. Blank SpellsTree)) c.args.text.now in
    let p = err_from_is_err_and c.from_residual.result c.from_residual.ensures.1 in
    rw (p.1, p.2) (next_fails l0 (λ v. unambiguous-blank_tree) c.in_err-fact.ensures)

pub cut-returns-in_err-child : goal.cut-returns-in_err-child
cut-returns-in_err-child t c =
    let l0 = lift-image (λ (p : ℕ × Tree). node.Cut p.0 p.1) (Cat Index (λ fact. Blank SpellsTree)) c.args.text.now in
    let l1 = read_next l0 unambiguous-index (λ v. unambiguous-blank_tree) c.in_ok-fact.ensures in
    let p = err_from_is_err_and c.from_residual-in_err-child.result c.from_residual-in_err-child.ensures.1 in
    rw (p.1, p.2) (last_unread l1 c.in_err-child.field-0.0 c.in_err-child.ensures)

pub cut-returns : goal.cut-returns
cut-returns t c =
    let l0 = lift-image (λ (p : ℕ × Tree). node.Cut p.0 p.1) (Cat Index (λ fact. Blank SpellsTree)) c.args.text.now in
    let l1 = read_next l0 unambiguous-index (λ v. unambiguous-blank_tree) c.in_ok-fact.ensures in
    rw c.in_ok-child-2.ensures (l1.reads c.in_ok-child.child c.in_ok-child.rest.now c.in_ok-child.ensures)

pub branch-returns-in_err-t : goal.branch-returns-in_err-t
branch-returns-in_err-t t c =
    let l0 = lift-image (λ (p : Lin × (Tree × Tree)). node.Branch p.0 (p.1.0) (p.1.1)) (Cat Sum (λ t. Cat (Blank SpellsTree) (λ left. Blank SpellsTree))) c.args.text.now in
    let p = err_from_is_err_and c.from_residual.result c.from_residual.ensures.1 in
    rw (p.1, p.2) (next_unread l0 (λ v. (both unambiguous-blank_tree (λ v. unambiguous-blank_tree))) c.in_err-t.field-0.0 c.in_err-t.ensures)

pub branch-returns-in_err-left : goal.branch-returns-in_err-left
branch-returns-in_err-left t c =
    let l0 = lift-image (λ (p : Lin × (Tree × Tree)). node.Branch p.0 (p.1.0) (p.1.1)) (Cat Sum (λ t. Cat (Blank SpellsTree) (λ left. Blank SpellsTree))) c.args.text.now in
    let l1 = read_next l0 unambiguous-sum (λ v. (both unambiguous-blank_tree (λ v. unambiguous-blank_tree))) c.in_ok-t.ensures in
    let p = err_from_is_err_and c.from_residual-in_err-left.result c.from_residual-in_err-left.ensures.1 in
    rw (p.1, p.2) (next_unread l1 (λ v. unambiguous-blank_tree) c.in_err-left.field-0.0 c.in_err-left.ensures)

pub branch-returns-in_err-right : goal.branch-returns-in_err-right
branch-returns-in_err-right t c =
    let l0 = lift-image (λ (p : Lin × (Tree × Tree)). node.Branch p.0 (p.1.0) (p.1.1)) (Cat Sum (λ t. Cat (Blank SpellsTree) (λ left. Blank SpellsTree))) c.args.text.now in
    let l1 = read_next l0 unambiguous-sum (λ v. (both unambiguous-blank_tree (λ v. unambiguous-blank_tree))) c.in_ok-t.ensures in
    let l2 = read_next l1 unambiguous-blank_tree (λ v. unambiguous-blank_tree) c.in_ok-left.ensures in
    let p = err_from_is_err_and c.from_residual-in_err-right.result c.from_residual-in_err-right.ensures.1 in
    rw (p.1, p.2) (last_unread l2 c.in_err-right.field-0.0 c.in_err-right.ensures)

pub branch-returns : goal.branch-returns
branch-returns t c =
    let l0 = lift-image (λ (p : Lin × (Tree × Tree)). node.Branch p.0 (p.1.0) (p.1.1)) (Cat Sum (λ t. Cat (Blank SpellsTree) (λ left. Blank SpellsTree))) c.args.text.now in
    let l1 = read_next l0 unambiguous-sum (λ v. (both unambiguous-blank_tree (λ v. unambiguous-blank_tree))) c.in_ok-t.ensures in
    let l2 = read_next l1 unambiguous-blank_tree (λ v. unambiguous-blank_tree) c.in_ok-left.ensures in
    rw (c.in_ok-left-2.ensures, c.in_ok-right-2.ensures) (l2.reads c.in_ok-right.right c.in_ok-right.rest.now c.in_ok-right.ensures)

pub solve-returns-in_err-fact : goal.solve-returns-in_err-fact
solve-returns-in_err-fact t c =
    let l0 = lift-image (λ (p : ℕ × (ℕ × Tree)). node.Solve p.0 (p.1.0) (p.1.1)) (Cat Index (λ fact. Cat Index (λ p. Blank SpellsTree))) c.args.text.now in
    let p = err_from_is_err_and c.from_residual.result c.from_residual.ensures.1 in
    rw (p.1, p.2) (next_fails l0 (λ v. (both unambiguous-index (λ v. unambiguous-blank_tree))) c.in_err-fact.ensures)

pub solve-returns-in_err-p : goal.solve-returns-in_err-p
solve-returns-in_err-p t c =
    let l0 = lift-image (λ (p : ℕ × (ℕ × Tree)). node.Solve p.0 (p.1.0) (p.1.1)) (Cat Index (λ fact. Cat Index (λ p. Blank SpellsTree))) c.args.text.now in
    let l1 = read_next l0 unambiguous-index (λ v. (both unambiguous-index (λ v. unambiguous-blank_tree))) c.in_ok-fact.ensures in
    let p = err_from_is_err_and c.from_residual-in_err-p.result c.from_residual-in_err-p.ensures.1 in
    rw (p.1, p.2) (next_fails l1 (λ v. unambiguous-blank_tree) c.in_err-p.ensures)

pub solve-returns-in_err-child : goal.solve-returns-in_err-child
solve-returns-in_err-child t c =
    let l0 = lift-image (λ (p : ℕ × (ℕ × Tree)). node.Solve p.0 (p.1.0) (p.1.1)) (Cat Index (λ fact. Cat Index (λ p. Blank SpellsTree))) c.args.text.now in
    let l1 = read_next l0 unambiguous-index (λ v. (both unambiguous-index (λ v. unambiguous-blank_tree))) c.in_ok-fact.ensures in
    let l2 = read_next l1 unambiguous-index (λ v. unambiguous-blank_tree) c.in_ok-p.ensures in
    let p = err_from_is_err_and c.from_residual-in_err-child.result c.from_residual-in_err-child.ensures.1 in
    rw (p.1, p.2) (last_unread l2 c.in_err-child.field-0.0 c.in_err-child.ensures)

pub solve-returns : goal.solve-returns
solve-returns t c =
    let l0 = lift-image (λ (p : ℕ × (ℕ × Tree)). node.Solve p.0 (p.1.0) (p.1.1)) (Cat Index (λ fact. Cat Index (λ p. Blank SpellsTree))) c.args.text.now in
    let l1 = read_next l0 unambiguous-index (λ v. (both unambiguous-index (λ v. unambiguous-blank_tree))) c.in_ok-fact.ensures in
    let l2 = read_next l1 unambiguous-index (λ v. unambiguous-blank_tree) c.in_ok-p.ensures in
    rw c.in_ok-child-2.ensures (l2.reads c.in_ok-child.child c.in_ok-child.rest.now c.in_ok-child.ensures)

pub least-returns-in_err-p : goal.least-returns-in_err-p
least-returns-in_err-p t c =
    let l0 = lift-image (λ (p : ℕ × List Tree). node.Least p.0 p.1) (Cat Index (λ p. Counted (Blank SpellsTree))) c.args.text.now in
    let p = err_from_is_err_and c.from_residual.result c.from_residual.ensures.1 in
    rw (p.1, p.2) (next_fails l0 (λ v. unambiguous-some_trees) c.in_err-p.ensures)

pub least-returns-in_err-count : goal.least-returns-in_err-count
least-returns-in_err-count t c =
    let l0 = lift-image (λ (p : ℕ × List Tree). node.Least p.0 p.1) (Cat Index (λ p. Counted (Blank SpellsTree))) c.args.text.now in
    let l1 = read_next l0 unambiguous-index (λ v. unambiguous-some_trees) c.in_ok-p.ensures in
    let p = err_from_is_err_and c.from_residual-in_err-count.result c.from_residual-in_err-count.ensures.1 in
    rw (p.1, p.2) (l1.fails c.in_err-count.field-0.0.left (counted-fails (Blank SpellsTree) unambiguous-blank_tree c.in_ok-p.rest.now c.in_err-count.field-0.0.left c.in_err-count.ensures))

pub least-returns-in_err-children : goal.least-returns-in_err-children
least-returns-in_err-children t c =
    let l0 = lift-image (λ (p : ℕ × List Tree). node.Least p.0 p.1) (Cat Index (λ p. Counted (Blank SpellsTree))) c.args.text.now in
    let l1 = read_next l0 unambiguous-index (λ v. unambiguous-some_trees) c.in_ok-p.ensures in
    let r = c.in_ok-count.ensures in
    let l2 = lift-then l1 (counted-count (Blank SpellsTree) unambiguous-blank_tree r.number c.in_ok-p.rest.now c.in_ok-count.rest.now r.reads) in
    let p = err_from_is_err_and c.from_residual-in_err-children.result c.from_residual-in_err-children.ensures.1 in
    rw (p.1, p.2) (last_unread l2 c.in_err-children.field-0.0 (c.in_err-children.ensures r.number r.is))

pub least-returns : goal.least-returns
least-returns t c =
    let l0 = lift-image (λ (p : ℕ × List Tree). node.Least p.0 p.1) (Cat Index (λ p. Counted (Blank SpellsTree))) c.args.text.now in
    let l1 = read_next l0 unambiguous-index (λ v. unambiguous-some_trees) c.in_ok-p.ensures in
    let r = c.in_ok-count.ensures in
    let l2 = lift-then l1 (counted-count (Blank SpellsTree) unambiguous-blank_tree r.number c.in_ok-p.rest.now c.in_ok-count.rest.now r.reads) in
    l2.reads c.in_ok-children.children c.in_ok-children.rest.now (c.in_ok-children.ensures r.number r.is)

pub residues-returns-in_err-m : goal.residues-returns-in_err-m
residues-returns-in_err-m t c =
    let l0 = lift-image (λ (p : ℕ × (Lin × List Tree)). node.Residues (pos p.0) (p.1.0) (p.1.1)) (Cat Modulus (λ m. Cat Sum (λ t. Times (Blank SpellsTree) m))) c.args.text.now in
    let p = err_from_is_err_and c.from_residual.result c.from_residual.ensures.1 in
    rw (p.1, p.2) (next_fails l0 (λ m. both unambiguous-sum (λ t. unambiguous-times_trees m)) c.in_err-m.ensures)

pub residues-returns-in_err-t : goal.residues-returns-in_err-t
residues-returns-in_err-t t c =
    let l0 = lift-image (λ (p : ℕ × (Lin × List Tree)). node.Residues (pos p.0) (p.1.0) (p.1.1)) (Cat Modulus (λ m. Cat Sum (λ t. Times (Blank SpellsTree) m))) c.args.text.now in
    let l1 = read_next l0 unambiguous-modulus (λ m. both unambiguous-sum (λ t. unambiguous-times_trees m)) c.in_ok-m.ensures in
    let p = err_from_is_err_and c.from_residual-in_err-t.result c.from_residual-in_err-t.ensures.1 in
    rw (p.1, p.2) (next_unread l1 (λ t. unambiguous-times_trees c.in_ok-m.m) c.in_err-t.field-0.0 c.in_err-t.ensures)

pub residues-returns-in_err-children : goal.residues-returns-in_err-children
residues-returns-in_err-children t c =
    let l0 = lift-image (λ (p : ℕ × (Lin × List Tree)). node.Residues (pos p.0) (p.1.0) (p.1.1)) (Cat Modulus (λ m. Cat Sum (λ t. Times (Blank SpellsTree) m))) c.args.text.now in
    let l1 = read_next l0 unambiguous-modulus (λ m. both unambiguous-sum (λ t. unambiguous-times_trees m)) c.in_ok-m.ensures in
    let l2 = read_next l1 unambiguous-sum (λ t. unambiguous-times_trees c.in_ok-m.m) c.in_ok-t.ensures in
    let is : IsCount c.in_ok-m.m c.in_ok-m.m = omega (arith, c.in_ok-m.ensures.spelled.spelled.is_in.to_high) in
    let p = err_from_is_err_and c.from_residual-in_err-children.result c.from_residual-in_err-children.ensures.1 in
    rw (p.1, p.2) (last_unread l2 c.in_err-children.field-0.0 (c.in_err-children.ensures c.in_ok-m.m is))

pub residues-returns : goal.residues-returns
residues-returns t c =
    let l0 = lift-image (λ (p : ℕ × (Lin × List Tree)). node.Residues (pos p.0) (p.1.0) (p.1.1)) (Cat Modulus (λ m. Cat Sum (λ t. Times (Blank SpellsTree) m))) c.args.text.now in
    let l1 = read_next l0 unambiguous-modulus (λ m. both unambiguous-sum (λ t. unambiguous-times_trees m)) c.in_ok-m.ensures in
    let l2 = read_next l1 unambiguous-sum (λ t. unambiguous-times_trees c.in_ok-m.m) c.in_ok-t.ensures in
    let is : IsCount c.in_ok-m.m c.in_ok-m.m = omega (arith, c.in_ok-m.ensures.spelled.spelled.is_in.to_high) in
    let whole = l2.reads c.in_ok-children.children c.in_ok-children.rest.now (c.in_ok-children.ensures c.in_ok-m.m is) in
    let same : to_z w128 c.in_ok-m.m ≡ pos c.in_ok-m.m = omega (arith, ints, c.in_ok-m.ensures.spelled.spelled.is_in.to_high) in
    rw same whole

pub trees-loop-alloc-init : goal.trees-loop-alloc-init
trees-loop-alloc-init t c = record {
  so = λ n is. rw c.new-trees.ensures (read_none (Blank SpellsTree) n c.args.text.now c.requires);
  within = omega arith;
}

pub trees-returns-in_err-next : goal.trees-returns-in_err-next
trees-returns-in_err-next t c = λ n is.
    let p = err_from_is_err_and c.from_residual.result c.from_residual.ensures.1 in
    rw (p.1, p.2) (unreadable_on (Times (Blank SpellsTree) n) c.args.text.now (Blank SpellsTree) c.loop-alloc.rest.now
    (λ left g. read_fails (Blank SpellsTree) unambiguous-blank_tree n c.args.text.now c.loop-alloc.trees c.loop-alloc.rest.now left (omega (arith, is)) (c.loop-alloc.invariant.so n is) g) c.in_err-next.field-0.0 c.in_err-next.ensures)

pub trees-loop-alloc-preserved : goal.trees-loop-alloc-preserved
trees-loop-alloc-preserved t c = record {
  within = omega (arith, reads_le (Blank SpellsTree) c.loop-alloc.rest.now c.in_ok-next.next c.in_ok-next.more.now c.in_ok-next.ensures);
  so = λ n is.
      let more = read_more (Blank SpellsTree) unambiguous-blank_tree n c.args.text.now c.loop-alloc.trees c.loop-alloc.rest.now c.in_ok-next.more.now c.in_ok-next.next (omega (arith, is)) (c.loop-alloc.invariant.so n is) c.in_ok-next.ensures in
      let all = c.in_ok-push.ensures.ok in
      rw all more;
}

pub trees-returns : goal.trees-returns
trees-returns t c = λ n is. read_all (Blank SpellsTree) n c.args.text.now c.loop-alloc.trees c.loop-alloc.rest.now (omega (arith, is)) (c.loop-alloc.invariant.so n is)

pub blank_tree-returns-in_err-behind : goal.blank_tree-returns-in_err-behind
blank_tree-returns-in_err-behind t c =
    let p = err_from_is_err_and c.from_residual.result c.from_residual.ensures.1 in
    rw (p.1, p.2) (no_blank SpellsTree c.args.text.now c.in_err-behind.field-0.0.left unambiguous-tree.some c.in_err-behind.ensures.err)

pub blank_tree-returns-in_err-kind : goal.blank_tree-returns-in_err-kind
blank_tree-returns-in_err-kind t c =
    let l0 = blank_node c.args.text.now c.in_ok-behind.behind.now c.in_ok-behind.ensures.ok in
    let p = err_from_is_err_and c.from_residual-in_err-kind.result c.from_residual-in_err-kind.ensures.1 in
    rw (p.1, p.2) (next_fails l0 unambiguous-node_parts c.in_err-kind.ensures)

pub blank_tree-returns-in-Case : goal.blank_tree-returns-in-Case
blank_tree-returns-in-Case t c =
    let word : Reads NodeWord c.in_ok-behind.behind.now nodekind.Case c.in_ok-kind.rest.now = subst (λ k. Reads NodeWord c.in_ok-behind.behind.now k c.in_ok-kind.rest.now) c.in-Case.is c.in_ok-kind.ensures in
    let l0 = blank_node c.args.text.now c.in_ok-behind.behind.now c.in_ok-behind.ensures.ok in
    let l1 = read_next l0 unambiguous-node_word unambiguous-node_parts word in
    MatchResult-weaker c.case.result c.case.ensures (λ f r. l1.reads f.0 f.1.now r) (λ e f. last_unread l1 e f)

pub blank_tree-returns-in-Combine : goal.blank_tree-returns-in-Combine
blank_tree-returns-in-Combine t c =
    let word : Reads NodeWord c.in_ok-behind.behind.now nodekind.Combine c.in_ok-kind.rest.now = subst (λ k. Reads NodeWord c.in_ok-behind.behind.now k c.in_ok-kind.rest.now) c.in-Combine.is c.in_ok-kind.ensures in
    let l0 = blank_node c.args.text.now c.in_ok-behind.behind.now c.in_ok-behind.ensures.ok in
    let l1 = read_next l0 unambiguous-node_word unambiguous-node_parts word in
    MatchResult-weaker c.combine.result c.combine.ensures (λ f r. l1.reads f.0 f.1.now r) (λ e f. last_unread l1 e f)

pub blank_tree-returns-in-Cut : goal.blank_tree-returns-in-Cut
blank_tree-returns-in-Cut t c =
    let word : Reads NodeWord c.in_ok-behind.behind.now nodekind.Cut c.in_ok-kind.rest.now = subst (λ k. Reads NodeWord c.in_ok-behind.behind.now k c.in_ok-kind.rest.now) c.in-Cut.is c.in_ok-kind.ensures in
    let l0 = blank_node c.args.text.now c.in_ok-behind.behind.now c.in_ok-behind.ensures.ok in
    let l1 = read_next l0 unambiguous-node_word unambiguous-node_parts word in
    MatchResult-weaker c.cut.result c.cut.ensures (λ f r. l1.reads f.0 f.1.now r) (λ e f. last_unread l1 e f)

pub blank_tree-returns-in-Branch : goal.blank_tree-returns-in-Branch
blank_tree-returns-in-Branch t c =
    let word : Reads NodeWord c.in_ok-behind.behind.now nodekind.Branch c.in_ok-kind.rest.now = subst (λ k. Reads NodeWord c.in_ok-behind.behind.now k c.in_ok-kind.rest.now) c.in-Branch.is c.in_ok-kind.ensures in
    let l0 = blank_node c.args.text.now c.in_ok-behind.behind.now c.in_ok-behind.ensures.ok in
    let l1 = read_next l0 unambiguous-node_word unambiguous-node_parts word in
    MatchResult-weaker c.branch-alloc.result c.branch-alloc.ensures (λ f r. l1.reads f.0 f.1.now r) (λ e f. last_unread l1 e f)

pub blank_tree-returns-in-Residues : goal.blank_tree-returns-in-Residues
blank_tree-returns-in-Residues t c =
    let word : Reads NodeWord c.in_ok-behind.behind.now nodekind.Residues c.in_ok-kind.rest.now = subst (λ k. Reads NodeWord c.in_ok-behind.behind.now k c.in_ok-kind.rest.now) c.in-Residues.is c.in_ok-kind.ensures in
    let l0 = blank_node c.args.text.now c.in_ok-behind.behind.now c.in_ok-behind.ensures.ok in
    let l1 = read_next l0 unambiguous-node_word unambiguous-node_parts word in
    MatchResult-weaker c.residues.result c.residues.ensures (λ f r. l1.reads f.0 f.1.now r) (λ e f. last_unread l1 e f)

pub blank_tree-returns-in-Solve : goal.blank_tree-returns-in-Solve
blank_tree-returns-in-Solve t c =
    let word : Reads NodeWord c.in_ok-behind.behind.now nodekind.Solve c.in_ok-kind.rest.now = subst (λ k. Reads NodeWord c.in_ok-behind.behind.now k c.in_ok-kind.rest.now) c.in-Solve.is c.in_ok-kind.ensures in
    let l0 = blank_node c.args.text.now c.in_ok-behind.behind.now c.in_ok-behind.ensures.ok in
    let l1 = read_next l0 unambiguous-node_word unambiguous-node_parts word in
    MatchResult-weaker c.solve.result c.solve.ensures (λ f r. l1.reads f.0 f.1.now r) (λ e f. last_unread l1 e f)

pub blank_tree-returns-in-Least : goal.blank_tree-returns-in-Least
blank_tree-returns-in-Least t c =
    let word : Reads NodeWord c.in_ok-behind.behind.now nodekind.Least c.in_ok-kind.rest.now = subst (λ k. Reads NodeWord c.in_ok-behind.behind.now k c.in_ok-kind.rest.now) c.in-Least.is c.in_ok-kind.ensures in
    let l0 = blank_node c.args.text.now c.in_ok-behind.behind.now c.in_ok-behind.ensures.ok in
    let l1 = read_next l0 unambiguous-node_word unambiguous-node_parts word in
    MatchResult-weaker c.least.result c.least.ensures (λ f r. l1.reads f.0 f.1.now r) (λ e f. last_unread l1 e f)

pub blank_tree-returns-in_err-clash-in-Clash : goal.blank_tree-returns-in_err-clash-in-Clash
blank_tree-returns-in_err-clash-in-Clash t c =
    let word : Reads NodeWord c.in_ok-behind.behind.now nodekind.Clash c.in_ok-kind.rest.now = subst (λ k. Reads NodeWord c.in_ok-behind.behind.now k c.in_ok-kind.rest.now) c.in-Clash.is c.in_ok-kind.ensures in
    let l0 = blank_node c.args.text.now c.in_ok-behind.behind.now c.in_ok-behind.ensures.ok in
    let l1 = read_next l0 unambiguous-node_word unambiguous-node_parts word in
    let p = err_from_is_err_and c.from_residual-in_err-clash-in-Clash.result c.from_residual-in_err-clash-in-Clash.ensures.1 in
    rw (p.1, p.2) (l1.fails c.in_err-clash-in-Clash.field-0.0.left c.in_err-clash-in-Clash.ensures)

pub blank_tree-returns-in_ok-clash-in-Clash : goal.blank_tree-returns-in_ok-clash-in-Clash
blank_tree-returns-in_ok-clash-in-Clash t c =
    let word : Reads NodeWord c.in_ok-behind.behind.now nodekind.Clash c.in_ok-kind.rest.now = subst (λ k. Reads NodeWord c.in_ok-behind.behind.now k c.in_ok-kind.rest.now) c.in-Clash.is c.in_ok-kind.ensures in
    let l0 = blank_node c.args.text.now c.in_ok-behind.behind.now c.in_ok-behind.ensures.ok in
    let l1 = read_next l0 unambiguous-node_word unambiguous-node_parts word in
    l1.reads _ _ c.in_ok-clash-in-Clash.ensures
