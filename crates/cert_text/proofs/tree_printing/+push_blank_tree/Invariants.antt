use Rattle.std.proofs.Common.{take}
use Rattle.text_pieces.specs.Languages.{Blank, Times}
use Rattle.cert_text.specs.Grammar.{SpellsTree}
use Rattle.text_pieces.specs.Printing.{Adds}
use Rattle.cert_text.proofs.tree_printing.+push_blank_tree.Given as goal

abbrev pub invariant-push_trees-loop-tree : goal.invariant-push_trees-loop-tree
invariant-push_trees-loop-tree l = Adds (Times (Blank SpellsTree) l.tree-index) (take l.tree-index l.trees) l.initial.text.items l.text.items
