use Rattle.std.proofs.Common.{ℕ, ◌+◌, ◌*◌, ◌-◌, ◌≤◌, length}
use Rattle.text_pieces.specs.Languages.{Blank}
use Rattle.text_pieces.specs.Numbers.{IsCount}
use Rattle.cert_text.specs.Grammar.{SpellsTree}
use Rattle.text_pieces.proofs.Repeated.{ReadSo}
use Rattle.cert_text.proofs.trees.+blank_tree.Given as goal

abbrev pub decreases-blank_tree : goal.decreases-blank_tree
decreases-blank_tree l = 2 * length l.text.now

abbrev pub decreases-trees : goal.decreases-trees
decreases-trees l = 2 * length l.text.now + 1

abbrev pub decreases-case : goal.decreases-case
decreases-case l = 2 * length l.text.now + 1

abbrev pub decreases-combine : goal.decreases-combine
decreases-combine l = 2 * length l.text.now + 1

abbrev pub decreases-cut : goal.decreases-cut
decreases-cut l = 2 * length l.text.now + 1

abbrev pub decreases-branch : goal.decreases-branch
decreases-branch l = 2 * length l.text.now + 1

abbrev pub decreases-residues : goal.decreases-residues
decreases-residues l = 2 * length l.text.now + 1

abbrev pub decreases-solve : goal.decreases-solve
decreases-solve l = 2 * length l.text.now + 1

abbrev pub decreases-least : goal.decreases-least
decreases-least l = 2 * length l.text.now + 1

abbrev pub invariant-trees-loop-alloc : goal.invariant-trees-loop-alloc
invariant-trees-loop-alloc l = record {
  so : (n : ℕ) → IsCount l.count n → ReadSo (Blank SpellsTree) n l.fn.text l.trees l.rest;
  within : length l.rest ≤ length l.fn.text;
}

abbrev pub decreases-trees-loop-alloc : goal.decreases-trees-loop-alloc
decreases-trees-loop-alloc l = l.count - length l.trees
