use Rattle.std.proofs.Common.{◌≤◌, length}
use Rattle.text_pieces.specs.Printing.{Keeps}
use Rattle.term_text.proofs.Printed.{Opening}
use Rattle.term_text.proofs.term_printing.+push_term.Given as goal

abbrev pub invariant-push_arguments-loop-argument : goal.invariant-push_arguments-loop-argument
invariant-push_arguments-loop-argument l = record {
  so : Opening l.arguments l.initial.text.items l.argument-index l.front l.text.items;
  within : l.argument-index ≤ length l.arguments;
  kept : Keeps l.initial.text.items l.text.items;
}
