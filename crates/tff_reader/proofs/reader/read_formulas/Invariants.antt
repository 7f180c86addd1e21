use Rattle.std.proofs.Common.{◌≡◌, ◌++◌, length, drop}
use Rattle.std.specs.Option.{option_or}
use Rattle.tff_reader.specs.Meaning.{typing_faults, premises_of, conjectures_of, first}
use Rattle.tff_reader.specs.Contexts.{signature}
use Rattle.tff_reader.proofs.reader.read_formulas.Given as goal

abbrev pub invariant-loop-place : goal.invariant-loop-place
invariant-loop-place l = record {
  count : length l.left ≡ l.place-end;
  faults : typing_faults l.context.text.now (signature l.context) l.fn.statements ≡ typing_faults l.context.text.now (signature l.context) (drop l.place l.left);
  premises : premises_of l.context.text.now (signature l.context) l.fn.statements ≡ l.formulas.premises ++ premises_of l.context.text.now (signature l.context) (drop l.place l.left);
  conjecture : first (conjectures_of l.context.text.now (signature l.context) l.fn.statements)
      ≡ option_or l.formulas.conjecture (first (conjectures_of l.context.text.now (signature l.context) (drop l.place l.left)));
}
