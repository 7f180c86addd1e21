use Rattle.std.proofs.Common.{◌≡◌, drop}
use Rattle.std.specs.List.{list_any}
use Rattle.normal_form.specs.Numbering.{literal_has_foreground}
use Rattle.normal_form.proofs.numbering.have_foreground.Given as goal

abbrev pub invariant-loop-literal : goal.invariant-loop-literal
invariant-loop-literal l = list_any (literal_has_foreground l.symbols) l.literals ≡ list_any (literal_has_foreground l.symbols) (drop l.literal-index l.literals)
