use Rattle.std.proofs.Common.{ap, sym, ◌∙◌}
use Rattle.std.specs.Prelude.{option_map}
use Rattle.term_base.specs.Trees.{tree}
use Rattle.term_base.specs.TreeLists.{child-App}
use Rattle.term_base.proofs.placing.child.Goals as goal

pub returns-in-App : goal.returns-in-App
returns-in-App c = ap (option_map tree) c.get-in-App.ensures.value ∙ sym (child-App c.args.t.now c.in-App.field-0 c.in-App.args c.in-App.is c.args.number)
