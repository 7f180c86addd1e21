use Rattle.std.proofs.Common.{◌++◌, ◌∙◌, ap, subst}
use Rattle.text_pieces.specs.Fronts.{NoFront}
use Rattle.term_text.specs.Variables.{SpellsVariable}
use Rattle.text_pieces.specs.Printing.{Adds}
use Rattle.term_text.proofs.OwnTexts.{own_here, own_missing}
use Rattle.term_text.proofs.substitutions.behind_variable.Goals as goal

pub returns-in-Ok : goal.returns-in-Ok
returns-in-Ok c = own_here c.args.v c.push_variable.new.text.items c.args.text.now _ (subst (λ z. Adds SpellsVariable c.args.v z c.push_variable.new.text.items) c.new-own.ensures.items c.in_ok-push_variable.ensures) (c.in-Ok.ensures.ok ∙ ap (λ z. z ++ c.in-Ok.rest.now) c.as_slice.ensures.value)

pub returns : goal.returns
returns c = own_missing c.args.v c.push_variable.new.text.items c.args.text.now _ (subst (λ z. Adds SpellsVariable c.args.v z c.push_variable.new.text.items) c.new-own.ensures.items c.in_ok-push_variable.ensures) (subst (λ z. NoFront z c.args.text.now c.in-Err.field-0.left) c.as_slice.ensures.value c.in-Err.ensures.err)
