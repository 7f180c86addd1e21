use Rattle.std.proofs.Common.{◌∙◌, sym}
use Rattle.term_text.proofs.OtherTerms.{own_in_front, behind_some}
use Rattle.term_text.proofs.substitutions.term_but.Goals as goal

pub returns-in-Some : goal.returns-in-Some
returns-in-Some c = own_in_front c.args.v c.requires c.in-Some.rest.now (sym c.is_full.ensures ∙ c.if-not-is_full.false) (behind_some c.args.v c.args.text.now c.in_ok-rest.field-0 c.in-Some.rest c.in_ok-rest.ensures c.in-Some.is)
