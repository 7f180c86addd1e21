use Rattle.std.proofs.Common.{sym, subst}
use Rattle.std.proofs.lemmas.Result.{MatchResult-weaker}
use Rattle.proof_text.specs.Rules.{SpellsRule}
use Rattle.proof_text.proofs.RulePrinted.{adds-input, adds-abstract, adds-normal}
use Rattle.text_pieces.specs.Printing.{Adds}
use Rattle.proof_text.proofs.rule_printing.push_rule.Goals as goal

pub returns-in-Input : goal.returns-in-Input
returns-in-Input c =
    MatchResult-weaker c.push_of.result c.push_of.ensures (λ d e. subst (λ z. Adds SpellsRule z c.args.text.now.items c.push_of.new.text.items) (sym c.in-Input.is) (adds-input c.in-Input.clause c.args.text.now.items c.push_of.new.text.items e)) (λ d e. tt)

pub returns-in-Abstract : goal.returns-in-Abstract
returns-in-Abstract c =
    MatchResult-weaker c.push_of-in-Abstract.result c.push_of-in-Abstract.ensures (λ d e. subst (λ z. Adds SpellsRule z c.args.text.now.items c.push_of-in-Abstract.new.text.items) (sym c.in-Abstract.is) (adds-abstract c.in-Abstract.of c.args.text.now.items c.push_of-in-Abstract.new.text.items e)) (λ d e. tt)

pub returns-in-Normal : goal.returns-in-Normal
returns-in-Normal c =
    MatchResult-weaker c.push_of-in-Normal.result c.push_of-in-Normal.ensures (λ d e. subst (λ z. Adds SpellsRule z c.args.text.now.items c.push_of-in-Normal.new.text.items) (sym c.in-Normal.is) (adds-normal c.in-Normal.of c.args.text.now.items c.push_of-in-Normal.new.text.items e)) (λ d e. tt)
