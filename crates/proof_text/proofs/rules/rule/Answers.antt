use Rattle.std.proofs.Common.{subst}
use Rattle.std.proofs.lemmas.Result.{err_from_is_err_and, MatchResult-weaker}
use Rattle.text_pieces.specs.Decimals.{is_digit}
use Rattle.text_pieces.specs.Languages.{Cat, Reads}
use Rattle.text_pieces.proofs.Lifts.{lift-image, read_next, next_fails, last_unread}
use Rattle.proof_text.specs.Rules.{RuleWord, RuleParts}
use Rattle.proof_text.specs.declared.kinds.RuleKind.{RuleKind}
use Rattle.proof_text.specs.declared.kinds.RuleKind.TheVariants as kind
use Rattle.proof_text.proofs.RuleWords.{sure-rule_word}
use Rattle.proof_text.proofs.RuleFronts.{next-parts}
use Rattle.proof_steps.specs.declared.steps.Rule.{Rule}
use Rattle.proof_text.proofs.rules.rule.Goals as goal

pub returns-in_err-kind : goal.returns-in_err-kind
returns-in_err-kind c =
    let l0 = lift-image is_digit (λ (p : RuleKind × Rule). p.1) (Cat RuleWord RuleParts) c.args.text.now in
    let p = err_from_is_err_and c.from_residual.result c.from_residual.ensures.1 in
    rw (p.1, p.2) (next_fails l0 next-parts c.in_err-kind.ensures)

pub returns-in-Input : goal.returns-in-Input
returns-in-Input c =
    let word : Reads RuleWord c.args.text.now kind.Input c.in_ok-kind.rest.now = subst (λ k. Reads RuleWord c.args.text.now k c.in_ok-kind.rest.now) c.in-Input.is c.in_ok-kind.ensures in
    let l0 = lift-image is_digit (λ (p : RuleKind × Rule). p.1) (Cat RuleWord RuleParts) c.args.text.now in
    let l1 = read_next l0 sure-rule_word next-parts word in
    MatchResult-weaker c.input.result c.input.ensures (λ f r. l1.reads f.0 f.1.now r) (λ e f. last_unread l1 e f)

pub returns-in-Superpose : goal.returns-in-Superpose
returns-in-Superpose c =
    let word : Reads RuleWord c.args.text.now kind.Superpose c.in_ok-kind.rest.now = subst (λ k. Reads RuleWord c.args.text.now k c.in_ok-kind.rest.now) c.in-Superpose.is c.in_ok-kind.ensures in
    let l0 = lift-image is_digit (λ (p : RuleKind × Rule). p.1) (Cat RuleWord RuleParts) c.args.text.now in
    let l1 = read_next l0 sure-rule_word next-parts word in
    MatchResult-weaker c.superpose.result c.superpose.ensures (λ f r. l1.reads f.0 f.1.now r) (λ e f. last_unread l1 e f)

pub returns-in-Resolve : goal.returns-in-Resolve
returns-in-Resolve c =
    let word : Reads RuleWord c.args.text.now kind.Resolve c.in_ok-kind.rest.now = subst (λ k. Reads RuleWord c.args.text.now k c.in_ok-kind.rest.now) c.in-Resolve.is c.in_ok-kind.ensures in
    let l0 = lift-image is_digit (λ (p : RuleKind × Rule). p.1) (Cat RuleWord RuleParts) c.args.text.now in
    let l1 = read_next l0 sure-rule_word next-parts word in
    MatchResult-weaker c.resolve.result c.resolve.ensures (λ f r. l1.reads f.0 f.1.now r) (λ e f. last_unread l1 e f)

pub returns-in-Factor : goal.returns-in-Factor
returns-in-Factor c =
    let word : Reads RuleWord c.args.text.now kind.Factor c.in_ok-kind.rest.now = subst (λ k. Reads RuleWord c.args.text.now k c.in_ok-kind.rest.now) c.in-Factor.is c.in_ok-kind.ensures in
    let l0 = lift-image is_digit (λ (p : RuleKind × Rule). p.1) (Cat RuleWord RuleParts) c.args.text.now in
    let l1 = read_next l0 sure-rule_word next-parts word in
    MatchResult-weaker c.factor.result c.factor.ensures (λ f r. l1.reads f.0 f.1.now r) (λ e f. last_unread l1 e f)

pub returns-in-Abstract : goal.returns-in-Abstract
returns-in-Abstract c =
    let word : Reads RuleWord c.args.text.now kind.Abstract c.in_ok-kind.rest.now = subst (λ k. Reads RuleWord c.args.text.now k c.in_ok-kind.rest.now) c.in-Abstract.is c.in_ok-kind.ensures in
    let l0 = lift-image is_digit (λ (p : RuleKind × Rule). p.1) (Cat RuleWord RuleParts) c.args.text.now in
    let l1 = read_next l0 sure-rule_word next-parts word in
    MatchResult-weaker c.abstraction.result c.abstraction.ensures (λ f r. l1.reads f.0 f.1.now r) (λ e f. last_unread l1 e f)

pub returns-in-Normal : goal.returns-in-Normal
returns-in-Normal c =
    let word : Reads RuleWord c.args.text.now kind.Normal c.in_ok-kind.rest.now = subst (λ k. Reads RuleWord c.args.text.now k c.in_ok-kind.rest.now) c.in-Normal.is c.in_ok-kind.ensures in
    let l0 = lift-image is_digit (λ (p : RuleKind × Rule). p.1) (Cat RuleWord RuleParts) c.args.text.now in
    let l1 = read_next l0 sure-rule_word next-parts word in
    MatchResult-weaker c.normal.result c.normal.ensures (λ f r. l1.reads f.0 f.1.now r) (λ e f. last_unread l1 e f)

pub returns-in-Pin : goal.returns-in-Pin
returns-in-Pin c =
    let word : Reads RuleWord c.args.text.now kind.Pin c.in_ok-kind.rest.now = subst (λ k. Reads RuleWord c.args.text.now k c.in_ok-kind.rest.now) c.in-Pin.is c.in_ok-kind.ensures in
    let l0 = lift-image is_digit (λ (p : RuleKind × Rule). p.1) (Cat RuleWord RuleParts) c.args.text.now in
    let l1 = read_next l0 sure-rule_word next-parts word in
    MatchResult-weaker c.pin.result c.pin.ensures (λ f r. l1.reads f.0 f.1.now r) (λ e f. last_unread l1 e f)

pub returns-in-Demodulate : goal.returns-in-Demodulate
returns-in-Demodulate c =
    let word : Reads RuleWord c.args.text.now kind.Demodulate c.in_ok-kind.rest.now = subst (λ k. Reads RuleWord c.args.text.now k c.in_ok-kind.rest.now) c.in-Demodulate.is c.in_ok-kind.ensures in
    let l0 = lift-image is_digit (λ (p : RuleKind × Rule). p.1) (Cat RuleWord RuleParts) c.args.text.now in
    let l1 = read_next l0 sure-rule_word next-parts word in
    MatchResult-weaker c.demodulate.result c.demodulate.ensures (λ f r. l1.reads f.0 f.1.now r) (λ e f. last_unread l1 e f)

pub returns-in-Define : goal.returns-in-Define
returns-in-Define c =
    let word : Reads RuleWord c.args.text.now kind.Define c.in_ok-kind.rest.now = subst (λ k. Reads RuleWord c.args.text.now k c.in_ok-kind.rest.now) c.in-Define.is c.in_ok-kind.ensures in
    let l0 = lift-image is_digit (λ (p : RuleKind × Rule). p.1) (Cat RuleWord RuleParts) c.args.text.now in
    let l1 = read_next l0 sure-rule_word next-parts word in
    MatchResult-weaker c.define.result c.define.ensures (λ f r. l1.reads f.0 f.1.now r) (λ e f. last_unread l1 e f)

pub returns-in-Close : goal.returns-in-Close
returns-in-Close c =
    let word : Reads RuleWord c.args.text.now kind.Close c.in_ok-kind.rest.now = subst (λ k. Reads RuleWord c.args.text.now k c.in_ok-kind.rest.now) c.in-Close.is c.in_ok-kind.ensures in
    let l0 = lift-image is_digit (λ (p : RuleKind × Rule). p.1) (Cat RuleWord RuleParts) c.args.text.now in
    let l1 = read_next l0 sure-rule_word next-parts word in
    MatchResult-weaker c.close.result c.close.ensures (λ f r. l1.reads f.0 f.1.now r) (λ e f. last_unread l1 e f)
