use Rattle.std.proofs.Common.{◌++◌, ap, sym, ◌∙◌, subst, arith}
use Rattle.std.proofs.lemmas.Bool.{false≢true}
use Rattle.text_pieces.specs.Decimals.{decimal}
use Rattle.text_pieces.specs.Numbers.{Within, Reaches}
use Rattle.text_pieces.proofs.Digits.{decimal_digit}
use Rattle.text_pieces.proofs.Reaching.{window_front, window_no_digit}
use Rattle.text_pieces.proofs.numbers.first_digit.Goals as goal

pub returns-in_default-clause-err : goal.returns-in_default-clause-err
returns-in_default-clause-err c = window_no_digit c.args.low c.args.high c.args.text.now c.requires.ordered c.in_default.ensures.none

pub returns-then-not-goes_on-clause-err : goal.returns-then-not-goes_on-clause-err
returns-then-not-goes_on-clause-err c =
    window_front c.args.low c.args.high c.args.text.now c.in-Some.digit c.in-Some.rest.now c.requires.ordered c.in-Some.ensures.digit.0 c.in-Some.ensures.digit.1
    (λ z w. false≢true (sym c.if-not-goes_on.true ∙ c.goes_on.ensures.zero (c.from-value.ensures ∙ z) w), λ p r. false≢true (sym c.if-not-goes_on.true ∙ c.goes_on.ensures.positive (omega (arith, c.from-value.ensures)) (subst (Reaches (Within c.args.low c.args.high)) (sym c.from-value.ensures) r)))

pub returns-clause-ok : goal.returns-clause-ok
returns-clause-ok c = (
  c.in-Some.ensures.digit.0 ∙ ap (λ t. t ++ c.in-Some.rest.now) (sym (decimal_digit c.in-Some.digit c.in-Some.ensures.digit.1)) ∙ ap (λ v. decimal v ++ c.in-Some.rest.now) (sym c.from-value.ensures),
  c.goes_on.ensures.yes c.if-not-goes_on.false,
)
