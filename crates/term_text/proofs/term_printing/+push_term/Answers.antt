use Rattle.std.proofs.Common.{◌++◌, ◌∙◌, refl, sym, ap, subst, arith, rules, FitsSigned, ◌+◌}
use Rattle.std.specs.Int.{w128}
use Rattle.std.proofs.lemmas.Int.{to_z-of_z}
use Rattle.std.proofs.lemmas.Result.{MatchResult-weaker}
use Rattle.text_pieces.specs.Decimals.{decimal, signed_decimal}
use Rattle.term_text.specs.Terms.{SpellsTerm}
use Rattle.term_text.proofs.Printed.{adds-var, adds-num, adds-true, adds-sum, adds-multiple, adds-no_argument, adds-some_arguments, opening_next, opening_all, Opening}
use Rattle.text_pieces.specs.Printing.{Adds, Puts}
use Rattle.term_text.proofs.ExactTexts.{puts_term}
use Rattle.text_pieces.proofs.Keeping.{as_it_was, by_bytes, then_added, then_kept, puts_err}
use Rattle.term_text.proofs.term_printing.+push_term.Goals as goal

pub push_term-returns-in-Var-clause-spelled : goal.push_term-returns-in-Var-clause-spelled
push_term-returns-in-Var-clause-spelled t c =
    MatchResult-weaker c.push_variable.result c.push_variable.ensures (λ d e. subst (λ z. Adds SpellsTerm z c.args.text.now.items c.push_variable.new.text.items) (sym c.in-Var.is) (adds-var c.in-Var.v c.args.text.now.items c.push_variable.new.text.items e)) (λ d k. k)

pub push_term-returns-in-Num-clause-spelled : goal.push_term-returns-in-Num-clause-spelled
push_term-returns-in-Num-clause-spelled t c =
    let fits : FitsSigned w128 c.in-Num.n = search rules in
    MatchResult-weaker c.push_signed_decimal.result c.push_signed_decimal.ensures (λ d e. subst (λ z. Adds SpellsTerm z c.args.text.now.items c.push_signed_decimal.new.text.items) (sym c.in-Num.is) (adds-num c.in-Num.n c.args.text.now.items c.push_signed_decimal.new.text.items fits (e ∙ ap (λ z. c.args.text.now.items ++ signed_decimal z) (to_z-of_z w128 c.in-Num.n fits)))) (λ d k. as_it_was k)

pub push_term-returns-in-True-clause-spelled : goal.push_term-returns-in-True-clause-spelled
push_term-returns-in-True-clause-spelled t c =
    MatchResult-weaker c.push.result c.push.ensures (λ d e. subst (λ z. Adds SpellsTerm z c.args.text.now.items c.push.new.text.items) (sym c.in-True.is) (adds-true c.args.text.now.items c.push.new.text.items e)) (λ d k. as_it_was k)

pub push_multiple-returns : goal.push_multiple-returns
push_multiple-returns t c =
    MatchResult-weaker c.push-3.result c.push-3.ensures (λ d e. adds-multiple c.args.k c.args.a.now c.args.text.now.items c.push.new.text.items c.push_signed_decimal.new.text.items c.push-2.new.text.items c.push_term.new.text.items c.push-3.new.text.items c.ranges.k c.in_ok-push.ensures (c.in_ok-push_signed_decimal.ensures ∙ ap (λ z. c.push.new.text.items ++ signed_decimal z) (to_z-of_z w128 c.args.k c.ranges.k)) c.in_ok-push-2.ensures c.in_ok-push_term.ensures.spelled e) (λ d k. then_kept (then_added (then_kept (then_kept (by_bytes _ c.in_ok-push.ensures) (by_bytes _ c.in_ok-push_signed_decimal.ensures)) (by_bytes _ c.in_ok-push-2.ensures)) c.in_ok-push_term.ensures.spelled) (as_it_was k))

pub push_arguments-loop-argument-init : goal.push_arguments-loop-argument-init
push_arguments-loop-argument-init t c = record { so = (c.as_slice-front.ensures, refl); within = omega arith; kept = as_it_was refl }

pub push_arguments-loop-argument-preserved : goal.push_arguments-loop-argument-preserved
push_arguments-loop-argument-preserved t c =
    record {
      so = subst (λ w. Opening c.args.arguments.now c.args.text.now.items (c.loop-argument.argument-index + 1) w c.push_term.new.text.items) (sym c.as_slice-front-in-loop-argument.ensures) (opening_next c.args.arguments.now c.loop-argument.argument-index c.argument-item.result c.args.text.now.items c.loop-argument.front.now c.loop-argument.text.items c.push.new.text.items c.push_term.new.text.items c.loop-argument-test.true c.argument-item.is c.loop-argument.invariant.so c.in_ok-push.ensures c.in_ok-push_term.ensures.spelled);
      within = omega (arith, c.loop-argument-test.true);
      kept = then_added (then_kept c.loop-argument.invariant.kept (by_bytes _ c.in_ok-push.ensures)) c.in_ok-push_term.ensures.spelled;
    }

pub push_arguments-returns-clause-opened : goal.push_arguments-returns-clause-opened
push_arguments-returns-clause-opened t c = opening_all c.args.arguments.now c.loop-argument.argument-index c.args.text.now.items c.loop-argument.front.now c.loop-argument.text.items c.loop-argument-test.false c.loop-argument.invariant.within c.loop-argument.invariant.so

pub push_term-returns-in_ok-push_term-in-Sum-2-clause-spelled : goal.push_term-returns-in_ok-push_term-in-Sum-2-clause-spelled
push_term-returns-in_ok-push_term-in-Sum-2-clause-spelled t c =
    MatchResult-weaker c.push-in-Sum-3.result c.push-in-Sum-3.ensures (λ d e. subst (λ z. Adds SpellsTerm z c.args.text.now.items c.push-in-Sum-3.new.text.items) (sym c.in-Sum.is) (adds-sum _ _ c.args.text.now.items c.push-in-Sum.new.text.items c.push_term.new.text.items c.push-in-Sum-2.new.text.items c.push_term-in-Sum.new.text.items c.push-in-Sum-3.new.text.items c.in_ok-push-in-Sum.ensures (subst (λ z. Adds SpellsTerm z c.push-in-Sum.new.text.items c.push_term.new.text.items) c.get.ensures c.in_ok-push_term-in-Sum.ensures.spelled) c.in_ok-push-in-Sum-2.ensures (subst (λ z. Adds SpellsTerm z c.push-in-Sum-2.new.text.items c.push_term-in-Sum.new.text.items) c.get-in-Sum.ensures c.in_ok-push_term-in-Sum-2.ensures.spelled) e)) (λ d k. then_kept (then_added (then_kept (then_added (by_bytes _ c.in_ok-push-in-Sum.ensures) c.in_ok-push_term-in-Sum.ensures.spelled) (by_bytes _ c.in_ok-push-in-Sum-2.ensures)) c.in_ok-push_term-in-Sum-2.ensures.spelled) (as_it_was k))

pub push_application-returns-then-is_empty : goal.push_application-returns-then-is_empty
push_application-returns-then-is_empty t c =
    adds-no_argument c.args.f c.args.arguments.now c.args.text.now.items c.push.new.text.items c.push_decimal.new.text.items c.push_arguments.new.text.items (omega (arith, c.ranges.f.fits)) c.in_ok-push.ensures (c.in_ok-push_decimal.ensures ∙ ap (λ k. c.push.new.text.items ++ decimal k) c.from.ensures) c.in_ok-push_arguments.ensures.opened (sym c.is_empty.ensures ∙ c.if-is_empty.true)

pub push_application-returns-else-is_empty : goal.push_application-returns-else-is_empty
push_application-returns-else-is_empty t c =
    MatchResult-weaker c.push-else-is_empty.result c.push-else-is_empty.ensures (λ d e. adds-some_arguments c.args.f c.args.arguments.now c.args.text.now.items c.push.new.text.items c.push_decimal.new.text.items c.push_arguments.new.text.items c.push-else-is_empty.new.text.items (omega (arith, c.ranges.f.fits)) c.in_ok-push.ensures (c.in_ok-push_decimal.ensures ∙ ap (λ k. c.push.new.text.items ++ decimal k) c.from.ensures) c.in_ok-push_arguments.ensures.opened (sym c.is_empty.ensures ∙ c.if-is_empty.false) e) (λ d k. then_kept (then_kept (then_kept (by_bytes _ c.in_ok-push.ensures) (by_bytes _ c.in_ok-push_decimal.ensures)) c.push_arguments.ensures.kept) (as_it_was k))

pub push_term-returns-in-Var-clause-exact : goal.push_term-returns-in-Var-clause-exact
push_term-returns-in-Var-clause-exact t c = puts_term c.args.t.now c.args.text.now.items c.push_variable.new.text.items c.push_variable.result (push_term-returns-in-Var-clause-spelled t c)

pub push_term-returns-in-Num-clause-exact : goal.push_term-returns-in-Num-clause-exact
push_term-returns-in-Num-clause-exact t c = puts_term c.args.t.now c.args.text.now.items c.push_signed_decimal.new.text.items c.push_signed_decimal.result (push_term-returns-in-Num-clause-spelled t c)

pub push_term-returns-in-True-clause-exact : goal.push_term-returns-in-True-clause-exact
push_term-returns-in-True-clause-exact t c = puts_term c.args.t.now c.args.text.now.items c.push.new.text.items c.push.result (push_term-returns-in-True-clause-spelled t c)

pub push_term-returns-in_ok-push_term-in-Sum-2-clause-exact : goal.push_term-returns-in_ok-push_term-in-Sum-2-clause-exact
push_term-returns-in_ok-push_term-in-Sum-2-clause-exact t c = puts_term c.args.t.now c.args.text.now.items c.push-in-Sum-3.new.text.items c.push-in-Sum-3.result (push_term-returns-in_ok-push_term-in-Sum-2-clause-spelled t c)

pub push_term-returns-in-Scale-clause-exact : goal.push_term-returns-in-Scale-clause-exact
push_term-returns-in-Scale-clause-exact t c =
    let spelled : Puts SpellsTerm c.args.t.now c.args.text.now.items c.push_multiple.new.text.items c.push_multiple.result = search rules in
    puts_term c.args.t.now c.args.text.now.items c.push_multiple.new.text.items c.push_multiple.result spelled

pub push_term-returns-in-App-clause-exact : goal.push_term-returns-in-App-clause-exact
push_term-returns-in-App-clause-exact t c =
    let spelled : Puts SpellsTerm c.args.t.now c.args.text.now.items c.push_application.new.text.items c.push_application.result = search rules in
    puts_term c.args.t.now c.args.text.now.items c.push_application.new.text.items c.push_application.result spelled
