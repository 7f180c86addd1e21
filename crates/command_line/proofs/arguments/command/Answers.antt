use Rattle.std.proofs.Common.{◌≡◌, ◌∙◌, [], true, ap, ap₂, codes}
use Rattle.std.proofs.lemmas.Result.{IfOk-weaker}
use Rattle.clap.specs.Simple.{App, app_of, app_of_fields, new_shape, with_rule}
use Rattle.options.specs.declared.limits.TheConstants.{MAX_JUDGE_STEPS, MAX_TURNS, MAX_WORKERS}
use Rattle.command_line.specs.Command.{number_rule, flag_rule}
use Rattle.command_line.proofs.arguments.command.Goals as goal

abbrev start : App
start = record { top = record (new_shape (codes "beagle")) { no_binary_name = true }; subs = [] }

abbrev one : App
one = with_rule start (number_rule (codes "workers") 1 MAX_WORKERS)

abbrev two : App
two = with_rule one (number_rule (codes "turns") 1 MAX_TURNS)

abbrev three : App
three = with_rule two (number_rule (codes "judge-steps") 1 MAX_JUDGE_STEPS)

abbrev four : App
four = with_rule three (flag_rule (codes "ordinary"))

abbrev five : App
five = with_rule four (flag_rule (codes "check"))

pub returns : goal.returns
returns c =
    let s0 : app_of c.no_binary_name.result ≡ start = ap app_of_fields c.no_binary_name.ensures
    ∙ ap (λ (a : App). record a { top = record a.top { no_binary_name = true } }) c.new.ensures.app in
    let s1 : app_of c.in_ok-arg.field-0 ≡ one = c.in_ok-arg.ensures.shape c.number.ensures.local ∙ ap₂ with_rule s0 c.number.ensures.rule in
    let s2 : app_of c.in_ok-arg-2.field-0 ≡ two = c.in_ok-arg-2.ensures.shape c.number-2.ensures.local ∙ ap₂ with_rule s1 c.number-2.ensures.rule in
    let s3 : app_of c.in_ok-arg-3.field-0 ≡ three = c.in_ok-arg-3.ensures.shape c.number-3.ensures.local ∙ ap₂ with_rule s2 c.number-3.ensures.rule in
    let s4 : app_of c.in_ok-arg-4.field-0 ≡ four = c.in_ok-arg-4.ensures.shape c.flag.ensures.local ∙ ap₂ with_rule s3 c.flag.ensures.rule in
    let s5 : app_of c.in_ok-arg-5.field-0 ≡ five = c.in_ok-arg-5.ensures.shape c.flag-2.ensures.local ∙ ap₂ with_rule s4 c.flag-2.ensures.rule in
    IfOk-weaker c.arg-6.result _ _ (λ d h. h.shape c.number-4.ensures.local ∙ ap₂ with_rule s5 c.number-4.ensures.rule) c.arg-6.ensures
