use Rattle.std.proofs.Common.{◌≡◌, ◌∙◌, Option, Some, None, true, rules, refl, subst}
use Rattle.std.specs.Option.{option_map_or}
use Rattle.clap.specs.Matches.{found_of, first_value}
use Rattle.clap.specs.Walk.{Text}
use Rattle.clap.proofs.WalkLemmas.{first_value-rows}
use Rattle.command_line.specs.Command.{is_plain}
use Rattle.command_line.proofs.arguments.is_plain_at.Goals as goal

pub returns-in-Some : goal.returns-in-Some
returns-in-Some c =
    let same = first_value-rows (found_of c.args.matches.now) c.args.name.now in
    let there : Some c.in-Some.text.now ≡ first_value (found_of c.args.matches.now) c.args.name.now = search rules in
    c.is_plain.ensures
    ∙ subst (λ (o : Option Text). is_plain c.in-Some.text.now ≡ option_map_or is_plain o true) (there ∙ same) refl

pub returns-in-None : goal.returns-in-None
returns-in-None c =
    let same = first_value-rows (found_of c.args.matches.now) c.args.name.now in
    let none : None ≡ first_value (found_of c.args.matches.now) c.args.name.now = search rules in
    subst (λ (o : Option Text). true ≡ option_map_or is_plain o true) (none ∙ same) refl
