use Rattle.std.proofs.Common.{◌≡◌, ◌∙◌, Option, subst}
use Rattle.std.specs.Prelude.{codes, false, unwrap_or}
use Rattle.std.specs.Option.{option_map_or}
use Rattle.std.specs.Str.{bytes_eq}
use Rattle.clap.specs.Matches.{found_of}
use Rattle.clap.specs.Walk.{Text}
use Rattle.clap.proofs.WalkLemmas.{one_text-rows}
use Rattle.command_line.proofs.ArgumentReads.{flag_read}
use Rattle.command_line.proofs.arguments.is_set.Goals as goal

pub returns : goal.returns
returns c =
    let same = one_text-rows (found_of c.args.matches.now) c.args.name.now in
    c.unwrap_or.ensures
    ∙ subst (λ (o : Option Text). unwrap_or c.get_one.result false ≡ option_map_or (λ text. bytes_eq text (codes "true")) o false) same
    (flag_read _ _ c.get_one.result c.get_one.ensures.none c.get_one.ensures.value)
