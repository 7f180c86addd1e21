use Rattle.std.proofs.Common.{◌≡◌, Option, subst, sym}
use Rattle.std.specs.Prelude.{option_map, true}
use Rattle.std.specs.Option.{option_map_or}
use Rattle.std.specs.Str.Parse.{ParsesUnsigned, ExplainsUnsignedError, HasUnsignedDigitsIfOk}
use Rattle.clap.specs.Matches.{found_of}
use Rattle.clap.specs.ValueTests.{is_unsigned_in}
use Rattle.clap.specs.Walk.{Text}
use Rattle.clap.proofs.WalkLemmas.{one_text-rows}
use Rattle.command_line.specs.Command.{number_in}
use Rattle.command_line.proofs.ArgumentReads.{number_read}
use Rattle.command_line.proofs.arguments.number_of.Goals as goal

pub returns-clause-value : goal.returns-clause-value
returns-clause-value c =
    let same = one_text-rows (found_of c.args.matches.now) c.args.name.now in
    let read = number_read (λ bs r. ParsesUnsigned 64 10 bs r × ExplainsUnsignedError 10 bs r × HasUnsignedDigitsIfOk bs r) c.args.low c.args.high _ c.get_one.result
    (λ u x g. g.0) c.get_one.ensures.none c.get_one.ensures.value
    (subst (λ (o : Option Text). option_map_or (is_unsigned_in c.args.low c.args.high) o true ≡ true) (sym same) c.requires) in
    subst (λ (o : Option Text). c.get_one.result ≡ option_map number_in o) same read.0

pub returns-clause-bound : goal.returns-clause-bound
returns-clause-bound c =
    let same = one_text-rows (found_of c.args.matches.now) c.args.name.now in
    let read = number_read (λ bs r. ParsesUnsigned 64 10 bs r × ExplainsUnsignedError 10 bs r × HasUnsignedDigitsIfOk bs r) c.args.low c.args.high _ c.get_one.result
    (λ u x g. g.0) c.get_one.ensures.none c.get_one.ensures.value
    (subst (λ (o : Option Text). option_map_or (is_unsigned_in c.args.low c.args.high) o true ≡ true) (sym same) c.requires) in
    read.1
