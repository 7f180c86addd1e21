-- The types of heads as they are looked up. Private contracts alone cite this file.
use Rattle.std.specs.Prelude.{Option, option_map}
use Rattle.tff_reader.specs.declared.heads.HeadType.{HeadType as FoundType}
use Rattle.tff_reader.specs.Typing.{HeadType}

-- a type as it was looked up, as one of the definition
abbrev pub typed_as : FoundType → HeadType
typed_as h = record { args = h.args.now; result = h.result }

-- the same, where there is one
abbrev pub typed : Option FoundType → Option HeadType
typed = option_map typed_as
