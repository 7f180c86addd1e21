-- The command and its six arguments, in the words of the library that reads them.
use Rattle.std.specs.Prelude.{ℕ, nat_eq, Bool, true, false, not, ◌&&◌, ◌||◌, List, [], ◌∷◌, codes, Option, Some, is_some, option_map, unwrap_or, if◌then◌else◌}
use Rattle.std.specs.Option.{option_map_or}
use Rattle.std.specs.Str.{bytes_eq}
use Rattle.std.specs.Str.Parse.{digits_value, without_leading_plus}
use Rattle.clap.specs.Walk.{Row, Rule, Text, first_of, is_empty, one_of}
use Rattle.clap.specs.Simple.{App, matches_of, new_rule, new_shape}
use Rattle.clap.specs.Faults.{fault_of}
use Rattle.clap.specs.declared.builder.action.ArgAction.TheVariants.{Set, SetTrue}
use Rattle.clap.specs.declared.builder.value_parser.ValueParser.TheVariants as parser
use Rattle.options.specs.declared.asked.Mode.{Mode}
use Rattle.options.specs.declared.asked.Mode.TheVariants.{Prove, Check, Make}
use Rattle.options.specs.declared.asked.Options.{Options}
use Rattle.options.specs.declared.limits.TheConstants.{DEFAULT_JUDGE_STEPS, DEFAULT_TURNS, DEFAULT_WORKERS, LAST_MADE, MAX_JUDGE_STEPS, MAX_TURNS, MAX_WORKERS}

-- ---- the command
-- an option that takes one whole number from low to high
abbrev pub number_rule : Text → ℕ → ℕ → Rule
number_rule name low high = record (new_rule name) { long = Some name; action = Some Set; parser = Some (parser.Unsigned low high) }

-- an option without a value
abbrev pub flag_rule : Text → Rule
flag_rule name = record (new_rule name) { long = Some name; action = Some SetTrue }

-- the six arguments
abbrev pub rules : List Rule
rules =
    number_rule (codes "workers") 1 MAX_WORKERS ∷ number_rule (codes "turns") 1 MAX_TURNS
    ∷ number_rule (codes "judge-steps") 1 MAX_JUDGE_STEPS ∷ flag_rule (codes "ordinary") ∷ flag_rule (codes "check")
    ∷ number_rule (codes "make") 0 LAST_MADE ∷ []

-- the command, whose words don't begin with its name
abbrev pub command : App
command = record { top = record (new_shape (codes "beagle")) { no_binary_name = true; rules = rules }; subs = [] }

-- ---- what the words give
-- the number that a text spells
abbrev pub number_in : Text → ℕ
number_in text = digits_value 10 (without_leading_plus text)

-- the number of an option, where it is there
abbrev pub number_of : Text → List Row → Option ℕ
number_of name rows = option_map number_in (one_of name rows)

-- the number of an option, or else its default
abbrev pub number_or : ℕ → Text → List Row → ℕ
number_or default name rows = unwrap_or (number_of name rows) default

-- the option without a value is there
abbrev pub is_set : Text → List Row → Bool
is_set name rows = option_map_or (λ text. bytes_eq text (codes "true")) (one_of name rows) false

-- what the run does
abbrev pub mode_of : List Row → Mode
mode_of rows = if is_set (codes "check") rows then Check else option_map_or Make (number_of (codes "make") rows) Prove

-- the options of a run
abbrev pub options_in : List Row → Options
options_in rows = record {
  workers = number_or DEFAULT_WORKERS (codes "workers") rows;
  turns = number_or DEFAULT_TURNS (codes "turns") rows;
  judge_steps = number_or DEFAULT_JUDGE_STEPS (codes "judge-steps") rows;
  ordinary = is_set (codes "ordinary") rows;
  mode = mode_of rows;
}

-- the options that the words give
abbrev pub options_of : List Text → Options
options_of words = options_in (matches_of command words)

-- ---- refusals
-- `--check` stands beside `--make`
abbrev pub asks_both : List Row → Bool
asks_both rows = is_set (codes "check") rows && is_some (number_of (codes "make") rows)

-- the text has no plus sign in front, and no zero in front of other digits
abbrev pub is_plain : Text → Bool
is_plain [] = true
is_plain (b ∷ bs) = not (nat_eq b 43) && (not (nat_eq b 48) || is_empty bs)

-- the value of an option, where it is there, is plain
abbrev pub is_plain_at : Text → List Row → Bool
is_plain_at name rows = option_map_or is_plain (first_of name rows) true

-- the values of the four options with a number are plain
abbrev pub are_plain : List Row → Bool
are_plain rows =
    is_plain_at (codes "workers") rows && (is_plain_at (codes "turns") rows
    && (is_plain_at (codes "judge-steps") rows && is_plain_at (codes "make") rows))

-- the command refuses the words, for help too, or they ask for both jobs, or a number isn't plain
abbrev pub is_usage : List Text → Bool
is_usage words =
    not (is_empty (fault_of command words))
    || (asks_both (matches_of command words) || not (are_plain (matches_of command words)))
