-- Each value of an option with a number passed its parser.
use Rattle.std.proofs.Common.{◌≡◌, ◌⊎◌, ◌<◌, ◌∙◌, ℕ, zero, suc, Bool, true, false, not, List, [], ◌∷◌, length, map, Option, Some, None, refl, sym, ap, subst, inl, inr, arith}
use Rattle.std.specs.Prelude.{⊤, codes, option_map, option_and_then, slice_get, unwrap_or}
use Rattle.std.specs.List.{All, slice_index_or}
use Rattle.std.specs.Option.{option_map_or}
use Rattle.std.specs.Str.{bytes_eq}
use Rattle.std.specs.Borrow.{Bor}
use Rattle.std.proofs.lemmas.Bool.{cases_lt, eqb-true}
use Rattle.std.proofs.lemmas.List.Elements.{All-get_or}
use Rattle.std.proofs.lemmas.Slice.Eq.{bytes_eq-Decides}
use Rattle.clap.specs.Facts.{Entry, EntryPasses, HasReading, PassesArg, args_of, groups_of, parser_of, parser_of_value}
use Rattle.clap.specs.Built.{IsAuto, IsParsedFrom, NamesNoGroup, SameRules}
use Rattle.clap.specs.Matches.{found_of, matched_of, one_text}
use Rattle.clap.specs.Simple.{App, app_of, has_plain_fields}
use Rattle.clap.specs.Values.{Accepts, read_as, reading_of}
use Rattle.clap.specs.ValueTests.{is_unsigned_in}
use Rattle.clap.specs.Walk.{Rule, Text, is_empty, rows_of, rule_of}
use Rattle.clap.specs.declared.builder.arg.Arg.{Arg}
use Rattle.clap.specs.declared.builder.command.Command.{Command}
use Rattle.clap.specs.declared.builder.command.Command.TheViews.{out-Command}
use Rattle.clap.specs.declared.builder.value_parser.Reading.TheVariants as reading
use Rattle.clap.specs.declared.builder.value_parser.ValueParser.{ValueParser}
use Rattle.clap.specs.declared.builder.value_parser.ValueParser.TheVariants as parser
use Rattle.clap.specs.declared.parser.matches.ArgMatches.{ArgMatches}
use Rattle.clap.specs.declared.parser.matches.MatchedArg.{MatchedArg}
use Rattle.clap.proofs.CallerLemmas.{entry_by_id}
use Rattle.clap.proofs.ValueTestLemmas.{Accepts-accepts}
use Rattle.clap.proofs.WalkLemmas.{both, one_text-rows}
use Rattle.options.specs.declared.limits.TheConstants.{LAST_MADE, MAX_JUDGE_STEPS, MAX_TURNS, MAX_WORKERS}
use Rattle.command_line.specs.Command.{command, rules}
use Rattle.command_line.specs.Matches.{AreRead, has_number}

-- ---- the command's arguments
none_left : {X : Type 0} (xs : List X) → is_empty xs ≡ true → xs ≡ []
none_left [] e = refl
none_left (x ∷ xs) e =
    let bad : length (x ∷ xs) ≡ 0 = eqb-true _ _ e in
    absurd (omega arith)

falsified : (b : Bool) → not b ≡ true → b ≡ false
falsified true e = cc
falsified false e = refl

rule_at : (xs : List Arg) (j : ℕ) (d : Arg) → j < length xs → rule_of (slice_index_or xs j d) ≡ slice_index_or (map rule_of xs) j (rule_of d)
rule_at [] j d lt = absurd (omega arith)
rule_at (x ∷ xs) zero d lt = refl
rule_at (x ∷ xs) (suc j) d lt = rule_at xs j d (omega arith)

abbrev Each : (Rule → Type 0) → List Rule → Type 0
Each P [] = ⊤
Each P (r ∷ rs) = P r × Each P rs

each_at : (P : Rule → Type 0) (rs : List Rule) (j : ℕ) (d : Rule) → Each P rs → j < length rs → P (slice_index_or rs j d)
each_at P [] j d h lt = absurd (omega arith)
each_at P (r ∷ rs) zero d h lt = h.0
each_at P (r ∷ rs) (suc j) d h lt = each_at P rs j d h.1 (omega arith)

same_length : (xs : List Arg) → length (map rule_of xs) ≡ length xs
same_length [] = refl
same_length (x ∷ xs) = ap suc (same_length xs)

-- what holds of each rule holds of the rule of each argument
of_each : (P : Rule → Type 0) (xs : List Arg) → map rule_of xs ≡ rules → Each P rules → (j : ℕ) (d : Arg) → j < length xs
    → P (rule_of (slice_index_or xs j d))
of_each P xs same each j d lt =
    let within : j < length (map rule_of xs) = rw (same_length xs) lt in
    let all : Each P (map rule_of xs) = rw same each in
    rw (rule_at xs j d lt) (each_at P (map rule_of xs) j (rule_of d) all within)

-- an argument with this id has this parser
abbrev IsOnly : Text → ValueParser → Rule → Type 0
IsOnly id q r = bytes_eq r.id id ≡ true → r.parser ≡ Some q

abbrev IsSimpleRule : Rule → Type 0
IsSimpleRule r = r.is_simple ≡ true

rules_of : (c : Command) → app_of c ≡ command → map rule_of (args_of c) ≡ rules
rules_of c e = ap (λ (a : App). a.top.rules) e

fields_plain : (c : Command) → app_of c ≡ command → has_plain_fields (out-Command c) ≡ true
fields_plain c e = ap (λ (a : App). a.top.is_plain) e

no_groups : (c : Command) → app_of c ≡ command → groups_of c ≡ []
no_groups c e = none_left _ (both _ _ (fields_plain c e)).0

no_globals : (c : Command) → app_of c ≡ command → (out-Command c).has_globals ≡ false
no_globals c e = falsified _ (both _ _ (both _ _ (both _ _ (fields_plain c e)).1).1).0

no_group_names : (c : Command) → app_of c ≡ command → NamesNoGroup c
no_group_names c e = λ k d lt.
    let simple = of_each IsSimpleRule (args_of c) (rules_of c e) (refl, (refl, (refl, (refl, (refl, (refl, tt)))))) k d lt in
    none_left _ (both _ _ (both _ _ (both _ _ simple).1).1).0

-- ---- one option
-- the id is neither that of help nor that of the version
record IsOwn (id : Text) : Type 0 where
  help : bytes_eq (codes "help") id ≡ false
  version : bytes_eq (codes "version") id ≡ false

not_automatic : (id : Text) (y : Arg) → IsOwn id → bytes_eq y.id.now id ≡ true → IsAuto y → ⊥
not_automatic id y own same (inl h) =
    let bad : false ≡ true = sym own.help ∙ subst (λ (w : Text). bytes_eq w id ≡ true) h same in
    cc
not_automatic id y own same (inr h) =
    let bad : false ≡ true = sym own.version ∙ subst (λ (w : Text). bytes_eq w id ≡ true) h same in
    cc

parser_built : (c : Command) (m : ArgMatches) (e : app_of c ≡ command) (p : IsParsedFrom c m) (id : Text) (q : ValueParser) → Each (IsOnly id q) rules
    → IsOwn id → (j : ℕ) (y : Arg) → j < length (args_of p.built) → slice_index_or (args_of p.built) j y ≡ y → bytes_eq y.id.now id ≡ true
    → y.value_parser ≡ Some q
parser_built c m e p id q only own j y high at same = elim (cases_lt j (length (args_of c))) [
  | inl under ↦
      let s = subst (λ w. SameRules (slice_index_or (args_of c) j y) w) at (p.from.kept j y under).1 in
      let old_same : bytes_eq (slice_index_or (args_of c) j y).id.now id ≡ true = rw (← s.id) same in
      s.parser q (of_each (IsOnly id q) (args_of c) (rules_of c e) only j y under old_same)
  | inr over ↦ absurd (not_automatic id y own same (subst IsAuto at (p.from.extra j y over high)))
]

-- the value of an entry passed the parser, and is read as it was written
record Passes (q : ValueParser) (t : Text) : Type 0 where
  ignore_case : Bool
  accepted : Accepts ignore_case q t

entry_passes : (c : Command) (m : ArgMatches) (e : app_of c ≡ command) (p : IsParsedFrom c m) (id : Text) (q : ValueParser)
    → Each (IsOnly id q) rules → IsOwn id → (id ≡ [] → ⊥) → reading_of q ≡ reading.AsWritten
    → (x : Entry) → EntryPasses p.built x → bytes_eq x.0.now id ≡ true → (v : Bor Text) (vs : List (Bor Text)) → x.1.vals.items ≡ v ∷ vs
    → (x.1.reading ≡ reading.AsWritten) × Passes q v.now
entry_passes c m e p id q only own named written x pass key v vs is = (by_reading pass.4, by_values pass.0)
  where
    key_id : x.0.now ≡ id
    key_id = (bytes_eq-Decides x.0.now id).0 key

    groupless : groups_of p.built ≡ []
    groupless = (p.from.same_groups (no_group_names c e)).1 ∙ no_groups c e

    no_group : x.1.is_group ≡ true → ⊥
    no_group g = elim (pass.3 g) [
      | inl empty ↦ named (sym key_id ∙ empty)
      | inr lots ↦
          let bad : 0 < 0 = rw groupless at lots in
          omega arith
    ]

    parser_is : (j : ℕ) (y : Arg) → j < length (args_of p.built) → slice_index_or (args_of p.built) j y ≡ y → bytes_eq y.id.now x.0.now ≡ true → parser_of y ≡ q
    parser_is j y high at same = ap parser_of_value (parser_built c m e p id q only own j y high at (rw (← key_id) same))

    by_reading : (x.1.is_group ≡ true) ⊎ HasReading p.built x.0.now x.1.reading → x.1.reading ≡ reading.AsWritten
    by_reading (inl g) = absurd (no_group g)
    by_reading (inr h) = sym h.4.1 ∙ ap reading_of (parser_is h.0 h.1 h.2 h.3 h.4.0) ∙ written

    by_first : PassesArg p.built x.0.now v.now → Passes q v.now
    by_first h = record {
      ignore_case = h.1.ignore_case;
      accepted = subst (λ (w : ValueParser). Accepts h.1.ignore_case w v.now) (parser_is h.0 h.1 h.2 h.3 h.4.0) h.4.1;
    }

    by_values : (x.1.is_group ≡ true) ⊎ All (λ w. PassesArg p.built x.0.now w.now) x.1.vals.items → Passes q v.now
    by_values (inl g) = absurd (no_group g)
    by_values (inr h) =
        by_first (All-get_or (λ w. PassesArg p.built x.0.now w.now) (v ∷ vs) 0 v (omega arith) (subst (All (λ w. PassesArg p.built x.0.now w.now)) is h))

text_passes : (c : Command) (m : ArgMatches) (e : app_of c ≡ command) (p : IsParsedFrom c m) (id : Text) (q : ValueParser)
    → Each (IsOnly id q) rules → IsOwn id → (id ≡ [] → ⊥) → reading_of q ≡ reading.AsWritten
    → (t : Text) → one_text (found_of m) id ≡ Some t → Passes q t
text_passes c m e p id q only own named written t text = go (matched_of (found_of m) id) refl text
  where
    first : (x : Entry) → EntryPasses p.built x → bytes_eq x.0.now id ≡ true → (vs : List (Bor Text)) → x.1.vals.items ≡ vs
        → option_map (λ s. read_as x.1.reading s.now) (slice_get vs 0) ≡ Some t → Passes q t
    first x pass key [] is found = cc
    first x pass key (v ∷ vs) is found =
        let both_hold = entry_passes c m e p id q only own named written x pass key v vs is in
        let same : Some v.now ≡ Some t = rw both_hold.0 at found in
        let is_t : v.now ≡ t = ap (λ (o : Option Text). unwrap_or o t) same in
        subst (Passes q) is_t both_hold.1

    go : (o : Option MatchedArg) → matched_of (found_of m) id ≡ o
        → option_and_then (λ (a : MatchedArg). option_map (λ s. read_as a.reading s.now) (slice_get a.vals.items 0)) o ≡ Some t → Passes q t
    go None is found = cc
    go (Some a) is found =
        let got = entry_by_id (EntryPasses p.built) (found_of m).entries.items id a (p.parsed (p.from.globals ∙ no_globals c e)).values is in
        first got.0 got.3 got.2 got.0.1.vals.items refl (rw got.1 found)

-- ---- the four options
number_passes : (c : Command) (m : ArgMatches) → app_of c ≡ command → IsParsedFrom c m → (id : Text) (low high : ℕ)
    → Each (IsOnly id (parser.Unsigned low high)) rules → IsOwn id → (id ≡ [] → ⊥) → has_number low high id (rows_of (found_of m)) ≡ true
number_passes c m e p id low high only own named = rw (← one_text-rows (found_of m) id) (go (one_text (found_of m) id) refl)
  where
    go : (o : Option Text) → one_text (found_of m) id ≡ o → option_map_or (is_unsigned_in low high) o true ≡ true
    go None is = refl
    go (Some t) is =
        let passes = text_passes c m e p id (parser.Unsigned low high) only own named refl t is in
        Accepts-accepts passes.ignore_case (parser.Unsigned low high) t passes.accepted

other : {A : Type 0} → false ≡ true → A
other e = cc

pub all_read : (c : Command) (m : ArgMatches) → app_of c ≡ command → IsParsedFrom c m → AreRead (rows_of (found_of m))
all_read c m e p = record {
  workers = number_passes c m e p (codes "workers") 1 MAX_WORKERS ((λ h. refl), (other, (other, (other, (other, (other, tt))))))
      (record { help = refl; version = refl }) (λ empty. cc);
  turns = number_passes c m e p (codes "turns") 1 MAX_TURNS (other, ((λ h. refl), (other, (other, (other, (other, tt))))))
      (record { help = refl; version = refl }) (λ empty. cc);
  judge_steps = number_passes c m e p (codes "judge-steps") 1 MAX_JUDGE_STEPS (other, (other, ((λ h. refl), (other, (other, (other, tt))))))
      (record { help = refl; version = refl }) (λ empty. cc);
  make = number_passes c m e p (codes "make") 0 LAST_MADE (other, (other, (other, (other, (other, ((λ h. refl), tt))))))
      (record { help = refl; version = refl }) (λ empty. cc);
}
