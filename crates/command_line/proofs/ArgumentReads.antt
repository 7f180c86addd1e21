-- What the getters read of an argument.
use Rattle.std.proofs.Common.{◌≡◌, ◌≤◌, ℕ, Bool, true, false, List, Option, Some, None, refl, sym, ap, option_map}
use Rattle.std.specs.Prelude.{Result, Ok, Err, IfSome, codes, unwrap_or}
use Rattle.std.specs.Option.{option_map_or}
use Rattle.std.specs.Str.{bytes_eq}
use Rattle.std.specs.Str.Parse.{ParsesBool, ParsesUnsigned}
use Rattle.std.proofs.lemmas.Slice.Eq.{bytes_eq-Decides}
use Rattle.clap.specs.Values.{IsUnsignedIn}
use Rattle.clap.specs.ValueTests.{is_unsigned_in}
use Rattle.clap.specs.Matches.{ReadsOne}
use Rattle.clap.specs.declared.builder.value_parser.ValueParser.TheVariants as parser
use Rattle.clap.proofs.ValueTestLemmas.{accepts-Accepts}
use Rattle.command_line.specs.Command.{number_in}

-- a text that spells a number in a range reads as that number
pub number_read : {E : Type 0} (G : List ℕ → Result ℕ E → Type 0) (low high : ℕ) (o : Option (List ℕ)) (r : Option ℕ)
    → ((u : List ℕ) (x : Result ℕ E) → G u x → ParsesUnsigned 64 10 u x)
    → (o ≡ None → r ≡ None) → ((t : List ℕ) → o ≡ Some t → ReadsOne G t r)
    → option_map_or (is_unsigned_in low high) o true ≡ true
    → (r ≡ option_map number_in o) × IfSome r (λ n. (low ≤ n) × (n ≤ high))
number_read G low high None r only none value fits = rw (none refl) (refl, tt)
number_read {E} G low high (Some t) r only none value fits = go r (value t refl)
  where
    accepted : IsUnsignedIn low high t
    accepted = accepts-Accepts false (parser.Unsigned low high) t fits

    go : (s : Option ℕ) → ReadsOne G t s → (s ≡ Some (number_in t)) × IfSome s (λ n. (low ≤ n) × (n ≤ high))
    go (Some n) h =
        let parsed = only t (Ok n) h in
        (ap Some parsed.1, rw parsed.1 (accepted.2, accepted.3))
    go None h = absurd (only t (Err h.0) h.1 (accepted.0, accepted.1))

-- an option without a value is there where its text is `true`
pub flag_read : (E : Type 0) (o : Option (List ℕ)) (r : Option Bool) → (o ≡ None → r ≡ None)
    → ((t : List ℕ) → o ≡ Some t → ReadsOne (ParsesBool {E = E}) t r) → unwrap_or r false ≡ option_map_or (λ text. bytes_eq text (codes "true")) o false
flag_read E None r none value = rw (none refl) refl
flag_read E (Some t) r none value = go r (value t refl)
  where
    other : (b : Bool) → bytes_eq t (codes "true") ≡ b → (t ≡ codes "true" → ⊥) → false ≡ bytes_eq t (codes "true")
    other true e not_true = absurd (not_true ((bytes_eq-Decides t (codes "true")).0 e))
    other false e not_true = sym e

    go : (s : Option Bool) → ReadsOne (ParsesBool {E = E}) t s → unwrap_or s false ≡ bytes_eq t (codes "true")
    go (Some true) h = sym ((bytes_eq-Decides t (codes "true")).1 h)
    go (Some false) h = rw h refl
    go None h = other (bytes_eq t (codes "true")) refl h.1.0
