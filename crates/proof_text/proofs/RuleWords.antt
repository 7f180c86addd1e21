-- The words of rules, headers and status lines.
use Rattle.std.proofs.Common.{◌≡◌, ℕ, zero, suc, Bool, true, false, List, [], ◌∷◌, ◌++◌, Option, Some, None, refl, sym, ap}
use Rattle.std.specs.Prelude.{codes, ◌==◌, if◌then◌else◌}
use Rattle.text_pieces.specs.Decimals.{is_digit}
use Rattle.text_pieces.specs.Languages.{Reads, Fails, OneOf}
use Rattle.text_pieces.proofs.WordFronts.{one_front-words}
use Rattle.text_pieces.proofs.Ends.{same_fails, same_reads}
use Rattle.text_pieces.proofs.Lifts.{Sure}
use Rattle.proof_text.specs.declared.kinds.RuleKind.{RuleKind}
use Rattle.proof_text.specs.declared.kinds.RuleKind.TheVariants.{Input, Superpose, Resolve, Factor, Abstract, Normal, Pin, Demodulate, Define, Close}
use Rattle.proof_text.specs.declared.kinds.Status.{Status}
use Rattle.proof_text.specs.declared.kinds.Status.TheVariants.{Theorem, Unsatisfiable}
use Rattle.proof_text.specs.Rules.{RuleWord, rule_word, rule_words, rule_kind_at}
use Rattle.proof_text.specs.Derivations.{VariablesWord, variables_word, StatusWord, status_word, status_at}

some_same : {a b : List ℕ} → ◌≡◌ {A = Option (List ℕ)} (Some a) (Some b) → b ≡ a
some_same h = cc

none_some : {a : List ℕ} → ◌≡◌ {A = Option (List ℕ)} None (Some a) → ⊥
none_some h = cc

-- ---- rules
forth : (place : ℕ) (t : List ℕ) → OneOf rule_words place t → RuleWord (rule_kind_at place) t
forth zero t h = some_same h
forth (suc zero) t h = some_same h
forth (suc (suc zero)) t h = some_same h
forth (suc (suc (suc zero))) t h = some_same h
forth (suc (suc (suc (suc zero)))) t h = some_same h
forth (suc (suc (suc (suc (suc zero))))) t h = some_same h
forth (suc (suc (suc (suc (suc (suc zero)))))) t h = some_same h
forth (suc (suc (suc (suc (suc (suc (suc zero))))))) t h = some_same h
forth (suc (suc (suc (suc (suc (suc (suc (suc zero)))))))) t h = some_same h
forth (suc (suc (suc (suc (suc (suc (suc (suc (suc zero))))))))) t h = some_same h
forth (suc (suc (suc (suc (suc (suc (suc (suc (suc (suc n)))))))))) t h = absurd (none_some h)

back : (kind : RuleKind) (t : List ℕ) → RuleWord kind t → (place : ℕ) × OneOf rule_words place t
back Input t h = (0, ap Some (sym h))
back Superpose t h = (1, ap Some (sym h))
back Resolve t h = (2, ap Some (sym h))
back Factor t h = (3, ap Some (sym h))
back Abstract t h = (4, ap Some (sym h))
back Normal t h = (5, ap Some (sym h))
back Pin t h = (6, ap Some (sym h))
back Demodulate t h = (7, ap Some (sym h))
back Define t h = (8, ap Some (sym h))
back Close t h = (9, ap Some (sym h))

pub rule_fails : {bytes : List ℕ} {left : ℕ} → Fails (OneOf rule_words) bytes left → Fails RuleWord bytes left
rule_fails {bytes} {left} f = same_fails is_digit (OneOf rule_words) RuleWord (λ place t h. (rule_kind_at place, forth place t h)) back bytes left f

pub rule_reads : {bytes rest : List ℕ} {place : ℕ} → Reads (OneOf rule_words) bytes place rest → Reads RuleWord bytes (rule_kind_at place) rest
rule_reads {bytes} {rest} {place} r = same_reads is_digit (OneOf rule_words) RuleWord place (rule_kind_at place) (forth place) bytes rest r

-- no word begins another
abbrev guess : List ℕ → RuleKind
guess (a ∷ b ∷ c ∷ more) = if a == 105 then Input else (if a == 115 then Superpose else (if a == 114 then Resolve else (if a == 102 then Factor else (if a == 97 then Abstract
    else (if a == 110 then Normal else (if a == 112 then Pin else (if a == 99 then Close else (if c == 109 then Demodulate else Define))))))))
guess _ = Input

known : (k : RuleKind) (x : List ℕ) → guess (rule_word k ++ x) ≡ k
known Input x = refl
known Superpose x = refl
known Resolve x = refl
known Factor x = refl
known Abstract x = refl
known Normal x = refl
known Pin x = refl
known Demodulate x = refl
known Define x = refl
known Close x = refl

pub sure-rule_word : Sure is_digit RuleWord
sure-rule_word = record { one = one_front-words rule_word guess known; some = record { value = Input; text = codes "input"; spelled = refl } }

-- ---- headers
abbrev variables : List (List ℕ)
variables = codes "ordinary" ∷ codes "abstraction" ∷ []

variables_forth : (place : ℕ) (t : List ℕ) → OneOf variables place t → VariablesWord (place == 0) t
variables_forth zero t h = some_same h
variables_forth (suc zero) t h = some_same h
variables_forth (suc (suc n)) t h = absurd (none_some h)

variables_back : (b : Bool) (t : List ℕ) → VariablesWord b t → (place : ℕ) × OneOf variables place t
variables_back true t h = (0, ap Some (sym h))
variables_back false t h = (1, ap Some (sym h))

pub variables_fails : {bytes : List ℕ} {left : ℕ} → Fails (OneOf variables) bytes left → Fails VariablesWord bytes left
variables_fails {bytes} {left} f = same_fails is_digit (OneOf variables) VariablesWord (λ place t h. (place == 0, variables_forth place t h)) variables_back bytes left f

pub variables_reads : {bytes rest : List ℕ} {place : ℕ} → Reads (OneOf variables) bytes place rest → Reads VariablesWord bytes (place == 0) rest
variables_reads {bytes} {rest} {place} r = same_reads is_digit (OneOf variables) VariablesWord place (place == 0) (variables_forth place) bytes rest r

abbrev guess_variables : List ℕ → Bool
guess_variables (a ∷ more) = a == 111
guess_variables [] = false

known_variables : (b : Bool) (x : List ℕ) → guess_variables (variables_word b ++ x) ≡ b
known_variables true x = refl
known_variables false x = refl

pub sure-variables_word : Sure is_digit VariablesWord
sure-variables_word = record { one = one_front-words variables_word guess_variables known_variables; some = record { value = true; text = codes "ordinary"; spelled = refl } }

-- ---- status lines
abbrev statuses : List (List ℕ)
statuses = codes "Theorem" ∷ codes "Unsatisfiable" ∷ []

status_forth : (place : ℕ) (t : List ℕ) → OneOf statuses place t → StatusWord (status_at place) t
status_forth zero t h = some_same h
status_forth (suc zero) t h = some_same h
status_forth (suc (suc n)) t h = absurd (none_some h)

status_back : (s : Status) (t : List ℕ) → StatusWord s t → (place : ℕ) × OneOf statuses place t
status_back Theorem t h = (0, ap Some (sym h))
status_back Unsatisfiable t h = (1, ap Some (sym h))

pub status_fails : {bytes : List ℕ} {left : ℕ} → Fails (OneOf statuses) bytes left → Fails StatusWord bytes left
status_fails {bytes} {left} f = same_fails is_digit (OneOf statuses) StatusWord (λ place t h. (status_at place, status_forth place t h)) status_back bytes left f

pub status_reads : {bytes rest : List ℕ} {place : ℕ} → Reads (OneOf statuses) bytes place rest → Reads StatusWord bytes (status_at place) rest
status_reads {bytes} {rest} {place} r = same_reads is_digit (OneOf statuses) StatusWord place (status_at place) (status_forth place) bytes rest r

abbrev guess_status : List ℕ → Status
guess_status (a ∷ more) = if a == 84 then Theorem else Unsatisfiable
guess_status [] = Unsatisfiable

known_status : (s : Status) (x : List ℕ) → guess_status (status_word s ++ x) ≡ s
known_status Theorem x = refl
known_status Unsatisfiable x = refl

pub sure-status_word : Sure is_digit StatusWord
sure-status_word = record { one = one_front-words status_word guess_status known_status; some = record { value = Theorem; text = codes "Theorem"; spelled = refl } }
