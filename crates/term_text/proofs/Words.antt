-- Words between terms.
use Rattle.std.proofs.Common.{◌≡◌, ℕ, zero, suc, ℤ, List, [], ◌∷◌, ◌++◌, Option, Some, None, refl, sym, ap}
use Rattle.std.specs.Prelude.{codes, ◌==◌, if◌then◌else◌}
use Rattle.text_pieces.specs.Decimals.{is_digit}
use Rattle.text_pieces.specs.Languages.{Reads, Fails, Exactly, OneOf}
use Rattle.text_pieces.proofs.Ends.{same_fails, same_reads}
use Rattle.text_pieces.proofs.Lifts.{Sure}
use Rattle.text_pieces.proofs.WordFronts.{one_front-words}
use Rattle.term_text.specs.declared.kinds.Operation.{Operation}
use Rattle.term_text.specs.declared.kinds.Operation.TheVariants.{Plus, Times}
use Rattle.term_text.specs.declared.kinds.Relation.{Relation}
use Rattle.term_text.specs.declared.kinds.Relation.TheVariants.{Equal, Differ, AtMost}
use Rattle.term_base.specs.declared.places.Side.{Side}
use Rattle.term_base.specs.declared.places.Side.TheVariants.{Left, Right}
use Rattle.term_text.specs.Terms.{Sign, operation_at}
use Rattle.term_text.specs.Clauses.{RelationWord, relation_word, relation_at}
use Rattle.term_text.specs.Places.{SpellsSide, side_word, side_at}

some_same : {a b : List ℕ} → ◌≡◌ {A = Option (List ℕ)} (Some a) (Some b) → b ≡ a
some_same h = cc

none_some : {a : List ℕ} → ◌≡◌ {A = Option (List ℕ)} None (Some a) → ⊥
none_some h = cc

-- ---- signs
abbrev signs : List (List ℕ)
signs = codes "+" ∷ codes "*" ∷ []

sign_forth : (k : ℤ) (place : ℕ) (t : List ℕ) → OneOf signs place t → Sign (Some k) (operation_at place k) t
sign_forth k zero t h = some_same h
sign_forth k (suc zero) t h = (refl, some_same h)
sign_forth k (suc (suc n)) t h = absurd (none_some h)

sign_back : (k : ℤ) (operation : Operation) (t : List ℕ) → Sign (Some k) operation t → (place : ℕ) × OneOf signs place t
sign_back k Plus t h = (0, ap Some (sym h))
sign_back k (Times j) t h = (1, ap Some (sym h.1))

pub sign_fails : {bytes : List ℕ} {left : ℕ} (k : ℤ) → Fails (OneOf signs) bytes left → Fails (Sign (Some k)) bytes left
sign_fails {bytes} {left} k f = same_fails is_digit (OneOf signs) (Sign (Some k)) (λ place t h. (operation_at place k, sign_forth k place t h)) (sign_back k) bytes left f

pub sign_reads : {bytes rest : List ℕ} {place : ℕ} (k : ℤ) → Reads (OneOf signs) bytes place rest → Reads (Sign (Some k)) bytes (operation_at place k) rest
sign_reads {bytes} {rest} {place} k r = same_reads is_digit (OneOf signs) (Sign (Some k)) place (operation_at place k) (sign_forth k place) bytes rest r

plus_back : (operation : Operation) (t : List ℕ) → Sign None operation t → (u : Unit {0}) × Exactly (codes "+") u t
plus_back Plus t h = (tt, h)
plus_back (Times k) t h = absurd h

pub plus_fails : {bytes : List ℕ} {left : ℕ} → Fails (Exactly (codes "+")) bytes left → Fails (Sign None) bytes left
plus_fails {bytes} {left} f = same_fails is_digit (Exactly (codes "+")) (Sign None) (λ u t h. (Plus, h)) plus_back bytes left f

pub plus_reads : {bytes rest : List ℕ} → Reads (Exactly (codes "+")) bytes tt rest → Reads (Sign None) bytes Plus rest
plus_reads {bytes} {rest} r = same_reads is_digit (Exactly (codes "+")) (Sign None) tt Plus (λ t h. h) bytes rest r

-- ---- relations
abbrev relations : List (List ℕ)
relations = codes "=" ∷ codes "!=" ∷ codes "<=" ∷ []

relation_forth : (place : ℕ) (t : List ℕ) → OneOf relations place t → RelationWord (relation_at place) t
relation_forth zero t h = some_same h
relation_forth (suc zero) t h = some_same h
relation_forth (suc (suc zero)) t h = some_same h
relation_forth (suc (suc (suc n))) t h = absurd (none_some h)

relation_back : (r : Relation) (t : List ℕ) → RelationWord r t → (place : ℕ) × OneOf relations place t
relation_back Equal t h = (0, ap Some (sym h))
relation_back Differ t h = (1, ap Some (sym h))
relation_back AtMost t h = (2, ap Some (sym h))

pub relation_fails : {bytes : List ℕ} {left : ℕ} → Fails (OneOf relations) bytes left → Fails RelationWord bytes left
relation_fails {bytes} {left} f = same_fails is_digit (OneOf relations) RelationWord (λ place t h. (relation_at place, relation_forth place t h)) relation_back bytes left f

pub relation_reads : {bytes rest : List ℕ} {place : ℕ} → Reads (OneOf relations) bytes place rest → Reads RelationWord bytes (relation_at place) rest
relation_reads {bytes} {rest} {place} r = same_reads is_digit (OneOf relations) RelationWord place (relation_at place) (relation_forth place) bytes rest r

abbrev guess_relation : List ℕ → Relation
guess_relation (a ∷ more) = if a == 61 then Equal else (if a == 33 then Differ else AtMost)
guess_relation [] = AtMost

known_relation : (r : Relation) (x : List ℕ) → guess_relation (relation_word r ++ x) ≡ r
known_relation Equal x = refl
known_relation Differ x = refl
known_relation AtMost x = refl

pub sure-relation : Sure is_digit RelationWord
sure-relation = record { one = one_front-words relation_word guess_relation known_relation; some = record { value = Equal; text = codes "="; spelled = refl } }

-- ---- sides
abbrev sides : List (List ℕ)
sides = codes "L" ∷ codes "R" ∷ []

side_forth : (place : ℕ) (t : List ℕ) → OneOf sides place t → SpellsSide (side_at place) t
side_forth zero t h = some_same h
side_forth (suc zero) t h = some_same h
side_forth (suc (suc n)) t h = absurd (none_some h)

side_back : (s : Side) (t : List ℕ) → SpellsSide s t → (place : ℕ) × OneOf sides place t
side_back Left t h = (0, ap Some (sym h))
side_back Right t h = (1, ap Some (sym h))

pub side_fails : {bytes : List ℕ} {left : ℕ} → Fails (OneOf sides) bytes left → Fails SpellsSide bytes left
side_fails {bytes} {left} f = same_fails is_digit (OneOf sides) SpellsSide (λ place t h. (side_at place, side_forth place t h)) side_back bytes left f

pub side_reads : {bytes rest : List ℕ} {place : ℕ} → Reads (OneOf sides) bytes place rest → Reads SpellsSide bytes (side_at place) rest
side_reads {bytes} {rest} {place} r = same_reads is_digit (OneOf sides) SpellsSide place (side_at place) (side_forth place) bytes rest r

abbrev guess_side : List ℕ → Side
guess_side (a ∷ more) = if a == 76 then Left else Right
guess_side [] = Right

known_side : (s : Side) (x : List ℕ) → guess_side (side_word s ++ x) ≡ s
known_side Left x = refl
known_side Right x = refl

pub sure-side : Sure is_digit SpellsSide
sure-side = record { one = one_front-words side_word guess_side known_side; some = record { value = Left; text = codes "L"; spelled = refl } }
