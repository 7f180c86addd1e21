-- The words of nodes and rows.
use Rattle.std.proofs.Common.{◌≡◌, ℕ, zero, suc, List, [], ◌∷◌, ◌++◌, Option, Some, None, refl, sym, ap, subst}
use Rattle.std.specs.Prelude.{codes, ◌==◌, if◌then◌else◌}
use Rattle.cert_text.specs.declared.kinds.NodeKind.{NodeKind}
use Rattle.cert_text.specs.declared.kinds.NodeKind.TheVariants.{Case, Combine, Cut, Branch, Residues, Solve, Least, Clash}
use Rattle.cert_text.specs.declared.kinds.RowKind.{RowKind}
use Rattle.cert_text.specs.declared.kinds.RowKind.TheVariants.{Inst, Low}
use Rattle.text_pieces.specs.Languages.{NoDigit, Reads, Fails, OneOf}
use Rattle.cert_text.specs.Grammar.{NodeWord, RowWord, node_word, row_word}
use Rattle.cert_text.specs.Places.{node_words, row_words, node_kind_at, row_kind_at}
use Rattle.text_pieces.proofs.Joining.{same_fails, same_reads}
use Rattle.text_pieces.proofs.WordFronts.{one_front-words}
use Rattle.text_pieces.specs.Unambiguous.{Unambiguous}

some_same : {a b : List ℕ} → ◌≡◌ {A = Option (List ℕ)} (Some a) (Some b) → b ≡ a
some_same h = cc

none_some : {a : List ℕ} → ◌≡◌ {A = Option (List ℕ)} None (Some a) → ⊥
none_some h = cc

pub node_forth : (place : ℕ) (t : List ℕ) → OneOf node_words place t → NodeWord (node_kind_at place) t
node_forth zero t h = some_same h
node_forth (suc zero) t h = some_same h
node_forth (suc (suc zero)) t h = some_same h
node_forth (suc (suc (suc zero))) t h = some_same h
node_forth (suc (suc (suc (suc zero)))) t h = some_same h
node_forth (suc (suc (suc (suc (suc zero))))) t h = some_same h
node_forth (suc (suc (suc (suc (suc (suc zero)))))) t h = some_same h
node_forth (suc (suc (suc (suc (suc (suc (suc zero))))))) t h = some_same h
node_forth (suc (suc (suc (suc (suc (suc (suc (suc n)))))))) t h = absurd (none_some h)

node_back : (kind : NodeKind) (t : List ℕ) → NodeWord kind t → (place : ℕ) × OneOf node_words place t
node_back Case t h = (0, ap Some (sym h))
node_back Combine t h = (1, ap Some (sym h))
node_back Cut t h = (2, ap Some (sym h))
node_back Branch t h = (3, ap Some (sym h))
node_back Residues t h = (4, ap Some (sym h))
node_back Solve t h = (5, ap Some (sym h))
node_back Least t h = (6, ap Some (sym h))
node_back Clash t h = (7, ap Some (sym h))

pub node_word_fails : (bytes : List ℕ) (left : ℕ) → Fails (OneOf node_words) bytes left → Fails NodeWord bytes left
node_word_fails bytes left f = same_fails (OneOf node_words) NodeWord (λ place t h. (node_kind_at place, node_forth place t h)) node_back bytes left f

pub node_word_reads : (bytes : List ℕ) (place : ℕ) (rest : List ℕ) → Reads (OneOf node_words) bytes place rest → Reads NodeWord bytes (node_kind_at place) rest
node_word_reads bytes place rest r = same_reads (OneOf node_words) NodeWord place (node_kind_at place) (node_forth place) bytes rest r

pub row_forth : (place : ℕ) (t : List ℕ) → OneOf row_words place t → RowWord (row_kind_at place) t
row_forth zero t h = some_same h
row_forth (suc zero) t h = some_same h
row_forth (suc (suc n)) t h = absurd (none_some h)

row_back : (kind : RowKind) (t : List ℕ) → RowWord kind t → (place : ℕ) × OneOf row_words place t
row_back Inst t h = (0, ap Some (sym h))
row_back Low t h = (1, ap Some (sym h))

pub row_word_fails : (bytes : List ℕ) (left : ℕ) → Fails (OneOf row_words) bytes left → Fails RowWord bytes left
row_word_fails bytes left f = same_fails (OneOf row_words) RowWord (λ place t h. (row_kind_at place, row_forth place t h)) row_back bytes left f

pub row_word_reads : (bytes : List ℕ) (place : ℕ) (rest : List ℕ) → Reads (OneOf row_words) bytes place rest → Reads RowWord bytes (row_kind_at place) rest
row_word_reads bytes place rest r = same_reads (OneOf row_words) RowWord place (row_kind_at place) (row_forth place) bytes rest r

-- ---- no word begins another
abbrev guess_node : List ℕ → NodeKind
guess_node (a ∷ b ∷ more) = if a == 99 then (if b == 97 then Case else (if b == 111 then Combine else (if b == 117 then Cut else Clash)))
    else (if a == 98 then Branch else (if a == 114 then Residues else (if a == 115 then Solve else Least)))
guess_node _ = Clash

known_node : (k : NodeKind) (x : List ℕ) → guess_node (node_word k ++ x) ≡ k
known_node Case x = refl
known_node Combine x = refl
known_node Cut x = refl
known_node Branch x = refl
known_node Residues x = refl
known_node Solve x = refl
known_node Least x = refl
known_node Clash x = refl

clear-node_word : (k : NodeKind) → NoDigit (node_word k)
clear-node_word Case = refl
clear-node_word Combine = refl
clear-node_word Cut = refl
clear-node_word Branch = refl
clear-node_word Residues = refl
clear-node_word Solve = refl
clear-node_word Least = refl
clear-node_word Clash = refl

pub unambiguous-node_word : Unambiguous NodeWord
unambiguous-node_word = record {
  one = one_front-words node_word guess_node known_node;
  clear = λ k t s. subst NoDigit (sym s) (clear-node_word k);
  some = record { value = Clash; text = codes "clash"; spelled = refl };
}

abbrev guess_row : List ℕ → RowKind
guess_row (a ∷ more) = if a == 105 then Inst else Low
guess_row [] = Low

known_row : (k : RowKind) (x : List ℕ) → guess_row (row_word k ++ x) ≡ k
known_row Inst x = refl
known_row Low x = refl

clear-row_word : (k : RowKind) → NoDigit (row_word k)
clear-row_word Inst = refl
clear-row_word Low = refl

pub unambiguous-row_word : Unambiguous RowWord
unambiguous-row_word = record {
  one = one_front-words row_word guess_row known_row;
  clear = λ k t s. subst NoDigit (sym s) (clear-row_word k);
  some = record { value = Low; text = codes "low"; spelled = refl };
}
