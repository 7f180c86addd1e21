-- The text of a variable as it is printed, and whether it stands in front.
use Rattle.std.proofs.Common.{◌≡◌, ℕ, List, [], ◌∷◌, ◌++◌, sym, ap, ◌∙◌, append_assoc}
use Rattle.term_base.specs.declared.variables.Variable.{Variable}
use Rattle.term_text.specs.Texts.{variable_text}
use Rattle.text_pieces.specs.Printing.{Adds}
use Rattle.text_pieces.proofs.Joining.{drop_front}
use Rattle.text_pieces.specs.Fronts.{NoFront}
use Rattle.term_text.specs.Variables.{SpellsVariable}
use Rattle.term_text.proofs.TermTexts.{text-variable}

pub printed_variable : (v : Variable) (own : List ℕ) → Adds SpellsVariable v [] own → own ≡ variable_text v
printed_variable v own r = r.is ∙ text-variable v r.text r.spelled

not_in_front : (word text : List ℕ) (left : ℕ) → NoFront word text left → (rest : List ℕ) → text ≡ word ++ rest → ⊥
not_in_front word text left n rest h =
    n.missing (n.todo ++ rest) (drop_front n.done n.rest (n.next ∷ (n.todo ++ rest)) (sym n.whole ∙ h ∙ ap (λ z. z ++ rest) n.split ∙ append_assoc n.done (n.next ∷ n.todo) rest))

pub own_here : (v : Variable) (own text rest : List ℕ) → Adds SpellsVariable v [] own → text ≡ own ++ rest → text ≡ variable_text v ++ rest
own_here v own text rest r h = h ∙ ap (λ z. z ++ rest) (printed_variable v own r)

pub own_missing : (v : Variable) (own text : List ℕ) (left : ℕ) → Adds SpellsVariable v [] own → NoFront own text left → (rest : List ℕ) → text ≡ variable_text v ++ rest → ⊥
own_missing v own text left r n rest h = not_in_front own text left n rest (h ∙ ap (λ z. z ++ rest) (sym (printed_variable v own r)))
