-- What printing puts behind a text is the one text of the value.
use Rattle.std.proofs.Common.{◌≡◌, ℕ, List, ◌++◌, ap, ◌∙◌}
use Rattle.std.specs.Prelude.{codes, OnOk}
use Rattle.std.specs.declared.alloc.AllocError.{AllocError}
use Rattle.std.specs.declared.result.Result.{Result}
use Rattle.std.specs.declared.result.Result.TheVariants.{Ok, Err}
use Rattle.term_base.specs.declared.terms.Term.{Term}
use Rattle.term_base.specs.declared.clauses.Clause.{Clause}
use Rattle.text_pieces.specs.Printing.{Puts}
use Rattle.text_pieces.proofs.OneText.{Texts}
use Rattle.term_text.specs.Terms.{SpellsTerm}
use Rattle.term_text.specs.Clauses.{SpellsClauseLine}
use Rattle.term_text.specs.Texts.{term_text, clause_text}
use Rattle.term_text.proofs.TermTexts.{text-term}
use Rattle.term_text.proofs.ClauseTexts.{text-clause_line}

puts_text : {A : Type 0} (L : A → List ℕ → Type 0) (f : A → List ℕ) → Texts L f → (a : A) (o q : List ℕ) (r : Result (Unit {0}) AllocError) → Puts L a o q r → OnOk r (q ≡ o ++ f a)
puts_text L f one a o q (Ok v) h = h.is ∙ ap (λ z. o ++ z) (one a h.text h.spelled)
puts_text L f one a o q (Err e) h = tt

pub puts_term : (t : Term) (o q : List ℕ) (r : Result (Unit {0}) AllocError) → Puts SpellsTerm t o q r → OnOk r (q ≡ o ++ term_text t)
puts_term = puts_text SpellsTerm term_text text-term

pub puts_clause : (c : Clause) (o q : List ℕ) (r : Result (Unit {0}) AllocError) → Puts SpellsClauseLine c o q r → OnOk r (q ≡ o ++ (clause_text c ++ codes "\n"))
puts_clause = puts_text SpellsClauseLine (λ c. clause_text c ++ codes "\n") text-clause_line
