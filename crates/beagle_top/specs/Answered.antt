-- Answers, with what was asked for them.
use Rattle.std.specs.Prelude.{◌≡◌, ℕ, Bool, List, ◌++◌}
use Rattle.term_base.specs.declared.clauses.Clause.{Clause}
use Rattle.options.specs.declared.asked.Options.{Options}
use Rattle.arithmetic_answers.specs.declared.deciding.Decision.{Decision}
use Rattle.arithmetic_answers.specs.Decisions.{Decides, queries_of}
use Rattle.arithmetic_answers.specs.Texts.{Tells}
use Rattle.beagle_top.specs.Answer.{status_of}

-- the status and the text are due with the queries that were asked
pub record IsAnswered (Due : List ℕ → ℕ → List ℕ → Type 0) (before after : List ℕ) (status : ℕ) (text : List ℕ) : Type 0 where
  pub asked : List ℕ
  pub due : Due asked status text
  pub grows : after ≡ before ++ asked

-- the status and the text are those of a decision of the clauses, whose queries were asked
pub record IsDecidedBy (o : Options) (has_conjecture : Bool) (cs : List Clause) (before after : List ℕ) (status : ℕ) (text : List ℕ) : Type 0 where
  pub decision : Decision
  pub decides : Decides cs o.judge_steps decision
  pub status_is : status ≡ status_of decision
  pub tells : Tells o.ordinary has_conjecture cs decision text
  pub grows : after ≡ before ++ queries_of decision
