-- What is read by a context, and how it leaves the scope. Private contracts alone cite this file.
use Rattle.std.specs.Prelude.{◌≡◌, ℕ, List, [], ◌++◌, Result, Ok, Err}
use Rattle.std.specs.Option.{option_or, option_to_list}
use Rattle.formula_base.specs.declared.formulas.Formula.{Formula}
use Rattle.tff_grammar.specs.declared.trees.Content.{Content}
use Rattle.tff_grammar.specs.declared.trees.Statement.{Statement}
use Rattle.tff_reader.specs.declared.stops.Stop.{Stop}
use Rattle.tff_reader.specs.declared.scopes.Scope.{Scope as KeptScope}
use Rattle.tff_reader.specs.declared.terms.Context.{Context}
use Rattle.tff_reader.specs.declared.reader.Formulas.{Formulas}
use Rattle.tff_reader.specs.Stops.{Stops}
use Rattle.tff_grammar.specs.declared.trees.Variable.{Variable as WrittenVariable}
use Rattle.tff_signature.specs.Names.{Name}
use Rattle.tff_reader.specs.Scopes.{Scope, bind}
use Rattle.tff_reader.specs.Bindings.{Binds}
use Rattle.tff_signature.specs.Symbols.{Signature}
use Rattle.tff_reader.specs.Meaning.{FormulaMeaning, Meaning, members, behind, formulas_of, faults_of, premise_of, conjecture_of, premises_of, conjectures_of, first}

-- the sorts and symbols of a context
abbrev pub signature : Context → Signature
signature c = record { sorts = c.sorts.now; symbols = c.signature.now.symbols }

-- what a formula means was read, and the scope is as before; or why reading stops
abbrev pub OnRead : Result (Formula × ℕ) Stop → KeptScope → Scope → FormulaMeaning → Type 0
OnRead (Ok r) kept scope m = (m.faults ≡ []) × (r.0 ≡ m.formula) × (r.1 ≡ m.next) × Binds kept scope
OnRead (Err e) kept scope m = Stops e m.faults

-- the same of formulas from left to right
abbrev pub OnReadAll : Result (List Formula × ℕ) Stop → KeptScope → Scope → List Meaning → ℕ → Type 0
OnReadAll (Ok r) kept scope ms n = (faults_of (members ms scope n) ≡ []) × (r.0 ≡ formulas_of (members ms scope n)) × (r.1 ≡ behind ms scope n) × Binds kept scope
OnReadAll (Err e) kept scope ms n = Stops e (faults_of (members ms scope n))

-- the formulas of the statements
pub record AreRead (text : List ℕ) (sig : Signature) (statements : List Statement) (r : Formulas) : Type 0 where
  pub premises : r.premises ≡ premises_of text sig statements
  pub conjecture : r.conjecture ≡ first (conjectures_of text sig statements)

-- formulas with that of one more statement
pub record AddsFormula (text : List ℕ) (sig : Signature) (c : Content) (old new : Formulas) : Type 0 where
  pub premises : new.premises ≡ old.premises ++ option_to_list (premise_of text sig c)
  pub conjecture : new.conjecture ≡ option_or old.conjecture (conjecture_of text sig c)

-- formulas on the way: what was read, and what is left
pub record IsOnWay (all : List Formula) (number : ℕ) (kept : KeptScope) (scope : Scope) (ms : List Meaning) (n : ℕ) (rest : List Meaning) : Type 0 where
  pub faults : faults_of (members ms scope n) ≡ faults_of (members rest scope number)
  pub formulas : formulas_of (members ms scope n) ≡ all ++ formulas_of (members rest scope number)
  pub next : behind ms scope n ≡ behind rest scope number
  pub binds : Binds kept scope

-- binders on the way: what is bound so far, and the binders that are left
pub record BindsOnWay (text : List ℕ) (sorts : List Name) (n : ℕ) (vs : List WrittenVariable) (scope : Scope) (kept : KeptScope) (number : ℕ) (rest : List WrittenVariable) : Type 0 where
  pub inner : Scope
  pub binds : Binds kept inner
  pub left : bind text sorts n vs scope ≡ bind text sorts number rest inner
