-- The answers of `read`, by the faults of the phases.
use Rattle.std.proofs.Common.{◌≡◌, ℕ, List, [], ◌∷◌, ◌++◌, refl, sym, ◌∙◌, ap, subst}
use Rattle.std.specs.Prelude.{Option, Some}
use Rattle.term_base.specs.declared.symbols.Symbol.{Symbol}
use Rattle.formula_base.specs.declared.formulas.Formula.{Formula}
use Rattle.formula_base.specs.declared.problems.Problem.{Problem}
use Rattle.tff_grammar.specs.declared.faults.Fault.{Fault}
use Rattle.tff_grammar.specs.declared.trees.Statement.{Statement}
use Rattle.tff_grammar.specs.Answer.{IsText, IsFirstFault}
use Rattle.tff_signature.specs.declared.faults.Later.{Later}
use Rattle.tff_signature.specs.Names.{Name}
use Rattle.tff_signature.specs.Faults.{Faults}
use Rattle.tff_signature.specs.Symbols.{Signature, signature_of}
use Rattle.tff_reader.specs.declared.stops.Stop.{Stop}
use Rattle.tff_reader.specs.declared.stops.Stop.TheVariants as stops
use Rattle.tff_reader.specs.declared.refusals.Refused.{Refused}
use Rattle.tff_reader.specs.Stops.{first_of, Stops}
use Rattle.tff_reader.specs.Meaning.{problem_of}
use Rattle.tff_reader.specs.Answer.{later_faults, IsProblem, IsRefused, by_grammar, behind_grammar, refused_early, refused_later}
use Rattle.tff_reader.proofs.StopLemmas.{stops_sooner, stops_later}

abbrev pub sign : List Name → List Symbol → Signature
sign sorts symbols = record { sorts = sorts; symbols = symbols }

-- ---- the phases

pub stops_typing : (e : Stop) (second third fourth : Faults) → second ≡ [] → Stops e third → Stops e (second ++ third ++ fourth)
stops_typing e second third fourth none h = stops_sooner e (second ++ third) fourth (stops_later e second third none h)

pub stops_products : (e : Stop) (second third fourth : Faults) → second ≡ [] → third ≡ [] → Stops e fourth → Stops e (second ++ third ++ fourth)
stops_products e second third fourth none none' h = stops_later e (second ++ third) fourth (ap (λ fs. fs ++ third) none ∙ none') h

pub no_faults : (second third fourth : Faults) → second ≡ [] → third ≡ [] → fourth ≡ [] → second ++ third ++ fourth ≡ []
no_faults second third fourth a b c = ap (λ fs. (fs ++ third) ++ fourth) a ∙ ap (λ fs. fs ++ fourth) b ∙ c

-- ---- the problem

pub same_signature : (text : List ℕ) (ss : List Statement) (sorts : List Name) (symbols : List Symbol) → sorts ≡ (signature_of text ss).sorts → symbols ≡ (signature_of text ss).symbols
    → sign sorts symbols ≡ signature_of text ss
same_signature text ss sorts symbols e e' = ap (λ (xs : List Name). sign xs symbols) e ∙ ap (sign (signature_of text ss).sorts) e'

abbrev problem : List Symbol → ℕ → List Formula → Option Formula → Problem
problem symbols sorts premises conjecture = record { symbols = symbols; sorts = sorts; premises = premises; conjecture = conjecture }

pub same_parts : (text : List ℕ) (ss : List Statement) (p : Problem) → p.symbols ≡ (problem_of text ss).symbols → p.sorts ≡ (problem_of text ss).sorts → p.premises ≡ (problem_of text ss).premises
    → p.conjecture ≡ (problem_of text ss).conjecture → p ≡ problem_of text ss
same_parts text ss p a b c d =
    let q = problem_of text ss in
    ap (λ (x : List Symbol). problem x p.sorts p.premises p.conjecture) a ∙ ap (λ (x : ℕ). problem q.symbols x p.premises p.conjecture) b
    ∙ ap (λ (x : List Formula). problem q.symbols q.sorts x p.conjecture) c ∙ ap (problem q.symbols q.sorts q.premises) d

-- ---- the answer

first_stands : (fs : Faults) (f : Later) → first_of fs ≡ Some f → (others : Faults) × (fs ≡ f ∷ others)
first_stands [] f h = absurd (cc)
first_stands (e ∷ fs) f h = (fs, (cc))

pub is_problem : (bytes : List ℕ) (ss : List Statement) (p : Problem) → IsText bytes ss → later_faults bytes ss ≡ [] → p ≡ problem_of bytes ss → IsProblem bytes p
is_problem bytes ss p text none means = record { statements = ss; text = text; faultless = none; meant = means }

pub is_refused : (bytes : List ℕ) (ss : List Statement) (f : Later) (r : Refused) → IsText bytes ss → first_of (later_faults bytes ss) ≡ Some f → r ≡ refused_later f → IsRefused bytes r
is_refused bytes ss f r text h is = let others = first_stands (later_faults bytes ss) f h in behind_grammar ss f others.0 text others.1 is

module _ (one_text : (bytes : List ℕ) (first second : List Statement) → IsText bytes first → IsText bytes second → first ≡ second) where
  pub same_problem : (bytes : List ℕ) (ss : List Statement) (q p : Problem) → IsText bytes ss → q ≡ problem_of bytes ss → IsProblem bytes p → q ≡ p
  same_problem bytes ss q p text means is = means ∙ ap (problem_of bytes) (one_text bytes ss is.statements text is.text) ∙ sym is.meant

  pub not_refused : (bytes : List ℕ) (ss : List Statement) (f : Later) (p : Problem) → IsText bytes ss → first_of (later_faults bytes ss) ≡ Some f → IsProblem bytes p → ⊥
  not_refused bytes ss f p text h is =
      let none : later_faults bytes ss ≡ [] = ap (later_faults bytes) (one_text bytes ss is.statements text is.text) ∙ is.faultless in
      let at_none : first_of [] ≡ Some f = subst (λ (fs : Faults). first_of fs ≡ Some f) none h in
      cc
