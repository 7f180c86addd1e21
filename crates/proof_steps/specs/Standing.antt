-- Steps that stand on earlier ones: what each rule asks of a step's clause.
use Rattle.std.specs.Prelude.{ℕ, ◌+◌, Bool, true, false, ◌&&◌, ◌==◌, length, sum_by, List, [], ◌∷◌, Option, slice_get}
use Rattle.std.specs.Option.{option_map_or}
use Rattle.term_base.specs.declared.symbols.Symbol.{Symbol}
use Rattle.term_base.specs.declared.preparation.Prepared.{Prepared}
use Rattle.term_base.specs.declared.terms.Term.{Term}
use Rattle.term_base.specs.declared.clauses.Clause.{Clause}
use Rattle.term_base.specs.Trees.{symbol, node, none, tree}
use Rattle.term_base.specs.Substitution.{image}
use Rattle.term_base.specs.Lits.{Lit, lits, equation}
use Rattle.term_base.specs.Clauses.{is_well_sorted}
use Rattle.cert_tree.specs.declared.certs.Cert.{Cert}
use Rattle.step_rules.specs.Literals.{same_lits}
use Rattle.linear_form.specs.Normal.{is_normal}
use Rattle.proof_steps.specs.declared.steps.Rule.{Rule}
use Rattle.proof_steps.specs.declared.steps.Rule.TheVariants.{Input, Superpose, Resolve, Factor, Abstract, Normal, Pin, Demodulate, Define, Close}
use Rattle.proof_steps.specs.declared.steps.Step.{Step}
use Rattle.step_rules.specs.Symbols.{is_known, is_known_clause, is_written, is_definable}
use Rattle.step_rules.specs.Abstraction.{is_abstraction}
use Rattle.step_rules.specs.Inference.{superposed, resolved, factored}
use Rattle.step_rules.specs.Simplified.{pinned, demodulated}
use Rattle.proof_steps.specs.Closing.{at_step, at_steps, refutes}

-- ---- symbols
-- a Define makes one symbol
abbrev pub defined_by : Rule → ℕ
defined_by (Input k) = 0
defined_by (Superpose from literal side into place s1 s2) = 0
defined_by (Resolve of literal s1) = 0
defined_by (Factor of first first_side second second_side s1) = 0
defined_by (Abstract of) = 0
defined_by (Normal of) = 0
defined_by (Pin of literal) = 0
defined_by (Demodulate of place by side s1) = 0
defined_by (Define t f) = 1
defined_by (Close of cert) = 0

-- a step's rule makes so many
abbrev pub step_defines : Step → ℕ
step_defines s = defined_by s.rule

-- the number of Define steps
abbrev pub defines : List Step → ℕ
defines = sum_by step_defines

-- the number of symbols that are there: those of the file, the Skolem symbols and one for each earlier Define; it is the next Define's symbol
abbrev pub next_symbol : Prepared → List Step → ℕ
next_symbol prepared before = length prepared.symbols + defines before

-- ---- premises
-- a test of the clause of an earlier step
abbrev pub of_one : List Step → ℕ → (Clause → Bool) → Bool
of_one before k test = option_map_or test (at_step before k) false

-- a test of the clauses of two earlier steps
abbrev pub of_two : List Step → ℕ → ℕ → (Clause → Clause → Bool) → Bool
of_two before k l test = of_one before k (λ c. of_one before l (test c))

-- a rule's conclusion, where there is one, is the clause
abbrev pub gives : Option (List Lit) → List Lit → Bool
gives o c = option_map_or (λ d. same_lits d c) o false

-- ---- the rules
-- the clause of this number of the file is the clause
abbrev pub input_stands : Prepared → ℕ → List Lit → Bool
input_stands prepared k c = option_map_or (λ d. same_lits (lits d) c) (slice_get prepared.clauses k) false

-- an equation of a term and a new parameter
abbrev pub definition_stands : List Symbol → ℕ → Term → ℕ → List Lit → Bool
definition_stands signature next t f c =
    is_definable signature (tree t) && (is_known next (tree t) && (f == next && same_lits (equation (tree t) (node (symbol f) none) ∷ []) c))

-- the clause has no literal
abbrev pub is_empty_clause : List Lit → Bool
is_empty_clause [] = true
is_empty_clause (l ∷ ls) = false

-- the empty clause from background clauses
abbrev pub close_stands : List Symbol → List Step → List ℕ → Cert → List Lit → Bool
close_stands signature before of cert c = is_empty_clause c && option_map_or (refutes signature cert) (at_steps before of) false

-- the written substitutions of a rule are simple and have symbols that are there, those with numbers below n, alone
abbrev pub rule_is_written : List Symbol → ℕ → Rule → Bool
rule_is_written signature n (Input k) = true
rule_is_written signature n (Superpose from i side into place s1 s2) = is_written signature n s1 && is_written signature n s2
rule_is_written signature n (Resolve of i s1) = is_written signature n s1
rule_is_written signature n (Factor of i i_side j j_side s1) = is_written signature n s1
rule_is_written signature n (Abstract of) = true
rule_is_written signature n (Normal of) = true
rule_is_written signature n (Pin of i) = true
rule_is_written signature n (Demodulate of place by side s1) = is_written signature n s1
rule_is_written signature n (Define t f) = true
rule_is_written signature n (Close of cert) = true

-- the clause is what the rule gives
abbrev pub rule_gives : Prepared → List Step → ℕ → Rule → List Lit → Bool
rule_gives prepared before n (Input k) c = input_stands prepared k c
rule_gives prepared before n (Superpose from i side into place s1 s2) c =
    of_two before from into (λ a b. gives (superposed (lits a) i side (lits b) place (image s1) (image s2)) c)
rule_gives prepared before n (Resolve of i s1) c = of_one before of (λ a. gives (resolved (lits a) i (image s1)) c)
rule_gives prepared before n (Factor of i i_side j j_side s1) c =
    of_one before of (λ a. gives (factored (lits a) i i_side j j_side (image s1)) c)
rule_gives prepared before n (Abstract of) c = of_one before of (λ a. is_abstraction prepared.symbols (lits a) c)
rule_gives prepared before n (Normal of) c = of_one before of (λ a. is_normal prepared.symbols (lits a) c)
rule_gives prepared before n (Pin of i) c = of_one before of (λ a. gives (pinned (lits a) i) c)
rule_gives prepared before n (Demodulate of place by side s1) c =
    of_two before of by (λ a b. gives (demodulated (lits a) place (lits b) side (image s1)) c)
rule_gives prepared before n (Define t f) c = definition_stands prepared.symbols n t f c
rule_gives prepared before n (Close of cert) c = close_stands prepared.symbols before of cert c

-- the substitutions may be written, and the clause is what the rule gives
abbrev pub rule_stands : Prepared → List Step → ℕ → Rule → List Lit → Bool
rule_stands prepared before n rule c = rule_is_written prepared.symbols n rule && rule_gives prepared before n rule c

-- ---- steps
-- the clause is well sorted, its symbols are there, that of a Define itself among them, and it is what the rule gives
abbrev pub stands_at : Prepared → List Step → ℕ → Step → Bool
stands_at prepared before n s =
    is_well_sorted prepared.symbols (lits s.clause)
    && (is_known_clause (n + defined_by s.rule) (lits s.clause) && rule_stands prepared before n s.rule (lits s.clause))

-- the step stands on the earlier ones
abbrev pub step_stands : Prepared → List Step → Step → Bool
step_stands prepared before s = stands_at prepared before (next_symbol prepared before) s
