-- Groundings one after the other.
use Rattle.std.specs.Prelude.{◌≡◌, ℕ, suc, ◌+◌, ◌≤◌, get_or, drop, true, false, length, map, List, [], ◌∷◌, ◌++◌}
use Rattle.std.specs.List.{enumerate_from}
use Rattle.std.proofs.Common.{refl, sym, ◌∙◌, ap, subst, arith, append_assoc}
use Rattle.std.proofs.lemmas.Bool.{and_from}
use Rattle.std.proofs.lemmas.List.{length-append, at_drop_more}
use Rattle.std.proofs.lemmas.List.Folds.{list_all-append}
use Rattle.lin_base.specs.declared.facts.Fact.{Fact}
use Rattle.lin_base.specs.Numbers.{results}
use Rattle.cert_tree.specs.Complete.{complete_rows, complete_steps}
use Rattle.cert_tree.specs.Counting.{occurs_in}
use Rattle.cert_tree.specs.Ground.{Numbered, Grounding, then_ground, ground_each, ground_by}
use Rattle.cert_tree.specs.Rows.{row_clause}
use Rattle.cooper_rows.specs.declared.completing.Completed.{Completed}
use Rattle.cooper_rows.specs.declared.counting.BudgetError.{BudgetError}
use Rattle.cooper_rows.specs.declared.grounding.GroundPool.{GroundPool}
use Rattle.cooper_rows.specs.Counted.{IsAfter, IsCause}
use Rattle.cooper_rows.specs.Rows.{completed, IsGround, are_facts}
use Rattle.cooper_rows.proofs.Budgets.{Due, due_step, due_err, due_end, after_as, cause_as, after_after, cause_first, cause_then, results-append}

-- ---- a loop: what is made so far and what is left, and the whole
pub record DueGround (now start : ℕ) (made : GroundPool) (due whole : Grounding) : Type 0 where
  pub counted : Due now start (length due.rows) (length whole.rows) (results due.steps) (results whole.steps)
  pub rows : made.rows ++ due.rows ≡ whole.rows
  pub clauses : made.clauses ++ due.clauses ≡ whole.clauses

append_nil : {A : Type 0} (xs : List A) → xs ++ [] ≡ xs
append_nil [] = refl
append_nil (x ∷ xs) = ap (λ ys. x ∷ ys) (append_nil xs)

pub ground_step : (m1 m0 start : ℕ) (made more next : GroundPool) (g rest due whole : Grounding) → DueGround m0 start made due whole → due ≡ then_ground g rest
    → IsAfter m1 m0 (length g.rows) (results g.steps) → IsGround more g → next.rows ≡ made.rows ++ more.rows → next.clauses ≡ made.clauses ++ more.clauses → DueGround m1 start next rest whole
ground_step m1 m0 start made more next g rest due whole d is a told rows clauses =
    let here = subst (λ e. DueGround m0 start made e whole) is d in
    record {
      counted = due_step m1 m0 start (length rest.rows) (length g.rows) (length (g.rows ++ rest.rows)) (length whole.rows) (results g.steps) (results rest.steps) (results (g.steps ++ rest.steps)) (results whole.steps) here.counted (length-append g.rows rest.rows) (results-append g.steps rest.steps) a;
      rows = ap (λ rs. rs ++ rest.rows) (rows ∙ ap (λ rs. made.rows ++ rs) told.0) ∙ append_assoc made.rows g.rows rest.rows ∙ here.rows;
      clauses = ap (λ cs. cs ++ rest.clauses) (clauses ∙ ap (λ cs. made.clauses ++ cs) told.1) ∙ append_assoc made.clauses g.clauses rest.clauses ∙ here.clauses;
    }

pub ground_err : (e : BudgetError) (m0 start : ℕ) (made : GroundPool) (g rest due whole : Grounding) → DueGround m0 start made due whole → due ≡ then_ground g rest → IsCause e m0 (length g.rows) (results g.steps) → IsCause e start (length whole.rows) (results whole.steps)
ground_err e m0 start made g rest due whole d is h =
    let here = subst (λ e. DueGround m0 start made e whole) is d in
    due_err e m0 start (length rest.rows) (length g.rows) (length (g.rows ++ rest.rows)) (length whole.rows) (results g.steps) (results rest.steps) (results (g.steps ++ rest.steps)) (results whole.steps) here.counted (length-append g.rows rest.rows) (results-append g.steps rest.steps) h

-- nothing is left
abbrev pub no_more : Grounding
no_more = record { rows = []; clauses = []; steps = [] }

pub ground_end : (m start : ℕ) (made : GroundPool) (due whole : Grounding) → DueGround m start made due whole → due ≡ no_more → IsAfter m start (length whole.rows) (results whole.steps) × IsGround made whole
ground_end m start made due whole d is =
    let here = subst (λ e. DueGround m start made e whole) is d in
    (due_end m start 0 (length whole.rows) [] (results whole.steps) here.counted refl refl, (sym (append_nil made.rows) ∙ here.rows, sym (append_nil made.clauses) ∙ here.clauses))

-- the clauses from a place on
pub each_at : (by_ : ℕ → Numbered → Grounding) (next number : ℕ) (cs : List (List Fact)) (i : ℕ) (y : List Fact) → suc i ≤ length cs → y ≡ get_or cs i y
    → ground_each by_ next (enumerate_from number (drop i cs)) ≡ then_ground (by_ next (number, y)) (ground_each by_ (next + length (by_ next (number, y)).rows) (enumerate_from (number + 1) (drop (i + 1) cs)))
each_at by_ next number cs i y h is =
    at_drop_more (λ us. ground_each by_ next (enumerate_from number us)) cs i y h
    ∙ ap (λ z. ground_each by_ next (enumerate_from number (z ∷ drop (i + 1) cs))) (sym is)

-- ---- a clause with the first of the variables
abbrev pub first_of : ℕ → Numbered → Grounding
first_of x c = record { rows = complete_rows c.0 x c.1; clauses = []; steps = complete_steps x c.1 }

-- what grounds the clauses of its rows
abbrev pub rest_of : ℕ → List ℕ → ℕ → Numbered → Grounding
rest_of x xs next c = ground_each (ground_by xs) (next + length (complete_rows c.0 x c.1)) (enumerate_from next (map (row_clause c.1) (complete_rows c.0 x c.1)))

pub ground_cons : (vs : List ℕ) (next : ℕ) (c : Numbered) → 1 ≤ length vs → occurs_in (get_or vs 0 0) c.1 ≡ true → ground_by vs next c ≡ then_ground (first_of (get_or vs 0 0) c) (rest_of (get_or vs 0 0) (drop 1 vs) next c)
ground_cons [] next c up has = absurd (omega arith)
ground_cons (x ∷ xs) next c up has = ap (λ b. let g : Grounding = elim b [ true ↦ then_ground (first_of x c) (rest_of x xs next c) | false ↦ ground_by xs next c ] in g) has

-- what the clauses of its rows become, with the variables and clauses that the code passes on
pub rest_is : (x : ℕ) (xs ys : List ℕ) (next after number : ℕ) (clause : List Fact) (made : Completed) (given : List (List Fact)) → ys ≡ xs → after ≡ next + length made.rows → made ≡ completed clause (complete_rows number x clause) → given ≡ made.clauses
    → ground_each (ground_by ys) after (enumerate_from next given) ≡ rest_of x xs next (number, clause)
rest_is x xs ys next after number clause made given same later told is =
    let rows = complete_rows number x clause in
    let count : Completed → ℕ = λ m. next + length m.rows in
    let clauses : Completed → List (List Fact) = λ m. m.clauses in
    ap (λ zs. ground_each (ground_by zs) after (enumerate_from next given)) same
    ∙ ap (λ k. ground_each (ground_by xs) k (enumerate_from next given)) (later ∙ ap count told)
    ∙ ap (λ cs. ground_each (ground_by xs) (next + length rows) (enumerate_from next cs)) (is ∙ ap clauses told)

-- the parts of two groundings
pub then_err : (e : BudgetError) (m0 : ℕ) (g h whole : Grounding) → whole ≡ then_ground g h → IsCause e m0 (length g.rows) (results g.steps) → IsCause e m0 (length whole.rows) (results whole.steps)
then_err e m0 g h whole is cause =
    subst (λ w. IsCause e m0 (length w.rows) (results w.steps)) (sym is)
    (cause_as e m0 (length (g.rows ++ h.rows)) (length g.rows + length h.rows) (results (g.steps ++ h.steps)) (results g.steps ++ results h.steps) (length-append g.rows h.rows) (results-append g.steps h.steps) (cause_first e m0 (length g.rows) (length h.rows) (results g.steps) (results h.steps) cause))

pub then_last_err : (e : BudgetError) (m1 m0 : ℕ) (g h whole : Grounding) → whole ≡ then_ground g h → IsAfter m1 m0 (length g.rows) (results g.steps) → IsCause e m1 (length h.rows) (results h.steps) → IsCause e m0 (length whole.rows) (results whole.steps)
then_last_err e m1 m0 g h whole is a cause =
    subst (λ w. IsCause e m0 (length w.rows) (results w.steps)) (sym is)
    (cause_as e m0 (length (g.rows ++ h.rows)) (length g.rows + length h.rows) (results (g.steps ++ h.steps)) (results g.steps ++ results h.steps) (length-append g.rows h.rows) (results-append g.steps h.steps) (cause_then e m1 m0 (length g.rows) (length h.rows) (results g.steps) (results h.steps) a cause))

pub then_ok : (m2 m1 m0 : ℕ) (g h whole : Grounding) (made : GroundPool) → whole ≡ then_ground g h → IsAfter m1 m0 (length g.rows) (results g.steps) → IsAfter m2 m1 (length h.rows) (results h.steps) → made.rows ≡ g.rows ++ h.rows → made.clauses ≡ g.clauses ++ h.clauses
    → IsAfter m2 m0 (length whole.rows) (results whole.steps) × IsGround made whole
then_ok m2 m1 m0 g h whole made is a b rows clauses =
    subst (λ w. IsAfter m2 m0 (length w.rows) (results w.steps) × IsGround made w) (sym is)
    (after_as m2 m0 (length (g.rows ++ h.rows)) (length g.rows + length h.rows) (results (g.steps ++ h.steps)) (results g.steps ++ results h.steps) (length-append g.rows h.rows) (results-append g.steps h.steps) (after_after m2 m1 m0 (length g.rows) (length h.rows) (results g.steps) (results h.steps) a b), (rows, clauses))

-- ---- well-formed clauses
pub facts_append : (cs ds es : List Numbered) → es ≡ cs ++ ds → are_facts cs ≡ true → are_facts ds ≡ true → are_facts es ≡ true
facts_append cs ds es is h k = ap are_facts is ∙ list_all-append _ cs ds ∙ and_from _ _ h k
