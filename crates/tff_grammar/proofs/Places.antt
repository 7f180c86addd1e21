-- What may stand at a place, by the texts that go on there and by the stack.
use Rattle.std.proofs.Common.{◌≡◌, ℕ, ◌≤◌, true, false, IsTrue, List, [], ◌∷◌, ◌++◌, refl, sym, ap, subst, ◌∙◌, append_assoc, arith, ◌⊎◌, inl, inr}
use Rattle.std.proofs.lemmas.List.{append-nil}
use Rattle.tff_grammar.specs.declared.faults.FaultName.{FaultName}
use Rattle.tff_grammar.specs.declared.pieces.Keyword.TheVariants.{Premise}
use Rattle.tff_grammar.specs.declared.pieces.Piece.{Piece}
use Rattle.tff_grammar.specs.declared.pieces.Piece.TheVariants as piece
use Rattle.tff_grammar.specs.Grammar.{FileTree, has_one}
use Rattle.tff_grammar.specs.Text.{Leveled, Leveleds, file_text}
use Rattle.tff_grammar.specs.Meaning.{file_of}
use Rattle.tff_grammar.specs.FirstFault.{max_levels, pieces_of, IsShallow, IsFaultless, GoesOnDeeper, AtStart, AtRole, AtSort, AtMostLevels, Fits}
use Rattle.tff_grammar.specs.Machine.{Stack, levels, Check, free, deepens, unbracketed, bracketed, Step, moved, stuck, step, Values, file_value, end_of, whole}
use Rattle.tff_grammar.specs.Machine as m
use Rattle.tff_grammar.proofs.Runs.{RunsOn, text_runs}
use Rattle.tff_grammar.proofs.Table.{Kept, step_keeps, floor}
use Rattle.tff_grammar.proofs.Completes.{Rests, text, IfMoved, Before, step_completes}
use Rattle.tff_grammar.proofs.Canonical.{complete, within}
use Rattle.tff_grammar.proofs.Texts.{Passes, is_done, whole_done, passes_complete, done_completes, shallow-append}
use Rattle.tff_grammar.proofs.Viable.{start, passes_low, runs_along, last_of}
use Rattle.tff_grammar.proofs.Walks.{goes_beyond, may_go_on}
use Rattle.tff_grammar.proofs.Names.{RoleAt, SortAt, StackFits, fits_map}

-- ---- the end of a statement

pub start_done : (front : List Piece) (k : Stack) → Passes start front k → AtStart front → is_done k ≡ true
start_done front k h (file, s) =
    let runs = rw (← append-nil (file_text file)) at (text_runs file s.faultless.one) in
    let passes : Passes start (pieces_of (file_text file)) k = rw s.spelled h in
    let r = runs_along (file_value (file_of file) ∷ []) (file_text file) [] start k (file_value [] ∷ []) runs passes in
    whole_done k r.values (file_value (file_of file) ∷ []) r.runs

pub done_start : (front : List Piece) (k : Stack) → Passes start front k → is_done k ≡ true → AtStart front
done_start front k h done =
    let (rs, empty) = done_completes k done in
    let c = passes_complete front start k h rs in
    let file : FileTree = c.rests.0.0 in
    let one : IsTrue (has_one file false) = c.rests.0.1 in
    let all : file_text file ≡ c.before = c.split ∙ ap (λ (ts : Leveleds). c.before ++ ts) empty ∙ append-nil c.before in
    (file, record { faultless = record { one = one; shallow = rw all c.shallow }; spelled = ap pieces_of all ∙ c.spelled })

-- ---- a role, a sort

pub role_stack : (front : List Piece) (k : Stack) → Passes start front k → AtRole front → RoleAt k
role_stack front k h (s, g) = (s, goes_beyond front (piece.Lower Premise s ∷ []) k h g)

pub stack_role : (front : List Piece) (k : Stack) → Passes start front k → RoleAt k → AtRole front
stack_role front k h (s, g) = (s, may_go_on front (piece.Lower Premise s ∷ []) k h g)

pub sort_stack : (front : List Piece) (k : Stack) → Passes start front k → AtSort front → SortAt k
sort_stack front k h (inl g) = inl (goes_beyond front _ k h g)
sort_stack front k h (inr g) = inr (goes_beyond front _ k h g)

pub stack_sort : (front : List Piece) (k : Stack) → Passes start front k → SortAt k → AtSort front
stack_sort front k h (inl g) = inl (may_go_on front _ k h g)
stack_sort front k h (inr g) = inr (may_go_on front _ k h g)

-- ---- levels

floor_kept : (k : Stack) (check : Check) (x : ℕ) (next : Stack) → Kept k (moved check x next) → floor k ≤ x
floor_kept k free x next (a, b, c) = c
floor_kept k deepens x next (a, b, c) = c
floor_kept k unbracketed x next (a, b, c, i, d) = c
floor_kept k bracketed x next (a, b, c, i, d) = c

pub stack_full : (front : List Piece) (k : Stack) → Passes start front k → max_levels ≤ floor k → AtMostLevels front
stack_full front k h full = λ file before behind t faultless split spelled.
    let runs = rw split at (text_runs file faultless.one) in
    let passes : Passes start (pieces_of before) k = rw spelled h in
    let r = runs_along (file_value (file_of file) ∷ []) before (t ∷ behind) start k (file_value [] ∷ []) runs passes in
    by _ t.1 (step k t.0) (step_keeps k t.0) r.runs
  where
    by : (P : Stack → Type 0) (level : ℕ) (st : Step) → Kept k st → RunsOn level P st → max_levels ≤ level
    by P level (moved check x next) kept (e, r) = let f = floor_kept k check x next kept in omega (arith, f, full, e)
    by P level (stuck name) kept r = absurd r

-- the first token that completes a stack stands in the fewest levels, or nothing completes it
abbrev FirstLow : Stack → Type 0
FirstLow k = ((text k (complete k) ≡ []) × (is_done k ≡ false)) ⊎ ((t : Leveled) × (behind : Leveleds) × (text k (complete k) ≡ t ∷ behind) × (t.1 ≡ floor k))

first_low : (k : Stack) → FirstLow k
first_low [] = inl (refl, refl)
first_low (m.notes ∷ k) = first_low k
first_low (m.result ∷ k) = first_low k
first_low (m.no_arrow ∷ k) = first_low k
first_low (m.ended ∷ k) = first_low k
first_low (m.bound q ∷ k) = first_low k
first_low (m.tail ∷ k) = first_low k
first_low (m.chain j ∷ k) = first_low k
first_low (m.after_link l ∷ k) = first_low k
first_low (m.arguments ∷ k) = first_low k
first_low (m.second ∷ k) = first_low k
first_low (m.after_relation r ∷ k) = first_low k
first_low (s ∷ k) = inr (_, _, refl, refl)

pub full_stack : (front : List Piece) (k : Stack) → Passes start front k → AtMostLevels front → max_levels ≤ floor k
full_stack front k h full =
    let low = passes_low front start k (omega arith) h in
    let c = passes_complete front start k h (complete k) in
    let file : FileTree = c.rests.0.0 in
    let one : IsTrue (has_one file false) = c.rests.0.1 in
    let all : IsShallow (file_text file) = rw c.split (shallow-append c.before (text k (complete k)) c.shallow (within k max_levels low)) in
    let faultless : IsFaultless file = record { one = one; shallow = all } in
    by file faultless c.before c.split c.spelled (first_low k)
  where
    by : (file : FileTree) → IsFaultless file → (before : Leveleds) → file_text file ≡ before ++ text k (complete k) → pieces_of before ≡ front → FirstLow k → max_levels ≤ floor k
    by file faultless before split spelled (inl (empty, undone)) =
        let all : file_text file ≡ before = split ∙ ap (λ (ts : Leveleds). before ++ ts) empty ∙ append-nil before in
        let done = start_done front k h (file, record { faultless = faultless; spelled = ap pieces_of all ∙ spelled }) in
        absurd cc
    by file faultless before split spelled (inr (t, behind, e, low)) =
        let most = full file before behind t faultless (split ∙ ap (λ (ts : Leveleds). before ++ ts) e) spelled in
        omega (arith, most, low)

-- no text goes on with a token that the machine refuses, in however many levels
pub stuck_deeper : (front : List Piece) (p : Piece) (k : Stack) (name : FaultName) → Passes start front k → step k p ≡ stuck name → GoesOnDeeper (front ++ p ∷ []) → ⊥
stuck_deeper front p k name h e (file, one, b) =
    let l = last_of b.before front p b.spelled in
    let all : file_text file ≡ l.before ++ (p, l.level) ∷ b.behind = b.split ∙ ap (λ (ts : Leveleds). ts ++ b.behind) l.split ∙ append_assoc l.before ((p, l.level) ∷ []) b.behind in
    let runs = rw all at (text_runs file one) in
    let passes : Passes start (pieces_of l.before) k = rw l.spelled h in
    let r = runs_along (file_value (file_of file) ∷ []) l.before ((p, l.level) ∷ b.behind) start k (file_value [] ∷ []) runs passes in
    by _ _ (step k p) e r.runs
  where
    by : (P : Stack → Type 0) (level : ℕ) (st : Step) → st ≡ stuck name → RunsOn level P st → ⊥
    by P level (moved check x next) i r = absurd cc
    by P level (stuck other) i r = r

pieces_append : (a b : Leveleds) → pieces_of (a ++ b) ≡ pieces_of a ++ pieces_of b
pieces_append [] b = refl
pieces_append (t ∷ a) b = ap (λ (qs : List Piece). t.0 ∷ qs) (pieces_append a b)

-- where the machine takes it, a text goes on, in levels within the limit or not
pub moved_deeper : (front : List Piece) (p : Piece) (k : Stack) (check : Check) (x : ℕ) (next : Stack) → Passes start front k → step k p ≡ moved check x next → GoesOnDeeper (front ++ p ∷ [])
moved_deeper front p k check x next h e =
    let (rs, is) = by (step k p) e (step_completes k p) in
    let c = passes_complete front start k h rs in
    let file : FileTree = c.rests.0.0 in
    let one : IsTrue (has_one file false) = c.rests.0.1 in
    let behind = text next (complete next) in
    let split : file_text file ≡ (c.before ++ (p, x) ∷ []) ++ behind = c.split ∙ ap (λ (ts : Leveleds). c.before ++ ts) is ∙ sym (append_assoc c.before ((p, x) ∷ []) behind) in
    let spelled : pieces_of (c.before ++ (p, x) ∷ []) ≡ front ++ p ∷ [] = pieces_append c.before ((p, x) ∷ []) ∙ ap (λ (qs : List Piece). qs ++ p ∷ []) c.spelled in
    (file, one, record { before = c.before ++ (p, x) ∷ []; behind = behind; split = split; spelled = spelled })
  where
    by : (st : Step) → st ≡ moved check x next → IfMoved (Before k p) st → (rs : Rests k) × (text k rs ≡ (p, x) ∷ text next (complete next))
    by st i h = (subst (λ (s : Step). IfMoved (Before k p) s) i h) (complete next)

-- ---- the names that fit

pub fits_stack : (front : List Piece) (p : Piece) (k : Stack) (name other : FaultName) → Passes start front k → step k p ≡ stuck name → Fits front p other → StackFits k p other
fits_stack front p k name other h e fits =
    fits_map _ _ _ _ _ _ _ _ p other (λ g. start_done front k h g) (λ w x i g. role_stack front k h g) (λ i g. sort_stack front k h g) full fits
  where
    full : GoesOnDeeper (front ++ p ∷ []) ⊎ AtMostLevels front → max_levels ≤ floor k
    full (inl g) = absurd (stuck_deeper front p k name h e g)
    full (inr g) = full_stack front k h g

pub stack_fits : (front : List Piece) (p : Piece) (k : Stack) (other : FaultName) → Passes start front k → StackFits k p other → Fits front p other
stack_fits front p k other h fits =
    fits_map _ _ _ _ _ _ _ _ p other (λ g. done_start front k h g) (λ w x i g. stack_role front k h g) (λ i g. stack_sort front k h g) (λ g. inr (stack_full front k h g)) fits
