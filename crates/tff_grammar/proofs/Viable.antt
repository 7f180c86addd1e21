-- Where the machine is, a text goes on, and where it is stuck none does.
use Rattle.std.proofs.Common.{◌≡◌, ℕ, ◌<◌, ◌≤◌, false, List, [], ◌∷◌, ◌++◌, refl, ap, subst, ◌∙◌, append_assoc, arith}
use Rattle.tff_grammar.specs.declared.faults.FaultName.{FaultName}
use Rattle.tff_grammar.specs.declared.pieces.Piece.{Piece}
use Rattle.tff_grammar.specs.Grammar.{FileTree}
use Rattle.tff_grammar.specs.Text.{Leveled, Leveleds, file_text}
use Rattle.tff_grammar.specs.Meaning.{file_of}
use Rattle.tff_grammar.specs.FirstFault.{max_levels, pieces_of, IsShallow, GoesOn}
use Rattle.tff_grammar.specs.Machine.{Stack, levels, Check, free, deepens, unbracketed, bracketed, Step, moved, stuck, step, act, Values, file_value}
use Rattle.tff_grammar.specs.Machine as m
use Rattle.tff_grammar.proofs.Runs.{Runs, RunsOn, text_runs}
use Rattle.tff_grammar.proofs.Completes.{text}
use Rattle.tff_grammar.proofs.Canonical.{complete, within}
use Rattle.tff_grammar.proofs.Table.{Kept, step_keeps}
use Rattle.tff_grammar.proofs.Texts.{Passes, PassesOn, passes_complete, shallow-append}

abbrev pub start : Stack
start = m.statements false ∷ []

kept_low : (k next : Stack) (check : Check) (x : ℕ) → Kept k (moved check x next) → levels next ≤ x
kept_low k next free x (a, b, c) = a
kept_low k next deepens x (a, b, c) = a
kept_low k next unbracketed x (a, b, c, i, d) = a
kept_low k next bracketed x (a, b, c, i, d) = a

pub passes_low : (ps : List Piece) (k end : Stack) → levels k ≤ max_levels → Passes k ps end → levels end ≤ max_levels
passes_low [] k end l e = subst (λ (s : Stack). levels s ≤ max_levels) e l
passes_low (p ∷ ps) k end l h = by (λ next low r. passes_low ps next end low r) (step k p) (step_keeps k p) h
  where
    by : ((next : Stack) → levels next ≤ max_levels → Passes next ps end → levels end ≤ max_levels) → (st : Step) → Kept k st → PassesOn (λ next. Passes next ps end) st → levels end ≤ max_levels
    by rest (moved check x next) kept (low, r) = let a = kept_low k next check x kept in rest next (omega (arith, a, low)) r
    by rest (stuck name) kept r = absurd r

-- a text goes on from wherever the machine is
pub goes_on : (ps : List Piece) (end : Stack) → Passes start ps end → GoesOn ps
goes_on ps end h =
    let low = passes_low ps start end (omega arith) h in
    let c = passes_complete ps start end h (complete end) in
    let file : FileTree = c.rests.0.0 in
    let all : IsShallow (file_text file) = rw c.split (shallow-append c.before (text end (complete end)) c.shallow (within end max_levels low)) in
    (file, record { one = c.rests.0.1; shallow = all }, record { before = c.before; behind = text end (complete end); split = c.split; spelled = c.spelled })

-- a text runs on from where the machine is
pub record RunsOnFrom (end : Values) (k : Stack) (behind : Leveleds) : Type 0 where
  pub values : Values
  pub runs : Runs end k values behind

pub runs_along : (end : Values) (before behind : Leveleds) (k last : Stack) (vs : Values) → Runs end k vs (before ++ behind) → Passes k (pieces_of before) last → RunsOnFrom end last behind
runs_along end [] behind k last vs r e = record { values = vs; runs = subst (λ (s : Stack). Runs end s vs behind) e r }
runs_along end (t ∷ before) behind k last vs r h = by (λ next. runs_along end before behind next last (act k t.0 vs)) (step k t.0) r h
  where
    by : ((next : Stack) → Runs end next (act k t.0 vs) (before ++ behind) → Passes next (pieces_of before) last → RunsOnFrom end last behind) → (st : Step)
        → RunsOn t.1 (λ next. Runs end next (act k t.0 vs) (before ++ behind)) st → PassesOn (λ next. Passes next (pieces_of before) last) st → RunsOnFrom end last behind
    by rest (moved check x next) (e, r') (low, h') = rest next r' h'
    by rest (stuck name) r' h' = absurd r'

-- the last of some tokens
pub record Last (ts : Leveleds) (front : List Piece) (p : Piece) : Type 0 where
  pub before : Leveleds
  pub level : ℕ
  pub split : ts ≡ before ++ (p, level) ∷ []
  pub spelled : pieces_of before ≡ front

pub last_of : (ts : Leveleds) (front : List Piece) (p : Piece) → pieces_of ts ≡ front ++ p ∷ [] → Last ts front p
last_of [] [] p e = absurd cc
last_of [] (q ∷ front) p e = absurd cc
last_of (t ∷ ts) [] p e = record { before = []; level = t.1; split = by ts (tail_is t.0 p (pieces_of ts) e) (head_is t.0 p (pieces_of ts) e); spelled = refl }
  where
    tail_is : (a b : Piece) (qs : List Piece) → a ∷ qs ≡ b ∷ [] → qs ≡ []
    tail_is a b qs h = cc

    head_is : (a b : Piece) (qs : List Piece) → a ∷ qs ≡ b ∷ [] → a ≡ b
    head_is a b qs h = cc

    by : (us : Leveleds) → pieces_of us ≡ [] → t.0 ≡ p → t ∷ us ≡ (p, t.1) ∷ []
    by [] h i = ap (λ (q : Piece). (q, t.1) ∷ []) i
    by (u ∷ us) h i = absurd cc
last_of (t ∷ ts) (q ∷ front) p e =
    let r = last_of ts front p (tail_is t.0 q (pieces_of ts) (front ++ p ∷ []) e) in
    record { before = t ∷ r.before; level = r.level; split = ap (λ (us : Leveleds). t ∷ us) r.split; spelled = cons_is t.0 q (pieces_of r.before) front (head_is t.0 q (pieces_of ts) (front ++ p ∷ []) e) r.spelled }
  where
    tail_is : (a b : Piece) (qs rs : List Piece) → a ∷ qs ≡ b ∷ rs → qs ≡ rs
    tail_is a b qs rs h = cc

    head_is : (a b : Piece) (qs rs : List Piece) → a ∷ qs ≡ b ∷ rs → a ≡ b
    head_is a b qs rs h = cc

    cons_is : (a b : Piece) (qs rs : List Piece) → a ≡ b → qs ≡ rs → a ∷ qs ≡ b ∷ rs
    cons_is a b qs rs h i = cc

-- where a text has this token, the machine takes it, in as many levels
pub record Taken (k : Stack) (p : Piece) : Type 0 where
  pub level : ℕ
  pub low : level ≤ max_levels
  pub takes : RunsOn level (λ next. Unit {0}) (step k p)

shallow_last : (before : Leveleds) (t : Leveled) (behind : Leveleds) → IsShallow (before ++ t ∷ behind) → t.1 ≤ max_levels
shallow_last [] t behind h = h.0
shallow_last (u ∷ before) t behind h = shallow_last before t behind h.1

pub taken_there : (front : List Piece) (p : Piece) (k : Stack) → Passes start front k → GoesOn (front ++ p ∷ []) → Taken k p
taken_there front p k h (file, faultless, b) =
    let l = last_of b.before front p b.spelled in
    let all : file_text file ≡ l.before ++ (p, l.level) ∷ b.behind = b.split ∙ ap (λ (ts : Leveleds). ts ++ b.behind) l.split ∙ append_assoc l.before ((p, l.level) ∷ []) b.behind in
    let runs = rw all at (text_runs file faultless.one) in
    let passes : Passes start (pieces_of l.before) k = rw l.spelled h in
    let r = runs_along (file_value (file_of file) ∷ []) l.before ((p, l.level) ∷ b.behind) start k (file_value [] ∷ []) runs passes in
    record { level = l.level; low = shallow_last l.before (p, l.level) b.behind (rw all at faultless.shallow); takes = by _ _ (step k p) r.runs }
  where
    by : (P : Stack → Type 0) (level : ℕ) (st : Step) → RunsOn level P st → RunsOn level (λ next. Unit {0}) st
    by P level (moved check x next) (e, r) = (e, tt)
    by P level (stuck name) r = r

-- no text goes on with a token that the machine refuses, nor with one that stands in too many levels
pub stuck_there : (front : List Piece) (p : Piece) (k : Stack) (name : FaultName) → Passes start front k → step k p ≡ stuck name → GoesOn (front ++ p ∷ []) → ⊥
stuck_there front p k name h e g = let t = taken_there front p k h g in subst (λ (st : Step). RunsOn t.level (λ next. Unit {0}) st) e t.takes

pub deep_there : (front : List Piece) (p : Piece) (k next : Stack) (check : Check) (x : ℕ) → Passes start front k → step k p ≡ moved check x next → max_levels < x → GoesOn (front ++ p ∷ []) → ⊥
deep_there front p k next check x h e deep g =
    let t = taken_there front p k h g in
    let same = subst (λ (st : Step). RunsOn t.level (λ next. Unit {0}) st) e t.takes in
    absurd (omega (arith, same.0, t.low, deep))
