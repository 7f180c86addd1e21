-- Where the machine goes along the tokens, and where it halts.
use Rattle.std.proofs.Common.{◌≡◌, ℕ, ◌≤◌, false, List, [], ◌∷◌, ◌++◌, length, Option, Some, None, refl, sym, ap, subst, ◌∙◌, ◌⊎◌, inl, inr}
use Rattle.tff_grammar.specs.declared.faults.FaultName.{FaultName}
use Rattle.tff_grammar.specs.declared.faults.FaultName.TheVariants as n
use Rattle.tff_grammar.specs.declared.faults.Found.{Found}
use Rattle.tff_grammar.specs.declared.pieces.Piece.{Piece}
use Rattle.tff_grammar.specs.Text.{Leveleds}
use Rattle.tff_grammar.specs.Meaning.{file_of}
use Rattle.tff_grammar.specs.FirstFault.{max_levels, pieces_of, IsShallow, GoesOn}
use Rattle.tff_grammar.specs.Machine.{Stack, levels, Check, Step, moved, stuck, step, act, left, Values, file_value, Outcome, whole, fault, fault_at, end_of, checked, or_fault, go_on, go}
use Rattle.tff_grammar.specs.Machine as m
use Rattle.tff_grammar.proofs.Runs.{Runs, RunsOn, text_runs}
use Rattle.tff_grammar.proofs.Table.{Kept, step_keeps}
use Rattle.tff_grammar.proofs.Texts.{Passes, PassesOn, is_done, level_low}
use Rattle.tff_grammar.proofs.Viable.{start, goes_on}

-- the machine takes these tokens, in levels within the limit
abbrev pub May : Stack → List Piece → Type 0
May k qs = (end : Stack) × Passes k qs end

-- ---- fronts

pub passes_append : (a b : List Piece) (k mid end : Stack) → Passes k a mid → Passes mid b end → Passes k (a ++ b) end
passes_append [] b k mid end e h = subst (λ (s : Stack). Passes s b end) (sym e) h
passes_append (p ∷ a) b k mid end h g = by (λ next r. passes_append a b next mid end r g) (step k p) h
  where
    by : ((next : Stack) → Passes next a mid → Passes next (a ++ b) end) → (st : Step) → PassesOn (λ next. Passes next a mid) st → PassesOn (λ next. Passes next (a ++ b) end) st
    by rest (moved check x next) (l, r) = (l, rest next r)
    by rest (stuck name) r = absurd r

-- what comes behind a front that leads to a known stack
pub passes_behind : (a b : List Piece) (k mid end : Stack) → Passes k a mid → Passes k (a ++ b) end → Passes mid b end
passes_behind [] b k mid end e h = subst (λ (s : Stack). Passes s b end) e h
passes_behind (p ∷ a) b k mid end h g = by (λ next r s. passes_behind a b next mid end r s) (step k p) h g
  where
    by : ((next : Stack) → Passes next a mid → Passes next (a ++ b) end → Passes mid b end) → (st : Step) → PassesOn (λ next. Passes next a mid) st
        → PassesOn (λ next. Passes next (a ++ b) end) st → Passes mid b end
    by rest (moved check x next) (l, r) (l', s) = rest next r s
    by rest (stuck name) r s = absurd r

pub passes_front : (a b : List Piece) (k end : Stack) → Passes k (a ++ b) end → May k a
passes_front [] b k end h = (k, refl)
passes_front (p ∷ a) b k end h = by (λ next r. passes_front a b next end r) (step k p) h
  where
    by : ((next : Stack) → Passes next (a ++ b) end → May next a) → (st : Step) → PassesOn (λ next. Passes next (a ++ b) end) st → (last : Stack) × PassesOn (λ next. Passes next a last) st
    by rest (moved check x next) (l, r) = let (last, h') = rest next r in (last, (l, h'))
    by rest (stuck name) r = absurd r

-- ---- what goes on is passed

pub runs_pass : (end : Values) (before behind : Leveleds) (k : Stack) (vs : Values) → Runs end k vs (before ++ behind) → IsShallow (before ++ behind) → May k (pieces_of before)
runs_pass end [] behind k vs r s = (k, refl)
runs_pass end (t ∷ before) behind k vs r s = by (λ next r'. runs_pass end before behind next (act k t.0 vs) r' s.1) (step k t.0) r
  where
    by : ((next : Stack) → Runs end next (act k t.0 vs) (before ++ behind) → May next (pieces_of before)) → (st : Step)
        → RunsOn t.1 (λ next. Runs end next (act k t.0 vs) (before ++ behind)) st → (last : Stack) × PassesOn (λ next. Passes next (pieces_of before) last) st
    by rest (moved check x next) (e, r') = let (last, h) = rest next r' in (last, (rw (← e) s.0, h))
    by rest (stuck name) r' = absurd r'

pub goes_pass : (ps : List Piece) → GoesOn ps → May start ps
goes_pass ps (file, faultless, b) =
    let runs = rw b.split at (text_runs file faultless.one) in
    let shallow = rw b.split at faultless.shallow in
    let (last, h) = runs_pass (file_value (file_of file) ∷ []) b.before b.behind start (file_value [] ∷ []) runs shallow in
    (last, rw (← b.spelled) h)

-- behind a front the machine takes what a text goes on with, and no other
pub goes_beyond : (front qs : List Piece) (k : Stack) → Passes start front k → GoesOn (front ++ qs) → May k qs
goes_beyond front qs k h g = let (last, all) = goes_pass (front ++ qs) g in (last, passes_behind front qs start k last h all)

pub may_go_on : (front qs : List Piece) (k : Stack) → Passes start front k → May k qs → GoesOn (front ++ qs)
may_go_on front qs k h (last, r) = goes_on (front ++ qs) last (passes_append front qs start k last h r)

pub goes_front : (front qs : List Piece) → GoesOn (front ++ qs) → GoesOn front
goes_front front qs g =
    let (last, all) = goes_pass (front ++ qs) g in
    let (mid, h) = passes_front front qs start last all in
    goes_on front mid h

-- ---- the machine goes along the tokens that are there, and finds no fault

abbrev pub WalksOn : List Piece → (Stack → Type 0) → Step → Type 0
WalksOn later rest (moved check x next) = (x ≤ max_levels) × (checked check x later ≡ None) × rest next
WalksOn later rest (stuck name) = ⊥

abbrev pub Walks : Stack → List Piece → List Piece → Stack → Type 0
Walks k [] left end = k ≡ end
Walks k (p ∷ ps) left end = WalksOn (ps ++ left) (λ next. Walks next ps left end) (step k p)

pub walks_pass : (ps left : List Piece) (k end : Stack) → Walks k ps left end → Passes k ps end
walks_pass [] left k end e = e
walks_pass (p ∷ ps) left k end h = by (λ next r. walks_pass ps left next end r) (step k p) h
  where
    by : ((next : Stack) → Walks next ps left end → Passes next ps end) → (st : Step) → WalksOn (ps ++ left) (λ next. Walks next ps left end) st → PassesOn (λ next. Passes next ps end) st
    by rest (moved check x next) (l, c, r) = (l, rest next r)
    by rest (stuck name) r = absurd r

-- ---- where it halts

abbrev pub HaltsOn : List Piece → FaultName → Step → Type 0
HaltsOn left name (moved check x next) = checked check x left ≡ Some name
HaltsOn left name (stuck other) = other ≡ name

abbrev pub Halt : Stack → List Piece → FaultName → Type 0
Halt k [] name = (is_done k ≡ false) × (n.Syntax ≡ name)
Halt k (p ∷ left) name = HaltsOn left name (step k p)

pub record Halts (k : Stack) (ps : List Piece) (f : Found) : Type 0 where
  pub front : List Piece
  pub left : List Piece
  pub stack : Stack
  pub split : ps ≡ front ++ left
  pub left_is : f.left ≡ length left
  pub walks : Walks k front left stack
  pub halt : Halt stack left f.name

same_fault : (f g : Found) → fault f ≡ fault g → f ≡ g
same_fault f g e = cc

end_halts : (k : Stack) (vs : Values) (f : Found) → end_of k vs ≡ fault f → (is_done k ≡ false) × (record { name = n.Syntax; left = 0 } ≡ f)
end_halts [] vs f e = (refl, same_fault _ f e)
end_halts (m.statements again ∷ k) vs f e = absurd cc
end_halts (m.notes ∷ k) vs f e = end_halts k vs f e
end_halts (m.result ∷ k) vs f e = end_halts k _ f e
end_halts (m.no_arrow ∷ k) vs f e = end_halts k _ f e
end_halts (m.ended ∷ k) vs f e = end_halts k _ f e
end_halts (m.bound q ∷ k) vs f e = end_halts k _ f e
end_halts (m.tail ∷ k) vs f e = end_halts k _ f e
end_halts (m.chain j ∷ k) vs f e = end_halts k _ f e
end_halts (m.after_link l ∷ k) vs f e = end_halts k _ f e
end_halts (m.arguments ∷ k) vs f e = end_halts k _ f e
end_halts (m.second ∷ k) vs f e = end_halts k _ f e
end_halts (m.after_relation r ∷ k) vs f e = end_halts k _ f e
end_halts (s ∷ k) vs f e = (refl, same_fault _ f e)

-- it halts at the first of these tokens, or goes on
abbrev HaltsHere : List Piece → Piece → Found → Step → Type 0
HaltsHere ps p f st = HaltsOn ps f.name st × (f.left ≡ length (p ∷ ps))

record HaltsLater (ps : List Piece) (f : Found) (st : Step) : Type 0 where
  front : List Piece
  left : List Piece
  stack : Stack
  split : ps ≡ front ++ left
  left_is : f.left ≡ length left
  walks : WalksOn (front ++ left) (λ next. Walks next front left stack) st
  halt : Halt stack left f.name

join_halts : (k : Stack) (p : Piece) (ps : List Piece) (f : Found) → HaltsHere ps p f (step k p) ⊎ HaltsLater ps f (step k p) → Halts k (p ∷ ps) f
join_halts k p ps f (inl (h, l)) = record { front = []; left = p ∷ ps; stack = k; split = refl; left_is = l; walks = refl; halt = h }
join_halts k p ps f (inr r) = record {
  front = p ∷ r.front;
  left = r.left;
  stack = r.stack;
  split = ap (λ (qs : List Piece). p ∷ qs) r.split;
  left_is = r.left_is;
  walks = r.walks;
  halt = r.halt;
}

moved_halts : (k : Stack) (p : Piece) (ps : List Piece) (f : Found) (check : m.Check) (x : ℕ) (next : Stack) (o : Option FaultName) (rest : Outcome) → checked check x ps ≡ o
    → Kept k (moved check x next) → levels k ≤ max_levels → (levels next ≤ max_levels → rest ≡ fault f → Halts next ps f) → or_fault (p ∷ ps) o rest ≡ fault f
    → HaltsHere ps p f (moved check x next) ⊎ HaltsLater ps f (moved check x next)
moved_halts k p ps f check x next (Some name) rest is kept low further e =
    let same = same_fault _ f e in
    inl (is ∙ ap (λ (g : Found). Some g.name) same, ap (λ (g : Found). g.left) (sym same))
moved_halts k p ps f check x next None rest is kept low further e =
    let (x_low, next_low) = level_low k check x next ps kept low is in
    let r = further next_low e in
    inr (record {
      front = r.front;
      left = r.left;
      stack = r.stack;
      split = r.split;
      left_is = r.left_is;
      walks = (x_low, rw r.split at is, r.walks);
      halt = r.halt;
    })

pub halts : (ps : List Piece) (k : Stack) (vs : Values) (f : Found) → levels k ≤ max_levels → go k vs ps ≡ fault f → Halts k ps f
halts [] k vs f low e =
    let (h, same) = end_halts k vs f e in
    record { front = []; left = []; stack = k; split = refl; left_is = ap (λ (g : Found). g.left) (sym same); walks = refl; halt = (h, ap (λ (g : Found). g.name) same) }
halts (p ∷ ps) k vs f low e = join_halts k p ps f (by (λ next l e'. halts ps next (act k p vs) f l e') (step k p) (step_keeps k p) e)
  where
    by : ((next : Stack) → levels next ≤ max_levels → go next (act k p vs) ps ≡ fault f → Halts next ps f) → (st : Step) → Kept k st
        → go_on (λ next. go next (act k p vs) ps) p ps st ≡ fault f → HaltsHere ps p f st ⊎ HaltsLater ps f st
    by rest (moved check x next) kept e' = moved_halts k p ps f check x next (checked check x ps) (go next (act k p vs) ps) refl kept low (λ l g. rest next l g) e'
    by rest (stuck name) kept e' =
        let same = same_fault _ f e' in
        inl (ap (λ (g : Found). g.name) same, ap (λ (g : Found). g.left) (sym same))
