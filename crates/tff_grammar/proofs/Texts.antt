-- Where the machine reads all tokens they are a text and give its trees, and each text is read so.
use Rattle.std.proofs.Common.{◌≡◌, ℕ, ◌≤◌, Bool, true, false, ◌&&◌, cond, IsTrue, List, [], ◌∷◌, ◌++◌, Option, Some, None, refl, sym, ap, subst, ◌∙◌, arith}
use Rattle.std.specs.Prelude.{nat_lt}
use Rattle.std.proofs.lemmas.List.{append-nil}
use Rattle.std.proofs.lemmas.Bool.{ltb-false, le-ltb}
use Rattle.tff_grammar.specs.declared.faults.FaultName.TheVariants as n
use Rattle.tff_grammar.specs.declared.pieces.Sign.TheVariants.{CloseRound, Star, Arrow}
use Rattle.tff_grammar.specs.declared.pieces.Piece.{Piece}
use Rattle.tff_grammar.specs.declared.pieces.Piece.TheVariants as piece
use Rattle.tff_grammar.specs.Grammar.{no_arguments, no_second, alone, no_units, no_notes, FileTree, no_statements, has_one}
use Rattle.tff_grammar.specs.Text.{Leveleds, file_text}
use Rattle.tff_grammar.specs.Meaning.{file_of}
use Rattle.tff_grammar.specs.FirstFault.{max_levels, pieces_of, IsShallow, Spells}
use Rattle.tff_grammar.specs.Machine.{Symbol, Stack, levels, Check, free, deepens, unbracketed, bracketed, Step, moved, stuck, step, act, left, is_optional, Value, Values, file_value, Outcome, whole, fault, end_of, checked, argument_follows, or_fault, go_on, go, read}
use Rattle.tff_grammar.specs.Machine as m
use Rattle.tff_grammar.proofs.Runs.{Runs, RunsOn, text_runs}
use Rattle.tff_grammar.proofs.Completes.{Rests, text, IfMoved, Before, step_completes}
use Rattle.tff_grammar.proofs.Canonical.{complete}
use Rattle.tff_grammar.proofs.Table.{Kept, step_keeps}

-- ---- a text is read

-- no fault is found at a token that a text has
text_checked : (end : Values) (k : Stack) (p : Piece) (vs : Values) (ts : Leveleds) (level : ℕ) (check : Check) (n : ℕ) (next : Stack) → Kept k (moved check n next)
    → level ≡ n → level ≤ max_levels → Runs end next vs ts → checked check n (pieces_of ts) ≡ None
text_checked end k p vs ts level free n next h e l r = refl
text_checked end k p vs ts level deepens n next h e l r = let d : nat_lt max_levels n ≡ false = le-ltb _ _ (omega (arith, e, l)) in rw d refl
text_checked end k p vs [] level unbracketed n next h e l r = refl
text_checked end k p vs ((piece.Sign Arrow, x) ∷ ts) level unbracketed n next (a, b, c, inner, is) e l r =
    absurd (subst (λ (s : Stack). Runs end s vs ((piece.Sign Arrow, x) ∷ ts)) is r)
text_checked end k p vs ((q, x) ∷ ts) level unbracketed n next h e l r = refl
text_checked end k p vs [] level bracketed n next h e l r = refl
text_checked end k p vs ((piece.Sign Arrow, x) ∷ ts) level bracketed n next (a, b, c, inner, is) e l r =
    absurd (subst (λ (s : Stack). Runs end s vs ((piece.Sign Arrow, x) ∷ ts)) is r)
text_checked end k p vs ((piece.Sign Star, x) ∷ ts) level bracketed n next (a, b, c, inner, is) e l r =
    absurd (subst (λ (s : Stack). Runs end s vs ((piece.Sign Star, x) ∷ ts)) is r)
text_checked end k p vs ((piece.Sign CloseRound, x) ∷ []) level bracketed n next h e l r = refl
text_checked end k p vs ((piece.Sign CloseRound, x) ∷ (piece.Sign Arrow, y) ∷ ts) level bracketed n next (a, b, c, inner, is) e l r =
    absurd ((subst (λ (s : Stack). Runs end s vs ((piece.Sign CloseRound, x) ∷ (piece.Sign Arrow, y) ∷ ts)) is r).1)
text_checked end k p vs ((piece.Sign CloseRound, x) ∷ (q, y) ∷ ts) level bracketed n next h e l r = refl
text_checked end k p vs ((q, x) ∷ ts) level bracketed n next h e l r = refl

pub runs_read : (end : Values) (ts : Leveleds) (k : Stack) (vs : Values) → Runs end k vs ts → IsShallow ts → go k vs (pieces_of ts) ≡ whole end
runs_read end [] k vs r h = r
runs_read end (t ∷ ts) k vs r h = by (λ next. runs_read end ts next (act k t.0 vs)) (step k t.0) (step_keeps k t.0) r
  where
    by : ((next : Stack) → Runs end next (act k t.0 vs) ts → IsShallow ts → go next (act k t.0 vs) (pieces_of ts) ≡ whole end) → (st : Step) → Kept k st
        → RunsOn t.1 (λ next. Runs end next (act k t.0 vs) ts) st → go_on (λ next. go next (act k t.0 vs) (pieces_of ts)) t.0 (pieces_of ts) st ≡ whole end
    by rest (moved check x next) kept (e, r') = rw (text_checked end k t.0 (act k t.0 vs) ts t.1 check x next kept e h.0 r') (rest next r' h.1)
    by rest (stuck name) kept r' = absurd r'

pub text_read : (file : FileTree) (ps : List Piece) → Spells file ps → read ps ≡ whole (file_value (file_of file) ∷ [])
text_read file ps s = rw (← s.spelled) (runs_read (file_value (file_of file) ∷ []) (file_text file) (m.statements false ∷ []) (file_value [] ∷ []) (text_runs file s.faultless.one) s.faultless.shallow)

-- ---- what is read is a text

-- the tokens lead from one stack to another, in levels within the limit
abbrev pub PassesOn : (Stack → Type 0) → Step → Type 0
PassesOn rest (moved check x next) = (x ≤ max_levels) × rest next
PassesOn rest (stuck name) = ⊥

abbrev pub Passes : Stack → List Piece → Stack → Type 0
Passes k [] end = k ≡ end
Passes k (p ∷ ps) end = PassesOn (λ next. Passes next ps end) (step k p)

-- nothing must come any more
abbrev pub is_done : Stack → Bool
is_done [] = false
is_done (m.statements again ∷ k) = true
is_done (s ∷ k) = is_optional s && is_done k

-- some tokens before those that complete a stack complete the one before them
pub record Completed (k : Stack) (ps : List Piece) (behind : Leveleds) : Type 0 where
  pub rests : Rests k
  pub before : Leveleds
  pub split : text k rests ≡ before ++ behind
  pub spelled : pieces_of before ≡ ps
  pub shallow : IsShallow before

pub passes_complete : (ps : List Piece) (k end : Stack) → Passes k ps end → (rs : Rests end) → Completed k ps (text end rs)
passes_complete [] k end e rs = subst (λ (s : Stack). Completed s [] (text end rs)) (sym e) (record { rests = rs; before = []; split = refl; spelled = refl; shallow = tt })
passes_complete (p ∷ ps) k end h rs = by (λ next r. passes_complete ps next end r rs) (step k p) (step_completes k p) h
  where
    by : ((next : Stack) → Passes next ps end → Completed next ps (text end rs)) → (st : Step) → IfMoved (Before k p) st → PassesOn (λ next. Passes next ps end) st → Completed k (p ∷ ps) (text end rs)
    by rest (moved check x next) back (l, r) =
        let c = rest next r in
        let (mine, e) = back c.rests in
        record { rests = mine; before = (p, x) ∷ c.before; split = e ∙ ap (λ (ts : Leveleds). (p, x) ∷ ts) c.split; spelled = ap (λ (qs : List Piece). p ∷ qs) c.spelled; shallow = (l, c.shallow) }
    by rest (stuck name) back r = absurd r

-- a stack that is done is completed by nothing
pub done_completes : (k : Stack) → is_done k ≡ true → (rs : Rests k) × (text k rs ≡ [])
done_completes [] h = absurd cc
done_completes (m.statements again ∷ k) h = (((no_statements, refl), complete k), refl)
done_completes (m.notes ∷ k) h = let (rs, e) = done_completes k h in ((no_notes, rs), e)
done_completes (m.result ∷ k) h = let (rs, e) = done_completes k h in ((None, rs), e)
done_completes (m.no_arrow ∷ k) h = let (rs, e) = done_completes k h in ((tt, rs), e)
done_completes (m.ended ∷ k) h = let (rs, e) = done_completes k h in ((tt, rs), e)
done_completes (m.bound q ∷ k) h = let (rs, e) = done_completes k h in ((tt, rs), e)
done_completes (m.tail ∷ k) h = let (rs, e) = done_completes k h in ((alone, rs), e)
done_completes (m.chain j ∷ k) h = let (rs, e) = done_completes k h in ((no_units, rs), e)
done_completes (m.after_link l ∷ k) h = let (rs, e) = done_completes k h in ((tt, rs), e)
done_completes (m.arguments ∷ k) h = let (rs, e) = done_completes k h in ((no_arguments, rs), e)
done_completes (m.second ∷ k) h = let (rs, e) = done_completes k h in ((no_second, rs), e)
done_completes (m.after_relation r ∷ k) h = let (rs, e) = done_completes k h in ((tt, rs), e)
done_completes (s ∷ k) h = absurd cc

-- what is whole has passed all tokens
pub whole_done : (k : Stack) (vs v : Values) → end_of k vs ≡ whole v → is_done k ≡ true
whole_done [] vs v e = absurd cc
whole_done (m.statements again ∷ k) vs v e = refl
whole_done (m.notes ∷ k) vs v e = whole_done k vs v e
whole_done (m.result ∷ k) vs v e = whole_done k _ v e
whole_done (m.no_arrow ∷ k) vs v e = whole_done k _ v e
whole_done (m.ended ∷ k) vs v e = whole_done k _ v e
whole_done (m.bound q ∷ k) vs v e = whole_done k _ v e
whole_done (m.tail ∷ k) vs v e = whole_done k _ v e
whole_done (m.chain j ∷ k) vs v e = whole_done k _ v e
whole_done (m.after_link l ∷ k) vs v e = whole_done k _ v e
whole_done (m.arguments ∷ k) vs v e = whole_done k _ v e
whole_done (m.second ∷ k) vs v e = whole_done k _ v e
whole_done (m.after_relation r ∷ k) vs v e = whole_done k _ v e
whole_done (s ∷ k) vs v e = absurd cc

-- a token that is taken without a fault stands within the limit
pub level_low : (k : Stack) (check : Check) (x : ℕ) (next : Stack) (ps : List Piece) → Kept k (moved check x next) → levels k ≤ max_levels → checked check x ps ≡ None → (x ≤ max_levels) × (levels next ≤ max_levels)
level_low k free x next ps (a, b, c) l e = (omega (arith, b, l), omega (arith, a, b, l))
level_low k deepens x next ps (a, b, c) l e = by (nat_lt max_levels x) refl e
  where
    by : (t : Bool) → nat_lt max_levels x ≡ t → cond t (Some n.TooDeep) None ≡ None → (x ≤ max_levels) × (levels next ≤ max_levels)
    by true is h = absurd cc
    by false is h = let x_low : x ≤ max_levels = ltb-false _ _ is in (x_low, omega (arith, a, x_low))
level_low k unbracketed x next ps (a, b, c, i, d) l e = (omega (arith, b, l), omega (arith, a, b, l))
level_low k bracketed x next ps (a, b, c, i, d) l e = (omega (arith, b, l), omega (arith, a, b, l))

-- the machine passes all tokens, and nothing must come any more
pub record Ended (k : Stack) (ps : List Piece) : Type 0 where
  pub last : Stack
  pub passed : Passes k ps last
  pub done : is_done last ≡ true

-- a step with a fault gives no whole
no_fault : (ps : List Piece) (o : Option _) (rest : Outcome) (v : Values) → or_fault ps o rest ≡ whole v → o ≡ None
no_fault ps None rest v e = refl
no_fault ps (Some name) rest v e = absurd cc

no_fault_rest : (ps : List Piece) (o : Option _) (rest : Outcome) (v : Values) → or_fault ps o rest ≡ whole v → rest ≡ whole v
no_fault_rest ps None rest v e = e
no_fault_rest ps (Some name) rest v e = absurd cc

abbrev EndedOn : List Piece → Step → Type 0
EndedOn ps st = (last : Stack) × PassesOn (λ next. Passes next ps last) st × (is_done last ≡ true)

pub whole_passes : (ps : List Piece) (k : Stack) (vs v : Values) → levels k ≤ max_levels → go k vs ps ≡ whole v → Ended k ps
whole_passes [] k vs v l e = record { last = k; passed = refl; done = whole_done k vs v e }
whole_passes (p ∷ ps) k vs v l e =
    let (last, passed, done) = by (λ next low e'. whole_passes ps next (act k p vs) v low e') (step k p) (step_keeps k p) e in
    record { last = last; passed = passed; done = done }
  where
    by : ((next : Stack) → levels next ≤ max_levels → go next (act k p vs) ps ≡ whole v → Ended next ps) → (st : Step) → Kept k st
        → go_on (λ next. go next (act k p vs) ps) p ps st ≡ whole v → EndedOn ps st
    by rest (moved check x next) kept e' =
        let (x_low, next_low) = level_low k check x next ps kept l (no_fault (p ∷ ps) (checked check x ps) (go next (act k p vs) ps) v e') in
        let r = rest next next_low (no_fault_rest (p ∷ ps) (checked check x ps) (go next (act k p vs) ps) v e') in
        (r.last, (x_low, r.passed), r.done)
    by rest (stuck name) kept e' = absurd cc

-- values that texts give
pub runs_give : (end : Values) (ts : Leveleds) (k : Stack) (vs v : Values) → Runs end k vs ts → go k vs (pieces_of ts) ≡ whole v → v ≡ end
runs_give end [] k vs v r e = same v end (sym e ∙ r)
  where
    same : (a b : Values) → whole a ≡ whole b → a ≡ b
    same a b h = cc
runs_give end (t ∷ ts) k vs v r e = by (λ next. runs_give end ts next (act k t.0 vs) v) (step k t.0) r e
  where
    by : ((next : Stack) → Runs end next (act k t.0 vs) ts → go next (act k t.0 vs) (pieces_of ts) ≡ whole v → v ≡ end) → (st : Step)
        → RunsOn t.1 (λ next. Runs end next (act k t.0 vs) ts) st → go_on (λ next. go next (act k t.0 vs) (pieces_of ts)) t.0 (pieces_of ts) st ≡ whole v → v ≡ end
    by rest (moved check x next) (h, r') e' = rest next r' (no_fault_rest (t.0 ∷ pieces_of ts) (checked check x (pieces_of ts)) (go next (act k t.0 vs) (pieces_of ts)) v e')
    by rest (stuck name) r' e' = absurd r'

pub shallow-append : (a b : Leveleds) → IsShallow a → IsShallow b → IsShallow (a ++ b)
shallow-append [] b ha hb = hb
shallow-append (t ∷ a) b ha hb = (ha.0, shallow-append a b ha.1 hb)

-- the text that was read, and its trees
pub record IsRead (ps : List Piece) (v : Values) : Type 0 where
  pub file : FileTree
  pub spells : Spells file ps
  pub gives : v ≡ file_value (file_of file) ∷ []

pub read_text : (ps : List Piece) (v : Values) → read ps ≡ whole v → IsRead ps v
read_text ps v e =
    let h = whole_passes ps (m.statements false ∷ []) (file_value [] ∷ []) v (omega arith) e in
    let (rs, empty) = done_completes h.last h.done in
    let c = passes_complete ps (m.statements false ∷ []) h.last h.passed rs in
    let file : FileTree = c.rests.0.0 in
    let one : IsTrue (has_one file false) = c.rests.0.1 in
    let all : file_text file ≡ c.before = c.split ∙ ap (λ (ts : Leveleds). c.before ++ ts) empty ∙ append-nil c.before in
    let spelled : pieces_of (file_text file) ≡ ps = ap pieces_of all ∙ c.spelled in
    record {
      file = file;
      spells = record { faultless = record { one = one; shallow = rw all c.shallow }; spelled = spelled };
      gives = runs_give (file_value (file_of file) ∷ []) (file_text file) (m.statements false ∷ []) (file_value [] ∷ []) v (text_runs file one) (rw spelled e);
    }
