-- The fault that the machine finds is the first one.
use Rattle.std.proofs.Common.{◌≡◌, ℕ, ◌+◌, ◌<◌, ◌≤◌, Bool, true, false, cond, List, [], ◌∷◌, ◌++◌, length, Some, None, refl, sym, ap, subst, ◌∙◌, append_assoc, arith, length-append, ◌⊎◌, inl, inr}
use Rattle.std.specs.Prelude.{nat_lt}
use Rattle.std.proofs.lemmas.List.{append-nil}
use Rattle.std.proofs.lemmas.Bool.{ltb-true}
use Rattle.tff_grammar.specs.declared.faults.FaultName.{FaultName}
use Rattle.tff_grammar.specs.declared.faults.FaultName.TheVariants as n
use Rattle.tff_grammar.specs.declared.faults.Found.{Found}
use Rattle.tff_grammar.specs.declared.pieces.Sign.TheVariants.{OpenRound, CloseRound, Star, Not, Arrow}
use Rattle.tff_grammar.specs.declared.pieces.BasicSort.TheVariants.{Int}
use Rattle.tff_grammar.specs.declared.pieces.Piece.{Piece}
use Rattle.tff_grammar.specs.declared.pieces.Piece.TheVariants as piece
use Rattle.tff_grammar.specs.FirstFault.{max_levels, GoesOn, GoesOnDeeper, AtStart, AtRole, AtSort, AtMostLevels, IsOpener, IsUnsupported, FitsWhere, Fits, rank, FaultAt, IsFirst}
use Rattle.tff_grammar.specs.FirstFault as first
use Rattle.tff_grammar.specs.Text.{file_text}
use Rattle.tff_grammar.specs.Machine.{Stack, levels, Check, free, deepens, unbracketed, bracketed, Step, moved, stuck, step, Values, file_value, checked, argument_follows, fault, whole, read}
use Rattle.tff_grammar.specs.Machine as m
use Rattle.tff_grammar.proofs.Table.{Kept, step_keeps}
use Rattle.tff_grammar.proofs.Texts.{Passes, PassesOn, is_done, read_text}
use Rattle.tff_grammar.proofs.Viable.{start, passes_low, goes_on, stuck_there, deep_there}
use Rattle.tff_grammar.proofs.Walks.{May, passes_front, goes_beyond, may_go_on, goes_front, WalksOn, Walks, walks_pass, HaltsOn, Halt, halts}
use Rattle.tff_grammar.proofs.Names.{IntAt, StuckNamed, stuck_named}
use Rattle.tff_grammar.proofs.Places.{start_done, moved_deeper, fits_stack, stack_fits}
use Rattle.tff_grammar.proofs.Shapes.{StepShape, step_shape, TruthInt, truth_int}

-- ---- what a check finds

cond_some : (b : Bool) (v name : FaultName) → cond b (Some v) None ≡ Some name → (b ≡ true) × (v ≡ name)
cond_some true v name e = (refl, cc)
cond_some false v name e = absurd cc

some_none : (name : FaultName) → Some name ≡ None → ⊥
some_none name e = absurd cc

-- a `$o` is the sort of an argument: with `$int` in its place these tokens may come
record Argument (k : Stack) (left : List Piece) : Type 0 where
  mid : List Piece
  more : List Piece
  split : left ≡ mid ++ more
  int : May k (piece.Basic Int ∷ mid)
  no_truth : May k (piece.Truth ∷ mid) → ⊥

may_with : (k : Stack) (p : Piece) (mid : List Piece) (x : ℕ) (next : Stack) → step k p ≡ moved free x next → x ≤ max_levels → May next mid → May k (p ∷ mid)
may_with k p mid x next e low (last, h) = (last, rw e (low, h))

may_on : (k : Stack) (p : Piece) (mid : List Piece) (check : Check) (x : ℕ) (next : Stack) → step k p ≡ moved check x next → May k (p ∷ mid) → May next mid
may_on k p mid check x next e (last, h) = let h' = rw e at h in (last, h'.1)

unbracketed_argument : (k : Stack) (left : List Piece) (x : ℕ) (inner : Stack) → step k piece.Truth ≡ moved unbracketed x (m.no_arrow ∷ inner) → step k (piece.Basic Int) ≡ moved free x (m.result ∷ inner)
    → x ≤ max_levels → levels inner ≤ max_levels → argument_follows false left ≡ true → Argument k left
unbracketed_argument k (piece.Sign Arrow ∷ more) x inner t i low inner_low follows = record {
  mid = piece.Sign Arrow ∷ [];
  more = more;
  split = refl;
  int = may_with k (piece.Basic Int) (piece.Sign Arrow ∷ []) x (m.result ∷ inner) i low (m.result_sort ∷ inner, (inner_low, refl));
  no_truth = λ g. by (may_on k piece.Truth (piece.Sign Arrow ∷ []) unbracketed x (m.no_arrow ∷ inner) t g);
}
  where
    by : May (m.no_arrow ∷ inner) (piece.Sign Arrow ∷ []) → ⊥
    by (last, h) = h
unbracketed_argument k left x inner t i low inner_low follows = absurd cc

bracketed_argument : (k : Stack) (left : List Piece) (x : ℕ) (inner : Stack) → step k piece.Truth ≡ moved bracketed x (m.close ∷ m.no_arrow ∷ inner) → step k (piece.Basic Int) ≡ moved free x (m.in_args ∷ inner)
    → x ≤ max_levels → levels inner + 1 ≤ max_levels → argument_follows true left ≡ true → Argument k left
bracketed_argument k (piece.Sign Arrow ∷ more) x inner t i low inner_low follows = record {
  mid = piece.Sign Arrow ∷ [];
  more = more;
  split = refl;
  int = may_with k (piece.Basic Int) (piece.Sign Arrow ∷ []) x (m.in_args ∷ inner) i low (m.result_sort ∷ m.close ∷ inner, (inner_low, refl));
  no_truth = λ g. by (may_on k piece.Truth (piece.Sign Arrow ∷ []) bracketed x (m.close ∷ m.no_arrow ∷ inner) t g);
}
  where
    by : May (m.close ∷ m.no_arrow ∷ inner) (piece.Sign Arrow ∷ []) → ⊥
    by (last, h) = h
bracketed_argument k (piece.Sign Star ∷ more) x inner t i low inner_low follows = record {
  mid = piece.Sign Star ∷ [];
  more = more;
  split = refl;
  int = may_with k (piece.Basic Int) (piece.Sign Star ∷ []) x (m.in_args ∷ inner) i low (m.argument ∷ inner, (inner_low, refl));
  no_truth = λ g. by (may_on k piece.Truth (piece.Sign Star ∷ []) bracketed x (m.close ∷ m.no_arrow ∷ inner) t g);
}
  where
    by : May (m.close ∷ m.no_arrow ∷ inner) (piece.Sign Star ∷ []) → ⊥
    by (last, h) = h
bracketed_argument k (piece.Sign CloseRound ∷ piece.Sign Arrow ∷ more) x inner t i low inner_low follows = record {
  mid = piece.Sign CloseRound ∷ piece.Sign Arrow ∷ [];
  more = more;
  split = refl;
  int = let l : levels inner ≤ max_levels = omega (arith, inner_low) in
      may_with k (piece.Basic Int) (piece.Sign CloseRound ∷ piece.Sign Arrow ∷ []) x (m.in_args ∷ inner) i low (m.result_sort ∷ inner, (inner_low, (l, refl)));
  no_truth = λ g. by (may_on k piece.Truth (piece.Sign CloseRound ∷ piece.Sign Arrow ∷ []) bracketed x (m.close ∷ m.no_arrow ∷ inner) t g);
}
  where
    by : May (m.close ∷ m.no_arrow ∷ inner) (piece.Sign CloseRound ∷ piece.Sign Arrow ∷ []) → ⊥
    by (last, (l, h)) = h
bracketed_argument k left x inner t i low inner_low follows = absurd cc

-- ---- the fault stands there

truth_fault : (ps front left : List Piece) (k : Stack) (stopped : Bool) → Passes start front k → ps ≡ front ++ piece.Truth ∷ left → Argument k left → FaultAt ps stopped (length front) n.Unsupported
truth_fault ps front left k stopped h split a =
    first.argument front a.mid a.more (split ∙ ap (λ (qs : List Piece). front ++ piece.Truth ∷ qs) a.split) refl (may_go_on front (piece.Basic Int ∷ a.mid) k h a.int)
    (λ g. a.no_truth (goes_beyond front (piece.Truth ∷ a.mid) k h g)) refl

-- the name of a fault of the text: where it stops at the end, that is where no token begins
abbrev pub last_name : Bool → List Piece → FaultName → FaultName
last_name true [] name = n.Lex
last_name stopped left name = name

moved_fault : (ps front left : List Piece) (p : Piece) (k : Stack) (stopped : Bool) (check : Check) (x : ℕ) (next : Stack) (name : FaultName) → Passes start front k → levels k ≤ max_levels
    → ps ≡ front ++ p ∷ left → step k p ≡ moved check x next → checked check x left ≡ Some name → StepShape p (moved check x next) → Kept k (moved check x next)
    → FaultAt ps stopped (length front) name
moved_fault ps front left p k stopped free x next name h low split e c shape kept = absurd (some_none name (sym c))
moved_fault ps front left p k stopped deepens x next name h low split e c shape kept =
    let (b, same) = cond_some (nat_lt max_levels x) n.TooDeep name c in
    let deep : max_levels < x = ltb-true _ _ b in
    subst (λ (i : FaultName). FaultAt ps stopped (length front) i) same
    (first.stuck front left p split refl (goes_on front k h) (λ g. deep_there front p k next deepens x h e deep g) (shape, inl (moved_deeper front p k deepens x next h e)))
moved_fault ps front left p k stopped unbracketed x next name h low split e c shape kept = by (rw shape at e) (rw shape at split)
  where
    by : step k piece.Truth ≡ moved unbracketed x next → ps ≡ front ++ piece.Truth ∷ left → FaultAt ps stopped (length front) name
    by e' split' =
        let (follows, same) = cond_some (argument_follows false left) n.Unsupported name c in
        let t = subst (λ (st : Step). TruthInt st (step k (piece.Basic Int))) e' (truth_int k) in
        let (inner, is, i) = t in
        let next_low = rw is at kept.0 in
        let x_low : x ≤ max_levels = omega (arith, kept.1, low) in
        subst (λ (j : FaultName). FaultAt ps stopped (length front) j) same
        (truth_fault ps front left k stopped h split' (unbracketed_argument k left x inner (e' ∙ ap (moved unbracketed x) is) i x_low (omega (arith, next_low, x_low)) follows))
moved_fault ps front left p k stopped bracketed x next name h low split e c shape kept = by (rw shape at e) (rw shape at split)
  where
    by : step k piece.Truth ≡ moved bracketed x next → ps ≡ front ++ piece.Truth ∷ left → FaultAt ps stopped (length front) name
    by e' split' =
        let (follows, same) = cond_some (argument_follows true left) n.Unsupported name c in
        let t = subst (λ (st : Step). TruthInt st (step k (piece.Basic Int))) e' (truth_int k) in
        let (inner, is, i) = t in
        let next_low = rw is at kept.0 in
        let x_low : x ≤ max_levels = omega (arith, kept.1, low) in
        subst (λ (j : FaultName). FaultAt ps stopped (length front) j) same
        (truth_fault ps front left k stopped h split' (bracketed_argument k left x inner (e' ∙ ap (moved bracketed x) is) i x_low (omega (arith, next_low, x_low)) follows))

stuck_fault : (ps front left : List Piece) (p : Piece) (k : Stack) (stopped : Bool) (name : FaultName) → Passes start front k → ps ≡ front ++ p ∷ left → step k p ≡ stuck name
    → StuckNamed k p name → FaultAt ps stopped (length front) name
stuck_fault ps front left p k stopped name h split e (inl named) =
    first.stuck front left p split refl (goes_on front k h) (λ g. stuck_there front p k name h e g) (stack_fits front p k name h named.fits)
stuck_fault ps front left p k stopped name h split e (inr (i, is, may)) =
    subst (λ (j : FaultName). FaultAt ps stopped (length front) j) (sym is)
    (truth_fault ps front left k stopped h (rw i at split) (record { mid = []; more = left; split = refl; int = may; no_truth = λ (last, g). no_step last (rw i at e) g }))
  where
    no_step : (last : Stack) → step k piece.Truth ≡ stuck name → Passes k (piece.Truth ∷ []) last → ⊥
    no_step last e' g = rw e' at g

here_fault : (ps front left : List Piece) (k : Stack) (stopped : Bool) (name : FaultName) → Passes start front k → levels k ≤ max_levels → ps ≡ front ++ left → Halt k left name
    → FaultAt ps stopped (length front) (last_name stopped left name)
here_fault ps front [] k true name h low split halt =
    let all : ps ≡ front = split ∙ append-nil front in
    first.no_token refl (ap length all) (rw all (goes_on front k h)) refl
here_fault ps front [] k false name h low split (undone, is) =
    let all : ps ≡ front = split ∙ append-nil front in
    subst (λ (j : FaultName). FaultAt ps false (length front) j) is
    (first.too_early refl (ap length all) (rw all (goes_on front k h)) (rw all (λ g. absurd (differ undone (start_done front k h g)))) refl)
  where
    differ : is_done k ≡ false → is_done k ≡ true → ⊥
    differ a b = absurd cc
here_fault ps front (p ∷ left) k stopped name h low split halt = same_last stopped (by (step k p) refl (step_shape k p) (step_keeps k p) halt)
  where
    by : (st : Step) → step k p ≡ st → StepShape p st → Kept k st → HaltsOn left name st → FaultAt ps stopped (length front) name
    by (moved check x next) e shape kept c = moved_fault ps front left p k stopped check x next name h low split e c shape kept
    by (stuck other) e shape kept c = stuck_fault ps front left p k stopped name h split (e ∙ ap stuck c) (stuck_named k p name low (e ∙ ap stuck c))

    same_last : (s : Bool) → FaultAt ps s (length front) name → FaultAt ps s (length front) (last_name s (p ∷ left) name)
    same_last true f = f
    same_last false f = f

-- ---- and none before it

-- where a token stands, with another place in the same tokens
data Meets (front left other : List Piece) (p : Piece) (behind : List Piece) : Type 0 where
  earlier : (mid : List Piece) → front ≡ other ++ p ∷ mid → behind ≡ mid ++ left → Meets front left other p behind
  same : other ≡ front → left ≡ p ∷ behind → Meets front left other p behind
  later : length front < length other → Meets front left other p behind

cons_head : (a b : Piece) (qs rs : List Piece) → a ∷ qs ≡ b ∷ rs → a ≡ b
cons_head a b qs rs e = cc

cons_tail : (a b : Piece) (qs rs : List Piece) → a ∷ qs ≡ b ∷ rs → qs ≡ rs
cons_tail a b qs rs e = cc

meets_cons : (q r : Piece) (front left other : List Piece) (p : Piece) (behind : List Piece) → q ≡ r → Meets front left other p behind → Meets (q ∷ front) left (r ∷ other) p behind
meets_cons q r front left other p behind i (earlier mid e e') = earlier mid (rw i (ap (λ (qs : List Piece). r ∷ qs) e)) e'
meets_cons q r front left other p behind i (same e e') = same (rw i (ap (λ (qs : List Piece). r ∷ qs) e)) e'
meets_cons q r front left other p behind i (later l) = later (omega (arith, l))

meets : (front left other : List Piece) (p : Piece) (behind : List Piece) → front ++ left ≡ other ++ p ∷ behind → Meets front left other p behind
meets [] left [] p behind e = same refl e
meets [] left (r ∷ other) p behind e = later (omega arith)
meets (q ∷ front) left [] p behind e = earlier front (rw (cons_head q p (front ++ left) behind e) refl) (sym (cons_tail q p (front ++ left) behind e))
meets (q ∷ front) left (r ∷ other) p behind e =
    meets_cons q r front left other p behind (cons_head q r (front ++ left) (other ++ p ∷ behind) e) (meets front left other p behind (cons_tail q r (front ++ left) (other ++ p ∷ behind) e))

abbrev NotBefore : ℕ → FaultName → ℕ → FaultName → Type 0
NotBefore at name other name' = (at < other) ⊎ ((at ≡ other) × (rank name ≤ rank name'))

-- ---- a `$o` that the machine passed is none of an argument

record Walked (front : List Piece) (p : Piece) (mid left : List Piece) (k last : Stack) : Type 0 where
  stack : Stack
  passes : Passes k front stack
  walks : WalksOn (mid ++ left) (λ next. Walks next mid left last) (step stack p)

walks_split : (front : List Piece) (p : Piece) (mid left : List Piece) (k last : Stack) → Walks k (front ++ p ∷ mid) left last → Walked front p mid left k last
walks_split [] p mid left k last h = record { stack = k; passes = refl; walks = h }
walks_split (q ∷ front) p mid left k last h =
    let (stack, passes, walks) = by (λ next r. walks_split front p mid left next last r) (step k q) h in
    record { stack = stack; passes = passes; walks = walks }
  where
    by : ((next : Stack) → Walks next (front ++ p ∷ mid) left last → Walked front p mid left next last) → (st : Step)
        → WalksOn ((front ++ p ∷ mid) ++ left) (λ next. Walks next (front ++ p ∷ mid) left last) st
        → (stack : Stack) × PassesOn (λ next. Passes next front stack) st × WalksOn (mid ++ left) (λ next. Walks next mid left last) (step stack p)
    by rest (moved check x next) (l, c, r) = let w = rest next r in (w.stack, (l, w.passes), w.walks)
    by rest (stuck name) r = absurd r

no_arrow_goes : (mid behind : List Piece) (x : ℕ) (inner : Stack) → checked unbracketed x (mid ++ behind) ≡ None → May (m.result ∷ inner) mid → May (m.no_arrow ∷ inner) mid
no_arrow_goes [] behind x inner c h = (_, refl)
no_arrow_goes (piece.Sign Arrow ∷ mid) behind x inner c h = absurd (some_none n.Unsupported c)
no_arrow_goes (p ∷ mid) behind x inner c h = h

close_goes : (mid behind : List Piece) (x : ℕ) (inner : Stack) → checked bracketed x (mid ++ behind) ≡ None → May (m.in_args ∷ inner) mid → May (m.close ∷ m.no_arrow ∷ inner) mid
close_goes [] behind x inner c h = (_, refl)
close_goes (piece.Sign Arrow ∷ mid) behind x inner c h = absurd (some_none n.Unsupported c)
close_goes (piece.Sign Star ∷ mid) behind x inner c h = absurd (some_none n.Unsupported c)
close_goes (piece.Sign CloseRound ∷ []) behind x inner c (last, (l, h)) = (_, (l, refl))
close_goes (piece.Sign CloseRound ∷ piece.Sign Arrow ∷ mid) behind x inner c h = absurd (some_none n.Unsupported c)
close_goes (piece.Sign CloseRound ∷ p ∷ mid) behind x inner c (last, (l, h)) = (last, (l, h))
close_goes (p ∷ mid) behind x inner c (last, h) = absurd h

truth_goes : (k : Stack) (mid behind : List Piece) (P : Stack → Type 0) → WalksOn (mid ++ behind) P (step k piece.Truth) → May k (piece.Basic Int ∷ mid) → May k (piece.Truth ∷ mid)
truth_goes k mid behind P w h = by (step k piece.Truth) refl (truth_int k) w
  where
    with_truth : (check : Check) (x : ℕ) (next : Stack) → step k piece.Truth ≡ moved check x next → x ≤ max_levels → May next mid → May k (piece.Truth ∷ mid)
    with_truth check x next e low (last, r) = (last, rw e (low, r))

    by : (st : Step) → step k piece.Truth ≡ st → TruthInt st (step k (piece.Basic Int)) → WalksOn (mid ++ behind) P st → May k (piece.Truth ∷ mid)
    by (moved free x next) e i (l, c, r) = with_truth free x next e l (may_on k _ mid free x next i h)
    by (moved deepens x next) e i w' = absurd i
    by (moved unbracketed x next) e (inner, is, i) (l, c, r) =
        with_truth unbracketed x next e l (rw is (no_arrow_goes mid behind x inner c (may_on k _ mid free x (m.result ∷ inner) i h)))
    by (moved bracketed x next) e (inner, is, i) (l, c, r) =
        with_truth bracketed x next e l (rw is (close_goes mid behind x inner c (may_on k _ mid free x (m.in_args ∷ inner) i h)))
    by (stuck name) e i w' = absurd w'

passed_truth : (front mid left more : List Piece) (last : Stack) (rest : List Piece) → Walks start (front ++ piece.Truth ∷ mid) left last → rest ++ more ≡ mid ++ left
    → GoesOn (front ++ piece.Basic Int ∷ rest) → (GoesOn (front ++ piece.Truth ∷ rest) → ⊥) → ⊥
passed_truth front mid left more last rest w e g none =
    let s = walks_split front piece.Truth mid left start last w in
    let here = rw (← e) at s.walks in
    none (may_go_on front (piece.Truth ∷ rest) s.stack s.passes (truth_goes s.stack rest more _ here (goes_beyond front (piece.Basic Int ∷ rest) s.stack s.passes g)))

passed_goes_on : (front mid : List Piece) (p : Piece) (k : Stack) → Passes start (front ++ p ∷ mid) k → GoesOn (front ++ p ∷ [])
passed_goes_on front mid p k h =
    let (last, r) = passes_front (front ++ p ∷ []) mid start k (rw append_assoc h) in
    goes_on (front ++ p ∷ []) last r

-- ---- at the same token

opener_least : (front : List Piece) (p : Piece) (name : FaultName) → IsOpener p → Fits front p name → rank n.TooDeep ≤ rank name
opener_least front p n.Lex o h = absurd h
opener_least front (piece.Sign OpenRound) n.Unsupported o h = absurd h
opener_least front (piece.Sign Not) n.Unsupported o h = absurd h
opener_least front (piece.Quantifier q) n.Unsupported o h = absurd h
opener_least front p n.Unsupported o h = absurd o
opener_least front p n.Language o (s, e, h) = absurd (rw e at o)
opener_least front p n.TwoConjectures o (s, e, h) = absurd (rw e at o)
opener_least front p n.TooDeep o h = omega arith
opener_least front p n.NumberTooWide o h = omega arith
opener_least front p n.Syntax o h = omega arith

some_least : (front : List Piece) (p : Piece) (name : FaultName) → Fits front p name → rank n.Unsupported ≤ rank name
some_least front p n.Lex h = absurd h
some_least front p name h = omega arith

moved_least : (front left : List Piece) (p : Piece) (check : Check) (x : ℕ) (next : Stack) (name other : FaultName) → StepShape p (moved check x next) → checked check x left ≡ Some name
    → Fits front p other → rank name ≤ rank other
moved_least front left p free x next name other shape c fits = absurd (some_none name (sym c))
moved_least front left p deepens x next name other shape c fits =
    let (b, is) = cond_some (nat_lt max_levels x) n.TooDeep name c in rw (← is) (opener_least front p other shape fits)
moved_least front left p unbracketed x next name other shape c fits =
    let (b, is) = cond_some (argument_follows false left) n.Unsupported name c in rw (← is) (some_least front p other fits)
moved_least front left p bracketed x next name other shape c fits =
    let (b, is) = cond_some (argument_follows true left) n.Unsupported name c in rw (← is) (some_least front p other fits)

stuck_least : (front : List Piece) (p : Piece) (k : Stack) (name other : FaultName) → Passes start front k → step k p ≡ stuck name → StuckNamed k p name → Fits front p other → rank name ≤ rank other
stuck_least front p k name other h e (inl named) fits = named.least other (fits_stack front p k name other h e fits)
stuck_least front p k name other h e (inr (i, is, may)) fits = rw is (some_least front p other fits)

-- the machine's name at a token is the first of those that fit
halt_least : (front left : List Piece) (p : Piece) (k : Stack) (name other : FaultName) → Passes start front k → levels k ≤ max_levels → Halt k (p ∷ left) name → Fits front p other → rank name ≤ rank other
halt_least front left p k name other h low halt fits = by (step k p) refl (step_shape k p) halt
  where
    by : (st : Step) → step k p ≡ st → StepShape p st → HaltsOn left name st → rank name ≤ rank other
    by (moved check x next) e shape c = moved_least front left p check x next name other shape c fits
    by (stuck other') e shape c = stuck_least front p k name other h (e ∙ ap stuck c) (stuck_named k p name low (e ∙ ap stuck c)) fits

-- at a `$o` where `$int` may stand
truth_least : (front left : List Piece) (k : Stack) (name : FaultName) → levels k ≤ max_levels → Halt k (piece.Truth ∷ left) name → IntAt k → rank name ≤ rank n.Unsupported
truth_least front left k name low halt int = by (step k piece.Truth) refl (step_shape k piece.Truth) halt
  where
    named : StuckNamed k piece.Truth name → rank name ≤ rank n.Unsupported
    named (inl x) = absurd (x.no_int refl int)
    named (inr (i, is, may)) = rw is (omega arith)

    by : (st : Step) → step k piece.Truth ≡ st → StepShape piece.Truth st → HaltsOn left name st → rank name ≤ rank n.Unsupported
    by (moved free x next) e shape c = absurd (some_none name (sym c))
    by (moved deepens x next) e shape c = absurd shape
    by (moved unbracketed x next) e shape c = let (b, is) = cond_some (argument_follows false left) n.Unsupported name c in rw (← is) (omega arith)
    by (moved bracketed x next) e shape c = let (b, is) = cond_some (argument_follows true left) n.Unsupported name c in rw (← is) (omega arith)
    by (stuck other) e shape c = named (stuck_named k piece.Truth name low (e ∙ ap stuck c))

last_cons : (stopped : Bool) (p : Piece) (left : List Piece) (name : FaultName) → last_name stopped (p ∷ left) name ≡ name
last_cons true p left name = refl
last_cons false p left name = refl

-- ---- the first fault

module _ (ps front left : List Piece) (k : Stack) (name : FaultName) (split : ps ≡ front ++ left) (walks : Walks start front left k) (halt : Halt k left name) where
  passes : Passes start front k
  passes = walks_pass front left start k walks

  low : levels k ≤ max_levels
  low = passes_low front start k (omega arith) passes

  abbrev Behind : Bool → ℕ → FaultName → Type 0
  Behind stopped at other = NotBefore (length front) (last_name stopped left name) at other

  same_token : (stopped : Bool) (front' left' : List Piece) (p : Piece) (other : FaultName) → front' ≡ front → left ≡ p ∷ left' → Fits front' p other → Behind stopped (length front') other
  same_token stopped front' left' p other e is fits =
      let halt' = rw is at halt in
      let fits' = rw e at fits in
      let named : last_name stopped left name ≡ name = rw is (last_cons stopped p left' name) in
      inr (ap length (sym e), rw named (halt_least front left' p k name other passes low halt' fits'))

  same_truth : (stopped : Bool) (front' rest more : List Piece) (other : FaultName) → front' ≡ front → left ≡ piece.Truth ∷ (rest ++ more) → GoesOn (front' ++ piece.Basic Int ∷ rest) → other ≡ n.Unsupported
      → Behind stopped (length front') other
  same_truth stopped front' rest more other e is g named =
      let halt' = rw is at halt in
      let g' = rw e at g in
      let (last, r) = goes_beyond front (piece.Basic Int ∷ rest) k passes g' in
      let int : IntAt k = passes_front (piece.Basic Int ∷ []) rest k last r in
      let same_name : last_name stopped left name ≡ name = rw is (last_cons stopped piece.Truth (rest ++ more) name) in
      inr (ap length (sym e), rw (same_name, named) (truth_least front (rest ++ more) k name low halt' int))

  at_end : (stopped : Bool) (other : FaultName) (at : ℕ) → length ps ≡ at → ((l : List Piece) → l ≡ [] → rank (last_name stopped l name) ≤ rank other) → Behind stopped at other
  at_end stopped other at e h = by left refl
    where
      by : (l : List Piece) → left ≡ l → Behind stopped at other
      by [] is =
          let all : ps ≡ front = split ∙ ap (λ (qs : List Piece). front ++ qs) is ∙ append-nil front in
          inr (ap length (sym all) ∙ e, h left is)
      by (p ∷ l) is =
          let all : ps ≡ front ++ p ∷ l = split ∙ ap (λ (qs : List Piece). front ++ qs) is in
          let n : length ps ≡ length front + length (p ∷ l) = ap length all ∙ length-append front (p ∷ l) in
          inl (omega (arith, n, e))

  lex_least : (stopped : Bool) (other : FaultName) → stopped ≡ true → (l : List Piece) → l ≡ [] → rank (last_name stopped l name) ≤ rank other
  lex_least stopped other s l e = rw (s, e) (omega arith)

  syntax_most : (a : FaultName) → rank a ≤ 6
  syntax_most a = by a
    where
      by : (b : FaultName) → rank b ≤ 6
      by n.Lex = omega arith
      by n.Unsupported = omega arith
      by n.Language = omega arith
      by n.TwoConjectures = omega arith
      by n.TooDeep = omega arith
      by n.NumberTooWide = omega arith
      by n.Syntax = omega arith

  pub none_before : (stopped : Bool) (at : ℕ) (other : FaultName) → FaultAt ps stopped at other → NotBefore (length front) (last_name stopped left name) at other
  none_before stopped at other (first.stuck front' left' p e l g none fits) =
      subst (λ (i : ℕ). Behind stopped i other) l (by (meets front left front' p left' (sym split ∙ e)))
    where
      by : Meets front left front' p left' → Behind stopped (length front') other
      by (earlier mid i j) = absurd (none (passed_goes_on front' mid p k (rw i at passes)))
      by (same i j) = same_token stopped front' left' p other i j fits
      by (later lt) = inl lt
  none_before stopped at other (first.argument front' rest more e l g none named) =
      subst (λ (i : ℕ). Behind stopped i other) l (by (meets front left front' piece.Truth (rest ++ more) (sym split ∙ e)))
    where
      by : Meets front left front' piece.Truth (rest ++ more) → Behind stopped (length front') other
      by (earlier mid i j) = absurd (passed_truth front' mid left more k rest (rw i at walks) j g none)
      by (same i j) = same_truth stopped front' rest more other i j g named
      by (later lt) = inl lt
  none_before stopped at other (first.no_token s l g named) = at_end stopped other at l (lex_least stopped other s)
  none_before stopped at other (first.too_early s l g none named) = at_end stopped other at l (λ x e. rw named (syntax_most (last_name stopped x name)))

pub first_fault : (ps : List Piece) (f : Found) (stopped : Bool) → read ps ≡ fault f
    → (front left : List Piece) × (ps ≡ front ++ left) × (f.left ≡ length left) × IsFirst ps stopped (length front) (last_name stopped left f.name)
first_fault ps f stopped e =
    let h = halts ps start (file_value [] ∷ []) f (omega arith) e in
    let passes = walks_pass h.front h.left start h.stack h.walks in
    let low = passes_low h.front start h.stack (omega arith) passes in (
      h.front,
      h.left,
      h.split,
      h.left_is,
      record {
        fault = here_fault ps h.front h.left h.stack stopped f.name passes low h.split h.halt;
        first = λ other name' x. none_before ps h.front h.left h.stack f.name h.split h.walks h.halt stopped other name' x;
      },
    )

text_goes : (ps : List Piece) (v : Values) → read ps ≡ whole v → GoesOn ps
text_goes ps v e =
    let r = read_text ps v e in
    (r.file, r.spells.faultless, record { before = file_text r.file; behind = []; split = sym (append-nil (file_text r.file)); spelled = r.spells.spelled })

-- A whole text is at fault where no token begins behind it.
pub first_stop : (ps : List Piece) (v : Values) → read ps ≡ whole v → IsFirst ps true (length ps) n.Lex
first_stop ps v e = let goes = text_goes ps v e in record { fault = first.no_token refl refl goes refl; first = λ other name x. by goes other name x }
  where
    by : GoesOn ps → (other : ℕ) (name : FaultName) → FaultAt ps true other name → NotBefore (length ps) n.Lex other name
    by goes other name (first.stuck front left p split l g none fits) =
        absurd (none (goes_front (front ++ p ∷ []) left (rw append_assoc (rw split at goes))))
    by goes other name (first.argument front mid left split l g none named) =
        absurd (none (goes_front (front ++ piece.Truth ∷ mid) left (rw append_assoc (rw split at goes))))
    by goes other name (first.no_token s l g named) = inr (l, omega arith)
    by goes other name (first.too_early s l g none named) = absurd cc
