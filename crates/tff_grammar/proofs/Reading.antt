-- What the functions that read give, from what their calls give.
use Rattle.std.proofs.Common.{◌≡◌, ℕ, ◌+◌, ◌≤◌, false, true, List, [], ◌∷◌, ◌++◌, refl, ap, ◌∙◌, arith}
use Rattle.std.specs.Prelude.{nat_lt}
use Rattle.std.proofs.lemmas.Bool.{le-ltb}
use Rattle.tff_grammar.specs.declared.pieces.Sign.TheVariants.{OpenRound, OpenSquare, Colon, Not}
use Rattle.tff_grammar.specs.declared.pieces.Junction.{Junction}
use Rattle.tff_grammar.specs.declared.pieces.Junction.TheVariants.{And, Or}
use Rattle.tff_grammar.specs.declared.pieces.Link.{Link}
use Rattle.tff_grammar.specs.declared.pieces.Quantifier.{Quantifier}
use Rattle.tff_grammar.specs.declared.pieces.Relation.{Relation}
use Rattle.tff_grammar.specs.declared.pieces.Piece.{Piece}
use Rattle.tff_grammar.specs.declared.pieces.Piece.TheVariants as piece
use Rattle.tff_grammar.specs.declared.faults.Stop.{Stop}
use Rattle.tff_grammar.specs.declared.faults.Stop.TheVariants as stops
use Rattle.tff_grammar.specs.declared.trees.Term.{Term}
use Rattle.tff_grammar.specs.declared.trees.Variable.{Variable}
use Rattle.tff_grammar.specs.declared.trees.Formula.{Formula}
use Rattle.tff_grammar.specs.declared.trees.Formula.TheVariants as formulas
use Rattle.tff_grammar.specs.FirstFault.{max_levels}
use Rattle.tff_grammar.specs.Machine.{Stack, levels, Values, term_value, binders_value, formula_value, members_value, go, Reads, Stops, begins_atom, EndsChain}
use Rattle.tff_grammar.specs.Machine as m

low : (n level : ℕ) → n ≡ level → level + 1 ≤ 500 → nat_lt max_levels (n + 1) ≡ false
low n level e h = le-ltb _ _ (omega arith)

raised : (n level : ℕ) → n ≡ level → n + 1 ≡ level + 1
raised n level e = ap (λ (x : ℕ). x + 1) e

-- ---- what need not come

ended_over : (k : Stack) (vs : Values) (ps : List Piece) → go (m.ended ∷ k) vs ps ≡ go k (m.ended_left vs) ps
ended_over k vs [] = refl
ended_over k vs (p ∷ ps) = refl

bound_over : (q : Quantifier) (k : Stack) (vs : Values) (ps : List Piece) → go (m.bound q ∷ k) vs ps ≡ go k (m.bound_left q vs) ps
bound_over q k vs [] = refl
bound_over q k vs (p ∷ ps) = refl

after_link_over : (l : Link) (k : Stack) (vs : Values) (ps : List Piece) → go (m.after_link l ∷ k) vs ps ≡ go k (m.after_link_left l vs) ps
after_link_over l k vs [] = refl
after_link_over l k vs (p ∷ ps) = refl

after_relation_over : (r : Relation) (k : Stack) (vs : Values) (ps : List Piece) → go (m.after_relation r ∷ k) vs ps ≡ go k (m.after_relation_left r vs) ps
after_relation_over r k vs [] = refl
after_relation_over r k vs (p ∷ ps) = refl

chain_over : (j : Junction) (k : Stack) (vs : Values) (ps : List Piece) → EndsChain j ps → go (m.chain j ∷ k) vs ps ≡ go k (m.chain_left j vs) ps
chain_over j k vs [] h = refl
chain_over And k vs (piece.Junction And ∷ ps) h = absurd (h refl)
chain_over Or k vs (piece.Junction Or ∷ ps) h = absurd (h refl)
chain_over j k vs (p ∷ ps) h = refl

unit_is_term : (ps : List Piece) (k : Stack) (vs : Values) → begins_atom ps ≡ true → go (m.unit ∷ k) vs ps ≡ go (m.term ∷ m.second ∷ k) vs ps
unit_is_term [] k vs h = refl
unit_is_term (piece.Sign Not ∷ ps) k vs h = absurd cc
unit_is_term (piece.Sign OpenRound ∷ ps) k vs h = absurd cc
unit_is_term (piece.Quantifier q ∷ ps) k vs h = absurd cc
unit_is_term (piece.Constant b ∷ ps) k vs h = absurd cc
unit_is_term (p ∷ ps) k vs h = refl

-- ---- atoms

abbrev pub ReadsTerm : ℕ → List Piece → Term → List Piece → Type 0
ReadsTerm level ps t rest = Reads (m.term ∷ []) [] [] (term_value t ∷ []) level ps rest

abbrev pub ReadsUnit : ℕ → List Piece → Formula → List Piece → Type 0
ReadsUnit level ps f rest = Reads (m.unit ∷ []) [] [] (formula_value f ∷ []) level ps rest

pub relation_reads : (level : ℕ) (ps rest after behind : List Piece) (q : Relation) (t u : Term) → ReadsTerm level ps t rest → rest ≡ piece.Relation q ∷ after
    → ReadsTerm level after u behind → Reads (m.term ∷ m.second ∷ []) [] [] (formula_value (formulas.Relation q t u) ∷ []) level ps behind
relation_reads level ps rest after behind q t u r e s = λ k vs at.
    r (m.second ∷ k) vs at ∙ ap (go (m.second ∷ k) (term_value t ∷ vs)) e ∙ s (m.after_relation q ∷ k) (term_value t ∷ vs) at ∙ after_relation_over q k _ behind

pub atom_stops : (level : ℕ) (ps : List Piece) (e : Stop) → begins_atom ps ≡ true → Stops (m.term ∷ m.second ∷ []) [] level ps e → Stops (m.unit ∷ []) [] level ps e
atom_stops level ps stops.Memory b h = tt
atom_stops level ps (stops.Fault f) b h = λ k vs at. unit_is_term ps k vs b ∙ h k vs at

-- ---- units

pub not_reads : (level : ℕ) (ps after rest : List Piece) (f : Formula) → ps ≡ piece.Sign Not ∷ after → level + 1 ≤ 500 → ReadsUnit (level + 1) after f rest → ReadsUnit level ps (formulas.Not f) rest
not_reads level ps after rest f e h r = λ k vs at. rw (e, low (levels k) level at h) (r (m.ended ∷ k) vs (raised (levels k) level at) ∙ ended_over k (formula_value f ∷ vs) rest)

pub quantified_reads : (level : ℕ) (ps after inner close behind rest : List Piece) (q : Quantifier) (bs : List Variable) (f : Formula) → ps ≡ piece.Quantifier q ∷ after → level + 1 ≤ 500
    → after ≡ piece.Sign OpenSquare ∷ inner → Reads (m.binder ∷ []) (binders_value [] ∷ []) [] (binders_value bs ∷ []) (level + 1) inner close → close ≡ piece.Sign Colon ∷ behind
    → ReadsUnit (level + 1) behind f rest → ReadsUnit level ps (formulas.Quantified q bs f) rest
quantified_reads level ps after inner close behind rest q bs f e h e' r e'' s = λ k vs at. rw (e, low (levels k) level at h)
    (ap (go (m.sign OpenSquare ∷ m.binder ∷ m.sign Colon ∷ m.unit ∷ m.bound q ∷ k) (binders_value [] ∷ vs)) e'
    ∙ r (m.sign Colon ∷ m.unit ∷ m.bound q ∷ k) vs (raised (levels k) level at)
    ∙ ap (go (m.sign Colon ∷ m.unit ∷ m.bound q ∷ k) (binders_value bs ∷ vs)) e''
    ∙ s (m.bound q ∷ k) (binders_value bs ∷ vs) (raised (levels k) level at)
    ∙ bound_over q k (formula_value f ∷ binders_value bs ∷ vs) rest)

-- ---- formulas

pub link_reads : (level : ℕ) (ps rest after behind : List Piece) (l : Link) (f g : Formula) → ReadsUnit level ps f rest → rest ≡ piece.Link l ∷ after → ReadsUnit level after g behind
    → Reads (m.unit ∷ m.tail ∷ []) [] [] (formula_value (formulas.Linked l f g) ∷ []) level ps behind
link_reads level ps rest after behind l f g r e s = λ k vs at.
    r (m.tail ∷ k) vs at ∙ ap (go (m.tail ∷ k) (formula_value f ∷ vs)) e ∙ s (m.after_link l ∷ k) (formula_value f ∷ vs) at ∙ after_link_over l k (formula_value g ∷ formula_value f ∷ vs) behind

-- the members are all
pub members_end : (level : ℕ) (ps rest behind : List Piece) (j : Junction) (first : Formula) (fs : List Formula) (g : Formula)
    → Reads (m.unit ∷ m.chain j ∷ []) (members_value (first ∷ []) ∷ []) (m.unit ∷ m.chain j ∷ []) (members_value fs ∷ []) level ps rest → ReadsUnit level rest g behind → EndsChain j behind
    → Reads (m.unit ∷ m.chain j ∷ []) (members_value (first ∷ []) ∷ []) [] (formula_value (formulas.Joined j (fs ++ g ∷ [])) ∷ []) level ps behind
members_end level ps rest behind j first fs g r s h = λ k vs at. r k vs at ∙ s (m.chain j ∷ k) (members_value fs ∷ vs) at ∙ chain_over j k (formula_value g ∷ members_value fs ∷ vs) behind h

-- a further member comes
pub members_more : (level : ℕ) (ps rest behind after : List Piece) (j : Junction) (first : Formula) (fs : List Formula) (g : Formula)
    → Reads (m.unit ∷ m.chain j ∷ []) (members_value (first ∷ []) ∷ []) (m.unit ∷ m.chain j ∷ []) (members_value fs ∷ []) level ps rest → ReadsUnit level rest g behind
    → behind ≡ piece.Junction j ∷ after
    → Reads (m.unit ∷ m.chain j ∷ []) (members_value (first ∷ []) ∷ []) (m.unit ∷ m.chain j ∷ []) (members_value (fs ++ g ∷ []) ∷ []) level ps after
members_more level ps rest behind after j first fs g r s e = λ k vs at. r k vs at ∙ s (m.chain j ∷ k) (members_value fs ∷ vs) at ∙ ap (go (m.chain j ∷ k) (formula_value g ∷ members_value fs ∷ vs)) e ∙ takes j k vs
  where
    takes : (i : Junction) (k : Stack) (vs : Values) → go (m.chain i ∷ k) (formula_value g ∷ members_value fs ∷ vs) (piece.Junction i ∷ after) ≡ go (m.unit ∷ m.chain i ∷ k) (members_value (fs ++ g ∷ []) ∷ vs) after
    takes And k vs = refl
    takes Or k vs = refl
