-- The name of a token that the machine refuses is the first of those that fit.
use Rattle.std.proofs.Common.{◌≡◌, ℕ, ◌<◌, ◌≤◌, Bool, true, false, cond, List, [], ◌∷◌, refl, sym, subst, ◌∙◌, arith, ◌⊎◌, inl, inr}
use Rattle.std.specs.Prelude.{nat_lt}
use Rattle.std.proofs.lemmas.Bool.{ltb-true, ltb-false}
use Rattle.tff_grammar.specs.declared.faults.FaultName.{FaultName}
use Rattle.tff_grammar.specs.declared.faults.FaultName.TheVariants as n
use Rattle.tff_grammar.specs.declared.pieces.Span.{Span}
use Rattle.tff_grammar.specs.declared.pieces.Sign.TheVariants.{OpenRound, Star, Not, Arrow}
use Rattle.tff_grammar.specs.declared.pieces.Junction.{Junction}
use Rattle.tff_grammar.specs.declared.pieces.Junction.TheVariants.{And, Or}
use Rattle.tff_grammar.specs.declared.pieces.BasicSort.TheVariants.{Int}
use Rattle.tff_grammar.specs.declared.pieces.Keyword.{Keyword}
use Rattle.tff_grammar.specs.declared.pieces.Keyword.TheVariants.{Tff, Include, Language, Declaration, Conjecture, Premise}
use Rattle.tff_grammar.specs.declared.pieces.Piece.{Piece}
use Rattle.tff_grammar.specs.declared.pieces.Piece.TheVariants as piece
use Rattle.tff_grammar.specs.FirstFault.{max_levels, IsOpener, IsUnsupported, FitsWhere, rank}
use Rattle.tff_grammar.specs.Machine.{Symbol, Stack, levels, Answer, takes, opens, looks, leaves, refuses, Check, Step, moved, stuck, step, step_by, is_optional, deep_name, plain_name, refused_name}
use Rattle.tff_grammar.specs.Machine as m
use Rattle.tff_grammar.proofs.Table.{Good, answer_good, floor, floor_left, optional_low}
use Rattle.tff_grammar.proofs.Canonical.{nowhere}
use Rattle.tff_grammar.proofs.Texts.{is_done}
use Rattle.tff_grammar.proofs.Walks.{May, passes_front}

-- ---- what may stand here

abbrev pub RoleAt : Stack → Type 0
RoleAt k = (s : Span) × May k (piece.Lower Premise s ∷ [])

abbrev pub SortAt : Stack → Type 0
SortAt k = May k (piece.Truth ∷ []) ⊎ May k (piece.Basic Int ∷ piece.Sign Star ∷ [])

abbrev pub IntAt : Stack → Type 0
IntAt k = May k (piece.Basic Int ∷ [])

abbrev pub StackFits : Stack → Piece → FaultName → Type 0
StackFits k p name = FitsWhere (is_done k ≡ true) (RoleAt k) (SortAt k) (max_levels ≤ floor k) p name

-- the first name that fits
pub record Named (k : Stack) (p : Piece) (name : FaultName) : Type 0 where
  pub fits : StackFits k p name
  pub least : (other : FaultName) → StackFits k p other → rank name ≤ rank other
  pub no_int : p ≡ piece.Truth → IntAt k → ⊥

-- that name, or that of a `$o` where `$int` may stand
abbrev pub StuckNamed : Stack → Piece → FaultName → Type 0
StuckNamed k p name = Named k p name ⊎ ((p ≡ piece.Truth) × (name ≡ n.Unsupported) × IntAt k)

unsupported_map : (S S' R R' T T' : Type 0) (p : Piece) → (S → S') → ((w : Keyword) (s : Span) → p ≡ piece.Lower w s → R → R') → (p ≡ piece.OfTypes → T → T')
    → IsUnsupported S R T p → IsUnsupported S' R' T' p
unsupported_map S S' R R' T T' piece.Unsupported f g h x = tt
unsupported_map S S' R R' T T' (piece.Lower Conjecture s) f g h x = x
unsupported_map S S' R R' T T' (piece.Lower Include s) f g h (inl x) = inl (f x)
unsupported_map S S' R R' T T' (piece.Lower Include s) f g h (inr x) = inr (g Include s refl x)
unsupported_map S S' R R' T T' (piece.Lower w s) f g h x = g w s refl x
unsupported_map S S' R R' T T' piece.OfTypes f g h x = h refl x
unsupported_map S S' R R' T T' p f g h x = x

pub fits_map : (S S' R R' T T' D D' : Type 0) (p : Piece) (name : FaultName) → (S → S') → ((w : Keyword) (s : Span) → p ≡ piece.Lower w s → R → R') → (p ≡ piece.OfTypes → T → T') → (D → D')
    → FitsWhere S R T D p name → FitsWhere S' R' T' D' p name
fits_map S S' R R' T T' D D' p n.Lex f g h d x = x
fits_map S S' R R' T T' D D' p n.Unsupported f g h d x = unsupported_map S S' R R' T T' p f g h x
fits_map S S' R R' T T' D D' p n.Language f g h d (s, e, x) = (s, e, f x)
fits_map S S' R R' T T' D D' p n.TwoConjectures f g h d (s, e, x) = (s, e, g Conjecture s e x)
fits_map S S' R R' T T' D D' p n.TooDeep f g h d (o, x) = (o, d x)
fits_map S S' R R' T T' D D' p n.NumberTooWide f g h d x = x
fits_map S S' R R' T T' D D' p n.Syntax f g h d x = x

-- ---- each name

unsupported_least : (k : Stack) (p : Piece) (other : FaultName) → StackFits k p other → rank n.Unsupported ≤ rank other
unsupported_least k p n.Lex h = absurd h
unsupported_least k p other h = omega arith

unsupported_named : (k : Stack) (p : Piece) → StackFits k p n.Unsupported → (p ≡ piece.Truth → IntAt k → ⊥) → Named k p n.Unsupported
unsupported_named k p h i = record { fits = h; least = unsupported_least k p; no_int = i }

language_least : (k : Stack) (s : Span) → (RoleAt k → ⊥) → (other : FaultName) → StackFits k (piece.Lower Language s) other → rank n.Language ≤ rank other
language_least k s r n.Lex h = absurd h
language_least k s r n.Unsupported h = absurd (r h)
language_least k s r other h = omega arith

two_least : (k : Stack) (s : Span) (other : FaultName) → StackFits k (piece.Lower Conjecture s) other → rank n.TwoConjectures ≤ rank other
two_least k s n.Lex h = absurd h
two_least k s n.Unsupported h = absurd h
two_least k s n.Language (x, e, h) = absurd cc
two_least k s other h = omega arith

wide_least : (k : Stack) (other : FaultName) → StackFits k piece.WideNumeral other → rank n.NumberTooWide ≤ rank other
wide_least k n.Lex h = absurd h
wide_least k n.Unsupported h = absurd h
wide_least k n.Language (x, e, h) = absurd cc
wide_least k n.TwoConjectures (x, e, h) = absurd cc
wide_least k n.TooDeep (o, h) = absurd o
wide_least k other h = omega arith

wide_named : (k : Stack) → Named k piece.WideNumeral n.NumberTooWide
wide_named k = record { fits = refl; least = wide_least k; no_int = λ e. absurd cc }

-- no other name fits
record Unmarked (k : Stack) (p : Piece) : Type 0 where
  no_unsupported : IsUnsupported (is_done k ≡ true) (RoleAt k) (SortAt k) p → ⊥
  no_language : (s : Span) → p ≡ piece.Lower Language s → is_done k ≡ true → ⊥
  no_second : (s : Span) → p ≡ piece.Lower Conjecture s → RoleAt k → ⊥
  no_wide : p ≡ piece.WideNumeral → ⊥
  int : p ≡ piece.Truth → IntAt k → ⊥

syntax_least : (k : Stack) (p : Piece) → Unmarked k p → (IsOpener p → max_levels ≤ floor k → ⊥) → (other : FaultName) → StackFits k p other → rank n.Syntax ≤ rank other
syntax_least k p u o n.Lex h = absurd h
syntax_least k p u o n.Unsupported h = absurd (u.no_unsupported h)
syntax_least k p u o n.Language (s, e, h) = absurd (u.no_language s e h)
syntax_least k p u o n.TwoConjectures (s, e, h) = absurd (u.no_second s e h)
syntax_least k p u o n.TooDeep (x, h) = absurd (o x h)
syntax_least k p u o n.NumberTooWide h = absurd (u.no_wide h)
syntax_least k p u o n.Syntax h = omega arith

syntax_named : (k : Stack) (p : Piece) → Unmarked k p → (IsOpener p → max_levels ≤ floor k → ⊥) → Named k p n.Syntax
syntax_named k p u o = record { fits = tt; least = syntax_least k p u o; no_int = u.int }

deep_least : (k : Stack) (p : Piece) → Unmarked k p → (other : FaultName) → StackFits k p other → rank n.TooDeep ≤ rank other
deep_least k p u n.Lex h = absurd h
deep_least k p u n.Unsupported h = absurd (u.no_unsupported h)
deep_least k p u n.Language (s, e, h) = absurd (u.no_language s e h)
deep_least k p u n.TwoConjectures (s, e, h) = absurd (u.no_second s e h)
deep_least k p u other h = omega arith

opener_named : (k : Stack) (p : Piece) (level : ℕ) → level ≡ floor k → IsOpener p → Unmarked k p → Named k p (deep_name level)
opener_named k p level f o u = by (nat_lt level max_levels) refl
  where
    by : (b : Bool) → nat_lt level max_levels ≡ b → Named k p (cond b n.Syntax n.TooDeep)
    by true e = let l : level < max_levels = ltb-true _ _ e in syntax_named k p u (λ x h. absurd (omega (arith, l, f, h)))
    by false e = let l : max_levels ≤ level = ltb-false _ _ e in record { fits = (o, omega (arith, l, f)); least = deep_least k p u; no_int = u.int }

lower_unsupported : (k : Stack) (w : Keyword) (s : Span) → (is_done k ≡ true → ⊥) → (RoleAt k → ⊥) → IsUnsupported (is_done k ≡ true) (RoleAt k) (SortAt k) (piece.Lower w s) → ⊥
lower_unsupported k Conjecture s d r h = h
lower_unsupported k Include s d r (inl h) = d h
lower_unsupported k Include s d r (inr h) = r h
lower_unsupported k w s d r h = r h

-- a token that has no name of its own place
plain_named : (k : Stack) (p : Piece) (level : ℕ) → level ≡ floor k → ((w : Keyword) (s : Span) → p ≡ piece.Lower w s → is_done k ≡ true → ⊥)
    → ((w : Keyword) (s : Span) → p ≡ piece.Lower w s → RoleAt k → ⊥) → (p ≡ piece.OfTypes → SortAt k → ⊥) → (p ≡ piece.Truth → IntAt k → ⊥) → Named k p (plain_name level p)
plain_named k piece.Unsupported level f d r s i = unsupported_named k _ tt i
plain_named k piece.WideNumeral level f d r s i = wide_named k
plain_named k (piece.Sign OpenRound) level f d r s i =
    opener_named k _ level f tt (record { no_unsupported = λ h. h; no_language = λ x e h. absurd cc; no_second = λ x e h. absurd cc; no_wide = λ e. absurd cc; int = i })
plain_named k (piece.Sign Not) level f d r s i =
    opener_named k _ level f tt (record { no_unsupported = λ h. h; no_language = λ x e h. absurd cc; no_second = λ x e h. absurd cc; no_wide = λ e. absurd cc; int = i })
plain_named k (piece.Quantifier q) level f d r s i =
    opener_named k _ level f tt (record { no_unsupported = λ h. h; no_language = λ x e h. absurd cc; no_second = λ x e h. absurd cc; no_wide = λ e. absurd cc; int = i })
plain_named k (piece.Lower w x) level f d r s i =
    syntax_named k _ (record { no_unsupported = lower_unsupported k w x (d w x refl) (r w x refl); no_language = λ y e h. d w x refl h; no_second = λ y e h. r w x refl h; no_wide = λ e. absurd cc; int = i }) (λ o h. o)
plain_named k piece.OfTypes level f d r s i =
    syntax_named k _ (record { no_unsupported = s refl; no_language = λ y e h. absurd cc; no_second = λ y e h. absurd cc; no_wide = λ e. absurd cc; int = i }) (λ o h. o)
plain_named k p level f d r s i =
    syntax_named k _ (record { no_unsupported = λ h. h; no_language = λ y e h. absurd cc; no_second = λ y e h. absurd cc; no_wide = λ e. absurd cc; int = i }) (λ o h. o)

-- ---- each symbol

no_sort : (k : Stack) → (May k (piece.Truth ∷ []) → ⊥) → (IntAt k → ⊥) → SortAt k → ⊥
no_sort k t i (inl h) = t h
no_sort k t i (inr (last, h)) = i (passes_front (piece.Basic Int ∷ []) (piece.Sign Star ∷ []) k last h)

not_true : (b : Bool) → b ≡ false → b ≡ true → ⊥
not_true b e h = absurd cc

-- where neither a word nor a sort may stand
bare_named : (k : Stack) (p : Piece) → is_done k ≡ false → levels k ≡ floor k → (RoleAt k → ⊥) → (May k (piece.Truth ∷ []) → ⊥) → (IntAt k → ⊥) → Named k p (plain_name (levels k) p)
bare_named k p d f r t i = plain_named k p (levels k) f (λ w s e h. not_true _ d h) (λ w s e h. r h) (λ e h. no_sort k t i h) (λ e h. i h)

not_taken : (front : Stack) → takes front ≡ refuses → ⊥
not_taken front e = absurd cc

not_looked : (check : Check) (front : Stack) → looks check front ≡ refuses → ⊥
not_looked check front e = absurd cc

not_left : leaves ≡ refuses → ⊥
not_left e = absurd cc

not_opened : (front : Stack) → opens front ≡ refuses → ⊥
not_opened front e = absurd cc

-- where a word may stand, but no role
word_named : (s : Symbol) (k : Stack) (p : Piece) → m.answer s p ≡ refuses → is_done (s ∷ k) ≡ false → levels (s ∷ k) ≡ floor (s ∷ k)
    → ((w : Keyword) (x : Span) → m.answer s (piece.Lower w x) ≡ refuses → ⊥) → (m.answer s piece.OfTypes ≡ refuses → SortAt (s ∷ k) → ⊥) → (m.answer s piece.Truth ≡ refuses → IntAt (s ∷ k) → ⊥)
    → Named (s ∷ k) p (plain_name (levels (s ∷ k)) p)
word_named s k p h d f w t i = plain_named (s ∷ k) p (levels (s ∷ k)) f (λ v x e g. not_true _ d g) (λ v x e g. w v x (subst (λ (q : Piece). m.answer s q ≡ refuses) e h))
    (λ e g. t (subst (λ (q : Piece). m.answer s q ≡ refuses) e h) g) (λ e g. i (subst (λ (q : Piece). m.answer s q ≡ refuses) e h) g)

statements_named : (again : Bool) (k : Stack) (p : Piece) → m.answer (m.statements again) p ≡ refuses → Named (m.statements again ∷ k) p (m.start_name p)
statements_named again k (piece.Lower Tff x) h = absurd (not_taken _ h)
statements_named again k (piece.Lower Include x) h = unsupported_named _ _ (inl refl) (λ e. absurd cc)
statements_named again k (piece.Lower Language x) h = record { fits = (x, refl, refl); least = language_least (m.statements again ∷ k) x (λ (y, (last, g)). g); no_int = λ e. absurd cc }
statements_named again k (piece.Lower Conjecture x) h =
    syntax_named _ _ (record { no_unsupported = λ h'. h'; no_language = λ y e h'. absurd cc; no_second = λ y e (z, (last, g)). g; no_wide = λ e. absurd cc; int = λ e. absurd cc }) (λ o h'. o)
statements_named again k (piece.Lower w x) h =
    syntax_named _ _ (record { no_unsupported = λ (z, (last, g)). g; no_language = λ y e h'. absurd cc; no_second = λ y e (z, (last, g)). g; no_wide = λ e. absurd cc; int = λ e. absurd cc }) (λ o h'. o)
statements_named again k p h = plain_named (m.statements again ∷ k) p 0 refl (λ w x e d. absurd cc) (λ w x e r. absurd cc) (λ e r. no_sort (m.statements again ∷ k) (λ (last, g). g) (λ (last, g). g) r) (λ e (last, g). g)

role_at : (again : Bool) (k : Stack) → RoleAt (m.role again ∷ k)
role_at again k = (nowhere, (_, (omega arith, refl)))

role_named : (again : Bool) (k : Stack) (p : Piece) → m.answer (m.role again) p ≡ refuses → Named (m.role again ∷ k) p (m.role_name 0 p)
role_named again k (piece.Lower Declaration x) h = absurd (not_taken _ h)
role_named again k (piece.Lower Premise x) h = absurd (not_taken _ h)
role_named again k (piece.Lower Conjecture x) h = record { fits = (x, refl, role_at again k); least = two_least (m.role again ∷ k) x; no_int = λ e. absurd cc }
role_named again k (piece.Lower Include x) h = unsupported_named _ _ (inr (role_at again k)) (λ e. absurd cc)
role_named again k (piece.Lower w x) h = unsupported_named _ _ (role_at again k) (λ e. absurd cc)
role_named again k p h = plain_named (m.role again ∷ k) p 0 refl (λ w x e d. absurd cc) (λ w x e r. absurd cc) (λ e r. no_sort (m.role again ∷ k) (λ (last, g). g) (λ (last, g). g) r) (λ e (last, g). g)

notes_named : (k : Stack) (p : Piece) → m.answer m.notes p ≡ refuses → Named (m.notes ∷ k) p (plain_name (levels (m.notes ∷ k)) p)
notes_named k piece.WideNumeral h = wide_named _
notes_named k (piece.Sign OpenRound) h = absurd (not_opened _ h)
notes_named k p h = absurd cc

no_arrow_named : (k : Stack) (p : Piece) → m.answer m.no_arrow p ≡ refuses → Named (m.no_arrow ∷ k) p (plain_name (levels (m.no_arrow ∷ k)) p)
no_arrow_named k (piece.Sign Arrow) h =
    syntax_named _ _ (record { no_unsupported = λ h'. h'; no_language = λ y e h'. absurd cc; no_second = λ y e h'. absurd cc; no_wide = λ e. absurd cc; int = λ e. absurd cc }) (λ o h'. o)
no_arrow_named k p h = absurd (not_left h)

result_sort_named : (k : Stack) (p : Piece) → levels (m.result_sort ∷ k) ≤ max_levels → m.answer m.result_sort p ≡ refuses → Named (m.result_sort ∷ k) p (m.result_name (levels (m.result_sort ∷ k)) p)
result_sort_named k piece.OfTypes low h = unsupported_named _ _ (inl (_, (low, refl))) (λ e. absurd cc)
result_sort_named k piece.Truth low h = absurd (not_taken _ h)
result_sort_named k (piece.Lower w x) low h = absurd (not_taken _ h)
result_sort_named k p low h = plain_named _ p _ refl (λ w x e d. absurd cc) (λ w x e r. absurd cc) (λ e. absurd cc) (λ e. absurd cc)

argument_named : (k : Stack) (p : Piece) → levels (m.argument ∷ k) ≤ max_levels → m.answer m.argument p ≡ refuses → StuckNamed (m.argument ∷ k) p (m.argument_name (levels (m.argument ∷ k)) p)
argument_named k piece.OfTypes low h = inl (unsupported_named _ _ (inr (_, (low, (low, refl)))) (λ e. absurd cc))
argument_named k piece.Truth low h = inr (refl, refl, (_, (low, refl)))
argument_named k (piece.Lower w x) low h = absurd (not_taken _ h)
argument_named k p low h = inl (plain_named _ p _ refl (λ w x e d. absurd cc) (λ w x e r. absurd cc) (λ e. absurd cc) (λ e. absurd cc))

binder_sort_named : (k : Stack) (p : Piece) → levels (m.binder_sort ∷ k) ≤ max_levels → m.answer m.binder_sort p ≡ refuses → StuckNamed (m.binder_sort ∷ k) p (m.binder_name (levels (m.binder_sort ∷ k)) p)
binder_sort_named k piece.Truth low h = inr (refl, refl, (_, (low, refl)))
binder_sort_named k (piece.Lower w x) low h = absurd (not_taken _ h)
binder_sort_named k p low h = inl (plain_named _ p _ refl (λ w x e d. absurd cc) (λ w x e r. absurd cc) (λ e r. sorts r) (λ e. absurd cc))
  where
    sorts : SortAt (m.binder_sort ∷ k) → ⊥
    sorts (inl (last, g)) = g
    sorts (inr (last, (l, g))) = g

result_never : (p : Piece) → m.at_result p ≡ refuses → ⊥
result_never (piece.Sign Arrow) h = not_taken _ h
result_never p h = not_left h

tail_never : (p : Piece) → m.at_tail p ≡ refuses → ⊥
tail_never (piece.Link l) h = not_taken _ h
tail_never (piece.Junction j) h = not_taken _ h
tail_never p h = not_left h

chain_never : (j : Junction) (p : Piece) → m.at_chain j p ≡ refuses → ⊥
chain_never And (piece.Junction And) h = not_taken _ h
chain_never Or (piece.Junction Or) h = not_taken _ h
chain_never j p h = not_left h

arguments_never : (p : Piece) → m.at_arguments p ≡ refuses → ⊥
arguments_never (piece.Sign OpenRound) h = not_opened _ h
arguments_never p h = not_left h

second_never : (p : Piece) → m.at_second p ≡ refuses → ⊥
second_never (piece.Relation r) h = not_taken _ h
second_never p h = not_left h

symbol_named : (s : Symbol) (k : Stack) (p : Piece) → levels (s ∷ k) ≤ max_levels → m.answer s p ≡ refuses → StuckNamed (s ∷ k) p (refused_name s (levels (s ∷ k)) p)
symbol_named (m.statements again) k p low h = inl (statements_named again k p h)
symbol_named (m.role again) k p low h = inl (role_named again k p h)
symbol_named m.notes k p low h = inl (notes_named k p h)
symbol_named m.no_arrow k p low h = inl (no_arrow_named k p h)
symbol_named m.result_sort k p low h = inl (result_sort_named k p low h)
symbol_named m.argument k p low h = argument_named k p low h
symbol_named m.binder_sort k p low h = binder_sort_named k p low h
symbol_named m.a_name k p low h = inl (word_named m.a_name k p h refl refl (λ w x e. not_taken _ e) (λ e r. no_sort (m.a_name ∷ k) (λ (last, g). g) (λ (last, g). g) r) (λ e (last, g). g))
symbol_named m.typing k p low h = inl (word_named m.typing k p h refl refl (λ w x e. not_taken _ e) (λ e r. no_sort (m.typing ∷ k) (λ (last, g). g) (λ (last, g). g) r) (λ e (last, g). g))
symbol_named m.unit k p low h = inl (word_named m.unit k p h refl refl (λ w x e. not_taken _ e) (λ e r. no_sort (m.unit ∷ k) (λ (last, g). g) (λ (last, g). g) r) (λ e (last, g). g))
symbol_named m.term k p low h = inl (word_named m.term k p h refl refl (λ w x e. not_taken _ e) (λ e r. no_sort (m.term ∷ k) (λ (last, g). g) (λ (last, g). g) r) (λ e (last, g). g))
symbol_named m.type k p low h = inl (word_named m.type k p h refl refl (λ w x e. not_taken _ e) (λ e r. not_taken _ e) (λ e r. not_looked _ _ e))
symbol_named m.in_type k p low h = inl (word_named m.in_type k p h refl refl (λ w x e. not_taken _ e) (λ e r. not_taken _ e) (λ e r. not_looked _ _ e))
symbol_named m.result k p low h = absurd (result_never p h)
symbol_named m.tail k p low h = absurd (tail_never p h)
symbol_named (m.chain j) k p low h = absurd (chain_never j p h)
symbol_named m.arguments k p low h = absurd (arguments_never p h)
symbol_named m.second k p low h = absurd (second_never p h)
symbol_named m.ended k p low h = absurd (not_left h)
symbol_named (m.bound q) k p low h = absurd (not_left h)
symbol_named (m.after_link l) k p low h = absurd (not_left h)
symbol_named (m.after_relation r) k p low h = absurd (not_left h)
symbol_named s k p low h = inl (bare_named (s ∷ k) p refl refl (λ (y, (last, g)). g) (λ (last, g). g) (λ (last, g). g))

-- ---- what need not come

left_optional : (s : Symbol) (p : Piece) → m.answer s p ≡ leaves → is_optional s ≡ true
left_optional s p e = let g : Good s leaves = subst (λ (a : Answer). Good s a) e (answer_good s p) in g.0

leaves_premise : (s : Symbol) (w : Keyword) (x y : Span) → is_optional s ≡ true → m.answer s (piece.Lower w x) ≡ leaves → m.answer s (piece.Lower Premise y) ≡ leaves
leaves_premise m.notes w x y o e = absurd cc
leaves_premise m.result w x y o e = refl
leaves_premise m.no_arrow w x y o e = refl
leaves_premise m.ended w x y o e = refl
leaves_premise (m.bound q) w x y o e = refl
leaves_premise m.tail w x y o e = refl
leaves_premise (m.chain j) w x y o e = refl
leaves_premise (m.after_link l) w x y o e = refl
leaves_premise m.arguments w x y o e = refl
leaves_premise m.second w x y o e = refl
leaves_premise (m.after_relation r) w x y o e = refl
leaves_premise s w x y o e = absurd cc

leaves_sorts : (s : Symbol) (p : Piece) → is_optional s ≡ true → (p ≡ piece.OfTypes) ⊎ (p ≡ piece.Truth) → m.answer s p ≡ leaves → (m.answer s piece.Truth ≡ leaves) × (m.answer s (piece.Basic Int) ≡ leaves)
leaves_sorts m.notes p o (inl i) e = let h = subst (λ (q : Piece). m.answer m.notes q ≡ leaves) i e in absurd cc
leaves_sorts m.notes p o (inr i) e = let h = subst (λ (q : Piece). m.answer m.notes q ≡ leaves) i e in absurd cc
leaves_sorts m.result p o i e = (refl, refl)
leaves_sorts m.no_arrow p o i e = (refl, refl)
leaves_sorts m.ended p o i e = (refl, refl)
leaves_sorts (m.bound q) p o i e = (refl, refl)
leaves_sorts m.tail p o i e = (refl, refl)
leaves_sorts (m.chain j) p o i e = (refl, refl)
leaves_sorts (m.after_link l) p o i e = (refl, refl)
leaves_sorts m.arguments p o i e = (refl, refl)
leaves_sorts m.second p o i e = (refl, refl)
leaves_sorts (m.after_relation r) p o i e = (refl, refl)
leaves_sorts s p o i e = absurd cc

leave_may : (s : Symbol) (k : Stack) (q : Piece) (qs : List Piece) → m.answer s q ≡ leaves → May k (q ∷ qs) → May (s ∷ k) (q ∷ qs)
leave_may s k q qs e (last, h) = (last, rw e h)

may_leave : (s : Symbol) (k : Stack) (q : Piece) (qs : List Piece) → m.answer s q ≡ leaves → May (s ∷ k) (q ∷ qs) → May k (q ∷ qs)
may_leave s k q qs e (last, h) = (last, rw e at h)

done_leave : (s : Symbol) (k : Stack) → is_optional s ≡ true → is_done (s ∷ k) ≡ is_done k
done_leave m.notes k o = refl
done_leave m.result k o = refl
done_leave m.no_arrow k o = refl
done_leave m.ended k o = refl
done_leave (m.bound q) k o = refl
done_leave m.tail k o = refl
done_leave (m.chain j) k o = refl
done_leave (m.after_link l) k o = refl
done_leave m.arguments k o = refl
done_leave m.second k o = refl
done_leave (m.after_relation r) k o = refl
done_leave s k o = absurd cc

sorts_leave : (s : Symbol) (k : Stack) → (m.answer s piece.Truth ≡ leaves) × (m.answer s (piece.Basic Int) ≡ leaves) → SortAt (s ∷ k) → SortAt k
sorts_leave s k (t, i) (inl h) = inl (may_leave s k piece.Truth [] t h)
sorts_leave s k (t, i) (inr h) = inr (may_leave s k (piece.Basic Int) (piece.Sign Star ∷ []) i h)

leave_sorts : (s : Symbol) (k : Stack) → (m.answer s piece.Truth ≡ leaves) × (m.answer s (piece.Basic Int) ≡ leaves) → SortAt k → SortAt (s ∷ k)
leave_sorts s k (t, i) (inl h) = inl (leave_may s k piece.Truth [] t h)
leave_sorts s k (t, i) (inr h) = inr (leave_may s k (piece.Basic Int) (piece.Sign Star ∷ []) i h)

named_leaves : (s : Symbol) (k : Stack) (p : Piece) (name : FaultName) → m.answer s p ≡ leaves → Named k p name → Named (s ∷ k) p name
named_leaves s k p name e h =
    let o = left_optional s p e in
    let d = done_leave s k o in
    let f = floor_left s k o in
    let premise : (w : Keyword) (x y : Span) → p ≡ piece.Lower w x → m.answer s (piece.Lower Premise y) ≡ leaves = λ w x y i. leaves_premise s w x y o (subst (λ (q : Piece). m.answer s q ≡ leaves) i e) in
    record {
      fits = fits_map _ _ _ _ _ _ _ _ p name (λ g. d ∙ g) (λ w x i (y, g). (y, leave_may s k (piece.Lower Premise y) [] (premise w x y i) g)) (λ i g. leave_sorts s k (leaves_sorts s p o (inl i) e) g) (λ g. omega (arith, f, g)) h.fits;
      least = λ other g. h.least other (fits_map _ _ _ _ _ _ _ _ p other (λ x. sym d ∙ x) (λ w x i (y, g'). (y, may_leave s k (piece.Lower Premise y) [] (premise w x y i) g')) (λ i g'. sorts_leave s k (leaves_sorts s p o (inl i) e) g') (λ x. omega (arith, f, x)) g);
      no_int = λ i g. h.no_int i (may_leave s k (piece.Basic Int) [] (leaves_sorts s p o (inr i) e).1 g);
    }

stuck_leaves : (s : Symbol) (k : Stack) (p : Piece) (name : FaultName) → m.answer s p ≡ leaves → StuckNamed k p name → StuckNamed (s ∷ k) p name
stuck_leaves s k p name e (inl h) = inl (named_leaves s k p name e h)
stuck_leaves s k p name e (inr (i, is, h)) = inr (i, is, leave_may s k (piece.Basic Int) [] (leaves_sorts s p (left_optional s p e) (inr i) e).1 h)

same_name : (a b : FaultName) → stuck a ≡ stuck b → a ≡ b
same_name a b e = cc

not_moved : (check : Check) (x : ℕ) (next : Stack) (a : FaultName) → moved check x next ≡ stuck a → ⊥
not_moved check x next a e = absurd cc

-- the name of a token at which the machine is stuck
pub stuck_named : (k : Stack) (p : Piece) (name : FaultName) → levels k ≤ max_levels → step k p ≡ stuck name → StuckNamed k p name
stuck_named [] p name low e =
    inl (subst (λ (x : FaultName). Named [] p x) (same_name _ _ e) (bare_named [] p refl refl (λ (y, (last, g)). g) (λ (last, g). g) (λ (last, g). g)))
stuck_named (s ∷ k) p name low e = by (λ l h. stuck_named k p name l h) (m.answer s p) refl e
  where
    by : (levels k ≤ max_levels → step k p ≡ stuck name → StuckNamed k p name) → (a : Answer) → m.answer s p ≡ a → step_by a s p k (step k p) ≡ stuck name → StuckNamed (s ∷ k) p name
    by rest (takes front) is h = absurd (not_moved _ _ _ _ h)
    by rest (opens front) is h = absurd (not_moved _ _ _ _ h)
    by rest (looks check front) is h = absurd (not_moved _ _ _ _ h)
    by rest leaves is h = let l = optional_low s k (left_optional s p is) in stuck_leaves s k p name is (rest (omega (arith, l, low)) h)
    by rest refuses is h = subst (λ (x : FaultName). StuckNamed (s ∷ k) p x) (same_name _ _ h) (symbol_named s k p low is)
