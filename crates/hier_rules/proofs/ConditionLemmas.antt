-- What is decided of the literals of an instance.
use Rattle.std.proofs.Common.{◌≡◌, ◌≢◌, ◌↔◌, inl, inr, ℕ, Bool, true, false, List, refl, ap, sym, ◌∙◌}
use Rattle.std.specs.Prelude.{IsTrue}
use Rattle.term_base.specs.declared.places.Place.{Place}
use Rattle.term_base.specs.declared.places.Side.{Side}
use Rattle.term_base.specs.declared.symbols.Symbol.{Symbol}
use Rattle.term_base.specs.declared.terms.Purity.{Purity}
use Rattle.term_base.specs.declared.terms.Purity.TheVariants.{Pure, Impure, Foreground}
use Rattle.term_base.specs.declared.terms.Term.{Term}
use Rattle.term_base.specs.Lits.{Relation, at_most, Lit}
use Rattle.term_base.specs.Places.{named}
use Rattle.term_base.specs.Purity.{purity, IsPure}
use Rattle.term_base.specs.Trees.{Tree, tree}
use Rattle.term_order.specs.declared.orders.Order.{Order}
use Rattle.term_order.specs.declared.orders.Order.TheVariants as order
use Rattle.term_order.specs.Above.{Above}
use Rattle.term_order.specs.Literals.{IsMaximal}
use Rattle.hier_rules.specs.Rules.{AtLeast, IsNotBelow, ReplacesBy, ReplacedIn, ResolvesBy}
use Rattle.hier_rules.proofs.TestLemmas.{never}

module _ (S : List Symbol) (c : List Lit) (n : ℕ) (side : Side) (l : Lit) where
  pub pure_refused : IsPure S (named side l) → IsTrue false ↔ ReplacesBy S c n side l
  pure_refused p = never (λ r. r.not_pure p)

  pub below_refused : (IsNotBelow S side l → ⊥) → IsTrue false ↔ ReplacesBy S c n side l
  below_refused refuted = never (λ r. refuted r.not_below)

  pub replaces_told : (b : Bool) → (IsPure S (named side l) → ⊥) → IsNotBelow S side l → IsTrue b ↔ IsMaximal S c n → IsTrue b ↔ ReplacesBy S c n side l
  replaces_told b not_pure not_below m = ((λ h. record { not_pure = not_pure; not_below = not_below; maximal = m.0 h }), (λ r. m.1 r.maximal))

module _ (S : List Symbol) (d : List Lit) (place : Place) (m : Lit) where
  pub replaced_refused : ((m.relation ≢ at_most → IsNotBelow S place.side m) → ⊥) → IsTrue false ↔ ReplacedIn S d place m
  replaced_refused refuted = never (λ r. refuted r.not_below)

  pub replaced_told : (b : Bool) → (m.relation ≢ at_most → IsNotBelow S place.side m) → IsTrue b ↔ IsMaximal S d place.literal → IsTrue b ↔ ReplacedIn S d place m
  replaced_told b not_below i = ((λ h. record { not_below = not_below; maximal = i.0 h }), (λ r. i.1 r.maximal))

module _ (S : List Symbol) (c : List Lit) (n : ℕ) (l : Lit) where
  pub resolves_refused : IsPure S l.left → IsTrue false ↔ ResolvesBy S c n l
  resolves_refused p = never (λ r. r.not_pure p)

  pub resolves_told : (b : Bool) → (IsPure S l.left → ⊥) → IsTrue b ↔ IsMaximal S c n → IsTrue b ↔ ResolvesBy S c n l
  resolves_told b not_pure m = ((λ h. record { not_pure = not_pure; maximal = m.0 h }), (λ r. m.1 r.maximal))

-- an inequality asks nothing of its sides
pub inequality_told : (r : Relation) (P : Type 0) → r ≡ at_most → IsTrue true ↔ (r ≢ at_most → P)
inequality_told r P is = ((λ h refuted. absurd (refuted is)), (λ f. refl))

pub other_told : (r : Relation) (P : Type 0) (b : Bool) → r ≢ at_most → IsTrue b ↔ P → IsTrue b ↔ (r ≢ at_most → P)
other_told r P b refuted i = ((λ h q. i.0 h), (λ f. i.1 (f refuted)))

-- ---- the order of two terms

below_above : order.Below ≡ order.Above → ⊥
below_above h = cc

below_equal : order.Below ≡ order.Equal → ⊥
below_equal h = cc

open_above : order.Open ≡ order.Above → ⊥
open_above h = cc

open_equal : order.Open ≡ order.Equal → ⊥
open_equal h = cc

module _ (S : List Symbol) (t s : Term) (o : Order) (above : (o ≡ order.Above) ↔ Above S (tree t) (tree s)) (equal : (o ≡ order.Equal) ↔ (t ≡ s)) where
  pub at_least_above : o ≡ order.Above → IsTrue true ↔ AtLeast S (tree t) (tree s)
  at_least_above is = ((λ h. inl (above.0 is)), (λ a. refl))

  pub at_least_equal : o ≡ order.Equal → IsTrue true ↔ AtLeast S (tree t) (tree s)
  at_least_equal is = ((λ h. inr (ap tree (equal.0 is))), (λ a. refl))

  not_at_least : ((u v : Term) → tree u ≡ tree v → u ≡ v) → (o ≡ order.Above → ⊥) → (o ≡ order.Equal → ⊥) → IsTrue false ↔ AtLeast S (tree t) (tree s)
  not_at_least injective no_above no_equal = never refuted where
    refuted : AtLeast S (tree t) (tree s) → ⊥
    refuted (inl a) = no_above (above.1 a)
    refuted (inr e) = no_equal (equal.1 (injective t s e))

  pub not_at_least_below : ((u v : Term) → tree u ≡ tree v → u ≡ v) → o ≡ order.Below → IsTrue false ↔ AtLeast S (tree t) (tree s)
  not_at_least_below injective is = not_at_least injective (λ e. below_above (sym is ∙ e)) (λ e. below_equal (sym is ∙ e))

  pub not_at_least_open : ((u v : Term) → tree u ≡ tree v → u ≡ v) → o ≡ order.Open → IsTrue false ↔ AtLeast S (tree t) (tree s)
  not_at_least_open injective is = not_at_least injective (λ e. open_above (sym is ∙ e)) (λ e. open_equal (sym is ∙ e))

-- ---- purity

impure_pure : Impure ≡ Pure → ⊥
impure_pure h = cc

foreground_pure : Foreground ≡ Pure → ⊥
foreground_pure h = cc

module _ (S : List Symbol) (t : Tree) (p : Purity) (is : p ≡ purity S t) (pure : (purity S t ≡ Pure) ↔ IsPure S t) where
  pub pure_told : p ≡ Pure → IsTrue true ↔ IsPure S t
  pure_told h = ((λ u. pure.0 (sym is ∙ h)), (λ q. refl))

  pub impure_told : p ≡ Impure → IsTrue false ↔ IsPure S t
  impure_told h = never (λ q. impure_pure (sym h ∙ is ∙ pure.1 q))

  pub foreground_told : p ≡ Foreground → IsTrue false ↔ IsPure S t
  foreground_told h = never (λ q. foreground_pure (sym h ∙ is ∙ pure.1 q))
