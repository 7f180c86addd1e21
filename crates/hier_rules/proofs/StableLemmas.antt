-- What the rules ask of instances was so before the substitution.
use Rattle.std.proofs.Common.{◌≡◌, inl, inr, ℕ, not, List, [], ◌∷◌, refl, ap}
use Rattle.std.specs.Prelude.{Some}
use Rattle.term_base.specs.declared.places.Place.{Place}
use Rattle.term_base.specs.declared.places.Side.{Side}
use Rattle.term_base.specs.declared.places.Side.TheVariants.{Left, Right}
use Rattle.term_base.specs.declared.symbols.Symbol.{Symbol}
use Rattle.term_base.specs.declared.terms.Term.{Term}
use Rattle.term_base.specs.declared.variables.Variable.{Variable}
use Rattle.term_base.specs.Trees.{Tree}
use Rattle.term_base.specs.Purity.{IsPure}
use Rattle.term_base.specs.Substitution.{image, put_in, Simple}
use Rattle.term_base.specs.Lits.{Lit, put_lit, put_clause}
use Rattle.term_base.specs.Places.{named, tree_at, replaced}
use Rattle.term_order.specs.Above.{Above}
use Rattle.term_order.specs.Literals.{IsMaximal}
use Rattle.hier_rules.specs.Rules.{AtLeast, IsNotBelow, ReplacesBy, ReplacedIn, ResolvesBy}

-- the laws of the order
pub record OrderLaws : Type 0 where
  pub above_stays : (S : List Symbol) (s : Variable → Tree) → Simple S s → (t u : Tree) → Above S t u → Above S (put_in s t) (put_in s u)
  pub maximal_before : (S : List Symbol) (s : Variable → Tree) → Simple S s → (c : List Lit) (i : ℕ) → IsMaximal S (put_clause s c) i → IsMaximal S c i
  pub pure_stays : (S : List Symbol) (s : Variable → Tree) → Simple S s → (t : Tree) → IsPure S t → IsPure S (put_in s t)

-- the laws of places
pub record PlaceLaws : Type 0 where
  pub places_stay : (c : List Lit) (p : Place) (u : Tree) → tree_at c p ≡ Some u → (s : Variable → Tree) → tree_at (put_clause s c) p ≡ Some (put_in s u)
  pub replacing_commutes : (c : List Lit) (p : Place) (u : Tree) → tree_at c p ≡ Some u → (s : Variable → Tree) (new : Tree) → replaced (put_clause s c) p (put_in s new) ≡ put_clause s (replaced c p new)

module _ (laws : OrderLaws) (S : List Symbol) (r : Variable → Tree) (simple : Simple S r) where
  at_least_stays : (t s : Tree) → AtLeast S t s → AtLeast S (put_in r t) (put_in r s)
  at_least_stays t s (inl a) = inl (laws.above_stays S r simple t s a)
  at_least_stays t s (inr e) = inr (ap (put_in r) e)

  not_below_before : (side : Side) (l : Lit) → IsNotBelow S side (put_lit r l) → IsNotBelow S side l
  not_below_before Left l h a = h (at_least_stays l.right l.left a)
  not_below_before Right l h a = h (at_least_stays l.left l.right a)

  pure_before : (side : Side) (l : Lit) → (IsPure S (named side (put_lit r l)) → ⊥) → IsPure S (named side l) → ⊥
  pure_before Left l h p = h (laws.pure_stays S r simple l.left p)
  pure_before Right l h p = h (laws.pure_stays S r simple l.right p)

  pub replaces_before : (c : List Lit) (n : ℕ) (side : Side) (l : Lit) → ReplacesBy S (put_clause r c) n side (put_lit r l) → ReplacesBy S c n side l
  replaces_before c n side l h = record {
    not_pure = pure_before side l h.not_pure;
    not_below = not_below_before side l h.not_below;
    maximal = laws.maximal_before S r simple c n h.maximal;
  }

  pub replaced_before : (d : List Lit) (p : Place) (m : Lit) → ReplacedIn S (put_clause r d) p (put_lit r m) → ReplacedIn S d p m
  replaced_before d p m h = record {
    not_below = λ q. not_below_before p.side m (h.not_below q);
    maximal = laws.maximal_before S r simple d p.literal h.maximal;
  }

  pub resolves_before : (c : List Lit) (n : ℕ) (l : Lit) → ResolvesBy S (put_clause r c) n (put_lit r l) → ResolvesBy S c n l
  resolves_before c n l h = record {
    not_pure = pure_before Left l h.not_pure;
    maximal = laws.maximal_before S r simple c n h.maximal;
  }

-- the substitution that changes nothing is simple
pub nothing_simple : (S : List Symbol) (pairs : List (Variable × Term)) → pairs ≡ [] → Simple S (image pairs)
nothing_simple S [] is = record { sorted = λ v. refl; pure = λ v is. record { no_foreground = refl; no_ordinary = ap not is } }
nothing_simple S (p ∷ ps) is = cc
