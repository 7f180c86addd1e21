-- One answer alone compares two trees.
use Rattle.std.proofs.Common.{◌≡◌, ◌≢◌, Bool, true, false, List, refl, ap, sym, subst, if◌then◌else◌}
use Rattle.std.specs.Prelude.{◌↔◌}
use Rattle.term_base.specs.declared.symbols.Symbol.{Symbol}
use Rattle.term_base.specs.declared.terms.Term.{Term}
use Rattle.term_base.specs.Trees.{Tree, tree}
use Rattle.term_base.specs.TreeBack.{tree_injective}
use Rattle.term_order.specs.Above as order
use Rattle.term_order.specs.Compare.{Compares, compare}
use Rattle.term_order.specs.Standing.{is_above, by_standing, standing}
use Rattle.term_order.specs.declared.orders.Order.{Order}
use Rattle.term_order.specs.declared.orders.Order.TheVariants.{Above, Below, Equal, Open}
use Rattle.term_order.specs.declared.standing.Standing.{Standing}
use Rattle.term_order.specs.declared.standing.Standing.TheVariants as is
use Rattle.term_order.proofs.AboveLemmas.{irreflexive, transitive}
use Rattle.term_order.proofs.StandingLemmas.{Stands, above_out, above_in, standing_told}
use Rattle.term_base.specs.TreeLemmas.{both_ways}

module _ (S : List Symbol) (s t : Tree) where
  one_answer : (o p : Order) → Compares S s t o → Compares S s t p → o ≡ p
  one_answer Above Above h k = refl
  one_answer Below Below h k = refl
  one_answer Equal Equal h k = refl
  one_answer Open Open h k = refl
  one_answer Above Below h k = absurd (irreflexive S s (transitive S s t s h k))
  one_answer Above Equal h k = absurd (irreflexive S s (subst (order.Above S s) (sym k) h))
  one_answer Above Open h k = absurd (k.0 h)
  one_answer Below Above h k = absurd (irreflexive S s (transitive S s t s k h))
  one_answer Below Equal h k = absurd (irreflexive S t (subst (order.Above S t) k h))
  one_answer Below Open h k = absurd (k.1 h)
  one_answer Equal Above h k = absurd (irreflexive S s (subst (order.Above S s) (sym h) k))
  one_answer Equal Below h k = absurd (irreflexive S t (subst (order.Above S t) h k))
  one_answer Equal Open h k = absurd (k.2 h)
  one_answer Open Above h k = absurd (h.0 k)
  one_answer Open Below h k = absurd (h.1 k)
  one_answer Open Equal h k = absurd (h.2 k)

  -- the answer is o exactly where o says what holds
  pub exactly : (o : Order) → Compares S s t o → (p : Order) → (o ≡ p) ↔ Compares S s t p
  exactly o h p = ((λ e. subst (Compares S s t) e h), one_answer o p h)

  compares_by : (c : Standing) → Stands S s t c → (b : Bool) → (b ≡ true → order.Above S t s) → (order.Above S t s → b ≡ true)
      → Compares S s t (by_standing c Above Equal (if b then Below else Open))
  compares_by is.Above h b up back = h
  compares_by is.Equal h b up back = h
  compares_by is.Neither h true up back = up refl
  compares_by is.Neither h false up back = (h.0, (λ a. both_ways false (back a) refl), h.1)

  -- what the code gives holds
  pub compared_is : (o : Order) → o ≡ compare S s t → Compares S s t o
  compared_is o e =
      let back = standing S t s in
      subst (Compares S s t) (sym e) (compares_by (standing S s t) (standing_told S s t) (is_above back)
      (above_out S t s back (standing_told S t s)) (above_in S t s back (standing_told S t s)))

module _ (S : List Symbol) (s t : Term) where
  pub terms_equal : (o : Order) → Compares S (tree s) (tree t) o → (o ≡ Equal) ↔ (s ≡ t)
  terms_equal o h =
      let both = exactly S (tree s) (tree t) o h Equal in
      ((λ e. tree_injective s t (both.0 e)), (λ e. both.1 (ap tree e)))

  pub terms_open : (o : Order) → Compares S (tree s) (tree t) o
      → (o ≡ Open) ↔ ((order.Above S (tree s) (tree t) → ⊥) × (order.Above S (tree t) (tree s) → ⊥) × (s ≢ t))
  terms_open o h =
      let both = exactly S (tree s) (tree t) o h Open in (
        (λ e. let three = both.0 e in (three.0, three.1, (λ i. three.2 (ap tree i)))),
        (λ three. both.1 (three.0, three.1, (λ i. three.2 (tree_injective s t i)))),
      )
