-- Premises for which nothing fires.
use Rattle.std.proofs.Common.{◌≡◌, ℕ, true, false, List, ap, sym, ◌∙◌}
use Rattle.std.specs.Prelude.{Some, None}
use Rattle.term_base.specs.declared.places.Place.{Place}
use Rattle.term_base.specs.declared.places.Side.{Side}
use Rattle.term_base.specs.declared.symbols.Symbol.{Symbol}
use Rattle.term_base.specs.declared.variables.Variable.{Variable}
use Rattle.term_base.specs.Clauses.{is_background}
use Rattle.term_base.specs.Lits.{Lit}
use Rattle.term_base.specs.Places.{named, item, tree_at}
use Rattle.term_base.specs.Substitution.{put_in}
use Rattle.term_base.specs.TreeLemmas.{both_ways}
use Rattle.term_base.specs.Trees.{Tree, var}
use Rattle.hier_rules.specs.Conclusions.{GivesNothing}
use Rattle.hier_rules.specs.Fires.{Superposes, Resolves, Factors}
use Rattle.hier_rules.specs.Heads.{heads_meet}
use Rattle.hier_rules.specs.Premises.{IsEquation, IsDisequation}
use Rattle.hier_rules.proofs.GeneralLemmas.{pair_apart, one_apart}
use Rattle.hier_rules.proofs.OptionLemmas.{not_both, some_same}
use Rattle.hier_rules.proofs.SuperposeLemmas.{place_there}

module _ (S : List Symbol) (c d : List Lit) (n : ℕ) (side : Side) (place : Place) where
  pub superposition_without_equation : ((l : Lit) → IsEquation c n l → ⊥) → GivesNothing S (Superposes S c d n side place)
  superposition_without_equation refuted r1 r2 e simple1 simple2 f = refuted f.l f.premises.from

  pub superposition_without_place : tree_at d place ≡ None → GivesNothing S (Superposes S c d n side place)
  superposition_without_place refuted r1 r2 e simple1 simple2 f = not_both (tree_at d place) f.u refuted (place_there place f.premises)

  pub superposition_at_variable : (u : Tree) (v : Variable) → tree_at d place ≡ Some u → u ≡ var v → GivesNothing S (Superposes S c d n side place)
  superposition_at_variable u v there is r1 r2 e simple1 simple2 f =
      f.premises.no_variable v (some_same (tree_at d place) f.u u (place_there place f.premises) there ∙ is)

  pub superposition_of_heads : (l : Lit) (u : Tree) → IsEquation c n l → tree_at d place ≡ Some u → heads_meet (named side l) u ≡ false
      → GivesNothing S (Superposes S c d n side place)
  superposition_of_heads l u from there apart r1 r2 e simple1 simple2 f =
      let same_l = some_same (item n c) f.l l f.premises.from.there from.there in
      let same_u = some_same (tree_at d place) f.u u (place_there place f.premises) there in
      pair_apart S (named side l) u apart r1 r2 simple1 simple2 (ap (λ z. put_in r1 (named side z)) (sym same_l) ∙ f.common ∙ ap (put_in r2) same_u)

  pub superposition_from_background : is_background S c ≡ true → GivesNothing S (Superposes S c d n side place)
  superposition_from_background is r1 r2 e simple1 simple2 f = both_ways (is_background S c) is f.premises.first

  pub superposition_into_background : is_background S d ≡ true → GivesNothing S (Superposes S c d n side place)
  superposition_into_background is r1 r2 e simple1 simple2 f = both_ways (is_background S d) is f.premises.second

module _ (S : List Symbol) (c : List Lit) (n : ℕ) where
  pub resolution_without_disequation : ((l : Lit) → IsDisequation c n l → ⊥) → GivesNothing S (λ s1 s2 k. Resolves S c n s1 k)
  resolution_without_disequation refuted r1 r2 e simple1 simple2 f = refuted f.l f.premise.from

  pub resolution_of_heads : (l : Lit) → IsDisequation c n l → heads_meet l.left l.right ≡ false → GivesNothing S (λ s1 s2 k. Resolves S c n s1 k)
  resolution_of_heads l from apart r1 r2 e simple1 simple2 f =
      let same_l = some_same (item n c) f.l l f.premise.from.there from.there in
      one_apart S l.left l.right apart r1 simple1 (ap (λ z. put_in r1 z.left) (sym same_l) ∙ f.common ∙ ap (λ z. put_in r1 z.right) same_l)

  pub resolution_of_background : is_background S c ≡ true → GivesNothing S (λ s1 s2 k. Resolves S c n s1 k)
  resolution_of_background is r1 r2 e simple1 simple2 f = both_ways (is_background S c) is f.premise.foreground

module _ (S : List Symbol) (c : List Lit) (first : ℕ) (first_side : Side) (second : ℕ) (second_side : Side) where
  pub factoring_without_first : ((l : Lit) → IsEquation c first l → ⊥) → GivesNothing S (λ s1 s2 k. Factors S c first first_side second second_side s1 k)
  factoring_without_first refuted r1 r2 e simple1 simple2 f = refuted f.l f.premise.from

  pub factoring_without_second : ((l : Lit) → IsEquation c second l → ⊥) → GivesNothing S (λ s1 s2 k. Factors S c first first_side second second_side s1 k)
  factoring_without_second refuted r1 r2 e simple1 simple2 f = refuted f.m f.premise.into

  pub factoring_of_one : first ≡ second → GivesNothing S (λ s1 s2 k. Factors S c first first_side second second_side s1 k)
  factoring_of_one same r1 r2 e simple1 simple2 f = f.premise.two same

  pub factoring_of_heads : (l m : Lit) → IsEquation c first l → IsEquation c second m → heads_meet (named first_side l) (named second_side m) ≡ false
      → GivesNothing S (λ s1 s2 k. Factors S c first first_side second second_side s1 k)
  factoring_of_heads l m from into apart r1 r2 e simple1 simple2 f =
      let same_l = some_same (item first c) f.l l f.premise.from.there from.there in
      let same_m = some_same (item second c) f.m m f.premise.into.there into.there in
      one_apart S (named first_side l) (named second_side m) apart r1 simple1
      (ap (λ z. put_in r1 (named first_side z)) (sym same_l) ∙ f.common ∙ ap (λ z. put_in r1 (named second_side z)) same_m)

  pub factoring_of_background : is_background S c ≡ true → GivesNothing S (λ s1 s2 k. Factors S c first first_side second second_side s1 k)
  factoring_of_background is r1 r2 e simple1 simple2 f = both_ways (is_background S c) is f.premise.foreground
