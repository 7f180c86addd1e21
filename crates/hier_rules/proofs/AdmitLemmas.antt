-- What the literals of instances admit.
use Rattle.std.proofs.Common.{◌≡◌, ℕ, List, ◌++◌, ap, sym, ◌∙◌, subst}
use Rattle.std.specs.Prelude.{Some, None}
use Rattle.std.specs.Option.{option_map_or}
use Rattle.term_base.specs.declared.places.Place.{Place}
use Rattle.term_base.specs.declared.places.Side.{Side}
use Rattle.term_base.specs.declared.symbols.Symbol.{Symbol}
use Rattle.term_base.specs.Lits.{Lit, disequation}
use Rattle.term_base.specs.Places.{other, left_out, changed, item, put_place}
use Rattle.hier_rules.specs.Admitted.{AdmitsSuperposition, AdmitsResolution, AdmitsFactoring}
use Rattle.hier_rules.specs.Rules.{ReplacesBy, ReplacedIn, ResolvesBy}
use Rattle.hier_rules.proofs.OptionLemmas.{not_both, some_same}

module _ (S : List Symbol) (c d : List Lit) (n : ℕ) (side : Side) (place : Place) where
  pub no_equation : item n c ≡ None → (k : List Lit) → AdmitsSuperposition S c d n side place k → ⊥
  no_equation refuted k a = not_both (item n c) a.l refuted a.from_is

  pub no_literal : item place.literal d ≡ None → (k : List Lit) → AdmitsSuperposition S c d n side place k → ⊥
  no_literal refuted k a = not_both (item place.literal d) a.m refuted a.into_is

  pub not_replacing : (l : Lit) → item n c ≡ Some l → (ReplacesBy S c n side l → ⊥) → (k : List Lit) → AdmitsSuperposition S c d n side place k → ⊥
  not_replacing l there refuted k a = refuted (subst (ReplacesBy S c n side) (some_same (item n c) a.l l a.from_is there) a.from)

  pub not_replaced : (m : Lit) → item place.literal d ≡ Some m → (ReplacedIn S d place m → ⊥) → (k : List Lit) → AdmitsSuperposition S c d n side place k → ⊥
  not_replaced m there refuted k a = refuted (subst (ReplacedIn S d place) (some_same (item place.literal d) a.m m a.into_is there) a.into)

  pub superposition_admitted : (l m : Lit) → item n c ≡ Some l → item place.literal d ≡ Some m → ReplacesBy S c n side l → ReplacedIn S d place m
      → (k : List Lit) → k ≡ left_out n c ++ changed place.literal (put_place place (other side l) m) d → AdmitsSuperposition S c d n side place k
  superposition_admitted l m from_is into_is from into k is = record {
    l = l;
    m = m;
    from_is = from_is;
    into_is = into_is;
    from = from;
    into = into;
    is = is ∙ ap (λ o. left_out n c ++ option_map_or (λ z. changed place.literal (put_place place (other side l) z) d) o d) (sym into_is);
  }

module _ (S : List Symbol) (c : List Lit) (n : ℕ) where
  pub nothing_to_resolve : item n c ≡ None → (k : List Lit) → AdmitsResolution S c n k → ⊥
  nothing_to_resolve refuted k a = not_both (item n c) a.l refuted a.there

  pub not_resolved : (l : Lit) → item n c ≡ Some l → (ResolvesBy S c n l → ⊥) → (k : List Lit) → AdmitsResolution S c n k → ⊥
  not_resolved l there refuted k a = refuted (subst (ResolvesBy S c n) (some_same (item n c) a.l l a.there there) a.by)

  pub resolution_admitted : (l : Lit) → item n c ≡ Some l → ResolvesBy S c n l → (k : List Lit) → k ≡ left_out n c → AdmitsResolution S c n k
  resolution_admitted l there by k is = record { l = l; there = there; by = by; is = is }

module _ (S : List Symbol) (c : List Lit) (first : ℕ) (first_side : Side) (second : ℕ) (second_side : Side) where
  pub no_first : item first c ≡ None → (k : List Lit) → AdmitsFactoring S c first first_side second second_side k → ⊥
  no_first refuted k a = not_both (item first c) a.l refuted a.first_is

  pub no_second : item second c ≡ None → (k : List Lit) → AdmitsFactoring S c first first_side second second_side k → ⊥
  no_second refuted k a = not_both (item second c) a.m refuted a.second_is

  pub not_factored : (l : Lit) → item first c ≡ Some l → (ReplacesBy S c first first_side l → ⊥) → (k : List Lit) → AdmitsFactoring S c first first_side second second_side k → ⊥
  not_factored l there refuted k a = refuted (subst (ReplacesBy S c first first_side) (some_same (item first c) a.l l a.first_is there) a.by)

  pub factoring_admitted : (l m : Lit) → item first c ≡ Some l → item second c ≡ Some m → ReplacesBy S c first first_side l
      → (k : List Lit) → k ≡ changed second (disequation (other first_side l) (other second_side m)) c → AdmitsFactoring S c first first_side second second_side k
  factoring_admitted l m first_is second_is by k is = record { l = l; m = m; first_is = first_is; second_is = second_is; by = by; is = is }
