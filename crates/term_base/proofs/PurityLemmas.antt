-- The purity of a term by what is in it.
use Rattle.std.proofs.Common.{◌≡◌, Bool, true, false, List, refl, if◌then◌else◌}
use Rattle.std.specs.Prelude.{◌↔◌}
use Rattle.term_base.specs.declared.symbols.Symbol.{Symbol}
use Rattle.term_base.specs.declared.terms.Purity.{Purity}
use Rattle.term_base.specs.declared.terms.Purity.TheVariants.{Pure, Impure, Foreground}
use Rattle.term_base.specs.Trees.{Tree}
use Rattle.term_base.specs.Purity.{foreground, ordinary, purity, IsPure}

abbrev grade : Bool → Bool → Purity
grade f o = if f then Foreground else (if o then Impure else Pure)

grade-pure : (f o : Bool) → grade f o ≡ Pure → (f ≡ false) × (o ≡ false)
grade-pure true o h = cc
grade-pure false true h = cc
grade-pure false false h = (refl, refl)

grade-impure : (f o : Bool) → grade f o ≡ Impure → (f ≡ false) × (o ≡ true)
grade-impure true o h = cc
grade-impure false true h = (refl, refl)
grade-impure false false h = cc

grade-foreground : (f o : Bool) → grade f o ≡ Foreground → f ≡ true
grade-foreground true o h = refl
grade-foreground false true h = cc
grade-foreground false false h = cc

module _ (signature : List Symbol) (t : Tree) where
  pub purity-pure : (purity signature t ≡ Pure) ↔ IsPure signature t
  purity-pure = (
    (λ h. let two = grade-pure (foreground signature t) (ordinary t) h in record { no_foreground = two.0; no_ordinary = two.1 }),
    (λ p. rw (p.no_foreground, p.no_ordinary) refl),
  )

  pub purity-impure : (purity signature t ≡ Impure) ↔ ((foreground signature t ≡ false) × (ordinary t ≡ true))
  purity-impure = (grade-impure (foreground signature t) (ordinary t), (λ p. rw (p.0, p.1) refl))

  pub purity-foreground : (purity signature t ≡ Foreground) ↔ (foreground signature t ≡ true)
  purity-foreground = (grade-foreground (foreground signature t) (ordinary t), (λ p. rw p refl))
