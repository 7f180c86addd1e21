-- What the rules give where their terms are there, and where one isn't.
use Rattle.std.specs.Prelude.{◌≡◌, ℕ, true, false, List, Option, Some, None, option_and_then, if◌then◌else◌}
use Rattle.std.proofs.Common.{◌∙◌, ap}
use Rattle.term_base.specs.declared.places.Place.{Place}
use Rattle.term_base.specs.declared.places.Side.{Side}
use Rattle.term_base.specs.declared.variables.Variable.{Variable}
use Rattle.term_base.specs.Trees.{Tree, same_tree}
use Rattle.term_base.specs.Substitution.{put_in}
use Rattle.term_base.specs.Lits.{Lit, put_clause}
use Rattle.term_base.specs.Places.{left_out, tree_at, replaced}
use Rattle.step_rules.specs.Inference.{equation_at, disequation_at, where_same, superposed_clause, superposed, resolved, factored_clause, factored_by}
use Rattle.step_rules.specs.Simplified.{unit_sides, demodulated}

then_none : {A B : Type 0} (f : A → Option B) (o : Option A) → o ≡ None → option_and_then f o ≡ None
then_none f o e = ap (option_and_then f) e

then_some : {A B : Type 0} (f : A → Option B) (o : Option A) (a : A) → o ≡ Some a → option_and_then f o ≡ f a
then_some f o a e = ap (option_and_then f) e

where_other : {A : Type 0} (s t : Tree) (a : A) → same_tree s t ≡ false → where_same s t a ≡ None
where_other s t a e = ap (λ b. if b then Some a else None) e

where_one : {A : Type 0} (s t : Tree) (a : A) → same_tree s t ≡ true → where_same s t a ≡ Some a
where_one s t a e = ap (λ b. if b then Some a else None) e

-- superposition
module _ (c : List Lit) (i : ℕ) (side : Side) (d : List Lit) (place : Place) (s1 s2 : Variable → Tree) where
  abbrev superposes_at : Tree × Tree → Tree → Option (List Lit)
  superposes_at e u = where_same (put_in s1 e.0) (put_in s2 u) (superposed_clause c i d place e.1 s1 s2)

  abbrev superposes : Tree × Tree → Option (List Lit)
  superposes e = option_and_then (superposes_at e) (tree_at d place)

  pub superposed-none : equation_at c i side ≡ None → superposed c i side d place s1 s2 ≡ None
  superposed-none none = then_none superposes (equation_at c i side) none

  module _ (l r : Tree) (there : equation_at c i side ≡ Some (l, r)) where
    superposed-into : superposed c i side d place s1 s2 ≡ superposes (l, r)
    superposed-into = then_some superposes (equation_at c i side) (l, r) there

    pub superposed-nowhere : tree_at d place ≡ None → superposed c i side d place s1 s2 ≡ None
    superposed-nowhere none = superposed-into ∙ then_none (superposes_at (l, r)) (tree_at d place) none

    pub superposed-other : (u : Tree) → tree_at d place ≡ Some u → same_tree (put_in s1 l) (put_in s2 u) ≡ false → superposed c i side d place s1 s2 ≡ None
    superposed-other u at e = superposed-into ∙ then_some (superposes_at (l, r)) (tree_at d place) u at ∙ where_other (put_in s1 l) (put_in s2 u) (superposed_clause c i d place r s1 s2) e

    pub superposed-there : (u : Tree) → tree_at d place ≡ Some u → same_tree (put_in s1 l) (put_in s2 u) ≡ true → superposed c i side d place s1 s2 ≡ Some (superposed_clause c i d place r s1 s2)
    superposed-there u at e = superposed-into ∙ then_some (superposes_at (l, r)) (tree_at d place) u at ∙ where_one (put_in s1 l) (put_in s2 u) (superposed_clause c i d place r s1 s2) e

-- resolution
module _ (c : List Lit) (i : ℕ) (s1 : Variable → Tree) where
  abbrev resolves : Tree × Tree → Option (List Lit)
  resolves e = where_same (put_in s1 e.0) (put_in s1 e.1) (put_clause s1 (left_out i c))

  pub resolved-none : disequation_at c i ≡ None → resolved c i s1 ≡ None
  resolved-none none = then_none resolves (disequation_at c i) none

  module _ (s t : Tree) (there : disequation_at c i ≡ Some (s, t)) where
    pub resolved-other : same_tree (put_in s1 s) (put_in s1 t) ≡ false → resolved c i s1 ≡ None
    resolved-other e = then_some resolves (disequation_at c i) (s, t) there ∙ where_other (put_in s1 s) (put_in s1 t) (put_clause s1 (left_out i c)) e

    pub resolved-there : same_tree (put_in s1 s) (put_in s1 t) ≡ true → resolved c i s1 ≡ Some (put_clause s1 (left_out i c))
    resolved-there e = then_some resolves (disequation_at c i) (s, t) there ∙ where_one (put_in s1 s) (put_in s1 t) (put_clause s1 (left_out i c)) e

-- factoring
module _ (c : List Lit) (i : ℕ) (i_side : Side) (j : ℕ) (j_side : Side) (s1 : Variable → Tree) where
  abbrev factors_with : Tree × Tree → Tree × Tree → Option (List Lit)
  factors_with e f = where_same (put_in s1 e.0) (put_in s1 f.0) (factored_clause c j e.1 f.1 s1)

  abbrev factors : Tree × Tree → Option (List Lit)
  factors e = option_and_then (factors_with e) (equation_at c j j_side)

  pub factored-none : equation_at c i i_side ≡ None → factored_by c i i_side j j_side s1 ≡ None
  factored-none none = then_none factors (equation_at c i i_side) none

  module _ (l r : Tree) (first : equation_at c i i_side ≡ Some (l, r)) where
    factored-with : factored_by c i i_side j j_side s1 ≡ factors (l, r)
    factored-with = then_some factors (equation_at c i i_side) (l, r) first

    pub factored-one : equation_at c j j_side ≡ None → factored_by c i i_side j j_side s1 ≡ None
    factored-one none = factored-with ∙ then_none (factors_with (l, r)) (equation_at c j j_side) none

    module _ (s t : Tree) (second : equation_at c j j_side ≡ Some (s, t)) where
      pub factored-other : same_tree (put_in s1 l) (put_in s1 s) ≡ false → factored_by c i i_side j j_side s1 ≡ None
      factored-other e = factored-with ∙ then_some (factors_with (l, r)) (equation_at c j j_side) (s, t) second ∙ where_other (put_in s1 l) (put_in s1 s) (factored_clause c j r t s1) e

      pub factored-there : same_tree (put_in s1 l) (put_in s1 s) ≡ true → factored_by c i i_side j j_side s1 ≡ Some (factored_clause c j r t s1)
      factored-there e = factored-with ∙ then_some (factors_with (l, r)) (equation_at c j j_side) (s, t) second ∙ where_one (put_in s1 l) (put_in s1 s) (factored_clause c j r t s1) e

-- demodulation
module _ (c : List Lit) (place : Place) (unit : List Lit) (side : Side) (s1 : Variable → Tree) where
  abbrev rewrites_at : Tree × Tree → Tree → Option (List Lit)
  rewrites_at e u = where_same (put_in s1 e.0) u (replaced c place (put_in s1 e.1))

  abbrev rewrites : Tree × Tree → Option (List Lit)
  rewrites e = option_and_then (rewrites_at e) (tree_at c place)

  pub demodulated-none : unit_sides side unit ≡ None → demodulated c place unit side s1 ≡ None
  demodulated-none none = then_none rewrites (unit_sides side unit) none

  module _ (l r : Tree) (there : unit_sides side unit ≡ Some (l, r)) where
    demodulated-by : demodulated c place unit side s1 ≡ rewrites (l, r)
    demodulated-by = then_some rewrites (unit_sides side unit) (l, r) there

    pub demodulated-nowhere : tree_at c place ≡ None → demodulated c place unit side s1 ≡ None
    demodulated-nowhere none = demodulated-by ∙ then_none (rewrites_at (l, r)) (tree_at c place) none

    pub demodulated-other : (u : Tree) → tree_at c place ≡ Some u → same_tree (put_in s1 l) u ≡ false → demodulated c place unit side s1 ≡ None
    demodulated-other u at e = demodulated-by ∙ then_some (rewrites_at (l, r)) (tree_at c place) u at ∙ where_other (put_in s1 l) u (replaced c place (put_in s1 r)) e

    pub demodulated-there : (u : Tree) → tree_at c place ≡ Some u → same_tree (put_in s1 l) u ≡ true → demodulated c place unit side s1 ≡ Some (replaced c place (put_in s1 r))
    demodulated-there u at e = demodulated-by ∙ then_some (rewrites_at (l, r)) (tree_at c place) u at ∙ where_one (put_in s1 l) u (replaced c place (put_in s1 r)) e
