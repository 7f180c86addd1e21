-- The measures of a formula are the saturated numbers of its clauses, and whether a quantifier is in it.
use Rattle.std.proofs.Common.{◌≡◌, ℕ, ◌+◌, ◌*◌, Bool, true, false, ◌||◌, List, [], ◌∷◌, map, fold, get_or, refl, sym, ap, ◌∙◌, rules}
use Rattle.std.specs.List.{list_any}
use Rattle.formula_base.specs.declared.formulas.Formula.{Formula}
use Rattle.formula_base.specs.declared.formulas.Formula.TheVariants.{Iff}
use Rattle.formula_base.specs.declared.formulas.Formula.TheOpen as layer
use Rattle.formula_base.specs.FormulaFolds.{fold-True, fold-False, fold-Same, fold-Less, fold-LessEq, fold-Not, fold-Implies, fold-Iff, fold-All, fold-Some, fold-Atom, fold-And, fold-Or}
use Rattle.formula_base.specs.FormulaInduction.{Each, formula_induction}
use Rattle.normal_form.specs.declared.counting.Counts.{Counts}
use Rattle.normal_form.specs.declared.measuring.Measured.{Measured}
use Rattle.normal_form.specs.declared.measuring.Measured.TheOpen.{Measured-F}
use Rattle.normal_form.specs.declared.measuring.Measured.TheViews.{out-Measured, roll-Measured, the_lemmas}
use Rattle.normal_form.specs.Count.{Number, number, number_step, saturated}
use Rattle.normal_form.specs.Count as c
use Rattle.normal_form.proofs.Quantifiers.{is_quantified, quantified_step}
use Rattle.normal_form.specs.Measures.{measures, measures_step, node, counts, quantified, parts, always, atom, negated, both, either, implied, are_quantified}
use Rattle.normal_form.proofs.FormulaCounts.{two_sum, two_product}
use Rattle.normal_form.proofs.Saturation.{saturated_sum, saturated_product}

-- ---- the fields of a node

out_roll : (x : Measured-F Measured) → out-Measured (roll-Measured x) ≡ x
out_roll x = first_of (search the_lemmas, search (rules, the_lemmas))

node_parts : (a : Counts) (q : Bool) (ms : List Measured) → parts (node a q ms) ≡ ms
node_parts a q ms = ap (λ (x : Measured-F Measured). x.parts) (out_roll (record { counts = a; quantified = q; parts = ms }))

node_counts : (a : Counts) (q : Bool) (ms : List Measured) → counts (node a q ms) ≡ a
node_counts a q ms = ap (λ (x : Measured-F Measured). x.counts) (out_roll (record { counts = a; quantified = q; parts = ms }))

node_quantified : (a : Counts) (q : Bool) (ms : List Measured) → quantified (node a q ms) ≡ q
node_quantified a q ms = ap (λ (x : Measured-F Measured). x.quantified) (out_roll (record { counts = a; quantified = q; parts = ms }))

-- ---- saturated counts

-- the saturated counts for both signs
abbrev pub tally : Number → Counts
tally n = record { plus = saturated (n true); minus = saturated (n false) }

same_counts : (a b x y : ℕ) → a ≡ x → b ≡ y → (let left : Counts = record { plus = a; minus = b } in let right : Counts = record { plus = x; minus = y } in left ≡ right)
same_counts a b x y p q = rw (p, q) refl

implied_tally : (m n : Number) → implied (tally m) (tally n) ≡ tally (c.implication m n)
implied_tally m n = same_counts _ _ _ _
    (saturated_product (m false) (n true) ∙ ap saturated (sym (two_product (m false) (n true))))
    (saturated_sum (m true) (n false) ∙ ap saturated (sym (two_sum (m true) (n false))))

both_tally : (m n : Number) → both (tally m) (tally n) ≡ tally (c.conjunction (m ∷ n ∷ []))
both_tally m n = same_counts _ _ _ _
    (saturated_sum (m true) (n true) ∙ ap saturated (sym (two_sum (m true) (n true))))
    (saturated_product (m false) (n false) ∙ ap saturated (sym (two_product (m false) (n false))))

-- ---- formulas

abbrev IsTallied : Formula → Type 0
IsTallied g = (counts (measures g) ≡ tally (number g)) × (quantified (measures g) ≡ is_quantified g)

-- from the equations of the three folds
by_equations : (whole layer : Measured) (n n' : Number) (q q' : Bool) → whole ≡ layer → n ≡ n' → q ≡ q'
    → (counts layer ≡ tally n') × (quantified layer ≡ q') → (counts whole ≡ tally n) × (quantified whole ≡ q)
by_equations whole layer n n' q q' e h k p = (ap counts e ∙ p.0 ∙ ap tally (sym h), ap quantified e ∙ p.1 ∙ sym k)

at_node : (a : Counts) (q : Bool) (ms : List Measured) (n : Number) (b : Bool) → a ≡ tally n → q ≡ b → (counts (node a q ms) ≡ tally n) × (quantified (node a q ms) ≡ b)
at_node a q ms n b h k = (node_counts a q ms ∙ h, node_quantified a q ms ∙ k)

both_members : (gs : List Formula) → Each IsTallied gs → (s p : ℕ)
    → fold both (record { plus = saturated s; minus = saturated p }) (map counts (map measures gs))
    ≡ record { plus = saturated (fold (λ a b. a + b) s (map (λ m. m true) (map number gs))); minus = saturated (fold (λ a b. a * b) p (map (λ m. m false) (map number gs))) }
both_members [] all s p = refl
both_members (g ∷ gs) all s p =
    ap (λ (x : Counts). fold both (both (record { plus = saturated s; minus = saturated p }) x) (map counts (map measures gs))) all.0.0
    ∙ ap (λ (x : Counts). fold both x (map counts (map measures gs))) (same_counts _ _ _ _ (saturated_sum s (number g true)) (saturated_product p (number g false)))
    ∙ both_members gs all.1 (s + number g true) (p * number g false)

either_members : (gs : List Formula) → Each IsTallied gs → (s p : ℕ)
    → fold either (record { plus = saturated p; minus = saturated s }) (map counts (map measures gs))
    ≡ record { plus = saturated (fold (λ a b. a * b) p (map (λ m. m true) (map number gs))); minus = saturated (fold (λ a b. a + b) s (map (λ m. m false) (map number gs))) }
either_members [] all s p = refl
either_members (g ∷ gs) all s p =
    ap (λ (x : Counts). fold either (either (record { plus = saturated p; minus = saturated s }) x) (map counts (map measures gs))) all.0.0
    ∙ ap (λ (x : Counts). fold either x (map counts (map measures gs))) (same_counts _ _ _ _ (saturated_product p (number g true)) (saturated_sum s (number g false)))
    ∙ either_members gs all.1 (s + number g false) (p * number g true)

members_quantified : (gs : List Formula) → Each IsTallied gs → are_quantified (map measures gs) ≡ list_any (λ a. a) (map is_quantified gs)
members_quantified [] all = refl
members_quantified (g ∷ gs) all =
    ap (λ (b : Bool). b || are_quantified (map measures gs)) all.0.1 ∙ ap (λ (b : Bool). is_quantified g || b) (members_quantified gs all.1)

one_of_two : (g h : Formula) → IsTallied g → IsTallied h → quantified (measures g) || quantified (measures h) ≡ is_quantified g || is_quantified h
one_of_two g h p q = ap (λ (b : Bool). b || quantified (measures h)) p.1 ∙ ap (λ (b : Bool). is_quantified g || b) q.1

implied_parts : (g h : Formula) → IsTallied g → IsTallied h → implied (counts (measures g)) (counts (measures h)) ≡ tally (c.implication (number g) (number h))
implied_parts g h p q = ap (λ (x : Counts). implied x (counts (measures h))) p.0 ∙ ap (implied (tally (number g))) q.0 ∙ implied_tally (number g) (number h)

equal_parts : (g h : Formula) → IsTallied g → IsTallied h
    → both (implied (counts (measures g)) (counts (measures h))) (implied (counts (measures h)) (counts (measures g))) ≡ tally (c.equivalence (number g) (number h))
equal_parts g h p q =
    ap (λ (x : Counts). both x (implied (counts (measures h)) (counts (measures g)))) (implied_parts g h p q)
    ∙ ap (both (tally (c.implication (number g) (number h)))) (implied_parts h g q p)
    ∙ both_tally (c.implication (number g) (number h)) (c.implication (number h) (number g))

pub tallied : (g : Formula) → IsTallied g
tallied = formula_induction IsTallied
    (by_equations _ _ _ _ _ _ (fold-True Measured measures_step) (fold-True Number number_step) (fold-True Bool quantified_step) (at_node always false [] (number_step layer.True) false refl refl))
    (by_equations _ _ _ _ _ _ (fold-False Measured measures_step) (fold-False Number number_step) (fold-False Bool quantified_step) (at_node (negated always) false [] (number_step layer.False) false refl refl))
    (λ s. by_equations _ _ _ _ _ _ (fold-Atom Measured measures_step s) (fold-Atom Number number_step s) (fold-Atom Bool quantified_step s) (at_node atom false [] (number_step (layer.Atom s)) false refl refl))
    (λ s u. by_equations _ _ _ _ _ _ (fold-Same Measured measures_step s u) (fold-Same Number number_step s u) (fold-Same Bool quantified_step s u) (at_node atom false [] (number_step (layer.Same s u)) false refl refl))
    (λ s u. by_equations _ _ _ _ _ _ (fold-Less Measured measures_step s u) (fold-Less Number number_step s u) (fold-Less Bool quantified_step s u) (at_node atom false [] (number_step (layer.Less s u)) false refl refl))
    (λ s u. by_equations _ _ _ _ _ _ (fold-LessEq Measured measures_step s u) (fold-LessEq Number number_step s u) (fold-LessEq Bool quantified_step s u) (at_node atom false [] (number_step (layer.LessEq s u)) false refl refl))
    (λ g p. by_equations _ _ _ _ _ _ (fold-Not Measured measures_step g) (fold-Not Number number_step g) (fold-Not Bool quantified_step g)
    (at_node (negated (counts (measures g))) (quantified (measures g)) (measures g ∷ []) (c.negated (number g)) (is_quantified g) (ap negated p.0) p.1))
    (λ gs all. by_equations _ _ _ _ _ _ (fold-And Measured measures_step gs) (fold-And Number number_step gs) (fold-And Bool quantified_step gs)
    (at_node (fold both always (map counts (map measures gs))) (are_quantified (map measures gs)) (map measures gs) (c.conjunction (map number gs)) (list_any (λ a. a) (map is_quantified gs))
    (both_members gs all 0 1) (members_quantified gs all)))
    (λ gs all. by_equations _ _ _ _ _ _ (fold-Or Measured measures_step gs) (fold-Or Number number_step gs) (fold-Or Bool quantified_step gs)
    (at_node (fold either (negated always) (map counts (map measures gs))) (are_quantified (map measures gs)) (map measures gs) (c.disjunction (map number gs)) (list_any (λ a. a) (map is_quantified gs))
    (either_members gs all 0 1) (members_quantified gs all)))
    (λ g h p q. by_equations _ _ _ _ _ _ (fold-Implies Measured measures_step g h) (fold-Implies Number number_step g h) (fold-Implies Bool quantified_step g h)
    (at_node (implied (counts (measures g)) (counts (measures h))) (quantified (measures g) || quantified (measures h)) (measures g ∷ measures h ∷ []) (c.implication (number g) (number h)) (is_quantified g || is_quantified h)
    (implied_parts g h p q) (one_of_two g h p q)))
    (λ g h p q. by_equations _ _ _ _ _ _ (fold-Iff Measured measures_step g h) (fold-Iff Number number_step g h) (fold-Iff Bool quantified_step g h)
    (at_node (both (implied (counts (measures g)) (counts (measures h))) (implied (counts (measures h)) (counts (measures g)))) (quantified (measures g) || quantified (measures h)) (measures g ∷ measures h ∷ [])
    (c.equivalence (number g) (number h)) (is_quantified g || is_quantified h) (equal_parts g h p q) (one_of_two g h p q)))
    (λ vs g p. by_equations _ _ _ _ _ _ (fold-All Measured measures_step vs g) (fold-All Number number_step vs g) (fold-All Bool quantified_step vs g)
    (at_node (counts (measures g)) true (measures g ∷ []) (number g) true p.0 refl))
    (λ vs g p. by_equations _ _ _ _ _ _ (fold-Some Measured measures_step vs g) (fold-Some Number number_step vs g) (fold-Some Bool quantified_step vs g)
    (at_node (counts (measures g)) true (measures g ∷ []) (number g) true p.0 refl))

-- ---- what the measures of a formula tell

module _ (g : Formula) (m : Measured) (h : m ≡ measures g) where
  pub counts_plus : (counts m).plus ≡ saturated (number g true)
  counts_plus = ap (λ (x : Measured). (counts x).plus) h ∙ ap (λ (x : Counts). x.plus) (tallied g).0

  pub counts_minus : (counts m).minus ≡ saturated (number g false)
  counts_minus = ap (λ (x : Measured). (counts x).minus) h ∙ ap (λ (x : Counts). x.minus) (tallied g).0

  pub told_quantified : quantified m ≡ is_quantified g
  told_quantified = ap quantified h ∙ (tallied g).1

-- ---- the measures of the two parts of an equivalence

module _ (g : Formula) (m : Measured) (h : m ≡ measures g) (a b : Formula) (e : g ≡ Iff a b) (ms : List Measured) (k : ms ≡ parts m) (p : Measured) where
  two_parts : ms ≡ measures a ∷ measures b ∷ []
  two_parts = k ∙ ap parts (h ∙ ap measures e ∙ fold-Iff Measured measures_step a b) ∙ node_parts _ _ _

  pub left_part : p ≡ get_or ms 0 p → p ≡ measures a
  left_part q = q ∙ ap (λ (x : List Measured). get_or x 0 p) two_parts

  pub right_part : p ≡ get_or ms 1 p → p ≡ measures b
  right_part q = q ∙ ap (λ (x : List Measured). get_or x 1 p) two_parts
