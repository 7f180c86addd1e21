-- What a fold gives at each variant of a formula.
use Rattle.std.proofs.Common.{◌≡◌, ◌∙◌, ap, Bool, List, map}
use Rattle.tff_grammar.specs.declared.pieces.Junction.{Junction}
use Rattle.tff_grammar.specs.declared.pieces.Link.{Link}
use Rattle.tff_grammar.specs.declared.pieces.Quantifier.{Quantifier}
use Rattle.tff_grammar.specs.declared.pieces.Relation.{Relation}
use Rattle.tff_grammar.specs.declared.trees.Term.{Term}
use Rattle.tff_grammar.specs.declared.trees.Variable.{Variable}
use Rattle.tff_grammar.specs.declared.trees.Formula.{Formula}
use Rattle.tff_grammar.specs.declared.trees.Formula.TheOpen as layer
use Rattle.tff_grammar.specs.declared.trees.Formula.TheOpen.{Formula-F}
use Rattle.tff_grammar.specs.declared.trees.Formula.TheVariants as f
use Rattle.tff_grammar.specs.declared.trees.Formula.TheFolds.{fold-Formula, fold_out-Formula, map-Formula}

module _ (A : Type 0) (step : Formula-F A → A) where
  abbrev at_layer : Formula-F Formula → A
  at_layer d = step (map-Formula Formula A (fold-Formula A step) d)

  pub fold-Constant : (b : Bool) → fold-Formula A step (f.Constant b) ≡ step (layer.Constant b)
  fold-Constant b = fold_out-Formula A step (f.Constant b) ∙ ap at_layer (f.outs-Constant b)

  pub fold-Atom : (s : Term) → fold-Formula A step (f.Atom s) ≡ step (layer.Atom s)
  fold-Atom s = fold_out-Formula A step (f.Atom s) ∙ ap at_layer (f.outs-Atom s)

  pub fold-Relation : (r : Relation) (s u : Term) → fold-Formula A step (f.Relation r s u) ≡ step (layer.Relation r s u)
  fold-Relation r s u = fold_out-Formula A step (f.Relation r s u) ∙ ap at_layer (f.outs-Relation r s u)

  pub fold-Not : (g : Formula) → fold-Formula A step (f.Not g) ≡ step (layer.Not (fold-Formula A step g))
  fold-Not g = fold_out-Formula A step (f.Not g) ∙ ap at_layer (f.outs-Not g)

  pub fold-Quantified : (q : Quantifier) (vs : List Variable) (g : Formula)
      → fold-Formula A step (f.Quantified q vs g) ≡ step (layer.Quantified q vs (fold-Formula A step g))
  fold-Quantified q vs g = fold_out-Formula A step (f.Quantified q vs g) ∙ ap at_layer (f.outs-Quantified q vs g)

  pub fold-Linked : (l : Link) (g h : Formula) → fold-Formula A step (f.Linked l g h) ≡ step (layer.Linked l (fold-Formula A step g) (fold-Formula A step h))
  fold-Linked l g h = fold_out-Formula A step (f.Linked l g h) ∙ ap at_layer (f.outs-Linked l g h)

  pub fold-Joined : (j : Junction) (gs : List Formula) → fold-Formula A step (f.Joined j gs) ≡ step (layer.Joined j (map (fold-Formula A step) gs))
  fold-Joined j gs = fold_out-Formula A step (f.Joined j gs) ∙ ap at_layer (f.outs-Joined j gs)
