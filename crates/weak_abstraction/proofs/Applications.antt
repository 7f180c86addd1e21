-- Targets below a symbol with its arguments.
use Rattle.std.proofs.Common.{◌≡◌, ℕ, Bool, List, [], ◌∷◌, map, refl, ap, sym, ◌∙◌}
use Rattle.term_base.specs.declared.symbols.Symbol.{Symbol}
use Rattle.term_base.specs.declared.terms.Term.{Term}
use Rattle.term_base.specs.declared.terms.Term.TheVariants.{App}
use Rattle.term_base.specs.Trees.{Tree, node, symbol, more, trees, tree}
use Rattle.term_base.specs.TreeOf.{tree-App}
use Rattle.term_base.specs.Purity.{is_foreground}
use Rattle.weak_abstraction.specs.Targets.{each_as, each_mixed}
use Rattle.weak_abstraction.specs.Abstracted.{replaced_below, replaced_each, replaced_in}

module _ (S : List Symbol) (g : Tree → Tree) where
  -- arguments that all count or all don't, one by one
  replaced_each-trees : (b : Bool) (ts : List Term)
      → replaced_each S g (trees (map tree ts)) (each_as b (each_mixed S (trees (map tree ts)))) ≡ trees (map (λ u. replaced_in S g (tree u) b) ts)
  replaced_each-trees b [] = refl
  replaced_each-trees b (t ∷ ts) = ap (more (replaced_in S g (tree t) b)) (replaced_each-trees b ts)

  -- an application is replaced where its arguments are
  pub replaced-App : (t : Term) (f : ℕ) (args all : List Term) (b : Bool) → t ≡ App f args → b ≡ is_foreground S f
      → map tree all ≡ map (λ u. replaced_in S g (tree u) b) args → tree (App f all) ≡ replaced_below S g (tree t)
  replaced-App t f args all b is counts each =
      tree-App f all
      ∙ ap (λ us. node (symbol f) (trees us)) each
      ∙ ap (node (symbol f)) (sym (replaced_each-trees b args))
      ∙ ap (λ (z : Bool). node (symbol f) (replaced_each S g (trees (map tree args)) (each_as z (each_mixed S (trees (map tree args)))))) counts
      ∙ sym (ap (λ (u : Term). replaced_below S g (tree u)) is ∙ ap (replaced_below S g) (tree-App f args))
