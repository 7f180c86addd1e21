-- What simple substitutions keep.
use Rattle.std.proofs.Common.{◌≡◌, false, List, refl, ◌∙◌}
use Rattle.std.proofs.lemmas.Bool.{not-false}
use Rattle.term_base.specs.declared.symbols.Symbol.{Symbol}
use Rattle.term_base.specs.declared.variables.Variable.{Variable}
use Rattle.term_base.specs.Purity.{is_abstraction, foreground_head, foreground, any_foreground, ordinary, any_ordinary, IsPure}
use Rattle.term_base.specs.Substitution.{put_in, put_all, Simple}
use Rattle.term_base.specs.SubstLemmas.{sort-put_in}
use Rattle.term_base.specs.TreeLemmas.{or-false}
use Rattle.term_base.specs.Trees.{Tree, Trees, var, node, none, more}

module _ (signature : List Symbol) (s : Variable → Tree) (simple : Simple signature s) where
  mutual
    pure_foreground : (t : Tree) → foreground signature t ≡ false → ordinary t ≡ false → foreground signature (put_in s t) ≡ false
    pure_foreground (var v) h k = (simple.pure v (not-false (is_abstraction v) k)).no_foreground
    pure_foreground (node f xs) h k =
        let two = or-false (foreground_head signature f) (any_foreground signature xs) h in
        rw (two.0) (pure_any_foreground xs two.1 k)

    pure_any_foreground : (xs : Trees) → any_foreground signature xs ≡ false → any_ordinary xs ≡ false → any_foreground signature (put_all s xs) ≡ false
    pure_any_foreground none h k = refl
    pure_any_foreground (more x xs) h k =
        let fore = or-false (foreground signature x) (any_foreground signature xs) h in
        let ord = or-false (ordinary x) (any_ordinary xs) k in
        rw (pure_foreground x fore.0 ord.0) (pure_any_foreground xs fore.1 ord.1)

  mutual
    pure_ordinary : (t : Tree) → ordinary t ≡ false → ordinary (put_in s t) ≡ false
    pure_ordinary (var v) k = (simple.pure v (not-false (is_abstraction v) k)).no_ordinary
    pure_ordinary (node f xs) k = pure_any_ordinary xs k

    pure_any_ordinary : (xs : Trees) → any_ordinary xs ≡ false → any_ordinary (put_all s xs) ≡ false
    pure_any_ordinary none k = refl
    pure_any_ordinary (more x xs) k =
        let ord = or-false (ordinary x) (any_ordinary xs) k in
        rw (pure_ordinary x ord.0) (pure_any_ordinary xs ord.1)

  -- a simple substitution keeps Pure terms pure
  pub pure-put_in : (t : Tree) → IsPure signature t → IsPure signature (put_in s t)
  pure-put_in t p = record { no_foreground = pure_foreground t p.no_foreground p.no_ordinary; no_ordinary = pure_ordinary t p.no_ordinary }

-- a simple substitution after a simple one
pub simple-after : (signature : List Symbol) (r s : Variable → Tree) → Simple signature r → Simple signature s → Simple signature (λ v. put_in r (s v))
simple-after signature r s after before = record {
  sorted = λ v. sort-put_in signature r after.sorted (s v) ∙ before.sorted v;
  pure = λ v is. pure-put_in signature r after (s v) (before.pure v is);
}
