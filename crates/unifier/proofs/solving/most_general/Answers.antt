use Rattle.std.proofs.Common.{◌≡◌, ◌∙◌, sym, ap, subst, [], true, ℕ}
use Rattle.std.specs.Prelude.{IfOk, IfSome, IfNone}
use Rattle.term_base.specs.declared.terms.Term.{Term}
use Rattle.term_base.specs.Known.{is_known, KnownImages}
use Rattle.term_base.specs.Substitution.{image}
use Rattle.term_base.specs.Trees.{tree}
use Rattle.unifier.specs.Sorted.{IsGeneral, NoneSorted}
use Rattle.unifier.specs.Variables.{gathered}
use Rattle.unifier.proofs.SearchLemmas.{gathered_has_all}
use Rattle.unifier.proofs.solving.most_general.Goals as goal

pub solve-requires : goal.solve-requires
solve-requires c =
    gathered_has_all (tree c.in_ok-left.left) (tree c.in_ok-right.right) c.in_ok-pool.pool.items
    (c.in_ok-pool.ensures
    ∙ ap (λ x. gathered (tree x) (gathered (tree c.args.l.now) [])) (sym c.in_ok-right.ensures)
    ∙ ap (λ x. gathered (tree c.in_ok-right.right) (gathered (tree x) [])) (sym c.in_ok-left.ensures))

pub returns-clause-general : goal.returns-clause-general
returns-clause-general c =
    subst (λ (x : Term). IfOk c.solve.result (λ o. IfSome o (λ s. IsGeneral c.args.signature.now (tree x) (tree c.args.u.now) (image s)))) c.in_ok-left.ensures
    (subst (λ (x : Term). IfOk c.solve.result (λ o. IfSome o (λ s. IsGeneral c.args.signature.now (tree c.in_ok-left.left) (tree x) (image s)))) c.in_ok-right.ensures
    c.solve.ensures.general)

pub returns-clause-known : goal.returns-clause-known
returns-clause-known c =
    subst (λ (x : Term). IfOk c.solve.result (λ o. IfSome o (λ s. (n : ℕ) → is_known n (tree x) ≡ true → is_known n (tree c.args.u.now) ≡ true → KnownImages n (image s)))) c.in_ok-left.ensures
    (subst (λ (x : Term). IfOk c.solve.result (λ o. IfSome o (λ s. (n : ℕ) → is_known n (tree c.in_ok-left.left) ≡ true → is_known n (tree x) ≡ true → KnownImages n (image s)))) c.in_ok-right.ensures
    c.solve.ensures.known)

pub returns-clause-apart : goal.returns-clause-apart
returns-clause-apart c =
    subst (λ (x : Term). IfOk c.solve.result (λ o. IfNone o (NoneSorted c.args.signature.now (tree x) (tree c.args.u.now)))) c.in_ok-left.ensures
    (subst (λ (x : Term). IfOk c.solve.result (λ o. IfNone o (NoneSorted c.args.signature.now (tree c.in_ok-left.left) (tree x)))) c.in_ok-right.ensures
    c.solve.ensures.apart)
