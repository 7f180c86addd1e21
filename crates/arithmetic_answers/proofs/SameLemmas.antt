-- Each list of literals is one with itself.
use Rattle.std.proofs.Common.{◌≡◌, true, List, [], ◌∷◌, refl}
use Rattle.std.proofs.lemmas.Bool.{and_from}
use Rattle.term_base.specs.TreeLemmas.{same_tree-refl}
use Rattle.term_base.specs.Lits.{Relation, equal, differ, at_most, Lit}
use Rattle.step_rules.specs.Literals.{same_lits, same_relation}

relation_refl : (r : Relation) → same_relation r r ≡ true
relation_refl equal = refl
relation_refl differ = refl
relation_refl at_most = refl

pub lits_refl : (ls : List Lit) → same_lits ls ls ≡ true
lits_refl [] = refl
lits_refl (l ∷ ls) =
    and_from _ _ (and_from _ _ (relation_refl l.relation) (and_from _ _ (same_tree-refl l.left) (same_tree-refl l.right))) (lits_refl ls)
