-- The tests of specs/LitTests.antt say what they test.
use Rattle.std.proofs.Common.{◌≡◌, true, ◌&&◌, List, [], ◌∷◌, refl, ap, ◌∙◌}
use Rattle.std.proofs.lemmas.Bool.{and_from}
use Rattle.term_base.specs.TreeLemmas.{and-true, same_tree-true, same_tree-refl}
use Rattle.term_base.specs.Trees.{same_tree}
use Rattle.term_base.specs.Lits.{Relation, equal, differ, at_most, Lit}
use Rattle.term_base.specs.LitTests.{same_relation, same_lit, same_lits, is_inequality, differs_from_itself}
use Rattle.term_base.specs.Redundancy.{DiffersFromItself}

pub same_relation-true : (r s : Relation) → same_relation r s ≡ true → r ≡ s
same_relation-true equal equal h = refl
same_relation-true differ differ h = refl
same_relation-true at_most at_most h = refl
same_relation-true _ _ h = cc

pub same_relation-refl : (r : Relation) → same_relation r r ≡ true
same_relation-refl equal = refl
same_relation-refl differ = refl
same_relation-refl at_most = refl

pub same_lit-true : (l m : Lit) → same_lit l m ≡ true → l ≡ m
same_lit-true l m h =
    let one = and-true (same_relation l.relation m.relation) (same_tree l.left m.left && same_tree l.right m.right) h in
    let two = and-true (same_tree l.left m.left) (same_tree l.right m.right) one.1 in
    let relations : l.relation ≡ m.relation = same_relation-true l.relation m.relation one.0 in
    let lefts : l.left ≡ m.left = same_tree-true l.left m.left two.0 in
    let rights : l.right ≡ m.right = same_tree-true l.right m.right two.1 in
    ap (λ r. let k : Lit = record { relation = r; left = l.left; right = l.right } in k) relations
    ∙ ap (λ t. let k : Lit = record { relation = m.relation; left = t; right = l.right } in k) lefts
    ∙ ap (λ t. let k : Lit = record { relation = m.relation; left = m.left; right = t } in k) rights

pub same_lit-refl : (l : Lit) → same_lit l l ≡ true
same_lit-refl l = and_from _ _ (same_relation-refl l.relation) (and_from _ _ (same_tree-refl l.left) (same_tree-refl l.right))

pub same_lits-true : (ls ms : List Lit) → same_lits ls ms ≡ true → ls ≡ ms
same_lits-true [] [] h = refl
same_lits-true (l ∷ ls) (m ∷ ms) h =
    let two = and-true (same_lit l m) (same_lits ls ms) h in
    ap (λ k. k ∷ ls) (same_lit-true l m two.0) ∙ ap (λ ks. m ∷ ks) (same_lits-true ls ms two.1)
same_lits-true _ _ h = cc

pub same_lits-refl : (ls : List Lit) → same_lits ls ls ≡ true
same_lits-refl [] = refl
same_lits-refl (l ∷ ls) = and_from _ _ (same_lit-refl l) (same_lits-refl ls)

pub is_inequality-true : (r : Relation) → is_inequality r ≡ true → r ≡ at_most
is_inequality-true at_most h = refl
is_inequality-true _ h = cc

pub differs_from_itself-true : (l : Lit) → differs_from_itself l ≡ true → DiffersFromItself l
differs_from_itself-true l h =
    let two = and-true (same_relation l.relation differ) (same_tree l.left l.right) h in
    record { differs = same_relation-true l.relation differ two.0; sides = same_tree-true l.left l.right two.1 }

pub differs_from_itself-from : (l : Lit) → DiffersFromItself l → differs_from_itself l ≡ true
differs_from_itself-from l d =
    and_from _ _ (ap (λ r. same_relation r differ) d.differs) (ap (λ t. same_tree t l.right) d.sides ∙ same_tree-refl l.right)
