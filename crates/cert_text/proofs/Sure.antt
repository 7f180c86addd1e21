-- Trees are read in one way alone.
use Rattle.std.proofs.Common.{◌≡◌, ℕ, zero, suc, List, ◌∷◌, ◌++◌, refl, sym, ap, subst, ◌∙◌}
use Rattle.cert_tree.specs.declared.certs.Tree.{Tree}
use Rattle.cert_tree.specs.declared.certs.Tree.TheVariants as node
use Rattle.cert_text.specs.declared.kinds.NodeKind.{NodeKind}
use Rattle.cert_text.specs.declared.kinds.NodeKind.TheVariants.{Case, Combine, Cut, Branch, Residues, Solve, Least, Clash}
use Rattle.std.specs.Prelude.{codes}
use Rattle.text_pieces.specs.Languages.{Cat, Blank, Image, Times}
use Rattle.text_pieces.specs.Numbers.{Number, Any, Counted}
use Rattle.cert_text.specs.Grammar.{NodeWord, NodeParts, Node, TreeWithin, SpellsTree}
use Rattle.text_pieces.proofs.Joining.{clear-blank, one_front-blank, one_front-cat, same_fails, same_reads}
use Rattle.text_pieces.proofs.Lifting.{Lift, lift-then, lift-blank, lift-image, unambiguous-blank, unambiguous-image, clear-cat, one_front-image}
use Rattle.text_pieces.proofs.Repeated.{split-times, unambiguous-counted, unambiguous-times, one_front-none, clear-none}
use Rattle.text_pieces.proofs.Reaching.{one_front-number}
use Rattle.cert_text.proofs.Kinded.{unambiguous-node_word}
use Rattle.cert_text.proofs.ToldApart.{unambiguous-index, unambiguous-modulus, unambiguous-sum, unambiguous-multiples}
use Rattle.text_pieces.proofs.Chains.{both}
use Rattle.cert_text.proofs.Levels.{limit-tree, from_node, to_node, raised, above, above_swap}
use Rattle.text_pieces.specs.Unambiguous.{HasOne, OneFront, Unambiguous, StartsClear}

-- as Unambiguous, of a language that may be empty
pub record Sure {A : Type 0} (L : A → List ℕ → Type 0) : Type 0 where
  pub one : OneFront L
  pub clear : StartsClear L

sure : {A : Type 0} {L : A → List ℕ → Type 0} → Unambiguous L → Sure L
sure r = record { one = r.one; clear = r.clear }

sure-cat : {A B : Type 0} {L : A → List ℕ → Type 0} {M : A → B → List ℕ → Type 0} → Sure L → ((a : A) → Sure (M a)) → Sure (Cat L M)
sure-cat {L = L} {M = M} l m = record { one = one_front-cat L M l.one (λ a. (m a).one) (λ a. (m a).clear); clear = clear-cat L M l.clear (λ a. (m a).clear) }

sure-image : {A B : Type 0} (f : A → B) (L : A → List ℕ → Type 0) → Sure L → Sure (Image f L)
sure-image f L l = record { one = one_front-image f L l.one; clear = λ b t s. l.clear s.from t s.spelled }

sure-blank : {A : Type 0} (L : A → List ℕ → Type 0) → OneFront L → Sure (Blank L)
sure-blank L one = record { one = one_front-blank L one; clear = clear-blank L }

sure-times : {A : Type 0} (L : A → List ℕ → Type 0) → Sure L → (n : ℕ) → Sure (Times L n)
sure-times L l zero = record { one = one_front-none L; clear = clear-none L }
sure-times {A} L l (suc n) =
    let c : Sure (Cat L (λ y. Times L n)) = sure-cat l (λ y. sure-times L l n) in
    record {
      one = λ a b t u x y s r h d e.
          let p = split-times L n a t s in
          let q = split-times L n b u r in
          let same = c.one (p.first, p.more) (q.first, q.more) t u x y p.spelled q.spelled h d e in
          record { value = p.is ∙ ap (λ (z : A × List A). z.0 ∷ z.1) same.value ∙ sym q.is; text = same.text; rest = same.rest };
      clear = λ a t s. let p = split-times L n a t s in c.clear (p.first, p.more) t p.spelled;
    }

sure-counted : {A : Type 0} (L : A → List ℕ → Type 0) → Sure L → Sure (Counted L)
sure-counted {A} L l =
    sure-image (λ (p : ℕ × List A). p.1) (Cat (Blank (Number Any)) (Times L)) (sure-cat (sure-blank (Number Any) (one_front-number Any)) (sure-times L l))

-- ---- nodes
module _ (L : Tree → List ℕ → Type 0) (one : OneFront L) where
  abbrev child : Sure (Blank L)
  child = sure-blank L one

  sure-parts : (kind : NodeKind) → Sure (NodeParts L kind)
  sure-parts Case = sure-image _ _ (sure-cat (sure unambiguous-index) (λ clause. sure-counted (Blank L) child))
  sure-parts Combine = sure-image _ _ (sure-cat (sure unambiguous-multiples) (λ list. child))
  sure-parts Cut = sure-image _ _ (sure-cat (sure unambiguous-index) (λ fact. child))
  sure-parts Branch = sure-image _ _ (sure-cat (sure unambiguous-sum) (λ t. sure-cat child (λ left. child)))
  sure-parts Residues = sure-image _ _ (sure-cat (sure unambiguous-modulus) (λ m. sure-cat (sure unambiguous-sum) (λ t. sure-times (Blank L) child m)))
  sure-parts Solve = sure-image _ _ (sure-cat (sure unambiguous-index) (λ fact. sure-cat (sure unambiguous-index) (λ p. child)))
  sure-parts Least = sure-image _ _ (sure-cat (sure unambiguous-index) (λ p. sure-counted (Blank L) child))
  sure-parts Clash = sure-image _ _ (sure unambiguous-index)

  sure-node : Sure (Node L)
  sure-node = sure-image (λ (p : NodeKind × Tree). p.1) (Cat NodeWord (NodeParts L)) (sure-cat (sure unambiguous-node_word) sure-parts)

one_front-within : (k : ℕ) → OneFront (TreeWithin k)
one_front-within zero a b t u x y s r h d e = absurd s
one_front-within (suc k) a b t u x y s r h d e = (sure-node (TreeWithin k) (one_front-within k)).one a b t u x y s r h d e

one_front-tree : OneFront SpellsTree
one_front-tree a b t u x y s r h d e =
    let j = s.levels in
    let k = r.levels in
    one_front-within (above k j) a b t u x y (raised TreeWithin SpellsTree limit-tree k j a t s.within)
    (subst (λ n. TreeWithin n b u) (above_swap j k) (raised TreeWithin SpellsTree limit-tree j k b u r.within)) h d e

clear-tree : StartsClear SpellsTree
clear-tree a t s = (sure-node SpellsTree one_front-tree).clear a t (to_node a t s)

has_one-tree : HasOne SpellsTree
has_one-tree =
    let n = unambiguous-index.some in
    record {
      value = node.Clash n.value;
      text = codes "clash" ++ n.text;
      spelled = from_node (node.Clash n.value) (codes "clash" ++ n.text) (record {
        from = (Clash, node.Clash n.value);
        is = refl;
        spelled = record { first = codes "clash"; second = n.text; first_spelled = refl; second_spelled = record { from = n.value; is = refl; spelled = n.spelled }; joined = refl };
      });
    }

pub unambiguous-tree : Unambiguous SpellsTree
unambiguous-tree = record { one = one_front-tree; clear = clear-tree; some = has_one-tree }

pub unambiguous-blank_tree : Unambiguous (Blank SpellsTree)
unambiguous-blank_tree = unambiguous-blank SpellsTree one_front-tree has_one-tree

pub unambiguous-some_trees : Unambiguous (Counted (Blank SpellsTree))
unambiguous-some_trees = unambiguous-counted (Blank SpellsTree) unambiguous-blank_tree

pub unambiguous-times_trees : (n : ℕ) → Unambiguous (Times (Blank SpellsTree) n)
unambiguous-times_trees n = unambiguous-times (Blank SpellsTree) unambiguous-blank_tree n

-- no modulus needs a child that has no text
pub unambiguous-node_parts : (kind : NodeKind) → Unambiguous (NodeParts SpellsTree kind)
unambiguous-node_parts Case = unambiguous-image _ _ (both unambiguous-index (λ clause. unambiguous-some_trees))
unambiguous-node_parts Combine = unambiguous-image _ _ (both unambiguous-multiples (λ list. unambiguous-blank_tree))
unambiguous-node_parts Cut = unambiguous-image _ _ (both unambiguous-index (λ fact. unambiguous-blank_tree))
unambiguous-node_parts Branch = unambiguous-image _ _ (both unambiguous-sum (λ t. both unambiguous-blank_tree (λ left. unambiguous-blank_tree)))
unambiguous-node_parts Residues = unambiguous-image _ _ (both unambiguous-modulus (λ m. both unambiguous-sum (λ t. unambiguous-times_trees m)))
unambiguous-node_parts Solve = unambiguous-image _ _ (both unambiguous-index (λ fact. both unambiguous-index (λ p. unambiguous-blank_tree)))
unambiguous-node_parts Least = unambiguous-image _ _ (both unambiguous-index (λ p. unambiguous-some_trees))
unambiguous-node_parts Clash = unambiguous-image _ _ unambiguous-index

-- from a tree to its node
pub tree_node : (bytes : List ℕ) → Lift SpellsTree bytes (Node SpellsTree) bytes (λ (a : Tree). a)
tree_node bytes = record {
  fails = λ left f. same_fails (Node SpellsTree) SpellsTree (λ a t s. (a, from_node a t s)) (λ a t s. (a, to_node a t s)) bytes left f;
  reads = λ a rest r. same_reads (Node SpellsTree) SpellsTree a a (from_node a) bytes rest r;
}

-- from a tree behind a blank to the parts of its node
pub blank_node : (bytes behind : List ℕ) → bytes ≡ 32 ∷ behind → Lift (Blank SpellsTree) bytes (Cat NodeWord (NodeParts SpellsTree)) behind (λ (p : NodeKind × Tree). p.1)
blank_node bytes behind e = lift-then (lift-blank SpellsTree bytes behind e) (lift-then (tree_node behind) (lift-image (λ (p : NodeKind × Tree). p.1) (Cat NodeWord (NodeParts SpellsTree)) behind))
