-- Rows, nodes and certificates put behind a text, part by part.
use Rattle.std.proofs.Common.{◌≡◌, ℕ, ℤ, pos, Bool, true, List, [], ◌∷◌, ◌++◌, length, map, refl, sym, ap, subst, ◌∙◌, append_assoc, arith, IsTrue}
use Rattle.std.specs.Prelude.{codes, ◌&&◌, ◌-ℤ◌}
use Rattle.std.specs.List.{list_all}
use Rattle.std.proofs.lemmas.Int.{ints}
use Rattle.lin_base.specs.declared.sums.Lin.{Lin}
use Rattle.lin_base.specs.Whole.{is_same}
use Rattle.lin_base.proofs.Ring.{is_zero_out}
use Rattle.cert_tree.specs.declared.certs.Cert.{Cert}
use Rattle.cert_tree.specs.declared.certs.Row.{Row}
use Rattle.cert_tree.specs.declared.certs.Row.TheVariants as row
use Rattle.cert_tree.specs.declared.certs.Tree.{Tree}
use Rattle.cert_tree.specs.declared.certs.Tree.TheVariants as node
use Rattle.cert_text.specs.declared.kinds.NodeKind.{NodeKind}
use Rattle.cert_text.specs.declared.kinds.NodeKind.TheVariants.{Case, Combine, Cut, Branch, Residues, Solve, Least, Clash}
use Rattle.cert_text.specs.declared.kinds.RowKind.{RowKind}
use Rattle.cert_text.specs.declared.kinds.RowKind.TheVariants.{Inst, Low}
use Rattle.text_pieces.specs.Languages.{Cat, Blank, Exactly, Times}
use Rattle.text_pieces.specs.Numbers.{Counted}
use Rattle.cert_text.specs.Grammar.{Index, Whole, Modulus, Sum, Multiple, RowWord, RowParts, SpellsRow, row_word, NodeParts, SpellsTree, node_word, cert_of, Spells}
use Rattle.text_pieces.specs.Printing.{Adds}
use Rattle.cert_text.specs.Spelled.{all_yes, tree_is_spelled}
use Rattle.text_pieces.proofs.Adding.{adds-cat, adds-image}
use Rattle.cert_text.proofs.Levels.{from_node}

-- ---- rows
adds-row : (kind : RowKind) (a : Row) (x y z : List ℕ) → y ≡ x ++ row_word kind → Adds (RowParts kind) a y z → Adds SpellsRow a x z
adds-row kind a x y z e r =
    adds-image (λ (p : RowKind × Row). p.1) (Cat RowWord RowParts) (kind, a) x z (adds-cat RowWord RowParts kind a x y z (record { text = row_word kind; spelled = refl; is = e }) r)

pub adds-inst : (clause x : ℕ) (a : ℤ) (t : Lin) (o p q r s u : List ℕ) → p ≡ o ++ codes "inst" → Adds Index clause p q → Adds Index x q r → Adds Whole a r s → Adds Sum t s u → Adds SpellsRow (row.Inst clause x a t) o u
adds-inst clause x a t o p q r s u e c i k l =
    adds-row Inst (row.Inst clause x a t) o p u e
    (adds-image (λ (p : ℕ × (ℕ × (ℤ × Lin))). row.Inst p.0 (p.1.0) (p.1.1.0) (p.1.1.1)) (Cat Index (λ clause. Cat Index (λ x. Cat Whole (λ a. Sum)))) (clause, (x, (a, t))) p u
    (adds-cat Index (λ clause. Cat Index (λ x. Cat Whole (λ a. Sum))) clause (x, (a, t)) p q u c
    (adds-cat Index (λ x. Cat Whole (λ a. Sum)) x (a, t) q r u i (adds-cat Whole (λ a. Sum) a t r s u k l))))

pub adds-low : (clause x : ℕ) (j : ℤ) (o p q r s : List ℕ) → p ≡ o ++ codes "low" → Adds Index clause p q → Adds Index x q r → Adds Whole j r s → Adds SpellsRow (row.Low clause x j) o s
adds-low clause x j o p q r s e c i k =
    adds-row Low (row.Low clause x j) o p s e
    (adds-image (λ (p : ℕ × (ℕ × ℤ)). row.Low p.0 (p.1.0) (p.1.1)) (Cat Index (λ clause. Cat Index (λ x. Whole))) (clause, (x, j)) p s
    (adds-cat Index (λ clause. Cat Index (λ x. Whole)) clause (x, j) p q s c (adds-cat Index (λ x. Whole) x j q r s i k)))

-- ---- trees
adds-node : (kind : NodeKind) (a : Tree) (x y z : List ℕ) → y ≡ x ++ 32 ∷ node_word kind → Adds (NodeParts SpellsTree kind) a y z → Adds (Blank SpellsTree) a x z
adds-node kind a x y z e r = record {
  text = 32 ∷ (node_word kind ++ r.text);
  spelled = record {
    behind = node_word kind ++ r.text;
    spelled = from_node a (node_word kind ++ r.text) (record {
      from = (kind, a);
      is = refl;
      spelled = record { first = node_word kind; second = r.text; first_spelled = refl; second_spelled = r.spelled; joined = refl };
    });
    joined = refl;
  };
  is = r.is ∙ ap (λ t. t ++ r.text) e ∙ append_assoc x (32 ∷ node_word kind) r.text;
}

pub adds-case : (n : ℕ) (ts : List Tree) (o p q r : List ℕ) → p ≡ o ++ codes " case" → Adds Index n p q → Adds (Counted (Blank SpellsTree)) ts q r → Adds (Blank SpellsTree) (node.Case n ts) o r
adds-case n ts o p q r e i t =
    adds-node Case (node.Case n ts) o p r e
    (adds-image (λ (p : ℕ × List Tree). node.Case p.0 p.1) (Cat Index (λ clause. Counted (Blank SpellsTree))) (n, ts) p r (adds-cat Index (λ clause. Counted (Blank SpellsTree)) n ts p q r i t))

pub adds-combine : (list : List (ℕ × ℤ)) (u : Tree) (o p q r : List ℕ) → p ≡ o ++ codes " combine" → Adds (Counted Multiple) list p q → Adds (Blank SpellsTree) u q r → Adds (Blank SpellsTree) (node.Combine list u) o r
adds-combine list u o p q r e i t =
    adds-node Combine (node.Combine list u) o p r e
    (adds-image (λ (p : List (ℕ × ℤ) × Tree). node.Combine p.0 p.1) (Cat (Counted Multiple) (λ list. Blank SpellsTree)) (list, u) p r
    (adds-cat (Counted Multiple) (λ list. Blank SpellsTree) list u p q r i t))

pub adds-cut : (n : ℕ) (u : Tree) (o p q r : List ℕ) → p ≡ o ++ codes " cut" → Adds Index n p q → Adds (Blank SpellsTree) u q r → Adds (Blank SpellsTree) (node.Cut n u) o r
adds-cut n u o p q r e i t =
    adds-node Cut (node.Cut n u) o p r e
    (adds-image (λ (p : ℕ × Tree). node.Cut p.0 p.1) (Cat Index (λ fact. Blank SpellsTree)) (n, u) p r (adds-cat Index (λ fact. Blank SpellsTree) n u p q r i t))

pub adds-branch : (t : Lin) (u v : Tree) (o p q r s : List ℕ) → p ≡ o ++ codes " branch" → Adds Sum t p q → Adds (Blank SpellsTree) u q r → Adds (Blank SpellsTree) v r s → Adds (Blank SpellsTree) (node.Branch t u v) o s
adds-branch t u v o p q r s e i a b =
    adds-node Branch (node.Branch t u v) o p s e
    (adds-image (λ (p : Lin × (Tree × Tree)). node.Branch p.0 (p.1.0) (p.1.1)) (Cat Sum (λ t. Cat (Blank SpellsTree) (λ left. Blank SpellsTree))) (t, (u, v)) p s
    (adds-cat Sum (λ t. Cat (Blank SpellsTree) (λ left. Blank SpellsTree)) t (u, v) p q s i (adds-cat (Blank SpellsTree) (λ left. Blank SpellsTree) u v q r s a b)))

adds-modulus : (k : ℕ) (x y : List ℕ) → Adds Whole (pos k) x y → Adds Modulus k x y
adds-modulus k x y r =
    let w = r.spelled in
    let n = w.spelled in
    record { text = r.text; spelled = record { behind = w.behind; spelled = record { is_in = n.is_in; digits = n.digits }; joined = w.joined }; is = r.is }

pub adds-residues : (m : ℤ) (t : Lin) (ts : List Tree) (o p q r s : List ℕ) → m ≡ pos (length ts) → p ≡ o ++ codes " residues" → Adds Whole m p q → Adds Sum t q r → Adds (Times (Blank SpellsTree) (length ts)) ts r s
    → Adds (Blank SpellsTree) (node.Residues m t ts) o s
adds-residues m t ts o p q r s count e i l c =
    let k = length ts in
    let modulus = adds-modulus k p q (subst (λ z. Adds Whole z p q) count i) in
    subst (λ z. Adds (Blank SpellsTree) (node.Residues z t ts) o s) (sym count)
    (adds-node Residues (node.Residues (pos k) t ts) o p s e
    (adds-image (λ (p : ℕ × (Lin × List Tree)). node.Residues (pos p.0) (p.1.0) (p.1.1)) (Cat Modulus (λ m. Cat Sum (λ t. Times (Blank SpellsTree) m))) (k, (t, ts)) p s
    (adds-cat Modulus (λ m. Cat Sum (λ t. Times (Blank SpellsTree) m)) k (t, ts) p q s modulus (adds-cat Sum (λ t. Times (Blank SpellsTree) k) t ts q r s l c))))

pub adds-solve : (n x : ℕ) (u : Tree) (o p q r s : List ℕ) → p ≡ o ++ codes " solve" → Adds Index n p q → Adds Index x q r → Adds (Blank SpellsTree) u r s → Adds (Blank SpellsTree) (node.Solve n x u) o s
adds-solve n x u o p q r s e i j t =
    adds-node Solve (node.Solve n x u) o p s e
    (adds-image (λ (p : ℕ × (ℕ × Tree)). node.Solve p.0 (p.1.0) (p.1.1)) (Cat Index (λ fact. Cat Index (λ p. Blank SpellsTree))) (n, (x, u)) p s
    (adds-cat Index (λ fact. Cat Index (λ p. Blank SpellsTree)) n (x, u) p q s i (adds-cat Index (λ p. Blank SpellsTree) x u q r s j t)))

pub adds-least : (n : ℕ) (ts : List Tree) (o p q r : List ℕ) → p ≡ o ++ codes " least" → Adds Index n p q → Adds (Counted (Blank SpellsTree)) ts q r → Adds (Blank SpellsTree) (node.Least n ts) o r
adds-least n ts o p q r e i t =
    adds-node Least (node.Least n ts) o p r e
    (adds-image (λ (p : ℕ × List Tree). node.Least p.0 p.1) (Cat Index (λ p. Counted (Blank SpellsTree))) (n, ts) p r (adds-cat Index (λ p. Counted (Blank SpellsTree)) n ts p q r i t))

pub adds-clash : (n : ℕ) (o p q : List ℕ) → p ≡ o ++ codes " clash" → Adds Index n p q → Adds (Blank SpellsTree) (node.Clash n) o q
adds-clash n o p q e i = adds-node Clash (node.Clash n) o p q e (adds-image node.Clash Index n p q i)

-- ---- certificates
pub adds-cert : (c : Cert) (o p q r : List ℕ) → p ≡ o ++ codes "cert" → Adds (Counted (Blank SpellsRow)) c.rows p q → Adds (Blank SpellsTree) c.tree q r → Adds Spells c o r
adds-cert c o p q r e i t =
    adds-image cert_of (Cat (Exactly (codes "cert")) (λ word. Cat (Counted (Blank SpellsRow)) (λ rows. Blank SpellsTree))) (tt, (c.rows, c.tree)) o r
    (adds-cat (Exactly (codes "cert")) (λ word. Cat (Counted (Blank SpellsRow)) (λ rows. Blank SpellsTree)) tt (c.rows, c.tree) o p r (record { text = codes "cert"; spelled = refl; is = e })
    (adds-cat (Counted (Blank SpellsRow)) (λ rows. Blank SpellsTree) c.rows c.tree p q r i t))

-- ---- what the parts of a spelled value are
each_of : {A : Type 0} (test : A → Bool) (xs : List A) → all_yes (map test xs) ≡ list_all test xs
each_of test [] = refl
each_of test (x ∷ xs) = ap (λ b. test x && b) (each_of test xs)

pub each_tree : (ts : List Tree) → IsTrue (all_yes (map tree_is_spelled ts)) → IsTrue (list_all tree_is_spelled ts)
each_tree ts h = sym (each_of tree_is_spelled ts) ∙ h

pub same_out : (n : ℕ) (m : ℤ) → is_same (pos n) m ≡ true → m ≡ pos n
same_out n m h = let z = is_zero_out (pos n -ℤ m) h in omega (arith, ints, z)
