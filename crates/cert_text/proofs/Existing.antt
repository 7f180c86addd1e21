-- Certificates within their ranges that meet the conditions have a spelling.
use Rattle.std.proofs.Common.{◌≡◌, ℕ, suc, ◌-◌, ◌^◌, ℤ, pos, negsuc, Bool, true, List, [], ◌∷◌, ◌++◌, length, map, refl, sym, ap, subst, ◌∙◌, arith}
use Rattle.std.specs.Prelude.{codes, ◌&&◌}
use Rattle.std.specs.List.{list_all}
use Rattle.std.proofs.lemmas.Bool.{and_parts, ltb-true}
use Rattle.std.proofs.lemmas.List.{length-map}
use Rattle.lin_base.specs.declared.sums.Lin.{Lin}
use Rattle.lin_base.specs.Whole.{is_in_range, is_same}
use Rattle.lin_base.specs.Fact.{is_lin}
use Rattle.cert_tree.specs.declared.certs.Cert.{Cert}
use Rattle.cert_tree.specs.declared.certs.Row.{Row}
use Rattle.cert_tree.specs.declared.certs.Row.TheVariants as row
use Rattle.cert_tree.specs.declared.certs.Tree.{Tree}
use Rattle.cert_tree.specs.declared.certs.Tree.TheOpen.{Tree-F}
use Rattle.cert_tree.specs.declared.certs.Tree.TheVariants as node
use Rattle.cert_tree.specs.declared.certs.Tree.TheVariants.{outs-Case, outs-Combine, outs-Cut, outs-Branch, outs-Residues, outs-Solve, outs-Least, outs-Clash}
use Rattle.cert_tree.specs.declared.certs.Tree.TheFolds.{fold_out-Tree, map-Tree}
use Rattle.cert_text.specs.declared.kinds.NodeKind.{NodeKind}
use Rattle.cert_text.specs.declared.kinds.NodeKind.TheVariants.{Case, Combine, Cut, Branch, Residues, Solve, Least, Clash}
use Rattle.cert_text.specs.declared.kinds.RowKind.{RowKind}
use Rattle.cert_text.specs.declared.kinds.RowKind.TheVariants.{Inst, Low}
use Rattle.text_pieces.specs.Languages.{HasSpelling, Cat, Blank, Exactly, Times}
use Rattle.text_pieces.specs.Numbers.{Number, Within, Any, Word32, Signed, Signed128, Counted}
use Rattle.text_pieces.proofs.Having.{has-cat, has-blank, has-image, has-number, has-signed, EachHas, has-times, has-counted}
use Rattle.cert_text.specs.Sums.{Term, Terms, SpellsLin, lin_of}
use Rattle.cert_text.specs.Grammar.{Index, Whole, Modulus, Sum, Multiple, RowWord, RowParts, SpellsRow, row_word, NodeParts, SpellsTree, node_word, cert_of, Spells}
use Rattle.cert_text.specs.Spelled.{all_yes, row_is_spelled, node_is_spelled, tree_is_spelled, is_spelled}
use Rattle.cert_text.specs.Ranges.{is_word32, multiple_fits, lin_fits, row_fits, node_fits, tree_fits, cert_fits}
use Rattle.cert_text.proofs.Ascending.{AscendsFrom, ascends, whole_term}
use Rattle.cert_text.proofs.Levels.{from_node}
use Rattle.cert_text.proofs.Printed.{same_out}
use Rattle.cert_text.proofs.TreeInduction.{Each, tree_induction}

-- ---- numbers
word32_in : (n : ℕ) → is_word32 n ≡ true → Word32 n
word32_in n h = let l = ltb-true n (2 ^ 32) h in record { from_low = omega arith; to_high = omega (arith, l) }

signed_in : (z : ℤ) → is_in_range z ≡ true → Signed128 0 z
signed_in (pos n) h = let l = ltb-true n (2 ^ 127) h in record { from_low = omega arith; to_high = omega (arith, l) }
signed_in (negsuc n) h = let l = ltb-true n (2 ^ 127) h in record { from_low = omega arith; to_high = omega (arith, l) }

has-index : (n : ℕ) → is_word32 n ≡ true → HasSpelling Index n
has-index n h = has-blank (Number Word32) n (has-number Word32 n (word32_in n h))

has-whole : (z : ℤ) → is_in_range z ≡ true → HasSpelling Whole z
has-whole z h = has-blank (Signed (Signed128 0)) z (has-signed (Signed128 0) z (signed_in z h))

has-modulus : (n : ℕ) → is_in_range (pos n) ≡ true → HasSpelling Modulus n
has-modulus n h =
    let l = ltb-true n (2 ^ 127) h in
    has-blank (Number (Within 0 (2 ^ 127 - 1))) n (has-number (Within 0 (2 ^ 127 - 1)) n (record { from_low = omega arith; to_high = omega (arith, l) }))

has-multiple : (e : ℕ × ℤ) → multiple_fits e ≡ true → HasSpelling Multiple e
has-multiple e h = let p = and_parts _ _ h in has-cat Index (λ fact. Whole) (e.0) (e.1) (has-index (e.0) p.0) (has-whole (e.1) p.1)

has-multiples : (es : List (ℕ × ℤ)) → list_all multiple_fits es ≡ true → EachHas Multiple es
has-multiples [] h = tt
has-multiples (e ∷ es) h = let p = and_parts _ _ h in (has-multiple e p.0, has-multiples es p.1)

-- ---- sums
has-terms : (low : ℕ) (ts : List (ℕ × ℤ)) → AscendsFrom low ts → list_all multiple_fits ts ≡ true → HasSpelling (Terms (length ts) low) ts
has-terms low [] a h = record { text = []; spelled = refl }
has-terms low (e ∷ ts) a h =
    let p = and_parts _ _ h in
    let q = and_parts _ _ p.0 in
    let word = word32_in (e.0) q.0 in
    let first : HasSpelling (Term low (2 ^ 32 - 1)) e =
    has-cat (Blank (Number (Within low (2 ^ 32 - 1)))) (λ x. Blank (Signed (Signed128 1))) (e.0) (e.1)
    (has-blank (Number (Within low (2 ^ 32 - 1))) (e.0) (has-number (Within low (2 ^ 32 - 1)) (e.0) (record { from_low = a.0; to_high = word.to_high })))
    (has-blank (Signed (Signed128 1)) (e.1) (has-signed (Signed128 1) (e.1) (whole_term (e.1) a.1.0 (signed_in (e.1) q.1)))) in
    let more = has-terms (suc (e.0)) ts a.1.1 p.1 in
    record { text = first.text ++ more.text; spelled = record { first = first.text; second = more.text; first_spelled = first.spelled; second_spelled = more.spelled; joined = refl } }

has-sum : (t : Lin) → is_lin t ≡ true → lin_fits t ≡ true → HasSpelling Sum t
has-sum t s f =
    let p = and_parts _ _ f in
    let n = length t.coefs in
    has-blank SpellsLin t
    (has-image lin_of (Cat (Number Any) (λ n. Cat (Terms n 0) (λ terms. Blank (Signed (Signed128 0))))) (n, (t.coefs, t.constant))
    (has-cat (Number Any) (λ n. Cat (Terms n 0) (λ terms. Blank (Signed (Signed128 0)))) n (t.coefs, t.constant) (has-number Any n tt)
    (has-cat (Terms n 0) (λ terms. Blank (Signed (Signed128 0))) t.coefs t.constant (has-terms 0 t.coefs (ascends t.coefs s) p.0) (has-whole t.constant p.1))))

-- ---- rows
has-row : (a : Row) → row_is_spelled a ≡ true → row_fits a ≡ true → HasSpelling SpellsRow a
has-row (row.Inst clause x a t) s f =
    let p = and_parts _ _ f in
    let q = and_parts _ _ p.1 in
    let r = and_parts _ _ q.1 in
    has-image (λ (p : RowKind × Row). p.1) (Cat RowWord RowParts) (Inst, row.Inst clause x a t)
    (has-cat RowWord RowParts Inst (row.Inst clause x a t) (record { text = row_word Inst; spelled = refl })
    (has-image (λ (p : ℕ × (ℕ × (ℤ × Lin))). row.Inst p.0 (p.1.0) (p.1.1.0) (p.1.1.1)) (Cat Index (λ clause. Cat Index (λ x. Cat Whole (λ a. Sum)))) (clause, (x, (a, t)))
    (has-cat Index (λ clause. Cat Index (λ x. Cat Whole (λ a. Sum))) clause (x, (a, t)) (has-index clause p.0)
    (has-cat Index (λ x. Cat Whole (λ a. Sum)) x (a, t) (has-index x q.0) (has-cat Whole (λ a. Sum) a t (has-whole a r.0) (has-sum t s r.1))))))
has-row (row.Low clause x j) s f =
    let p = and_parts _ _ f in
    let q = and_parts _ _ p.1 in
    has-image (λ (p : RowKind × Row). p.1) (Cat RowWord RowParts) (Low, row.Low clause x j)
    (has-cat RowWord RowParts Low (row.Low clause x j) (record { text = row_word Low; spelled = refl })
    (has-image (λ (p : ℕ × (ℕ × ℤ)). row.Low p.0 (p.1.0) (p.1.1)) (Cat Index (λ clause. Cat Index (λ x. Whole))) (clause, (x, j))
    (has-cat Index (λ clause. Cat Index (λ x. Whole)) clause (x, j) (has-index clause p.0) (has-cat Index (λ x. Whole) x j (has-index x q.0) (has-whole j q.1)))))

has-rows : (rows : List Row) → list_all row_is_spelled rows ≡ true → list_all row_fits rows ≡ true → EachHas (Blank SpellsRow) rows
has-rows [] s f = tt
has-rows (r ∷ rs) s f =
    let p = and_parts _ _ s in
    let q = and_parts _ _ f in
    (has-blank SpellsRow r (has-row r p.0 q.0), has-rows rs p.1 q.1)

-- ---- trees
abbrev Has : Tree → Type 0
Has t = tree_is_spelled t ≡ true → tree_fits t ≡ true → HasSpelling SpellsTree t

abbrev spelled_layer : Tree-F Tree → Bool
spelled_layer d = node_is_spelled (map-Tree Tree Bool tree_is_spelled d)

abbrev fits_layer : Tree-F Tree → Bool
fits_layer d = node_fits (map-Tree Tree Bool tree_fits d)

has-node : (kind : NodeKind) (a : Tree) → HasSpelling (NodeParts SpellsTree kind) a → HasSpelling SpellsTree a
has-node kind a h = record {
  text = node_word kind ++ h.text;
  spelled = from_node a (node_word kind ++ h.text) (record {
    from = (kind, a);
    is = refl;
    spelled = record { first = node_word kind; second = h.text; first_spelled = refl; second_spelled = h.spelled; joined = refl };
  });
}

has-children : (ts : List Tree) → Each Has ts → all_yes (map tree_is_spelled ts) ≡ true → all_yes (map tree_fits ts) ≡ true → EachHas (Blank SpellsTree) ts
has-children [] e s f = tt
has-children (t ∷ ts) e s f =
    let p = and_parts _ _ s in
    let q = and_parts _ _ f in
    (has-blank SpellsTree t (e.0 p.0 q.0), has-children ts e.1 p.1 q.1)

at_case : (n : ℕ) (ts : List Tree) → Each Has ts → Has (node.Case n ts)
at_case n ts e s f =
    let s1 = sym (fold_out-Tree Bool node_is_spelled (node.Case n ts) ∙ ap spelled_layer (outs-Case n ts)) ∙ s in
    let p = and_parts (is_word32 n) (all_yes (map tree_fits ts)) (sym (fold_out-Tree Bool node_fits (node.Case n ts) ∙ ap fits_layer (outs-Case n ts)) ∙ f) in
    has-node Case (node.Case n ts)
    (has-image (λ (p : ℕ × List Tree). node.Case p.0 p.1) (Cat Index (λ clause. Counted (Blank SpellsTree))) (n, ts)
    (has-cat Index (λ clause. Counted (Blank SpellsTree)) n ts (has-index n p.0) (has-counted (Blank SpellsTree) ts (has-children ts e s1 p.1))))

at_combine : (list : List (ℕ × ℤ)) (u : Tree) → Has u → Has (node.Combine list u)
at_combine list u e s f =
    let s1 = sym (fold_out-Tree Bool node_is_spelled (node.Combine list u) ∙ ap spelled_layer (outs-Combine list u)) ∙ s in
    let p = and_parts (list_all multiple_fits list) (tree_fits u) (sym (fold_out-Tree Bool node_fits (node.Combine list u) ∙ ap fits_layer (outs-Combine list u)) ∙ f) in
    has-node Combine (node.Combine list u)
    (has-image (λ (p : List (ℕ × ℤ) × Tree). node.Combine p.0 p.1) (Cat (Counted Multiple) (λ list. Blank SpellsTree)) (list, u)
    (has-cat (Counted Multiple) (λ list. Blank SpellsTree) list u (has-counted Multiple list (has-multiples list p.0)) (has-blank SpellsTree u (e s1 p.1))))

at_cut : (n : ℕ) (u : Tree) → Has u → Has (node.Cut n u)
at_cut n u e s f =
    let s1 = sym (fold_out-Tree Bool node_is_spelled (node.Cut n u) ∙ ap spelled_layer (outs-Cut n u)) ∙ s in
    let p = and_parts (is_word32 n) (tree_fits u) (sym (fold_out-Tree Bool node_fits (node.Cut n u) ∙ ap fits_layer (outs-Cut n u)) ∙ f) in
    has-node Cut (node.Cut n u)
    (has-image (λ (p : ℕ × Tree). node.Cut p.0 p.1) (Cat Index (λ fact. Blank SpellsTree)) (n, u)
    (has-cat Index (λ fact. Blank SpellsTree) n u (has-index n p.0) (has-blank SpellsTree u (e s1 p.1))))

at_branch : (t : Lin) (u v : Tree) → Has u → Has v → Has (node.Branch t u v)
at_branch t u v d e s f =
    let sp = and_parts (is_lin t) (tree_is_spelled u && tree_is_spelled v) (sym (fold_out-Tree Bool node_is_spelled (node.Branch t u v) ∙ ap spelled_layer (outs-Branch t u v)) ∙ s) in
    let sq = and_parts (tree_is_spelled u) (tree_is_spelled v) sp.1 in
    let p = and_parts (lin_fits t) (tree_fits u && tree_fits v) (sym (fold_out-Tree Bool node_fits (node.Branch t u v) ∙ ap fits_layer (outs-Branch t u v)) ∙ f) in
    let q = and_parts (tree_fits u) (tree_fits v) p.1 in
    has-node Branch (node.Branch t u v)
    (has-image (λ (p : Lin × (Tree × Tree)). node.Branch p.0 (p.1.0) (p.1.1)) (Cat Sum (λ t. Cat (Blank SpellsTree) (λ left. Blank SpellsTree))) (t, (u, v))
    (has-cat Sum (λ t. Cat (Blank SpellsTree) (λ left. Blank SpellsTree)) t (u, v) (has-sum t sp.0 p.0)
    (has-cat (Blank SpellsTree) (λ left. Blank SpellsTree) u v (has-blank SpellsTree u (d sq.0 q.0)) (has-blank SpellsTree v (e sq.1 q.1)))))

at_residues : (m : ℤ) (t : Lin) (ts : List Tree) → Each Has ts → Has (node.Residues m t ts)
at_residues m t ts e s f =
    let k = length ts in
    let sp = and_parts (is_same (pos (length (map tree_is_spelled ts))) m) (is_lin t && all_yes (map tree_is_spelled ts))
    (sym (fold_out-Tree Bool node_is_spelled (node.Residues m t ts) ∙ ap spelled_layer (outs-Residues m t ts)) ∙ s) in
    let sq = and_parts (is_lin t) (all_yes (map tree_is_spelled ts)) sp.1 in
    let p = and_parts (is_in_range m) (lin_fits t && all_yes (map tree_fits ts)) (sym (fold_out-Tree Bool node_fits (node.Residues m t ts) ∙ ap fits_layer (outs-Residues m t ts)) ∙ f) in
    let q = and_parts (lin_fits t) (all_yes (map tree_fits ts)) p.1 in
    let count : m ≡ pos k = same_out (length (map tree_is_spelled ts)) m sp.0 ∙ ap pos (length-map ts tree_is_spelled) in
    let modulus = has-modulus k (ap is_in_range (sym count) ∙ p.0) in
    subst (λ z. HasSpelling SpellsTree (node.Residues z t ts)) (sym count)
    (has-node Residues (node.Residues (pos k) t ts)
    (has-image (λ (p : ℕ × (Lin × List Tree)). node.Residues (pos p.0) (p.1.0) (p.1.1)) (Cat Modulus (λ m. Cat Sum (λ t. Times (Blank SpellsTree) m))) (k, (t, ts))
    (has-cat Modulus (λ m. Cat Sum (λ t. Times (Blank SpellsTree) m)) k (t, ts) modulus
    (has-cat Sum (λ t. Times (Blank SpellsTree) k) t ts (has-sum t sq.0 q.0) (has-times (Blank SpellsTree) ts (has-children ts e sq.1 q.1))))))

at_solve : (n x : ℕ) (u : Tree) → Has u → Has (node.Solve n x u)
at_solve n x u e s f =
    let s1 = sym (fold_out-Tree Bool node_is_spelled (node.Solve n x u) ∙ ap spelled_layer (outs-Solve n x u)) ∙ s in
    let p = and_parts (is_word32 n) (is_word32 x && tree_fits u) (sym (fold_out-Tree Bool node_fits (node.Solve n x u) ∙ ap fits_layer (outs-Solve n x u)) ∙ f) in
    let q = and_parts (is_word32 x) (tree_fits u) p.1 in
    has-node Solve (node.Solve n x u)
    (has-image (λ (p : ℕ × (ℕ × Tree)). node.Solve p.0 (p.1.0) (p.1.1)) (Cat Index (λ fact. Cat Index (λ p. Blank SpellsTree))) (n, (x, u))
    (has-cat Index (λ fact. Cat Index (λ p. Blank SpellsTree)) n (x, u) (has-index n p.0) (has-cat Index (λ p. Blank SpellsTree) x u (has-index x q.0) (has-blank SpellsTree u (e s1 q.1)))))

at_least : (n : ℕ) (ts : List Tree) → Each Has ts → Has (node.Least n ts)
at_least n ts e s f =
    let s1 = sym (fold_out-Tree Bool node_is_spelled (node.Least n ts) ∙ ap spelled_layer (outs-Least n ts)) ∙ s in
    let p = and_parts (is_word32 n) (all_yes (map tree_fits ts)) (sym (fold_out-Tree Bool node_fits (node.Least n ts) ∙ ap fits_layer (outs-Least n ts)) ∙ f) in
    has-node Least (node.Least n ts)
    (has-image (λ (p : ℕ × List Tree). node.Least p.0 p.1) (Cat Index (λ p. Counted (Blank SpellsTree))) (n, ts)
    (has-cat Index (λ p. Counted (Blank SpellsTree)) n ts (has-index n p.0) (has-counted (Blank SpellsTree) ts (has-children ts e s1 p.1))))

at_clash : (n : ℕ) → Has (node.Clash n)
at_clash n s f =
    let p : is_word32 n ≡ true = sym (fold_out-Tree Bool node_fits (node.Clash n) ∙ ap fits_layer (outs-Clash n)) ∙ f in
    has-node Clash (node.Clash n) (has-image node.Clash Index n (has-index n p))

has-tree : (t : Tree) → Has t
has-tree = tree_induction Has at_case at_combine at_cut at_branch at_residues at_solve at_least at_clash

-- ---- certificates
pub has-cert : (a : Cert) → cert_fits a ≡ true → is_spelled a ≡ true → HasSpelling Spells a
has-cert a f s =
    let p = and_parts (list_all row_is_spelled a.rows) (tree_is_spelled a.tree) s in
    let q = and_parts (list_all row_fits a.rows) (tree_fits a.tree) f in
    has-image cert_of (Cat (Exactly (codes "cert")) (λ word. Cat (Counted (Blank SpellsRow)) (λ rows. Blank SpellsTree))) (tt, (a.rows, a.tree))
    (has-cat (Exactly (codes "cert")) (λ word. Cat (Counted (Blank SpellsRow)) (λ rows. Blank SpellsTree)) tt (a.rows, a.tree) (record { text = codes "cert"; spelled = refl })
    (has-cat (Counted (Blank SpellsRow)) (λ rows. Blank SpellsTree) a.rows a.tree (has-counted (Blank SpellsRow) a.rows (has-rows a.rows p.0 q.0)) (has-blank SpellsTree a.tree (has-tree a.tree p.1 q.1))))
