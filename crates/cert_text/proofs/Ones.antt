-- A certificate has one spelling.
use Rattle.std.proofs.Common.{◌≡◌, ℕ, zero, suc, ◌-◌, ◌^◌, ℤ, pos, List, [], ◌∷◌, ◌++◌, length, map, refl, sym, ap, ◌∙◌}
use Rattle.std.specs.Prelude.{codes}
use Rattle.std.proofs.lemmas.List.{length-map}
use Rattle.lin_base.specs.declared.sums.Lin.{Lin}
use Rattle.cert_tree.specs.declared.certs.Cert.{Cert}
use Rattle.cert_tree.specs.declared.certs.Row.{Row}
use Rattle.cert_tree.specs.declared.certs.Row.TheVariants as row
use Rattle.cert_tree.specs.declared.certs.Tree.{Tree}
use Rattle.cert_tree.specs.declared.certs.Tree.TheOpen as open_tree
use Rattle.cert_tree.specs.declared.certs.Tree.TheOpen.{Tree-F}
use Rattle.cert_tree.specs.declared.certs.Tree.TheVariants as node
use Rattle.cert_tree.specs.declared.certs.Tree.TheVariants.{outs-Case, outs-Combine, outs-Cut, outs-Branch, outs-Residues, outs-Solve, outs-Least, outs-Clash}
use Rattle.cert_tree.specs.declared.certs.Tree.TheFolds.{fold-Tree, fold_out-Tree, map-Tree}
use Rattle.cert_text.specs.declared.kinds.NodeKind.{NodeKind}
use Rattle.cert_text.specs.declared.kinds.NodeKind.TheVariants.{Case, Combine, Cut, Branch, Residues, Solve, Least, Clash}
use Rattle.cert_text.specs.declared.kinds.RowKind.{RowKind}
use Rattle.cert_text.specs.declared.kinds.RowKind.TheVariants.{Inst, Low}
use Rattle.text_pieces.specs.Decimals.{decimal, signed_decimal}
use Rattle.text_pieces.specs.Languages.{Cat, Blank, Exactly, Times}
use Rattle.text_pieces.specs.Numbers.{Number, Within, Any, Signed, Signed128, Counted}
use Rattle.cert_text.specs.Sums.{Terms, SpellsLin}
use Rattle.cert_text.specs.Grammar.{Index, Whole, Modulus, Sum, Multiple, RowParts, SpellsRow, row_word, NodeParts, Node, TreeWithin, SpellsTree, node_word, Spells}
use Rattle.text_pieces.proofs.OneText.{Texts, text-cat, text-blank, text-number, text-signed, each_text, text-times, counted_text, text-counted}

-- ---- parts
abbrev index_text : ℕ → List ℕ
index_text n = 32 ∷ decimal n

abbrev whole_text : ℤ → List ℕ
whole_text z = 32 ∷ signed_decimal z

text-index : (In : ℕ → Type 0) → Texts (Blank (Number In)) index_text
text-index In = text-blank (Number In) decimal (text-number In)

text-whole : (In : ℤ → Type 0) → Texts (Blank (Signed In)) whole_text
text-whole In = text-blank (Signed In) signed_decimal (text-signed In)

abbrev multiple_text : ℕ × ℤ → List ℕ
multiple_text p = index_text p.0 ++ whole_text p.1

text-multiple : Texts Multiple multiple_text
text-multiple = text-cat Index (λ n. Whole) index_text (λ n. whole_text) (text-index _) (λ n. text-whole _)

text-terms : (n low : ℕ) → Texts (Terms n low) (each_text multiple_text)
text-terms zero low [] t s = s
text-terms zero low (x ∷ xs) t s = absurd s
text-terms (suc n) low [] t s = absurd s
text-terms (suc n) low (x ∷ xs) t s =
    let first : s.first ≡ multiple_text x = text-cat (Blank (Number (Within low (2 ^ 32 - 1)))) (λ y. Blank (Signed (Signed128 1))) index_text (λ y. whole_text) (text-index (Within low (2 ^ 32 - 1)))
    (λ y. text-whole (Signed128 1)) x s.first s.first_spelled in
    s.joined ∙ ap (λ z. z ++ s.second) first ∙ ap (λ z. multiple_text x ++ z) (text-terms n (suc (x.0)) xs s.second s.second_spelled)

length-terms : (n low : ℕ) (ts : List (ℕ × ℤ)) (t : List ℕ) → Terms n low ts t → length ts ≡ n
length-terms zero low [] t s = refl
length-terms zero low (x ∷ xs) t s = absurd s
length-terms (suc n) low [] t s = absurd s
length-terms (suc n) low (x ∷ xs) t s = ap suc (length-terms n (suc (x.0)) xs s.second s.second_spelled)

abbrev lin_text : Lin → List ℕ
lin_text t = decimal (length t.coefs) ++ (each_text multiple_text t.coefs ++ whole_text t.constant)

text-lin : Texts SpellsLin lin_text
text-lin a t s =
    let c = s.spelled in
    let n = s.from.0 in
    let ts = s.from.1.0 in
    let count : n ≡ length ts = sym (length-terms n 0 ts c.second_spelled.first c.second_spelled.first_spelled) in
    text-cat (Number Any) (λ n. Cat (Terms n 0) (λ terms. Blank (Signed (Signed128 0)))) decimal (λ n p. each_text multiple_text p.0 ++ whole_text p.1) (text-number Any)
    (λ n. text-cat (Terms n 0) (λ terms. Blank (Signed (Signed128 0))) (each_text multiple_text) (λ terms. whole_text) (text-terms n 0) (λ terms. text-whole (Signed128 0))) s.from t c
    ∙ ap (λ k. decimal k ++ (each_text multiple_text ts ++ whole_text (s.from.1.1))) count ∙ ap lin_text (sym s.is)

abbrev sum_text : Lin → List ℕ
sum_text t = 32 ∷ lin_text t

text-sum : Texts Sum sum_text
text-sum = text-blank SpellsLin lin_text text-lin

-- ---- rows
abbrev row_text : Row → List ℕ
row_text (row.Inst clause x a t) = codes "inst" ++ (index_text clause ++ (index_text x ++ (whole_text a ++ sum_text t)))
row_text (row.Low clause x j) = codes "low" ++ (index_text clause ++ (index_text x ++ whole_text j))

row_is : (kind : RowKind) (a : Row) (t : List ℕ) → RowParts kind a t → row_word kind ++ t ≡ row_text a
row_is Inst a t s =
    ap (λ z. codes "inst" ++ z) (text-cat Index (λ c. Cat Index (λ x. Cat Whole (λ a. Sum))) index_text (λ c p. index_text p.0 ++ (whole_text (p.1.0) ++ sum_text (p.1.1))) (text-index _)
    (λ c. text-cat Index (λ x. Cat Whole (λ a. Sum)) index_text (λ x p. whole_text p.0 ++ sum_text p.1) (text-index _)
    (λ x. text-cat Whole (λ a. Sum) whole_text (λ a. sum_text) (text-whole _) (λ a. text-sum))) s.from t s.spelled)
    ∙ ap row_text (sym s.is)
row_is Low a t s =
    ap (λ z. codes "low" ++ z) (text-cat Index (λ c. Cat Index (λ x. Whole)) index_text (λ c p. index_text p.0 ++ whole_text p.1) (text-index _)
    (λ c. text-cat Index (λ x. Whole) index_text (λ x. whole_text) (text-index _) (λ x. text-whole _)) s.from t s.spelled)
    ∙ ap row_text (sym s.is)

text-row : Texts SpellsRow row_text
text-row a t s =
    let c = s.spelled in
    c.joined ∙ ap (λ z. z ++ c.second) c.first_spelled ∙ row_is s.from.0 s.from.1 c.second c.second_spelled ∙ ap row_text (sym s.is)

-- ---- trees
abbrev behind : List ℕ → List ℕ
behind t = 32 ∷ t

abbrev node_text : Tree-F (List ℕ) → List ℕ
node_text (open_tree.Case n ts) = codes "case" ++ (index_text n ++ counted_text behind ts)
node_text (open_tree.Combine list t) = codes "combine" ++ (counted_text multiple_text list ++ behind t)
node_text (open_tree.Cut n t) = codes "cut" ++ (index_text n ++ behind t)
node_text (open_tree.Branch u l r) = codes "branch" ++ (sum_text u ++ (behind l ++ behind r))
node_text (open_tree.Residues m u ts) = codes "residues" ++ (whole_text m ++ (sum_text u ++ each_text behind ts))
node_text (open_tree.Solve n p t) = codes "solve" ++ (index_text n ++ (index_text p ++ behind t))
node_text (open_tree.Least p ts) = codes "least" ++ (index_text p ++ counted_text behind ts)
node_text (open_tree.Clash n) = codes "clash" ++ index_text n

abbrev tree_text : Tree → List ℕ
tree_text = fold-Tree (List ℕ) node_text

abbrev at_layer : Tree-F Tree → List ℕ
at_layer d = node_text (map-Tree Tree (List ℕ) tree_text d)

each-map : (ts : List Tree) → each_text behind (map tree_text ts) ≡ each_text (λ a. behind (tree_text a)) ts
each-map [] = refl
each-map (t ∷ ts) = ap (λ z. behind (tree_text t) ++ z) (each-map ts)

counted-map : (ts : List Tree) → counted_text behind (map tree_text ts) ≡ counted_text (λ a. behind (tree_text a)) ts
counted-map ts = ap (λ n. (32 ∷ decimal n) ++ each_text behind (map tree_text ts)) (length-map ts tree_text) ∙ ap (λ z. (32 ∷ decimal (length ts)) ++ z) (each-map ts)

module _ (L : Tree → List ℕ → Type 0) (l : Texts L tree_text) where
  child : Texts (Blank L) (λ a. behind (tree_text a))
  child = text-blank L tree_text l

  children : Texts (Counted (Blank L)) (counted_text (λ a. behind (tree_text a)))
  children = text-counted (Blank L) (λ a. behind (tree_text a)) child

  node_is : (kind : NodeKind) (a : Tree) (t : List ℕ) → NodeParts L kind a t → node_word kind ++ t ≡ tree_text a
  node_is Case a t s =
      let n = s.from.0 in
      let ts = s.from.1 in
      ap (λ z. codes "case" ++ z) (text-cat Index (λ c. Counted (Blank L)) index_text (λ c. counted_text (λ a. behind (tree_text a))) (text-index _) (λ c. children) s.from t s.spelled
      ∙ ap (λ z. index_text n ++ z) (sym (counted-map ts)))
      ∙ sym (fold_out-Tree (List ℕ) node_text (node.Case n ts) ∙ ap at_layer (outs-Case n ts)) ∙ ap tree_text (sym s.is)
  node_is Combine a t s =
      let n = s.from.0 in
      let u = s.from.1 in
      ap (λ z. codes "combine" ++ z) (text-cat (Counted Multiple) (λ c. Blank L) (counted_text multiple_text) (λ c a. behind (tree_text a)) (text-counted Multiple multiple_text text-multiple) (λ c. child) s.from t s.spelled)
      ∙ sym (fold_out-Tree (List ℕ) node_text (node.Combine n u) ∙ ap at_layer (outs-Combine n u)) ∙ ap tree_text (sym s.is)
  node_is Cut a t s =
      let n = s.from.0 in
      let u = s.from.1 in
      ap (λ z. codes "cut" ++ z) (text-cat Index (λ c. Blank L) index_text (λ c a. behind (tree_text a)) (text-index _) (λ c. child) s.from t s.spelled)
      ∙ sym (fold_out-Tree (List ℕ) node_text (node.Cut n u) ∙ ap at_layer (outs-Cut n u)) ∙ ap tree_text (sym s.is)
  node_is Branch a t s =
      let n = s.from.0 in
      let u = s.from.1.0 in
      let v = s.from.1.1 in
      ap (λ z. codes "branch" ++ z) (text-cat Sum (λ c. Cat (Blank L) (λ d. Blank L)) sum_text (λ c p. behind (tree_text p.0) ++ behind (tree_text p.1)) text-sum
      (λ c. text-cat (Blank L) (λ d. Blank L) (λ a. behind (tree_text a)) (λ d a. behind (tree_text a)) child (λ d. child)) s.from t s.spelled)
      ∙ sym (fold_out-Tree (List ℕ) node_text (node.Branch n u v) ∙ ap at_layer (outs-Branch n u v)) ∙ ap tree_text (sym s.is)
  node_is Residues a t s =
      let m = s.from.0 in
      let u = s.from.1.0 in
      let ts = s.from.1.1 in
      ap (λ z. codes "residues" ++ z) (text-cat Modulus (λ c. Cat Sum (λ d. Times (Blank L) c)) index_text (λ c p. sum_text p.0 ++ each_text (λ a. behind (tree_text a)) p.1) (text-index _)
      (λ c. text-cat Sum (λ d. Times (Blank L) c) sum_text (λ d. each_text (λ a. behind (tree_text a))) text-sum (λ d. text-times (Blank L) (λ a. behind (tree_text a)) child c)) s.from t s.spelled
      ∙ ap (λ z. index_text m ++ (sum_text u ++ z)) (sym (each-map ts)))
      ∙ sym (fold_out-Tree (List ℕ) node_text (node.Residues (pos m) u ts) ∙ ap at_layer (outs-Residues (pos m) u ts)) ∙ ap tree_text (sym s.is)
  node_is Solve a t s =
      let n = s.from.0 in
      let p = s.from.1.0 in
      let u = s.from.1.1 in
      ap (λ z. codes "solve" ++ z) (text-cat Index (λ c. Cat Index (λ d. Blank L)) index_text (λ c p. index_text p.0 ++ behind (tree_text p.1)) (text-index _)
      (λ c. text-cat Index (λ d. Blank L) index_text (λ d a. behind (tree_text a)) (text-index _) (λ d. child)) s.from t s.spelled)
      ∙ sym (fold_out-Tree (List ℕ) node_text (node.Solve n p u) ∙ ap at_layer (outs-Solve n p u)) ∙ ap tree_text (sym s.is)
  node_is Least a t s =
      let n = s.from.0 in
      let ts = s.from.1 in
      ap (λ z. codes "least" ++ z) (text-cat Index (λ c. Counted (Blank L)) index_text (λ c. counted_text (λ a. behind (tree_text a))) (text-index _) (λ c. children) s.from t s.spelled
      ∙ ap (λ z. index_text n ++ z) (sym (counted-map ts)))
      ∙ sym (fold_out-Tree (List ℕ) node_text (node.Least n ts) ∙ ap at_layer (outs-Least n ts)) ∙ ap tree_text (sym s.is)
  node_is Clash a t s =
      ap (λ z. codes "clash" ++ z) (text-index _ s.from t s.spelled)
      ∙ sym (fold_out-Tree (List ℕ) node_text (node.Clash s.from) ∙ ap at_layer (outs-Clash s.from)) ∙ ap tree_text (sym s.is)

  text-node : Texts (Node L) tree_text
  text-node a t s =
      let c = s.spelled in
      c.joined ∙ ap (λ z. z ++ c.second) c.first_spelled ∙ node_is s.from.0 s.from.1 c.second c.second_spelled ∙ ap tree_text (sym s.is)

text-within : (k : ℕ) → Texts (TreeWithin k) tree_text
text-within zero a t s = absurd s
text-within (suc k) a t s = text-node (TreeWithin k) (text-within k) a t s

text-tree : Texts SpellsTree tree_text
text-tree a t s = text-within s.levels a t s.within

-- ---- certificates
abbrev rows_text : List Row → List ℕ
rows_text = counted_text (λ r. 32 ∷ row_text r)

abbrev pub cert_text : Cert → List ℕ
cert_text c = codes "cert" ++ (rows_text c.rows ++ (32 ∷ tree_text c.tree))

pub text-cert : (a : Cert) (t : List ℕ) → Spells a t → t ≡ cert_text a
text-cert a t s =
    text-cat (Exactly (codes "cert")) (λ w. Cat (Counted (Blank SpellsRow)) (λ r. Blank SpellsTree)) (λ w. codes "cert") (λ w p. rows_text p.0 ++ (32 ∷ tree_text p.1)) (λ w t e. e)
    (λ w. text-cat (Counted (Blank SpellsRow)) (λ r. Blank SpellsTree) rows_text (λ r a. 32 ∷ tree_text a) (text-counted (Blank SpellsRow) (λ r. 32 ∷ row_text r) (text-blank SpellsRow row_text text-row))
    (λ r. text-blank SpellsTree tree_text text-tree)) s.from t s.spelled
    ∙ ap cert_text (sym s.is)

pub one_text : (a : Cert) (t u : List ℕ) → Spells a t → Spells a u → t ≡ u
one_text a t u s r = text-cert a t s ∙ sym (text-cert a u r)
