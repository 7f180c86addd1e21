-- What has a spelling is within the ranges.
use Rattle.std.proofs.Common.{◌≡◌, ℕ, zero, suc, ◌-◌, ◌^◌, ℤ, pos, negsuc, Bool, true, List, [], ◌∷◌, map, refl, ap, ◌∙◌, arith}
use Rattle.std.specs.Prelude.{◌&&◌}
use Rattle.std.specs.List.{list_all}
use Rattle.std.proofs.lemmas.Bool.{lt-ltb, and_from}
use Rattle.lin_base.specs.declared.sums.Lin.{Lin}
use Rattle.lin_base.specs.Whole.{is_in_range}
use Rattle.cert_tree.specs.declared.certs.Cert.{Cert}
use Rattle.cert_tree.specs.declared.certs.Row.{Row}
use Rattle.cert_tree.specs.declared.certs.Tree.{Tree}
use Rattle.cert_tree.specs.declared.certs.Tree.TheOpen.{Tree-F}
use Rattle.cert_tree.specs.declared.certs.Tree.TheVariants as node
use Rattle.cert_tree.specs.declared.certs.Tree.TheVariants.{outs-Case, outs-Combine, outs-Cut, outs-Branch, outs-Residues, outs-Solve, outs-Least, outs-Clash}
use Rattle.cert_tree.specs.declared.certs.Tree.TheFolds.{fold_out-Tree, map-Tree}
use Rattle.cert_text.specs.declared.kinds.NodeKind.{NodeKind}
use Rattle.cert_text.specs.declared.kinds.NodeKind.TheVariants.{Case, Combine, Cut, Branch, Residues, Solve, Least, Clash}
use Rattle.cert_text.specs.declared.kinds.RowKind.{RowKind}
use Rattle.cert_text.specs.declared.kinds.RowKind.TheVariants.{Inst, Low}
use Rattle.text_pieces.specs.Languages.{Blank, Times}
use Rattle.text_pieces.specs.Numbers.{Within, Signed128}
use Rattle.cert_text.specs.Sums.{Terms, SpellsLin}
use Rattle.cert_text.specs.Grammar.{Index, Whole, Multiple, Sum, RowParts, SpellsRow, NodeParts, Node, TreeWithin, Spells}
use Rattle.cert_text.specs.Spelled.{all_yes}
use Rattle.cert_text.specs.Ranges.{is_word32, multiple_fits, lin_fits, row_fits, node_fits, tree_fits, cert_fits}

-- ---- numbers
word_fits : (low n : ℕ) → Within low (2 ^ 32 - 1) n → is_word32 n ≡ true
word_fits low n h = let l = h.to_high in lt-ltb n (2 ^ 32) (omega (arith, l))

signed_fits : (least : ℕ) (z : ℤ) → Signed128 least z → is_in_range z ≡ true
signed_fits least (pos n) h = let l = h.to_high in lt-ltb n (2 ^ 127) (omega (arith, l))
signed_fits least (negsuc n) h = let l = h.to_high in lt-ltb n (2 ^ 127) (omega (arith, l))

index_fits : (n : ℕ) (t : List ℕ) → Index n t → is_word32 n ≡ true
index_fits n t s = word_fits 0 n s.spelled.is_in

whole_fits : (z : ℤ) (t : List ℕ) → Whole z t → is_in_range z ≡ true
whole_fits z t s = signed_fits 0 z s.spelled.is_in

multiple_is : (e : ℕ × ℤ) (t : List ℕ) → Multiple e t → multiple_fits e ≡ true
multiple_is e t s = and_from (is_word32 e.0) (is_in_range e.1) (index_fits (e.0) s.first s.first_spelled) (whole_fits (e.1) s.second s.second_spelled)

all_fit : {A : Type 0} (L : A → List ℕ → Type 0) (fits : A → Bool) → ((a : A) (t : List ℕ) → L a t → fits a ≡ true) → (n : ℕ) (xs : List A) (t : List ℕ) → Times L n xs t → list_all fits xs ≡ true
all_fit L fits l zero [] t s = refl
all_fit L fits l zero (x ∷ xs) t s = absurd s
all_fit L fits l (suc n) [] t s = absurd s
all_fit L fits l (suc n) (x ∷ xs) t s = and_from (fits x) (list_all fits xs) (l x s.first s.first_spelled) (all_fit L fits l n xs s.second s.second_spelled)

-- ---- sums
terms_fit : (n low : ℕ) (ts : List (ℕ × ℤ)) (t : List ℕ) → Terms n low ts t → list_all multiple_fits ts ≡ true
terms_fit zero low [] t s = refl
terms_fit zero low (e ∷ ts) t s = absurd s
terms_fit (suc n) low [] t s = absurd s
terms_fit (suc n) low (e ∷ ts) t s =
    let x = s.first_spelled.first_spelled.spelled in
    let k = s.first_spelled.second_spelled.spelled in
    and_from (multiple_fits e) (list_all multiple_fits ts) (and_from (is_word32 e.0) (is_in_range e.1) (word_fits low (e.0) x.is_in) (signed_fits 1 (e.1) k.is_in)) (terms_fit n (suc (e.0)) ts s.second s.second_spelled)

lin_is : (a : Lin) (t : List ℕ) → SpellsLin a t → lin_fits a ≡ true
lin_is a t s =
    let n = s.from.0 in
    let ts = s.from.1.0 in
    let k = s.from.1.1 in
    let c = s.spelled.second_spelled in
    ap lin_fits s.is ∙ and_from (list_all multiple_fits ts) (is_in_range k) (terms_fit n 0 ts c.first c.first_spelled) (whole_fits k c.second c.second_spelled)

sum_is : (a : Lin) (t : List ℕ) → Sum a t → lin_fits a ≡ true
sum_is a t s = lin_is a s.behind s.spelled

-- ---- rows
row_parts_fit : (kind : RowKind) (a : Row) (t : List ℕ) → RowParts kind a t → row_fits a ≡ true
row_parts_fit Inst a t s =
    let clause = s.from.0 in
    let x = s.from.1.0 in
    let k = s.from.1.1.0 in
    let u = s.from.1.1.1 in
    let c = s.spelled in
    let d = c.second_spelled in
    let e = d.second_spelled in
    ap row_fits s.is
    ∙ and_from (is_word32 clause) (is_word32 x && (is_in_range k && lin_fits u)) (index_fits clause c.first c.first_spelled)
    (and_from (is_word32 x) (is_in_range k && lin_fits u) (index_fits x d.first d.first_spelled) (and_from (is_in_range k) (lin_fits u) (whole_fits k e.first e.first_spelled) (sum_is u e.second e.second_spelled)))
row_parts_fit Low a t s =
    let clause = s.from.0 in
    let x = s.from.1.0 in
    let j = s.from.1.1 in
    let c = s.spelled in
    let d = c.second_spelled in
    ap row_fits s.is
    ∙ and_from (is_word32 clause) (is_word32 x && is_in_range j) (index_fits clause c.first c.first_spelled) (and_from (is_word32 x) (is_in_range j) (index_fits x d.first d.first_spelled) (whole_fits j d.second d.second_spelled))

row_is : (a : Row) (t : List ℕ) → Blank SpellsRow a t → row_fits a ≡ true
row_is a t b =
    let s = b.spelled in
    let c = s.spelled in
    ap row_fits s.is ∙ row_parts_fit (s.from.0) (s.from.1) c.second c.second_spelled

-- ---- trees
abbrev at_layer : Tree-F Tree → Bool
at_layer d = node_fits (map-Tree Tree Bool tree_fits d)

module _ (L : Tree → List ℕ → Type 0) (l : (a : Tree) (t : List ℕ) → L a t → tree_fits a ≡ true) where
  child : (a : Tree) (t : List ℕ) → Blank L a t → tree_fits a ≡ true
  child a t s = l a s.behind s.spelled

  children : (n : ℕ) (xs : List Tree) (t : List ℕ) → Times (Blank L) n xs t → all_yes (map tree_fits xs) ≡ true
  children zero [] t s = refl
  children zero (x ∷ xs) t s = absurd s
  children (suc n) [] t s = absurd s
  children (suc n) (x ∷ xs) t s = and_from (tree_fits x) (all_yes (map tree_fits xs)) (child x s.first s.first_spelled) (children n xs s.second s.second_spelled)

  parts_fit : (kind : NodeKind) (a : Tree) (t : List ℕ) → NodeParts L kind a t → tree_fits a ≡ true
  parts_fit Case a t s =
      let n = s.from.0 in
      let ts = s.from.1 in
      let c = s.spelled in
      let d = c.second_spelled in
      ap tree_fits s.is ∙ fold_out-Tree Bool node_fits (node.Case n ts) ∙ ap at_layer (outs-Case n ts)
      ∙ and_from (is_word32 n) (all_yes (map tree_fits ts)) (index_fits n c.first c.first_spelled) (ap (λ us. all_yes (map tree_fits us)) d.is ∙ children (d.from.0) (d.from.1) d.spelled.second d.spelled.second_spelled)
  parts_fit Combine a t s =
      let list = s.from.0 in
      let u = s.from.1 in
      let c = s.spelled in
      let d = c.first_spelled in
      ap tree_fits s.is ∙ fold_out-Tree Bool node_fits (node.Combine list u) ∙ ap at_layer (outs-Combine list u)
      ∙ and_from (list_all multiple_fits list) (tree_fits u) (ap (list_all multiple_fits) d.is ∙ all_fit Multiple multiple_fits multiple_is (d.from.0) (d.from.1) d.spelled.second d.spelled.second_spelled) (child u c.second c.second_spelled)
  parts_fit Cut a t s =
      let n = s.from.0 in
      let u = s.from.1 in
      let c = s.spelled in
      ap tree_fits s.is ∙ fold_out-Tree Bool node_fits (node.Cut n u) ∙ ap at_layer (outs-Cut n u) ∙ and_from (is_word32 n) (tree_fits u) (index_fits n c.first c.first_spelled) (child u c.second c.second_spelled)
  parts_fit Branch a t s =
      let k = s.from.0 in
      let u = s.from.1.0 in
      let v = s.from.1.1 in
      let c = s.spelled in
      let d = c.second_spelled in
      ap tree_fits s.is ∙ fold_out-Tree Bool node_fits (node.Branch k u v) ∙ ap at_layer (outs-Branch k u v)
      ∙ and_from (lin_fits k) (tree_fits u && tree_fits v) (sum_is k c.first c.first_spelled) (and_from (tree_fits u) (tree_fits v) (child u d.first d.first_spelled) (child v d.second d.second_spelled))
  parts_fit Residues a t s =
      let m = s.from.0 in
      let k = s.from.1.0 in
      let ts = s.from.1.1 in
      let c = s.spelled in
      let d = c.second_spelled in
      let high = c.first_spelled.spelled.is_in.to_high in
      ap tree_fits s.is ∙ fold_out-Tree Bool node_fits (node.Residues (pos m) k ts) ∙ ap at_layer (outs-Residues (pos m) k ts)
      ∙ and_from (is_in_range (pos m)) (lin_fits k && all_yes (map tree_fits ts)) (lt-ltb m (2 ^ 127) (omega (arith, high)))
      (and_from (lin_fits k) (all_yes (map tree_fits ts)) (sum_is k d.first d.first_spelled) (children m ts d.second d.second_spelled))
  parts_fit Solve a t s =
      let n = s.from.0 in
      let p = s.from.1.0 in
      let u = s.from.1.1 in
      let c = s.spelled in
      let d = c.second_spelled in
      ap tree_fits s.is ∙ fold_out-Tree Bool node_fits (node.Solve n p u) ∙ ap at_layer (outs-Solve n p u)
      ∙ and_from (is_word32 n) (is_word32 p && tree_fits u) (index_fits n c.first c.first_spelled) (and_from (is_word32 p) (tree_fits u) (index_fits p d.first d.first_spelled) (child u d.second d.second_spelled))
  parts_fit Least a t s =
      let n = s.from.0 in
      let ts = s.from.1 in
      let c = s.spelled in
      let d = c.second_spelled in
      ap tree_fits s.is ∙ fold_out-Tree Bool node_fits (node.Least n ts) ∙ ap at_layer (outs-Least n ts)
      ∙ and_from (is_word32 n) (all_yes (map tree_fits ts)) (index_fits n c.first c.first_spelled) (ap (λ us. all_yes (map tree_fits us)) d.is ∙ children (d.from.0) (d.from.1) d.spelled.second d.spelled.second_spelled)
  parts_fit Clash a t s = ap tree_fits s.is ∙ fold_out-Tree Bool node_fits (node.Clash s.from) ∙ ap at_layer (outs-Clash s.from) ∙ index_fits s.from t s.spelled

  node_is : (a : Tree) (t : List ℕ) → Node L a t → tree_fits a ≡ true
  node_is a t s =
      let c = s.spelled in
      ap tree_fits s.is ∙ parts_fit (s.from.0) (s.from.1) c.second c.second_spelled

within_fits : (k : ℕ) (a : Tree) (t : List ℕ) → TreeWithin k a t → tree_fits a ≡ true
within_fits zero a t s = absurd s
within_fits (suc k) a t s = node_is (TreeWithin k) (within_fits k) a t s

-- ---- certificates
pub spelled_fits : (a : Cert) (t : List ℕ) → Spells a t → cert_fits a ≡ true
spelled_fits a t s =
    let rows = s.from.1.0 in
    let tree = s.from.1.1 in
    let c = s.spelled.second_spelled in
    let r = c.first_spelled in
    let b = c.second_spelled in
    ap cert_fits s.is
    ∙ and_from (list_all row_fits rows) (tree_fits tree) (ap (list_all row_fits) r.is ∙ all_fit (Blank SpellsRow) row_fits row_is (r.from.0) (r.from.1) r.spelled.second r.spelled.second_spelled)
    (within_fits b.spelled.levels tree b.behind b.spelled.within)
