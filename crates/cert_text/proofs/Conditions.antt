-- What has a spelling meets the conditions.
use Rattle.std.proofs.Common.{◌≡◌, ℕ, zero, suc, ◌<◌, ℤ, pos, negsuc, Bool, true, false, List, [], ◌∷◌, length, map, take, refl, ap, ◌∙◌, arith, IsTrue}
use Rattle.std.specs.Prelude.{◌&&◌, nat_lt, not, ◌-ℤ◌}
use Rattle.std.specs.List.{list_all}
use Rattle.std.proofs.lemmas.Bool.{lt-ltb}
use Rattle.std.proofs.lemmas.Int.{ints}
use Rattle.std.proofs.lemmas.List.{length-map}
use Rattle.lin_base.specs.declared.sums.Lin.{Lin}
use Rattle.lin_base.specs.Whole.{is_zero, is_same}
use Rattle.lin_base.specs.Sum.{is_reduced}
use Rattle.lin_base.specs.Fact.{is_ascending, is_lin}
use Rattle.lin_base.proofs.Ring.{is_zero_in, is_zero_out}
use Rattle.cert_tree.specs.declared.certs.Cert.{Cert}
use Rattle.cert_tree.specs.declared.certs.Row.{Row}
use Rattle.cert_tree.specs.declared.certs.Tree.{Tree}
use Rattle.cert_tree.specs.declared.certs.Tree.TheOpen.{Tree-F}
use Rattle.cert_tree.specs.declared.certs.Tree.TheVariants as node
use Rattle.cert_tree.specs.declared.certs.Tree.TheVariants.{outs-Case, outs-Combine, outs-Cut, outs-Branch, outs-Residues, outs-Solve, outs-Least, outs-Clash}
use Rattle.cert_tree.specs.declared.certs.Tree.TheFolds.{fold_out-Tree, map-Tree}
use Rattle.cert_text.specs.declared.kinds.NodeKind.{NodeKind}
use Rattle.cert_text.specs.declared.kinds.NodeKind.TheVariants.{Case, Combine, Cut, Branch, Residues, Solve, Least, Clash}
use Rattle.cert_text.specs.declared.kinds.RowKind.{RowKind}
use Rattle.cert_text.specs.declared.kinds.RowKind.TheVariants.{Inst, Low}
use Rattle.text_pieces.specs.Languages.{Blank, Times}
use Rattle.text_pieces.specs.Numbers.{Signed128}
use Rattle.cert_text.specs.Sums.{Terms, SpellsLin}
use Rattle.cert_text.specs.Grammar.{RowParts, SpellsRow, NodeParts, Node, TreeWithin, Spells}
use Rattle.cert_text.specs.Parsing.{Begins}
use Rattle.cert_text.specs.Spelled.{all_yes, row_is_spelled, node_is_spelled, tree_is_spelled, is_spelled}
use Rattle.text_pieces.proofs.Repeated.{length-times}
use Rattle.cert_text.proofs.Ascending.{AscendsFrom}

and_yes : (a b : Bool) → a ≡ true → b ≡ true → (a && b) ≡ true
and_yes a b e f = ap (λ c. c && b) e ∙ f

-- ---- sums
not_zero : (z : ℤ) → Signed128 1 z → z ≡ pos 0 → ⊥
not_zero (pos zero) h e = let l = h.from_low in absurd (omega (arith, l))
not_zero (pos (suc n)) h e = absurd (omega (arith, ints, e))
not_zero (negsuc n) h e = absurd (omega (arith, ints, e))

not_of : (b : Bool) → (b ≡ true → ⊥) → not b ≡ true
not_of true n = absurd (n refl)
not_of false n = refl

no_zero : (z : ℤ) → (z ≡ pos 0 → ⊥) → not (is_zero z) ≡ true
no_zero z n = not_of (is_zero z) (λ h. n (is_zero_out z h))

ascends_terms : (n low : ℕ) (ts : List (ℕ × ℤ)) (t : List ℕ) → Terms n low ts t → AscendsFrom low ts
ascends_terms zero low [] t s = tt
ascends_terms zero low (e ∷ ts) t s = absurd s
ascends_terms (suc n) low [] t s = absurd s
ascends_terms (suc n) low (e ∷ ts) t s =
    let x = s.first_spelled.first_spelled.spelled in
    let k = s.first_spelled.second_spelled.spelled in
    (x.is_in.from_low, (not_zero (e.1) k.is_in, ascends_terms n (suc (e.0)) ts s.second s.second_spelled))

is_ascending_of : (low : ℕ) (ts : List (ℕ × ℤ)) → AscendsFrom low ts → is_ascending ts ≡ true
is_ascending_of low [] h = refl
is_ascending_of low (e ∷ []) h = refl
is_ascending_of low (e ∷ f ∷ ts) h =
    let above : e.0 < f.0 = omega (arith, h.1.1.0) in
    and_yes (nat_lt e.0 f.0) (is_ascending (f ∷ ts)) (lt-ltb (e.0) (f.0) above) (is_ascending_of (suc (e.0)) (f ∷ ts) h.1.1)

is_reduced_of : (low : ℕ) (ts : List (ℕ × ℤ)) → AscendsFrom low ts → is_reduced ts ≡ true
is_reduced_of low [] h = refl
is_reduced_of low (e ∷ ts) h = and_yes (not (is_zero e.1)) (is_reduced ts) (no_zero (e.1) h.1.0) (is_reduced_of (suc (e.0)) ts h.1.1)

lin_spelled : (a : Lin) (t : List ℕ) → SpellsLin a t → is_lin a ≡ true
lin_spelled a t s =
    let n = s.from.0 in
    let ts = s.from.1.0 in
    let up = ascends_terms n 0 ts s.spelled.second_spelled.first s.spelled.second_spelled.first_spelled in
    ap is_lin s.is ∙ and_yes (is_ascending ts) (is_reduced ts) (is_ascending_of 0 ts up) (is_reduced_of 0 ts up)

-- ---- rows
row_parts_spelled : (kind : RowKind) (a : Row) (t : List ℕ) → RowParts kind a t → row_is_spelled a ≡ true
row_parts_spelled Inst a t s =
    let l = s.spelled.second_spelled.second_spelled.second_spelled in
    ap row_is_spelled s.is ∙ lin_spelled (s.from.1.1.1) l.behind l.spelled
row_parts_spelled Low a t s = ap row_is_spelled s.is

row_spelled : (a : Row) (t : List ℕ) → SpellsRow a t → row_is_spelled a ≡ true
row_spelled a t s =
    let c = s.spelled in
    ap row_is_spelled s.is ∙ row_parts_spelled (s.from.0) (s.from.1) c.second c.second_spelled

rows_spelled : (n : ℕ) (xs : List Row) (t : List ℕ) → Times (Blank SpellsRow) n xs t → list_all row_is_spelled xs ≡ true
rows_spelled zero [] t s = refl
rows_spelled zero (x ∷ xs) t s = absurd s
rows_spelled (suc n) [] t s = absurd s
rows_spelled (suc n) (x ∷ xs) t s = and_yes (row_is_spelled x) (list_all row_is_spelled xs) (row_spelled x s.first_spelled.behind s.first_spelled.spelled) (rows_spelled n xs s.second s.second_spelled)

-- ---- trees
abbrev at_layer : Tree-F Tree → Bool
at_layer d = node_is_spelled (map-Tree Tree Bool tree_is_spelled d)

same_itself : (n : ℕ) → is_same (pos n) (pos n) ≡ true
same_itself n = is_zero_in (pos n -ℤ pos n) (omega (arith, ints))

module _ (L : Tree → List ℕ → Type 0) (l : (a : Tree) (t : List ℕ) → L a t → tree_is_spelled a ≡ true) where
  each_spelled : (n : ℕ) (xs : List Tree) (t : List ℕ) → Times (Blank L) n xs t → all_yes (map tree_is_spelled xs) ≡ true
  each_spelled zero [] t s = refl
  each_spelled zero (x ∷ xs) t s = absurd s
  each_spelled (suc n) [] t s = absurd s
  each_spelled (suc n) (x ∷ xs) t s = and_yes (tree_is_spelled x) (all_yes (map tree_is_spelled xs)) (l x s.first_spelled.behind s.first_spelled.spelled) (each_spelled n xs s.second s.second_spelled)

  parts_spelled : (kind : NodeKind) (a : Tree) (t : List ℕ) → NodeParts L kind a t → tree_is_spelled a ≡ true
  parts_spelled Case a t s =
      let n = s.from.0 in
      let ts = s.from.1 in
      let c = s.spelled.second_spelled in
      ap tree_is_spelled s.is ∙ fold_out-Tree Bool node_is_spelled (node.Case n ts) ∙ ap at_layer (outs-Case n ts)
      ∙ ap (λ us. all_yes (map tree_is_spelled us)) c.is ∙ each_spelled (c.from.0) (c.from.1) c.spelled.second c.spelled.second_spelled
  parts_spelled Combine a t s =
      let n = s.from.0 in
      let u = s.from.1 in
      let b = s.spelled.second_spelled in
      ap tree_is_spelled s.is ∙ fold_out-Tree Bool node_is_spelled (node.Combine n u) ∙ ap at_layer (outs-Combine n u) ∙ l u b.behind b.spelled
  parts_spelled Cut a t s =
      let n = s.from.0 in
      let u = s.from.1 in
      let b = s.spelled.second_spelled in
      ap tree_is_spelled s.is ∙ fold_out-Tree Bool node_is_spelled (node.Cut n u) ∙ ap at_layer (outs-Cut n u) ∙ l u b.behind b.spelled
  parts_spelled Branch a t s =
      let k = s.from.0 in
      let u = s.from.1.0 in
      let v = s.from.1.1 in
      let sum = s.spelled.first_spelled in
      let b = s.spelled.second_spelled.first_spelled in
      let d = s.spelled.second_spelled.second_spelled in
      ap tree_is_spelled s.is ∙ fold_out-Tree Bool node_is_spelled (node.Branch k u v) ∙ ap at_layer (outs-Branch k u v)
      ∙ and_yes (is_lin k) (tree_is_spelled u && tree_is_spelled v) (lin_spelled k sum.behind sum.spelled) (and_yes (tree_is_spelled u) (tree_is_spelled v) (l u b.behind b.spelled) (l v d.behind d.spelled))
  parts_spelled Residues a t s =
      let m = s.from.0 in
      let k = s.from.1.0 in
      let ts = s.from.1.1 in
      let sum = s.spelled.second_spelled.first_spelled in
      let c = s.spelled.second_spelled in
      let count : length (map tree_is_spelled ts) ≡ m = length-map ts tree_is_spelled ∙ length-times (Blank L) m ts c.second c.second_spelled in
      let same : is_same (pos (length (map tree_is_spelled ts))) (pos m) ≡ true = ap (λ n. is_same (pos n) (pos m)) count ∙ same_itself m in
      ap tree_is_spelled s.is ∙ fold_out-Tree Bool node_is_spelled (node.Residues (pos m) k ts) ∙ ap at_layer (outs-Residues (pos m) k ts)
      ∙ and_yes (is_same (pos (length (map tree_is_spelled ts))) (pos m)) (is_lin k && all_yes (map tree_is_spelled ts)) same
      (and_yes (is_lin k) (all_yes (map tree_is_spelled ts)) (lin_spelled k sum.behind sum.spelled) (each_spelled m ts c.second c.second_spelled))
  parts_spelled Solve a t s =
      let n = s.from.0 in
      let p = s.from.1.0 in
      let u = s.from.1.1 in
      let b = s.spelled.second_spelled.second_spelled in
      ap tree_is_spelled s.is ∙ fold_out-Tree Bool node_is_spelled (node.Solve n p u) ∙ ap at_layer (outs-Solve n p u) ∙ l u b.behind b.spelled
  parts_spelled Least a t s =
      let n = s.from.0 in
      let ts = s.from.1 in
      let c = s.spelled.second_spelled in
      ap tree_is_spelled s.is ∙ fold_out-Tree Bool node_is_spelled (node.Least n ts) ∙ ap at_layer (outs-Least n ts)
      ∙ ap (λ us. all_yes (map tree_is_spelled us)) c.is ∙ each_spelled (c.from.0) (c.from.1) c.spelled.second c.spelled.second_spelled
  parts_spelled Clash a t s = ap tree_is_spelled s.is ∙ fold_out-Tree Bool node_is_spelled (node.Clash s.from) ∙ ap at_layer (outs-Clash s.from)

  node_spelled : (a : Tree) (t : List ℕ) → Node L a t → tree_is_spelled a ≡ true
  node_spelled a t s =
      let c = s.spelled in
      ap tree_is_spelled s.is ∙ parts_spelled (s.from.0) (s.from.1) c.second c.second_spelled

within_spelled : (k : ℕ) (a : Tree) (t : List ℕ) → TreeWithin k a t → tree_is_spelled a ≡ true
within_spelled zero a t s = absurd s
within_spelled (suc k) a t s = node_spelled (TreeWithin k) (within_spelled k) a t s

-- ---- certificates
pub cert_spelled : (a : Cert) (t : List ℕ) → Spells a t → is_spelled a ≡ true
cert_spelled a t s =
    let rows = s.from.1.0 in
    let tree = s.from.1.1 in
    let c = s.spelled.second_spelled in
    let r = c.first_spelled in
    let b = c.second_spelled in
    ap is_spelled s.is
    ∙ and_yes (list_all row_is_spelled rows) (tree_is_spelled tree) (ap (list_all row_is_spelled) r.is ∙ rows_spelled (r.from.0) (r.from.1) r.spelled.second r.spelled.second_spelled)
    (within_spelled b.spelled.levels tree b.behind b.spelled.within)

pub begun_spelled : (a : Cert) (n : ℕ) (bytes : List ℕ) → Begins a n bytes → IsTrue (is_spelled a)
begun_spelled a n bytes b = cert_spelled a (take n bytes) b.spelled
