-- The grammar of certificates. One blank stands between two parts, and in front of each part behind a word.
use Rattle.std.specs.Prelude.{◌≡◌, ℕ, zero, suc, ◌-◌, ◌^◌, ℤ, pos, List, codes}
use Rattle.lin_base.specs.declared.sums.Lin.{Lin}
use Rattle.cert_tree.specs.declared.certs.Cert.{Cert}
use Rattle.cert_tree.specs.declared.certs.Row.{Row}
use Rattle.cert_tree.specs.declared.certs.Row.TheVariants as row
use Rattle.cert_tree.specs.declared.certs.Tree.{Tree}
use Rattle.cert_tree.specs.declared.certs.Tree.TheVariants as node
use Rattle.cert_text.specs.declared.kinds.NodeKind.{NodeKind}
use Rattle.cert_text.specs.declared.kinds.NodeKind.TheVariants.{Case, Combine, Cut, Branch, Residues, Solve, Least, Clash}
use Rattle.cert_text.specs.declared.kinds.RowKind.{RowKind}
use Rattle.cert_text.specs.declared.kinds.RowKind.TheVariants.{Inst, Low}
use Rattle.text_pieces.specs.Languages.{Cat, Blank, Image, Exactly, Times}
use Rattle.text_pieces.specs.Numbers.{Number, Within, Word32, Signed, Signed128, Counted}
use Rattle.cert_text.specs.Sums.{SpellsLin}

-- ---- parts
-- the number of a clause, a fact, a parameter or a variable
abbrev pub Index : ℕ → List ℕ → Type 0
Index = Blank (Number Word32)

-- a whole number
abbrev pub Whole : ℤ → List ℕ → Type 0
Whole = Blank (Signed (Signed128 0))

-- a modulus
abbrev pub Modulus : ℕ → List ℕ → Type 0
Modulus = Blank (Number (Within 0 (2 ^ 127 - 1)))

-- a sum
abbrev pub Sum : Lin → List ℕ → Type 0
Sum = Blank SpellsLin

-- a fact's number with its multiplier
abbrev pub Multiple : ℕ × ℤ → List ℕ → Type 0
Multiple = Cat Index (λ fact. Whole)

-- ---- rows
-- the word in front of a row
abbrev pub row_word : RowKind → List ℕ
row_word Inst = codes "inst"
row_word Low = codes "low"

-- what stands behind the word
abbrev pub RowParts : RowKind → Row → List ℕ → Type 0
RowParts Inst = Image (λ (p : ℕ × (ℕ × (ℤ × Lin))). row.Inst p.0 (p.1.0) (p.1.1.0) (p.1.1.1)) (Cat Index (λ clause. Cat Index (λ x. Cat Whole (λ a. Sum))))
RowParts Low = Image (λ (p : ℕ × (ℕ × ℤ)). row.Low p.0 (p.1.0) (p.1.1)) (Cat Index (λ clause. Cat Index (λ x. Whole)))

-- the word of a row
abbrev pub RowWord : RowKind → List ℕ → Type 0
RowWord kind text = text ≡ row_word kind

-- a row: its word, and behind it its parts
abbrev pub SpellsRow : Row → List ℕ → Type 0
SpellsRow = Image (λ (p : RowKind × Row). p.1) (Cat RowWord RowParts)

-- ---- trees
-- the word in front of a node
abbrev pub node_word : NodeKind → List ℕ
node_word Case = codes "case"
node_word Combine = codes "combine"
node_word Cut = codes "cut"
node_word Branch = codes "branch"
node_word Residues = codes "residues"
node_word Solve = codes "solve"
node_word Least = codes "least"
node_word Clash = codes "clash"

-- what stands behind the word, where the children's texts are those of the language; `residues` has as many children as its modulus says
abbrev pub NodeParts : (Tree → List ℕ → Type 0) → NodeKind → Tree → List ℕ → Type 0
NodeParts L Case = Image (λ (p : ℕ × List Tree). node.Case p.0 p.1) (Cat Index (λ clause. Counted (Blank L)))
NodeParts L Combine = Image (λ (p : List (ℕ × ℤ) × Tree). node.Combine p.0 p.1) (Cat (Counted Multiple) (λ list. Blank L))
NodeParts L Cut = Image (λ (p : ℕ × Tree). node.Cut p.0 p.1) (Cat Index (λ fact. Blank L))
NodeParts L Branch = Image (λ (p : Lin × (Tree × Tree)). node.Branch p.0 (p.1.0) (p.1.1)) (Cat Sum (λ t. Cat (Blank L) (λ left. Blank L)))
NodeParts L Residues = Image (λ (p : ℕ × (Lin × List Tree)). node.Residues (pos p.0) (p.1.0) (p.1.1)) (Cat Modulus (λ m. Cat Sum (λ t. Times (Blank L) m)))
NodeParts L Solve = Image (λ (p : ℕ × (ℕ × Tree)). node.Solve p.0 (p.1.0) (p.1.1)) (Cat Index (λ fact. Cat Index (λ p. Blank L)))
NodeParts L Least = Image (λ (p : ℕ × List Tree). node.Least p.0 p.1) (Cat Index (λ p. Counted (Blank L)))
NodeParts L Clash = Image node.Clash Index

-- the word of a node
abbrev pub NodeWord : NodeKind → List ℕ → Type 0
NodeWord kind text = text ≡ node_word kind

-- a node, whose children's texts are those of the language
abbrev pub Node : (Tree → List ℕ → Type 0) → Tree → List ℕ → Type 0
Node L = Image (λ (p : NodeKind × Tree). p.1) (Cat NodeWord (NodeParts L))

-- trees of at most so many levels
abbrev pub TreeWithin : ℕ → Tree → List ℕ → Type 0
TreeWithin zero = λ tree text. ⊥
TreeWithin (suc levels) = Node (TreeWithin levels)

-- a tree of any number of levels
pub record SpellsTree (tree : Tree) (text : List ℕ) : Type 0 where
  pub levels : ℕ
  pub within : TreeWithin levels tree text

-- ---- certificates
-- the certificate that is made of the rows and the tree behind the word
abbrev pub cert_of : Unit {0} × (List Row × Tree) → Cert
cert_of p = record { rows = p.1.0; tree = p.1.1 }

-- the bytes spell the certificate
abbrev pub Spells : Cert → List ℕ → Type 0
Spells = Image cert_of (Cat (Exactly (codes "cert")) (λ word. Cat (Counted (Blank SpellsRow)) (λ rows. Blank SpellsTree)))
