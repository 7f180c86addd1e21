-- The words of nodes and rows, in the order in which they are looked for.
use Rattle.std.specs.Prelude.{ℕ, zero, suc, List, [], ◌∷◌, codes, ◌==◌, if◌then◌else◌}
use Rattle.cert_text.specs.declared.kinds.NodeKind.{NodeKind}
use Rattle.cert_text.specs.declared.kinds.NodeKind.TheVariants.{Case, Combine, Cut, Branch, Residues, Solve, Least, Clash}
use Rattle.cert_text.specs.declared.kinds.RowKind.{RowKind}
use Rattle.cert_text.specs.declared.kinds.RowKind.TheVariants.{Inst, Low}

-- the words of rows
abbrev pub row_words : List (List ℕ)
row_words = codes "inst" ∷ codes "low" ∷ []

-- the words of nodes
abbrev pub node_words : List (List ℕ)
node_words = codes "case" ∷ codes "combine" ∷ codes "cut" ∷ codes "branch" ∷ codes "residues" ∷ codes "solve" ∷ codes "least" ∷ codes "clash" ∷ []

-- what kind of row the word at this place tells
abbrev pub row_kind_at : ℕ → RowKind
row_kind_at zero = Inst
row_kind_at (suc n) = Low

-- what kind of node the word at this place tells
abbrev pub node_kind_at : ℕ → NodeKind
node_kind_at place = if place == 0 then Case else (if place == 1 then Combine else (if place == 2 then Cut else (if place == 3 then Branch
    else (if place == 4 then Residues else (if place == 5 then Solve else (if place == 6 then Least else Clash))))))
