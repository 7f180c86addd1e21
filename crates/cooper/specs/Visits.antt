-- What the calls of a search say of it: what they visit, and what they leave.
use Rattle.std.specs.Prelude.{ℕ, ℤ, List, Option, Result, IsTrue}
use Rattle.std.specs.List.{list_all}
use Rattle.lin_base.specs.Fact.{is_fact}
use Rattle.cert_tree.specs.declared.certs.Tree.{Tree}
use Rattle.cooper_rows.specs.declared.counting.BudgetError.{BudgetError}
use Rattle.cooper.specs.declared.search.Search.{Search}
use Rattle.cooper.specs.Walks.{Walk, Walked}

-- the facts at the node are facts
abbrev pub IsSearch : Search → Type 0
IsSearch s = IsTrue (list_all is_fact s.facts.items)

-- the answer of a call that visits so, with the search and the trees before and after it
abbrev pub Visits : Result (Option (List (ℕ × ℤ))) BudgetError → Search → Search → List Tree → List Tree → Walk → Type 0
Visits r old new told tnew w = Walked r old.room new.room told tnew w
