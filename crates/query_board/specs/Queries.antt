-- Queries by number, their marks, and which changes of a mark there are.
use Rattle.std.specs.Prelude.{ℕ, Bool, true, false, List, Option, slice_get, slice_set, option_map}
use Rattle.std.specs.Option.{option_map_or}
use Rattle.query_board.specs.declared.queries.Asked.{Asked}
use Rattle.query_board.specs.declared.queries.Mark.{Mark}
use Rattle.query_board.specs.declared.queries.Mark.TheVariants.{Open, Claimed, Taken, Stale, Retired}
use Rattle.query_board.specs.declared.queries.Posted.{Posted}

-- the four changes of a mark
abbrev pub may_change : Mark → Mark → Bool
may_change Open Claimed = true
may_change Open Retired = true
may_change Claimed Taken = true
may_change Claimed Stale = true
may_change _ _ = false

-- a query as it is posted
abbrev pub new_query : Asked → Posted
new_query asked = record { asked = asked; mark = Open }

-- the mark of a query, where there is such a query
abbrev pub mark_at : List Posted → ℕ → Option Mark
mark_at queries query = option_map (λ p. p.mark) (slice_get queries query)

-- the query is there, and its mark may become this one
abbrev pub may_set : List Posted → ℕ → Mark → Bool
may_set queries query mark = option_map_or (λ p. may_change p.mark mark) (slice_get queries query) false

-- the list with this query's mark changed
abbrev pub with_mark : List Posted → ℕ → Mark → List Posted
with_mark queries query mark = option_map_or (λ p. slice_set queries query (record p { mark = mark })) (slice_get queries query) queries
