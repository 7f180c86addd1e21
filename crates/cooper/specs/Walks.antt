-- The search as the program does it, child by child: the same nodes, trees, values and numbers as in the definition.
use Rattle.std.specs.Prelude.{◌≡◌, ℕ, suc, ◌+◌, ℤ, pos, ◌-ℤ◌, nat_lt, unsigned_abs, List, [], ◌∷◌, ◌++◌, Option, Some, None, option_map, Result, IfOk, if◌then◌else◌}
use Rattle.std.specs.List.{list_any, flat_map, filter_map, position}
use Rattle.std.specs.Int.{int_min, int_rem_euclid}
use Rattle.std.specs.declared.alloc.AllocError.{AllocError}
use Rattle.lin_base.specs.declared.sums.Lin.{Lin}
use Rattle.lin_base.specs.declared.facts.Fact.{Fact}
use Rattle.lin_base.specs.Whole.{div_floor}
use Rattle.lin_base.specs.Sum.{Terms, Valuation, assigned, value}
use Rattle.lin_base.specs.Numbers.{results}
use Rattle.lin_base.specs.Steps.{add_number_steps, replace_all_steps, value_steps}
use Rattle.lin_base.specs.Fact.{is_false}
use Rattle.cert_tree.specs.declared.certs.Tree.{Tree}
use Rattle.cert_tree.specs.declared.certs.Tree.TheOpen.{Case, Solve, Least, Clash}
use Rattle.cert_tree.specs.declared.certs.Tree.TheViews.{roll-Tree}
use Rattle.cert_tree.specs.declared.sums.Side.{Side as Parts}
use Rattle.cert_tree.specs.Bounds.{moved_by}
use Rattle.cert_tree.specs.Children.{Bound, with_value, lower_bound, bound_steps_of, far_child, far_child_steps}
use Rattle.cert_tree.specs.Counting.{numbers_below}
use Rattle.cert_tree.specs.Ground.{unknowns}
use Rattle.cert_tree.specs.Leasts.{is_lower_bound}
use Rattle.cert_tree.specs.Points.{solved, period, period_steps}
use Rattle.cert_tree.specs.Search.{Found, closed, satisfied, Visit, Child, Choice, choice_from, top_of, top_formed, least_of, the_one}
use Rattle.cert_tree.specs.Sides.{side_of}
use Rattle.cooper_rows.specs.declared.counting.BudgetError.{BudgetError}
use Rattle.cooper_rows.specs.Counted.{Counted}
use Rattle.cooper.specs.declared.choosing.Equation.{Equation}

-- ---- visits of several nodes: their trees, or the values of the first satisfied leaf
abbrev pub Walk : Type 0
Walk = Visit (List Tree)

-- no node
abbrev pub nothing : Walk
nothing = record { nodes = 0; found = closed []; formed = [] }

-- 0 for each unknown
abbrev pub all_zero : Valuation
all_zero x = pos 0

-- a satisfied leaf, but for its node
abbrev pub satisfied_here : Walk
satisfied_here = record { nodes = 0; found = satisfied all_zero; formed = [] }

-- a leaf closed by the fact of this number, but for its node
abbrev pub clash_here : ℕ → Walk
clash_here n = record { nodes = 0; found = closed (roll-Tree (Clash n) ∷ []); formed = [] }

-- one node more
abbrev pub one_more : Walk → Walk
one_more w = record { nodes = suc w.nodes; found = w.found; formed = w.formed }

-- numbers that are formed before
abbrev pub after : List ℤ → Walk → Walk
after zs w = record { nodes = w.nodes; found = w.found; formed = zs ++ w.formed }

-- trees before those that are found
abbrev pub joined : List Tree → Found (List Tree) → Found (List Tree)
joined ts (satisfied v) = satisfied v
joined ts (closed us) = closed (ts ++ us)

-- visits, and others where the first find no values
abbrev pub then_walk : Walk → Walk → Walk
then_walk w u = elim w.found [
  | satisfied v ↦ w
  | closed ts ↦ record { nodes = w.nodes + u.nodes; found = joined ts u.found; formed = w.formed ++ u.formed }
]

-- visits whose values come back so
abbrev pub coming_back : (Valuation → Valuation) → (Valuation → List ℤ) → Walk → Walk
coming_back back back_formed w = elim w.found [
  | satisfied v ↦ record { nodes = w.nodes; found = satisfied (back v); formed = w.formed ++ back_formed v }
  | closed ts ↦ w
]

-- one tree in place of several
abbrev pub rooted : (List Tree → Tree) → Found (List Tree) → Found (List Tree)
rooted tree (satisfied v) = satisfied v
rooted tree (closed ts) = closed (tree ts ∷ [])

-- the children of a node, under its tree
abbrev pub under : (List Tree → Tree) → Walk → Walk
under tree w = record { nodes = w.nodes; found = rooted tree w.found; formed = w.formed }

-- the visit of one node
abbrev pub found_one : Found Tree → Found (List Tree)
found_one (satisfied v) = satisfied v
found_one (closed t) = closed (t ∷ [])

-- as that of several
abbrev pub one_child : Visit Tree → Walk
one_child visit = record { nodes = visit.nodes; found = found_one visit.found; formed = visit.formed }

-- a child
abbrev pub child_walk : (List Fact → Visit Tree) → Child → Walk
child_walk visit c = after c.formed (coming_back c.back c.back_formed (one_child (visit c.facts)))

-- the children in order, up to the first with values
abbrev pub children_walk : (List Fact → Visit Tree) → List Child → Walk
children_walk visit [] = nothing
children_walk visit (c ∷ cs) = then_walk (child_walk visit c) (children_walk visit cs)

-- ---- a child where p is by a side: `b*p = rest`
-- the value of p
abbrev pub side_value : Parts → Valuation → ℤ
side_value e v = div_floor (value v e.rest) e.b

-- the numbers formed for it
abbrev pub side_value_formed : Parts → Valuation → List ℤ
side_value_formed e v = results (value_steps v e.rest) ++ side_value e v ∷ []

-- the child once its facts are made
abbrev pub side_walk : (List Fact → Visit Tree) → ℕ → Parts → List Fact → Walk
side_walk visit p e facts = coming_back (λ v. assigned p (side_value e v) v) (side_value_formed e) (one_child (visit facts))

-- its facts first
abbrev pub place_walk : (List Fact → Visit Tree) → ℕ → List Fact → Parts → Walk
place_walk visit p facts e = after (results (replace_all_steps p e.b e.rest facts)) (side_walk visit p e (with_value p e.b e.rest facts))

-- ---- Solve
-- the term with the less absolute coefficient, the first of equals
abbrev pub nearer : ℕ × ℤ → Option (ℕ × ℤ) → ℕ × ℤ
nearer e None = e
nearer e (Some f) = if nat_lt (unsigned_abs f.1) (unsigned_abs e.1) then f else e

-- an equation of the program
abbrev pub choice_of : Equation → Choice
choice_of e = record { fact = e.fact; p = e.p; sum = e.sum }

-- the child where p is by the sum t that is 0
abbrev pub solved_walk : (List Fact → Visit Tree) → ℕ → Lin → List Fact → Walk
solved_walk visit p t facts = after (results (solved p t).steps) (place_walk visit p facts (side_of (solved p t)))

-- under its tree
abbrev pub solve_node : (List Fact → Visit Tree) → Choice → List Fact → Walk
solve_node visit c facts = under (λ ts. roll-Tree (Solve c.fact c.p (the_one ts))) (solved_walk visit c.p c.sum facts)

-- ---- Least
-- the child at test point j of a bound
abbrev pub point_walk : (List Fact → Visit Tree) → ℕ → List Fact → Parts → ℕ → Walk
point_walk visit p facts e j = after (results (add_number_steps e.rest (pos j))) (place_walk visit p facts (moved_by e j))

-- the children at these test points
abbrev pub points_walk : (List Fact → Visit Tree) → ℕ → List Fact → Parts → List ℕ → Walk
points_walk visit p facts e [] = nothing
points_walk visit p facts e (j ∷ js) = then_walk (point_walk visit p facts e j) (points_walk visit p facts e js)

-- numbers that are formed before, where there is a child
abbrev pub if_any : List ℕ → List ℤ → Walk → Walk
if_any [] zs w = nothing
if_any (j ∷ js) zs w = after zs w

-- the children of a bound
abbrev pub bound_walk : (List Fact → Visit Tree) → ℕ → List Fact → Option Bound → Walk
bound_walk visit p facts None = nothing
bound_walk visit p facts (Some e) =
    if_any (numbers_below e.children) (results (bound_steps_of (Some e))) (points_walk visit p facts (side_of e.side) (numbers_below e.children))

-- those of the bounds that these facts are
abbrev pub bounds_walk : (List Fact → Visit Tree) → ℕ → ℤ → List Fact → List Fact → Walk
bounds_walk visit p d facts [] = nothing
bounds_walk visit p d facts (f ∷ fs) = then_walk (bound_walk visit p facts (lower_bound p d f)) (bounds_walk visit p d facts fs)

-- the lesser of two numbers that may be there
abbrev pub least_with : Option ℤ → Option ℤ → Option ℤ
least_with None o = o
least_with (Some z) None = Some z
least_with (Some z) (Some y) = Some (int_min z y)

-- the greatest number up to top that is j modulo d
abbrev pub down_from : ℤ → ℤ → ℤ → ℤ
down_from top j d = top -ℤ int_rem_euclid (top -ℤ j) d

-- that, or j where there is no greatest number
abbrev pub far_from : Option ℤ → ℤ → ℤ → ℤ
far_from None j d = j
far_from (Some top) j d = down_from top j d

-- the value of p where it is far down
abbrev pub far_at : ℕ → List Fact → ℤ → ℤ → Valuation → ℤ
far_at p facts j d v = far_from (least_of (filter_map (top_of p v) facts)) j d

-- the numbers formed for it
abbrev pub far_formed : ℕ → List Fact → ℤ → ℤ → Valuation → List ℤ
far_formed p facts j d v = flat_map (top_formed p v) facts ++ far_at p facts j d v ∷ []

-- the child where p is far down and j modulo d
abbrev pub far_child_walk : (List Fact → Visit Tree) → ℕ → List Fact → ℤ → ℕ → Walk
far_child_walk visit p facts d j =
    after (results (far_child_steps p facts j)) (coming_back (λ v. assigned p (far_at p facts (pos j) d v) v) (far_formed p facts (pos j) d) (one_child (visit (far_child p facts j))))

-- those where p is far down, by remainder
abbrev pub far_walk : (List Fact → Visit Tree) → ℕ → List Fact → ℤ → List ℕ → Walk
far_walk visit p facts d [] = nothing
far_walk visit p facts d (j ∷ js) = then_walk (far_child_walk visit p facts d j) (far_walk visit p facts d js)

-- by the bounds, or far down where there is none
abbrev pub least_by : (List Fact → Visit Tree) → ℕ → List Fact → ℤ → Walk
least_by visit p facts d = if list_any (is_lower_bound p) facts then bounds_walk visit p d facts facts else far_walk visit p facts d (numbers_below d)

-- the period first
abbrev pub least_walk : (List Fact → Visit Tree) → ℕ → List Fact → Walk
least_walk visit p facts = after (results (period_steps p facts)) (least_by visit p facts (period p facts))

-- under its tree
abbrev pub least_node : (List Fact → Visit Tree) → ℕ → List Fact → Walk
least_node visit p facts = under (λ ts. roll-Tree (Least p ts)) (least_walk visit p facts)

-- ---- a node without a clause left
-- the first of several
abbrev pub first_of : List ℕ → Option ℕ
first_of [] = None
first_of (x ∷ xs) = Some x

-- the unknown of the first term
abbrev pub first_term : Terms → Option ℕ
first_term [] = None
first_term ((x, k) ∷ ts) = Some x

-- the lesser of two unknowns that may be there
abbrev pub lesser_of : Option ℕ → Option ℕ → Option ℕ
lesser_of None o = o
lesser_of (Some x) None = Some x
lesser_of (Some x) (Some y) = Some (if nat_lt y x then y else x)

-- the first unknown is split, if there is one
abbrev pub first_node : (List Fact → Visit Tree) → List Fact → Option ℕ → Walk
first_node visit facts None = satisfied_here
first_node visit facts (Some p) = least_node visit p facts

-- the equation is solved, if there is one
abbrev pub open_by : (List Fact → Visit Tree) → List Fact → Option Choice → Walk
open_by visit facts (Some c) = solve_node visit c facts
open_by visit facts None = first_node visit facts (first_of (unknowns facts))

-- without a false fact
abbrev pub open_node : (List Fact → Visit Tree) → List Fact → Walk
open_node visit facts = open_by visit facts (choice_from 0 facts)

-- closed by the false fact of this number, if there is one
abbrev pub unless_false : Option ℕ → Walk → Walk
unless_false (Some n) w = clash_here n
unless_false None w = w

-- a node, and what is below it
abbrev pub node_walk : List Fact → Walk → Walk
node_walk facts w = one_more (unless_false (position is_false facts) w)

-- ---- Case
-- the children of these literals
abbrev pub literals_walk : (List Fact → Visit Tree) → List Fact → List Fact → Walk
literals_walk visit facts [] = nothing
literals_walk visit facts (f ∷ fs) = then_walk (one_child (visit (facts ++ f ∷ []))) (literals_walk visit facts fs)

-- under the tree of the clause of this number
abbrev pub case_node : (List Fact → Visit Tree) → List Fact → ℕ → List Fact → Walk
case_node visit facts n lits = under (λ ts. roll-Tree (Case n ts)) (literals_walk visit facts lits)

-- ---- what the program finds
-- the values of a list, 0 where there is none
abbrev pub valuation_of : List (ℕ × ℤ) → Valuation
valuation_of [] = all_zero
valuation_of (e ∷ es) = assigned e.0 e.1 (valuation_of es)

-- values, or these trees
abbrev pub found_by : Option Valuation → List Tree → Found (List Tree)
found_by None ts = closed ts
found_by (Some v) ts = satisfied v

-- the numbers that are formed for what was found
abbrev pub formed_of : (Valuation → List ℤ) → Option Valuation → List ℤ
formed_of f None = []
formed_of f (Some v) = f v

-- the answer of a call that visits so: its nodes are counted, and its trees come after those that were there, or it answers the values
abbrev pub Walked : Result (Option (List (ℕ × ℤ))) BudgetError → ℕ → ℕ → List Tree → List Tree → Walk → Type 0
Walked r old new told tnew w = Counted r old new w.nodes w.formed (λ o. found_by (option_map valuation_of o) tnew ≡ joined told w.found)

-- the answer of a call that puts what was found below a node under its tree
abbrev pub Closes : Result (Option (List (ℕ × ℤ))) AllocError → (List Tree → Tree) → Option (List (ℕ × ℤ)) → List Tree → List Tree → List Tree → Type 0
Closes r tree found below told tnew = IfOk r (λ o. found_by (option_map valuation_of o) tnew ≡ joined told (rooted tree (found_by (option_map valuation_of found) below)))
