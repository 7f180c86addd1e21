-- The answers of a call that visits one node, by the definition of the search.
use Rattle.std.specs.Prelude.{◌≡◌, ℕ, zero, suc, ◌-◌, ◌≤◌, ℤ, get_or, drop, length, List, [], ◌∷◌, ◌++◌, Option, Some, None, option_map, Result, Ok, Err}
use Rattle.std.specs.List.{position}
use Rattle.std.proofs.Common.{refl, sym, ◌∙◌, ap, subst, arith}
use Rattle.lin_base.specs.declared.facts.Fact.{Fact}
use Rattle.lin_base.specs.Fact.{is_false}
use Rattle.cert_tree.specs.declared.certs.Tree.{Tree}
use Rattle.cert_tree.specs.declared.certs.Tree.TheOpen.{Case, Clash}
use Rattle.cert_tree.specs.declared.certs.Tree.TheViews.{roll-Tree}
use Rattle.cert_tree.specs.Ground.{Numbered}
use Rattle.cert_tree.specs.Search.{eliminate, searched}
use Rattle.cooper_rows.specs.declared.counting.BudgetError.{BudgetError}
use Rattle.cooper_rows.specs.Counted.{IsAfter, IsCause}
use Rattle.cooper.specs.Walks.{Walk, joined, rooted, one_child, open_node, node_walk, literals_walk, case_node, valuation_of, found_by, Walked}
use Rattle.cooper.proofs.Walking.{node_err, node_closed, node_ok, closed_walk}
use Rattle.cooper.proofs.SearchJoins.{below, eliminate_join, search_first}

abbrev Values : Type 0
Values = Option (List (ℕ × ℤ))

-- what was visited and found
abbrev pub IsVisited : ℕ → ℕ → List Tree → List Tree → Values → Walk → Type 0
IsVisited m1 m0 t1 t0 o w = IsAfter m1 m0 w.nodes w.formed × (found_by (option_map valuation_of o) t1 ≡ joined t0 w.found)

-- a node that a false fact closes
closed_here : (m1 m0 : ℕ) (t1 t0 : List Tree) (facts : List Fact) (w u : Walk) (n : ℕ) (o : Values) → node_walk facts w ≡ u → IsAfter m1 m0 1 [] → Some n ≡ position is_false facts → o ≡ None → t1 ≡ t0 ++ roll-Tree (Clash n) ∷ [] → IsVisited m1 m0 t1 t0 o u
closed_here m1 m0 t1 t0 facts w u n o same a closes none is =
    let O : Values → Type 0 = λ x. IsVisited m1 m0 t1 t0 x u in
    let W : Walk → Type 0 = λ x. IsVisited m1 m0 t1 t0 None x in
    subst O (sym none) (subst W same (node_closed m1 m0 t1 t0 facts w n a closes is))

-- an error before anything is visited
err_here : (e : BudgetError) (m0 : ℕ) (facts : List Fact) (w u : Walk) → node_walk facts w ≡ u → IsCause e m0 1 [] → IsCause e m0 u.nodes u.formed
err_here e m0 facts w u same h =
    let E : Walk → Type 0 = λ x. IsCause e m0 x.nodes x.formed in
    subst E same (node_err e m0 facts w h)

-- ---- without a clause left
pub leaf_err : (e : BudgetError) (m0 k : ℕ) (facts : List Fact) → IsCause e m0 1 [] → IsCause e m0 (one_child (eliminate k facts)).nodes (one_child (eliminate k facts)).formed
leaf_err e m0 k facts h = err_here e m0 facts (below k facts) (one_child (eliminate k facts)) (sym (eliminate_join k facts)) h

pub leaf_closed : (m1 m0 : ℕ) (t1 t0 : List Tree) (k : ℕ) (facts : List Fact) (n : ℕ) (o : Values) → IsAfter m1 m0 1 [] → Some n ≡ position is_false facts → o ≡ None → t1 ≡ t0 ++ roll-Tree (Clash n) ∷ [] → IsVisited m1 m0 t1 t0 o (one_child (eliminate k facts))
leaf_closed m1 m0 t1 t0 k facts n o a closes none is = closed_here m1 m0 t1 t0 facts (below k facts) (one_child (eliminate k facts)) n o (sym (eliminate_join k facts)) a closes none is

leaf_open : (r : Result Values BudgetError) (m2 m1 m0 : ℕ) (t2 t0 : List Tree) (k : ℕ) (facts : List Fact) → IsAfter m1 m0 1 [] → None ≡ position is_false facts → Walked r m1 m2 t0 t2 (below k facts) → Walked r m0 m2 t0 t2 (one_child (eliminate k facts))
leaf_open r m2 m1 m0 t2 t0 k facts a open_ h =
    subst (Walked r m0 m2 t0 t2) (sym (eliminate_join k facts)) (node_ok r m2 m1 m0 t2 t0 facts (below k facts) a open_ h)

-- no unknown may be left
pub leaf_satisfied : (m1 m0 : ℕ) (t0 : List Tree) (k : ℕ) (facts : List Fact) (vs : List (ℕ × ℤ)) → k ≡ 0 → vs ≡ [] → IsAfter m1 m0 1 [] → None ≡ position is_false facts → IsVisited m1 m0 t0 t0 (Some vs) (one_child (eliminate k facts))
leaf_satisfied m1 m0 t0 k facts vs none empty a open_ =
    let V : List (ℕ × ℤ) → Type 0 = λ us. IsVisited m1 m0 t0 t0 (Some us) (one_child (eliminate k facts)) in
    let K : ℕ → Type 0 = λ n. IsVisited m1 m0 t0 t0 (Some []) (one_child (eliminate n facts)) in
    subst V (sym empty) (subst K (sym none) (leaf_open (Ok (Some [])) m1 m1 m0 t0 t0 0 facts a open_ (((omega arith, refl), refl), tt)).0)

pub leaf_visited : (r : Result Values BudgetError) (m2 m1 m0 : ℕ) (t2 t0 : List Tree) (k : ℕ) (facts : List Fact) → 1 ≤ k → IsAfter m1 m0 1 [] → None ≡ position is_false facts → Walked r m1 m2 t0 t2 (open_node (eliminate (k - 1)) facts) → Walked r m0 m2 t0 t2 (one_child (eliminate k facts))
leaf_visited r m2 m1 m0 t2 t0 zero facts up a open_ h = absurd (omega (arith, up))
leaf_visited r m2 m1 m0 t2 t0 (suc k) facts up a open_ h =
    let before : suc k - 1 ≡ k = omega arith in
    leaf_open r m2 m1 m0 t2 t0 (suc k) facts a open_ (subst (λ n. Walked r m1 m2 t0 t2 (open_node (eliminate n) facts)) before h)

-- ---- with these clauses left
pub case_err : (e : BudgetError) (m0 : ℕ) (cs : List Numbered) (facts : List Fact) (c : Numbered) → 1 ≤ length cs → c ≡ get_or cs 0 c → IsCause e m0 1 [] → IsCause e m0 (one_child (searched cs facts)).nodes (one_child (searched cs facts)).formed
case_err e m0 cs facts c up is h = err_here e m0 facts (case_node (searched (drop 1 cs)) facts c.0 c.1) (one_child (searched cs facts)) (search_first cs facts c up is) h

pub case_closed : (m1 m0 : ℕ) (t1 t0 : List Tree) (cs : List Numbered) (facts : List Fact) (c : Numbered) (n : ℕ) (o : Values) → 1 ≤ length cs → c ≡ get_or cs 0 c → IsAfter m1 m0 1 [] → Some n ≡ position is_false facts → o ≡ None → t1 ≡ t0 ++ roll-Tree (Clash n) ∷ [] → IsVisited m1 m0 t1 t0 o (one_child (searched cs facts))
case_closed m1 m0 t1 t0 cs facts c n o up is a closes none told = closed_here m1 m0 t1 t0 facts (case_node (searched (drop 1 cs)) facts c.0 c.1) (one_child (searched cs facts)) n o (search_first cs facts c up is) a closes none told

case_open : (r : Result Values BudgetError) (m2 m1 m0 : ℕ) (t2 t0 : List Tree) (cs : List Numbered) (facts : List Fact) (c : Numbered) → 1 ≤ length cs → c ≡ get_or cs 0 c → IsAfter m1 m0 1 [] → None ≡ position is_false facts → Walked r m1 m2 t0 t2 (case_node (searched (drop 1 cs)) facts c.0 c.1) → Walked r m0 m2 t0 t2 (one_child (searched cs facts))
case_open r m2 m1 m0 t2 t0 cs facts c up is a open_ h =
    subst (Walked r m0 m2 t0 t2) (search_first cs facts c up is) (node_ok r m2 m1 m0 t2 t0 facts (case_node (searched (drop 1 cs)) facts c.0 c.1) a open_ h)

pub case_below_err : (e : BudgetError) (m1 m0 : ℕ) (cs : List Numbered) (facts : List Fact) (c : Numbered) → 1 ≤ length cs → c ≡ get_or cs 0 c → IsAfter m1 m0 1 [] → None ≡ position is_false facts
    → (let w : Walk = literals_walk (searched (drop 1 cs)) facts c.1 in IsCause e m1 w.nodes w.formed) → IsCause e m0 (one_child (searched cs facts)).nodes (one_child (searched cs facts)).formed
case_below_err e m1 m0 cs facts c up is a open_ h = (case_open (Err e) m1 m1 m0 [] [] cs facts c up is a open_ (tt, h)).1

pub case_visited : (m2 m1 m0 : ℕ) (under_these none t1 t0 : List Tree) (cs : List Numbered) (facts : List Fact) (c : Numbered) (o x : Values) → none ≡ [] → 1 ≤ length cs → c ≡ get_or cs 0 c → IsAfter m1 m0 1 [] → None ≡ position is_false facts
    → IsVisited m2 m1 under_these none o (literals_walk (searched (drop 1 cs)) facts c.1) → found_by (option_map valuation_of x) t1 ≡ joined t0 (rooted (λ ts. roll-Tree (Case c.0 ts)) (found_by (option_map valuation_of o) under_these))
    → IsVisited m2 m0 t1 t0 x (one_child (searched cs facts))
case_visited m2 m1 m0 under_these none t1 t0 cs facts c o x empty up is a open_ told put =
    let w = literals_walk (searched (drop 1 cs)) facts c.1 in
    (case_open (Ok x) m2 m1 m0 t1 t0 cs facts c up is a open_ (closed_walk m2 m1 under_these t1 t0 (λ ts. roll-Tree (Case c.0 ts)) w o x told.0 (told.1 ∙ ap (λ ts. joined ts w.found) empty) put, tt)).0
