-- How what is kept for each name changes with the binders in force.
use Rattle.std.proofs.Common.{◌≡◌, ℕ, suc, ◌+◌, Bool, true, false, cond, List, [], ◌∷◌, ◌++◌, reverse, length, drop, refl, sym, ◌∙◌, ap, subst, append_assoc, length-append, arith}
use Rattle.std.specs.Prelude.{Option, Some, if◌then◌else◌}
use Rattle.std.specs.Cmp.Lexicographic.{bytes_decides}
use Rattle.std.proofs.Math.Seq.{drop-append_seam}
use Rattle.std.specs.Map.{lookup}
use Rattle.term_base.specs.declared.variables.Variable.{Variable}
use Rattle.tff_grammar.specs.declared.trees.Variable.{Variable as WrittenVariable}
use Rattle.tff_grammar.specs.Pieces.{bytes_at}
use Rattle.tff_signature.specs.Names.{Name, same_name}
use Rattle.tff_signature.proofs.EntryLemmas.{inserted, lookup_inserted}
use Rattle.tff_reader.specs.Scopes.{Bound, Scope, bound_by, bind, variable_of_sort}
use Rattle.std.proofs.lemmas.List.{reverse-append, drop-drop}
use Rattle.tff_reader.specs.declared.scopes.Binding.{Binding}
use Rattle.tff_reader.specs.Bindings.{flat, kept, AreHidden}

flat_cond : {A : Type 0} (b : Bool) (w : Option A) (o : Option (Option A)) → flat (cond b (Some w) o) ≡ (if b then w else flat o)
flat_cond true w o = refl
flat_cond false w o = refl

-- what is kept after an insertion
pub kept_inserted : {V : Type 0} (f : V → List ℕ) (es : List (V × Option Variable)) (k : V) (w : Option Variable) (n : Name)
    → kept f (inserted f es k w) n ≡ (if same_name n (f k) then w else kept f es n)
kept_inserted f es k w n = ap flat (lookup_inserted f es k w n) ∙ flat_cond (same_name n (f k)) w (lookup (λ v. same_name n (f v)) es)

-- inside a binder
pub enters : {V : Type 0} (f : V → List ℕ) (es : List (V × Option Variable)) (k : V) (v : Variable) (scope : Scope)
    → ((n : Name) → kept f es n ≡ bound_by scope n)
    → (n : Name) → kept f (inserted f es k (Some v)) n ≡ bound_by (record { name = f k; variable = v } ∷ scope) n
enters f es k v scope h n = kept_inserted f es k (Some v) n ∙ ap (λ r. if same_name n (f k) then Some v else r) (h n)

-- the same of a map's entries, where the key spells the name
pub enter_kept : {V : Type 0} (f : V → List ℕ) (es new : List (V × Option Variable)) (k : V) (v : Variable) (name : Name) (scope : Scope)
    → f k ≡ name → new ≡ inserted f es k (Some v) → ((n : Name) → kept f es n ≡ bound_by scope n)
    → (n : Name) → kept f new n ≡ bound_by (record { name = name; variable = v } ∷ scope) n
enter_kept f es new k v name scope named is h n =
    ap (λ l. kept f l n) is ∙ enters f es k v scope h n ∙ ap (λ m. bound_by (record { name = m; variable = v } ∷ scope) n) named

left_at : (b : Bool) (n k : Name) (scope : Scope) (v : Variable) (r : Option Variable) → same_name n k ≡ b → r ≡ (if b then Some v else bound_by scope n)
    → (if b then bound_by scope k else r) ≡ bound_by scope n
left_at true n k scope v r h is = ap (bound_by scope) (sym ((bytes_decides n k).0 h))
left_at false n k scope v r h is = is

-- behind a binder
pub leaves : {V : Type 0} (f : V → List ℕ) (es : List (V × Option Variable)) (k : V) (c : Bound) (scope : Scope)
    → f k ≡ c.name → ((n : Name) → kept f es n ≡ bound_by (c ∷ scope) n)
    → (n : Name) → kept f (inserted f es k (bound_by scope c.name)) n ≡ bound_by scope n
leaves f es k c scope same h n =
    kept_inserted f es k (bound_by scope c.name) n
    ∙ ap (λ m. if same_name n m then bound_by scope c.name else kept f es n) same
    ∙ left_at (same_name n c.name) n c.name scope c.variable (kept f es n) refl (h n)

-- what a quantifier binds stands before what was bound
record Entered (text : List ℕ) (sorts : List Name) (id : ℕ) (vs : List WrittenVariable) (scope : Scope) : Type 0 where
  front : Scope
  is : bind text sorts id vs scope ≡ front ++ scope
  many : length front ≡ length vs

one_more : (n : ℕ) (m : ℕ) → n ≡ m → n + 1 ≡ suc m
one_more n m h = omega (arith, h)

entered : (text : List ℕ) (sorts : List Name) (id : ℕ) (vs : List WrittenVariable) (scope : Scope) → Entered text sorts id vs scope
entered text sorts id [] scope = record { front = []; is = refl; many = refl }
entered text sorts id (v ∷ vs) scope =
    let b : Bound = record { name = bytes_at text v.name; variable = variable_of_sort text sorts id v.sort } in
    let e = entered text sorts (id + 1) vs (b ∷ scope) in
    record {
      front = e.front ++ b ∷ [];
      is = e.is ∙ sym (append_assoc e.front (b ∷ []) scope);
      many = length-append e.front (b ∷ []) ∙ one_more (length e.front) (length vs) e.many;
    }

-- leaving the binders that a quantifier entered
pub drop_bind : (text : List ℕ) (sorts : List Name) (id : ℕ) (vs : List WrittenVariable) (scope : Scope) → drop (length vs) (bind text sorts id vs scope) ≡ scope
drop_bind text sorts id vs scope =
    let e = entered text sorts id vs scope in
    ap (drop (length vs)) e.is ∙ ap (λ n. drop n (e.front ++ scope)) (sym e.many) ∙ drop-append_seam e.front scope

-- ---- what the binders hide

pub hidden_entered : (bs : List Binding) (b : Binding) (c : Bound) (scope : Scope) → AreHidden (reverse bs) scope → b.name.items ≡ c.name → b.hidden ≡ bound_by scope c.name
    → AreHidden (reverse (bs ++ b ∷ [])) (c ∷ scope)
hidden_entered bs b c scope h name hides = subst (λ (xs : List Binding). AreHidden xs (c ∷ scope)) (sym (reverse-append bs (b ∷ []))) (name, hides, h)

-- the innermost binder, and those around it
pub record Innermost (bs : List Binding) (b : Binding) (scope : Scope) : Type 0 where
  pub bound : Bound
  pub outer : Scope
  pub is : scope ≡ bound ∷ outer
  pub name : b.name.items ≡ bound.name
  pub hides : b.hidden ≡ bound_by outer bound.name
  pub others : AreHidden (reverse bs) outer

innermost_of : (bs : List Binding) (b : Binding) (scope : Scope) → AreHidden (b ∷ reverse bs) scope → Innermost bs b scope
innermost_of bs b [] h = absurd h
innermost_of bs b (c ∷ scope) h = record { bound = c; outer = scope; is = refl; name = h.0; hides = h.1; others = h.2 }

pub innermost : (all bs : List Binding) (b : Binding) (scope : Scope) → all ≡ bs ++ b ∷ [] → AreHidden (reverse all) scope → Innermost bs b scope
innermost all bs b scope e h =
    innermost_of bs b scope (subst (λ (xs : List Binding). AreHidden xs scope) (ap reverse e ∙ reverse-append bs (b ∷ [])) h)

pub hidden_kept : (bs new : List Binding) (b : Binding) (c : Bound) (scope : Scope) → new ≡ bs ++ b ∷ [] → AreHidden (reverse bs) scope → b.name.items ≡ c.name → b.hidden ≡ bound_by scope c.name
    → AreHidden (reverse new) (c ∷ scope)
hidden_kept bs new b c scope is h name hides = subst (λ (xs : List Binding). AreHidden (reverse xs) (c ∷ scope)) (sym is) (hidden_entered bs b c scope h name hides)

-- behind the innermost binder: what is kept, and what the others hide
pub leave_kept : {V : Type 0} (f : V → List ℕ) (es new : List (V × Option Variable)) (k : V) (w : Option Variable) (bs : List Binding) (b : Binding) (scope : Scope)
    → (i : Innermost bs b scope) → f k ≡ b.name.items → w ≡ b.hidden → new ≡ inserted f es k w → ((n : Name) → kept f es n ≡ bound_by scope n)
    → (n : Name) → kept f new n ≡ bound_by (drop 1 scope) n
leave_kept f es new k w bs b scope i key value is h n =
    ap (λ l. kept f l n) (is ∙ ap (λ x. inserted f es k x) (value ∙ i.hides))
    ∙ leaves f es k i.bound i.outer (key ∙ i.name) (λ m. h m ∙ ap (λ sc. bound_by sc m) i.is) n
    ∙ ap (λ sc. bound_by (drop 1 sc) n) (sym i.is)

pub left_hidden : (bs : List Binding) (b : Binding) (scope : Scope) → (i : Innermost bs b scope) → AreHidden (reverse bs) (drop 1 scope)
left_hidden bs b scope i = subst (λ (sc : Scope). AreHidden (reverse bs) (drop 1 sc)) (sym i.is) i.others

pub leave_more : (n : ℕ) (scope : Scope) → drop 1 (drop n scope) ≡ drop (n + 1) scope
leave_more n scope = drop-drop 1 n scope
