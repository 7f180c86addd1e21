-- An empty clause before or behind each of a list of clauses.
use Rattle.std.proofs.Common.{◌≡◌, List, [], ◌∷◌, ◌++◌, map, refl, sym, ap, ◌∙◌}
use Rattle.std.proofs.lemmas.List.{append-nil}
use Rattle.normal_form.specs.Cnf.{Literals, join}

pub as_they_are : (cs : List Literals) → cs ≡ map (λ d. [] ++ d) cs
as_they_are [] = refl
as_they_are (c ∷ cs) = ap (λ (ds : List Literals). c ∷ ds) (as_they_are cs)

pub with_nothing_behind : (cs : List Literals) → join cs ([] ∷ []) ≡ cs
with_nothing_behind [] = refl
with_nothing_behind (c ∷ cs) = ap (λ (d : Literals). d ∷ join cs ([] ∷ [])) (append-nil c) ∙ ap (λ (ds : List Literals). c ∷ ds) (with_nothing_behind cs)

-- the list, where the other one is the empty clause
pub joined_with_nothing : (left right : List Literals) → right ≡ [] ∷ [] → left ≡ join left right
joined_with_nothing left right e = rw e (sym (with_nothing_behind left))
