-- A combination, part by part.
use Rattle.std.specs.Prelude.{◌≡◌, ℕ, ℤ, pos, ◌<◌, ◌+◌, Bool, true, false, cond, ◌&&◌, length, get_or, drop, List, ◌∷◌, ◌++◌, Option, Some, None}
use Rattle.std.proofs.Common.{refl, sym, ◌∙◌, ap}
use Rattle.std.proofs.lemmas.List.{at_drop_more}
use Rattle.lin_base.specs.declared.sums.Lin.{Lin}
use Rattle.lin_base.specs.declared.facts.Fact.{Fact}
use Rattle.lin_base.specs.declared.wides.Wide.{Wide}
use Rattle.lin_base.specs.Steps.{is_narrow}
use Rattle.lin_base.specs.Combine.{add_scaled, add_scaled_steps, combined_onto, combined_onto_steps}
use Rattle.cert_tree.specs.Narrow.{option_then, if_narrow}
use Rattle.cert_tree.specs.Children.{part_at, and_part, parts_at, next_sum}
use Rattle.cert_tree.proofs.Narrow.{is_narrow-append}

-- the sum so far, with the rest of the list added
abbrev pub combination_onto : Lin → List Fact → List (ℕ × ℤ) → Option Lin
combination_onto so_far facts list = option_then (parts_at facts list) (λ parts. if_narrow (combined_onto_steps so_far parts) (combined_onto so_far parts))

if_both : {A : Type 0} (a b : Bool) (x : A) → cond (a && b) (Some x) None ≡ cond a (cond b (Some x) None) None
if_both true b x = refl
if_both false b x = refl

pub if_narrow-append : {A : Type 0} (ss ts : List Wide) (x : A) → if_narrow (ss ++ ts) x ≡ cond (is_narrow ss) (if_narrow ts x) None
if_narrow-append ss ts x = ap (λ b. cond b (Some x) None) (is_narrow-append ss ts) ∙ if_both (is_narrow ss) (is_narrow ts) x

cond_none : {A : Type 0} (b : Bool) → cond b (let n : Option A = None in n) None ≡ None
cond_none true = refl
cond_none false = refl

onto_parts : (so_far : Lin) (t : Lin) (k : ℤ) (o : Option (List (Lin × ℤ)))
    → option_then (and_part (Some (t, k)) o) (λ parts. if_narrow (combined_onto_steps so_far parts) (combined_onto so_far parts))
    ≡ cond (is_narrow (add_scaled_steps so_far k t)) (option_then o (λ parts. if_narrow (combined_onto_steps (add_scaled so_far k t) parts) (combined_onto (add_scaled so_far k t) parts))) None
onto_parts so_far t k None = sym (cond_none (is_narrow (add_scaled_steps so_far k t)))
onto_parts so_far t k (Some parts) = if_narrow-append (add_scaled_steps so_far k t) (combined_onto_steps (add_scaled so_far k t) parts) (combined_onto (add_scaled so_far k t) parts)

pub combination_onto-missing : (so_far : Lin) (facts : List Fact) (n : ℕ) (k : ℤ) (list : List (ℕ × ℤ)) → part_at facts n k ≡ None → combination_onto so_far facts ((n, k) ∷ list) ≡ None
combination_onto-missing so_far facts n k list none = ap (λ o. option_then (and_part o (parts_at facts list)) (λ parts. if_narrow (combined_onto_steps so_far parts) (combined_onto so_far parts))) none

pub combination_onto-part : (so_far : Lin) (facts : List Fact) (n : ℕ) (k : ℤ) (t : Lin) (list : List (ℕ × ℤ)) → part_at facts n k ≡ Some (t, k)
    → combination_onto so_far facts ((n, k) ∷ list) ≡ cond (is_narrow (add_scaled_steps so_far k t)) (combination_onto (add_scaled so_far k t) facts list) None
combination_onto-part so_far facts n k t list some =
    ap (λ o. option_then (and_part o (parts_at facts list)) (λ parts. if_narrow (combined_onto_steps so_far parts) (combined_onto so_far parts))) some
    ∙ onto_parts so_far t k (parts_at facts list)

by_next_some : (b : Bool) (a next : Lin) (rest : Lin → Option Lin) → cond b (Some a) None ≡ Some next → cond b (rest a) None ≡ rest next
by_next_some true a next rest e = let s : a ≡ next = cc in ap rest s
by_next_some false a next rest e = absurd (cc)

by_next_none : (b : Bool) (a : Lin) (o : Option Lin) → cond b (Some a) None ≡ None → cond b o None ≡ None
by_next_none true a o e = absurd (cc)
by_next_none false a o e = refl

-- ---- at a place of the list
at : (so_far : Lin) (facts : List Fact) (list : List (ℕ × ℤ)) (i : ℕ) → i < length list → combination_onto so_far facts (drop i list) ≡ combination_onto so_far facts (get_or list i (0, pos 0) ∷ drop (i + 1) list)
at so_far facts list i h = at_drop_more (combination_onto so_far facts) list i (0, pos 0) h

pub at-missing : (so_far : Lin) (facts : List Fact) (list : List (ℕ × ℤ)) (i : ℕ) → i < length list → part_at facts (get_or list i (0, pos 0)).0 (get_or list i (0, pos 0)).1 ≡ None → combination_onto so_far facts (drop i list) ≡ None
at-missing so_far facts list i h none = at so_far facts list i h ∙ combination_onto-missing so_far facts _ _ (drop (i + 1) list) none

pub at-none : (so_far : Lin) (facts : List Fact) (list : List (ℕ × ℤ)) (i : ℕ) (t : Lin) → i < length list → part_at facts (get_or list i (0, pos 0)).0 (get_or list i (0, pos 0)).1 ≡ Some (t, (get_or list i (0, pos 0)).1)
    → next_sum so_far (get_or list i (0, pos 0)).1 t ≡ None → combination_onto so_far facts (drop i list) ≡ None
at-none so_far facts list i t h some none =
    let k = (get_or list i (0, pos 0)).1 in
    at so_far facts list i h ∙ combination_onto-part so_far facts _ k t (drop (i + 1) list) some
    ∙ by_next_none (is_narrow (add_scaled_steps so_far k t)) (add_scaled so_far k t) _ none

pub at-some : (so_far : Lin) (facts : List Fact) (list : List (ℕ × ℤ)) (i : ℕ) (t next : Lin) → i < length list → part_at facts (get_or list i (0, pos 0)).0 (get_or list i (0, pos 0)).1 ≡ Some (t, (get_or list i (0, pos 0)).1)
    → next_sum so_far (get_or list i (0, pos 0)).1 t ≡ Some next → combination_onto so_far facts (drop i list) ≡ combination_onto next facts (drop (i + 1) list)
at-some so_far facts list i t next h some is =
    let k = (get_or list i (0, pos 0)).1 in
    at so_far facts list i h ∙ combination_onto-part so_far facts _ k t (drop (i + 1) list) some
    ∙ by_next_some (is_narrow (add_scaled_steps so_far k t)) (add_scaled so_far k t) next (λ s. combination_onto s facts (drop (i + 1) list)) is
