-- Lists of pairs as substitutions: pairs without those that change nothing, and what stands for a variable.
use Rattle.std.proofs.Common.{◌≡◌, ◌≢◌, ◌<◌, ◌+◌, ◌++◌, ℕ, Bool, true, false, List, [], ◌∷◌, map, length, drop, get_or, append_assoc, add-one, drop-cons, refl, ap, sym, ◌∙◌, subst, arith, inl, inr, if◌then◌else◌}
use Rattle.std.specs.Prelude.{All, AllPairs, Result, Ok, Err, IfOk}
use Rattle.std.specs.declared.cmp.Ordering.TheVariants.{Less}
use Rattle.std.proofs.lemmas.List.Elements.{All-cons, All-nil}
use Rattle.std.proofs.lemmas.List.Kept.{AllPairs-cons}
use Rattle.term_base.specs.declared.terms.Term.{Term}
use Rattle.term_base.specs.declared.terms.Term.TheVariants as term
use Rattle.term_base.specs.declared.variables.Variable.{Variable}
use Rattle.term_base.specs.Same.{same_variable}
use Rattle.term_base.specs.SameLemmas.{same_variable-true}
use Rattle.term_base.specs.SameTerm.{same_term, same_term-true, same_term-refl}
use Rattle.term_base.specs.VariableOrder.{variable_cmp}
use Rattle.term_base.specs.VariableOrderLemmas.{variable_cmp-irrefl}
use Rattle.term_base.specs.Substitution.{image, IsSubstitution}
use Rattle.term_base.specs.Trees.{Tree, var, tree}
use Rattle.term_base.specs.TreeOf.{tree-Var}
use Rattle.term_base.specs.TreeLemmas.{true_or_false, both_ways}
use Rattle.unifier.specs.Variables.{has, BelowAll, Ascends}
use Rattle.unifier.specs.Naming.{raised, variables, seen, seen_renamed, renamed, images_of, moving, pick, named}

abbrev Pairs : Type 0
Pairs = List (Variable × Term)

-- the image of a variable is what is picked for it
pub image_pick : (ps : Pairs) (v : Variable) → image ps v ≡ pick (map seen ps) v
image_pick [] v = refl
image_pick (p ∷ ps) v = ap (λ (x : Tree). if same_variable p.0 v then tree p.1 else x) (image_pick ps v)

-- what is picked among the variables of a list beside their images
pub picked : (g : Tree → Tree) (f : Variable → Tree) (list : List Variable) (v : Variable) → pick (map (λ w. (w, g (f w))) list) v ≡ (if has list v then g (f v) else var v)
picked g f [] v = refl
picked g f (w ∷ ws) v = elim (true_or_false (same_variable w v)) [
  | inl e ↦ rw e (ap (λ x. g (f x)) (same_variable-true w v e))
  | inr d ↦ rw d (picked g f ws v)
]

seen_again : (forced known : List Variable) (ps : Pairs) → map (seen_renamed forced known) ps ≡ map (λ q. (q.0, renamed forced known q.1)) (map seen ps)
seen_again forced known [] = refl
seen_again forced known (p ∷ ps) = ap (λ (l : List (Variable × Tree)). (p.0, renamed forced known (tree p.1)) ∷ l) (seen_again forced known ps)

images_again : (g : Tree → Tree) (found : Pairs) (base : ℕ) (list : List Variable) → map {B = Variable × Tree} (λ q. (q.0, g q.1)) (images_of found base list) ≡ map {B = Variable × Tree} (λ v. (v, g (image found (raised base v)))) list
images_again g found base [] = refl
images_again g found base (v ∷ vs) = ap (λ (l : List (Variable × Tree)). (v, g (image found (raised base v))) ∷ l) (images_again g found base vs)

-- what stands for a variable once the images of a list have new names
pub named_images : (forced known : List Variable) (found : Pairs) (base : ℕ) (list : List Variable) (ps : Pairs) → map seen ps ≡ images_of found base list
    → (v : Variable) → pick (map (seen_renamed forced known) ps) v ≡ named forced known found base list v
named_images forced known found base list ps is v =
    ap (λ l. pick l v) (seen_again forced known ps ∙ ap (map (λ q. (q.0, renamed forced known q.1))) is ∙ images_again (renamed forced known) found base list)
    ∙ picked (renamed forced known) (λ w. image found (raised base w)) list v

-- what stands for a variable of a list
pub listed_images : (found : Pairs) (base : ℕ) (list : List Variable) (ps : Pairs) → map seen ps ≡ images_of found base list
    → (v : Variable) → image ps v ≡ (if has list v then image found (raised base v) else var v)
listed_images found base list ps is v =
    image_pick ps v ∙ ap (λ l. pick l v) is ∙ picked (λ t. t) (λ w. image found (raised base w)) list v

variables_seen : (ps : Pairs) → variables ps ≡ map (λ q. q.0) (map seen ps)
variables_seen [] = refl
variables_seen (p ∷ ps) = ap (λ (l : List Variable). p.0 ∷ l) (variables_seen ps)

variables_images : (found : Pairs) (base : ℕ) (list : List Variable) → map (λ q. q.0) (images_of found base list) ≡ list
variables_images found base [] = refl
variables_images found base (v ∷ vs) = ap (λ (l : List Variable). v ∷ l) (variables_images found base vs)

-- the images of a list have its variables
pub variables_listed : (found : Pairs) (base : ℕ) (list : List Variable) (ps : Pairs) → map seen ps ≡ images_of found base list → variables ps ≡ list
variables_listed found base list ps is = variables_seen ps ∙ ap (map (λ q. q.0)) is ∙ variables_images found base list

variables_renamed : (forced known : List Variable) (ps : Pairs) → map (λ q. q.0) (map (seen_renamed forced known) ps) ≡ variables ps
variables_renamed forced known [] = refl
variables_renamed forced known (p ∷ ps) = ap (λ (l : List Variable). p.0 ∷ l) (variables_renamed forced known ps)

-- new names within the terms keep the variables beside them
pub variables_kept : (forced known : List Variable) (ps rs : Pairs) → map seen rs ≡ map (seen_renamed forced known) ps → variables rs ≡ variables ps
variables_kept forced known ps rs is = variables_seen rs ∙ ap (map (λ q. q.0)) is ∙ variables_renamed forced known ps

pub images_ascend : (found : Pairs) (base : ℕ) (list : List Variable) (ps : Pairs) → Ascends list → map seen ps ≡ images_of found base list → Ascends (variables ps)
images_ascend found base list ps a is = subst Ascends (sym (variables_listed found base list ps is)) a

pub renamed_ascend : (forced known : List Variable) (ps rs : Pairs) → Ascends (variables ps) → map seen rs ≡ map (seen_renamed forced known) ps → Ascends (variables rs)
renamed_ascend forced known ps rs a is = subst Ascends (sym (variables_kept forced known ps rs is)) a

abbrev Below : Variable × Term → Variable × Term → Type 0
Below p q = variable_cmp p.0 q.0 ≡ Less

abbrev Moves : Variable × Term → Type 0
Moves p = p.1 ≢ term.Var p.0

left_out : (p : Variable × Term) (ps : Pairs) → same_term p.1 (term.Var p.0) ≡ true → moving (p ∷ ps) ≡ moving ps
left_out p ps e = rw e refl

kept : (p : Variable × Term) (ps : Pairs) → same_term p.1 (term.Var p.0) ≡ false → moving (p ∷ ps) ≡ p ∷ moving ps
kept p ps e = rw e refl

all_above : (v : Variable) (ps : Pairs) → BelowAll v (variables ps) → All (λ p. variable_cmp v p.0 ≡ Less) (moving ps)
all_above v [] b = All-nil (λ p. variable_cmp v p.0 ≡ Less)
all_above v (p ∷ ps) b = elim (true_or_false (same_term p.1 (term.Var p.0))) [
  | inl e ↦ subst (All (λ q. variable_cmp v q.0 ≡ Less)) (sym (left_out p ps e)) (all_above v ps b.1)
  | inr d ↦ subst (All (λ q. variable_cmp v q.0 ≡ Less)) (sym (kept p ps d)) (All-cons (λ q. variable_cmp v q.0 ≡ Less) p (moving ps) b.0 (all_above v ps b.1))
]

ascending_moving : (ps : Pairs) → Ascends (variables ps) → AllPairs Below (moving ps)
ascending_moving [] a = λ i j d lt in_range. absurd (omega arith)
ascending_moving (p ∷ ps) a = elim (true_or_false (same_term p.1 (term.Var p.0))) [
  | inl e ↦ subst (AllPairs Below) (sym (left_out p ps e)) (ascending_moving ps a.1)
  | inr d ↦ subst (AllPairs Below) (sym (kept p ps d)) (AllPairs-cons Below p (moving ps) (all_above p.0 ps a.0) (ascending_moving ps a.1))
]

moves_when : (p : Variable × Term) → same_term p.1 (term.Var p.0) ≡ false → Moves p
moves_when p d e = both_ways (same_term p.1 (term.Var p.0)) (ap (λ t. same_term t (term.Var p.0)) e ∙ same_term-refl (term.Var p.0)) d

moves_moving : (ps : Pairs) → All Moves (moving ps)
moves_moving [] = All-nil Moves
moves_moving (p ∷ ps) = elim (true_or_false (same_term p.1 (term.Var p.0))) [
  | inl e ↦ subst (All Moves) (sym (left_out p ps e)) (moves_moving ps)
  | inr d ↦ subst (All Moves) (sym (kept p ps d)) (All-cons Moves p (moving ps) (moves_when p d) (moves_moving ps))
]

-- the pairs that are left are those of a substitution
pub moving_is : (ps all : Pairs) → Ascends (variables ps) → all ≡ moving ps → IsSubstitution all
moving_is ps all a is = subst IsSubstitution (sym is) (record { ascending = ascending_moving ps a; moves = moves_moving ps })

absent : (v : Variable) (ps : Pairs) → BelowAll v (variables ps) → image ps v ≡ var v
absent v [] b = refl
absent v (p ∷ ps) b =
    let other : same_variable p.0 v ≡ false = elim (true_or_false (same_variable p.0 v)) [
      | inl e ↦ absurd (variable_cmp-irrefl v p.0 b.0 (sym (same_variable-true p.0 v e)))
      | inr d ↦ d
    ] in
    rw other (absent v ps b.1)

image_left_out : (p : Variable × Term) (ps : Pairs) (v : Variable) → same_term p.1 (term.Var p.0) ≡ true → BelowAll p.0 (variables ps) → image ps v ≡ image (p ∷ ps) v
image_left_out p ps v e b = elim (true_or_false (same_variable p.0 v)) [
  | inl s ↦ (
      let same : p.0 ≡ v = same_variable-true p.0 v s in
      let own : tree p.1 ≡ var p.0 = ap tree (same_term-true p.1 (term.Var p.0) e) ∙ tree-Var p.0 in
      let there : image (p ∷ ps) v ≡ tree p.1 = rw s refl in
      ap (image ps) (sym same) ∙ absent p.0 ps b ∙ sym own ∙ sym there)
  | inr d ↦ (let there : image (p ∷ ps) v ≡ image ps v = rw d refl in sym there)
]

image_moving : (ps : Pairs) (v : Variable) → Ascends (variables ps) → image (moving ps) v ≡ image ps v
image_moving [] v a = refl
image_moving (p ∷ ps) v a = elim (true_or_false (same_term p.1 (term.Var p.0))) [
  | inl e ↦ (ap (λ l. image l v) (left_out p ps e) ∙ image_moving ps v a.1 ∙ image_left_out p ps v e a.0)
  | inr d ↦ (ap (λ l. image l v) (kept p ps d) ∙ ap (λ (x : Tree). if same_variable p.0 v then tree p.1 else x) (image_moving ps v a.1))
]

-- to leave out pairs that change nothing changes nothing
pub moving_images : (ps all : Pairs) → Ascends (variables ps) → all ≡ moving ps → (v : Variable) → image all v ≡ image ps v
moving_images ps all a is v = ap (λ l. image l v) is ∙ image_moving ps v a

next_case : (p : Variable × Term) (b : Bool) (all rest : Pairs) → (if b then all else all ++ p ∷ []) ++ rest ≡ all ++ (if b then rest else p ∷ rest)
next_case p true all rest = refl
next_case p false all rest = append_assoc all (p ∷ []) rest

-- the pairs that are left so far, with one more pair looked at
pub next_moving : (ps all next whole : Pairs) (i : ℕ) (d : Variable × Term) → i < length ps
    → next ≡ (if same_term (get_or ps i d).1 (term.Var (get_or ps i d).0) then all else all ++ get_or ps i d ∷ [])
    → all ++ moving (drop i ps) ≡ whole → next ++ moving (drop (i + 1) ps) ≡ whole
next_moving ps all next whole i d h is before =
    let p = get_or ps i d in
    let step : moving (drop i ps) ≡ (if same_term p.1 (term.Var p.0) then moving (drop (i + 1) ps) else p ∷ moving (drop (i + 1) ps)) =
    ap moving (drop-cons ps i d h) ∙ ap (λ n. if same_term p.1 (term.Var p.0) then moving (drop n ps) else p ∷ moving (drop n ps)) (sym (add-one i)) in
    ap (λ l. l ++ moving (drop (i + 1) ps)) is
    ∙ next_case p (same_term p.1 (term.Var p.0)) all (moving (drop (i + 1) ps))
    ∙ ap (λ l. all ++ l) (sym step)
    ∙ before

-- the same of the code's values: the names are those of both premises' images
pub answer_named : (forced known F K : List Variable) (found : Pairs) (base : ℕ) (list : List Variable) (ps s : Pairs) → map seen ps ≡ images_of found base list
    → forced ≡ F → known ≡ K → ((v : Variable) → image s v ≡ pick (map (seen_renamed forced known) ps) v) → (v : Variable) → image s v ≡ named F K found base list v
answer_named forced known F K found base list ps s is f k e v =
    e v ∙ named_images forced known found base list ps is v
    ∙ ap (λ x. named x known found base list v) f ∙ ap (λ x. named F x found base list v) k

pub both_names : (of : List (Variable × Tree) → List (Variable × Tree) → List Variable) (names : List Variable) (left right l r : List (Variable × Tree))
    → names ≡ of left right → left ≡ l → right ≡ r → names ≡ of l r
both_names of names left right l r is el er = is ∙ ap (λ x. of x right) el ∙ ap (of l) er

pub renamed_result : {E : Type 0} (r : Result Pairs E) (F K forced known : List Variable) (ps rs : Pairs) → forced ≡ F → known ≡ K
    → map seen rs ≡ map (seen_renamed forced known) ps → IfOk r (λ s. (v : Variable) → image s v ≡ image rs v)
    → IfOk r (λ s. (v : Variable) → image s v ≡ pick (map (seen_renamed F K) ps) v)
renamed_result (Err e) F K forced known ps rs f k is h = tt
renamed_result (Ok s) F K forced known ps rs f k is h = λ v.
    h v ∙ image_pick rs v ∙ ap (λ l. pick l v) is
    ∙ ap (λ x. pick (map (seen_renamed x known) ps) v) f ∙ ap (λ x. pick (map (seen_renamed F x) ps) v) k
