-- Ground says what the clause says for all values of its variables.
use Rattle.std.specs.Prelude.{◌≡◌, ℕ, ◌+◌, ℤ, true, false, not, ◌==◌, IsTrue, length, List, [], ◌∷◌, ◌++◌, map, ◌↔◌}
use Rattle.std.specs.List.{list_all, enumerate_from, AllByRecursion}
use Rattle.std.proofs.Common.{refl, sym, ◌∙◌, ap, inl, inr}
use Rattle.std.proofs.lemmas.Bool.{cases_Bool, eqb-true, eqb-false, ne_eqb}
use Rattle.lin_base.specs.declared.facts.Fact.{Fact}
use Rattle.lin_base.specs.Sum.{Terms, Valuation, assigned, occurs}
use Rattle.lin_base.specs.Fact.{clause_holds, sum_of}
use Rattle.lin_base.proofs.Values.{assigned-same, assigned-other}
use Rattle.lin_base.proofs.Truth.{same_holds}
use Rattle.cert_tree.specs.declared.certs.Row.{Row}
use Rattle.cert_tree.specs.Counting.{is_one_of, occurs_in}
use Rattle.cert_tree.specs.Rows.{row_clause}
use Rattle.cert_tree.specs.Complete.{complete_rows, complete_steps}
use Rattle.cert_tree.specs.Ground.{Grounding, Numbered, then_ground, ground_each, ground_by}
use Rattle.cert_tree.proofs.Least.{EachProper}
use Rattle.cert_tree.proofs.RowsSound.{holds_without, or_none}
use Rattle.cert_tree.proofs.Shift.{rows_shift, rows_proper}

-- the same values but for these unknowns
abbrev pub AgreeOff : List ℕ → Valuation → Valuation → Type 0
AgreeOff xs v w = (y : ℕ) → is_one_of xs y ≡ false → w y ≡ v y

abbrev pub TrueOff : List ℕ → Valuation → List Fact → Type 0
TrueOff xs v clause = (w : Valuation) → AgreeOff xs v w → IsTrue (clause_holds w clause)

abbrev pub AllTrue : Valuation → List Numbered → Type 0
AllTrue v clauses = AllByRecursion (λ c. IsTrue (clause_holds v c.1)) clauses

-- ---- the same values, the same truth
all_true : (ts : Terms) → list_all (λ e. true) ts ≡ true
all_true [] = refl
all_true (t ∷ ts) = all_true ts

pub same_clause : (v w : Valuation) → ((y : ℕ) → w y ≡ v y) → (clause : List Fact) → clause_holds w clause ≡ clause_holds v clause
same_clause v w same [] = refl
same_clause v w same (f ∷ fs) = rw (same_holds (λ x. true) w v (λ x _. same x) f (all_true (sum_of f).coefs), same_clause v w same fs) refl

clause_without : (v : Valuation) (x : ℕ) (z : ℤ) (clause : List Fact) → occurs_in x clause ≡ false → clause_holds (assigned x z v) clause ≡ clause_holds v clause
clause_without v x z [] o = refl
clause_without v x z (f ∷ fs) o =
    let both = or_none (occurs x (sum_of f)) (occurs_in x fs) o in
    rw (holds_without v x z f both.0, clause_without v x z fs both.1) refl

-- ---- one unknown more
off_more : (x : ℕ) (xs : List ℕ) (v w : Valuation) (z : ℤ) → AgreeOff xs v w → AgreeOff (x ∷ xs) v (assigned x z w)
off_more x xs v w z agree y h =
    let both = or_none (x == y) (is_one_of xs y) h in
    assigned-other w x y z (ap not (ne_eqb y x (λ e. eqb-false x y both.0 (sym e)))) ∙ agree y both.1

off_less : (x : ℕ) (xs : List ℕ) (v w : Valuation) → AgreeOff (x ∷ xs) v w → AgreeOff xs v (assigned x (v x) w)
off_less x xs v w agree y h =
    elim (cases_Bool (y == x)) [
      | inl same ↦ ap (assigned x (v x) w) (eqb-true y x same) ∙ assigned-same w x (v x) ∙ ap v (sym (eqb-true y x same))
      | inr other ↦ assigned-other w x y (v x) (ap not other) ∙ agree y (rw (ne_eqb x y (λ e. eqb-false y x other (sym e)), h) refl)
    ]

back_again : (x : ℕ) (v w : Valuation) → (y : ℕ) → assigned x (w x) (assigned x (v x) w) y ≡ w y
back_again x v w y =
    elim (cases_Bool (y == x)) [
      | inl same ↦ ap (assigned x (w x) (assigned x (v x) w)) (eqb-true y x same) ∙ assigned-same (assigned x (v x) w) x (w x) ∙ ap w (sym (eqb-true y x same))
      | inr other ↦ assigned-other (assigned x (v x) w) x y (w x) (ap not other) ∙ assigned-other w x y (v x) (ap not other)
    ]

-- true for all values of x as well
true_more : (x : ℕ) (xs : List ℕ) (v : Valuation) (clause : List Fact) → ((w : Valuation) → AgreeOff xs v w → (z : ℤ) → IsTrue (clause_holds (assigned x z w) clause)) ↔ TrueOff (x ∷ xs) v clause
true_more x xs v clause = (
  (λ h w agree. sym (same_clause w (assigned x (w x) (assigned x (v x) w)) (back_again x v w) clause) ∙ h (assigned x (v x) w) (off_less x xs v w agree) (w x)),
  (λ h w agree z. h (assigned x z w) (off_more x xs v w z agree)),
)

-- ---- lists
all_both : (P : Numbered → Type 0) (xs ys : List Numbered) → AllByRecursion P (xs ++ ys) ↔ (AllByRecursion P xs × AllByRecursion P ys)
all_both P [] ys = ((λ h. (tt, h)), (λ h. h.1))
all_both P (x ∷ xs) ys = ((λ h. let r = (all_both P xs ys).0 h.1 in ((h.0, r.0), r.1)), (λ h. (h.0.0, (all_both P xs ys).1 (h.0.1, h.1))))

abbrev IsGroundOf : List ℕ → (ℕ → Numbered → Grounding) → Type 0
IsGroundOf xs grounding = (next : ℕ) (c : Numbered) (v : Valuation) → EachProper c.1 → AllTrue v (grounding next c).clauses ↔ TrueOff xs v c.1

each_truth : (xs : List ℕ) (grounding : ℕ → Numbered → Grounding) → IsGroundOf xs grounding → (v : Valuation) (clause : List Fact) (next start : ℕ) (rows : List Row) → AllByRecursion (λ row. EachProper (row_clause clause row)) rows → AllTrue v (ground_each grounding next (enumerate_from start (map (row_clause clause) rows))).clauses ↔ AllByRecursion (λ row. TrueOff xs v (row_clause clause row)) rows
each_truth xs grounding is v clause next start [] proper = ((λ h. tt), (λ h. tt))
each_truth xs grounding is v clause next start (r ∷ rs) proper =
    let c : Numbered = (start, row_clause clause r) in
    let rest : Grounding = ground_each grounding (next + length (grounding next c).rows) (enumerate_from (start + 1) (map (row_clause clause) rs)) in
    let b = all_both (λ e. IsTrue (clause_holds v e.1)) (grounding next c).clauses rest.clauses in
    let here = is next c v proper.0 in
    let more = each_truth xs grounding is v clause (next + length (grounding next c).rows) (start + 1) rs proper.1 in
    ((λ h. let s = b.0 h in (here.0 s.0, more.0 s.1)), (λ h. b.1 (here.1 h.0, more.1 h.1)))

swap_all : (xs : List ℕ) (v : Valuation) (clause : List Fact) (rows : List Row) → AllByRecursion (λ row. TrueOff xs v (row_clause clause row)) rows ↔ ((w : Valuation) → AgreeOff xs v w → AllByRecursion (λ row. IsTrue (clause_holds w (row_clause clause row))) rows)
swap_all xs v clause [] = ((λ h w a. tt), (λ h. tt))
swap_all xs v clause (r ∷ rs) =
    let more = swap_all xs v clause rs in
    ((λ h w a. (h.0 w a, more.0 h.1 w a)), (λ h. ((λ w a. (h w a).0), more.1 (λ w a. (h w a).1))))

-- ---- Ground
pub ground_truth : (xs : List ℕ) → IsGroundOf xs (ground_by xs)
ground_truth [] next c v proper = ((λ h w agree. same_clause v w (λ y. agree y refl) c.1 ∙ h.0), (λ h. (h v (λ y _. refl), tt)))
ground_truth (x ∷ xs) next c v proper =
    let rows = complete_rows c.0 x c.1 in
    let more : Grounding = then_ground (record { rows = rows; clauses = []; steps = complete_steps x c.1 }) (ground_each (ground_by xs) (next + length rows) (enumerate_from next (map (row_clause c.1) rows))) in
    let e = each_truth xs (ground_by xs) (ground_truth xs) v c.1 (next + length rows) next rows (rows_proper c.0 x c.1 proper) in
    let s = swap_all xs v c.1 rows in
    let t = true_more x xs v c.1 in
    (elim (occurs_in x c.1) as (λ b. occurs_in x c.1 ≡ b → AllTrue v (let g : Grounding = elim b [ true ↦ more | false ↦ ground_by xs next c ] in g.clauses) ↔ TrueOff (x ∷ xs) v c.1) [
      | true ↦ (λ _. (
        (λ h. t.0 (λ w a z. (rows_shift c.0 c.1 x w proper).1 (s.0 (e.0 h) w a) z)),
        (λ h. e.1 (s.1 (λ w a. (rows_shift c.0 c.1 x w proper).0 (t.1 h w a)))),
      ))
      | false ↦ (λ o.
          let g = ground_truth xs next c v proper in (
            (λ h. t.0 (λ w a z. clause_without w x z c.1 o ∙ g.0 h w a)),
            (λ h. g.1 (λ w a. sym (clause_without w x (w x) c.1 o) ∙ t.1 h w a (w x))),
          ))
    ]) refl
