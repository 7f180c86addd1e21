-- Equal candidates, and the test for them.
use Rattle.std.specs.Prelude.{◌≡◌, ◌↔◌, ℕ, ◌==◌, Bool, true, ◌&&◌, List, [], ◌∷◌}
use Rattle.std.proofs.Common.{refl, ◌∙◌, ap, sym}
use Rattle.std.proofs.lemmas.Bool.{and_parts, and_from, eqb-true, eq-eqb}
use Rattle.term_base.specs.declared.places.Place.{Place}
use Rattle.term_base.specs.declared.places.Side.{Side}
use Rattle.term_base.specs.declared.places.Side.TheVariants.{Left, Right}
use Rattle.term_base.specs.SameTerm.{same_term, same_term-true, same_term-refl, either}
use Rattle.query_board.specs.Stamps.{same_stamp}
use Rattle.query_board.specs.StampLemmas.{same_stamp-true, same_stamp-refl}
use Rattle.hier_rules.specs.declared.inferences.Candidate.{Candidate}
use Rattle.hier_rules.specs.declared.inferences.Candidate.TheVariants as candidate
use Rattle.hier_rules.specs.SameCandidates.{same_side, same_path, same_place, same_candidate}

pub same_side-true : (s t : Side) → same_side s t ≡ true → s ≡ t
same_side-true Left Left h = refl
same_side-true Right Right h = refl
same_side-true Left Right h = cc
same_side-true Right Left h = cc

pub same_path-true : (p q : List ℕ) → same_path p q ≡ true → p ≡ q
same_path-true [] [] h = refl
same_path-true (m ∷ ms) (n ∷ ns) h =
    let t = and_parts (m == n) (same_path ms ns) h in
    ap (λ x. x ∷ ms) (eqb-true m n t.0) ∙ ap (λ l. n ∷ l) (same_path-true ms ns t.1)
same_path-true [] (n ∷ ns) h = cc
same_path-true (m ∷ ms) [] h = cc

abbrev place : ℕ → Side → List ℕ → Place
place l s p = record { literal = l; side = s; path = p }

pub same_place-true : (p q : Place) → same_place p q ≡ true → p ≡ q
same_place-true p q h =
    let t = and_parts (p.literal == q.literal) (same_side p.side q.side && same_path p.path q.path) h in
    let u = and_parts (same_side p.side q.side) (same_path p.path q.path) t.1 in
    ap (λ x. place x p.side p.path) (eqb-true p.literal q.literal t.0) ∙ ap (λ x. place q.literal x p.path) (same_side-true p.side q.side u.0) ∙ ap (place q.literal q.side) (same_path-true p.path q.path u.1)

pub same_candidate-true : (c d : Candidate) → same_candidate c d ≡ true → c ≡ d
same_candidate-true (candidate.Superpose f l s i p) (candidate.Superpose g m t j q) h =
    let a = and_parts (same_stamp f g) (l == m && (same_side s t && (same_stamp i j && same_place p q))) h in
    let b = and_parts (l == m) (same_side s t && (same_stamp i j && same_place p q)) a.1 in
    let c = and_parts (same_side s t) (same_stamp i j && same_place p q) b.1 in
    let d = and_parts (same_stamp i j) (same_place p q) c.1 in
    let e1 : f ≡ g = same_stamp-true f g a.0 in
    let e2 : l ≡ m = eqb-true l m b.0 in
    let e3 : s ≡ t = same_side-true s t c.0 in
    let e4 : i ≡ j = same_stamp-true i j d.0 in
    let e5 : p ≡ q = same_place-true p q d.1 in cc
same_candidate-true (candidate.Resolve f l) (candidate.Resolve g m) h =
    let a = and_parts (same_stamp f g) (l == m) h in
    let e1 : f ≡ g = same_stamp-true f g a.0 in
    let e2 : l ≡ m = eqb-true l m a.1 in cc
same_candidate-true (candidate.Factor f l s m t) (candidate.Factor g n u o v) h =
    let a = and_parts (same_stamp f g) (l == n && (same_side s u && (m == o && same_side t v))) h in
    let b = and_parts (l == n) (same_side s u && (m == o && same_side t v)) a.1 in
    let c = and_parts (same_side s u) (m == o && same_side t v) b.1 in
    let d = and_parts (m == o) (same_side t v) c.1 in
    let e1 : f ≡ g = same_stamp-true f g a.0 in
    let e2 : l ≡ n = eqb-true l n b.0 in
    let e3 : s ≡ u = same_side-true s u c.0 in
    let e4 : m ≡ o = eqb-true m o d.0 in
    let e5 : t ≡ v = same_side-true t v d.1 in cc
same_candidate-true (candidate.Define f t) (candidate.Define g u) h =
    let a = and_parts (same_stamp f g) (same_term t u) h in
    let e1 : f ≡ g = same_stamp-true f g a.0 in
    let e2 : t ≡ u = same_term-true t u a.1 in cc
same_candidate-true (candidate.Superpose f l s i p) (candidate.Resolve g m) h = cc
same_candidate-true (candidate.Superpose f l s i p) (candidate.Factor g n u o v) h = cc
same_candidate-true (candidate.Superpose f l s i p) (candidate.Define g u) h = cc
same_candidate-true (candidate.Resolve f l) (candidate.Superpose g m t j q) h = cc
same_candidate-true (candidate.Resolve f l) (candidate.Factor g n u o v) h = cc
same_candidate-true (candidate.Resolve f l) (candidate.Define g u) h = cc
same_candidate-true (candidate.Factor f l s m t) (candidate.Superpose g n u j q) h = cc
same_candidate-true (candidate.Factor f l s m t) (candidate.Resolve g n) h = cc
same_candidate-true (candidate.Factor f l s m t) (candidate.Define g u) h = cc
same_candidate-true (candidate.Define f t) (candidate.Superpose g m u j q) h = cc
same_candidate-true (candidate.Define f t) (candidate.Resolve g m) h = cc
same_candidate-true (candidate.Define f t) (candidate.Factor g n u o v) h = cc

pub same_side-refl : (s : Side) → same_side s s ≡ true
same_side-refl Left = refl
same_side-refl Right = refl

pub same_path-refl : (p : List ℕ) → same_path p p ≡ true
same_path-refl [] = refl
same_path-refl (m ∷ ms) = and_from (m == m) (same_path ms ms) (eq-eqb m m refl) (same_path-refl ms)

pub same_place-refl : (p : Place) → same_place p p ≡ true
same_place-refl p = and_from (p.literal == p.literal) (same_side p.side p.side && same_path p.path p.path)
    (eq-eqb p.literal p.literal refl)
    (and_from (same_side p.side p.side) (same_path p.path p.path) (same_side-refl p.side) (same_path-refl p.path))

pub same_candidate-refl : (c : Candidate) → same_candidate c c ≡ true
same_candidate-refl (candidate.Superpose f l s i p) =
    and_from (same_stamp f f) (l == l && (same_side s s && (same_stamp i i && same_place p p))) (same_stamp-refl f)
    (and_from (l == l) (same_side s s && (same_stamp i i && same_place p p)) (eq-eqb l l refl)
    (and_from (same_side s s) (same_stamp i i && same_place p p) (same_side-refl s)
    (and_from (same_stamp i i) (same_place p p) (same_stamp-refl i) (same_place-refl p))))
same_candidate-refl (candidate.Resolve f l) = and_from (same_stamp f f) (l == l) (same_stamp-refl f) (eq-eqb l l refl)
same_candidate-refl (candidate.Factor f l s m t) =
    and_from (same_stamp f f) (l == l && (same_side s s && (m == m && same_side t t))) (same_stamp-refl f)
    (and_from (l == l) (same_side s s && (m == m && same_side t t)) (eq-eqb l l refl)
    (and_from (same_side s s) (m == m && same_side t t) (same_side-refl s)
    (and_from (m == m) (same_side t t) (eq-eqb m m refl) (same_side-refl t))))
same_candidate-refl (candidate.Define f t) = and_from (same_stamp f f) (same_term t t) (same_stamp-refl f) (same_term-refl t)

-- the tests of paths and of candidates are equality
pub paths_equal : (b : Bool) (p q : List ℕ) → ((b ≡ true) ↔ (p ≡ q)) → b ≡ same_path p q
paths_equal b p q h = either b (same_path p q)
    (λ t. ap (same_path p) (sym (h.0 t)) ∙ same_path-refl p)
    (λ t. h.1 (same_path-true p q t))

pub candidates_equal : (b : Bool) (c d : Candidate) → b ≡ same_candidate c d → (b ≡ true) ↔ (c ≡ d)
candidates_equal b c d is = (
  λ h. same_candidate-true c d (sym is ∙ h),
  λ e. is ∙ ap (same_candidate c) (sym e) ∙ same_candidate-refl c,
)
