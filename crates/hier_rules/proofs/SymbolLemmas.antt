-- The symbols of what fires, and of the substitutions by which it fires, are those of the premises.
use Rattle.std.proofs.Common.{◌≡◌, ℕ, true, List, ap, ◌∙◌}
use Rattle.std.specs.Prelude.{Some}
use Rattle.term_base.specs.declared.places.Place.{Place}
use Rattle.term_base.specs.declared.places.Side.{Side}
use Rattle.term_base.specs.declared.symbols.Symbol.{Symbol}
use Rattle.term_base.specs.declared.variables.Variable.{Variable}
use Rattle.term_base.specs.Known.{is_known, is_known_clause, KnownImages}
use Rattle.term_base.specs.KnownLemmas.{and-both, put_clause-known, named-known, other-known, item-known, left_out-known, changed-known, append-known, tree_at-known, replaced-known}
use Rattle.term_base.specs.LitLemmas.{item-put}
use Rattle.term_base.specs.Lits.{Lit, put_lit, put_clause, disequation}
use Rattle.term_base.specs.Places.{named, other, left_out, item, tree_at, replaced}
use Rattle.term_base.specs.Trees.{Tree}
use Rattle.hier_rules.specs.declared.inferences.Candidate.{Candidate}
use Rattle.hier_rules.specs.declared.inferences.Candidate.TheVariants.{Superpose, Resolve, Factor, Define}
use Rattle.hier_rules.specs.Conclusions.{KnownPair, KnownOne, ChangesNothing}
use Rattle.hier_rules.specs.Fires.{Superposes, Resolves, Factors, Fires}

-- ---- substitutions

-- a side of a literal of a clause of known symbols, given as another tree that equals it
pub side_known : (n number : ℕ) (c : List Lit) (l : Lit) (side : Side) (x : Tree) → item number c ≡ Some l → x ≡ named side l → is_known_clause n c ≡ true → is_known n x ≡ true
side_known n number c l side x there is h = ap (is_known n) is ∙ named-known n side l (item-known n number c l there h)

-- substitutions with the symbols of two terms alone have those of their clauses alone
pub superposition_known : (c d : List Lit) (number : ℕ) (side : Side) (place : Place) (l : Lit) (x u : Tree) → item number c ≡ Some l → x ≡ named side l → tree_at d place ≡ Some u
    → (s1 s2 : Variable → Tree) → ((n : ℕ) → is_known n x ≡ true → is_known n u ≡ true → KnownImages n s1 × KnownImages n s2) → KnownPair c d s1 s2
superposition_known c d number side place l x u there is at s1 s2 found n p q =
    found n (side_known n number c l side x there is p) (tree_at-known n d place u at q)

pub sides_known : (c : List Lit) (first second : ℕ) (first_side second_side : Side) (l m : Lit) (x y : Tree) → item first c ≡ Some l → x ≡ named first_side l
    → item second c ≡ Some m → y ≡ named second_side m → (s : Variable → Tree) → ((n : ℕ) → is_known n x ≡ true → is_known n y ≡ true → KnownImages n s)
    → (n : ℕ) → is_known_clause n c ≡ true → KnownImages n s
sides_known c first second first_side second_side l m x y there1 is1 there2 is2 s found n p =
    found n (side_known n first c l first_side x there1 is1 p) (side_known n second c m second_side y there2 is2 p)

-- with a second substitution that changes nothing
pub one_known : (c : List Lit) (s1 s2 : Variable → Tree) → ((n : ℕ) → is_known_clause n c ≡ true → KnownImages n s1) → ChangesNothing s2 → KnownOne c s1 s2
one_known c s1 s2 first second n p = (first n p, λ v. ap (is_known n) (second v))

-- ---- clauses

module _ (S : List Symbol) (n : ℕ) where
  superposes_known : (c d : List Lit) (number : ℕ) (side : Side) (place : Place) (s1 s2 : Variable → Tree) (k : List Lit) → KnownImages n s1 → KnownImages n s2
      → is_known_clause n c ≡ true → is_known_clause n d ≡ true → Superposes S c d number side place s1 s2 k → is_known_clause n k ≡ true
  superposes_known c d number side place s1 s2 k known1 known2 p q f =
      let c1 = put_clause s1 c in
      let d1 = put_clause s2 d in
      let l1 = put_lit s1 f.l in
      let p1 : is_known_clause n c1 ≡ true = put_clause-known n s1 known1 c p in
      let new : is_known n (other side l1) ≡ true = other-known n side l1 (item-known n number c1 l1 (item-put s1 number c f.l f.premises.from.there) p1) in
      ap (is_known_clause n) f.conclusion
      ∙ append-known n (left_out number c1) (replaced d1 place (other side l1)) (left_out-known n number c1 p1)
      (replaced-known n d1 place (other side l1) new (put_clause-known n s2 known2 d q))

  resolves_known : (c : List Lit) (number : ℕ) (s1 : Variable → Tree) (k : List Lit) → KnownImages n s1 → is_known_clause n c ≡ true → Resolves S c number s1 k
      → is_known_clause n k ≡ true
  resolves_known c number s1 k known1 p f = ap (is_known_clause n) f.conclusion ∙ left_out-known n number (put_clause s1 c) (put_clause-known n s1 known1 c p)

  factors_known : (c : List Lit) (first : ℕ) (first_side : Side) (second : ℕ) (second_side : Side) (s1 : Variable → Tree) (k : List Lit) → KnownImages n s1
      → is_known_clause n c ≡ true → Factors S c first first_side second second_side s1 k → is_known_clause n k ≡ true
  factors_known c first first_side second second_side s1 k known1 p f =
      let c1 = put_clause s1 c in
      let l1 = put_lit s1 f.l in
      let m1 = put_lit s1 f.m in
      let p1 : is_known_clause n c1 ≡ true = put_clause-known n s1 known1 c p in
      let r = other-known n first_side l1 (item-known n first c1 l1 (item-put s1 first c f.l f.premise.from.there) p1) in
      let t = other-known n second_side m1 (item-known n second c1 m1 (item-put s1 second c f.m f.premise.into.there) p1) in
      ap (is_known_clause n) f.conclusion
      ∙ changed-known n second (disequation (other first_side l1) (other second_side m1)) c1
      (and-both (is_known n (other first_side l1)) (is_known n (other second_side m1)) r t) p1

  pub fires_known : (c d : List Lit) (candidate : Candidate) (s1 s2 : Variable → Tree) (k : List Lit) → is_known_clause n c ≡ true → is_known_clause n d ≡ true
      → KnownImages n s1 → KnownImages n s2 → Fires S c d candidate s1 s2 k → is_known_clause n k ≡ true
  fires_known c d (Superpose from number side into place) s1 s2 k p q known1 known2 f = superposes_known c d number side place s1 s2 k known1 known2 p q f.by_rule
  fires_known c d (Resolve of number) s1 s2 k p q known1 known2 f = resolves_known c number s1 k known1 p f.by_rule
  fires_known c d (Factor of first first_side second second_side) s1 s2 k p q known1 known2 f = factors_known c first first_side second second_side s1 k known1 p f.by_rule
  fires_known c d (Define of term) s1 s2 k p q known1 known2 f = absurd f.by_rule
