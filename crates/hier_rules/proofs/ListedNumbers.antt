-- The places of a clause that are listed, its sides of equations, and its disequations.
use Rattle.std.proofs.Common.{◌≡◌, inl, inr, ℕ, zero, suc, ◌+◌, true, List, [], ◌∷◌, ◌++◌, refl, ap, sym, ◌∙◌, subst, arith}
use Rattle.std.specs.Prelude.{Some}
use Rattle.query_board.specs.declared.queries.Stamp.{Stamp}
use Rattle.term_base.specs.declared.places.Place.{Place}
use Rattle.term_base.specs.declared.places.Side.{Side}
use Rattle.term_base.specs.declared.places.Side.TheVariants.{Left, Right}
use Rattle.term_base.specs.declared.symbols.Symbol.{Symbol}
use Rattle.term_base.specs.Lits.{Relation, equal, differ, at_most, Lit}
use Rattle.term_base.specs.Places.{named, item, at_path}
use Rattle.term_base.specs.Trees.{Tree}
use Rattle.hier_rules.specs.declared.inferences.Candidate.{Candidate}
use Rattle.hier_rules.specs.declared.inferences.Candidate.TheVariants.{Resolve}
use Rattle.hier_rules.specs.Candidates.{both_sides, equation_sides, resolution_of, resolutions}
use Rattle.hier_rules.specs.CountedPlaces.{counts, paths, place_of, side_places, places}
use Rattle.hier_rules.specs.Premises.{IsEquation, IsDisequation}
use Rattle.hier_rules.proofs.ListedLists.{In, in_left, in_right, in_cases, in_map, map_in}
use Rattle.hier_rules.proofs.ListedPaths.{path_listed, listed_back}

-- ---- places

module _ (S : List Symbol) where
  side_in : (n : ℕ) (side : Side) (path : List ℕ) (t u : Tree) → at_path path t ≡ Some u → counts S u ≡ true → In (place_of n side path) (side_places S n side t)
  side_in n side path t u e h = in_map (place_of n side) (paths S [] t) path (path_listed S path [] t u e h)

  pub places_in : (c : List Lit) (n j : ℕ) (side : Side) (path : List ℕ) (m : Lit) (u : Tree) → item j c ≡ Some m → at_path path (named side m) ≡ Some u → counts S u ≡ true
      → In (place_of (n + j) side path) (places S n c)
  places_in [] n j side path m u there at h = cc
  places_in (l ∷ ls) n zero Left path m u there at h =
      let is : m ≡ l = cc in
      let same : n ≡ n + 0 = omega arith in
      subst (λ k. In (place_of k Left path) (places S n (l ∷ ls))) same
      (in_left (side_places S n Left l.left) (side_places S n Right l.right ++ places S (n + 1) ls) (place_of n Left path)
      (side_in n Left path l.left u (ap (λ (z : Lit). at_path path z.left) (sym is) ∙ at) h))
  places_in (l ∷ ls) n zero Right path m u there at h =
      let is : m ≡ l = cc in
      let same : n ≡ n + 0 = omega arith in
      subst (λ k. In (place_of k Right path) (places S n (l ∷ ls))) same
      (in_right (side_places S n Left l.left) (side_places S n Right l.right ++ places S (n + 1) ls) (place_of n Right path)
      (in_left (side_places S n Right l.right) (places S (n + 1) ls) (place_of n Right path)
      (side_in n Right path l.right u (ap (λ (z : Lit). at_path path z.right) (sym is) ∙ at) h)))
  places_in (l ∷ ls) n (suc j) side path m u there at h =
      let same : (n + 1) + j ≡ n + suc j = omega arith in
      in_right (side_places S n Left l.left) (side_places S n Right l.right ++ places S (n + 1) ls) (place_of (n + suc j) side path)
      (in_right (side_places S n Right l.right) (places S (n + 1) ls) (place_of (n + suc j) side path)
      (subst (λ k. In (place_of k side path) (places S (n + 1) ls)) same (places_in ls (n + 1) j side path m u there at h)))

  -- a place of the literals that are numbered from n
  pub record Placed (n : ℕ) (c : List Lit) (place : Place) : Type 0 where
    pub j : ℕ
    pub m : Lit
    pub u : Tree
    pub number : place.literal ≡ n + j
    pub literal : item j c ≡ Some m
    pub there : at_path place.path (named place.side m) ≡ Some u
    pub counted : counts S u ≡ true

  side_back : (n : ℕ) (side : Side) (l : Lit) (ls : List Lit) (place : Place) → In place (side_places S n side (named side l)) → Placed n (l ∷ ls) place
  side_back n side l ls place h =
      let r = map_in (place_of n side) (paths S [] (named side l)) place h in
      let listed = listed_back S (named side l) [] r.0 r.1.0 in
      let same : n ≡ n + 0 = omega arith in
      subst (λ (p : Place). Placed n (l ∷ ls) p) r.1.1 (record {
        j = 0;
        m = l;
        u = listed.u;
        number = same;
        literal = refl;
        there = ap (λ p. at_path p (named side l)) listed.is ∙ listed.there;
        counted = listed.counted;
      })

  pub places_back : (c : List Lit) (n : ℕ) (place : Place) → In place (places S n c) → Placed n c place
  places_back [] n place h = absurd h
  places_back (l ∷ ls) n place h = elim (in_cases (side_places S n Left l.left) (side_places S n Right l.right ++ places S (n + 1) ls) place h) [
    | inl a ↦ side_back n Left l ls place a
    | inr b ↦ (elim (in_cases (side_places S n Right l.right) (places S (n + 1) ls) place b) [
      | inl r ↦ side_back n Right l ls place r
      | inr later ↦ (
          let p = places_back ls (n + 1) place later in
          let same : (n + 1) + p.j ≡ n + suc p.j = omega arith in
          record { j = suc p.j; m = p.m; u = p.u; number = p.number ∙ same; literal = p.literal; there = p.there; counted = p.counted })
    ])
  ]

-- ---- sides of equations

both_in : (r : Relation) (n : ℕ) (side : Side) → r ≡ equal → In (n, side) (both_sides r n)
both_in equal n Left h = inl refl
both_in equal n Right h = inr (inl refl)
both_in differ n side h = cc
both_in at_most n side h = cc

pub sides_in : (c : List Lit) (n j : ℕ) (side : Side) (l : Lit) → IsEquation c j l → In (n + j, side) (equation_sides n c)
sides_in [] n j side l is = let e = is.there in cc
sides_in (k ∷ ks) n zero side l is =
    let e = is.there in
    let one : l ≡ k = cc in
    let same : n ≡ n + 0 = omega arith in
    subst (λ z. In (z, side) (equation_sides n (k ∷ ks))) same
    (in_left (both_sides k.relation n) (equation_sides (n + 1) ks) (n, side) (both_in k.relation n side (ap (λ (z : Lit). z.relation) (sym one) ∙ is.equation)))
sides_in (k ∷ ks) n (suc j) side l is =
    let same : (n + 1) + j ≡ n + suc j = omega arith in
    in_right (both_sides k.relation n) (equation_sides (n + 1) ks) (n + suc j, side)
    (subst (λ z. In (z, side) (equation_sides (n + 1) ks)) same (sides_in ks (n + 1) j side l (record { there = is.there; equation = is.equation })))

pub record Equation (n : ℕ) (c : List Lit) (number : ℕ) : Type 0 where
  pub j : ℕ
  pub l : Lit
  pub same : number ≡ n + j
  pub is : IsEquation c j l

both_back : (r : Relation) (n : ℕ) (p : ℕ × Side) → In p (both_sides r n) → (r ≡ equal) × (p.0 ≡ n)
both_back equal n p (inl e) = (refl, ap (λ (q : ℕ × Side). q.0) (sym e))
both_back equal n p (inr (inl e)) = (refl, ap (λ (q : ℕ × Side). q.0) (sym e))
both_back equal n p (inr (inr h)) = absurd h
both_back differ n p h = absurd h
both_back at_most n p h = absurd h

pub sides_back : (c : List Lit) (n : ℕ) (p : ℕ × Side) → In p (equation_sides n c) → Equation n c p.0
sides_back [] n p h = absurd h
sides_back (l ∷ ls) n p h = elim (in_cases (both_sides l.relation n) (equation_sides (n + 1) ls) p h) [
  | inl a ↦ (
      let b = both_back l.relation n p a in
      let same : n ≡ n + 0 = omega arith in
      record { j = 0; l = l; same = b.1 ∙ same; is = record { there = refl; equation = b.0 } })
  | inr b ↦ (
      let e = sides_back ls (n + 1) p b in
      let same : (n + 1) + e.j ≡ n + suc e.j = omega arith in
      record { j = suc e.j; l = e.l; same = e.same ∙ same; is = record { there = e.is.there; equation = e.is.equation } })
]

-- ---- disequations

one_in : (cs : Stamp) (r : Relation) (n : ℕ) → r ≡ differ → In (Resolve cs n) (resolution_of cs r n)
one_in cs equal n h = cc
one_in cs differ n h = inl refl
one_in cs at_most n h = cc

pub resolutions_in : (cs : Stamp) (c : List Lit) (n j : ℕ) (l : Lit) → IsDisequation c j l → In (Resolve cs (n + j)) (resolutions n c cs)
resolutions_in cs [] n j l is = let e = is.there in cc
resolutions_in cs (k ∷ ks) n zero l is =
    let e = is.there in
    let one : l ≡ k = cc in
    let same : n ≡ n + 0 = omega arith in
    subst (λ z. In (Resolve cs z) (resolutions n (k ∷ ks) cs)) same
    (in_left (resolution_of cs k.relation n) (resolutions (n + 1) ks cs) (Resolve cs n) (one_in cs k.relation n (ap (λ (z : Lit). z.relation) (sym one) ∙ is.disequation)))
resolutions_in cs (k ∷ ks) n (suc j) l is =
    let same : (n + 1) + j ≡ n + suc j = omega arith in
    in_right (resolution_of cs k.relation n) (resolutions (n + 1) ks cs) (Resolve cs (n + suc j))
    (subst (λ z. In (Resolve cs z) (resolutions (n + 1) ks cs)) same (resolutions_in cs ks (n + 1) j l (record { there = is.there; disequation = is.disequation })))

pub record Disequation (cs : Stamp) (n : ℕ) (c : List Lit) (x : Candidate) : Type 0 where
  pub j : ℕ
  pub l : Lit
  pub same : Resolve cs (n + j) ≡ x
  pub is : IsDisequation c j l

one_back : (cs : Stamp) (r : Relation) (n : ℕ) (x : Candidate) → In x (resolution_of cs r n) → (r ≡ differ) × (Resolve cs n ≡ x)
one_back cs equal n x h = absurd h
one_back cs differ n x (inl e) = (refl, e)
one_back cs differ n x (inr h) = absurd h
one_back cs at_most n x h = absurd h

pub resolutions_back : (cs : Stamp) (c : List Lit) (n : ℕ) (x : Candidate) → In x (resolutions n c cs) → Disequation cs n c x
resolutions_back cs [] n x h = absurd h
resolutions_back cs (l ∷ ls) n x h = elim (in_cases (resolution_of cs l.relation n) (resolutions (n + 1) ls cs) x h) [
  | inl a ↦ (
      let b = one_back cs l.relation n x a in
      let same : n + 0 ≡ n = omega arith in
      record { j = 0; l = l; same = ap (Resolve cs) same ∙ b.1; is = record { there = refl; disequation = b.0 } })
  | inr b ↦ (
      let e = resolutions_back cs ls (n + 1) x b in
      let same : n + suc e.j ≡ (n + 1) + e.j = omega arith in
      record { j = suc e.j; l = e.l; same = ap (Resolve cs) same ∙ e.same; is = record { there = e.is.there; disequation = e.is.disequation } })
]
