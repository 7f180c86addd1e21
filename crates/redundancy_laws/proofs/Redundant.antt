-- Tautologies and covered clauses under substitutions.
use Rattle.std.proofs.Common.{◌≡◌, ◌⊎◌, inl, inr, List, [], ◌∷◌, refl, ap, sym, ◌∙◌, subst}
use Rattle.term_base.specs.declared.symbols.Symbol.{Symbol}
use Rattle.term_base.specs.declared.variables.Variable.{Variable}
use Rattle.term_base.specs.LitLemmas.{clause_agree}
use Rattle.term_base.specs.Lits.{Lit, equation, disequation, inequality, put_lit, put_clause, Among, EachLit}
use Rattle.term_base.specs.Redundancy.{Tautology, equals_itself, at_most_itself, opposed, opposed_crosswise, DiffersFromItself, Covers}
use Rattle.term_base.specs.SubstLemmas.{put_in-var}
use Rattle.term_base.specs.Substitution.{put_in, Simple}
use Rattle.term_base.specs.Trees.{Tree, var}
use Rattle.term_base.specs.SimpleSubst.{simple-after}

module _ (s : Variable → Tree) where
  pub among-put : (l : Lit) (c : List Lit) → Among l c → Among (put_lit s l) (put_clause s c)
  among-put l [] m = absurd m
  among-put l (k ∷ ks) (inl e) = inl (ap (put_lit s) e)
  among-put l (k ∷ ks) (inr m) = inr (among-put l ks m)

  pub tautology-put : (c : List Lit) → Tautology c → Tautology (put_clause s c)
  tautology-put c (equals_itself t m) = equals_itself (put_in s t) (among-put (equation t t) c m)
  tautology-put c (at_most_itself t m) = at_most_itself (put_in s t) (among-put (inequality t t) c m)
  tautology-put c (opposed a b m n) = opposed (put_in s a) (put_in s b) (among-put (equation a b) c m) (among-put (disequation a b) c n)
  tautology-put c (opposed_crosswise a b m n) = opposed_crosswise (put_in s a) (put_in s b) (among-put (equation a b) c m) (among-put (disequation b a) c n)

  pub trivial-put : (l : Lit) → DiffersFromItself l → DiffersFromItself (put_lit s l)
  trivial-put l d = record { differs = d.differs; sides = ap (put_in s) d.sides }

-- a literal of k, or t != t
abbrev pub IsCovered : List Lit → Lit → Type 0
IsCovered k l = Among l k ⊎ DiffersFromItself l

covered-put : (s : Variable → Tree) (k : List Lit) (l : Lit) → IsCovered k l → IsCovered (put_clause s k) (put_lit s l)
covered-put s k l (inl m) = inl (among-put s l k m)
covered-put s k l (inr d) = inr (trivial-put s l d)

each-put : (s : Variable → Tree) (k c : List Lit) → EachLit (IsCovered k) c → EachLit (IsCovered (put_clause s k)) (put_clause s c)
each-put s k [] h = tt
each-put s k (l ∷ ls) h = (covered-put s k l h.0, each-put s k ls h.1)

-- a fact of each literal, of one among them
pub each_among : (P : Lit → Type 0) (c : List Lit) (l : Lit) → EachLit P c → Among l c → P l
each_among P [] l h m = absurd m
each_among P (k ∷ ks) l h (inl e) = subst P e h.0
each_among P (k ∷ ks) l h (inr m) = each_among P ks l h.1 m

-- literals of k under s, where those of k are covered by m
each-through : (s : Variable → Tree) (k m c : List Lit) → EachLit (IsCovered m) (put_clause s k) → EachLit (IsCovered k) c → EachLit (IsCovered m) (put_clause s c)
each-through s k m [] h e = tt
each-through s k m (l ∷ ls) h e = (one e.0, each-through s k m ls h e.1)
  where
    one : IsCovered k l → IsCovered m (put_lit s l)
    one (inl a) = each_among (IsCovered m) (put_clause s k) (put_lit s l) h (among-put s l k a)
    one (inr d) = inr (trivial-put s l d)

each_itself : (c : List Lit) (k : List Lit) → ((l : Lit) → Among l c → Among l k) → EachLit (IsCovered k) c
each_itself [] k h = tt
each_itself (l ∷ ls) k h = (inl (h l (inl refl)), each_itself ls k (λ z m. h z (inr m)))

put_lit-var : (l : Lit) → put_lit var l ≡ l
put_lit-var l =
    ap (λ (z : Tree). record { relation = l.relation; left = z; right = put_in var l.right }) (put_in-var l.left)
    ∙ ap (λ (z : Tree). record { relation = l.relation; left = l.left; right = z }) (put_in-var l.right)

pub put_clause-var : (c : List Lit) → put_clause var c ≡ c
put_clause-var [] = refl
put_clause-var (l ∷ ls) = let a = put_lit-var l in let b = put_clause-var ls in cc

pub var-simple : (S : List Symbol) → Simple S var
var-simple S = record { sorted = λ v. refl; pure = λ v is. record { no_foreground = refl; no_ordinary = ap Rattle.std.proofs.Common.not is } }

module _ (S : List Symbol) where
  -- a covered clause stays covered
  pub covered_stays : (s : Variable → Tree) → Simple S s → (e k : List Lit) → Covers S e k → Covers S e (put_clause s k)
  covered_stays s simple e k c = record {
    by = λ v. put_in s (c.by v);
    simple = simple-after S s c.by simple c.simple;
    each = subst (EachLit (IsCovered (put_clause s k))) (clause_agree s c.by (λ v. put_in s (c.by v)) e (λ v o. refl)) (each-put s k (put_clause c.by e) c.each);
  }

  -- what an instance covers the clause covers
  pub covers_by_instances : (s : Variable → Tree) → Simple S s → (e k : List Lit) → Covers S (put_clause s e) k → Covers S e k
  covers_by_instances s simple e k c = record {
    by = λ v. put_in c.by (s v);
    simple = simple-after S c.by s c.simple simple;
    each = subst (EachLit (IsCovered k)) (clause_agree c.by s (λ v. put_in c.by (s v)) e (λ v o. refl)) c.each;
  }

  pub covers_through : (e k m : List Lit) → Covers S e k → Covers S k m → Covers S e m
  covers_through e k m a b = record {
    by = λ v. put_in b.by (a.by v);
    simple = simple-after S b.by a.by b.simple a.simple;
    each = subst (EachLit (IsCovered m)) (clause_agree b.by a.by (λ v. put_in b.by (a.by v)) e (λ v o. refl)) (each-through b.by k m (put_clause a.by e) b.each a.each);
  }

  -- a clause covers each clause with its literals
  pub covers_more : (e k : List Lit) → ((l : Lit) → Among l e → Among l k) → Covers S e k
  covers_more e k h = record { by = var; simple = var-simple S; each = subst (EachLit (IsCovered k)) (sym (put_clause-var e)) (each_itself e k h) }
