-- Visits of the definition as visits of several nodes.
use Rattle.std.specs.Prelude.{◌≡◌, ℕ, suc, ◌+◌, ℤ, List, [], ◌∷◌, ◌++◌}
use Rattle.std.proofs.Common.{refl, sym, ◌∙◌, ap, arith, append_assoc}
use Rattle.lin_base.specs.declared.facts.Fact.{Fact}
use Rattle.lin_base.specs.Sum.{Valuation}
use Rattle.cert_tree.specs.declared.certs.Tree.{Tree}
use Rattle.cert_tree.specs.Search.{Found, closed, satisfied, Visit, Child, visit_each, node_of}
use Rattle.cooper.specs.Walks.{Walk, nothing, one_more, after, joined, then_walk, coming_back, rooted, under, found_one, one_child, child_walk, children_walk}
use Rattle.cooper.proofs.Walking.{walk, append_nil, joined_joined}

-- equal in their parts
pub walk_is : (n m : ℕ) (f g : Found (List Tree)) (zs ys : List ℤ) → n ≡ m → f ≡ g → zs ≡ ys → walk n f zs ≡ walk m g ys
walk_is n m f g zs ys count found formed = ap (λ k. walk k f zs) count ∙ ap (λ h. walk m h zs) found ∙ ap (walk m g) formed

-- ---- the children
first_joined : (f : Found (List Tree)) (t : Tree) → (let g : Found (List Tree) = elim f [ satisfied v ↦ satisfied v | closed ts ↦ closed (t ∷ ts) ] in g) ≡ joined (t ∷ []) f
first_joined (closed ts) t = refl
first_joined (satisfied v) t = refl

-- the first child, then the rest
first_then : (c : Child) (n : ℕ) (f : Found Tree) (zs : List ℤ) (rest : Visit (List Tree))
    → (let g : Visit (List Tree) = elim f [
      | satisfied v ↦ record { nodes = n; found = satisfied (c.back v); formed = c.formed ++ zs ++ c.back_formed v }
      | closed t ↦ record { nodes = n + rest.nodes; found = (elim rest.found [ satisfied v ↦ satisfied v | closed ts ↦ closed (t ∷ ts) ]); formed = c.formed ++ zs ++ rest.formed }
    ] in g)
    ≡ then_walk (after c.formed (coming_back c.back c.back_formed (walk n (found_one f) zs))) rest
first_then c n (satisfied v) zs rest = walk_is n n (satisfied (c.back v)) (satisfied (c.back v)) (c.formed ++ zs ++ c.back_formed v) (c.formed ++ (zs ++ c.back_formed v)) refl refl (append_assoc c.formed zs (c.back_formed v))
first_then c n (closed t) zs rest = walk_is (n + rest.nodes) (n + rest.nodes) _ (joined (t ∷ []) rest.found) (c.formed ++ zs ++ rest.formed) (c.formed ++ zs ++ rest.formed) refl (first_joined rest.found t) refl

pub each_walk : (visit : List Fact → Visit Tree) (cs : List Child) → visit_each visit cs ≡ children_walk visit cs
each_walk visit [] = refl
each_walk visit (c ∷ cs) =
    let first = visit c.facts in
    first_then c first.nodes first.found first.formed (visit_each visit cs)
    ∙ ap (λ u. then_walk (child_walk visit c) u) (each_walk visit cs)

made_one : (f : Found (List Tree)) (tree : List Tree → Tree) → found_one (let g : Found Tree = elim f [ satisfied v ↦ satisfied v | closed ts ↦ closed (tree ts) ] in g) ≡ rooted tree f
made_one (closed ts) tree = refl
made_one (satisfied v) tree = refl

pub node_walks : (tree : List Tree → Tree) (zs : List ℤ) (below : Walk) → one_child (node_of tree zs below) ≡ one_more (under tree (after zs below))
node_walks tree zs below = walk_is (suc below.nodes) (suc below.nodes) _ (rooted tree below.found) (zs ++ below.formed) (zs ++ below.formed) refl (made_one below.found tree) refl

-- ---- one after another
pub then_nothing : (w : Walk) → then_walk nothing w ≡ w
then_nothing w = walk_is (0 + w.nodes) w.nodes (joined [] w.found) w.found w.formed w.formed (omega arith) (none w.found) refl
  where
    none : (f : Found (List Tree)) → joined [] f ≡ f
    none (satisfied v) = refl
    none (closed ts) = refl

pub walk_none : (w : Walk) → then_walk w nothing ≡ w
walk_none w = cases w.nodes w.found w.formed
  where
    cases : (n : ℕ) (f : Found (List Tree)) (zs : List ℤ) → then_walk (walk n f zs) nothing ≡ walk n f zs
    cases n (satisfied v) zs = refl
    cases n (closed ts) zs = walk_is (n + 0) n (closed (ts ++ [])) (closed ts) (zs ++ []) zs (omega arith) (ap closed (sym (append_nil ts))) (sym (append_nil zs))

pub then_assoc : (a b c : Walk) → then_walk (then_walk a b) c ≡ then_walk a (then_walk b c)
then_assoc a b c = cases a.nodes a.found a.formed b.nodes b.found b.formed
  where
    cases : (n : ℕ) (f : Found (List Tree)) (zs : List ℤ) (m : ℕ) (g : Found (List Tree)) (ys : List ℤ) → then_walk (then_walk (walk n f zs) (walk m g ys)) c ≡ then_walk (walk n f zs) (then_walk (walk m g ys) c)
    cases n (satisfied v) zs m g ys = refl
    cases n (closed ts) zs m (satisfied u) ys = refl
    cases n (closed ts) zs m (closed us) ys = walk_is (n + m + c.nodes) (n + (m + c.nodes)) (joined (ts ++ us) c.found) (joined ts (joined us c.found)) (zs ++ ys ++ c.formed) (zs ++ (ys ++ c.formed)) (omega arith) (joined_joined ts us c.found) (append_assoc zs ys c.formed)

pub children-append : (visit : List Fact → Visit Tree) (cs ds : List Child) → children_walk visit (cs ++ ds) ≡ then_walk (children_walk visit cs) (children_walk visit ds)
children-append visit [] ds = sym (then_nothing (children_walk visit ds))
children-append visit (c ∷ cs) ds = ap (then_walk (child_walk visit c)) (children-append visit cs ds) ∙ sym (then_assoc (child_walk visit c) (children_walk visit cs) (children_walk visit ds))

-- numbers before the first of two
pub after_then : (zs : List ℤ) (a b : Walk) → then_walk (after zs a) b ≡ after zs (then_walk a b)
after_then zs a b = cases a.nodes a.found a.formed
  where
    cases : (n : ℕ) (f : Found (List Tree)) (ys : List ℤ) → then_walk (after zs (walk n f ys)) b ≡ after zs (then_walk (walk n f ys) b)
    cases n (satisfied v) ys = refl
    cases n (closed ts) ys = walk_is (n + b.nodes) (n + b.nodes) (joined ts b.found) (joined ts b.found) (zs ++ ys ++ b.formed) (zs ++ (ys ++ b.formed)) refl refl (append_assoc zs ys b.formed)

pub after_after_walk : (zs ys : List ℤ) (w : Walk) → after (zs ++ ys) w ≡ after zs (after ys w)
after_after_walk zs ys w = walk_is w.nodes w.nodes w.found w.found (zs ++ ys ++ w.formed) (zs ++ (ys ++ w.formed)) refl refl (append_assoc zs ys w.formed)

-- values that come back
pub back_same : (b c : Valuation → Valuation) (f g : Valuation → List ℤ) → ((v : Valuation) → b v ≡ c v) → ((v : Valuation) → f v ≡ g v) → (w : Walk) → coming_back b f w ≡ coming_back c g w
back_same b c f g is formed w = cases w.nodes w.found w.formed
  where
    cases : (n : ℕ) (o : Found (List Tree)) (zs : List ℤ) → coming_back b f (walk n o zs) ≡ coming_back c g (walk n o zs)
    cases n (closed ts) zs = refl
    cases n (satisfied v) zs = walk_is n n (satisfied (b v)) (satisfied (c v)) (zs ++ f v) (zs ++ g v) refl (ap satisfied (is v)) (ap (λ ys. zs ++ ys) (formed v))

pub as_it_was : (w : Walk) → coming_back (λ v. v) (λ v. []) w ≡ w
as_it_was w = cases w.nodes w.found w.formed
  where
    cases : (n : ℕ) (o : Found (List Tree)) (zs : List ℤ) → coming_back (λ v. v) (λ v. []) (walk n o zs) ≡ walk n o zs
    cases n (closed ts) zs = refl
    cases n (satisfied v) zs = walk_is n n (satisfied v) (satisfied v) (zs ++ []) zs refl refl (sym (append_nil zs))
