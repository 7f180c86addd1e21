-- Trees by their levels.
use Rattle.std.proofs.Common.{◌≡◌, ℕ, zero, suc, ◌+◌, List, [], ◌∷◌, sym, subst, ◌∙◌, arith}
use Rattle.cert_tree.specs.declared.certs.Tree.{Tree}
use Rattle.cert_text.specs.declared.kinds.NodeKind.{NodeKind}
use Rattle.cert_text.specs.declared.kinds.NodeKind.TheVariants.{Case, Combine, Cut, Branch, Residues, Solve, Least, Clash}
use Rattle.text_pieces.specs.Languages.{Cat, Blank, Image, Times}
use Rattle.text_pieces.specs.Numbers.{Number, Any, Counted}
use Rattle.cert_text.specs.Grammar.{Index, Modulus, Sum, Multiple, NodeWord, NodeParts, Node, TreeWithin, SpellsTree}

-- ---- languages that grow to one
pub record Limit {A : Type 0} (F : ℕ → A → List ℕ → Type 0) (G : A → List ℕ → Type 0) : Type 0 where
  pub more : (k : ℕ) (a : A) (t : List ℕ) → F k a t → F (suc k) a t
  pub into : (k : ℕ) (a : A) (t : List ℕ) → F k a t → G a t
  pub out : (a : A) (t : List ℕ) → G a t → (k : ℕ) × F k a t

limit-same : {A : Type 0} (L : A → List ℕ → Type 0) → Limit (λ k. L) L
limit-same L = record { more = λ k a t s. s; into = λ k a t s. s; out = λ a t s. (0, s) }

abbrev pub above : ℕ → ℕ → ℕ
above zero k = k
above (suc j) k = suc (above j k)

above_is : (j k : ℕ) → above j k ≡ j + k
above_is zero k = omega arith
above_is (suc j) k = let e = above_is j k in omega (arith, e)

pub above_swap : (j k : ℕ) → above j k ≡ above k j
above_swap j k = above_is j k ∙ omega arith ∙ sym (above_is k j)

pub raised : {A : Type 0} (F : ℕ → A → List ℕ → Type 0) (G : A → List ℕ → Type 0) → Limit F G → (j k : ℕ) (a : A) (t : List ℕ) → F k a t → F (above j k) a t
raised F G l zero k a t s = s
raised F G l (suc j) k a t s = l.more (above j k) a t (raised F G l j k a t s)

limit-cat : {A B : Type 0} (F : ℕ → A → List ℕ → Type 0) (G : A → List ℕ → Type 0) (H : ℕ → A → B → List ℕ → Type 0) (K : A → B → List ℕ → Type 0)
    → Limit F G → ((a : A) → Limit (λ k. H k a) (K a)) → Limit (λ k. Cat (F k) (H k)) (Cat G K)
limit-cat F G H K l m = record {
  more = λ k p t s. record { first = s.first; second = s.second; first_spelled = l.more k p.0 s.first s.first_spelled; second_spelled = (m p.0).more k p.1 s.second s.second_spelled; joined = s.joined };
  into = λ k p t s. record { first = s.first; second = s.second; first_spelled = l.into k p.0 s.first s.first_spelled; second_spelled = (m p.0).into k p.1 s.second s.second_spelled; joined = s.joined };
  out = λ p t s.
      let a = l.out p.0 s.first s.first_spelled in
      let b = (m p.0).out p.1 s.second s.second_spelled in (
        above b.0 a.0,
        record {
          first = s.first;
          second = s.second;
          first_spelled = raised F G l b.0 a.0 p.0 s.first a.1;
          second_spelled = subst (λ k. H k p.0 p.1 s.second) (above_swap a.0 b.0) (raised (λ k. H k p.0) (K p.0) (m p.0) a.0 b.0 p.1 s.second b.1);
          joined = s.joined;
        },
      );
}

limit-blank : {A : Type 0} (F : ℕ → A → List ℕ → Type 0) (G : A → List ℕ → Type 0) → Limit F G → Limit (λ k. Blank (F k)) (Blank G)
limit-blank F G l = record {
  more = λ k a t s. record { behind = s.behind; spelled = l.more k a s.behind s.spelled; joined = s.joined };
  into = λ k a t s. record { behind = s.behind; spelled = l.into k a s.behind s.spelled; joined = s.joined };
  out = λ a t s. let o = l.out a s.behind s.spelled in (o.0, record { behind = s.behind; spelled = o.1; joined = s.joined });
}

limit-image : {A B : Type 0} (f : A → B) (F : ℕ → A → List ℕ → Type 0) (G : A → List ℕ → Type 0) → Limit F G → Limit (λ k. Image f (F k)) (Image f G)
limit-image f F G l = record {
  more = λ k b t s. record { from = s.from; is = s.is; spelled = l.more k s.from t s.spelled };
  into = λ k b t s. record { from = s.from; is = s.is; spelled = l.into k s.from t s.spelled };
  out = λ b t s. let o = l.out s.from t s.spelled in (o.0, record { from = s.from; is = s.is; spelled = o.1 });
}

-- so many
limit-times : {A : Type 0} (F : ℕ → A → List ℕ → Type 0) (G : A → List ℕ → Type 0) → Limit F G → (n : ℕ) → Limit (λ k. Times (F k) n) (Times G n)
limit-times {A} F G l n = record { more = more n; into = into n; out = out n }
  where
    more : (n k : ℕ) (a : List A) (t : List ℕ) → Times (F k) n a t → Times (F (suc k)) n a t
    more zero k [] t s = s
    more zero k (x ∷ xs) t s = absurd s
    more (suc n) k [] t s = absurd s
    more (suc n) k (x ∷ xs) t s = record { first = s.first; second = s.second; first_spelled = l.more k x s.first s.first_spelled; second_spelled = more n k xs s.second s.second_spelled; joined = s.joined }

    into : (n k : ℕ) (a : List A) (t : List ℕ) → Times (F k) n a t → Times G n a t
    into zero k [] t s = s
    into zero k (x ∷ xs) t s = absurd s
    into (suc n) k [] t s = absurd s
    into (suc n) k (x ∷ xs) t s = record { first = s.first; second = s.second; first_spelled = l.into k x s.first s.first_spelled; second_spelled = into n k xs s.second s.second_spelled; joined = s.joined }

    raise : (n j k : ℕ) (a : List A) (t : List ℕ) → Times (F k) n a t → Times (F (above j k)) n a t
    raise n zero k a t s = s
    raise n (suc j) k a t s = more n (above j k) a t (raise n j k a t s)

    out : (n : ℕ) (a : List A) (t : List ℕ) → Times G n a t → (k : ℕ) × Times (F k) n a t
    out zero [] t s = (0, s)
    out zero (x ∷ xs) t s = absurd s
    out (suc n) [] t s = absurd s
    out (suc n) (x ∷ xs) t s =
        let a = l.out x s.first s.first_spelled in
        let b = out n xs s.second s.second_spelled in (
          above b.0 a.0,
          record {
            first = s.first;
            second = s.second;
            first_spelled = raised F G l b.0 a.0 x s.first a.1;
            second_spelled = subst (λ k. Times (F k) n xs s.second) (above_swap a.0 b.0) (raise n a.0 b.0 xs s.second b.1);
            joined = s.joined;
          },
        )

limit-counted : {A : Type 0} (F : ℕ → A → List ℕ → Type 0) (G : A → List ℕ → Type 0) → Limit F G → Limit (λ k. Counted (F k)) (Counted G)
limit-counted {A} F G l =
    limit-image (λ (p : ℕ × List A). p.1) (λ k. Cat (Blank (Number Any)) (Times (F k))) (Cat (Blank (Number Any)) (Times G))
    (limit-cat (λ k. Blank (Number Any)) (Blank (Number Any)) (λ k. Times (F k)) (Times G) (limit-same (Blank (Number Any))) (limit-times F G l))

-- ---- nodes
module _ (F : ℕ → Tree → List ℕ → Type 0) (G : Tree → List ℕ → Type 0) (l : Limit F G) where
  abbrev child : Limit (λ k. Blank (F k)) (Blank G)
  child = limit-blank F G l

  abbrev children : Limit (λ k. Counted (Blank (F k))) (Counted (Blank G))
  children = limit-counted (λ k. Blank (F k)) (Blank G) child

  limit-parts : (kind : NodeKind) → Limit (λ k. NodeParts (F k) kind) (NodeParts G kind)
  limit-parts Case = limit-image _ _ _ (limit-cat (λ k. Index) Index (λ k clause. Counted (Blank (F k))) (λ clause. Counted (Blank G)) (limit-same Index) (λ clause. children))
  limit-parts Combine = limit-image _ _ _ (limit-cat (λ k. Counted Multiple) (Counted Multiple) (λ k list. Blank (F k)) (λ list. Blank G) (limit-same (Counted Multiple)) (λ list. child))
  limit-parts Cut = limit-image _ _ _ (limit-cat (λ k. Index) Index (λ k fact. Blank (F k)) (λ fact. Blank G) (limit-same Index) (λ fact. child))
  limit-parts Branch = limit-image _ _ _ (limit-cat (λ k. Sum) Sum (λ k t. Cat (Blank (F k)) (λ left. Blank (F k))) (λ t. Cat (Blank G) (λ left. Blank G)) (limit-same Sum)
      (λ t. limit-cat (λ k. Blank (F k)) (Blank G) (λ k left. Blank (F k)) (λ left. Blank G) child (λ left. child)))
  limit-parts Residues = limit-image _ _ _ (limit-cat (λ k. Modulus) Modulus (λ k m. Cat Sum (λ t. Times (Blank (F k)) m)) (λ m. Cat Sum (λ t. Times (Blank G) m)) (limit-same Modulus)
      (λ m. limit-cat (λ k. Sum) Sum (λ k t. Times (Blank (F k)) m) (λ t. Times (Blank G) m) (limit-same Sum) (λ t. limit-times (λ k. Blank (F k)) (Blank G) child m)))
  limit-parts Solve = limit-image _ _ _ (limit-cat (λ k. Index) Index (λ k fact. Cat Index (λ p. Blank (F k))) (λ fact. Cat Index (λ p. Blank G)) (limit-same Index)
      (λ fact. limit-cat (λ k. Index) Index (λ k p. Blank (F k)) (λ p. Blank G) (limit-same Index) (λ p. child)))
  limit-parts Least = limit-image _ _ _ (limit-cat (λ k. Index) Index (λ k p. Counted (Blank (F k))) (λ p. Counted (Blank G)) (limit-same Index) (λ p. children))
  limit-parts Clash = limit-image _ _ _ (limit-same Index)

  pub limit-node : Limit (λ k. Node (F k)) (Node G)
  limit-node =
      limit-image (λ (p : NodeKind × Tree). p.1) (λ k. Cat NodeWord (NodeParts (F k))) (Cat NodeWord (NodeParts G))
      (limit-cat (λ k. NodeWord) NodeWord (λ k. NodeParts (F k)) (NodeParts G) (limit-same NodeWord) limit-parts)

-- a language and a larger one, again and again
abbrev two : (Tree → List ℕ → Type 0) → (Tree → List ℕ → Type 0) → ℕ → Tree → List ℕ → Type 0
two L M zero = L
two L M (suc k) = M

limit-two : (L M : Tree → List ℕ → Type 0) → ((a : Tree) (t : List ℕ) → L a t → M a t) → Limit (two L M) M
limit-two L M grows = record { more = more; into = into; out = λ a t s. (1, s) }
  where
    more : (k : ℕ) (a : Tree) (t : List ℕ) → two L M k a t → two L M (suc k) a t
    more zero a t s = grows a t s
    more (suc k) a t s = s

    into : (k : ℕ) (a : Tree) (t : List ℕ) → two L M k a t → M a t
    into zero a t s = grows a t s
    into (suc k) a t s = s

one_level_more : (k : ℕ) (a : Tree) (t : List ℕ) → TreeWithin k a t → TreeWithin (suc k) a t
one_level_more zero a t s = absurd s
one_level_more (suc k) a t s = (limit-node (two (TreeWithin k) (TreeWithin (suc k))) (TreeWithin (suc k)) (limit-two (TreeWithin k) (TreeWithin (suc k)) (one_level_more k))).more 0 a t s

pub limit-tree : Limit TreeWithin SpellsTree
limit-tree = record { more = one_level_more; into = λ k a t s. record { levels = k; within = s }; out = λ a t s. (s.levels, s.within) }

-- a tree's text is a node's
pub from_node : (a : Tree) (t : List ℕ) → Node SpellsTree a t → SpellsTree a t
from_node a t s = let o = (limit-node TreeWithin SpellsTree limit-tree).out a t s in record { levels = suc o.0; within = o.1 }

pub to_node : (a : Tree) (t : List ℕ) → SpellsTree a t → Node SpellsTree a t
to_node a t s = by s.levels s.within
  where
    by : (k : ℕ) → TreeWithin k a t → Node SpellsTree a t
    by zero w = absurd w
    by (suc k) w = (limit-node TreeWithin SpellsTree limit-tree).into k a t w
