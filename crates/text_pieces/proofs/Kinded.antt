-- Texts of several kinds, which their first byte tells.
use Rattle.std.proofs.Common.{◌≡◌, ℕ, Bool, false, List, [], ◌∷◌, ◌++◌, refl, sym, ap, subst, ◌∙◌}
use Rattle.text_pieces.specs.Languages.{StopsAt, Free}
use Rattle.text_pieces.specs.Unambiguous.{HasOne, OneFrontTo}
use Rattle.text_pieces.proofs.Joining.{head_same}
use Rattle.text_pieces.specs.Kinds.{OneKind, kind_at}
use Rattle.text_pieces.proofs.Ends.{Joins}
use Rattle.text_pieces.proofs.Lifts.{Lift, Sure}

-- a text begins with a byte that tells this kind
pub record Told {K : Type 0} (kind_of : ℕ → K) (kind : K) (text : List ℕ) : Type 0 where
  pub head : ℕ
  pub tail : List ℕ
  pub is : text ≡ head ∷ tail
  pub tells : kind_of head ≡ kind

module _ {K A : Type 0} (Parts : K → A → List ℕ → Type 0) (kind_of : ℕ → K) (at_end : K) (known : (k : K) (a : A) (t : List ℕ) → Parts k a t → Told kind_of k t) where
  abbrev kind_in : List ℕ → K
  kind_in = kind_at kind_of at_end

  in_front : (k : K) (t rest bytes : List ℕ) → Told kind_of k t → bytes ≡ t ++ rest → kind_in bytes ≡ k
  in_front k t rest bytes n e = ap kind_in (e ∙ ap (λ z. z ++ rest) n.is) ∙ n.tells

  -- a text that goes on with the first bytes has their kind
  goes_in : (k : K) (t front tail bytes bs : List ℕ) (b : ℕ) → Told kind_of k t → t ≡ (front ++ b ∷ []) ++ tail → bytes ≡ front ++ b ∷ bs → kind_in bytes ≡ k
  goes_in k t [] tail bytes bs b n e w = ap kind_in w ∙ ap kind_of (head_same (sym e ∙ n.is)) ∙ n.tells
  goes_in k t (c ∷ front) tail bytes bs b n e w = ap kind_in w ∙ ap kind_of (head_same (sym e ∙ n.is)) ∙ n.tells

  pub kinded : (q : ℕ → Bool) (bytes : List ℕ) → Lift q (OneKind Parts) bytes (Parts (kind_in bytes)) bytes (λ a. a)
  kinded q bytes = record {
    fails = λ left f. record {
      front = f.front;
      rest = f.rest;
      whole = f.whole;
      left_is = f.left_is;
      goes_on = let g = f.goes_on in record { value = g.value; text = g.text; tail = g.tail; spelled = record { kind = kind_in bytes; spelled = g.spelled }; begins = g.begins };
      stops = stop f.front f.rest f.whole f.stops;
      none = λ a rest r.
          let s = r.spelled in
          let same = in_front s.kind r.text rest bytes (known s.kind a r.text s.spelled) r.whole in
          f.none a rest (record { text = r.text; spelled = subst (λ k. Parts k a r.text) (sym same) s.spelled; whole = r.whole; ends = r.ends });
    };
    reads = λ a rest r. record { text = r.text; spelled = record { kind = kind_in bytes; spelled = r.spelled }; whole = r.whole; ends = r.ends };
  }
    where
      stop : (front rest : List ℕ) → bytes ≡ front ++ rest → StopsAt (Parts (kind_in bytes)) front rest → StopsAt (OneKind Parts) front rest
      stop front [] w k = tt
      stop front (b ∷ bs) w k = λ g.
          let s = g.spelled in
          let same = goes_in s.kind g.text front g.tail bytes bs b (known s.kind g.value g.text s.spelled) g.begins w in
          k (record { value = g.value; text = g.text; tail = g.tail; spelled = subst (λ z. Parts z g.value g.text) (sym same) s.spelled; begins = g.begins })

  pub one_front-kinds : (q : ℕ → Bool) → ((k : K) → OneFrontTo q (Parts k)) → OneFrontTo q (OneKind Parts)
  one_front-kinds q one a b t u x y s r h d e =
      let same : s.kind ≡ r.kind = sym (in_front s.kind t x (t ++ x) (known s.kind a t s.spelled) refl) ∙ in_front r.kind u y (t ++ x) (known r.kind b u r.spelled) h in
      one r.kind a b t u x y (subst (λ k. Parts k a t) same s.spelled) r.spelled h d e

  pub sure-kinds : (q : ℕ → Bool) → ((k : K) → OneFrontTo q (Parts k)) → (k : K) → HasOne (Parts k) → Sure q (OneKind Parts)
  sure-kinds q one k h = record { one = one_front-kinds q one; some = record { value = h.value; text = h.text; spelled = record { kind = k; spelled = h.spelled } } }

  -- the byte in front of each text isn't of p
  pub joins-kinds : (p q : ℕ → Bool) → ((k : K) (b : ℕ) (a : A) (bs : List ℕ) → Parts k a (b ∷ bs) → p b ≡ false) → Joins p q (OneKind Parts)
  joins-kinds p q clear a t x s d =
      let n = known s.kind a t s.spelled in
      subst (λ z. Free p (z ++ x)) (sym n.is) (clear s.kind n.head a n.tail (subst (Parts s.kind a) n.is s.spelled))
