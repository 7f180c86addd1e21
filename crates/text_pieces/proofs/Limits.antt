-- Languages that grow to one.
use Rattle.std.proofs.Common.{◌≡◌, ℕ, zero, suc, ◌+◌, List, [], ◌∷◌, sym, subst, ◌∙◌, arith}
use Rattle.text_pieces.specs.Languages.{Cat, Behind, Image}
use Rattle.text_pieces.specs.Fronts.{Front}
use Rattle.text_pieces.specs.Kinds.{OneKind}
use Rattle.text_pieces.specs.Runs.{Run}

pub record Limit {A : Type 0} (F : ℕ → A → List ℕ → Type 0) (G : A → List ℕ → Type 0) : Type 0 where
  pub more : (k : ℕ) (a : A) (t : List ℕ) → F k a t → F (suc k) a t
  pub into : (k : ℕ) (a : A) (t : List ℕ) → F k a t → G a t
  pub out : (a : A) (t : List ℕ) → G a t → (k : ℕ) × F k a t

pub limit-same : {A : Type 0} (L : A → List ℕ → Type 0) → Limit (λ k. L) L
limit-same L = record { more = λ k a t s. s; into = λ k a t s. s; out = λ a t s. (0, s) }

abbrev pub above : ℕ → ℕ → ℕ
above zero k = k
above (suc j) k = suc (above j k)

above_is : (j k : ℕ) → above j k ≡ j + k
above_is zero k = omega arith
above_is (suc j) k = let e = above_is j k in omega (arith, e)

pub above_swap : (j k : ℕ) → above j k ≡ above k j
above_swap j k = above_is j k ∙ omega arith ∙ sym (above_is k j)

pub raised : {A : Type 0} (F : ℕ → A → List ℕ → Type 0) (G : A → List ℕ → Type 0) → Limit F G → (j k : ℕ) (a : A) (t : List ℕ) → F k a t → F (above j k) a t
raised F G l zero k a t s = s
raised F G l (suc j) k a t s = l.more (above j k) a t (raised F G l j k a t s)

pub limit-cat : {A B : Type 0} (F : ℕ → A → List ℕ → Type 0) (G : A → List ℕ → Type 0) (H : ℕ → A → B → List ℕ → Type 0) (K : A → B → List ℕ → Type 0)
    → Limit F G → ((a : A) → Limit (λ k. H k a) (K a)) → Limit (λ k. Cat (F k) (H k)) (Cat G K)
limit-cat F G H K l m = record {
  more = λ k p t s. record { first = s.first; second = s.second; first_spelled = l.more k p.0 s.first s.first_spelled; second_spelled = (m p.0).more k p.1 s.second s.second_spelled; joined = s.joined };
  into = λ k p t s. record { first = s.first; second = s.second; first_spelled = l.into k p.0 s.first s.first_spelled; second_spelled = (m p.0).into k p.1 s.second s.second_spelled; joined = s.joined };
  out = λ p t s.
      let a = l.out p.0 s.first s.first_spelled in
      let b = (m p.0).out p.1 s.second s.second_spelled in (
        above b.0 a.0,
        record {
          first = s.first;
          second = s.second;
          first_spelled = raised F G l b.0 a.0 p.0 s.first a.1;
          second_spelled = subst (λ k. H k p.0 p.1 s.second) (above_swap a.0 b.0) (raised (λ k. H k p.0) (K p.0) (m p.0) a.0 b.0 p.1 s.second b.1);
          joined = s.joined;
        },
      );
}

limit-behind : {A : Type 0} (byte : ℕ) (F : ℕ → A → List ℕ → Type 0) (G : A → List ℕ → Type 0) → Limit F G → Limit (λ k. Behind byte (F k)) (Behind byte G)
limit-behind byte F G l = record {
  more = λ k a t s. record { behind = s.behind; spelled = l.more k a s.behind s.spelled; joined = s.joined };
  into = λ k a t s. record { behind = s.behind; spelled = l.into k a s.behind s.spelled; joined = s.joined };
  out = λ a t s. let o = l.out a s.behind s.spelled in (o.0, record { behind = s.behind; spelled = o.1; joined = s.joined });
}

pub limit-front : {A : Type 0} (word : List ℕ) (F : ℕ → A → List ℕ → Type 0) (G : A → List ℕ → Type 0) → Limit F G → Limit (λ k. Front word (F k)) (Front word G)
limit-front [] F G l = l
limit-front (b ∷ bs) F G l = limit-behind b (λ k. Front bs (F k)) (Front bs G) (limit-front bs F G l)

pub limit-image : {A B : Type 0} (f : A → B) (F : ℕ → A → List ℕ → Type 0) (G : A → List ℕ → Type 0) → Limit F G → Limit (λ k. Image f (F k)) (Image f G)
limit-image f F G l = record {
  more = λ k b t s. record { from = s.from; is = s.is; spelled = l.more k s.from t s.spelled };
  into = λ k b t s. record { from = s.from; is = s.is; spelled = l.into k s.from t s.spelled };
  out = λ b t s. let o = l.out s.from t s.spelled in (o.0, record { from = s.from; is = s.is; spelled = o.1 });
}

pub limit-kinds : {K A : Type 0} (F : ℕ → K → A → List ℕ → Type 0) (G : K → A → List ℕ → Type 0) → ((k : K) → Limit (λ n. F n k) (G k)) → Limit (λ n. OneKind (F n)) (OneKind G)
limit-kinds F G l = record {
  more = λ n a t s. record { kind = s.kind; spelled = (l s.kind).more n a t s.spelled };
  into = λ n a t s. record { kind = s.kind; spelled = (l s.kind).into n a t s.spelled };
  out = λ a t s. let o = (l s.kind).out a t s.spelled in (o.0, record { kind = s.kind; spelled = o.1 });
}

-- runs in one state
abbrev pub Only : {A : Type 0} → List ℕ → (A → List ℕ → Type 0) → List A → List ℕ → Type 0
Only end L = Run (λ (u : Unit {0}). L) (λ u a. u) end tt

pub limit-run : {A : Type 0} (F : ℕ → A → List ℕ → Type 0) (G : A → List ℕ → Type 0) (end : List ℕ) → Limit F G
    → Limit (λ k. Only end (F k)) (Only end G)
limit-run {A} F G end l = record { more = again; into = into; out = out }
  where
    again : (k : ℕ) (a : List A) (t : List ℕ) → Only end (F k) a t → Only end (F (suc k)) a t
    again k [] t s = s
    again k (x ∷ xs) t s = record { first = s.first; more = s.more; first_is = l.more k x s.first s.first_is; more_is = again k xs s.more s.more_is; joined = s.joined }

    into : (k : ℕ) (a : List A) (t : List ℕ) → Only end (F k) a t → Only end G a t
    into k [] t s = s
    into k (x ∷ xs) t s = record { first = s.first; more = s.more; first_is = l.into k x s.first s.first_is; more_is = into k xs s.more s.more_is; joined = s.joined }

    raise : (j k : ℕ) (a : List A) (t : List ℕ) → Only end (F k) a t → Only end (F (above j k)) a t
    raise zero k a t s = s
    raise (suc j) k a t s = again (above j k) a t (raise j k a t s)

    out : (a : List A) (t : List ℕ) → Only end G a t → (k : ℕ) × Only end (F k) a t
    out [] t s = (0, s)
    out (x ∷ xs) t s =
        let a = l.out x s.first s.first_is in
        let b = out xs s.more s.more_is in (
          above b.0 a.0,
          record {
            first = s.first;
            more = s.more;
            first_is = raised F G l b.0 a.0 x s.first a.1;
            more_is = subst (λ k. Only end (F k) xs s.more) (above_swap a.0 b.0) (raise a.0 b.0 xs s.more b.1);
            joined = s.joined;
          },
        )

-- a language and a larger one, again and again
abbrev pub two : {A : Type 0} → (A → List ℕ → Type 0) → (A → List ℕ → Type 0) → ℕ → A → List ℕ → Type 0
two L M zero = L
two L M (suc k) = M

pub limit-two : {A : Type 0} (L M : A → List ℕ → Type 0) → ((a : A) (t : List ℕ) → L a t → M a t) → Limit (two L M) M
limit-two {A} L M grows = record { more = more; into = into; out = λ a t s. (1, s) }
  where
    more : (k : ℕ) (a : A) (t : List ℕ) → two L M k a t → two L M (suc k) a t
    more zero a t s = grows a t s
    more (suc k) a t s = s

    into : (k : ℕ) (a : A) (t : List ℕ) → two L M k a t → M a t
    into zero a t s = grows a t s
    into (suc k) a t s = s
