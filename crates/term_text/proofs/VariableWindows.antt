-- Variables from a number on.
use Rattle.std.proofs.Common.{◌≡◌, ℕ, ◌+◌, ◌*◌, ◌-◌, ◌/◌, ◌%◌, ◌^◌, ◌<◌, ◌≤◌, Bool, true, false, List, [], ◌∷◌, ◌++◌, length, refl, sym, ap, subst, ◌∙◌, arith}
use Rattle.std.specs.Prelude.{codes, ◌==◌, if◌then◌else◌}
use Rattle.std.proofs.lemmas.Bool.{eqb-true}
use Rattle.std.proofs.lemmas.Bool.Decides.{nat_tests}
use Rattle.term_base.specs.declared.symbols.Sort.TheVariants as sort
use Rattle.term_base.specs.declared.variables.Kind.TheVariants as kind
use Rattle.term_base.specs.declared.variables.Variable.{Variable}
use Rattle.term_base.specs.SameLemmas.{variables_equal}
use Rattle.text_pieces.specs.Decimals.{is_digit, decimal}
use Rattle.text_pieces.specs.Languages.{Cat, Image, StopsAt, Fails}
use Rattle.text_pieces.specs.Numbers.{Number, Within, Word32}
use Rattle.text_pieces.specs.Unambiguous.{HasOne}
use Rattle.text_pieces.proofs.Joining.{head_same}
use Rattle.text_pieces.specs.Fronts.{Front}
use Rattle.text_pieces.specs.Kinds.{kind_at}
use Rattle.text_pieces.proofs.Ends.{same_fails, same_reads}
use Rattle.text_pieces.proofs.Lifts.{Lift, lift-then, Sure, Next, sure-cat}
use Rattle.text_pieces.proofs.WordReading.{next-front}
use Rattle.text_pieces.proofs.Kinded.{Told, kinded}
use Rattle.term_text.specs.declared.kinds.VariableKind.{VariableKind}
use Rattle.term_text.specs.declared.kinds.VariableKind.TheVariants.{Abstraction, Individual, Int, Declared}
use Rattle.term_text.specs.Variables.{abstraction, individual, integer, declared, VariableParts, SpellsVariable, variable_kind_of, rank, FromParts, VariableFrom, SortedFrom, id_from}
use Rattle.term_text.proofs.VariableFronts.{told-variable, sure-number}

abbrev top : ℕ
top = 2 ^ 32 - 1

-- ---- the kind that the first byte tells
told-from : (low : ℕ) (k : VariableKind) (v : Variable) (t : List ℕ) → FromParts low k v t → Told variable_kind_of k t
told-from low k v t s = told-variable k v t s.spelled

from_at : (low : ℕ) (text : List ℕ) (k : VariableKind) → kind_at variable_kind_of Declared text ≡ k → Lift is_digit (VariableFrom low) text (FromParts low k) text (λ v. v)
from_at low text k e = subst (λ z. Lift is_digit (VariableFrom low) text (FromParts low z) text (λ v. v)) e (kinded (FromParts low) variable_kind_of Declared (told-from low) is_digit text)

-- the last one of all
last_one : (low : ℕ) → low < (3 + 2 ^ 32) * 2 ^ 32 → HasOne (VariableFrom low)
last_one low h = record {
  value = declared (top, top);
  text = codes "D" ++ (decimal top ++ (codes "." ++ decimal top));
  spelled = record {
    kind = Declared;
    spelled = record {
      spelled = record {
        from = (top, top);
        is = refl;
        spelled = record {
          behind = decimal top ++ (codes "." ++ decimal top);
          spelled = record {
            first = decimal top;
            second = codes "." ++ decimal top;
            first_spelled = record { is_in = record { from_low = omega arith; to_high = omega arith }; digits = refl };
            second_spelled = record { behind = decimal top; spelled = record { is_in = record { from_low = omega arith; to_high = omega arith }; digits = refl }; joined = refl };
            joined = refl;
          };
          joined = refl;
        };
      };
      from = omega (arith, h);
    };
  };
}

-- where no variable of the kind is left
pub none_from : (low : ℕ) (text : List ℕ) (k : VariableKind) → low < (3 + 2 ^ 32) * 2 ^ 32 → kind_at variable_kind_of Declared text ≡ k → ((v : Variable) (t : List ℕ) → FromParts low k v t → ⊥)
    → Fails (VariableFrom low) text (length text)
none_from low text k h e empty = record {
  front = [];
  rest = text;
  whole = refl;
  left_is = refl;
  goes_on = let o = last_one low h in record { value = o.value; text = o.text; tail = o.text; spelled = o.spelled; begins = refl };
  stops = stop text e;
  none = λ v rest r.
      let s = r.spelled in
      let n = told-from low s.kind v r.text s.spelled in
      let same : k ≡ s.kind = sym e ∙ ap (kind_at variable_kind_of Declared) (r.whole ∙ ap (λ z. z ++ rest) n.is) ∙ n.tells in
      empty v r.text (subst (λ z. FromParts low z v r.text) (sym same) s.spelled);
}
  where
    stop : (text : List ℕ) → kind_at variable_kind_of Declared text ≡ k → StopsAt (VariableFrom low) [] text
    stop [] e = tt
    stop (b ∷ bs) e = λ g.
        let s = g.spelled in
        let n = told-from low s.kind g.value g.text s.spelled in
        let same : k ≡ s.kind = sym e ∙ ap variable_kind_of (head_same (sym g.begins ∙ n.is)) ∙ n.tells in
        empty g.value g.text (subst (λ z. FromParts low z g.value g.text) (sym same) s.spelled)

-- ---- letters with one number
map-front : {A : Type 0} (word : List ℕ) (L M : A → List ℕ → Type 0) (a : A) (t : List ℕ) → ((u : List ℕ) → L a u → M a u) → Front word L a t → Front word M a t
map-front [] L M a t f s = f t s
map-front (b ∷ bs) L M a t f s = record { behind = s.behind; spelled = map-front bs L M a s.behind f s.spelled; joined = s.joined }

in-front : {A : Type 0} {P : Type 0} (word : List ℕ) (L : A → List ℕ → Type 0) (a : A) (t : List ℕ) → ((u : List ℕ) → L a u → P) → Front word L a t → P
in-front [] L a t f s = f t s
in-front (b ∷ bs) L a t f s = in-front bs L a s.behind f s.spelled

module _ (k : VariableKind) (make : ℕ → Variable) (word : List ℕ) (low begin : ℕ) (ranks : (id : ℕ) → rank (make id) ≡ begin + id)
    (forth : (v : Variable) (t : List ℕ) → VariableParts k v t → Image make (Front word (Number Word32)) v t) (back : (v : Variable) (t : List ℕ) → Image make (Front word (Number Word32)) v t → VariableParts k v t) where
  abbrev From : ℕ → List ℕ → Type 0
  From = Front word (Number (Within (low - begin) top))

  made : (id : ℕ) (t : List ℕ) → From id t → FromParts low k (make id) t
  made id t s =
      let low_enough : low - begin ≤ id = in-front word (Number (Within (low - begin) top)) id t (λ u n. n.is_in.from_low) s in
      let at = ranks id in
      record {
        spelled = back (make id) t (record {
          from = id;
          is = refl;
          spelled = map-front word (Number (Within (low - begin) top)) (Number Word32) id t (λ u n. record { is_in = record { from_low = omega arith; to_high = n.is_in.to_high }; digits = n.digits }) s;
        });
        from = omega (arith, low_enough, at);
      }

  found : (v : Variable) (t : List ℕ) → FromParts low k v t → (id : ℕ) × From id t
  found v t s =
      let i = forth v t s.spelled in
      let id = i.from in
      let at : rank v ≡ begin + id = ap rank i.is ∙ ranks id in
      let low_enough = s.from in
      (id, map-front word (Number Word32) (Number (Within (low - begin) top)) id t (λ u n. record { is_in = record { from_low = omega (arith, low_enough, at); to_high = n.is_in.to_high }; digits = n.digits }) i.spelled)

  pub lettered_from : (text : List ℕ) → kind_at variable_kind_of Declared text ≡ k → Lift is_digit (VariableFrom low) text From text make
  lettered_from text e = lift-then (from_at low text k e) (record {
    fails = λ left f. same_fails is_digit From (FromParts low k) (λ id t s. (make id, made id t s)) found text left f;
    reads = λ id rest r. same_reads is_digit From (FromParts low k) id (make id) (made id) text rest r;
  })

  -- where low is past the letter
  pub past_letter : (text : List ℕ) → low < (3 + 2 ^ 32) * 2 ^ 32 → begin + 2 ^ 32 ≤ low → kind_at variable_kind_of Declared text ≡ k → Fails (VariableFrom low) text (length text)
  past_letter text h past e = none_from low text k h e (λ v t s.
      let i = forth v t s.spelled in
      let id = i.from in
      let at : rank v ≡ begin + id = ap rank i.is ∙ ranks id in
      let low_enough = s.from in
      let high : id ≤ top = in-front word (Number Word32) id t (λ u n. n.is_in.to_high) i.spelled in
      absurd (omega (arith, low_enough, at, high, past)))

module _ (low : ℕ) (text : List ℕ) where
  pub abstraction_in : kind_at variable_kind_of Declared text ≡ Abstraction → Lift is_digit (VariableFrom low) text (Front (codes "A") (Number (Within low top))) text abstraction
  abstraction_in e =
      let whole : low - 0 ≡ low = omega arith in
      subst (λ z. Lift is_digit (VariableFrom low) text (Front (codes "A") (Number (Within z top))) text abstraction) whole (lettered_from Abstraction abstraction (codes "A") low 0 (λ id. omega arith) (λ v t s. s) (λ v t s. s) text e)

  pub no_abstraction : low < (3 + 2 ^ 32) * 2 ^ 32 → 2 ^ 32 ≤ low → kind_at variable_kind_of Declared text ≡ Abstraction → Fails (VariableFrom low) text (length text)
  no_abstraction h p = past_letter Abstraction abstraction (codes "A") low 0 (λ id. omega arith) (λ v t s. s) (λ v t s. s) text h (omega (arith, p))

  pub individual_in : kind_at variable_kind_of Declared text ≡ Individual → Lift is_digit (VariableFrom low) text (Front (codes "I") (Number (Within (low - 2 ^ 32) top))) text individual
  individual_in = lettered_from Individual individual (codes "I") low (2 ^ 32) (λ id. refl) (λ v t s. s) (λ v t s. s) text

  pub no_individual : low < (3 + 2 ^ 32) * 2 ^ 32 → 2 * 2 ^ 32 ≤ low → kind_at variable_kind_of Declared text ≡ Individual → Fails (VariableFrom low) text (length text)
  no_individual h p = past_letter Individual individual (codes "I") low (2 ^ 32) (λ id. refl) (λ v t s. s) (λ v t s. s) text h (omega (arith, p))

  pub integer_in : kind_at variable_kind_of Declared text ≡ Int → Lift is_digit (VariableFrom low) text (Front (codes "N") (Number (Within (low - 2 * 2 ^ 32) top))) text integer
  integer_in = lettered_from Int integer (codes "N") low (2 * 2 ^ 32) (λ id. refl) (λ v t s. s) (λ v t s. s) text

  pub no_integer : low < (3 + 2 ^ 32) * 2 ^ 32 → 3 * 2 ^ 32 ≤ low → kind_at variable_kind_of Declared text ≡ Int → Fails (VariableFrom low) text (length text)
  no_integer h p = past_letter Int integer (codes "N") low (2 * 2 ^ 32) (λ id. refl) (λ v t s. s) (λ v t s. s) text h (omega (arith, p))

-- ---- variables of declared sorts
sort_from : (low n id : ℕ) → id ≤ top → (low - 3 * 2 ^ 32) / 2 ^ 32 ≤ n → id_from (low - 3 * 2 ^ 32) n ≤ id → low ≤ (3 + n) * 2 ^ 32 + id
sort_from low n id h s f = by (n == (low - 3 * 2 ^ 32) / 2 ^ 32) refl
  where
    by : (t : Bool) → n == (low - 3 * 2 ^ 32) / 2 ^ 32 ≡ t → low ≤ (3 + n) * 2 ^ 32 + id
    by true e =
        let same = eqb-true n ((low - 3 * 2 ^ 32) / 2 ^ 32) e in
        let least : (low - 3 * 2 ^ 32) % 2 ^ 32 ≤ id = subst (λ z. (if z then (low - 3 * 2 ^ 32) % 2 ^ 32 else 0) ≤ id) e f in
        omega (arith, same, least)
    by false e =
        let other : (low - 3 * 2 ^ 32) / 2 ^ 32 < n = grind (arith, nat_tests, s, e) in
        omega (arith, other)

sort_least : (low n id : ℕ) → id ≤ top → low ≤ (3 + n) * 2 ^ 32 + id → (low - 3 * 2 ^ 32) / 2 ^ 32 ≤ n
sort_least low n id h l = omega (arith, h, l)

id_least : (low n id : ℕ) → id ≤ top → low ≤ (3 + n) * 2 ^ 32 + id → id_from (low - 3 * 2 ^ 32) n ≤ id
id_least low n id h l = by (n == (low - 3 * 2 ^ 32) / 2 ^ 32) refl
  where
    by : (t : Bool) → n == (low - 3 * 2 ^ 32) / 2 ^ 32 ≡ t → id_from (low - 3 * 2 ^ 32) n ≤ id
    by true e =
        let same = eqb-true n ((low - 3 * 2 ^ 32) / 2 ^ 32) e in
        subst (λ z. (if z then (low - 3 * 2 ^ 32) % 2 ^ 32 else 0) ≤ id) (sym e) (omega (arith, same, h, l))
    by false e = subst (λ z. (if z then (low - 3 * 2 ^ 32) % 2 ^ 32 else 0) ≤ id) (sym e) (omega arith)

module _ (low : ℕ) where
  abbrev least : ℕ
  least = low - 3 * 2 ^ 32

  sorted_made : (p : ℕ × ℕ) (t : List ℕ) → SortedFrom least p t → FromParts low Declared (declared p) t
  sorted_made p t s =
      let c = s.spelled in
      let n = c.first_spelled in
      let d = c.second_spelled in
      let i = d.spelled in
      record {
        spelled = record {
          from = p;
          is = refl;
          spelled = record {
            behind = s.behind;
            spelled = record {
              first = c.first;
              second = c.second;
              first_spelled = record { is_in = record { from_low = omega arith; to_high = n.is_in.to_high }; digits = n.digits };
              second_spelled = record { behind = d.behind; spelled = record { is_in = record { from_low = omega arith; to_high = i.is_in.to_high }; digits = i.digits }; joined = d.joined };
              joined = c.joined;
            };
            joined = s.joined;
          };
        };
        from = sort_from low p.0 p.1 i.is_in.to_high n.is_in.from_low i.is_in.from_low;
      }

  sorted_found : (v : Variable) (t : List ℕ) → FromParts low Declared v t → (p : ℕ × ℕ) × SortedFrom least p t
  sorted_found v t s =
      let j = s.spelled in
      let p = j.from in
      let f = j.spelled in
      let c = f.spelled in
      let n = c.first_spelled in
      let d = c.second_spelled in
      let i = d.spelled in
      let at : low ≤ (3 + p.0) * 2 ^ 32 + p.1 = subst (λ z. low ≤ rank z) j.is s.from in (
        p,
        record {
          behind = f.behind;
          spelled = record {
            first = c.first;
            second = c.second;
            first_spelled = record { is_in = record { from_low = sort_least low p.0 p.1 i.is_in.to_high at; to_high = n.is_in.to_high }; digits = n.digits };
            second_spelled = record { behind = d.behind; spelled = record { is_in = record { from_low = id_least low p.0 p.1 i.is_in.to_high at; to_high = i.is_in.to_high }; digits = i.digits }; joined = d.joined };
            joined = c.joined;
          };
          joined = f.joined;
        },
      )

  pub declared_in : (text : List ℕ) → kind_at variable_kind_of Declared text ≡ Declared → Lift is_digit (VariableFrom low) text (SortedFrom least) text declared
  declared_in text e = lift-then (from_at low text Declared e) (record {
    fails = λ left f. same_fails is_digit (SortedFrom least) (FromParts low Declared) (λ p t s. (declared p, sorted_made p t s)) sorted_found text left f;
    reads = λ p rest r. same_reads is_digit (SortedFrom least) (FromParts low Declared) p (declared p) (sorted_made p) text rest r;
  })

-- ---- the parts of a variable of a declared sort
module _ (least : ℕ) (h : least < 2 ^ 32 * 2 ^ 32) where
  some_id : (n : ℕ) → id_from least n ≤ top
  some_id n = by (n == least / 2 ^ 32) refl
    where
      by : (t : Bool) → n == least / 2 ^ 32 ≡ t → id_from least n ≤ top
      by true e = subst (λ z. (if z then least % 2 ^ 32 else 0) ≤ top) (sym e) (omega arith)
      by false e = subst (λ z. (if z then least % 2 ^ 32 else 0) ≤ top) (sym e) (omega arith)

  pub sure-id : (n : ℕ) → Sure is_digit (Number (Within (id_from least n) top))
  sure-id n = sure-number (Within (id_from least n) top) top (record { from_low = some_id n; to_high = omega arith })

  pub next-id : (n : ℕ) → Next is_digit is_digit (Front (codes ".") (Number (Within (id_from least n) top)))
  next-id n = next-front 46 [] refl (sure-id n)

  pub sure-sort : Sure is_digit (Number (Within (least / 2 ^ 32) top))
  sure-sort = sure-number (Within (least / 2 ^ 32) top) top (record { from_low = omega (arith, h); to_high = omega arith })

  pub sure-sorted_parts : Sure is_digit (Cat (Number (Within (least / 2 ^ 32) top)) (λ n. Front (codes ".") (Number (Within (id_from least n) top))))
  sure-sorted_parts = sure-cat sure-sort next-id

-- ---- any variable
pub any_variable : (text : List ℕ) → Lift is_digit SpellsVariable text (VariableFrom 0) text (λ v. v)
any_variable text = record {
  fails = λ left f. same_fails is_digit (VariableFrom 0) SpellsVariable (λ v t s. (v, record { kind = s.kind; spelled = s.spelled.spelled })) (λ v t s. (v, record { kind = s.kind; spelled = record { spelled = s.spelled; from = omega arith } })) text left f;
  reads = λ v rest r. same_reads is_digit (VariableFrom 0) SpellsVariable v v (λ t s. record { kind = s.kind; spelled = s.spelled.spelled }) text rest r;
}

-- ---- variables that are made
pub is_abstraction : (v : Variable) (id : ℕ) → v.kind ≡ kind.Abstraction → v.sort ≡ sort.Int → v.id ≡ id → v ≡ abstraction id
is_abstraction v id = variables_equal v (abstraction id)

pub is_individual : (v : Variable) (id : ℕ) → v.kind ≡ kind.Ordinary → v.sort ≡ sort.Individual → v.id ≡ id → v ≡ individual id
is_individual v id = variables_equal v (individual id)

pub is_integer : (v : Variable) (id : ℕ) → v.kind ≡ kind.Ordinary → v.sort ≡ sort.Int → v.id ≡ id → v ≡ integer id
is_integer v id = variables_equal v (integer id)

pub is_declared : (v : Variable) (p : ℕ × ℕ) → v.kind ≡ kind.Ordinary → v.sort ≡ sort.Declared p.0 → v.id ≡ p.1 → v ≡ declared p
is_declared v p = variables_equal v (declared p)
