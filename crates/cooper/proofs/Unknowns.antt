-- The least unknown of several facts is the least of their first ones.
use Rattle.std.specs.Prelude.{◌≡◌, ◌<◌, ℕ, Bool, true, false, nat_lt, length, get_or, List, [], ◌∷◌, Option, Some, None}
use Rattle.std.specs.List.{list_all}
use Rattle.std.proofs.Common.{refl, sym, ◌∙◌, ap, arith}
use Rattle.std.proofs.lemmas.Bool.{and_parts, true≢false}
use Rattle.std.proofs.lemmas.Bool.Decides.{nat_tests}
use Rattle.std.proofs.lemmas.List.Folds.{list_all_at}
use Rattle.lin_base.specs.declared.facts.Fact.{Fact}
use Rattle.lin_base.specs.declared.facts.Fact.TheVariants.{AtMostZero, Zero, Divides, NotDivides}
use Rattle.lin_base.specs.Fact.{sum_of, is_fact, is_ascending}
use Rattle.lin_base.specs.Sum.{Terms, is_reduced}
use Rattle.lin_base.specs.Unknowns.{put_in, put_terms_in}
use Rattle.cert_tree.specs.Ground.{unknowns}
use Rattle.cooper.specs.Walks.{first_of, first_term, lesser_of}

pub fact_at : (facts : List Fact) (i : ℕ) (d : Fact) → i < length facts → list_all is_fact facts ≡ true → is_fact (get_or facts i d) ≡ true
fact_at facts i d within all = by_cases (is_fact (get_or facts i d)) refl
  where
    by_cases : (b : Bool) → is_fact (get_or facts i d) ≡ b → b ≡ true
    by_cases true h = refl
    by_cases false h = absurd (true≢false (sym all ∙ list_all_at is_fact facts i d within h))

-- ---- the lesser of two
pub lesser_none : (a : Option ℕ) → lesser_of a None ≡ a
lesser_none None = refl
lesser_none (Some x) = refl

pub lesser_assoc : (a b c : Option ℕ) → lesser_of (lesser_of a b) c ≡ lesser_of a (lesser_of b c)
lesser_assoc None b c = refl
lesser_assoc (Some x) None c = refl
lesser_assoc (Some x) (Some y) None = refl
lesser_assoc (Some x) (Some y) (Some z) = grind (arith, nat_tests)

lesser_twice : (x y : ℕ) (o : Option ℕ) → nat_lt x y ≡ true → lesser_of (Some x) (lesser_of (Some y) o) ≡ lesser_of (Some x) o
lesser_twice x y None h = grind (arith, nat_tests, h)
lesser_twice x y (Some z) h = grind (arith, nat_tests, h)

-- ---- an unknown that is put in
first_put : (x : ℕ) (xs : List ℕ) → first_of (put_in x xs) ≡ lesser_of (Some x) (first_of xs)
first_put x [] = refl
first_put x (y ∷ ys) = grind (arith, nat_tests)

-- ascending unknowns
first_terms : (ts : Terms) (xs : List ℕ) → is_ascending ts ≡ true → first_of (put_terms_in ts xs) ≡ lesser_of (first_term ts) (first_of xs)
first_terms [] xs h = refl
first_terms ((x, k) ∷ []) xs h = first_put x xs
first_terms ((x, k) ∷ (y, l) ∷ ts) xs h =
    let both = and_parts (nat_lt x y) (is_ascending ((y, l) ∷ ts)) h in
    first_put x (put_terms_in ((y, l) ∷ ts) xs)
    ∙ ap (lesser_of (Some x)) (first_terms ((y, l) ∷ ts) xs both.1)
    ∙ lesser_twice x y (first_of xs) both.0

ascending : (f : Fact) → is_fact f ≡ true → is_ascending (sum_of f).coefs ≡ true
ascending (AtMostZero t) h = (and_parts (is_ascending t.coefs) (is_reduced t.coefs) h).0
ascending (Zero t) h = (and_parts (is_ascending t.coefs) (is_reduced t.coefs) h).0
ascending (Divides m t) h = (and_parts (is_ascending t.coefs) (is_reduced t.coefs) (and_parts _ _ h).1).0
ascending (NotDivides m t) h = (and_parts (is_ascending t.coefs) (is_reduced t.coefs) (and_parts _ _ h).1).0

-- one more fact
pub first_more : (f : Fact) (fs : List Fact) → is_fact f ≡ true → first_of (unknowns (f ∷ fs)) ≡ lesser_of (first_term (sum_of f).coefs) (first_of (unknowns fs))
first_more f fs h = first_terms (sum_of f).coefs (unknowns fs) (ascending f h)
