-- The answers: what the search found, with new names, is most general.
use Rattle.std.proofs.Common.{◌≡◌, ◌⊎◌, inl, inr, ◌<◌, ℕ, Bool, true, false, ◌&&◌, List, [], refl, ap, sym, ◌∙◌, subst}
use Rattle.std.specs.Prelude.{if◌then◌else◌, Option, Some, None, Result, Ok, Err, IfOk, IfSome, IfNone}
use Rattle.term_base.specs.declared.symbols.Sort.TheVariants.{Int}
use Rattle.term_base.specs.declared.symbols.Symbol.{Symbol}
use Rattle.term_base.specs.declared.terms.Term.{Term}
use Rattle.term_base.specs.declared.variables.Variable.{Variable}
use Rattle.term_base.specs.Purity.{foreground, is_abstraction}
use Rattle.term_base.specs.Substitution.{image, put_in}
use Rattle.term_base.specs.Trees.{Tree, var, occurs}
use Rattle.term_base.specs.TreeLemmas.{true_or_false, both_ways, and-true, or-left}
use Rattle.unifier.specs.Variables.{has}
use Rattle.unifier.specs.Naming.{raised, new_name, renamed, images_of, is_plain, are_plain, forced_in, forced_of, known_in, known_of, named}
use Rattle.unifier.specs.Sorted.{KeepsSorts, IsGeneral, NoneSorted}
use Rattle.unifier.specs.Unifiers.{occurs_or, IsMostGeneral, NoUnifier, IsMostGeneralPair, NoPair}
use Rattle.unifier.proofs.KindLemmas.{IsForced, IsRenaming, named_by, none_foreground, answer_general, general_same}
use Rattle.unifier.proofs.PairLemmas.{IsApart, no_pair_unsorted, no_pair_foreground, pair_general, pair_same}
use Rattle.unifier.proofs.RaisingLemmas.{raised_none, lowered, is_raised, raised_apart}
use Rattle.unifier.proofs.VariableLemmas.{or_none}
use Rattle.unifier.proofs.NamingLemmas.{old_name, is_renaming, forced_before, forced_own, forced_only, known_before, known_own, plain_own, not_plain, BackgroundLaw, forced_integers}

-- V has the variables of the first list, and those of the second with raised numbers
module _ (law : BackgroundLaw) (S : List Symbol) (V : Variable → Bool) (firsts seconds : List Variable) (base : ℕ)
    (found : List (Variable × Term)) (sorted : KeepsSorts S (image found))
    (from_list : (v : Variable) → V v ≡ true → (has firsts v ≡ true) ⊎ ((y : Variable) × ((has seconds y ≡ true) × (raised base y ≡ v))))
    (first_in : (v : Variable) → has firsts v ≡ true → V v ≡ true)
    (second_in : (y : Variable) → has seconds y ≡ true → V (raised base y) ≡ true) where
  abbrev f1 : Variable → Tree
  f1 v = image found (raised 0 v)

  abbrev f2 : Variable → Tree
  f2 v = image found (raised base v)

  abbrev left : List (Variable × Tree)
  left = images_of found 0 firsts

  abbrev right : List (Variable × Tree)
  right = images_of found base seconds

  abbrev forced : List Variable
  forced = forced_of left right

  abbrev known : List Variable
  known = known_of left right

  first_image : (v : Variable) → image found (raised 0 v) ≡ image found v
  first_image v = ap (image found) (raised_none v)

  pub plain_images : are_plain S left right ≡ true → (v : Variable) → V v ≡ true → is_abstraction v ≡ true → foreground S (image found v) ≡ false
  plain_images h v i a =
      let two = and-true (is_plain S left) (is_plain S right) h in
      elim (from_list v i) [
        | inl m ↦ (ap (foreground S) (sym (first_image v)) ∙ plain_own f1 S firsts two.0 v m a)
        | inr r ↦ (ap (λ x. foreground S (image found x)) (sym r.1.1) ∙ plain_own f2 S seconds two.1 r.0 r.1.0 (ap is_abstraction r.1.1 ∙ a))
      ]

  pub foreground_somewhere : are_plain S left right ≡ false → (v : Variable) × ((is_abstraction v ≡ true) × (foreground S (image found v) ≡ true))
  foreground_somewhere h = elim (true_or_false (is_plain S left)) [
    | inl y ↦ (
        let other : is_plain S right ≡ false = subst (λ c. (c && is_plain S right) ≡ false) y h in
        let r = not_plain f2 S seconds other in
        (raised base r.of, (r.abstraction, r.foreground_beside)))
    | inr n ↦ (
        let r = not_plain f1 S firsts n in
        (r.of, (r.abstraction, ap (foreground S) (sym (first_image r.of)) ∙ r.foreground_beside)))
  ]

  sound : (z : Variable) → has forced z ≡ true → IsForced V (image found) z
  sound z h = elim (forced_only f2 seconds (forced_in left []) z h) [
    | inl b ↦ elim (forced_only f1 firsts [] z b) [
      | inl e ↦ absurd (both_ways false e refl)
      | inr r ↦ record { from = r.of; within = first_in r.of r.listed; abstraction = r.abstraction; below = ap (occurs z) (sym (first_image r.of)) ∙ r.below }
    ]
    | inr r ↦ record { from = raised base r.of; within = second_in r.of r.listed; abstraction = r.abstraction; below = r.below }
  ]

  complete : (z : Variable) → IsForced V (image found) z → has forced z ≡ true
  complete z f = elim (from_list f.from f.within) [
    | inl m ↦ forced_before f2 seconds (forced_in left []) z (forced_own f1 firsts [] f.from z m f.abstraction (ap (occurs z) (first_image f.from) ∙ f.below))
    | inr r ↦ forced_own f2 seconds (forced_in left []) r.0 z r.1.0 (ap is_abstraction r.1.1 ∙ f.abstraction) (ap (λ x. occurs z (image found x)) r.1.1 ∙ f.below)
  ]

  all_known : (v z : Variable) → V v ≡ true → occurs z (image found v) ≡ true → has known z ≡ true
  all_known v z i o = elim (from_list v i) [
    | inl m ↦ known_before f2 seconds (known_in left []) z (known_own f1 firsts [] v z m (ap (occurs z) (first_image v) ∙ o))
    | inr r ↦ known_own f2 seconds (known_in left []) r.0 z r.1.0 (ap (λ x. occurs z (image found x)) r.1.1 ∙ o)
  ]

  integers : are_plain S left right ≡ true → (z : Variable) → has forced z ≡ true → z.sort ≡ Int
  integers h z i =
      let f = sound z i in
      forced_integers law S (image found) sorted f.from z f.abstraction (plain_images h f.from f.within f.abstraction) f.below

  pub naming : are_plain S left right ≡ true → IsRenaming V (image found) (new_name forced known) (old_name forced known)
  naming h = is_renaming V (image found) forced known complete sound (integers h) all_known

-- what a search answers
pub of_some : {A : Type 0} (o : Option A) (x : A) (P : A → Type 0) → o ≡ Some x → IfSome o P → P x
of_some {A} o x P is h = subst (λ (p : Option A). IfSome p P) is h

pub of_none : {A : Type 0} (o : Option A) (P : Type 0) → o ≡ None → IfNone o P → P
of_none {A} o P is h = subst (λ (p : Option A). IfNone p P) is h

-- the images under the names of an answer, at the variables of the first list
named_first : (forced known : List Variable) (found : List (Variable × Term)) (list : List Variable) (v : Variable)
    → named forced known found 0 list v ≡ (if has list v then named_by (image found) (new_name forced known) v else var v)
named_first forced known found list v = ap (λ x. if has list v then renamed forced known (image found x) else var v) (raised_none v)

-- a variable of no list stays
pub other_named : (forced known : List Variable) (found : List (Variable × Term)) (base : ℕ) (list : List Variable) (V : Variable → Bool)
    → ((v : Variable) → has list v ≡ true → V v ≡ true) → (s : Variable → Tree)
    → ((v : Variable) → s v ≡ named forced known found base list v) → (v : Variable) → V v ≡ false → s v ≡ var v
other_named forced known found base list V back s is v out = elim (true_or_false (has list v)) [
  | inl h ↦ absurd (both_ways (V v) (back v h) out)
  | inr h ↦ (let kept : named forced known found base list v ≡ var v = rw h refl in is v ∙ kept)
]

-- one premise: the variables are those of one list
module _ (law : BackgroundLaw) (S : List Symbol) (l u : Tree) (list : List Variable) (found : List (Variable × Term))
    (in_l : (v : Variable) → occurs v l ≡ true → has list v ≡ true) (in_u : (v : Variable) → occurs v u ≡ true → has list v ≡ true)
    (solved : IsGeneral S l u (image found)) where
  abbrev one_left : List (Variable × Tree)
  one_left = images_of found 0 list

  listed_from : (v : Variable) → has list v ≡ true → (has list v ≡ true) ⊎ ((y : Variable) × ((has [] y ≡ true) × (raised 0 y ≡ v)))
  listed_from v i = inl i

  none_second : (y : Variable) → has [] y ≡ true → has list (raised 0 y) ≡ true
  none_second y i = absurd (both_ways false i refl)

  pub one_answer : are_plain S one_left [] ≡ true → (W : Variable → Bool) → ((v : Variable) → W v ≡ true → has list v ≡ true)
      → (t : Variable → Tree) → ((v : Variable) → t v ≡ named (forced_of one_left []) (known_of one_left []) found 0 list v)
      → IsMostGeneral S W l u t
  one_answer h W within t e =
      let forced = forced_of one_left [] in
      let known = known_of one_left [] in
      general_same S (has list) W l u (λ v. if has list v then named_by (image found) (new_name forced known) v else var v) t
      (λ v. e v ∙ named_first forced known found list v) within
      (answer_general S l u (has list) (image found) solved
      (plain_images law S (has list) list [] 0 found solved.sorted listed_from (λ v i. i) none_second h)
      (new_name forced known) (old_name forced known)
      (naming law S (has list) list [] 0 found solved.sorted listed_from (λ v i. i) none_second h)
      in_l in_u)

  pub one_foreground : are_plain S one_left [] ≡ false → NoUnifier S l u
  one_foreground h =
      let r = foreground_somewhere law S (has list) list [] 0 found solved.sorted listed_from (λ v i. i) none_second h in
      λ q simple e. none_foreground S l u (has list) (image found) solved r.0 r.1.0 r.1.1 q simple e

  pub one_some : {E : Type 0} (r : Result (Option (List (Variable × Term))) E) (W : Variable → Bool) → ((v : Variable) → W v ≡ true → has list v ≡ true)
      → IfOk r (λ o. IfSome o (λ s. are_plain S one_left [] ≡ true))
      → IfOk r (λ o. IfSome o (λ s. (v : Variable) → image s v ≡ named (forced_of one_left []) (known_of one_left []) found 0 list v))
      → IfOk r (λ o. IfSome o (λ s. IsMostGeneral S W l u (image s)))
  one_some (Err e) W within plain e1 = tt
  one_some (Ok None) W within plain e1 = tt
  one_some (Ok (Some s)) W within plain e1 = one_answer plain W within (image s) e1

  pub one_none : {E : Type 0} (r : Result (Option (List (Variable × Term))) E) → IfOk r (λ o. IfNone o (are_plain S one_left [] ≡ false)) → IfOk r (λ o. IfNone o (NoUnifier S l u))
  one_none (Err e) h = tt
  one_none (Ok None) h = one_foreground h
  one_none (Ok (Some s)) h = tt

pub one_unsorted : (S : List Symbol) (l u : Tree) → NoneSorted S l u → NoUnifier S l u
one_unsorted S l u h = λ r simple e. h r simple.sorted e

-- two premises: the second one's variables have raised numbers
module _ (S : List Symbol) (l u : Tree) (firsts seconds : List Variable) (base : ℕ)
    (in_l : (v : Variable) → occurs v l ≡ true → has firsts v ≡ true) (in_u : (v : Variable) → occurs v u ≡ true → has seconds v ≡ true)
    (below : (v : Variable) → has firsts v ≡ true → v.id < base) where
  abbrev apart : IsApart (has firsts) (is_raised base) (raised base) (lowered base)
  apart = raised_apart (has firsts) base below

  pub pair_unsorted : NoneSorted S l (put_in (λ v. var (raised base v)) u) → NoPair S l u
  pair_unsorted h = no_pair_unsorted S (has firsts) (has seconds) l u in_l in_u (is_raised base) (raised base) (lowered base) apart h

  abbrev both : Variable → Bool
  both x = if is_raised base x then has seconds (lowered base x) else has firsts x

  both_from : (v : Variable) → both v ≡ true → (has firsts v ≡ true) ⊎ ((y : Variable) × ((has seconds y ≡ true) × (raised base y ≡ v)))
  both_from v i = elim (true_or_false (is_raised base v)) [
    | inl r ↦ (let e : both v ≡ has seconds (lowered base v) = rw r refl in inr (lowered base v, (sym e ∙ i, apart.comes_back v r)))
    | inr n ↦ (let e : both v ≡ has firsts v = rw n refl in inl (sym e ∙ i))
  ]

  both_first : (v : Variable) → has firsts v ≡ true → both v ≡ true
  both_first v m = let n = apart.first_apart v m in let e : both v ≡ has firsts v = rw n refl in e ∙ m

  both_second : (y : Variable) → has seconds y ≡ true → both (raised base y) ≡ true
  both_second y m =
      let r = apart.second_apart y in
      let e : both (raised base y) ≡ has seconds (lowered base (raised base y)) = rw r refl in
      e ∙ ap (has seconds) (apart.returns y) ∙ m

  module _ (law : BackgroundLaw) (found : List (Variable × Term)) (solved : IsGeneral S l (put_in (λ v. var (raised base v)) u) (image found)) where
    abbrev two_left : List (Variable × Tree)
    two_left = images_of found 0 firsts

    abbrev two_right : List (Variable × Tree)
    two_right = images_of found base seconds

    pub pair_answer : are_plain S two_left two_right ≡ true
        → (Wl Wr : Variable → Bool) → ((v : Variable) → Wl v ≡ true → has firsts v ≡ true) → ((v : Variable) → Wr v ≡ true → has seconds v ≡ true)
        → (t1 t2 : Variable → Tree)
        → ((v : Variable) → t1 v ≡ named (forced_of two_left two_right) (known_of two_left two_right) found 0 firsts v)
        → ((v : Variable) → t2 v ≡ named (forced_of two_left two_right) (known_of two_left two_right) found base seconds v)
        → IsMostGeneralPair S Wl Wr l u t1 t2
    pair_answer h Wl Wr within1 within2 t1 t2 e1 e2 =
        let forced = forced_of two_left two_right in
        let known = known_of two_left two_right in
        pair_same S (has firsts) (has seconds) Wl Wr l u
        (λ v. if has firsts v then named_by (image found) (new_name forced known) v else var v)
        (λ v. if has seconds v then named_by (image found) (new_name forced known) (raised base v) else var v)
        t1 t2 (λ v. e1 v ∙ named_first forced known found firsts v) e2 within1 within2
        (pair_general S (has firsts) (has seconds) l u in_l in_u (is_raised base) (raised base) (lowered base) apart (image found) solved
        (plain_images law S both firsts seconds base found solved.sorted both_from both_first both_second h)
        (new_name forced known) (old_name forced known)
        (naming law S both firsts seconds base found solved.sorted both_from both_first both_second h))

    pub pair_foreground : are_plain S two_left two_right ≡ false → NoPair S l u
    pair_foreground h =
        let r = foreground_somewhere law S both firsts seconds base found solved.sorted both_from both_first both_second h in
        no_pair_foreground S (has firsts) (has seconds) l u in_l in_u (is_raised base) (raised base) (lowered base) apart (image found) solved r.0 r.1.0 r.1.1

    abbrev Answer : Type 0
    Answer = List (Variable × Term) × List (Variable × Term)

    -- the same of what the code answers
    pub pair_some : {E : Type 0} (r : Result (Option Answer) E) (Wl Wr : Variable → Bool)
        → ((v : Variable) → Wl v ≡ true → has firsts v ≡ true) → ((v : Variable) → Wr v ≡ true → has seconds v ≡ true)
        → IfOk r (λ o. IfSome o (λ p. are_plain S two_left two_right ≡ true))
        → IfOk r (λ o. IfSome o (λ p. (v : Variable) → image p.0 v ≡ named (forced_of two_left two_right) (known_of two_left two_right) found 0 firsts v))
        → IfOk r (λ o. IfSome o (λ p. (v : Variable) → image p.1 v ≡ named (forced_of two_left two_right) (known_of two_left two_right) found base seconds v))
        → IfOk r (λ o. IfSome o (λ p. IsMostGeneralPair S Wl Wr l u (image p.0) (image p.1)))
    pair_some (Err e) Wl Wr within1 within2 plain e1 e2 = tt
    pair_some (Ok None) Wl Wr within1 within2 plain e1 e2 = tt
    pair_some (Ok (Some p)) Wl Wr within1 within2 plain e1 e2 = pair_answer plain Wl Wr within1 within2 (image p.0) (image p.1) e1 e2

    pub pair_none : {E : Type 0} (r : Result (Option Answer) E) → IfOk r (λ o. IfNone o (are_plain S two_left two_right ≡ false)) → IfOk r (λ o. IfNone o (NoPair S l u))
    pair_none (Err e) h = tt
    pair_none (Ok None) h = pair_foreground h
    pair_none (Ok (Some p)) h = tt

-- on the variables of the terms alone
pub pair_alone : {E : Type 0} (r : Result (Option (List (Variable × Term) × List (Variable × Term))) E) (S : List Symbol) (l u : Tree)
    → IfOk r (λ o. IfSome o (λ p. IsMostGeneralPair S (occurs_or l []) (occurs_or u []) l u (image p.0) (image p.1)))
    → IfOk r (λ o. IfSome o (λ p. IsMostGeneralPair S (λ v. occurs v l) (λ v. occurs v u) l u (image p.0) (image p.1)))
pair_alone (Err e) S l u h = tt
pair_alone (Ok None) S l u h = tt
pair_alone (Ok (Some p)) S l u h =
    pair_same S (occurs_or l []) (occurs_or u []) (λ v. occurs v l) (λ v. occurs v u) l u (image p.0) (image p.1) (image p.0) (image p.1)
    (λ v. refl) (λ v. refl) (λ v o. or-left (occurs v l) false o) (λ v o. or-left (occurs v u) false o) h

-- one premise, and two: other variables stay
pub one_others : {E : Type 0} (r : Result (Option (List (Variable × Term))) E) (found : List (Variable × Term)) (list : List Variable) (V : Variable → Bool)
    → ((v : Variable) → has list v ≡ true → V v ≡ true)
    → IfOk r (λ o. IfSome o (λ s. (v : Variable) → image s v ≡ named (forced_of (images_of found 0 list) []) (known_of (images_of found 0 list) []) found 0 list v))
    → IfOk r (λ o. IfSome o (λ s. (v : Variable) → V v ≡ false → image s v ≡ var v))
one_others (Err e) found list V back is = tt
one_others (Ok None) found list V back is = tt
one_others (Ok (Some s)) found list V back is =
    let left = images_of found 0 list in
    other_named (forced_of left []) (known_of left []) found 0 list V back (image s) is

pub pair_others : {E : Type 0} (r : Result (Option (List (Variable × Term) × List (Variable × Term))) E) (found : List (Variable × Term)) (base : ℕ)
    (firsts seconds : List Variable) (V1 V2 : Variable → Bool)
    → ((v : Variable) → has firsts v ≡ true → V1 v ≡ true) → ((v : Variable) → has seconds v ≡ true → V2 v ≡ true)
    → IfOk r (λ o. IfSome o (λ p. (v : Variable) → image p.0 v ≡ named (forced_of (images_of found 0 firsts) (images_of found base seconds)) (known_of (images_of found 0 firsts) (images_of found base seconds)) found 0 firsts v))
    → IfOk r (λ o. IfSome o (λ p. (v : Variable) → image p.1 v ≡ named (forced_of (images_of found 0 firsts) (images_of found base seconds)) (known_of (images_of found 0 firsts) (images_of found base seconds)) found base seconds v))
    → IfOk r (λ o. IfSome o (λ p. ((v : Variable) → V1 v ≡ false → image p.0 v ≡ var v) × ((v : Variable) → V2 v ≡ false → image p.1 v ≡ var v)))
pair_others (Err e) found base firsts seconds V1 V2 back1 back2 is1 is2 = tt
pair_others (Ok None) found base firsts seconds V1 V2 back1 back2 is1 is2 = tt
pair_others (Ok (Some p)) found base firsts seconds V1 V2 back1 back2 is1 is2 =
    let F = forced_of (images_of found 0 firsts) (images_of found base seconds) in
    let K = known_of (images_of found 0 firsts) (images_of found base seconds) in
    (other_named F K found 0 firsts V1 back1 (image p.0) is1, other_named F K found base seconds V2 back2 (image p.1) is2)

-- no further variables
pub pair_others_alone : {E : Type 0} (r : Result (Option (List (Variable × Term) × List (Variable × Term))) E) (l u : Tree)
    → IfOk r (λ o. IfSome o (λ p. ((v : Variable) → occurs_or l [] v ≡ false → image p.0 v ≡ var v) × ((v : Variable) → occurs_or u [] v ≡ false → image p.1 v ≡ var v)))
    → IfOk r (λ o. IfSome o (λ p. ((v : Variable) → occurs v l ≡ false → image p.0 v ≡ var v) × ((v : Variable) → occurs v u ≡ false → image p.1 v ≡ var v)))
pair_others_alone (Err e) l u h = tt
pair_others_alone (Ok None) l u h = tt
pair_others_alone (Ok (Some p)) l u h = ((λ v o. h.0 v (or_none (occurs v l) ∙ o)), (λ v o. h.1 v (or_none (occurs v u) ∙ o)))
