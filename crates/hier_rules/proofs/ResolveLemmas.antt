-- Resolution and factoring by a most general substitution: what fires for any other is an instance.
use Rattle.std.proofs.Common.{◌≡◌, ℕ, true, List, refl, ap, sym, ◌∙◌, subst}
use Rattle.std.specs.Prelude.{Some}
use Rattle.term_base.specs.declared.places.Side.{Side}
use Rattle.term_base.specs.declared.symbols.Symbol.{Symbol}
use Rattle.term_base.specs.declared.variables.Variable.{Variable}
use Rattle.term_base.specs.Trees.{Tree}
use Rattle.term_base.specs.Substitution.{put_in, Simple}
use Rattle.term_base.specs.Lits.{Lit, put_lit, put_clause, clause_occurs, disequation}
use Rattle.term_base.specs.LitLemmas.{other-put, left_out-put, changed-put, item-put, clause_agree, member_agree}
use Rattle.term_base.specs.Places.{named, other, left_out, changed, item}
use Rattle.unifier.specs.Unifiers.{NoUnifier}
use Rattle.hier_rules.specs.Admitted.{AdmitsResolution, AdmitsFactoring}
use Rattle.hier_rules.specs.Conclusions.{IsConclusion, GivesNothing, UnifiesSides, UnifiesEquations}
use Rattle.hier_rules.specs.Fires.{Resolves, Factors}
use Rattle.hier_rules.specs.Premises.{Resolvable, Factorable}
use Rattle.hier_rules.specs.Rules.{ReplacesBy, ResolvesBy, factored}
use Rattle.hier_rules.proofs.StableLemmas.{OrderLaws, replaces_before, resolves_before}
use Rattle.hier_rules.proofs.OptionLemmas.{some_same}

module _ (order : OrderLaws) (S : List Symbol) (c : List Lit) (n : ℕ) (s s2 : Variable → Tree) (simple_second : Simple S s2) (by : UnifiesSides S c n s) where
  abbrev resolution : (Variable → Tree) → (Variable → Tree) → List Lit → Type 0
  resolution r1 r2 e = Resolves S c n r1 e

  there : item n (put_clause s c) ≡ Some (put_lit s by.l)
  there = item-put s n c by.l by.premise.from.there

  module _ (r1 : Variable → Tree) (e : List Lit) (simple1 : Simple S r1) (f : Resolves S c n r1 e) where
    same_l : f.l ≡ by.l
    same_l = some_same (item n c) f.l by.l f.premise.from.there by.premise.from.there

    abbrev after : (q : Variable → Tree) × (Simple S q × ((v : Variable) → clause_occurs v c ≡ true → put_in q (s v) ≡ r1 v))
    after = by.general.general r1 simple1 (subst (λ (z : Lit). put_in r1 z.left ≡ put_in r1 z.right) same_l f.common)

    abbrev q : Variable → Tree
    q = after.0

    c_is : put_clause q (put_clause s c) ≡ put_clause r1 c
    c_is = clause_agree q s r1 c after.1.1

    l_is : put_lit q (put_lit s by.l) ≡ put_lit r1 f.l
    l_is = member_agree q s r1 n c by.l by.premise.from.there after.1.1 ∙ ap (put_lit r1) (sym same_l)

    admitted : AdmitsResolution S (put_clause s c) n (left_out n (put_clause s c))
    admitted = record {
      l = put_lit s by.l;
      there = there;
      by = resolves_before order S q after.1.0 (put_clause s c) n (put_lit s by.l)
          (subst (λ z. ResolvesBy S z n (put_lit q (put_lit s by.l))) (sym c_is) (subst (ResolvesBy S (put_clause r1 c) n) (sym l_is) f.by));
      is = refl;
    }

    covered : put_clause q (left_out n (put_clause s c)) ≡ e
    covered = sym (left_out-put q n (put_clause s c)) ∙ ap (left_out n) c_is ∙ sym f.conclusion

  pub resolution_concluded : (k : List Lit) → AdmitsResolution S (put_clause s c) n k → IsConclusion S resolution s s2 k
  resolution_concluded k a = record {
    simple1 = by.general.simple;
    simple2 = simple_second;
    fires = record {
      l = by.l;
      premise = by.premise;
      common = by.general.equal;
      by = subst (ResolvesBy S (put_clause s c) n) (some_same (item n (put_clause s c)) a.l (put_lit s by.l) a.there there) a.by;
      conclusion = a.is;
    };
    covers = λ r1 r2 e simple1 simple2 f. record {
      by = q r1 e simple1 f;
      simple = (after r1 e simple1 f).1.0;
      is = ap (put_clause (q r1 e simple1 f)) a.is ∙ covered r1 e simple1 f;
    };
  }

  pub resolution_refused : ((k : List Lit) → AdmitsResolution S (put_clause s c) n k → ⊥) → GivesNothing S resolution
  resolution_refused refuted r1 r2 e simple1 simple2 f = refuted (left_out n (put_clause s c)) (admitted r1 e simple1 f)

pub resolution_apart : (S : List Symbol) (c : List Lit) (n : ℕ) (l : Lit) → Resolvable S c n l → NoUnifier S l.left l.right
    → (r1 r2 : Variable → Tree) (e : List Lit) → Simple S r1 → Simple S r2 → Resolves S c n r1 e → ⊥
resolution_apart S c n l p refuted r1 r2 e simple1 simple2 f =
    let same_l = some_same (item n c) f.l l f.premise.from.there p.from.there in
    refuted r1 simple1 (subst (λ (z : Lit). put_in r1 z.left ≡ put_in r1 z.right) same_l f.common)

-- the conclusion of the instance is the instance of the conclusion
factored_put : (q : Variable → Tree) (c : List Lit) (first_side : Side) (second : ℕ) (second_side : Side) (l m : Lit)
    → put_clause q (factored c first_side second second_side l m) ≡ factored (put_clause q c) first_side second second_side (put_lit q l) (put_lit q m)
factored_put q c first_side second second_side l m =
    sym (changed-put q second (disequation (other first_side l) (other second_side m)) c)
    ∙ ap (λ t. changed second (disequation t (put_in q (other second_side m))) (put_clause q c)) (sym (other-put q first_side l))
    ∙ ap (λ t. changed second (disequation (other first_side (put_lit q l)) t) (put_clause q c)) (sym (other-put q second_side m))

module _ (order : OrderLaws) (S : List Symbol) (c : List Lit) (first : ℕ) (first_side : Side) (second : ℕ) (second_side : Side) (s s2 : Variable → Tree) (simple_second : Simple S s2) (by : UnifiesEquations S c first first_side second second_side s) where
  abbrev factoring : (Variable → Tree) → (Variable → Tree) → List Lit → Type 0
  factoring r1 r2 e = Factors S c first first_side second second_side r1 e

  abbrev c1 : List Lit
  c1 = put_clause s c

  abbrev l1 : Lit
  l1 = put_lit s by.l

  abbrev m1 : Lit
  m1 = put_lit s by.m

  l1_there : item first c1 ≡ Some l1
  l1_there = item-put s first c by.l by.premise.from.there

  m1_there : item second c1 ≡ Some m1
  m1_there = item-put s second c by.m by.premise.into.there

  abbrev k1 : List Lit
  k1 = factored c1 first_side second second_side l1 m1

  module _ (r1 : Variable → Tree) (e : List Lit) (simple1 : Simple S r1) (f : Factors S c first first_side second second_side r1 e) where
    same_first : f.l ≡ by.l
    same_first = some_same (item first c) f.l by.l f.premise.from.there by.premise.from.there

    same_second : f.m ≡ by.m
    same_second = some_same (item second c) f.m by.m f.premise.into.there by.premise.into.there

    abbrev after_factoring : (q : Variable → Tree) × (Simple S q × ((v : Variable) → clause_occurs v c ≡ true → put_in q (s v) ≡ r1 v))
    after_factoring = by.general.general r1 simple1
        (ap (λ z. put_in r1 (named first_side z)) (sym same_first) ∙ f.common ∙ ap (λ z. put_in r1 (named second_side z)) same_second)

    abbrev p : Variable → Tree
    p = after_factoring.0

    instance_is : put_clause p c1 ≡ put_clause r1 c
    instance_is = clause_agree p s r1 c after_factoring.1.1

    first_is : put_lit p l1 ≡ put_lit r1 f.l
    first_is = member_agree p s r1 first c by.l by.premise.from.there after_factoring.1.1 ∙ ap (put_lit r1) (sym same_first)

    second_is : put_lit p m1 ≡ put_lit r1 f.m
    second_is = member_agree p s r1 second c by.m by.premise.into.there after_factoring.1.1 ∙ ap (put_lit r1) (sym same_second)

    factoring_admitted : AdmitsFactoring S c1 first first_side second second_side k1
    factoring_admitted = record {
      l = l1;
      m = m1;
      first_is = l1_there;
      second_is = m1_there;
      by = replaces_before order S p after_factoring.1.0 c1 first first_side l1
          (subst (λ z. ReplacesBy S z first first_side (put_lit p l1)) (sym instance_is) (subst (ReplacesBy S (put_clause r1 c) first first_side) (sym first_is) f.by));
      is = refl;
    }

    factoring_covered : put_clause p k1 ≡ e
    factoring_covered =
        factored_put p c1 first_side second second_side l1 m1
        ∙ ap (λ z. factored z first_side second second_side (put_lit p l1) (put_lit p m1)) instance_is
        ∙ ap (λ z. factored (put_clause r1 c) first_side second second_side z (put_lit p m1)) first_is
        ∙ ap (factored (put_clause r1 c) first_side second second_side (put_lit r1 f.l)) second_is
        ∙ sym f.conclusion

  pub factoring_concluded : (k : List Lit) → AdmitsFactoring S c1 first first_side second second_side k → IsConclusion S factoring s s2 k
  factoring_concluded k a =
      let same_l1 : a.l ≡ l1 = some_same (item first c1) a.l l1 a.first_is l1_there in
      let same_m1 : a.m ≡ m1 = some_same (item second c1) a.m m1 a.second_is m1_there in
      let is : k ≡ k1 = a.is ∙ ap (λ z. factored c1 first_side second second_side z a.m) same_l1 ∙ ap (factored c1 first_side second second_side l1) same_m1 in
      record {
        simple1 = by.general.simple;
        simple2 = simple_second;
        fires = record {
          l = by.l;
          m = by.m;
          premise = by.premise;
          common = by.general.equal;
          by = subst (ReplacesBy S c1 first first_side) same_l1 a.by;
          conclusion = is;
        };
        covers = λ r1 r2 e simple1 simple2 f. record {
          by = p r1 e simple1 f;
          simple = (after_factoring r1 e simple1 f).1.0;
          is = ap (put_clause (p r1 e simple1 f)) is ∙ factoring_covered r1 e simple1 f;
        };
      }

  pub factoring_refused : ((k : List Lit) → AdmitsFactoring S c1 first first_side second second_side k → ⊥) → GivesNothing S factoring
  factoring_refused refuted r1 r2 e simple1 simple2 f = refuted k1 (factoring_admitted r1 e simple1 f)

pub factoring_apart : (S : List Symbol) (c : List Lit) (first : ℕ) (first_side : Side) (second : ℕ) (second_side : Side) (l m : Lit) → Factorable S c first second l m
    → NoUnifier S (named first_side l) (named second_side m)
    → (r1 r2 : Variable → Tree) (e : List Lit) → Simple S r1 → Simple S r2 → Factors S c first first_side second second_side r1 e → ⊥
factoring_apart S c first first_side second second_side l m p refuted r1 r2 e simple1 simple2 f =
    let same_l = some_same (item first c) f.l l f.premise.from.there p.from.there in
    let same_m = some_same (item second c) f.m m f.premise.into.there p.into.there in
    refuted r1 simple1 (ap (λ z. put_in r1 (named first_side z)) (sym same_l) ∙ f.common ∙ ap (λ z. put_in r1 (named second_side z)) same_m)
