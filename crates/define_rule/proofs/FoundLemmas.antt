-- What the code forms is the next term.
use Rattle.std.proofs.Common.{◌≡◌, Result, Ok, Err, IfOk, Bool, true, false, not, List, [], ◌∷◌, ◌++◌, fold, if◌then◌else◌, refl, ap, sym, ◌∙◌, append_assoc, append-nil}
use Rattle.std.specs.Prelude.{Option, Some, None, option_map}
use Rattle.std.specs.Option.{option_or}
use Rattle.term_base.specs.declared.symbols.Symbol.{Symbol}
use Rattle.term_base.specs.declared.terms.Term.{Term}
use Rattle.term_base.specs.Trees.{Tree, tree}
use Rattle.term_base.specs.Substitution.{put_in}
use Rattle.term_base.specs.Lits.{Lit, put_clause}
use Rattle.define_rule.specs.Pins.{pin}
use Rattle.define_rule.specs.NextTerm.{in_order, first_definable, differs_from_itself, without_trivial, is_definition, next_term}
use Rattle.define_rule.specs.Scan.{literal_find}
use Rattle.define_rule.specs.Found.{clause_find, add_remaining, remaining, after_find, found}
use Rattle.define_rule.proofs.ScanLemmas.{literal_first}

step : (b : Bool) (all : List Lit) (l : Lit) (ls : List Lit) → (if b then all else all ++ l ∷ []) ++ ls ≡ all ++ (if not b then l ∷ ls else ls)
step true all l ls = refl
step false all l ls = append_assoc all (l ∷ []) ls

-- literals are kept one by one
kept_each : (ls all : List Lit) → fold add_remaining all ls ≡ all ++ without_trivial ls
kept_each [] all = sym (append-nil all)
kept_each (l ∷ ls) all =
    kept_each ls (add_remaining all l)
    ∙ step (differs_from_itself l.relation l.left l.right) all l (without_trivial ls)

either_way : (b : Bool) (o : Option Tree) → o ≡ (if b then o else o)
either_way true o = refl
either_way false o = refl

module _ (S : List Symbol) (c : List Lit) where
  clause_first : (ls : List Lit) → first_definable S c (in_order ls) ≡ clause_find S c ls
  clause_first [] = refl
  clause_first (l ∷ ls) = literal_first S c l ls ∙ ap (option_or (literal_find S c l)) (clause_first ls)

  abbrev defined : Bool
  defined = is_definition S (without_trivial (put_clause (pin S c) c))

  remaining_is : remaining S c ≡ without_trivial (put_clause (pin S c) c)
  remaining_is = kept_each (put_clause (pin S c) c) []

  after_is : (o : Option Tree) → after_find S c o ≡ (if defined then None else option_map (put_in (pin S c)) o)
  after_is None = either_way defined None
  after_is (Some t) = ap (λ (ls : List Lit). if is_definition S ls then None else Some (put_in (pin S c) t)) remaining_is

  found_is : found S c ≡ next_term S c
  found_is = ap (after_find S c) (sym (clause_first c)) ∙ after_is (first_definable S c (in_order c))

  pub exactly : {E : Type 0} (r : Result (Option Term) E) → IfOk r (λ o. option_map tree o ≡ found S c) → IfOk r (λ o. option_map tree o ≡ next_term S c)
  exactly (Ok o) e = e ∙ found_is
  exactly (Err x) e = tt
