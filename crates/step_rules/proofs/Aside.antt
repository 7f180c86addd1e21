-- Terms and literals of two lists, side by side.
use Rattle.std.specs.Prelude.{◌≡◌, ◌<◌, ◌≤◌, ◌+◌, ◌-◌, ◌==◌, ℕ, suc, Bool, ◌&&◌, List, [], ◌∷◌, map, take, drop, length, if◌then◌else◌}
use Rattle.std.proofs.Common.{refl, sym, ◌∙◌, ap, arith, get_or, add-one, drop-cons}
use Rattle.std.proofs.lemmas.Grind.{common_steps}
use Rattle.std.proofs.lemmas.List.{drop_all}
use Rattle.term_base.specs.declared.clauses.Literal.{Literal}
use Rattle.term_base.specs.declared.terms.Term.{Term}
use Rattle.term_base.specs.declared.variables.Variable.{Variable}
use Rattle.term_base.specs.Trees.{Tree, var, none, tree, trees, same_tree, same_trees}
use Rattle.term_base.specs.Substitution.{put_all}
use Rattle.term_base.specs.Lits.{lit, put_lit, put_clause}
use Rattle.step_rules.specs.Literals.{same_lit, same_lits}
use Rattle.step_rules.specs.Abstraction.{put_back}

none-left : (ts : List Term) → same_trees none (trees (map tree ts)) ≡ (length ts == 0)
none-left [] = refl
none-left (t ∷ ts) = grind (arith, common_steps)

module _ (back : Variable → Tree) where
  -- the first list has ended
  pub terms_end : (xs rest : List Term) (i : ℕ) (b : Bool) → length xs ≤ i → b ≡ (length rest == 0) → b ≡ same_trees (put_all back (trees (map tree (drop i xs)))) (trees (map tree rest))
  terms_end xs rest i b h e =
      e ∙ sym (ap (λ ms. same_trees (put_all back (trees (map tree ms))) (trees (map tree rest))) (drop_all i xs h) ∙ none-left rest)

  begins : (ls : List Literal) (l : Literal) → 1 ≤ length ls → l ≡ get_or ls 0 l → ls ≡ l ∷ drop 1 ls
  begins ls l h is = drop-cons ls 0 l (omega arith) ∙ ap (λ k. k ∷ drop 1 ls) (sym is)

  -- both lists have a literal more
  pub literals_on : (body rest : List Literal) (i : ℕ) (l m : Literal) → i < length body → 1 ≤ length rest → l ≡ get_or body i l → m ≡ get_or rest 0 m →
      same_lits (put_clause back (map lit (drop i body))) (map lit rest)
      ≡ (same_lit (put_lit back (lit l)) (lit m) && same_lits (put_clause back (map lit (drop (i + 1) body))) (map lit (drop 1 rest)))
  literals_on body rest i l m h there l-is m-is =
      ap (λ ks. same_lits (put_clause back (map lit ks)) (map lit rest))
      (drop-cons body i l h ∙ ap (λ k. k ∷ drop (suc i) body) (sym l-is) ∙ ap (λ n. l ∷ drop n body) (sym (add-one i)))
      ∙ ap (λ ks. same_lits (put_clause back (map lit (l ∷ drop (i + 1) body))) (map lit ks)) (begins rest m there m-is)

-- the first literal whose variable it is, or a later one
pub back-next : (ds : List Literal) (i : ℕ) (d : Literal) (v : Variable) → i < length ds → d ≡ get_or ds i d →
    put_back (map lit (drop i ds)) v ≡ (if same_tree (lit d).left (var v) then (lit d).right else put_back (map lit (drop (i + 1) ds)) v)
back-next ds i d v h is =
    ap (λ ks. put_back (map lit ks) v) (drop-cons ds i d h ∙ ap (λ k. k ∷ drop (suc i) ds) (sym is) ∙ ap (λ n. d ∷ drop n ds) (sym (add-one i)))

-- what a pattern leaves of a list
pub left-over : (ms : List Literal) → take (length ms - 1) (drop 1 ms) ≡ drop 1 ms
left-over ms = grind (arith, common_steps)
