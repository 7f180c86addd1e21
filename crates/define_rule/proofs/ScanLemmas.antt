-- The walk finds the first term to define.
use Rattle.std.proofs.Common.{◌≡◌, Bool, true, false, ◌&&◌, List, [], ◌∷◌, ◌++◌, if◌then◌else◌, refl, ap, ◌∙◌, append_assoc}
use Rattle.std.specs.Prelude.{Option, Some, None}
use Rattle.std.specs.Option.{is_some, option_or}
use Rattle.term_base.specs.declared.symbols.Symbol.{Symbol}
use Rattle.term_base.specs.Trees.{Head, Tree, Trees, var, node, none, more}
use Rattle.term_base.specs.Lits.{Lit}
use Rattle.define_rule.specs.Pins.{pinned, is_pinned, are_pinned}
use Rattle.define_rule.specs.NextTerm.{subterms, subterms_of_each, in_order, is_integer_head, first_definable}
use Rattle.define_rule.specs.Scan.{Scan, found, all_pinned, not_pinned, then_scan, at_head, unfound, scan, scan_each, found_at, literal_find}

-- what a walk without a find says of the variables
abbrev Says : Scan → Bool → Type 0
Says (found t) b = Unit {0}
Says all_pinned b = b ≡ true
Says not_pinned b = b ≡ false

says_variable : (b : Bool) → Says (unfound b) b
says_variable true = refl
says_variable false = refl

says_both : (r s : Scan) (a b : Bool) → Says r a → Says s b → Says (then_scan r s) (a && b)
says_both (found t) s a b p q = tt
says_both all_pinned (found t) a b p q = tt
says_both all_pinned all_pinned a b p q = ap (λ z. z && b) p ∙ q
says_both all_pinned not_pinned a b p q = ap (λ z. z && b) p ∙ q
says_both not_pinned (found t) a b p q = tt
says_both not_pinned all_pinned a b p q = ap (λ z. z && b) p
says_both not_pinned not_pinned a b p q = ap (λ z. z && b) p

module _ (S : List Symbol) (c : List Lit) where
  says_at : (i : Bool) (t : Tree) (b : Bool) → Says all_pinned b → Says (if i then found t else all_pinned) b
  says_at true t b p = tt
  says_at false t b p = p

  says_head : (f : Head) (t : Tree) (s : Scan) (b : Bool) → Says s b → Says (at_head S f t s) b
  says_head f t (found u) b p = tt
  says_head f t all_pinned b p = says_at (is_integer_head S f) t b p
  says_head f t not_pinned b p = p

  mutual
    says : (t : Tree) → Says (scan S c t) (is_pinned S c t)
    says (var v) = says_variable (is_some (pinned S c v))
    says (node f xs) = says_head f (node f xs) (scan_each S c xs) (are_pinned S c xs) (says_each xs)

    says_each : (xs : Trees) → Says (scan_each S c xs) (are_pinned S c xs)
    says_each none = refl
    says_each (more x xs) = says_both (scan S c x) (scan_each S c xs) (is_pinned S c x) (are_pinned S c xs) (says x) (says_each xs)

  abbrev first : List Tree → Option Tree
  first = first_definable S c

  then_first : (r s : Scan) (o : Option Tree) → option_or (found_at r) (option_or (found_at s) o) ≡ option_or (found_at (then_scan r s)) o
  then_first (found t) s o = refl
  then_first all_pinned s o = refl
  then_first not_pinned (found t) o = refl
  then_first not_pinned all_pinned o = refl
  then_first not_pinned not_pinned o = refl

  at_this : (i : Bool) (t : Tree) (o : Option Tree) → (if i && true then Some t else o) ≡ option_or (found_at (if i then found t else all_pinned)) o
  at_this true t o = refl
  at_this false t o = refl

  not_this : (i : Bool) (t : Tree) (o : Option Tree) → (if i && false then Some t else o) ≡ o
  not_this true t o = refl
  not_this false t o = refl

  -- the node itself comes after its arguments
  head_first : (f : Head) (xs : Trees) (s : Scan) → Says s (are_pinned S c xs) → (rest : List Tree) → option_or (found_at s) (first (node f xs ∷ rest)) ≡ option_or (found_at (at_head S f (node f xs) s)) (first rest)
  head_first f xs (found u) p rest = refl
  head_first f xs all_pinned p rest =
      ap (λ (b : Bool). if is_integer_head S f && b then Some (node f xs) else first rest) p
      ∙ at_this (is_integer_head S f) (node f xs) (first rest)
  head_first f xs not_pinned p rest =
      ap (λ (b : Bool). if is_integer_head S f && b then Some (node f xs) else first rest) p
      ∙ not_this (is_integer_head S f) (node f xs) (first rest)

  unfound_first : (b : Bool) (o : Option Tree) → o ≡ option_or (found_at (unfound b)) o
  unfound_first true o = refl
  unfound_first false o = refl

  mutual
    pub scan_first : (t : Tree) (rest : List Tree) → first (subterms t ++ rest) ≡ option_or (found_at (scan S c t)) (first rest)
    scan_first (var v) rest = unfound_first (is_some (pinned S c v)) (first rest)
    scan_first (node f xs) rest =
        ap first (append_assoc (subterms_of_each xs) (node f xs ∷ []) rest)
        ∙ each_first xs (node f xs ∷ rest)
        ∙ head_first f xs (scan_each S c xs) (says_each xs) rest

    each_first : (xs : Trees) (rest : List Tree) → first (subterms_of_each xs ++ rest) ≡ option_or (found_at (scan_each S c xs)) (first rest)
    each_first none rest = refl
    each_first (more x xs) rest =
        ap first (append_assoc (subterms x) (subterms_of_each xs) rest)
        ∙ scan_first x (subterms_of_each xs ++ rest)
        ∙ ap (option_or (found_at (scan S c x))) (each_first xs rest)
        ∙ then_first (scan S c x) (scan_each S c xs) (first rest)

  sides_or : (a b : Option Tree) (o : Option Tree) → option_or a (option_or b o) ≡ option_or (option_or a b) o
  sides_or None b o = refl
  sides_or (Some t) b o = refl

  -- the first term to define of a clause, literal by literal
  pub literal_first : (l : Lit) (ls : List Lit) → first (in_order (l ∷ ls)) ≡ option_or (literal_find S c l) (first (in_order ls))
  literal_first l ls =
      scan_first l.left (subterms l.right ++ in_order ls)
      ∙ ap (option_or (found_at (scan S c l.left))) (scan_first l.right (in_order ls))
      ∙ sides_or (found_at (scan S c l.left)) (found_at (scan S c l.right)) (first (in_order ls))
