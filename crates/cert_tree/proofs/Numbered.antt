-- Children that are numbered, one after the other.
use Rattle.std.specs.Prelude.{◌≡◌, ℕ, suc, ◌<◌, ◌+◌, ◌-◌, ◌^◌, nat_lt, ℤ, pos, negsuc, ◌≤ℤ◌, ◌-ℤ◌, Bool, true, false, cond, ◌&&◌, int_le, length, get_or, drop, map, List, [], ◌∷◌, Option, Some, None}
use Rattle.std.specs.List.{flat_map}
use Rattle.std.proofs.Common.{refl, sym, ◌∙◌, ap, to_z, arith, add-one}
use Rattle.std.specs.Int.{w128}
use Rattle.std.proofs.lemmas.Int.{ints}
use Rattle.std.proofs.lemmas.List.{at_drop_more}
use Rattle.std.proofs.lemmas.Bool.{cond_both}
use Rattle.lin_base.specs.declared.sums.Lin.{Lin}
use Rattle.lin_base.specs.declared.facts.Fact.{Fact}
use Rattle.lin_base.specs.declared.wides.Wide.{Wide}
use Rattle.lin_base.specs.Whole.{is_same}
use Rattle.lin_base.specs.Fact.{is_lin}
use Rattle.lin_base.specs.Steps.{is_narrow}
use Rattle.lin_base.proofs.Ring.{is_zero_in}
use Rattle.cert_tree.specs.declared.certs.Tree.{Tree}
use Rattle.cert_tree.specs.Counting.{count_from, numbers_below, is_over_free}
use Rattle.cert_tree.specs.Narrow.{if_narrow}
use Rattle.cert_tree.specs.Children.{residue_steps, residues_steps, residue_child}
use Rattle.cert_tree.specs.Stands.{Node, each_stands, numbered_stand, residues_stand}
use Rattle.cert_tree.proofs.Narrow.{is_narrow-append}
use Rattle.cert_tree.proofs.Truth.{if_narrow_out}

module _ (steps : ℕ → List Wide) (state : ℕ → List Fact) (used : List ℕ) where
  -- the child at a place stands
  pub numbered_on : {A : Type 0} (node : Tree → Node) (ts : List Tree) (i : ℕ) (t : Tree) (o : Option A) (x y : A) → i < length ts → t ≡ get_or ts i t
      → o ≡ if_narrow (steps i) x → o ≡ Some y → node t used (state i) ≡ true
      → numbered_stand steps state used i (map node (drop i ts)) ≡ numbered_stand steps state used (i + 1) (map node (drop (i + 1) ts))
  numbered_on node ts i t o x y h at_ is some stood =
      let narrow = (if_narrow_out (steps i) x y (sym is ∙ some)).0 in
      let rest = numbered_stand steps state used (i + 1) (map node (drop (i + 1) ts)) in
      at_drop_more (λ us. numbered_stand steps state used i (map node us)) ts i t h
      ∙ ap (λ u. is_narrow (steps i) && (node u used (state i) && rest)) (sym at_)
      ∙ ap (λ b. b && (node t used (state i) && rest)) narrow
      ∙ ap (λ b. b && rest) stood

  -- the first child stands
  pub numbered_next : {A : Type 0} (node : Tree → Node) (us vs : List Tree) (i : ℕ) (t : Tree) (o : Option A) (x y : A) → us ≡ t ∷ vs
      → o ≡ if_narrow (steps i) x → o ≡ Some y → node t used (state i) ≡ true
      → numbered_stand steps state used i (map node us) ≡ numbered_stand steps state used (i + 1) (map node vs)
  numbered_next node us vs i t o x y cons is some stood =
      let narrow = (if_narrow_out (steps i) x y (sym is ∙ some)).0 in
      let rest = numbered_stand steps state used (i + 1) (map node vs) in
      ap (λ ws. numbered_stand steps state used i (map node ws)) cons
      ∙ ap (λ b. b && (node t used (state i) && rest)) narrow
      ∙ ap (λ b. b && rest) stood

  -- a step of the first child leaves the range
  pub numbered_wide : {A : Type 0} (node : Tree → Node) (us vs : List Tree) (i : ℕ) (t : Tree) (o : Option A) (x : A) → us ≡ t ∷ vs
      → o ≡ if_narrow (steps i) x → o ≡ None → numbered_stand steps state used i (map node us) ≡ false
  numbered_wide {A} node us vs i t o x cons is none =
      ap (λ ws. numbered_stand steps state used i (map node ws)) cons ∙ by_steps (is_narrow (steps i)) (sym is ∙ none)
    where
      by_steps : (b : Bool) → cond b (Some x) None ≡ None → (b && (node t used (state i) && numbered_stand steps state used (i + 1) (map node vs))) ≡ false
      by_steps true h = absurd (cc)
      by_steps false h = refl

  -- the first child doesn't stand
  pub numbered_not : (node : Tree → Node) (us vs : List Tree) (i : ℕ) (t : Tree) → us ≡ t ∷ vs
      → node t used (state i) ≡ false → numbered_stand steps state used i (map node us) ≡ false
  numbered_not node us vs i t cons fell =
      ap (λ ws. numbered_stand steps state used i (map node ws)) cons
      ∙ ap (λ b. is_narrow (steps i) && (b && numbered_stand steps state used (i + 1) (map node vs))) fell
      ∙ last_false (is_narrow (steps i))
    where
      last_false : (b : Bool) → (b && false) ≡ false
      last_false true = refl
      last_false false = refl

  swap_and : (a b c d : Bool) → (a && (b && (c && d))) ≡ ((a && c) && (b && d))
  swap_and true true c d = refl
  swap_and true false true d = refl
  swap_and true false false d = refl
  swap_and false b c d = refl

  -- all of them
  pub numbered_all : (i : ℕ) (nodes : List Node)
      → numbered_stand steps state used i nodes ≡ (is_narrow (flat_map steps (count_from i (length nodes))) && each_stands used nodes (map state (count_from i (length nodes))))
  numbered_all i [] = refl
  numbered_all i (node ∷ nodes) =
      rw (add-one i, numbered_all (suc i) nodes, is_narrow-append (steps i) (flat_map steps (count_from (suc i) (length nodes))))
      (swap_and (is_narrow (steps i)) (node used (state i)) (is_narrow (flat_map steps (count_from (suc i) (length nodes)))) (each_stands used nodes (map state (count_from (suc i) (length nodes)))))

same_itself : (n : ℕ) → is_same (pos n) (pos n) ≡ true
same_itself n = is_zero_in (pos n -ℤ pos n) (omega (arith, ints))

-- Residues whose conditions hold
pub residues_numbered : (params : ℕ) (m : ℤ) (t : Lin) (nodes : List Node) (used : List ℕ) (facts : List Fact)
    → int_le (pos 2) m ≡ true → is_lin t ≡ true → is_over_free params used t ≡ true → m ≡ pos (length nodes)
    → residues_stand params m t nodes used facts ≡ numbered_stand (residue_steps t) (residue_child facts m t) used 0 nodes
residues_numbered params m t nodes used facts two is free count =
    rw (two, is, free, is_count) (counted m count ∙ sym (numbered_all (residue_steps t) (residue_child facts m t) used 0 nodes))
  where
    is_count : is_same (pos (length nodes)) m ≡ true
    is_count = rw count (same_itself (length nodes))

    counted : (k : ℤ) → k ≡ pos (length nodes) → (is_narrow (residues_steps k t) && each_stands used nodes (map (residue_child facts m t) (numbers_below k))) ≡ (is_narrow (residues_steps (pos (length nodes)) t) && each_stands used nodes (map (residue_child facts m t) (numbers_below (pos (length nodes)))))
    counted k e = rw e refl

-- a count in 128 bits that is at least 2
not_negative : (k : ℕ) (m : ℤ) → negsuc k ≡ m → pos 2 ≤ℤ m → ⊥
not_negative k m e two = omega (arith, ints, e, two)

pub count_of : (m : ℤ) (bits n : ℕ) → to_z w128 bits ≡ m → pos 2 ≤ℤ m → n ≡ bits → m ≡ pos n
count_of m bits n e two same =
    cond_both (nat_lt n (2 ^ 127)) (pos n) (negsuc (2 ^ 128 - suc n)) (λ z. z ≡ m → m ≡ pos n) (λ _ h. sym h) (λ _ h. absurd (not_negative (2 ^ 128 - suc n) m h two)) (ap (to_z w128) same ∙ e)
