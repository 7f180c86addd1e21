-- The precedence of heads is irreflexive, transitive and total.
use Rattle.std.proofs.Common.{◌≡◌, ◌⊎◌, inl, inr, ℤ, pos, negsuc, true, false, List, refl, ap, ◌∙◌, arith}
use Rattle.std.proofs.lemmas.Grind.{common_steps}
use Rattle.term_base.specs.declared.symbols.Symbol.{Symbol}
use Rattle.term_base.specs.Purity.{foreground_head}
use Rattle.term_base.specs.Trees.{Head, truth, number, plus, times, symbol}
use Rattle.term_order.specs.Above.{number_below, head_below}

number_below-total : (m n : ℤ) → number_below m n ≡ false → number_below n m ≡ false → m ≡ n
number_below-total (pos m) (pos n) h k = let e : m ≡ n = grind (arith, common_steps, h, k) in ap pos e
number_below-total (negsuc m) (negsuc n) h k = let e : m ≡ n = grind (arith, common_steps, h, k) in ap negsuc e
number_below-total (pos m) (negsuc n) h k = absurd (grind (arith, common_steps, h, k))
number_below-total (negsuc m) (pos n) h k = absurd (grind (arith, common_steps, h, k))

module _ (S : List Symbol) where
  pub below_itself : (f : Head) → head_below S f f ≡ true → ⊥
  below_itself f h = grind (arith, common_steps, h)

  pub below_below : (f g h : Head) → head_below S h g ≡ true → head_below S g f ≡ true → head_below S h f ≡ true
  below_below f g h p q = grind (arith, common_steps, p, q)

  -- heads of which neither is smaller are equal
  pub heads_total : (f g : Head) → head_below S f g ≡ false → head_below S g f ≡ false → f ≡ g
  heads_total truth truth h k = refl
  heads_total plus plus h k = refl
  heads_total times times h k = refl
  heads_total (number m) (number n) h k = ap number (number_below-total m n h k)
  heads_total (symbol f) (symbol g) h k = let e : f ≡ g = grind (arith, common_steps, h, k) in ap symbol e
  heads_total _ _ h k = absurd (grind (arith, common_steps, h, k))

  -- a head above a foreground symbol is one
  pub foreground_rises : (f g : Head) → (head_below S g f ≡ true) ⊎ (f ≡ g) → foreground_head S g ≡ true → foreground_head S f ≡ true
  foreground_rises f g (inr e) h = ap (foreground_head S) e ∙ h
  foreground_rises (symbol f) (symbol g) (inl b) h = grind (arith, common_steps, b, h)
  foreground_rises truth (symbol g) (inl b) h = grind (arith, common_steps, b, h)
  foreground_rises (number n) (symbol g) (inl b) h = grind (arith, common_steps, b, h)
  foreground_rises plus (symbol g) (inl b) h = grind (arith, common_steps, b, h)
  foreground_rises times (symbol g) (inl b) h = grind (arith, common_steps, b, h)
  foreground_rises f truth (inl b) h = cc
  foreground_rises f (number n) (inl b) h = cc
  foreground_rises f plus (inl b) h = cc
  foreground_rises f times (inl b) h = cc

  -- a foreground symbol is above every other head
  pub others_below : (f g : Head) → foreground_head S f ≡ true → foreground_head S g ≡ false → head_below S g f ≡ true
  others_below (symbol f) (symbol g) p q = grind (arith, common_steps, p, q)
  others_below (symbol f) truth p q = grind (arith, common_steps, p, q)
  others_below (symbol f) (number n) p q = grind (arith, common_steps, p, q)
  others_below (symbol f) plus p q = grind (arith, common_steps, p, q)
  others_below (symbol f) times p q = grind (arith, common_steps, p, q)
  others_below truth g p q = cc
  others_below (number n) g p q = cc
  others_below plus g p q = cc
  others_below times g p q = cc
