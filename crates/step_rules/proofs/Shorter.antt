-- The parts of an abstraction, and that a clause shorter than another one is no abstraction of it.
use Rattle.std.specs.Prelude.{◌≡◌, ◌<◌, Bool, true, false, ◌&&◌, List, [], map, take, drop, length}
use Rattle.std.proofs.Common.{refl, sym, ◌∙◌, ap, subst, arith}
use Rattle.std.proofs.lemmas.Grind.{common_steps}
use Rattle.std.proofs.lemmas.List.{take_all, drop_all, length-map, take-map, drop-map}
use Rattle.term_base.specs.declared.clauses.Literal.{Literal}
use Rattle.term_base.specs.declared.symbols.Symbol.{Symbol}
use Rattle.term_base.specs.Lits.{Lit, lit, put_lit, put_clause}
use Rattle.step_rules.specs.Literals.{same_lits}
use Rattle.step_rules.specs.Abstraction.{put_back, abstracts, is_abstraction}
use Rattle.step_rules.proofs.Clauses.{same_lits-shorter}

first_false : (b : Bool) → b ≡ false → (b && true) ≡ false
first_false true e = e
first_false false e = refl

module _ (signature : List Symbol) (c d : List Lit) (shorter : length d < length c) where
  differs : same_lits (put_clause (put_back []) d) c ≡ false
  differs = same_lits-shorter (put_clause (put_back []) d) c (subst (λ n. n < length c) (sym (length-map d (put_lit (put_back [])))) shorter)

  no_body : abstracts signature c d [] ≡ false
  no_body = first_false (same_lits (put_clause (put_back []) d) c) differs

  shorter_fails : is_abstraction signature c d ≡ false
  shorter_fails =
      ap (λ body. abstracts signature c body (drop (length c) d)) (take_all (length c) d (omega arith))
      ∙ ap (abstracts signature c d) (drop_all (length c) d (omega arith))
      ∙ no_body

module _ (signature : List Symbol) (c d : List Literal) where
  pub abstraction-shorter : length d < length c → is_abstraction signature (map lit c) (map lit d) ≡ false
  abstraction-shorter h =
      let short : length (map lit d) < length (map lit c) = omega (arith, length-map d lit, length-map c lit) in
      shorter_fails signature (map lit c) (map lit d) short

  pub abstraction-parts : is_abstraction signature (map lit c) (map lit d) ≡ abstracts signature (map lit c) (map lit (take (length c) d)) (map lit (drop (length c) d))
  abstraction-parts =
      ap (λ n. abstracts signature (map lit c) (take n (map lit d)) (drop n (map lit d))) (length-map c lit)
      ∙ ap (λ body. abstracts signature (map lit c) body (drop (length c) (map lit d))) (take-map lit (length c) d)
      ∙ ap (abstracts signature (map lit c) (map lit (take (length c) d))) (drop-map lit (length c) d)

pub ruleset abstraction_parts = (common_steps, abstraction-shorter, abstraction-parts)
