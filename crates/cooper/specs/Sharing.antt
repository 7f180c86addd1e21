-- Facts that are changed each in its place, and put back.
use Rattle.std.specs.Prelude.{ℕ, pos, Bool, List, [], ◌∷◌, slice_index_or, slice_set, take, if◌then◌else◌}
use Rattle.lin_base.specs.declared.facts.Fact.{Fact}
use Rattle.lin_base.specs.declared.facts.Fact.TheVariants.{AtMostZero}
use Rattle.lin_base.specs.declared.wides.Wide.{Wide}
use Rattle.lin_base.specs.Change.{replace}
use Rattle.lin_base.specs.Fact.{sum_of}
use Rattle.lin_base.specs.Steps.{replace_steps}
use Rattle.lin_base.specs.Sum.{occurs, number}
use Rattle.cert_tree.specs.declared.sums.Side.{Side}
use Rattle.cooper.specs.declared.sharing.Kept.{Kept}

-- `0 <= 0`
abbrev pub blank : Fact
blank = AtMostZero (number (pos 0))

-- the fact at a place, or `0 <= 0`
abbrev pub at_place : List Fact → ℕ → Fact
at_place facts n = slice_index_or facts n blank

-- ---- a fact with p
-- by the side; where p is far down, an AtMostZero fact holds
abbrev pub remade_by : ℕ → Bool → Side → Fact → Fact
remade_by p far e (AtMostZero t) = if far then blank else replace p e.b e.rest (AtMostZero t)
remade_by p far e f = replace p e.b e.rest f

-- and forms nothing
abbrev pub remade_steps : ℕ → Bool → Side → Fact → List Wide
remade_steps p far e (AtMostZero t) = if far then [] else replace_steps p e.b e.rest (AtMostZero t)
remade_steps p far e f = replace_steps p e.b e.rest f

-- ---- each fact
-- a fact without p stays
abbrev pub changed : ℕ → Bool → Side → Fact → Fact
changed p far e f = if occurs p (sum_of f) then remade_by p far e f else f

-- and forms nothing
abbrev pub changed_steps : ℕ → Bool → Side → Fact → List Wide
changed_steps p far e f = if occurs p (sum_of f) then remade_steps p far e f else []

-- ---- what was there
-- a fact with p, with its place
abbrev pub noted : ℕ → ℕ → Fact → List (ℕ × Fact)
noted p n f = if occurs p (sum_of f) then (n, f) ∷ [] else []

-- facts put at these places, from the last one on
abbrev pub put_back : List (ℕ × Fact) → List Fact → List Fact
put_back [] facts = facts
put_back (e ∷ es) facts = slice_set (put_back es facts) e.0 e.1

-- as many facts as there were, each as it was
abbrev pub restored : Kept → List Fact → List Fact
restored kept facts = put_back kept.places (take kept.length facts)

-- a parameter that is j
abbrev pub number_side : ℕ → Side
number_side j = record { b = pos 1; rest = number (pos j) }
