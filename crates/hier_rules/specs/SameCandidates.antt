-- Premises of candidates, and whether two candidates are the same, as a test.
use Rattle.std.specs.Prelude.{ℕ, Bool, true, false, ◌&&◌, ◌==◌, List, [], ◌∷◌}
use Rattle.term_base.specs.declared.places.Place.{Place}
use Rattle.term_base.specs.declared.places.Side.{Side}
use Rattle.term_base.specs.declared.places.Side.TheVariants.{Left, Right}
use Rattle.term_base.specs.SameTerm.{same_term}
use Rattle.query_board.specs.declared.queries.Stamp.{Stamp}
use Rattle.query_board.specs.Stamps.{same_stamp}
use Rattle.hier_rules.specs.declared.inferences.Candidate.{Candidate}
use Rattle.hier_rules.specs.declared.inferences.Candidate.TheVariants.{Superpose, Resolve, Factor, Define}

-- the stamps of the premises, in the rule's order
abbrev pub premises : Candidate → List Stamp
premises (Superpose from literal side into place) = from ∷ into ∷ []
premises (Resolve of literal) = of ∷ []
premises (Factor of first first_side second second_side) = of ∷ []
premises (Define of term) = of ∷ []

-- whether two sides are the same
abbrev pub same_side : Side → Side → Bool
same_side Left Left = true
same_side Right Right = true
same_side _ _ = false

-- whether two paths are the same
abbrev pub same_path : List ℕ → List ℕ → Bool
same_path [] [] = true
same_path (m ∷ ms) (n ∷ ns) = m == n && same_path ms ns
same_path _ _ = false

-- whether two places are the same
abbrev pub same_place : Place → Place → Bool
same_place p q = p.literal == q.literal && (same_side p.side q.side && same_path p.path q.path)

-- whether two candidates are the same
abbrev pub same_candidate : Candidate → Candidate → Bool
same_candidate (Superpose f l s i p) (Superpose g m t j q) =
    same_stamp f g && (l == m && (same_side s t && (same_stamp i j && same_place p q)))
same_candidate (Resolve f l) (Resolve g m) = same_stamp f g && l == m
same_candidate (Factor f l s m t) (Factor g n u o v) =
    same_stamp f g && (l == n && (same_side s u && (m == o && same_side t v)))
same_candidate (Define f t) (Define g u) = same_stamp f g && same_term t u
same_candidate _ _ = false
