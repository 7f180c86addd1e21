-- The parts of the input of a check: a problem, and behind it what the program has written for it.
use Rattle.std.specs.Prelude.{ℕ, nat_eq, Bool, true, ◌&&◌, ◌||◌, List, [], ◌∷◌, length, drop, codes, if◌then◌else◌}
use Rattle.std.specs.List.{starts_with}

-- the bytes begin as the first line of a saturated list does
abbrev pub begins_list : List ℕ → Bool
begins_list bytes = starts_with nat_eq bytes (codes "% Saturated ")

-- the bytes begin as the first line of a derivation or of a saturated list does
abbrev pub begins_answer : List ℕ → Bool
begins_answer bytes = starts_with nat_eq bytes (codes "% SZS status ") || begins_list bytes

-- the bytes before the first line that begins so; whether the first byte begins a line is told
abbrev pub before_answer : Bool → List ℕ → List ℕ
before_answer begins_line [] = []
before_answer begins_line (b ∷ bs) = if begins_line && begins_answer (b ∷ bs) then [] else b ∷ before_answer (nat_eq b 10) bs

-- the problem: the bytes before the first such line
abbrev pub problem_part : List ℕ → List ℕ
problem_part bytes = before_answer true bytes

-- the answer behind the problem: the bytes from that line on, none where there is no such line
abbrev pub answer_part : List ℕ → List ℕ
answer_part bytes = drop (length (problem_part bytes)) bytes

-- the bytes end with the end of a line: there is none, or the last one is byte 10
abbrev pub ends_line : List ℕ → Bool
ends_line [] = true
ends_line (b ∷ []) = nat_eq b 10
ends_line (b ∷ c ∷ bs) = ends_line (c ∷ bs)
