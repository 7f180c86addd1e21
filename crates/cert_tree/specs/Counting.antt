-- Lists of numbers, and the pool's parts by number.
use Rattle.std.specs.Prelude.{ℕ, zero, suc, ℤ, pos, Bool, not, ◌==◌, ◌&&◌, nat_lt, List, [], ◌∷◌, ◌++◌, if◌then◌else◌}
use Rattle.std.specs.List.{list_any}
use Rattle.lin_base.specs.declared.sums.Lin.{Lin}
use Rattle.lin_base.specs.declared.facts.Fact.{Fact}
use Rattle.lin_base.specs.Sum.{occurs, each_unknown}
use Rattle.lin_base.specs.Fact.{sum_of}

-- n numbers from i on
abbrev pub count_from : ℕ → ℕ → List ℕ
count_from i zero = []
count_from i (suc n) = i ∷ count_from (suc i) n

-- 0 to z - 1, none where z is not positive
abbrev pub numbers_below : ℤ → List ℕ
numbers_below (pos n) = count_from 0 n
numbers_below _ = []

-- x is one of the numbers
abbrev pub is_one_of : List ℕ → ℕ → Bool
is_one_of xs x = list_any (λ y. y == x) xs

-- the numbers, and x after them where it is not one of them
abbrev pub with_number : List ℕ → ℕ → List ℕ
with_number xs x = if is_one_of xs x then xs else xs ++ x ∷ []

-- x occurs in a literal of the clause
abbrev pub occurs_in : ℕ → List Fact → Bool
occurs_in x clause = list_any (λ f. occurs x (sum_of f)) clause

-- the unknown is a parameter that is not used up
abbrev pub is_free : ℕ → List ℕ → ℕ → Bool
is_free params used p = nat_lt p params && not (is_one_of used p)

-- the sum is over parameters that are not used up
abbrev pub is_over_free : ℕ → List ℕ → Lin → Bool
is_over_free params used t = each_unknown (is_free params used) t
