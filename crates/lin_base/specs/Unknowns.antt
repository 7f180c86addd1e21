-- The unknowns that occur, ascending.
use Rattle.std.specs.Prelude.{ℕ, ◌==◌, nat_lt, List, [], ◌∷◌, if◌then◌else◌}
use Rattle.lin_base.specs.declared.sums.Lin.{Lin}
use Rattle.lin_base.specs.Sum.{Terms}

-- x put into an ascending list, once
abbrev pub put_in : ℕ → List ℕ → List ℕ
put_in x [] = x ∷ []
put_in x (y ∷ ys) = if nat_lt x y then x ∷ y ∷ ys else if x == y then y ∷ ys else y ∷ put_in x ys

-- the unknowns of terms put in
abbrev pub put_terms_in : Terms → List ℕ → List ℕ
put_terms_in [] xs = xs
put_terms_in ((x, k) ∷ ts) xs = put_in x (put_terms_in ts xs)

-- the unknowns of several sums
abbrev pub unknowns_of : List Lin → List ℕ
unknowns_of [] = []
unknowns_of (t ∷ ts) = put_terms_in t.coefs (unknowns_of ts)
