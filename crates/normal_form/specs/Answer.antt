-- Why a problem's clauses are not given.
use Rattle.std.specs.Prelude.{◌≡◌, ℕ, ◌<◌}
use Rattle.normal_form.specs.declared.preparing.ClausesError.{ClausesError}
use Rattle.normal_form.specs.declared.preparing.ClausesError.TheVariants.{Memory, TooMany}
use Rattle.normal_form.specs.Count.{saturated}
use Rattle.normal_form.specs.Clauses.{max_clauses}

-- memory ran out, or the count is over the limit
abbrev pub IsRefusal : ℕ → ClausesError → Type 0
IsRefusal count Memory = Unit {0}
IsRefusal count (TooMany t) = (max_clauses < count) × (t.count ≡ saturated count)
