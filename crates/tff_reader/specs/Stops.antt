-- What reading answers: a value and no fault, or the first fault, or that memory ran out.
use Rattle.std.specs.Prelude.{◌≡◌, [], ◌∷◌, Option, Some, None, Result, Ok, Err}
use Rattle.tff_signature.specs.declared.faults.Later.{Later}
use Rattle.tff_signature.specs.Faults.{Faults}
use Rattle.tff_reader.specs.declared.stops.Stop.{Stop}
use Rattle.tff_reader.specs.declared.stops.Stop.TheVariants as stops

-- the first fault, where there is one
abbrev pub first_of : Faults → Option Later
first_of [] = None
first_of (f ∷ fs) = Some f

-- why reading stops: memory ran out, or the first of these faults
abbrev pub Stops : Stop → Faults → Type 0
Stops stops.Memory fs = Unit {0}
Stops (stops.Fault f) fs = first_of fs ≡ Some f

-- What is read: there is no fault, and the value is as asked; or why reading stops.
abbrev pub Reads : {A : Type 0} → Result A Stop → Faults → (A → Type 0) → Type 0
Reads (Ok x) fs is = (fs ≡ []) × is x
Reads (Err e) fs is = Stops e fs

-- Ok where there is no fault, else why reading stops.
abbrev pub Stopped : {A : Type 0} → Result A Stop → Faults → Type 0
Stopped (Ok x) fs = fs ≡ []
Stopped (Err e) fs = Stops e fs
