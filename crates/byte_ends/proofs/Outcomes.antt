-- What holds where an error is handed on.
use Rattle.std.proofs.Common.{◌≡◌, IsErrAnd, IsErrOf, Ok, Err, Result}

-- an error that is handed on is the same error
pub same_err : {T U E : Type 0} (x y : E) (r : Result U E) → IsErrAnd r (λ e. e ≡ x) → IsErrOf r y → IsErrOf {T = T} (Err x) y
same_err x y (Ok value) err is = absurd err
same_err x y (Err e) err is = cc
