-- What holds of a result that is no error.
use Rattle.std.specs.Prelude.{◌≡◌, Result, Ok, Err, IfOk, IsErrAnd}

-- nothing
pub if-none : {T E : Type 0} (P : T → Type 0) (r : Result T E) (e : E) → IsErrAnd r (λ y. y ≡ e) → IfOk r P
if-none P (Ok x) e passed = absurd passed
if-none P (Err y) e passed = tt
