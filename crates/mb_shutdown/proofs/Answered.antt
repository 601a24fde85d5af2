-- What a result says.
use Rattle.std.proofs.Common.{subst, sym}
use Rattle.std.specs.Prelude.{◌≡◌, Result, Ok, Err, IfErr, IfOk, IsErrAnd, OnOk}

-- what holds of each good result then
pub ok-each : {T E : Type 0} (r : Result T E) (P Q : T → Type 0) → ((x : T) → P x → Q x) → IfOk r P → IfOk r Q
ok-each (Ok x) P Q f h = f x h
ok-each (Err e) P Q f h = h

-- and of each fault
pub err-each : {T E : Type 0} (r : Result T E) (P Q : E → Type 0) → ((e : E) → P e → Q e) → IfErr r P → IfErr r Q
err-each (Ok x) P Q f h = h
err-each (Err e) P Q f h = f e h

-- the fault that is passed on
pub err-of : {T E : Type 0} (Q : E → Type 0) (r : Result T E) (e : E) → IsErrAnd r (λ y. y ≡ e) → Q e → IfErr r Q
err-of Q (Ok x) e passed holds = tt
err-of Q (Err y) e passed holds = subst Q (sym passed) holds

-- and a fault says nothing of a good result
pub ok-none : {T E : Type 0} (P : Type 0) (r : Result T E) (e : E) → IsErrAnd r (λ y. y ≡ e) → OnOk r P
ok-none P (Ok x) e passed = absurd passed
ok-none P (Err y) e passed = tt

pub if-none : {T E : Type 0} (P : T → Type 0) (r : Result T E) (e : E) → IsErrAnd r (λ y. y ≡ e) → IfOk r P
if-none P (Ok x) e passed = absurd passed
if-none P (Err y) e passed = tt
