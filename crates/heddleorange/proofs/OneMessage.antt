-- One system message told from others.
use Rattle.std.proofs.Common.{◌≡◌, ◌==◌, ◌⊎◌, inl, inr, Bool, true, false, ap, refl}
use Rattle.std.specs.Prelude.{◌&&◌}
use Rattle.std.proofs.lemmas.Bool.{and_parts, eq-eqb, eqb-true}
use Rattle.mb_msg.specs.declared.id.ActorId.{ActorId}
use Rattle.mb_msg.specs.declared.supervision.Cause.{Cause}
use Rattle.mb_msg.specs.declared.supervision.Cause.TheVariants.{DeathPact, Error, Init, Killed}
use Rattle.mb_msg.specs.declared.system.SysMsg.{SysMsg}
use Rattle.mb_msg.specs.declared.system.SysMsg.TheVariants.{Create, Died, Failed, Recreate, Resume, Suspend, Terminate, Unwatch, Watch}
use Rattle.heddleorange.specs.Asked.{IsNotice}

-- whether this is that cause
abbrev is_cause : Cause → Cause → Bool
is_cause (Error n) (Error k) = n == k
is_cause Init Init = true
is_cause Killed Killed = true
is_cause DeathPact DeathPact = true
is_cause _ _ = false

is-cause-same : (c : Cause) → is_cause c c ≡ true
is-cause-same (Error n) = eq-eqb n n refl
is-cause-same Init = refl
is-cause-same Killed = refl
is-cause-same DeathPact = refl

is-cause-true : (c d : Cause) → is_cause c d ≡ true → c ≡ d
is-cause-true (Error n) (Error k) is = ap Error (eqb-true n k is)
is-cause-true Init Init is = refl
is-cause-true Killed Killed is = refl
is-cause-true DeathPact DeathPact is = refl
is-cause-true _ _ is = absurd (cc)

-- whether this is that message, where neither is a notice of an end
abbrev pub is_message : SysMsg → SysMsg → Bool
is_message Create Create = true
is_message (Recreate c) (Recreate d) = is_cause c d
is_message Suspend Suspend = true
is_message (Resume true) (Resume true) = true
is_message (Resume false) (Resume false) = true
is_message Terminate Terminate = true
is_message (Watch x) (Watch y) = x.0 == y.0
is_message (Unwatch x) (Unwatch y) = x.0 == y.0
is_message (Failed x c) (Failed y d) = (x.0 == y.0) && is_cause c d
is_message _ _ = false

same-id : (x y : ActorId) → (x.0 == y.0) ≡ true → x ≡ y
same-id x y is = λ i. record { 0 = eqb-true x.0 y.0 is i }

pub is-message-true : (m n : SysMsg) → is_message m n ≡ true → m ≡ n
is-message-true Create Create is = refl
is-message-true (Recreate c) (Recreate d) is = ap Recreate (is-cause-true c d is)
is-message-true Suspend Suspend is = refl
is-message-true (Resume true) (Resume true) is = refl
is-message-true (Resume false) (Resume false) is = refl
is-message-true Terminate Terminate is = refl
is-message-true (Watch x) (Watch y) is = ap Watch (same-id x y is)
is-message-true (Unwatch x) (Unwatch y) is = ap Unwatch (same-id x y is)
is-message-true (Failed x c) (Failed y d) is =
    let both = and_parts (x.0 == y.0) (is_cause c d) is in λ i. Failed (same-id x y both.0 i) (is-cause-true c d both.1 i)
is-message-true _ _ is = absurd (cc)

pub is-no-notice : (m : SysMsg) (ended : ActorId) → is_message m (Died ended) ≡ false
is-no-notice Create ended = refl
is-no-notice (Recreate c) ended = refl
is-no-notice Suspend ended = refl
is-no-notice (Resume true) ended = refl
is-no-notice (Resume false) ended = refl
is-no-notice Terminate ended = refl
is-no-notice (Watch x) ended = refl
is-no-notice (Unwatch x) ended = refl
is-no-notice (Failed x c) ended = refl
is-no-notice (Died x) ended = refl

-- a message is itself, or a notice of an end
pub itself : (m : SysMsg) → IsNotice m ⊎ (is_message m m ≡ true)
itself Create = inr refl
itself (Recreate c) = inr (is-cause-same c)
itself Suspend = inr refl
itself (Resume true) = inr refl
itself (Resume false) = inr refl
itself Terminate = inr refl
itself (Watch x) = inr (eq-eqb x.0 x.0 refl)
itself (Unwatch x) = inr (eq-eqb x.0 x.0 refl)
itself (Failed x c) = inr (λ i. eq-eqb x.0 x.0 refl i && is-cause-same c i)
itself (Died x) = inl (x, refl)

-- whether this is that message, a notice of an end too
abbrev pub is_this : SysMsg → SysMsg → Bool
is_this (Died x) (Died y) = x.0 == y.0
is_this m n = is_message m n

pub is-this-true : (m n : SysMsg) → is_this m n ≡ true → m ≡ n
is-this-true (Died x) (Died y) is = ap Died (same-id x y is)
is-this-true m n is = is-message-true m n is

pub is-this-same : (m : SysMsg) → is_this m m ≡ true
is-this-same Create = refl
is-this-same (Recreate c) = is-cause-same c
is-this-same Suspend = refl
is-this-same (Resume true) = refl
is-this-same (Resume false) = refl
is-this-same Terminate = refl
is-this-same (Watch x) = eq-eqb x.0 x.0 refl
is-this-same (Unwatch x) = eq-eqb x.0 x.0 refl
is-this-same (Failed x c) = λ i. eq-eqb x.0 x.0 refl i && is-cause-same c i
is-this-same (Died x) = eq-eqb x.0 x.0 refl
