-- Whether two system messages are the same, as a test.
use Rattle.std.proofs.Common.{◌≡◌, Bool, true, false, ◌&&◌, refl, ap, ◌∙◌, eq-eqb}
use Rattle.std.specs.Prelude.{◌==◌}
use Rattle.std.proofs.lemmas.Bool.{and_parts, and_from, eqb-true}
use Rattle.mb_msg.specs.declared.id.ActorId.{ActorId}
use Rattle.mb_msg.specs.declared.supervision.Cause.{Cause}
use Rattle.mb_msg.specs.declared.supervision.Cause.TheVariants as cause
use Rattle.mb_msg.specs.declared.system.SysMsg.{SysMsg}
use Rattle.mb_msg.specs.declared.system.SysMsg.TheVariants as system

abbrev pub same_cause : Cause → Cause → Bool
same_cause (cause.Error n) (cause.Error m) = n == m
same_cause cause.Init cause.Init = true
same_cause cause.Killed cause.Killed = true
same_cause cause.DeathPact cause.DeathPact = true
same_cause _ _ = false

abbrev pub same_flag : Bool → Bool → Bool
same_flag true true = true
same_flag false false = true
same_flag _ _ = false

abbrev pub same_message : SysMsg → SysMsg → Bool
same_message system.Create system.Create = true
same_message (system.Recreate c) (system.Recreate d) = same_cause c d
same_message system.Suspend system.Suspend = true
same_message (system.Resume x) (system.Resume y) = same_flag x y
same_message system.Terminate system.Terminate = true
same_message (system.Watch x) (system.Watch y) = x.0 == y.0
same_message (system.Unwatch x) (system.Unwatch y) = x.0 == y.0
same_message (system.Failed x c) (system.Failed y d) = (x.0 == y.0) && same_cause c d
same_message (system.Died x) (system.Died y) = x.0 == y.0
same_message _ _ = false

pub same_cause-is : (c d : Cause) → same_cause c d ≡ true → c ≡ d
same_cause-is (cause.Error n) (cause.Error m) equal = ap cause.Error (eqb-true n m equal)
same_cause-is (cause.Error n) cause.Init equal = absurd (cc)
same_cause-is (cause.Error n) cause.Killed equal = absurd (cc)
same_cause-is (cause.Error n) cause.DeathPact equal = absurd (cc)
same_cause-is cause.Init (cause.Error m) equal = absurd (cc)
same_cause-is cause.Init cause.Init equal = refl
same_cause-is cause.Init cause.Killed equal = absurd (cc)
same_cause-is cause.Init cause.DeathPact equal = absurd (cc)
same_cause-is cause.Killed (cause.Error m) equal = absurd (cc)
same_cause-is cause.Killed cause.Init equal = absurd (cc)
same_cause-is cause.Killed cause.Killed equal = refl
same_cause-is cause.Killed cause.DeathPact equal = absurd (cc)
same_cause-is cause.DeathPact (cause.Error m) equal = absurd (cc)
same_cause-is cause.DeathPact cause.Init equal = absurd (cc)
same_cause-is cause.DeathPact cause.Killed equal = absurd (cc)
same_cause-is cause.DeathPact cause.DeathPact equal = refl

pub same_cause-refl : (c : Cause) → same_cause c c ≡ true
same_cause-refl (cause.Error n) = eq-eqb n n refl
same_cause-refl cause.Init = refl
same_cause-refl cause.Killed = refl
same_cause-refl cause.DeathPact = refl

pub same_flag-is : (x y : Bool) → same_flag x y ≡ true → x ≡ y
same_flag-is true true equal = refl
same_flag-is true false equal = absurd (cc)
same_flag-is false true equal = absurd (cc)
same_flag-is false false equal = refl

pub same_flag-refl : (x : Bool) → same_flag x x ≡ true
same_flag-refl true = refl
same_flag-refl false = refl

pub same_id : (x y : ActorId) → (x.0 == y.0) ≡ true → x ≡ y
same_id x y equal = ap (λ n. let made : ActorId = record { 0 = n } in made) (eqb-true x.0 y.0 equal)

pub same_message-refl : (m : SysMsg) → same_message m m ≡ true
same_message-refl system.Create = refl
same_message-refl (system.Recreate c) = same_cause-refl c
same_message-refl system.Suspend = refl
same_message-refl (system.Resume x) = same_flag-refl x
same_message-refl system.Terminate = refl
same_message-refl (system.Watch x) = eq-eqb x.0 x.0 refl
same_message-refl (system.Unwatch x) = eq-eqb x.0 x.0 refl
same_message-refl (system.Failed x c) = and_from (x.0 == x.0) (same_cause c c) (eq-eqb x.0 x.0 refl) (same_cause-refl c)
same_message-refl (system.Died x) = eq-eqb x.0 x.0 refl

pub same_message-is : (m n : SysMsg) → same_message m n ≡ true → m ≡ n
same_message-is system.Create system.Create equal = refl
same_message-is system.Create (system.Recreate cy) equal = absurd (cc)
same_message-is system.Create system.Suspend equal = absurd (cc)
same_message-is system.Create (system.Resume fy) equal = absurd (cc)
same_message-is system.Create system.Terminate equal = absurd (cc)
same_message-is system.Create (system.Watch iy) equal = absurd (cc)
same_message-is system.Create (system.Unwatch iy) equal = absurd (cc)
same_message-is system.Create (system.Failed iy cy) equal = absurd (cc)
same_message-is system.Create (system.Died iy) equal = absurd (cc)
same_message-is (system.Recreate cx) system.Create equal = absurd (cc)
same_message-is (system.Recreate cx) (system.Recreate cy) equal = ap system.Recreate (same_cause-is cx cy equal)
same_message-is (system.Recreate cx) system.Suspend equal = absurd (cc)
same_message-is (system.Recreate cx) (system.Resume fy) equal = absurd (cc)
same_message-is (system.Recreate cx) system.Terminate equal = absurd (cc)
same_message-is (system.Recreate cx) (system.Watch iy) equal = absurd (cc)
same_message-is (system.Recreate cx) (system.Unwatch iy) equal = absurd (cc)
same_message-is (system.Recreate cx) (system.Failed iy cy) equal = absurd (cc)
same_message-is (system.Recreate cx) (system.Died iy) equal = absurd (cc)
same_message-is system.Suspend system.Create equal = absurd (cc)
same_message-is system.Suspend (system.Recreate cy) equal = absurd (cc)
same_message-is system.Suspend system.Suspend equal = refl
same_message-is system.Suspend (system.Resume fy) equal = absurd (cc)
same_message-is system.Suspend system.Terminate equal = absurd (cc)
same_message-is system.Suspend (system.Watch iy) equal = absurd (cc)
same_message-is system.Suspend (system.Unwatch iy) equal = absurd (cc)
same_message-is system.Suspend (system.Failed iy cy) equal = absurd (cc)
same_message-is system.Suspend (system.Died iy) equal = absurd (cc)
same_message-is (system.Resume fx) system.Create equal = absurd (cc)
same_message-is (system.Resume fx) (system.Recreate cy) equal = absurd (cc)
same_message-is (system.Resume fx) system.Suspend equal = absurd (cc)
same_message-is (system.Resume fx) (system.Resume fy) equal = ap (λ f. system.Resume f) (same_flag-is fx fy equal)
same_message-is (system.Resume fx) system.Terminate equal = absurd (cc)
same_message-is (system.Resume fx) (system.Watch iy) equal = absurd (cc)
same_message-is (system.Resume fx) (system.Unwatch iy) equal = absurd (cc)
same_message-is (system.Resume fx) (system.Failed iy cy) equal = absurd (cc)
same_message-is (system.Resume fx) (system.Died iy) equal = absurd (cc)
same_message-is system.Terminate system.Create equal = absurd (cc)
same_message-is system.Terminate (system.Recreate cy) equal = absurd (cc)
same_message-is system.Terminate system.Suspend equal = absurd (cc)
same_message-is system.Terminate (system.Resume fy) equal = absurd (cc)
same_message-is system.Terminate system.Terminate equal = refl
same_message-is system.Terminate (system.Watch iy) equal = absurd (cc)
same_message-is system.Terminate (system.Unwatch iy) equal = absurd (cc)
same_message-is system.Terminate (system.Failed iy cy) equal = absurd (cc)
same_message-is system.Terminate (system.Died iy) equal = absurd (cc)
same_message-is (system.Watch ix) system.Create equal = absurd (cc)
same_message-is (system.Watch ix) (system.Recreate cy) equal = absurd (cc)
same_message-is (system.Watch ix) system.Suspend equal = absurd (cc)
same_message-is (system.Watch ix) (system.Resume fy) equal = absurd (cc)
same_message-is (system.Watch ix) system.Terminate equal = absurd (cc)
same_message-is (system.Watch ix) (system.Watch iy) equal = ap system.Watch (same_id ix iy equal)
same_message-is (system.Watch ix) (system.Unwatch iy) equal = absurd (cc)
same_message-is (system.Watch ix) (system.Failed iy cy) equal = absurd (cc)
same_message-is (system.Watch ix) (system.Died iy) equal = absurd (cc)
same_message-is (system.Unwatch ix) system.Create equal = absurd (cc)
same_message-is (system.Unwatch ix) (system.Recreate cy) equal = absurd (cc)
same_message-is (system.Unwatch ix) system.Suspend equal = absurd (cc)
same_message-is (system.Unwatch ix) (system.Resume fy) equal = absurd (cc)
same_message-is (system.Unwatch ix) system.Terminate equal = absurd (cc)
same_message-is (system.Unwatch ix) (system.Watch iy) equal = absurd (cc)
same_message-is (system.Unwatch ix) (system.Unwatch iy) equal = ap system.Unwatch (same_id ix iy equal)
same_message-is (system.Unwatch ix) (system.Failed iy cy) equal = absurd (cc)
same_message-is (system.Unwatch ix) (system.Died iy) equal = absurd (cc)
same_message-is (system.Failed ix cx) system.Create equal = absurd (cc)
same_message-is (system.Failed ix cx) (system.Recreate cy) equal = absurd (cc)
same_message-is (system.Failed ix cx) system.Suspend equal = absurd (cc)
same_message-is (system.Failed ix cx) (system.Resume fy) equal = absurd (cc)
same_message-is (system.Failed ix cx) system.Terminate equal = absurd (cc)
same_message-is (system.Failed ix cx) (system.Watch iy) equal = absurd (cc)
same_message-is (system.Failed ix cx) (system.Unwatch iy) equal = absurd (cc)
same_message-is (system.Failed ix cx) (system.Failed iy cy) equal = let both = and_parts (ix.0 == iy.0) (same_cause cx cy) equal in ap (λ i. system.Failed i cx) (same_id ix iy both.0) ∙ ap (λ c. system.Failed iy c) (same_cause-is cx cy both.1)
same_message-is (system.Failed ix cx) (system.Died iy) equal = absurd (cc)
same_message-is (system.Died ix) system.Create equal = absurd (cc)
same_message-is (system.Died ix) (system.Recreate cy) equal = absurd (cc)
same_message-is (system.Died ix) system.Suspend equal = absurd (cc)
same_message-is (system.Died ix) (system.Resume fy) equal = absurd (cc)
same_message-is (system.Died ix) system.Terminate equal = absurd (cc)
same_message-is (system.Died ix) (system.Watch iy) equal = absurd (cc)
same_message-is (system.Died ix) (system.Unwatch iy) equal = absurd (cc)
same_message-is (system.Died ix) (system.Failed iy cy) equal = absurd (cc)
same_message-is (system.Died ix) (system.Died iy) equal = ap system.Died (same_id ix iy equal)
