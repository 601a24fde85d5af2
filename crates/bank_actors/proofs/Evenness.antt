-- A teller gives accounts as much as it takes from them.
use Rattle.std.proofs.Common.{◌≡◌, ℕ, ◌+ℤ◌, ◌-ℤ◌, ℤ, pos, Bool, true, false, if◌then◌else◌, List, [], ◌∷◌, Option, Some, None, refl, ap, ◌∙◌, arith}
use Rattle.std.proofs.lemmas.Int.{ints}
use Rattle.mb_msg.specs.declared.id.ActorId.{ActorId}
use Rattle.mb_actor.specs.OutboxView.{OutboxView, effects_with, refusal}
use Rattle.mb_actor.specs.declared.call.Call.{Call}
use Rattle.mb_actor.specs.declared.call.Call.TheVariants.{Start, Receive, Restart, Stop}
use Rattle.mb_actor.specs.declared.effect.Effect.{Effect}
use Rattle.mb_actor.specs.declared.effect.Effect.TheVariants.{Tell, Watch, Spawn}
use Rattle.mb_actor.specs.declared.message.Message.TheVariants.{User, Control, Terminated}
use Rattle.mb_actor.specs.declared.outbox_error.OutboxError.{OutboxError}
use Rattle.mb_quantity.proofs.Sums.{sum-append}
use Rattle.mb_quantity.specs.Quantity.{SendsEvenly, all_sent, sent_worth}
use Rattle.bank_actors.specs.Bookings.{added_by}
use Rattle.bank_actors.specs.Money.{deposit, withdraw}
use Rattle.bank_actors.specs.Teller.{asked, closed_after, is_there, is_transfer, moved, opened, teller_effects, teller_gives}

abbrev IsEven : List Effect → Type 0
IsEven effects = all_sent added_by effects ≡ pos 0

opposites : (amount : ℤ) → (pos 0 -ℤ amount) +ℤ (amount +ℤ pos 0) ≡ pos 0
opposites amount = omega (arith, ints)

pair_even : (from to : ActorId) (amount : ℤ) → IsEven (Tell from withdraw amount ∷ Tell to deposit amount ∷ [])
pair_even from to amount = opposites amount

even-if : (b : Bool) (effects : List Effect) → IsEven effects → IsEven (if b then effects else [])
even-if true effects even = even
even-if false effects even = refl

-- an effect that sends nothing, asked for or refused
with_one : (o : Option OutboxError) (e : Effect) (effects : List Effect) → sent_worth added_by e ≡ pos 0 → IsEven effects → IsEven (effects_with o e effects)
with_one None e effects none even =
    sum-append (λ x. sent_worth added_by x) effects (e ∷ []) ∙ (omega (arith, ints, none, even))
with_one (Some fault) e effects none even = even

opened_even : (from to : ActorId) (tray : OutboxView) → IsEven tray.effects → IsEven (opened from to tray).effects
opened_even from to tray even =
    let one = asked tray (Spawn from) in
    let two = asked one (Spawn to) in
    let three = asked two (Watch from) in
    with_one (refusal three (Watch to)) (Watch to) three.effects refl
    (with_one (refusal two (Watch from)) (Watch from) two.effects refl
    (with_one (refusal one (Spawn to)) (Spawn to) one.effects refl
    (with_one (refusal tray (Spawn from)) (Spawn from) tray.effects refl even)))

moved_even : (from to : ActorId) (actors : ℕ) (amount : ℤ) → IsEven (moved from to actors amount)
moved_even from to actors amount = even-if (is_there actors from)
    (Tell from withdraw amount ∷ Tell (if is_there actors to then to else from) deposit amount ∷ [])
    (pair_even from (if is_there actors to then to else from) amount)

effects_even : (from to : ActorId) (tray : OutboxView) (closed : ℤ) (call : Call) → IsEven tray.effects → IsEven (teller_effects from to tray closed call)
effects_even from to tray closed Start even = opened_even from to tray even
effects_even from to tray closed (Receive (User kind value)) even =
    even-if (is_transfer closed kind) (moved from to tray.actors value) (moved_even from to tray.actors value)
effects_even from to tray closed (Receive (Control kind value)) even = refl
effects_even from to tray closed (Receive (Terminated who)) even = refl
effects_even from to tray closed (Restart cause) even = opened_even from to tray even
effects_even from to tray closed Stop even = refl

pub teller_even : (from to : ActorId) → SendsEvenly added_by (teller_gives from to)
teller_even from to moment reply given =
    let tray : OutboxView = record { effects = []; actors = moment.actors; unspawned = moment.unspawned } in
    ap (all_sent added_by) given.1 ∙ effects_even from to tray (closed_after moment.messages) moment.call refl
