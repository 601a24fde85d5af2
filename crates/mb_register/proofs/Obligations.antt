-- Reading that an actor has nothing to do leaves nothing owed to it.
use Rattle.std.proofs.Common.{◌≡◌, ◌==◌, ℕ, ◌+◌, ◌*◌, ◌/◌, ◌%◌, Bool, true}
use Rattle.std.proofs.Common.{false, ◌||◌, ◌&&◌, not, if◌then◌else◌, refl, ap, ◌∙◌, arith}
use Rattle.std.proofs.lemmas.Bool.Decides.{nat_tests}
use Rattle.mb_status.specs.Mailbox.{Mailbox, mailbox_of, word_of, suspended, can_schedule}
use Rattle.mb_core.specs.declared.wake_obligation.WakeObligation.{WakeObligation}
use Rattle.mb_core.specs.Actor.{nothing}
use Rattle.mb_core.specs.Run.{after_reading}

-- the mailbox of an open one's word is that one
open-word : (scheduled : Bool) (count : ℕ) → mailbox_of (word_of (record { closed = false; scheduled = scheduled; count = count }))
    ≡ record { closed = false; scheduled = scheduled; count = count }
open-word true count =
    let w = 4 * count + 2 in
    let a : (w == 1) ≡ false = grind (arith, nat_tests) in
    let odd : w / 2 % 2 ≡ 1 = omega arith in
    let b : (w / 2 % 2 == 1) ≡ true = ap (λ n. n == 1) odd in
    let c : w / 4 ≡ count = omega arith in
    λ i. record { closed = a i; scheduled = b i; count = c i }
open-word false count =
    let w = 4 * count + 0 in
    let a : (w == 1) ≡ false = grind (arith, nat_tests) in
    let even : w / 2 % 2 ≡ 0 = omega arith in
    let b : (w / 2 % 2 == 1) ≡ false = ap (λ n. n == 1) even in
    let c : w / 4 ≡ count = omega arith in
    λ i. record { closed = a i; scheduled = b i; count = c i }

-- what is owed after a reading
abbrev read : Bool → Bool → Bool → WakeObligation → WakeObligation
read closed scheduled susp d =
    if closed || scheduled then nothing
    else (if susp then record d { message = false; sending = false } else record d { message = d.message || d.sending; sending = false })

reads : (closed scheduled : Bool) (count : ℕ) (d : WakeObligation) → let m : Mailbox = record { closed = closed; scheduled = scheduled; count = count } in
    after_reading (mailbox_of (word_of m)) d ≡ read closed scheduled (suspended m) d
reads true scheduled count d = refl
reads false scheduled count d = ap (λ (m : Mailbox). after_reading m d) (open-word scheduled count)

-- what is owed after a look for system work, and for envelopes
abbrev looked : Bool → WakeObligation → WakeObligation
looked some d = if some then d else record d { system = false }

abbrev counted : Bool → WakeObligation → WakeObligation
counted some d = if some then d else record d { message = false }

nothing-looked : (messages system : Bool) → counted messages (looked system nothing) ≡ nothing
nothing-looked true true = refl
nothing-looked true false = refl
nothing-looked false true = refl
nothing-looked false false = refl

discharged-by : (closed scheduled susp messages system : Bool) (d : WakeObligation) → (not closed && (system || (messages && not susp))) ≡ false
    → counted messages (looked system (read closed scheduled susp d)) ≡ nothing
discharged-by true scheduled susp messages system d miss = nothing-looked messages system
discharged-by false true susp messages system d miss = nothing-looked messages system
discharged-by false false susp messages true d miss = absurd (cc)
discharged-by false false true true false d miss = refl
discharged-by false false true false false d miss = refl
discharged-by false false false true false d miss = absurd (cc)
discharged-by false false false false false d miss = refl

by-look : (some : Bool) (d e : WakeObligation) → (some ≡ true → e ≡ d) → (some ≡ false → e ≡ record d { system = false }) → e ≡ looked some d
by-look true d e hit miss = hit refl
by-look false d e hit miss = miss refl

by-count : (some : Bool) (d e : WakeObligation) → (some ≡ true → e ≡ d) → (some ≡ false → e ≡ record d { message = false }) → e ≡ counted some d
by-count true d e hit miss = hit refl
by-count false d e hit miss = miss refl

pub discharged : (m : Mailbox) (messages system : Bool) (d d1 d2 d3 : WakeObligation) → d1 ≡ after_reading (mailbox_of (word_of m)) d
    → (system ≡ true → d2 ≡ d1) → (system ≡ false → d2 ≡ record d1 { system = false })
    → (messages ≡ true → d3 ≡ d2) → (messages ≡ false → d3 ≡ record d2 { message = false })
    → can_schedule m messages system ≡ false → d3 ≡ nothing
discharged m messages system d d1 d2 d3 is1 hit2 miss2 hit3 miss3 idle =
    by-count messages d2 d3 hit3 miss3 ∙ ap (counted messages) (by-look system d1 d2 hit2 miss2)
    ∙ ap (λ e. counted messages (looked system e)) (is1 ∙ reads m.closed m.scheduled m.count d)
    ∙ discharged-by m.closed m.scheduled (suspended m) messages system d idle
