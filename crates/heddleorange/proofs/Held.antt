-- What an actor holds that was not restarted: what it held at first, with what it handled, less what it sent.
use Rattle.std.proofs.Common.{◌≡◌, ℤ, pos, ◌+ℤ◌, Bool, true, false, cond, List, [], ◌∷◌, ◌++◌, append_assoc, refl, sym, ap, ◌∙◌, subst, arith}
use Rattle.std.proofs.Common.{count_by}
use Rattle.std.proofs.Math.IntN.{+ℤ_idr}
use Rattle.std.specs.Prelude.{◌&&◌, if◌then◌else◌, Option, Some, None}
use Rattle.std.proofs.lemmas.Int.{ints}
use Rattle.std.proofs.lemmas.List.{append-nil}
use Rattle.std.proofs.lemmas.List.Sums.{sum_by-cons}
use Rattle.mb_actor.specs.Behaviour.{Moment, Reply}
use Rattle.mb_actor.specs.declared.answer.Answer.{Answer}
use Rattle.mb_actor.specs.declared.call.Call.TheVariants.{Receive, Restart, Start, Stop}
use Rattle.mb_actor.specs.declared.effect.Effect.{Effect}
use Rattle.mb_actor.specs.declared.message.Message.{Message}
use Rattle.mb_actor.specs.declared.message.Message.TheVariants.{Control, Terminated, User}
use Rattle.mb_journal.specs.Acts.{acts, effect_acts, envelope_acts, failure_acts}
use Rattle.mb_journal.specs.Entry.{Entry}
use Rattle.mb_journal.specs.Entry.Entry.{Dropped, Handled, System}
use Rattle.mb_journal.specs.Entry.Outcome.{Applied, SetAside}
use Rattle.mb_journal.specs.Failure.{failure_of}
use Rattle.mb_journal.specs.Fates.{begun}
use Rattle.mb_journal.specs.Identity.{Identity, is_guardian}
use Rattle.mb_journal.specs.Incarnation.{body_messages, entry_messages, messages}
use Rattle.mb_journal.specs.Lawful.{AreLawful, IsGiven, IsGivenBy, IsLawfulEntry, envelope_call, moment, restart_cause, was_live}
use Rattle.mb_journal.specs.Life.{is_last, is_restart, is_start}
use Rattle.mb_journal.specs.Tells.{AddressedBody, tells, tells_of_journal}
use Rattle.mb_journal.specs.Watching.{watching}
use Rattle.mb_msg.specs.declared.envelope.Body.{Body}
use Rattle.mb_msg.specs.declared.envelope.Body.TheVariants as body
use Rattle.mb_msg.specs.declared.id.ActorId.{ActorId}
use Rattle.mb_msg.specs.declared.supervision.Cause.{Cause}
use Rattle.mb_quantity.proofs.Sums.{sum-append}
use Rattle.mb_quantity.specs.Quantity.{AllBooked, Holding, HoldsWhatItBooks, SendsEvenly, all_sent, sum_of}
use Rattle.mb_journal.specs.Counts.{tells_of_restart}
use Rattle.heddleorange.proofs.Lives.{all-handled}
use Rattle.heddleorange.proofs.Told.{by_entry, guardian-told, told-by-calls, told-of-call}
use Rattle.heddleorange.proofs.Worth.{told_worth, worth-asked, worth-begun, worth-notice}
use Rattle.heddleorange.specs.Conservation.{body_worth, worth_of}
use Rattle.heddleorange.specs.Reading.{handled_messages}

module _ (worth : Message → ℤ) (notice : (x : ActorId) → worth (Terminated x) ≡ pos 0) (who : Identity) (gives : Moment → Reply → Type 0) where
  abbrev IsEven : List AddressedBody → Type 0
  IsEven ts = told_worth worth ts ≡ pos 0

  both : (a b : List AddressedBody) → IsEven a → IsEven b → IsEven (a ++ b)
  both a b one other =
      let all = sum-append (λ (t : AddressedBody). body_worth worth t.1) a b in omega (arith, ints, one, other, all)

  notices : (x : ActorId) → IsEven ((who.this, body.Terminated x) ∷ [])
  notices x = worth-notice worth notice who.this x

  -- an actor that holds nothing sends nothing, all in all, and so does the guardian
  pub told-evenly : SendsEvenly worth gives → (journal : List Entry) → AreLawful who gives journal → IsEven (tells_of_journal who journal)
  told-evenly even journal lawful =
      told-by-calls IsEven refl both who notices gives (λ moment reply given. (worth-asked worth reply.effects ∙ even moment reply given)) journal lawful

  pub guardian-evenly : is_guardian who ≡ true → (journal : List Entry) → AreLawful who gives journal → IsEven (tells_of_journal who journal)
  guardian-evenly guardian journal lawful = guardian-told IsEven refl both who notices gives guardian journal lawful

  module _ (holding : Holding) (holds : HoldsWhatItBooks worth holding gives) (an_actor : is_guardian who ≡ false) where
    -- an entry that gives the actor no message
    aside : (before : List Entry) (ts : List AddressedBody) → IsEven ts
        → holding.held (handled_messages before ++ []) +ℤ told_worth worth ts ≡ holding.held (handled_messages before) +ℤ pos 0
    aside before ts even = λ i. holding.held (append-nil (handled_messages before) i) +ℤ even i

    by_system : (before : List Entry) (c : Cause) (a : Option Answer) (effects : List Effect) (guards starts restarts stops : Bool)
        → IsGiven who gives before
        (if guards then None else (if starts then Some Start else (if restarts then Some (Restart c) else (if stops then Some Stop else None)))) a effects
        → all_sent worth effects ≡ pos 0
    by_system before c a effects true starts restarts stops given = ap (all_sent worth) given.1
    by_system before c a effects false true restarts stops given =
        holds (moment who before Start) (record { answer = a; effects = effects }) given.allowed
    by_system before c a effects false false true stops given =
        holds (moment who before (Restart c)) (record { answer = a; effects = effects }) given.allowed
    by_system before c a effects false false false true given =
        holds (moment who before Stop) (record { answer = a; effects = effects }) given.allowed
    by_system before c a effects false false false false given = ap (all_sent worth) given.1

    received : (before : List Entry) (m : Message) (c : Option Cause) (a : Option Answer) (effects : List Effect)
        → messages who before ≡ handled_messages before → IsGivenBy who gives before (Receive m) a effects
        → AllBooked holding (handled_messages before ++ m ∷ [])
        → holding.held (handled_messages before ++ m ∷ [])
        +ℤ told_worth worth (tells (effect_acts who.this (watching who before) effects ++ failure_acts who before c effects))
        ≡ holding.held (handled_messages before) +ℤ (worth m +ℤ pos 0)
    received before m c a effects all given booked =
        let fits : holding.books (messages who before) m ≡ true =
        ap (λ l. holding.books l m) all ∙ booked (handled_messages before) m [] refl in
        let adds = holds (moment who before (Receive m)) (record { answer = a; effects = effects }) given.allowed fits in
        let same = subst (λ l. holding.held (l ++ m ∷ []) +ℤ all_sent worth effects ≡ holding.held l +ℤ worth m) all adds in
        ap (λ n. holding.held (handled_messages before ++ m ∷ []) +ℤ n)
        (ap (told_worth worth) (told-of-call who before c effects) ∙ worth-asked worth effects)
        ∙ same
        ∙ sym (ap (λ n. holding.held (handled_messages before) +ℤ n) (+ℤ_idr (worth m)))

    by_body : (before : List Entry) (b : Body) (a : Option Answer) (effects : List Effect) → messages who before ≡ handled_messages before
        → IsGiven who gives before (envelope_call b) a effects → AllBooked holding (handled_messages before ++ body_messages b)
        → holding.held (handled_messages before ++ body_messages b) +ℤ told_worth worth (tells (envelope_acts who before b a effects))
        ≡ holding.held (handled_messages before) +ℤ sum_of worth (body_messages b)
    by_body before (body.User kind value) a effects all given booked =
        received before (User kind value) (failure_of (body.User kind value) a) a effects all given booked
    by_body before (body.Control kind value) a effects all given booked =
        received before (Control kind value) (failure_of (body.Control kind value) a) a effects all given booked
    by_body before (body.Terminated x) a effects all given booked =
        received before (Terminated x) (failure_of (body.Terminated x) a) a effects all given booked
    by_body before body.PoisonPill a effects all given booked = aside before [] refl
    by_body before body.Kill a effects all given booked =
        aside before (tells (envelope_acts who before body.Kill a effects))
        (ap (told_worth worth) (told-of-call who before (failure_of body.Kill a) effects)
        ∙ worth-asked worth effects ∙ ap (all_sent worth) given.1)

    -- what one entry adds to what the actor holds
    step : (before : List Entry) (e : Entry) → IsLawfulEntry who gives before e → messages who before ≡ handled_messages before
        → AllBooked holding (handled_messages before ++ entry_messages e)
        → holding.held (handled_messages before ++ entry_messages e) +ℤ told_worth worth (tells (acts who before e))
        ≡ holding.held (handled_messages before) +ℤ sum_of worth (entry_messages e)
    unfolding acts
    step before (Handled envelope reading (Applied a effects)) lawful all booked = by_body before envelope.body a effects all lawful.given booked
    step before (Handled envelope reading SetAside) lawful all booked = absurd lawful
    step before (System number m (Applied a effects)) lawful all booked =
        let e : Entry = System number m (Applied a effects) in
        aside before (tells (acts who before e))
        (by_entry IsEven refl both who notices before e
        (worth-asked worth effects
        ∙ by_system before (restart_cause m) a effects (is_guardian who) (is_start e before) (is_restart who e before)
        (is_last who e before && was_live who (e ∷ before)) lawful.1))
    step before (System number m SetAside) lawful all booked = aside before [] refl
    step before (Dropped envelope) lawful all booked = aside before [] refl

    kept : (journal : List Entry) → AreLawful who gives journal → count_by tells_of_restart journal ≡ 0
        → AllBooked holding (handled_messages journal)
        → holding.held (handled_messages journal) +ℤ told_worth worth (tells_of_journal who journal)
        ≡ holding.held [] +ℤ sum_of worth (handled_messages journal)
    unfolding AreLawful
    kept [] lawful none booked = refl
    kept (e ∷ before) lawful none booked =
        let count = sum_by-cons (λ x. cond (tells_of_restart x) 1 0) e before in
        let fewer : count_by tells_of_restart before ≡ 0 = omega (arith, count, none) in
        let rest = kept before lawful.1 fewer (λ b m r is. booked b m (r ++ entry_messages e)
        (ap (λ l. l ++ entry_messages e) is ∙ append_assoc b (m ∷ r) (entry_messages e))) in
        let one = step before e lawful.0 (all-handled who gives an_actor before lawful.1 fewer) booked in
        let told = sum-append (λ (t : AddressedBody). body_worth worth t.1) (tells_of_journal who before) (tells (acts who before e)) in
        let handled = sum-append worth (handled_messages before) (entry_messages e) in omega (arith, ints, rest, one, told, handled)

    pub holds-what-it-took : (journal : List Entry) → AreLawful who gives journal → count_by tells_of_restart journal ≡ 0
        → AllBooked holding (handled_messages journal)
        → holding.held (messages who journal) +ℤ told_worth worth (tells_of_journal who journal)
        ≡ holding.held [] +ℤ worth_of worth (begun journal)
    holds-what-it-took journal lawful none booked =
        ap (λ l. holding.held l +ℤ told_worth worth (tells_of_journal who journal)) (all-handled who gives an_actor journal lawful none)
        ∙ kept journal lawful none booked
        ∙ sym (ap (λ n. holding.held [] +ℤ n) (worth-begun worth notice who gives journal lawful))
