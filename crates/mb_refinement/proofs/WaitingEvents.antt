-- Which event each step on a waiting count is.
use Rattle.std.proofs.Common.{◌≡◌, ◌≢◌, ℕ, ◌+◌, ◌-◌, ◌%◌, ◌^◌, ◌<◌, ◌==◌, Bool, true, false, if◌then◌else◌, IsTrue, List, get_or, set, sym, refl, ap, ◌∙◌, subst, arith}
use mathlib.Core.Option.{some}
use lib.ListN.{get_elem?}
use Rattle.atomic_table.specs.Table.{State, keeps, stepped}
use Rattle.mb_msg.specs.declared.system.SysMsg.{SysMsg}
use Rattle.mb_core.specs.declared.wake_obligation.WakeObligation.{WakeObligation}
use Rattle.mb_core.specs.declared.event.Step as event
use Rattle.mb_core.specs.declared.event.Step.TheVariants.{Sent, Unsent, Taken, Count}
use Rattle.mb_core.specs.Actor.{MachineActor, obligation_by, owing}
use Rattle.mb_core.specs.Run.{Change}
use Rattle.mb_ghost.specs.Layout.{word_at, Spot, spot_of}
use Rattle.mb_gate.specs.HomeFacts.{HomeFacts}
use Rattle.mb_gate.specs.declared.slot.Slot.{Slot}
use Rattle.mb_gate.specs.View.{
  View,
  Counted,
  Held,
  obligation_to,
  with_obligation,
  seeing,
  sending,
  unsending,
  counting_off,
  counting,
}
use Rattle.mb_gate.specs.View as views
use Rattle.mb_gate.specs.Rule.{Word, Status, Gate, Waiting, word_offset, SlotName, slot_offset, Ghost, held_of, lent_of, claim_for, list_for}
use Rattle.mb_gate.specs.Shown.{holder_of, work_of, shown}
use Rattle.mb_gate.proofs.Views.{owes_here, owes_else}
use Rattle.mb_gate.proofs.StatusSteps.{is_held}
use Rattle.mb_refinement.specs.Refines.{Rule, shows, IsEvent}
use Rattle.mb_refinement.specs.WaitingEvents.{AdditionIsSent, SubtractionIsUnsent, SubtractionIsTaken, LoadIsCount}
use Rattle.mb_refinement.proofs.Places.{holder_stays, list_stays, mark_stays, work_stays, shown_now, obligation_at, owed_back}
use Rattle.mb_refinement.proofs.Tables.{word_now, word_stays, event_at, load_event}
use Rattle.mb_refinement.proofs.StatusEvents.{first_of}

module _ {H : Type 0} (is_of : ℕ → H → Type 0) (facts : H → HomeFacts) where
  abbrev Place : Type 0
  Place = Spot Word SlotName (Slot H) Ghost

  -- a step that writes the waiting count, and after which the seat may owe the actor something else
  recounts_as : (n : ℕ) (s s' : State (Slot H) View) (r : Rule is_of facts n s) (r' : Rule is_of facts n s') (actor id new : ℕ) (v w : View) (obligation :
      WakeObligation) (carried : List (ℕ × Slot H)) (rest : List SysMsg) → actor < n → get_elem? s.views id ≡ some v
      → ((a : ℕ) → claim_for a w ≡ claim_for a v) → ((a : ℕ) → list_for a w ≡ list_for a v) → ((a : ℕ) → a ≢ actor → obligation_to a w ≡ obligation_to a v)
      → obligation_to actor w ≡ obligation → s' ≡ stepped s (word_at actor 0) new id carried w keeps → (step : event.Step)
      → ((y : MachineActor) → y ≡ owing (record (shows is_of facts n s r actor rest) { waiting = new }) id obligation → Change (shows is_of facts n s r actor rest)
      id step y)
      → IsEvent is_of facts n s r s' r' actor id step rest rest
  recounts_as n s s' r r' actor id new v w obligation carried rest inside at claims lists obligations owes after step so =
      let x : Place = spot_of word_offset slot_offset s r.ghosts actor in
      let f = r.each actor inside in
      event_at is_of facts n s r actor inside Waiting new id v w carried keeps at
      (λ a apart. record { claim = claims a; list = lists a; obligation = obligations a apart }) (λ a apart. refl) s' after r' step rest rest
      (λ q. let x' : Place = spot_of word_offset slot_offset (stepped s (word_at actor 0) new id carried w keeps) q.ghosts actor in
      let f' = q.each actor inside in (
        so (shown actor x' (set s.views id w) rest)
            (shown_now is_of facts n actor x x' s.views id v w at f f' (x.row Status) new (work_of x.ghost rest) (holder_of x.ghost.holder) obligation rest
            (word_stays is_of facts n s r actor inside Waiting Status new (λ e. omega arith)) (word_now is_of facts n s r actor inside Waiting new)
            (work_stays is_of facts n actor x x' s.views id v w at f f' (list_stays is_of facts n actor x x' s.views id v w at f f' (lists actor) refl) rest)
            (ap holder_of (holder_stays is_of facts n actor x x' s.views id v w at f f' (claims actor))) owes),
        (λ m quiet. m (sym (mark_stays is_of facts n actor x x' s.views id v w at f f' (lists actor) refl (word_stays is_of facts n s r actor inside Waiting
            Gate new (λ e. omega arith))) ∙ quiet)),
      ))

  pub addition_is_sent : AdditionIsSent is_of facts
  addition_is_sent n s s' r r' actor id me st rest inside word made =
      let v = me.0 in
      let x : Place = spot_of word_offset slot_offset s r.ghosts actor in
      let is : made.view ≡ sending actor st.first v = first_of _ _ (made.told actor word) in
      let u = seeing (views.Sent actor st.first) v in
      let obligation : WakeObligation = record (obligation_to actor v) { sending = true } in
      recounts_as n s s' r r' actor id ((get_or s.words (word_at actor 0) 0 + 1) % 2 ^ 64) v made.view obligation me.1 rest inside made.present
      (λ a. ap (claim_for a) is) (λ a. ap (list_for a) is) (λ a apart. ap (obligation_to a) is ∙ owes_else actor a obligation u apart)
      (ap (obligation_to actor) is ∙ owes_here actor obligation u) made.after Sent
      (λ y e. e ∙ ap (λ (d : WakeObligation). owing (record (shown actor x s.views rest) { waiting = (get_or s.words (word_at actor 0) 0 + 1) % 2 ^ 64 }) id
      (record d { sending = true })) (sym (obligation_at actor x s.views id v made.present rest)))

  pub subtraction_is_unsent : SubtractionIsUnsent is_of facts
  subtraction_is_unsent n s s' r r' actor id me st rest inside word owes made =
      let v = me.0 in
      let x : Place = spot_of word_offset slot_offset s r.ghosts actor in
      let is : made.view ≡ unsending actor st.first v = first_of _ _ (made.told actor word) in
      let u = seeing (views.Unsent actor st.first) v in
      let obligation : WakeObligation = record (obligation_to actor v) { message = true; sending = false } in
      recounts_as n s s' r r' actor id ((get_or s.words (word_at actor 0) 0 + (2 ^ 64 - 1)) % 2 ^ 64) v made.view obligation me.1 rest inside made.present
      (λ a. ap (claim_for a) is) (λ a. ap (list_for a) is) (λ a apart. ap (obligation_to a) is ∙ owes_else actor a obligation u apart)
      (ap (obligation_to actor) is ∙ owes_here actor obligation u) made.after Unsent
      (λ y e. (
        subst (λ (d : WakeObligation). IsTrue d.sending) (sym (obligation_at actor x s.views id v made.present rest)) owes,
        e ∙ ap (λ (d : WakeObligation). owing (record (shown actor x s.views rest) { waiting = (get_or s.words (word_at actor 0) 0 + (2 ^ 64 - 1)) % 2 ^ 64 })
            id (record d { message = true; sending = false })) (sym (obligation_at actor x s.views id v made.present rest)),
      ))

  pub subtraction_is_taken : SubtractionIsTaken is_of facts
  subtraction_is_taken n s s' r r' actor id me st c rest inside word has of made =
      let v = me.0 in
      let x : Place = spot_of word_offset slot_offset s r.ghosts actor in
      let h = is_held is_of facts n actor id x s.views v c (r.each actor inside) made.present has of in
      let is : made.view ≡ counting_off actor st.first v = first_of _ _ (made.told actor word) in
      recounts_as n s s' r r' actor id ((get_or s.words (word_at actor 0) 0 + (2 ^ 64 - 1)) % 2 ^ 64) v made.view (obligation_to actor v) me.1 rest inside
      made.present (λ a. ap (claim_for a) is) (λ a. ap (list_for a) is) (λ a apart. ap (obligation_to a) is) (ap (obligation_to actor) is) made.after Taken
      (λ y e. (
        ap holder_of h.0,
        e ∙ ap (λ o. record (shown actor x s.views rest) { waiting = (get_or s.words (word_at actor 0) 0 + (2 ^ 64 - 1)) % 2 ^ 64; owed = o }) (owed_back
            actor x s.views id v made.present),
      ))

  -- what a seat that read a waiting count has and owes
  counted_rest : (b : Bool) (v w u : View) → w.claim ≡ u.claim → w.list ≡ u.list → w.claim ≡ v.claim → w.list ≡ v.list → (let z = if b then w else u in
      (z.claim ≡ v.claim) × (z.list ≡ v.list))
  counted_rest true v w u c l d m = (d, m)
  counted_rest false v w u c l d m = (sym c ∙ d, sym l ∙ m)

  counted_owes : (actor other : ℕ) (k : ℕ) (v : View) (b : Bool) → other ≢ actor → obligation_to other (if b then with_obligation actor (record (obligation_to
      actor v) { message = false }) (seeing (Counted actor k) v) else seeing (Counted actor k) v) ≡ obligation_to other v
  counted_owes actor other k v true apart = owes_else actor other (record (obligation_to actor v) { message = false }) (seeing (Counted actor k) v) apart
  counted_owes actor other k v false apart = refl

  counted_here : (actor k : ℕ) (v : View) (b : Bool) → obligation_to actor (if b then with_obligation actor (record (obligation_to actor v) { message = false })
      (seeing (Counted actor k) v) else seeing (Counted actor k) v) ≡ (if b then record (obligation_to actor v) { message = false } else obligation_to actor v)
  counted_here actor k v true = owes_here actor (record (obligation_to actor v) { message = false }) (seeing (Counted actor k) v)
  counted_here actor k v false = refl

  owing_if : (x : MachineActor) (id : ℕ) (d : WakeObligation) (b : Bool) → obligation_by x id ≡ d → set x.owed id d ≡ x.owed → owing x id (if b then record d {
    message = false;
  } else d) ≡ (if b then owing x id (record (obligation_by x id) { message = false }) else x)
  owing_if x id d true is same = ap (λ (e : WakeObligation). owing x id (record e { message = false })) (sym is)
  owing_if x id d false is same = ap (λ o. record x { owed = o }) same

  pub load_is_count : LoadIsCount is_of facts
  load_is_count n s s' r r' actor id me st rest inside word made =
      let v = me.0 in
      let found = get_or s.words (word_at actor 0) 0 in
      let x : Place = spot_of word_offset slot_offset s r.ghosts actor in
      let is : made.view ≡ counting actor found v = first_of _ _ (made.told actor word).0 in
      let w = with_obligation actor (record (obligation_to actor v) { message = false }) (seeing (Counted actor found) v) in
      let same = counted_rest (found == 0) v w (seeing (Counted actor found) v) refl refl refl refl in
      load_event is_of facts n s r actor inside Waiting id v made.view me.1 (if found == 0 then record (obligation_to actor v) { message = false } else
      obligation_to actor v) made.present
      (λ a. ap (claim_for a) is ∙ ap (held_of a) same.0) (λ a. ap (list_for a) is ∙ ap (lent_of a) same.1)
      (λ a apart. ap (obligation_to a) is ∙ counted_owes actor a found v (found == 0) apart) (ap (obligation_to actor) is ∙ counted_here actor found v (found ==
      0)) s' made.after r' Count rest
      (λ y e. e ∙ owing_if (shown actor x s.views rest) id (obligation_to actor v) (found == 0) (obligation_at actor x s.views id v made.present rest) (owed_back
      actor x s.views id v made.present))
