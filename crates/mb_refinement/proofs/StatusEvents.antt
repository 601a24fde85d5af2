-- Which event each step on a status word is.
use Rattle.std.proofs.Common.{◌≡◌, ◌≢◌, ℕ, ◌+◌, ◌/◌, ◌%◌, ◌<◌, ◌==◌, ◌⊎◌, inl, inr, ⊎_elim, Bool, true, false, if◌then◌else◌, IsTrue, List, [], ◌∷◌, ◌++◌, get_or, set, sym, refl, ap, ◌∙◌, subst, Option, Some, None, eq-eqb, ne_eqb, append_assoc, arith}
use mathlib.Core.Option.{some, none, some-ne-none, some-injective}
use lib.ListN.{get_elem?}
use prog.Atomic.{either}
use Rattle.atomic_table.specs.Table.{Me, State, keeps, takes, gives, put_back, stepped}
use Rattle.atomic_table.proofs.Lists.{set_else, set_here}
use Rattle.mb_status.specs.Mailbox.{mailbox_of, is_valid, most_suspensions, suspend, resume, idle}
use Rattle.mb_msg.specs.declared.system.SysMsg.{SysMsg}
use Rattle.mb_core.specs.declared.wake_obligation.WakeObligation.{WakeObligation}
use Rattle.mb_core.specs.declared.event.Step as event
use Rattle.mb_core.specs.declared.event.Step.TheVariants.{Read, Schedule, Idle, Suspend, Resume, Close}
use Rattle.mb_core.specs.Actor.{MachineActor, nothing, owing}
use Rattle.mb_core.specs.Run.{Change, after_reading, with_first}
use Rattle.mb_ghost.specs.Layout.{word_at, slot_at, Spot, spot_of}
use Rattle.mb_gate.specs.HomeFacts.{HomeFacts}
use Rattle.mb_gate.specs.declared.slot.Slot.{Slot}
use Rattle.mb_gate.specs.declared.slot.Slot.TheVariants.{Home}
use Rattle.mb_journal.specs.Entry.{Entry}
use Rattle.mb_gate.specs.View.{View, Held, obligation_to, rewritten, reading, reading_held, writing, taking, idling}
use Rattle.mb_gate.specs.Rule.{
  Word,
  Status,
  Flag,
  Gate,
  Waiting,
  word_offset,
  SlotName,
  CellSlot,
  slot_offset,
  Ghost,
  held_of,
  claim_for,
  list_for,
  CellPlace,
}
use Rattle.mb_gate.specs.Shown.{holder_of, work_of, shown}
use Rattle.mb_gate.proofs.Views.{held_here, owes_here, reading_elsewhere, taking_elsewhere, writing_elsewhere, idling_elsewhere, Elsewhere}
use Rattle.mb_gate.proofs.StatusSteps.{is_held}
use Rattle.mb_refinement.specs.Refines.{Rule, IsEvent, IsNoEvent}
use Rattle.mb_refinement.specs.StatusEvents.{LookForClaimIsNone, LoadOfFlagIsNone, LoadIsRead, WonExchangeIsSchedule, WonExchangeKnowsDrain, LostExchangeIsRead, LoadByTheHolderIsNone, StoreIsByTheHolder, StoreIsIdle, FlagIsIdle}
use Rattle.mb_refinement.proofs.Places.{Aside, holder_taken, holder_changes, holder_left, list_stays, mark_stays, work_stays, shown_now, obligation_at, owed_back}
use Rattle.mb_refinement.proofs.Gates.{gave_shown}
use Rattle.mb_refinement.proofs.Tables.{seat_there, word_now, word_stays, event_at, load_event, load_silent}

pub aside_of : {H : Type 0} (actor : ℕ) (v w u : View) → w ≡ u → Elsewhere H actor v u → Aside actor v w
aside_of actor v w u is e = record {
  claim = ap (claim_for actor) is ∙ e.claim;
  list = ap (list_for actor) is ∙ e.list;
  obligation = ap (obligation_to actor) is ∙ e.obligation;
}

pub first_of : {A B : Type 0} (p q : A × B) → p ≡ q → p.0 ≡ q.0
first_of p q e = ap (λ z. z.0) e

some_same : {A : Type 0} (a b : A) → Some a ≡ Some b → a ≡ b
some_same a b e = cc

-- the word that an exchange leaves
pub won_word : (found old new : ℕ) → found ≡ old → either (found == old) new found ≡ new
won_word found old new hit = ap (λ b. either b new found) (eq-eqb found old hit)

pub lost_word : (found old new : ℕ) → found ≢ old → either (found == old) new found ≡ found
lost_word found old new miss = ap (λ b. either b new found) (ne_eqb found old miss)

-- the mailbox of a word with the scheduled bit
with_bit : (w : ℕ) → w % 4 ≡ 0 → mailbox_of (w + 2) ≡ record (mailbox_of w) { scheduled = true }
with_bit w free i = record { closed = same_closed i; scheduled = bit i; count = same_count i }
  where
    same_closed : (w + 2 == 1) ≡ (w == 1)
    same_closed = ne_eqb (w + 2) 1 (λ e. omega arith) ∙ sym (ne_eqb w 1 (λ e. omega arith))

    bit : ((w + 2) / 2 % 2 == 1) ≡ true
    bit = eq-eqb ((w + 2) / 2 % 2) 1 (omega arith)

    same_count : (w + 2) / 4 ≡ w / 4
    same_count = omega arith

-- and without it
without_bit : (w : ℕ) → w % 4 ≡ 0 → mailbox_of w ≡ idle (mailbox_of (w + 2))
without_bit w free i = record { closed = same_closed i; scheduled = bit i; count = same_count i }
  where
    same_closed : (w == 1) ≡ (w + 2 == 1)
    same_closed = ne_eqb w 1 (λ e. omega arith) ∙ sym (ne_eqb (w + 2) 1 (λ e. omega arith))

    bit : (w / 2 % 2 == 1) ≡ false
    bit = ne_eqb (w / 2 % 2) 1 (λ e. omega arith)

    same_count : w / 4 ≡ (w + 2) / 4
    same_count = omega arith

closed_idle : (w : ℕ) → w ≡ 1 → mailbox_of w ≡ idle (mailbox_of w)
closed_idle w one = subst (λ k. mailbox_of k ≡ idle (mailbox_of k)) (sym one) refl

open_word : (w : ℕ) → w % 4 ≡ 0 → (w == 1) ≡ false
open_word w free = ne_eqb w 1 (λ e. omega arith)

free_word : (w : ℕ) → w % 4 ≡ 0 → (w / 2 % 2 == 1) ≡ false
free_word w free = ne_eqb (w / 2 % 2) 1 (λ e. omega arith)

-- the rest in front of the work of a list
pub in_front : (g : Ghost) (left rest : List SysMsg) → work_of g (left ++ rest) ≡ with_first (work_of g rest) left
in_front g left rest = cases g.listed.closed
  where
    cases : (ended : Bool) → (if ended then None else Some ((left ++ rest) ++ g.listed.messages)) ≡ with_first (if ended then None else Some (rest ++
        g.listed.messages)) left
    cases true = refl
    cases false = ap Some (append_assoc left rest g.listed.messages)

-- who gives an actor back owes it a look at both its queues
idle_owes : (actor : ℕ) (j : List Entry) (v : View) → obligation_to actor (idling actor j v) ≡ record (obligation_to actor v) { system = true; message = true }
idle_owes actor j v = owes_here actor (record (obligation_to actor v) { system = true; message = true }) v

-- nothing is left in front of nothing
pub none_left : (left rest : List SysMsg) → left ≡ [] → rest ≡ [] → left ++ rest ≡ []
none_left left rest a b = (λ i. a i ++ b i)

not_valid : IsTrue (is_valid 3) → ⊥
not_valid e = cc

module _ {H : Type 0} (is_of : ℕ → H → Type 0) (facts : H → HomeFacts) where
  abbrev Place : Type 0
  Place = Spot Word SlotName (Slot H) Ghost

  -- where the cell is in its slot, nobody holds the actor
  at_home : (actor : ℕ) (x : Place) (home : Slot H) (holder : Option (ℕ × Held)) → CellPlace is_of facts actor x holder → x.slot CellSlot ≡ some (some home)
      → (holder ≡ None) × ((x.row Status % 4 ≡ 0) ⊎ (x.row Status ≡ 1))
  at_home actor x home None k there = (refl, k.idle)
  at_home actor x home (Some h) k there = absurd (some-ne-none home (sym (some-injective _ _ (sym k.out ∙ there))))

  -- a load or a lost exchange is a reading
  reads_as : (n : ℕ) (s s' : State (Slot H) View) (r : Rule is_of facts n s) (r' : Rule is_of facts n s') (actor id : ℕ) (v w : View) (carried : List
      (ℕ × Slot H)) (rest : List SysMsg) → actor < n → get_elem? s.views id ≡ some v → w ≡ reading actor (get_or s.words (word_at actor 16) 0) v
      → s' ≡ stepped s (word_at actor 16) (get_or s.words (word_at actor 16) 0) id carried w keeps → IsEvent is_of facts n s r s' r' actor id Read rest rest
  reads_as n s s' r r' actor id v w carried rest inside at is after =
      let found = get_or s.words (word_at actor 16) 0 in
      let x : Place = spot_of word_offset slot_offset s r.ghosts actor in
      load_event is_of facts n s r actor inside Status id v w carried (after_reading (mailbox_of found) (obligation_to actor v)) at
      (λ a. ap (claim_for a) is) (λ a. ap (list_for a) is)
      (λ a apart. (aside_of {H = H} a v w (reading actor found v) is (reading_elsewhere actor a found v apart)).obligation)
      (ap (obligation_to actor) is ∙ owes_here actor (after_reading (mailbox_of found) (obligation_to actor v)) v) s' after r' Read rest
      (λ y e. e ∙ ap (λ d. owing (shown actor x s.views rest) id (after_reading (mailbox_of found) d)) (sym (obligation_at actor x s.views id v at rest)))

  pub load_is_read : LoadIsRead is_of facts
  load_is_read n s s' r r' actor id me st rest inside word made =
      reads_as n s s' r r' actor id me.0 made.view me.1 rest inside made.present (first_of _ _ (made.told actor word).0) made.after

  -- a store by the holder changes the mailbox alone
  pub writes_as : (n : ℕ) (s s' : State (Slot H) View) (r : Rule is_of facts n s) (r' : Rule is_of facts n s') (actor id : ℕ) (v w : View) (c : Held) (new : ℕ)
      (carried : List (ℕ × Slot H)) (rest : List SysMsg) → actor < n → get_elem? s.views id ≡ some v → v.claim ≡ Some c → c.actor ≡ actor
      → w ≡ writing new v → s' ≡ stepped s (word_at actor 16) new id carried w keeps → (step : event.Step)
      → ((x y : MachineActor) → x.holder ≡ Some id → x.mailbox ≡ mailbox_of c.word → y ≡ record x { mailbox = mailbox_of new } → Change x id step y)
      → IsEvent is_of facts n s r s' r' actor id step rest rest
  writes_as n s s' r r' actor id v w c new carried rest inside at has of is after step so =
      let x : Place = spot_of word_offset slot_offset s r.ghosts actor in
      let f = r.each actor inside in
      let h = is_held is_of facts n actor id x s.views v c f at has of in
      let c' : Held = record c { word = new } in
      let owns : claim_for actor w ≡ Some c' = ap (claim_for actor) is ∙ (ap (λ z. held_of actor (rewritten new z)) has ∙ held_here actor c' of) in
      event_at is_of facts n s r actor inside Status new id v w carried keeps at
      (λ a apart. aside_of {H = H} a v w (writing new v) is (writing_elsewhere actor a new c v apart has of)) (λ a apart. refl) s' after r' step rest rest
      (λ q. let x' : Place = spot_of word_offset slot_offset (stepped s (word_at actor 16) new id carried w keeps) q.ghosts actor in
      let f' = q.each actor inside in
      let same = ap (list_for actor) is in (
        so (shown actor x s.views rest) (shown actor x' (set s.views id w) rest) (ap holder_of h.0) (ap mailbox_of h.1.word)
            (shown_now is_of facts n actor x x' s.views id v w at f f' new (x.row Waiting) (work_of x.ghost rest) (holder_of x.ghost.holder) (obligation_to
            actor v) rest (word_now is_of facts n s r actor inside Status new) (word_stays is_of facts n s r actor inside Status Waiting new (λ e. omega
            arith)) (work_stays is_of facts n actor x x' s.views id v w at f f' (list_stays is_of facts n actor x x' s.views id v w at f f' same refl) rest)
            (ap holder_of (holder_changes is_of facts n actor x x' s.views id v w at f f' c c' h.0 owns) ∙ sym (ap holder_of h.0)) (ap (obligation_to
            actor) is)
            ∙ ap (λ o. record (shown actor x s.views rest) { mailbox = mailbox_of new; owed = o }) (owed_back actor x s.views id v at)),
        (λ m quiet. m (sym (mark_stays is_of facts n actor x x' s.views id v w at f f' same refl (word_stays is_of facts n s r actor inside Status Gate new
            (λ e. omega arith))) ∙ quiet)),
      ))

  pub store_is_by_the_holder : StoreIsByTheHolder is_of facts
  store_is_by_the_holder n s s' r r' actor id me st c rest inside word has of made =
      let event = writes_as n s s' r r' actor id me.0 made.view c st.first me.1 rest inside made.present has of (first_of _ _ made.told.0) made.after in
      ⊎_elim
      (λ is. inl (event Suspend (λ x y held was e. (
        held,
        subst (λ m. m.count < most_suspensions) (sym was) is.0,
        e ∙ ap (λ m. record x { mailbox = m }) (is.1 ∙ ap suspend (sym was)),
      ))))
      (λ other. inr (⊎_elim
      (λ is. inl (event Resume (λ x y held was e. (held, e ∙ ap (λ m. record x { mailbox = m }) (is ∙ ap resume (sym was))))))
      (λ is. inr (event Close (λ x y held was e. (held, e ∙ ap (λ m. record x { mailbox = m }) is))))
      other)) (made.told.1 c has)

  -- a load after which the seat knows what it knew changes nothing of what the table shows
  unmoved : (n : ℕ) (s s' : State (Slot H) View) (r : Rule is_of facts n s) (r' : Rule is_of facts n s') (actor id : ℕ) (name : Word) (v w : View) (carried : List (ℕ ×
      Slot H)) → actor < n → get_elem? s.views id ≡ some v → w ≡ v → s' ≡ stepped s (word_at actor (word_offset name)) (get_or s.words (word_at actor (word_offset
      name)) 0) id carried w keeps → IsNoEvent is_of facts n s r s' r'
  unmoved n s s' r r' actor id name v w carried inside at is after = load_silent is_of facts n s r actor inside name id v w carried at
      (λ a. record { claim = ap (claim_for a) is; list = ap (list_for a) is; obligation = ap (obligation_to a) is }) s' after r'

  -- a load by the holder changes nothing of what the table shows
  pub load_by_the_holder_is_none : LoadByTheHolderIsNone is_of facts
  load_by_the_holder_is_none n s s' r r' actor id me st c inside word has of made =
      let is : made.view ≡ reading_held actor (get_or s.words (word_at actor 16) 0) me.0 = first_of _ _ (made.told actor c word has of).0 in
      load_silent is_of facts n s r actor inside Status id me.0 made.view me.1 made.present
      (λ a. record { claim = ap (claim_for a) is; list = ap (list_for a) is; obligation = ap (obligation_to a) is }) s' made.after r'

  -- a load that asks whether a claim is out
  pub look_for_claim_is_none : LookForClaimIsNone is_of facts
  look_for_claim_is_none n s s' r r' actor id me st inside word made = unmoved n s s' r r' actor id Status me.0 made.view me.1 inside made.present (first_of _ _
      (made.told actor word).0) made.after

  pub load_of_flag_is_none : LoadOfFlagIsNone is_of facts
  load_of_flag_is_none n s s' r r' actor id me st inside word made = unmoved n s s' r r' actor id Flag me.0 made.view me.1 inside made.present (first_of _ _
      (made.told actor word).0) made.after

  -- the holder gives the actor back
  idles_as : (n : ℕ) (s s' : State (Slot H) View) (r : Rule is_of facts n s) (r' : Rule is_of facts n s') (actor id : ℕ) (v w : View) (c : Held) (home : H)
      (name : Word) (new now : ℕ) (carried : List (ℕ × Slot H)) (rest left : List SysMsg) → actor < n → get_elem? s.views id ≡ some v → v.claim ≡ Some c
      → c.actor ≡ actor → carried ≡ (slot_at actor 0, Home home) ∷ [] → w ≡ idling actor (facts home).journal v
      → s' ≡ stepped s (word_at actor (word_offset name)) new id carried w gives → (c.gave ≡ false → left ≡ [])
      → word_offset Waiting ≢ word_offset name → word_offset Gate ≢ word_offset name
      → get_or (set s.words (word_at actor (word_offset name)) new) (word_at actor 16) 0 ≡ now → ((q : Rule is_of facts n (stepped s (word_at actor
      (word_offset name)) new id carried w gives)) → mailbox_of now ≡ idle (mailbox_of c.word))
      → IsEvent is_of facts n s r s' r' actor id (Idle left) rest (left ++ rest)
  idles_as n s s' r r' actor id v w c home name new now carried rest left inside at has of carries is after quiet_left no_waiting no_gate status mailbox =
      let x : Place = spot_of word_offset slot_offset s r.ghosts actor in
      let f = r.each actor inside in
      let h = is_held is_of facts n actor id x s.views v c f at has of in
      let obligation : WakeObligation = record (obligation_to actor v) { system = true; message = true } in
      let lists : (a : ℕ) → get_elem? (put_back s.homes carried) (slot_at a 1) ≡ get_elem? s.homes (slot_at a 1) = (λ a. ap (λ l. get_elem? (put_back
      s.homes l) (slot_at a 1)) carries ∙ set_else s.homes (slot_at actor 0) (slot_at a 1) (some (Home home)) (λ e. omega arith)) in
      event_at is_of facts n s r actor inside name new id v w carried gives at
      (λ a apart. aside_of {H = H} a v w (idling actor (facts home).journal v) is (idling_elsewhere actor a (facts home).journal c v apart has of))
      (λ a apart. lists a) s' after r' (Idle left) rest (left ++ rest)
      (λ q. let x' : Place = spot_of word_offset slot_offset (stepped s (word_at actor (word_offset name)) new id carried w gives) q.ghosts actor in
      let f' = q.each actor inside in
      let same = ap (list_for actor) is in
      let listed = list_stays is_of facts n actor x x' s.views id v w at f f' same (lists actor) in (
        (
          ap holder_of h.0,
          shown_now is_of facts n actor x x' s.views id v w at f f' now (x.row Waiting) (with_first (work_of x.ghost rest) left) None obligation (left ++ rest) status
              (word_stays is_of facts n s r actor inside name Waiting new no_waiting)
              (work_stays is_of facts n actor x x' s.views id v w at f f' listed (left ++ rest) ∙ in_front x.ghost left rest)
              (ap holder_of (holder_left is_of facts n actor x x' s.views id v w at f f' c h.0 (ap (claim_for actor) is)))
              (ap (obligation_to actor) is ∙ idle_owes actor (facts home).journal v)
              ∙ (λ i. record {
                mailbox = (mailbox q ∙ ap (λ k. idle (mailbox_of k)) (sym h.1.word)) i;
                envelopes = [];
                waiting = x.row Waiting;
                system = with_first (work_of x.ghost rest) left;
                holder = None;
                owed = set (shown actor x s.views rest).owed id (record (sym (obligation_at actor x s.views id v at rest) i) { system = true; message = true });
              }),
        ),
        (λ m quiet. let was : x.ghost.gave ≡ false = sym (mark_stays is_of facts n actor x x' s.views id v w at f f' same (lists actor) (word_stays is_of facts
            n s r actor inside name Gate new no_gate)) ∙ quiet in none_left left rest (quiet_left (h.1.gave ∙ was)) (m was)),
      ))

  pub store_is_idle : StoreIsIdle is_of facts
  store_is_idle n s s' r r' actor id me st c home rest left inside word has of carried quiet made =
      let bit : c.word ≡ st.first + 2 = ((made.told actor home carried).1 c has).0 word in
      idles_as n s s' r r' actor id me.0 made.view c home Status st.first st.first me.1 rest left inside made.present has of carried
      (first_of _ _ (made.told actor home carried).0) made.after quiet (λ e. omega arith) (λ e. omega arith)
      (word_now is_of facts n s r actor inside Status st.first)
      (λ q. let x : Place = spot_of word_offset slot_offset s r.ghosts actor in
      let h = is_held is_of facts n actor id x s.views me.0 c (r.each actor inside) made.present has of in
      let busy = h.1.busy in let w = h.1.word in
      let free : st.first % 4 ≡ 0 = ⊎_elim (λ b. omega arith) (λ one. omega arith) busy in
      without_bit st.first free ∙ ap (λ k. idle (mailbox_of k)) (sym bit))

  pub flag_is_idle : FlagIsIdle is_of facts
  flag_is_idle n s s' r r' actor id me st c home rest left inside word has of carried quiet made =
      let one : c.word ≡ 1 = ((made.told actor home carried).1 c has).1 word in
      idles_as n s s' r r' actor id me.0 made.view c home Flag st.first 1 me.1 rest left inside made.present has of carried
      (first_of _ _ (made.told actor home carried).0) made.after quiet (λ e. omega arith) (λ e. omega arith)
      (let x : Place = spot_of word_offset slot_offset s r.ghosts actor in
      let h = is_held is_of facts n actor id x s.views me.0 c (r.each actor inside) made.present has of in
      word_stays is_of facts n s r actor inside Flag Status st.first (λ e. omega arith) ∙ (h.1.word ∙ one))
      (λ q. closed_idle 1 refl ∙ ap (λ k. idle (mailbox_of k)) (sym one))

module _ {H : Type 0} (is_of : H → ℕ → H → Type 0) (first : H) (facts : H → HomeFacts) where
  pub lost_is_read : LostExchangeIsRead is_of first facts
  lost_is_read n s s' r r' actor id me st note rest inside word said miss made =
      reads_as (is_of first) facts n s s' r r' actor id me.0 made.view me.1 rest inside made.present (first_of _ _ ((made.told actor note word said).1 miss).0)
      (made.after ∙ ap (λ k. stepped s (word_at actor 16) k id me.1 made.view keeps) (lost_word (get_or s.words (word_at actor 16) 0) st.first st.second miss))

  pub won_knows_drain : WonExchangeKnowsDrain is_of first facts
  won_knows_drain n s s' r r' actor id me st note home inside word said hit made c has =
      let w = made.view in
      let new = either (get_or s.words (word_at actor 16) 0 == st.first) st.second (get_or s.words (word_at actor 16) 0) in
      let act = takes (slot_at actor 0) (Home home) in
      let won = (made.told actor note word said).0 hit in
      let of : c.actor ≡ actor = ap (λ (h : Held). h.actor) (some_same c _ (sym has ∙ ap (λ (m : Me (Slot _) View). m.0.claim) won.now)) in
      subst (λ (z : State (Slot _) View). Rule (is_of first) facts n z → c.gave ≡ (get_or s.words (word_at actor 17) 0 / 4 % 2 == 1)) (sym made.after)
      (λ q.
      let x' : Place (is_of first) facts = spot_of word_offset slot_offset (stepped s (word_at actor 16) new id me.1 w act) q.ghosts actor in
      let f' = q.each actor inside in
      let at : get_elem? (set s.views id w) id ≡ some w = set_here s.views id w (seat_there s.views id me.0 made.present) in
      let h = is_held (is_of first) facts n actor id x' (set s.views id w) w c f' at has of in
      h.1.gave ∙ (gave_shown (is_of first) facts x' f'.list_place
      ∙ ap (λ k. k / 4 % 2 == 1) (word_stays (is_of first) facts n s r actor inside Status Gate new (λ e. omega arith)))) r'

  pub won_is_schedule : WonExchangeIsSchedule is_of first facts
  won_is_schedule n s s' r r' actor id me st note home rest inside word said bit bare hit made =
      let v = me.0 in
      let w = made.view in
      let found = get_or s.words (word_at actor 16) 0 in
      let new = found + 2 in
      let x : Place (is_of first) facts = spot_of word_offset slot_offset s r.ghosts actor in
      let f = r.each actor inside in
      let won = (made.told actor note word said).0 hit in
      let j = (facts won.home).journal in
      let shut = (facts won.home).closed_to in
      let given = (facts won.home).given in
      let drained = (facts won.home).drained in
      let is : w ≡ taking actor j shut found won.gave given drained v = first_of _ _ won.now in
      let c : Held = record { actor = actor; journal = j; closed_to = shut; word = new; gave = won.gave; given = given; drained = drained } in
      let there : x.slot CellSlot ≡ some (some (Home home)) = made.able in
      let before = at_home (is_of first) facts actor x (Home home) x.ghost.holder f.cell there in
      let lists : (a : ℕ) → get_elem? (set s.homes (slot_at actor 0) none) (slot_at a 1) ≡ get_elem? s.homes (slot_at a 1) = (λ a. set_else s.homes (slot_at
      actor 0) (slot_at a 1) none (λ e. omega arith)) in
      event_at (is_of first) facts n s r actor inside Status new id v w me.1 (takes (slot_at actor 0) (Home home)) made.present
      (λ a apart. aside_of {H = H} a v w (taking actor j shut found won.gave given drained v) is (taking_elsewhere actor a found given j shut won.gave drained v apart bare))
      (λ a apart. lists a) s'
      (made.after ∙ ap (λ k. stepped s (word_at actor 16) k id me.1 w (takes (slot_at actor 0) (Home home))) (won_word found st.first st.second hit ∙ (bit ∙ ap
      (λ k. k + 2) (sym hit)))) r' Schedule rest rest
      (λ q. let x' : Place (is_of first) facts = spot_of word_offset slot_offset (stepped s (word_at actor 16) new id me.1 w (takes (slot_at actor 0) (Home
      home))) q.ghosts actor in
      let f' = q.each actor inside in
      let same = ap (list_for actor) is in
      let now : x'.row Status ≡ new = word_now (is_of first) facts n s r actor inside Status new in
      let free : found % 4 ≡ 0 = ⊎_elim (λ z. z) (λ one. absurd (not_valid (subst (λ k. IsTrue (is_valid k)) (now ∙ ap (λ k. k + 2) one) f'.valid)))
      before.1 in (
        (
          open_word found free,
          free_word found free,
          shown_now (is_of first) facts n actor x x' s.views id v w made.present f f' new (x.row Waiting) (work_of x.ghost rest) (Some id) nothing rest now
              (word_stays (is_of first) facts n s r actor inside Status Waiting new (λ e. omega arith))
              (work_stays (is_of first) facts n actor x x' s.views id v w made.present f f' (list_stays (is_of first) facts n actor x x' s.views id v w
              made.present f f' same (lists actor)) rest)
              (ap holder_of (holder_taken (is_of first) facts n actor x x' s.views id v w made.present f f' c before.0 (ap (claim_for actor) is ∙ held_here
              actor c refl)))
              (ap (obligation_to actor) is ∙ owes_here actor nothing v)
              ∙ (λ i. owing (record (shown actor x s.views rest) { mailbox = with_bit found free i; holder = Some id }) id nothing),
        ),
        (λ m quiet. m (sym (mark_stays (is_of first) facts n actor x x' s.views id v w made.present f f' same (lists actor) (word_stays (is_of first) facts n s
            r actor inside Status Gate new (λ e. omega arith))) ∙ quiet)),
      ))
