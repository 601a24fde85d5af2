-- Each kind of step of the table keeps the rule.
use Rattle.std.proofs.Common.{◌≡◌, ◌≢◌, ℕ, ◌+◌, ◌-◌, ◌/◌, ◌%◌, ◌^◌, ◌<◌, ◌==◌, ◌⊎◌, inl, inr, ⊎_elim, true, false, IsTrue, List, [], ◌∷◌, sym, refl, ap, ◌∙◌, subst, Some, None, length, not, eq-eqb, arith}
use mathlib.Core.Logic.{dite}
use native.Mathlib.Decide.{ℕ_discrete}
use mathlib.Core.Option.{some, some-injective}
use prog.Atomic.{either}
use Rattle.std.specs.declared.snapshot.Snapshot.{Snapshot}
use Rattle.atomic_table.specs.Table.{State, Me, Step, keeps, takes, gives, stepped, rest as tail_of}
use Rattle.atomic_table.proofs.Lists.{set_else}
use Rattle.mb_status.specs.Mailbox.{Mailbox, word_of, idle, is_valid}
use Rattle.mb_msg.specs.declared.system.SysMsg.{SysMsg}
use Rattle.mb_syslist.specs.MessageList.{MessageList, with_last, listed, pushed, drained, ended}
use Rattle.mb_core.specs.declared.event.Step as event
use Rattle.mb_ghost.specs.Layout.{word_at, slot_at, Spot, spot_of}
use Rattle.mb_gate.specs.HomeFacts.{HomeFacts}
use Rattle.mb_gate.specs.declared.slot.Slot.{Slot}
use Rattle.mb_gate.specs.declared.slot.Slot.TheVariants.{Home, List as Listing, Note, First}
use Rattle.mb_gate.proofs.Numbers.{length_numbered}
use Rattle.mb_gate.specs.View.{View, given_after, Looked, Drained, Ended, Held, Lent, taking, lending, draining, ending, claim_alone, without_claim, copied, split_off, halving, taking_over, taking_in}
use Rattle.mb_gate.specs.Rule.{Word, Status, Flag, Gate, Waiting, word_offset, SlotName, slot_offset, Ghost, is_some_item, gate_word, all_numbered}
use Rattle.mb_gate.specs.ListWord.{shows_work, is_ended}
use Rattle.mb_gate.specs.NamedActors.{NamesBelow}
use Rattle.mb_gate.specs.Lists.{may_lock_list}
use Rattle.mb_gate.specs.Together.{ReadsOwnClaim, ReadsFlag, together, came_back}
use Rattle.mb_gate.specs.TwoClaims.{moved_out, moved_in}
use Rattle.mb_gate.specs.View.{blank}
use Rattle.mb_gate.proofs.TwoClaims.{moves_allowed}
use Rattle.mb_gate.proofs.Together.{together_allowed, again_allowed, comes_back_allowed}
use Rattle.mb_gate.specs.Claims.{held_in, IsReadyToRelease}
use Rattle.mb_gate.specs.TableSteps.{Reads, ReadsHeld, Writes, Schedules, Idles, CountsSent, UncountsSent, CountsTaken, ReadsWaiting, ReadsGate, LocksList, Enlists, Refuses, Drains, Ends, ChecksDrained}
use Rattle.mb_gate.proofs.Views.{drained_nothing}
use Rattle.mb_gate.proofs.HolderChanges.{idle_two}
use Rattle.mb_gate.proofs.Wins.{closed_word, one_closed, idle_free}
use Rattle.mb_gate.proofs.StatusSteps as status_steps
use Rattle.mb_gate.proofs.HeldStatus.{reads_held}
use Rattle.mb_gate.proofs.WaitingSteps as waiting_steps
use Rattle.mb_gate.proofs.ListSteps as list_steps
use Rattle.mb_gate.proofs.Allowed.{copies_allowed, parts_allowed, claims_allowed, joins_allowed, takes_in_allowed}
use Rattle.mb_refinement.specs.Refines.{IsStep, Rule}
use Rattle.mb_refinement.specs.PartyEvents.{IsCut, IsMerge}
use Rattle.mb_refinement.specs.StatusEvents.{KnowsLastDrain}
use Rattle.mb_refinement.specs.TableMoves.{HasShare, IsHolderStep}
use Rattle.mb_refinement.proofs.Places.{gate_mark}
use Rattle.mb_refinement.proofs.StatusEvents.{won_word, lost_word}
use Rattle.mb_refinement.proofs.ListEvents.{kept_word, shown_by, listing_same, neither}
use Rattle.mb_refinement.proofs.Gates.{gave_shown, ended_shown, unscheduled_valid, holder_busy}
use Rattle.mb_refinement.proofs.KeptRule.{load_keeps, take_keeps, give_keeps}

home_same : {H : Type 0} (a b : H) → Home a ≡ Home b → a ≡ b
home_same a b e = cc

-- all that is listed counts as given once it is taken out
given_listed : (l : MessageList) → (l.given + length l.messages) % 2 ^ 64 ≡ given_after l.given (listed l)
given_listed l = ap (λ k. (l.given + k) % 2 ^ 64) (sym (length_numbered l.given l.messages))

no_work_shown : (k : ℕ) → k % 8 ≡ 0 → shows_work k ≡ false
no_work_shown k e = ap not (eq-eqb (k / 2 % 4) 0 (omega arith))

head_same : {A : Type 0} (a b : A) (xs ys : List A) → a ∷ xs ≡ b ∷ ys → a ≡ b
head_same a b xs ys e = cc

module _ {H : Type 0} (is_of : ℕ → H → Type 0) (facts : H → HomeFacts) (n : ℕ) (s s' : State (Slot H) View) (r : Rule is_of facts n s) (actor id : ℕ) (me : Me (Slot
    H) View) (st : Step (Slot H)) (inside : actor < n) where
  abbrev Place : Spot Word SlotName (Slot H) Ghost
  Place = spot_of word_offset slot_offset s r.ghosts actor

  abbrev M : Type 0
  M = Me (Slot H) View

  -- ---- the status word

  pub loads_status_keeps : st.word ≡ word_at actor 16 → IsStep (word_at actor 16) id me (λ k. k) keeps (Reads st me) s s' → Rule is_of facts n s'
  loads_status_keeps word made = load_keeps is_of facts n s r actor inside Status (Place.row Status) id me made.view
      (status_steps.reads is_of facts n actor id me (λ m. m ≡ (made.view, me.1)) Place s.views (r.each actor inside) made.present (sym (made.told actor word).0))
      s' made.after

  pub loads_own_status_keeps : (c : Held) → st.word ≡ word_at actor 16 → me.0.claim ≡ Some c → c.actor ≡ actor → IsStep (word_at actor 16) id me (λ k. k) keeps
      (ReadsHeld st me) s s' → Rule is_of facts n s'
  loads_own_status_keeps c word has of made = load_keeps is_of facts n s r actor inside Status (Place.row Status) id me made.view
      (reads_held is_of facts n actor id me (λ m. m ≡ (made.view, me.1)) Place s.views (r.each actor inside) made.present (sym (made.told actor c word has of).0))
      s' made.after

  pub looks_for_claim_keeps : st.word ≡ word_at actor 16 → IsStep (word_at actor 16) id me (λ k. k) keeps (ReadsOwnClaim st me) s s' → Rule is_of facts n s'
  looks_for_claim_keeps word made = load_keeps is_of facts n s r actor inside Status (Place.row Status) id me made.view
      (waiting_steps.glances is_of facts n actor id Status me (λ m. m ≡ (made.view, me.1)) Place s.views (r.each actor inside) made.present (sym (made.told actor
      word).0)) s' made.after

  pub loads_flag_keeps : st.word ≡ word_at actor 7 → IsStep (word_at actor 7) id me (λ k. k) keeps (ReadsFlag st me) s s' → Rule is_of facts n s'
  loads_flag_keeps word made = load_keeps is_of facts n s r actor inside Flag (Place.row Flag) id me made.view
      (waiting_steps.glances is_of facts n actor id Flag me (λ m. m ≡ (made.view, me.1)) Place s.views (r.each actor inside) made.present (sym (made.told actor
      word).0)) s' made.after

  pub writes_keeps : (c : Held) (step : event.Step) → me.0.claim ≡ Some c → c.actor ≡ actor → IsTrue (is_valid st.first) → IsHolderStep c.word st.first step
      → IsStep (word_at actor 16) id me (λ k. st.first) keeps (λ k. Writes st me st.first) s s' → Rule is_of facts n s'
  writes_keeps c step has of valid so made =
      let f = r.each actor inside in
      let h = status_steps.is_held is_of facts n actor id Place s.views me.0 c f made.present has of in
      let busy = holder_busy c.word st.first step (subst (λ k. (k % 4 ≡ 2) ⊎ (k ≡ 1)) h.1.word h.1.busy) valid so in
      load_keeps is_of facts n s r actor inside Status st.first id me made.view
      (status_steps.writes is_of facts n actor id me c st.first (λ m. m ≡ (made.view, me.1)) Place s.views f made.present has of valid busy.0 busy.1 (sym made.told.0))
      s' made.after

  pub gives_back_keeps : (status : Mailbox) → st.word ≡ word_at actor 16 → IsReadyToRelease is_of facts actor status me → status.closed ≡ false → st.first ≡
      word_of (idle status) → IsStep (word_at actor 16) id me (λ k. st.first) gives (λ k. Idles facts st me st.first) s s' → Rule is_of facts n s'
  gives_back_keeps status word ready unshut is made =
      let f = r.each actor inside in
      let c = held_in me.0 in
      let may = ready.may_go_home in
      let h = status_steps.is_held is_of facts n actor id Place s.views me.0 c f made.present ready.has ready.of in
      let apart : c.word ≢ 1 = (λ one. let no = one_closed status (sym ready.word ∙ one) in absurd (cc)) in
      let two : word_of status % 4 ≡ 2 = ap (λ k. k % 4) (sym ready.word ∙ sym h.1.word) ∙ ⊎_elim (λ b. b) (λ one. absurd (apart (sym h.1.word ∙ one))) h.1.busy in
      let more : Place.row Status ≡ st.first + 2 = h.1.word ∙ (ready.word ∙ (idle_two status unshut two ∙ ap (λ k. k + 2) (sym is))) in
      let free : st.first % 4 ≡ 0 = ap (λ k. k % 4) is ∙ idle_free status unshut in
      give_keeps is_of facts n s r actor inside Status st.first id me made.view (slot_at actor 0, Home ready.home) [] ready.carried
      (status_steps.idles is_of facts n actor id me c ready.home st.first (λ m. m ≡ (made.view, tail_of me.1)) Place s.views f made.present ready.has ready.of
      ready.carried may.home_of_actor may.extends may.count may.known_closed may.drained apart (unscheduled_valid st.first free (subst (λ k. IsTrue (is_valid k)) more
      f.valid)) free (is ∙ sym may.fold) (λ no. may.rest (inr no)) ready.share (sym (made.told actor ready.home ready.carried).0))
      s' made.after

  pub gives_back_closed_keeps : (status : Mailbox) → IsReadyToRelease is_of facts actor status me → status.closed ≡ true → st.first ≡ 1 → IsStep (word_at actor 7)
      id me (λ k. st.first) gives (λ k. Idles facts st me st.first) s s' → Rule is_of facts n s'
  gives_back_closed_keeps status ready shut one made =
      let c = held_in me.0 in
      let may = ready.may_go_home in
      give_keeps is_of facts n s r actor inside Flag 1 id me made.view (slot_at actor 0, Home ready.home) [] ready.carried
      (status_steps.idles_closed is_of facts n actor id me c ready.home (λ m. m ≡ (made.view, tail_of me.1)) Place s.views (r.each actor inside) made.present ready.has
      ready.of ready.carried may.home_of_actor may.extends may.count may.known_closed may.drained (ready.word ∙ closed_word status shut) (sym (may.fold ∙ closed_word
      (idle status) shut)) (may.rest (inl shut)) ready.share (sym (made.told actor ready.home ready.carried).0))
      s' (made.after ∙ ap (λ k. stepped s (word_at actor 7) k id me.1 made.view gives) one)

  -- ---- the waiting count

  pub counts_sent_keeps : st.word ≡ word_at actor 0 → st.first ≡ 1 → HasShare me.0 → IsStep (word_at actor 0) id me (λ k. (k + 1) % 2 ^ 64) keeps (CountsSent st me)
      s s' → Rule is_of facts n s'
  counts_sent_keeps word one share made =
      let found = Place.row Waiting in
      load_keeps is_of facts n s r actor inside Waiting ((found + 1) % 2 ^ 64) id me made.view
      (waiting_steps.sends is_of facts n actor id ((found + 1) % 2 ^ 64) st.first me (λ m. m ≡ (made.view, me.1)) Place s.views (r.each actor inside) made.present
      share (omega (arith, one)) (sym (made.told actor word))) s' made.after

  pub takes_count_back_keeps : st.word ≡ word_at actor 0 → st.first ≡ 1 → HasShare me.0 → IsStep (word_at actor 0) id me (λ k. (k + (2 ^ 64 - 1)) % 2 ^ 64) keeps
      (UncountsSent st me) s s' → Rule is_of facts n s'
  takes_count_back_keeps word one share made =
      let found = Place.row Waiting in
      load_keeps is_of facts n s r actor inside Waiting ((found + (2 ^ 64 - 1)) % 2 ^ 64) id me made.view
      (waiting_steps.unsends is_of facts n actor id ((found + (2 ^ 64 - 1)) % 2 ^ 64) st.first me (λ m. m ≡ (made.view, me.1)) Place s.views (r.each actor inside)
      made.present share (omega (arith, one)) (sym (made.told actor word))) s' made.after

  pub counts_taken_keeps : (c : Held) → st.word ≡ word_at actor 0 → st.first ≡ 1 → me.0.claim ≡ Some c → c.actor ≡ actor → IsStep (word_at actor 0) id me (λ k. (k + (2 ^
      64 - 1)) % 2 ^ 64) keeps (CountsTaken st me) s s' → Rule is_of facts n s'
  counts_taken_keeps c word one has of made =
      let found = Place.row Waiting in
      load_keeps is_of facts n s r actor inside Waiting ((found + (2 ^ 64 - 1)) % 2 ^ 64) id me made.view
      (waiting_steps.takes_some is_of facts n actor id ((found + (2 ^ 64 - 1)) % 2 ^ 64) st.first me c (λ m. m ≡ (made.view, me.1)) Place s.views (r.each actor inside)
      made.present has of (omega (arith, one)) (sym (made.told actor word))) s' made.after

  pub loads_count_keeps : st.word ≡ word_at actor 0 → IsStep (word_at actor 0) id me (λ k. k) keeps (ReadsWaiting st me) s s' → Rule is_of facts n s'
  loads_count_keeps word made = load_keeps is_of facts n s r actor inside Waiting (Place.row Waiting) id me made.view
      (waiting_steps.counts is_of facts n actor id me (λ m. m ≡ (made.view, me.1)) Place s.views (r.each actor inside) made.present (sym (made.told actor word).0))
      s' made.after

  -- ---- the gate of the list

  pub looks_keeps : st.word ≡ word_at actor 17 → IsStep (word_at actor 17) id me (λ k. k) keeps (ReadsGate st me) s s' → Rule is_of facts n s'
  looks_keeps word made =
      let f = r.each actor inside in
      load_keeps is_of facts n s r actor inside Gate (Place.row Gate) id me made.view
      (waiting_steps.looks is_of facts n actor id me (shows_work (Place.row Gate)) (λ m. m ≡ (made.view, me.1)) Place s.views (sym (shown_by is_of facts Place
      Place.ghost.lent_to f.list_place)) f made.present (sym (made.told actor word))) s' made.after

  pub takes_list_keeps : (list : MessageList) → st.word ≡ word_at actor 17 → st.second ≡ st.first + 1 → me.0.list ≡ None → may_lock_list actor me.0 ≡ true
      → Place.row Gate ≡ st.first → IsStep (word_at actor 17) id me (λ k. either (k == st.first) st.second k) (takes (slot_at actor 1) (Listing list)) (LocksList st me)
      s s' → Rule is_of facts n s'
  takes_list_keeps list word more bare may hit made =
      let f = r.each actor inside in
      let found = Place.row Gate in
      let locked = (made.told actor word).0 hit in
      let even : found % 2 ≡ 0 = ap (λ k. k % 2) locked.word ∙ list_steps.gate_even locked.listed locked.gave in
      let there = list_steps.is_shelved is_of facts n actor Place s.views f even in
      let lists : Place.ghost.listed ≡ list = listing_same {H = H} Place.ghost.listed list (some-injective _ _ (some-injective _ _ (sym there.1.present ∙ made.able))) in
      let carried : list ≡ locked.listed = listing_same {H = H} list locked.listed (ap (λ (z : ℕ × Slot H). z.1) (head_same _ _ me.1 me.1 (ap (λ (m : M). m.1)
      locked.now))) in
      let same = lists ∙ carried in
      let gave : Place.ghost.gave ≡ locked.gave = gate_mark false locked.listed Place.ghost.gave locked.gave (ap (λ (l : MessageList). gate_word false l
      Place.ghost.gave) (sym same) ∙ (sym there.1.word ∙ locked.word)) in
      take_keeps is_of facts n s r actor inside Gate (found + 1) id me made.view (slot_at actor 1, Listing list)
      (list_steps.grips is_of facts n actor id me found (λ m. m ≡ (made.view, (slot_at actor 1, Listing list) ∷ me.1)) Place s.views f made.present even refl bare may
      ((λ i. (lending actor (same i) (gave i) me.0, (slot_at actor 1, Listing (same i)) ∷ me.1)) ∙ sym locked.now)) s'
      (made.after ∙ ap (λ k. stepped s (word_at actor 17) k id me.1 made.view (takes (slot_at actor 1) (Listing list))) (won_word found st.first st.second hit ∙ (more ∙
      ap (λ k. k + 1) (sym hit))))

  pub misses_list_keeps : st.word ≡ word_at actor 17 → Place.row Gate ≢ st.first → IsStep (word_at actor 17) id me (λ k. either (k == st.first) st.second k) keeps
      (LocksList st me) s s' → Rule is_of facts n s'
  misses_list_keeps word miss made = load_keeps is_of facts n s r actor inside Gate (Place.row Gate) id me made.view
      (waiting_steps.glances is_of facts n actor id Gate me (λ m. m ≡ (made.view, me.1)) Place s.views (r.each actor inside) made.present (sym ((made.told actor
      word).1 miss))) s'
      (made.after ∙ ap (λ k. stepped s (word_at actor 17) k id me.1 made.view keeps) (lost_word (Place.row Gate) st.first st.second miss))

  pub refuses_keeps : (message : SysMsg) → st.word ≡ word_at actor 17 → st.said ≡ some (Note message) → st.second ≡ st.first → is_ended st.first ≡ true
      → IsStep (word_at actor 17) id me (λ k. either (k == st.first) st.second k) keeps (Refuses st me) s s' → Rule is_of facts n s'
  refuses_keeps message word said same shut made =
      let f = r.each actor inside in
      let found = Place.row Gate in
      let told = made.told actor message word said in
      let after = made.after ∙ ap (λ k. stepped s (word_at actor 17) k id me.1 made.view keeps) (kept_word found st.first st.second same) in
      dite (ℕ_discrete found st.first)
      (λ hit. load_keeps is_of facts n s r actor inside Gate found id me made.view
      (list_steps.refuses is_of facts n actor id me message (λ m. m ≡ (made.view, me.1)) Place s.views f made.present (ended_shown is_of facts Place f.list_place ∙ (ap
      is_ended hit ∙ shut)) (sym (told.0 hit).0)) s' after)
      (λ miss. load_keeps is_of facts n s r actor inside Gate found id me made.view
      (waiting_steps.glances is_of facts n actor id Gate me (λ m. m ≡ (made.view, me.1)) Place s.views f made.present (sym (told.1 miss))) s' after)

  pub enlists_keeps : (l : Lent) (message : SysMsg) → me.0.list ≡ Some l → l.actor ≡ actor → me.1 ≡ (slot_at actor 1, Listing (with_last l.listed message)) ∷ tail_of
      me.1 → NamesBelow n message → pushed l.listed + 1 < 2 ^ 64 → IsStep (word_at actor 17) id me (λ k. st.first) gives (λ k. Enlists st me st.first) s s'
      → Rule is_of facts n s'
  enlists_keeps l message has of carried names few made =
      let told = made.told actor l message has carried in
      give_keeps is_of facts n s r actor inside Gate st.first id me made.view (slot_at actor 1, Listing (with_last l.listed message)) (tail_of me.1) carried
      (list_steps.enlists is_of facts n actor id st.first me l message (λ m. m ≡ (made.view, tail_of me.1)) Place s.views (r.each actor inside) made.present has of
      carried told.1 names few (sym told.0)) s' made.after

  pub drains_keeps : (l : Lent) (c : Held) → me.0.list ≡ Some l → l.actor ≡ actor → me.0.claim ≡ Some c → c.actor ≡ actor → st.first ≡ gate_word false (drained
      l.listed) (is_some_item l.listed.messages) → IsStep (word_at actor 17) id me (λ k. st.first) gives (λ k. Drains st me st.first) s s' → Rule is_of facts n s'
  drains_keeps l c has of_list owns of gate made =
      let told = made.told l c has owns in
      let carried : me.1 ≡ (slot_at actor 1, Listing (drained l.listed)) ∷ tail_of me.1 = subst (λ b. me.1 ≡ (slot_at b 1, Listing (drained l.listed)) ∷ tail_of
      me.1) of_list told.3 in
      give_keeps is_of facts n s r actor inside Gate st.first id me made.view (slot_at actor 1, Listing (drained l.listed)) (tail_of me.1) carried
      (list_steps.unloads is_of facts n actor id st.first (Drained actor (listed l.listed)) me c l (drained l.listed) (is_some_item l.listed.messages) (λ m. m ≡
      (made.view, tail_of me.1)) Place s.views (r.each actor inside) made.present owns of has of_list carried gate refl (λ e. e) (λ e. inl e) (given_listed l.listed)
      (λ a. (refl, refl, λ q. refl)) (λ a z e w. (e (sym w)).1)
      (sym (told.0 ∙ ap (λ b. (draining b (listed l.listed) (is_some_item l.listed.messages) me.0, tail_of me.1)) of_list))) s' made.after

  pub ends_keeps : (l : Lent) (c : Held) → me.0.list ≡ Some l → l.actor ≡ actor → me.0.claim ≡ Some c → c.actor ≡ actor → c.word ≡ 1 → st.first ≡ gate_word false
      (ended l.listed) l.gave → IsStep (word_at actor 17) id me (λ k. st.first) gives (λ k. Ends st me st.first) s s' → Rule is_of facts n s'
  ends_keeps l c has of_list owns of shut gate made =
      let f = r.each actor inside in
      let told = made.told l c has owns in
      let gave : l.gave ≡ c.gave = (list_steps.is_lent is_of facts n actor id Place s.views me.0 l f made.present has of_list).1.gave ∙ sym (status_steps.is_held is_of
      facts n actor id Place s.views me.0 c f made.present owns of).1.gave in
      let carried : me.1 ≡ (slot_at actor 1, Listing (ended l.listed)) ∷ tail_of me.1 = subst (λ b. me.1 ≡ (slot_at b 1, Listing (ended l.listed)) ∷ tail_of me.1)
      of_list told.3 in
      give_keeps is_of facts n s r actor inside Gate st.first id me made.view (slot_at actor 1, Listing (ended l.listed)) (tail_of me.1) carried
      (list_steps.unloads is_of facts n actor id st.first (Ended actor (listed l.listed)) me c l (ended l.listed) l.gave (λ m. m ≡ (made.view, tail_of me.1)) Place
      s.views f made.present owns of has of_list carried gate refl (λ e. refl) (λ e. inr shut) (given_listed l.listed) (λ a. (refl, refl, λ q. refl))
      (λ a z e w. (ap (λ (m : MessageList). m.closed) (e (sym w)).0, (e (sym w)).1))
      (sym (told.0 ∙ (λ i. (ending (of_list i) (listed l.listed) (sym gave i) me.0, tail_of me.1))))) s' made.after

  pub finds_drained_keeps : (c : Held) → st.word ≡ word_at actor 17 → me.0.claim ≡ Some c → c.actor ≡ actor → me.0.list ≡ None → Place.row Gate % 8 ≡ 0 → IsStep
      (word_at actor 17) id me (λ k. k) keeps (ChecksDrained st me) s s' → Rule is_of facts n s'
  finds_drained_keeps c word owns of bare hit made =
      let f = r.each actor inside in
      let h = status_steps.is_held is_of facts n actor id Place s.views me.0 c f made.present owns of in
      let quiet = no_work_shown (Place.row Gate) hit in
      let gave : c.gave ≡ false = h.1.gave ∙ (neither (is_some_item Place.ghost.listed.messages) Place.ghost.gave (sym (shown_by is_of facts Place Place.ghost.lent_to
      f.list_place) ∙ quiet)).1 in
      let small : c.given < 2 ^ 64 = (let one = h.1.count in let two = f.listing.counted in omega arith) in
      load_keeps is_of facts n s r actor inside Gate (Place.row Gate) id me made.view
      (waiting_steps.sees is_of facts n actor id Gate (Drained actor []) me (λ m. m ≡ (made.view, me.1)) Place s.views
      (λ a y e. record { before = []; after = all_numbered y.ghost; joined = refl }) (λ a. (refl, refl, λ q. refl)) f made.present
      (ap (λ v. (v, me.1)) (drained_nothing actor c me.0 owns bare gave small) ∙ sym ((made.told actor c word owns of bare).0 hit))) s' made.after

  pub finds_undrained_keeps : (c : Held) → st.word ≡ word_at actor 17 → me.0.claim ≡ Some c → c.actor ≡ actor → me.0.list ≡ None → Place.row Gate % 8 ≢ 0 → IsStep
      (word_at actor 17) id me (λ k. k) keeps (ChecksDrained st me) s s' → Rule is_of facts n s'
  finds_undrained_keeps c word owns of bare miss made = load_keeps is_of facts n s r actor inside Gate (Place.row Gate) id me made.view
      (waiting_steps.sees is_of facts n actor id Gate (Looked actor true) me (λ m. m ≡ (made.view, me.1)) Place s.views (λ a y. tt) (λ a. (refl, refl, λ q. refl))
      (r.each actor inside) made.present (sym ((made.told actor c word owns of bare).1 miss))) s' made.after

module _ {H : Type 0} (all_of : H → ℕ → H → Type 0) (first : H) (facts : H → HomeFacts) (n : ℕ) (s s' : State (Slot H) View) (r : Rule (all_of first) facts n s) (actor
    id : ℕ) (me : Me (Slot H) View) (st : Step (Slot H)) (inside : actor < n) where
  abbrev Spot_here : Spot Word SlotName (Slot H) Ghost
  Spot_here = spot_of word_offset slot_offset s r.ghosts actor

  pub misses_status_keeps : (note : Snapshot (Snapshot H)) → st.word ≡ word_at actor 16 → st.said ≡ some (First note) → Spot_here.row Status ≢ st.first → IsStep
      (word_at actor 16) id me (λ k. either (k == st.first) st.second k) keeps (Schedules all_of facts st me) s s' → Rule (all_of first) facts n s'
  misses_status_keeps note word said miss made = load_keeps (all_of first) facts n s r actor inside Status (Spot_here.row Status) id me made.view
      (status_steps.reads (all_of first) facts n actor id me (λ m. m ≡ (made.view, me.1)) Spot_here s.views (r.each actor inside) made.present (sym ((made.told actor
      note word said).1 miss).0)) s'
      (made.after ∙ ap (λ k. stepped s (word_at actor 16) k id me.1 made.view keeps) (lost_word (Spot_here.row Status) st.first st.second miss))

  pub schedules_keeps : (note : Snapshot (Snapshot H)) (home : H) → st.word ≡ word_at actor 16 → st.said ≡ some (First note) → st.first % 4 ≡ 0 → st.second ≡
      st.first + 2 → me.0.claim ≡ None → HasShare me.0 → Spot_here.row Status ≡ st.first → (made : IsStep (word_at actor 16) id me (λ k. either (k == st.first) st.second
      k) (takes (slot_at actor 0) (Home home)) (Schedules all_of facts st me) s s') → KnowsLastDrain (Spot_here.row Gate) made.view → Rule (all_of first) facts n s'
  schedules_keeps note home word said free more bare share hit made known =
      let f = r.each actor inside in
      let x = Spot_here in
      let found = x.row Status in
      let won = (made.told actor note word said).0 hit in
      let here : found % 4 ≡ 0 = ap (λ k. k % 4) hit ∙ free in
      let h = status_steps.is_home (all_of first) facts n actor x s.views f here in
      let lies : h.1.home ≡ home = home_same h.1.home home (some-injective _ _ (some-injective _ _ (sym h.1.present ∙ made.able))) in
      let took : home ≡ won.home = home_same home won.home (ap (λ (z : ℕ × Slot H). z.1) (head_same _ _ me.1 me.1 (ap (λ (m : Me (Slot H) View). m.1) won.now))) in
      let same = lies ∙ took in
      let gave : x.ghost.gave ≡ won.gave = gave_shown (all_of first) facts x f.list_place ∙ sym (known _ (ap (λ (m : Me (Slot H) View). m.0.claim) won.now)) in
      take_keeps (all_of first) facts n s r actor inside Status (found + 2) id me made.view (slot_at actor 0, Home home)
      (status_steps.schedules (all_of first) facts n actor id me found (λ m. m ≡ (made.view, (slot_at actor 0, Home home) ∷ me.1)) x s.views f made.present here refl bare
      share
      ((λ i. (
        taking actor ((sym h.1.fold ∙ ap (λ z. (facts z).journal) same) i) ((sym h.1.known_closed ∙ ap (λ z. (facts z).closed_to) same) i) found (gave i) ((sym h.1.count
            ∙ ap (λ z. (facts z).given) same) i) ((sym h.1.drained ∙ ap (λ z. (facts z).drained) same) i) me.0,
        (slot_at actor 0, Home (same i)) ∷ me.1,
      )) ∙ sym won.now)) s'
      (made.after ∙ ap (λ k. stepped s (word_at actor 16) k id me.1 made.view (takes (slot_at actor 0) (Home home))) (won_word found st.first st.second hit ∙ (more ∙ ap
      (λ k. k + 2) (sym hit))))

-- ---- views are cut in two, or one takes in another

module _ {H : Type 0} (is_of : ℕ → H → Type 0) (facts : H → HomeFacts) (n : ℕ) (s s' : State (Slot H) View) (r : Rule is_of facts n s) where
  pub copies_keeps : (id : ℕ) (v : View) → HasShare v → v.list ≡ None → v.claim ≡ None → IsCut id v (halving v) (copied v) s s' → Rule is_of facts n s'
  copies_keeps id v share no_list bare made = subst (Rule is_of facts n) (sym made.after) (copies_allowed is_of facts n id v bare no_list share s r made.present)

  pub splits_pass_keeps : (id : ℕ) (v : View) → HasShare v → v.list ≡ None → v.claim ≡ None → IsCut id v (split_off v) (halving v) s s' → Rule is_of facts n s'
  splits_pass_keeps id v share no_list bare made = subst (Rule is_of facts n) (sym made.after) (parts_allowed is_of facts n id v bare no_list share s r made.present)

  pub splits_claim_keeps : (id : ℕ) (v : View) → HasShare v → v.list ≡ None → IsCut id v (claim_alone v) (without_claim v) s s' → Rule is_of facts n s'
  splits_claim_keeps id v share no_list made = subst (Rule is_of facts n) (sym made.after) (claims_allowed is_of facts n id v no_list share s r made.present)

  pub joins_keeps : (id other : ℕ) (v w : View) → HasShare w → w.claim ≡ None → w.list ≡ None → IsMerge id other v w (taking_over v w) s s' ⊎ IsMerge id other v w
      (taking_in v w) s s' → Rule is_of facts n s'
  joins_keeps id other v w share bare no_list made = ⊎_elim
      (λ m. subst (Rule is_of facts n) (sym m.after) (joins_allowed is_of facts n id v other w bare no_list share s r m.present m.two (set_else s.views id other
      (taking_over v w) m.two ∙ m.there)))
      (λ m. subst (Rule is_of facts n) (sym m.after) (takes_in_allowed is_of facts n id v other w bare no_list share s r m.present m.two (set_else s.views id other
      (taking_in v w) m.two ∙ m.there))) made

  pub moves_pass_keeps : (id : ℕ) (v : View) → v.list ≡ None → IsCut id v (moved_out v) (moved_in v) s s' → Rule is_of facts n s'
  moves_pass_keeps id v no_list made = subst (Rule is_of facts n) (sym made.after) (moves_allowed is_of facts n id v no_list s r made.present)

  pub joins_passes_keeps : (id other : ℕ) (v w : View) → HasShare w → w.claim ≡ None → w.list ≡ None → IsMerge id other v w (together v w) s s' → Rule is_of facts n s'
  joins_passes_keeps id other v w share bare no_list made = subst (Rule is_of facts n) (sym made.after) (together_allowed is_of facts n id v other w bare no_list share s
      r made.present made.two (set_else s.views id other (together v w) made.two ∙ made.there))

  pub parts_passes_keeps : (id : ℕ) (v w : View) → HasShare v → HasShare w → w.claim ≡ None → w.list ≡ None → IsCut id (together v w) v w s s' → Rule is_of facts n s'
  parts_passes_keeps id v w mine theirs bare no_list made = subst (Rule is_of facts n) (sym made.after) (again_allowed is_of facts n id (together v w) v w refl bare
      no_list mine theirs s r made.present)

  pub comes_back_keeps : (id other : ℕ) (v w : View) → v ≡ blank → w.claim ≡ None → w.list ≡ None → IsMerge id other v w (came_back v w) s s' → Rule is_of facts n s'
  comes_back_keeps id other v w is bare no_list made = subst (Rule is_of facts n) (sym made.after) (comes_back_allowed is_of facts n id v other w is bare no_list s r
      made.present made.two (set_else s.views id other (came_back v w) made.two ∙ made.there))
