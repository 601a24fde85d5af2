-- The steps on an actor's status word keep the rule.
use Rattle.std.proofs.Common.{
  ◌≡◌,
  ◌≢◌,
  ℕ,
  ◌+◌,
  ◌%◌,
  if◌then◌else◌,
  ◌⊎◌,
  inl,
  inr,
  ⊎_elim,
  true,
  false,
  ◌||◌,
  IsTrue,
  List,
  [],
  ◌∷◌,
  set,
  sym,
  refl,
  ap,
  ◌∙◌,
  subst,
  Option,
  Some,
  None,
  eq-eqb,
  ne_eqb,
  arith,
}
use mathlib.Core.Option.{none, some}
use lib.ListN.{get_elem?}
use Rattle.mb_status.specs.Mailbox.{mailbox_of, word_of, is_valid}
use Rattle.mb_msg.specs.declared.system.SysMsg.{SysMsg}
use Rattle.mb_journal.specs.Entry.{Entry}
use Rattle.mb_core.specs.declared.wake_obligation.WakeObligation.{WakeObligation}
use Rattle.mb_core.specs.Run.{after_reading}
use Rattle.atomic_table.specs.Table.{Me}
use Rattle.atomic_table.specs.Table.{rest as tail_of}
use Rattle.mb_ghost.specs.Locked.{Locked}
use Rattle.mb_ghost.specs.Layout.{Spot, slot_at, write, fill}
use Rattle.mb_ghost.specs.Ruled.{RuledStep, stays, takes_from, gives_to}
use Rattle.mb_ghost.proofs.LockedLemmas.{stays_locked, takes_up, changes_ticket, puts_back, is_holder}
use Rattle.mb_ghost.specs.Owed.{Owed}
use Rattle.mb_ghost.specs.Seen.{Each}
use Rattle.mb_ghost.proofs.OwedLemmas.{pays, still_owed}
use Rattle.mb_ghost.proofs.SeenLemmas.{learns, each_weaker}
use Rattle.mb_gate.specs.HomeFacts.{HomeFacts}
use Rattle.mb_gate.specs.declared.slot.Slot.{Slot}
use Rattle.mb_gate.specs.declared.slot.Slot.TheVariants.{Home}
use Rattle.mb_gate.specs.View.{View, Read, Saw, rewritten, Held, obligation_to, reading, taking, writing, taken_journal, idling}
use Rattle.mb_gate.specs.Rule.{
  Word,
  Waiting,
  Status,
  Flag,
  word_offset,
  SlotName,
  CellSlot,
  slot_offset,
  Ghost,
  held_of,
  claim_for,
  list_for,
  Extends,
  Knows,
  IsAmong,
  WasPushed,
  HasSeenClosed,
  MessageDue,
  SystemDue,
  HasMessageObligation,
  HasSystemObligation,
  is_some_item,
  IsHome,
  IsHeld,
  CellPlace,
  Fact,
}
use Rattle.mb_ghost.proofs.SharesLemmas.{shares_stay}
use Rattle.mb_gate.specs.Waiting.{on_by, off_by}
use Rattle.mb_gate.specs.PutIn.{put_by}
use Rattle.mb_gate.specs.ClaimCounts.{claims_out}
use Rattle.mb_gate.proofs.Views.{
  counts_no_more,
  times_here,
  held_here,
  owes_here,
  extends_self,
  reading_elsewhere,
  taking_elsewhere,
  writing_elsewhere,
  idling_elsewhere,
  grown,
  goes_on,
}
use Rattle.mb_gate.specs.Claims.{IsKnownClosed}
use Rattle.mb_gate.proofs.Numbers.{among_more, each_among}
use Rattle.mb_gate.proofs.Facts.{
  still_shelved,
  same_balance,
  still_claims,
  still_held,
  still_put,
  still_released,
  releases_more,
  now_held,
  claims_more,
  claims_less,
  claimed_bare,
  sharer_bare,
  views_change,
  elsewhere,
  load_here,
}
use Rattle.mb_gate.proofs.Words.{scheduled_valid, reading_pays_message, reading_pays_system}

none_more : (m : ℕ) → 0 + m ≡ m
none_more m = omega arith

module _ {H : Type 0} (is_of : ℕ → H → Type 0) (facts : H → HomeFacts) (actors : ℕ) where
  abbrev F : ℕ → Spot Word SlotName (Slot H) Ghost → List View → Type 0
  F = Fact is_of facts actors

  abbrev M : Type 0
  M = Me (Slot H) View

  abbrev Place : Type 0
  Place = Spot Word SlotName (Slot H) Ghost

  -- a seat reads the word
  pub reads : (actor id : ℕ) (me : M) (tell : M → Type 0) (x : Place) (vs : List View) → F actor x vs → get_elem? vs id ≡ some me.0 → tell
      (reading actor (x.row Status) me.0, me.1)
      → RuledStep word_offset slot_offset F actor id me Status (x.row Status) tell x vs
  reads actor id me tell x vs f at told = let v = me.0 in let r = x.row Status in record {
    view = reading actor r v;
    slot_step = stays;
    kept = x.ghost;
    is_able = tt;
    holds = load_here is_of facts actors actor x (set vs id (reading actor r v)) Status
        (views_change is_of facts actors actor x vs id v (reading actor r v) at refl refl
        (counts_no_more actor (Read actor r) v (reading actor r v) refl (refl, refl, λ q. refl) refl refl refl (λ q. (refl, refl)))
        (λ due owed. subst (λ (d : WakeObligation). IsTrue (d.message || d.sending)) (sym (owes_here actor (after_reading (mailbox_of r) (obligation_to actor v))
        v)) (reading_pays_message r (obligation_to actor v) due.0 owed))
        (λ due owed. subst (λ (d : WakeObligation). IsTrue d.system) (sym (owes_here actor (after_reading (mailbox_of r) (obligation_to actor v)) v))
        (reading_pays_system r (obligation_to actor v) due.0 owed))
        (λ k. record { seen = ((λ _ one. one), k.seen); sent_system = k.sent_system }) (λ b. among_more (Read b 1) (Read actor r) v.log) f);
    others = λ a n y g. elsewhere is_of facts actors a y vs id v (reading actor r v) at
        (reading_elsewhere actor a r v n) g;
    tells = told;
  }

  nobody : (actor : ℕ) (x : Place) (holder : Option (ℕ × Held)) → x.row Status % 4 ≡ 0 → CellPlace is_of facts
      actor x holder →
      holder ≡ None
  nobody actor x None free k = refl
  nobody actor x (Some h) free k = absurd (⊎_elim (λ b. omega arith) (λ b. omega arith) k.busy)

  -- nobody holds an actor whose word is neither closed nor scheduled, and its cell is at home
  pub is_home : (actor : ℕ) (x : Place) (vs : List View) → F actor x vs → x.row Status % 4 ≡ 0 → (x.ghost.holder ≡ None) × IsHome is_of facts actor x
  is_home actor x vs f free = let none = nobody actor x x.ghost.holder free f.cell in (
    none,
    subst (CellPlace is_of facts actor x)
        none f.cell,
  )

  -- who has the claim holds the actor
  pub is_held : (actor id : ℕ) (x : Place) (vs : List View) (v : View) (c : Held) → F actor x vs → get_elem? vs id ≡ some v → v.claim ≡ Some c →
      c.actor ≡ actor
      → (x.ghost.holder ≡ Some (id, c)) × IsHeld is_of facts actor x c
  is_held actor id x vs v c f at has of =
      let held = is_holder (claim_for actor) x.ghost.holder vs id v c at (ap (held_of actor) has ∙ held_here actor c of) f.claims in
      (held, subst (CellPlace is_of facts actor x) held f.cell)

  -- a seat schedules the actor, and takes its cell
  pub schedules : (actor id : ℕ) (me : M) (old : ℕ) (tell : M → Type 0) (x : Place) (vs : List View) (f : F actor x vs) → get_elem? vs id ≡ some
      me.0 → (free : x.row Status % 4 ≡ 0) → x.row Status ≡ old → me.0.claim ≡ None → is_some_item me.0.share ≡ true
      → (let h = (is_home actor x vs f free).1 in tell (
        taking actor x.ghost.journal x.ghost.closed_to old x.ghost.gave x.ghost.listed.given x.ghost.drained me.0,
        (slot_at actor 0, Home h.home) ∷ me.1,
      ))
      → RuledStep word_offset slot_offset F actor id me Status (old + 2) tell x vs
  schedules actor id me old tell x vs f at free is bare share told =
      let v = me.0 in
      let h = is_home actor x vs f free in
      let c : Held = record {
        actor = actor;
        journal = x.ghost.journal;
        closed_to = x.ghost.closed_to;
        word = old + 2;
        gave = x.ghost.gave;
        given =
            x.ghost.listed.given;
        drained = x.ghost.drained;
      } in
      let w = taking actor x.ghost.journal x.ghost.closed_to old x.ghost.gave x.ghost.listed.given x.ghost.drained v in
      let y : Place = record {
        row = write word_offset x.row Status (old + 2);
        slot = fill slot_offset x.slot CellSlot none;
        ghost = record
            x.ghost { holder = Some (id, c) };
      } in
      let grows = grown x y (λ e. e) (λ one. absurd (omega arith)) (extends_self x.ghost.journal) refl in record {
        view = w;
        slot_step = takes_from CellSlot (Home h.1.home);
        kept = record x.ghost { holder = Some (id, c) };
        is_able = h.1.present;
        holds = record {
          valid = subst (λ n. IsTrue (is_valid (n + 2))) is (scheduled_valid (x.row Status) free f.valid);
          claims = takes_up (claim_for actor) vs id v w c at (held_here actor c refl) (subst (λ o. Locked (claim_for actor) o vs) h.0 f.claims);
          cell = record {
            of_actor = refl;
            taken = refl;
            known_closed = refl;
            drained = refl;
            count = refl;
            gave = refl;
            word = refl;
            busy = inl (omega arith);
            flag = h.1.flag ∙ ap (λ b. if b then 1
                else 0) (ne_eqb (x.row Status) 1 (λ e. omega arith));
            out = refl;
          };
          lists = stays_locked (list_for actor) x.ghost.lent_to vs id v w at refl f.lists;
          list_place = still_shelved is_of facts actors actor x y refl refl refl refl x.ghost.lent_to f.list_place;
          ended = λ e. absurd (let one = f.ended e in omega arith);
          listing = f.listing;
          named = f.named;
          put = still_put actor x.ghost.pushed vs id v w at (λ q. refl) f.put;
          releases = still_released actor x.ghost.journal vs id v w at (λ q. (refl, refl)) f.releases;
          was_pushed = f.was_pushed;
          balance = same_balance actor (x.row Waiting) vs id v w at refl refl f.balance;
          claims_balance = claims_more actor x.ghost.holder (id, c) vs id v w at (times_here actor v.got) refl (ap claims_out h.0) f.claims_balance;
          held = λ one. absurd (let z : old + 2 ≡ 1 = one in omega arith);
          shares = shares_stay (λ (u : View). u.share) vs id v w at refl f.shares;
          bare = sharer_bare actor vs id w share f.bare;
          was_seen_closed = λ b. still_owed (HasSeenClosed b) (IsAmong b x.ghost.closed_to) (IsAmong b x.ghost.closed_to) vs id v w at (λ d. d) (λ _ p. p)
              (f.was_seen_closed b);
          message = λ due. absurd (let z = due.0 in omega arith);
          system = λ due. absurd (let z = due.0 in omega arith);
          seen = let k = goes_on actor x y v grows (f.seen id v at) in
              learns (Knows actor x) (Knows actor y) vs id w (λ u. goes_on actor x y u grows) (record { seen = k.seen; sent_system = k.sent_system }) f.seen;
        };
        others = λ a n z g. elsewhere is_of facts actors a z vs id v w at
            (taking_elsewhere actor a old x.ghost.listed.given x.ghost.journal
            x.ghost.closed_to x.ghost.gave x.ghost.drained v n bare) g;
        tells = told;
      }

  -- the holder writes a word that is scheduled or closed, and closed if it was
  pub writes : (actor id : ℕ) (me : M) (c : Held) (new : ℕ) (tell : M → Type 0) (x : Place) (vs : List View) → F actor x vs → get_elem? vs id ≡
      some me.0 → me.0.claim ≡ Some c → c.actor ≡ actor
      → IsTrue (is_valid new) → (new % 4 ≡ 2) ⊎ (new ≡ 1) → (c.word ≡ 1 → new ≡ 1) → tell (writing new me.0, me.1) → RuledStep word_offset slot_offset
      F actor id me Status new tell x vs
  writes actor id me c new tell x vs f at has of valid busy closed told =
      let v = me.0 in
      let h = is_held actor id x vs v c f at has of in
      let d : Held = record c { word = new } in
      let w = writing new v in
      let y : Place = record { row = write word_offset x.row Status new; slot = x.slot; ghost = record x.ghost { holder = Some (id, d) } } in
      let shut : x.row Status ≡ 1 → new ≡ 1 = (λ one. closed (sym h.1.word ∙ one)) in
      let grows = grown x y (λ e. e) shut (extends_self x.ghost.journal) refl in record {
        view = w;
        slot_step = stays;
        kept = record x.ghost { holder = Some (id, d) };
        is_able = tt;
        holds = record {
          valid = valid;
          claims = changes_ticket (claim_for actor) vs id v w c d at (ap (λ z. held_of actor (rewritten new z)) has ∙ held_here actor d of)
              (subst (λ o. Locked (claim_for actor) o vs) h.0 f.claims);
          cell = record {
            of_actor = of;
            taken = h.1.taken;
            known_closed = h.1.known_closed;
            drained = h.1.drained;
            count = h.1.count;
            gave = h.1.gave;
            word = refl;
            busy = busy;
            flag =
                h.1.flag;
            out = h.1.out;
          };
          lists = stays_locked (list_for actor) x.ghost.lent_to vs id v w at refl f.lists;
          list_place = still_shelved is_of facts actors actor x y refl refl refl refl x.ghost.lent_to f.list_place;
          ended = λ e. shut (f.ended e);
          listing = f.listing;
          named = f.named;
          put = still_put actor x.ghost.pushed vs id v w at (λ q. refl) f.put;
          releases = still_released actor x.ghost.journal vs id v w at (λ q. (refl, refl)) f.releases;
          was_pushed = f.was_pushed;
          balance = same_balance actor (x.row Waiting) vs id v w at refl refl f.balance;
          claims_balance = still_claims actor x.ghost.holder (Some (id, d)) vs id v w at refl refl (sym (ap claims_out h.0)) f.claims_balance;
          held = now_held actor new x.ghost.holder vs id v w at refl (ap claims_out h.0) f.claims_balance;
          shares = shares_stay (λ (u : View). u.share) vs id v w at refl f.shares;
          bare = claimed_bare actor vs id v w d at (ap (λ z. held_of actor (rewritten new z)) has ∙ held_here actor d of) refl refl refl (λ q. (refl, refl)) refl f.bare;
          was_seen_closed = λ b. still_owed (HasSeenClosed b) (IsAmong b x.ghost.closed_to) (IsAmong b x.ghost.closed_to) vs id v w at (λ d. d) (λ _ p. p)
              (f.was_seen_closed b);
          message = λ due. absurd (let z : new ≡ 0 = due.0 in ⊎_elim (λ b. omega arith) (λ b. omega arith) busy);
          system = λ due. absurd (let z : new % 4 ≡ 0 = due.0 in ⊎_elim (λ b. omega arith) (λ b. omega arith) busy);
          seen = let k = goes_on actor x y v grows (f.seen id v at) in
              learns (Knows actor x) (Knows actor y) vs id w (λ u. goes_on actor x y u grows) (record {
                seen = k.seen;
                sent_system = k.sent_system;
              }) f.seen;
        };
        others = λ a n z g. elsewhere is_of facts actors a z vs id v w at
            (writing_elsewhere actor a new c v n has of) g;
        tells = told;
      }

  -- some seat has seen closed each actor that the home says is closed: the one that gives the home back, or one that had seen it before
  vouches_home : (actor : ℕ) (j : List Entry) (v : View) (c : Held) (before after : List ℕ) (vs : List View) (id : ℕ) → get_elem? vs id ≡ some v
      → c.closed_to ≡ before → Each (λ b. IsKnownClosed b c.closed_to v) after → ((b : ℕ) → Owed (IsAmong b before) (HasSeenClosed b) vs)
      → (b : ℕ) → Owed (IsAmong b after) (HasSeenClosed b) (set vs id (idling actor j v))
  vouches_home actor j v c before after vs id at same known was_seen_closed b is =
      ⊎_elim (λ was. still_owed (HasSeenClosed b) (IsAmong b before) (IsAmong b before) vs id v (idling actor j v) at (λ d. d)
      (λ _. among_more (Read b 1) (Saw actor j) v.log) (was_seen_closed b) (subst (IsAmong b) same was))
      (λ sees. pays (HasSeenClosed b) (IsAmong b after) vs id v (idling actor j v) at (among_more (Read b 1) (Saw actor j) v.log sees) is)
      (each_among (λ a. IsKnownClosed a c.closed_to v) b after known is)

  -- what the home says its list gave was put into the list
  pushed_home : (x : Place) (c : Held) (after : List (ℕ × SysMsg)) → c.drained ≡ x.ghost.drained → Each (λ m. IsAmong m c.drained) after
      → Each (WasPushed x.ghost) x.ghost.drained → Each (WasPushed x.ghost) after
  pushed_home x c after same gave all = each_weaker (λ m. IsAmong m c.drained) (WasPushed x.ghost) after
      (λ m is. each_among (WasPushed x.ghost) m x.ghost.drained all (subst (IsAmong m) same is)) gave

  -- the holder gives the cell of an open actor home
  pub idles : (actor id : ℕ) (me : M) (c : Held) (home : H) (new : ℕ) (tell : M → Type 0) (x : Place) (vs : List View) → F actor x vs → get_elem?
      vs id ≡ some me.0 → me.0.claim ≡ Some c → c.actor ≡ actor
      → me.1 ≡ (slot_at actor 0, Home home) ∷ [] → is_of actor home → Extends (facts home).journal c.journal → (facts home).given ≡ c.given
      → Each (λ b. IsKnownClosed b c.closed_to me.0) (facts home).closed_to → Each (λ m. IsAmong m c.drained) (facts home).drained → c.word ≢ 1 → IsTrue (is_valid new) → new
      % 4 ≡ 0 → new ≡ word_of (facts home).mailbox → (c.gave ≡ false → (facts home).no_backlog) → is_some_item me.0.share ≡ true
      → tell (idling actor (facts home).journal me.0, []) → RuledStep word_offset slot_offset F actor id me Status new tell x vs
  idles actor id me c home new tell x vs f at has of carried of_actor longer count known gave unshut valid free word rest share told =
      let v = me.0 in
      let h = is_held actor id x vs v c f at has of in
      let j = (facts home).journal in
      let w = idling actor j v in
      let g : Ghost = record x.ghost { holder = None; journal = j; closed_to = (facts home).closed_to; drained = (facts home).drained } in
      let y : Place = record { row = write word_offset x.row Status new; slot = fill slot_offset x.slot CellSlot (some (Home home)); ghost = g } in
      let farther : Extends j x.ghost.journal = subst (λ z. Extends j z) h.1.taken longer in
      let shut : x.row Status ≡ 1 → new ≡ 1 = (λ one. absurd (unshut (sym h.1.word ∙ one))) in
      let grows = grown x y (λ e. e) shut farther refl in
      let obligation : WakeObligation = record (obligation_to actor v) { system = true; message = true } in record {
        view = w;
        slot_step = gives_to CellSlot (Home home);
        kept = g;
        is_able = ([], carried);
        holds = record {
          valid = valid;
          claims = puts_back (claim_for actor) vs id v w c at refl (subst (λ o. Locked (claim_for actor) o vs) h.0 f.claims);
          cell = record {
            home = home;
            present = refl;
            of_actor = of_actor;
            fold = refl;
            count = count ∙ h.1.count;
            known_closed = refl;
            drained = refl;
            word = word;
            idle = inl free;
            flag = h.1.flag ∙ sym (ap (λ b. if b then 1 else 0) (ne_eqb new 1 (λ e. omega arith)));
            rest = ⊎_elim (λ one. absurd (omega arith)) (λ none. rest (h.1.gave ∙ none));
          };
          lists = stays_locked (list_for actor) x.ghost.lent_to vs id v w at refl f.lists;
          list_place = still_shelved is_of facts actors actor x y refl refl refl refl x.ghost.lent_to f.list_place;
          ended = λ e. shut (f.ended e);
          listing = f.listing;
          named = f.named;
          put = still_put actor x.ghost.pushed vs id v w at (λ q. none_more (put_by actor q v)) f.put;
          releases = releases_more actor x.ghost.journal j vs id v w at (ap (λ z. record { actor = actor; taken = z; back = j } ∷ v.releases)
              (ap taken_journal has ∙ h.1.taken)) f.releases;
          was_pushed = pushed_home x c (facts home).drained h.1.drained gave f.was_pushed;
          balance = same_balance actor (x.row Waiting) vs id v w at (none_more (on_by actor v)) (none_more (off_by actor v)) f.balance;
          claims_balance = claims_less actor x.ghost.holder vs id v w at refl (times_here actor v.returned) (ap claims_out h.0) f.claims_balance;
          held = λ one. absurd (let z : new ≡ 1 = one in omega arith);
          shares = shares_stay (λ (u : View). u.share) vs id v w at refl f.shares;
          bare = sharer_bare actor vs id w share f.bare;
          was_seen_closed = vouches_home actor j v c x.ghost.closed_to (facts home).closed_to vs id at h.1.known_closed known f.was_seen_closed;
          message = pays (HasMessageObligation actor) (MessageDue y) vs id v w at (subst (λ (d : WakeObligation). IsTrue (d.message || d.sending)) (sym (owes_here
              actor obligation v)) refl);
          system = pays (HasSystemObligation actor) (SystemDue y) vs id v w at (subst (λ (d : WakeObligation). IsTrue d.system) (sym (owes_here actor obligation v)) refl);
          seen = let k = goes_on actor x y v grows (f.seen id v at) in
              learns (Knows actor x) (Knows actor y) vs id w (λ u. goes_on actor x y u grows) (record {
                seen = (
                  (λ _.
                      extends_self j),
                  k.seen,
                );
                sent_system = k.sent_system;
              }) f.seen;
        };
        others = λ a n z k. elsewhere is_of facts actors a z vs id v w at
            (idling_elsewhere actor a j c v n has of) k;
        tells = subst (λ l. tell (w, tail_of l)) (sym carried) told;
      }

  -- the holder gives the cell of a closed actor home, by its flag
  pub idles_closed : (actor id : ℕ) (me : M) (c : Held) (home : H) (tell : M → Type 0) (x : Place) (vs : List View) → F actor x vs → get_elem? vs
      id ≡ some me.0 → me.0.claim ≡ Some c → c.actor ≡ actor
      → me.1 ≡ (slot_at actor 0, Home home) ∷ [] → is_of actor home → Extends (facts home).journal c.journal → (facts home).given ≡ c.given
      → Each (λ b. IsKnownClosed b c.closed_to me.0) (facts home).closed_to → Each (λ m. IsAmong m c.drained) (facts home).drained → c.word ≡ 1 → 1 ≡ word_of (facts home).mailbox
      → (facts home).no_backlog → is_some_item me.0.share ≡ true
      → tell (idling actor (facts home).journal me.0, []) → RuledStep word_offset slot_offset F actor id me Flag 1 tell x vs
  idles_closed actor id me c home tell x vs f at has of carried of_actor longer count known gave closed word rest share told =
      let v = me.0 in
      let h = is_held actor id x vs v c f at has of in
      let j = (facts home).journal in
      let w = idling actor j v in
      let g : Ghost = record x.ghost { holder = None; journal = j; closed_to = (facts home).closed_to; drained = (facts home).drained } in
      let y : Place = record { row = write word_offset x.row Flag 1; slot = fill slot_offset x.slot CellSlot (some (Home home)); ghost = g } in
      let farther : Extends j x.ghost.journal = subst (λ z. Extends j z) h.1.taken longer in
      let shut : x.row Status ≡ 1 = h.1.word ∙ closed in
      let grows = grown x y (λ e. e) (λ one. one) farther refl in
      let obligation : WakeObligation = record (obligation_to actor v) { system = true; message = true } in record {
        view = w;
        slot_step = gives_to CellSlot (Home home);
        kept = g;
        is_able = ([], carried);
        holds = record {
          valid = f.valid;
          claims = puts_back (claim_for actor) vs id v w c at refl (subst (λ o. Locked (claim_for actor) o vs) h.0 f.claims);
          cell = record {
            home = home;
            present = refl;
            of_actor = of_actor;
            fold = refl;
            count = count ∙ h.1.count;
            known_closed = refl;
            drained = refl;
            word = shut ∙ word;
            idle = inr shut;
            flag = sym (ap (λ b. if b then 1 else 0) (eq-eqb (x.row Status) 1 shut));
            rest = λ _. rest;
          };
          lists = stays_locked (list_for actor) x.ghost.lent_to vs id v w at refl f.lists;
          list_place = still_shelved is_of facts actors actor x y refl refl refl refl x.ghost.lent_to f.list_place;
          ended = f.ended;
          listing = f.listing;
          named = f.named;
          put = still_put actor x.ghost.pushed vs id v w at (λ q. none_more (put_by actor q v)) f.put;
          releases = releases_more actor x.ghost.journal j vs id v w at (ap (λ z. record { actor = actor; taken = z; back = j } ∷ v.releases)
              (ap taken_journal has ∙ h.1.taken)) f.releases;
          was_pushed = pushed_home x c (facts home).drained h.1.drained gave f.was_pushed;
          balance = same_balance actor (x.row Waiting) vs id v w at (none_more (on_by actor v)) (none_more (off_by actor v)) f.balance;
          claims_balance = claims_less actor x.ghost.holder vs id v w at refl (times_here actor v.returned) (ap claims_out h.0) f.claims_balance;
          held = still_held actor (x.row Status) (x.row Status) vs id v w at refl (λ one. one) f.held;
          shares = shares_stay (λ (u : View). u.share) vs id v w at refl f.shares;
          bare = sharer_bare actor vs id w share f.bare;
          was_seen_closed = vouches_home actor j v c x.ghost.closed_to (facts home).closed_to vs id at h.1.known_closed known f.was_seen_closed;
          message = pays (HasMessageObligation actor) (MessageDue y) vs id v w at (subst (λ (d : WakeObligation). IsTrue (d.message || d.sending)) (sym (owes_here
              actor obligation v)) refl);
          system = pays (HasSystemObligation actor) (SystemDue y) vs id v w at (subst (λ (d : WakeObligation). IsTrue d.system) (sym (owes_here actor obligation v)) refl);
          seen = let k = goes_on actor x y v grows (f.seen id v at) in
              learns (Knows actor x) (Knows actor y) vs id w (λ u. goes_on actor x y u grows) (record {
                seen = (
                  (λ _.
                      extends_self j),
                  k.seen,
                );
                sent_system = k.sent_system;
              }) f.seen;
        };
        others = λ a n z k. elsewhere is_of facts actors a z vs id v w at
            (idling_elsewhere actor a j c v n has of) k;
        tells = subst (λ l. tell (w, tail_of l)) (sym carried) told;
      }
