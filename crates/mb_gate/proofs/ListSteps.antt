-- The steps on the gate of an actor's list keep the rule.
use Rattle.std.proofs.Common.{
  ◌≡◌,
  ℕ,
  ◌+◌,
  ◌%◌,
  ◌^◌,
  ◌<◌,
  if◌then◌else◌,
  ◌⊎◌,
  ⊎_elim,
  Bool,
  true,
  false,
  ◌||◌,
  IsTrue,
  List,
  [],
  ◌∷◌,
  ◌++◌,
  set,
  sym,
  refl,
  ap,
  ◌∙◌,
  subst,
  Option,
  Some,
  None,
  append_assoc,
  append-nil,
  length,
  length-append,
  arith,
  All,
  ne_eqb,
}
use Rattle.std.proofs.lemmas.List.Elements.{All-push, All-nil}
use mathlib.Core.Option.{none, some}
use lib.ListN.{get_elem?}
use Rattle.mb_msg.specs.declared.system.SysMsg.{SysMsg}
use Rattle.mb_syslist.specs.MessageList.{MessageList, with_last, listed, pushed}
use Rattle.mb_core.specs.declared.wake_obligation.WakeObligation.{WakeObligation}
use Rattle.atomic_table.specs.Table.{Me}
use Rattle.atomic_table.specs.Table.{rest as tail_of}
use Rattle.mb_ghost.specs.Layout.{Spot, slot_at, write, fill}
use Rattle.mb_ghost.specs.Locked.{Locked}
use Rattle.mb_ghost.specs.Ruled.{RuledStep, stays, takes_from, gives_to}
use Rattle.mb_ghost.proofs.LockedLemmas.{stays_locked, takes_up, changes_ticket, puts_back, is_holder}
use Rattle.mb_ghost.proofs.OwedLemmas.{pays, still_owed}
use Rattle.mb_ghost.proofs.SeenLemmas.{learns, each_append}
use Rattle.mb_ghost.proofs.SharesLemmas.{shares_stay}
use Rattle.mb_gate.specs.HomeFacts.{HomeFacts}
use Rattle.mb_gate.specs.ClaimCounts.{claims_out}
use Rattle.mb_gate.specs.Lists.{may_lock_list}
use Rattle.mb_gate.specs.NamedActors.{NamesBelow}
use Rattle.mb_gate.specs.declared.slot.Slot.{Slot}
use Rattle.mb_gate.specs.declared.slot.Slot.TheVariants.{List as Listing}
use Rattle.mb_gate.specs.View.{View, Observation, Read, Pushed, Ended, Held, Lent, obligation_to, lending, enlisting, refusing, given_after, regiven, unloading}
use Rattle.mb_gate.specs.Rule.{
  Word,
  Status,
  Waiting,
  Gate,
  word_offset,
  SlotName,
  ListSlot,
  slot_offset,
  Ghost,
  is_some_item,
  gate_word,
  held_of,
  lent_of,
  claim_for,
  list_for,
  ObservationHolds,
  IsAmong,
  IsPart,
  HasSeenClosed,
  all_numbered,
  WasPushed,
  Knows,
  MessageDue,
  SystemDue,
  HasMessageObligation,
  HasSystemObligation,
  IsListInSlot,
  IsListOut,
  ListPlace,
  Fact,
}
use Rattle.mb_gate.proofs.Views.{
  CountsNothing,
  counts_no_more,
  held_here,
  held_else,
  lent_here,
  lent_else,
  owes_here,
  owes_else,
  extends_self,
  Grown,
  grown,
  pushed_on,
  goes_on,
}
use Rattle.mb_gate.proofs.Numbers.{among_more, each_part, pushed_so, pushed_last, part_so, length_numbered}
use Rattle.mb_gate.specs.Waiting.{on_by, off_by}
use Rattle.mb_gate.proofs.Facts.{still_kept, still_balanced, same_balance, still_claims, still_held, still_put, still_released, puts_more, lister_bare, claimed_bare, gripper_bare, views_change, elsewhere, load_here}
use Rattle.mb_gate.proofs.StatusSteps.{is_held}

none_more : (m : ℕ) → 0 + m ≡ m
none_more m = omega arith

bits : (a b c : Bool) → ((if a then 2 else 0) + (if b then 4 else 0) + (if c then 8 else 0)) % 2 ≡ 0
bits true true true = refl
bits true true false = refl
bits true false true = refl
bits true false false = refl
bits false true true = refl
bits false true false = refl
bits false false true = refl
bits false false false = refl

-- the word of a gate from which the list is out is odd, and one more than it was
pub gate_out : (l : MessageList) (gave : Bool) → gate_word true l gave ≡ gate_word false l gave + 1
gate_out l gave = omega arith

pub gate_even : (l : MessageList) (gave : Bool) → gate_word false l gave % 2 ≡ 0
gate_even l gave = let b = bits (is_some_item l.messages) gave l.closed in omega arith

module _ {H : Type 0} (is_of : ℕ → H → Type 0) (facts : H → HomeFacts) (actors : ℕ) where
  abbrev F : ℕ → Spot Word SlotName (Slot H) Ghost → List View → Type 0
  F = Fact is_of facts actors

  abbrev M : Type 0
  M = Me (Slot H) View

  abbrev Place : Type 0
  Place = Spot Word SlotName (Slot H) Ghost

  no_keeper : (x : Place) (lent_to : Option (ℕ × Lent)) → x.row Gate % 2 ≡ 0 → ListPlace is_of facts x lent_to
      → lent_to ≡ None
  no_keeper x None even k = refl
  no_keeper x (Some h) even k = absurd (let w = k.word in let o = gate_out x.ghost.listed x.ghost.gave in let e = gate_even x.ghost.listed
      x.ghost.gave in omega arith)

  -- the list is in its slot where the gate's word is even
  pub is_shelved : (actor : ℕ) (x : Place) (vs : List View) → F actor x vs → x.row Gate % 2 ≡ 0 → (x.ghost.lent_to ≡ None) × IsListInSlot is_of
      facts x
  is_shelved actor x vs f even = let nobody = no_keeper x x.ghost.lent_to even f.list_place in (
    nobody,
    subst (ListPlace is_of facts x)
        nobody f.list_place,
  )

  -- who has the list is its lent_to
  pub is_lent : (actor id : ℕ) (x : Place) (vs : List View) (v : View) (l : Lent) → F actor x vs → get_elem? vs id ≡ some v → v.list ≡ Some l →
      l.actor ≡ actor
      → (x.ghost.lent_to ≡ Some (id, l)) × IsListOut is_of facts x l
  is_lent actor id x vs v l f at has of =
      let kept = is_holder (list_for actor) x.ghost.lent_to vs id v l at (ap (lent_of actor) has ∙ lent_here actor l of) f.lists in
      (kept, subst (ListPlace is_of facts x) kept f.list_place)

  -- a seat takes the list out
  pub grips : (actor id : ℕ) (me : M) (old : ℕ) (tell : M → Type 0) (x : Place) (vs : List View) → F actor x vs → get_elem? vs id ≡ some me.0 →
      x.row Gate % 2 ≡ 0 → x.row Gate ≡ old → me.0.list ≡ None → may_lock_list actor me.0 ≡ true
      → tell (lending actor x.ghost.listed x.ghost.gave me.0, (slot_at actor 1, Listing x.ghost.listed) ∷ me.1)
      → RuledStep word_offset slot_offset F actor id me Gate (old + 1) tell x vs
  grips actor id me old tell x vs f at even is bare may told =
      let v = me.0 in
      let h = is_shelved actor x vs f even in
      let l : Lent = record { actor = actor; listed = x.ghost.listed; gave = x.ghost.gave } in
      let w = lending actor x.ghost.listed x.ghost.gave v in
      let g : Ghost = record x.ghost { lent_to = Some (id, l) } in
      let y : Place = record { row = write word_offset x.row Gate (old + 1); slot = fill slot_offset x.slot ListSlot none; ghost = g } in
      let grows = grown x y (λ e. e) (λ one. one) (extends_self x.ghost.journal) refl in record {
        view = w;
        slot_step = takes_from ListSlot (Listing x.ghost.listed);
        kept = g;
        is_able = h.1.present;
        holds = record {
          valid = f.valid;
          claims = stays_locked (claim_for actor) x.ghost.holder vs id v w at refl f.claims;
          cell =
              still_kept is_of facts actors actor x y refl refl refl refl refl refl refl refl x.ghost.holder f.cell;
          lists = takes_up (list_for actor) vs id v w l at (lent_here actor l refl) (subst (λ o. Locked (list_for actor) o vs) h.0 f.lists);
          list_place = record { taken = refl; gave = refl; word = ap (λ n. n + 1) (sym is ∙ h.1.word) ∙ sym (gate_out x.ghost.listed x.ghost.gave) };
          ended = f.ended;
          listing = f.listing;
          named = f.named;
          put = still_put actor x.ghost.pushed vs id v w at (λ q. refl) f.put;
          releases = still_released actor x.ghost.journal vs id v w at (λ q. (refl, refl)) f.releases;
          was_pushed = f.was_pushed;
          balance = still_balanced actor (x.row Waiting) vs id v w at (record { on = refl; off = refl; put = λ q. refl; share = refl; got = refl; back = refl; releases = λ q. (refl, refl) })
              f.balance;
          claims_balance = still_claims actor x.ghost.holder x.ghost.holder vs id v w at refl refl refl f.claims_balance;
          held = still_held actor (x.row Status) (x.row Status) vs id v w at refl (λ one. one) f.held;
          shares = shares_stay (λ (u : View). u.share) vs id v w at refl f.shares;
          bare = gripper_bare actor vs id v w at refl refl refl (refl, refl) refl may f.bare;
          was_seen_closed = λ b. still_owed (HasSeenClosed b) (IsAmong b x.ghost.closed_to) (IsAmong b x.ghost.closed_to) vs id v w at (λ d. d) (λ _ p. p)
              (f.was_seen_closed b);
          message = still_owed (HasMessageObligation actor) (MessageDue x) (MessageDue y) vs id v w at (λ d. d) (λ _ p. p) f.message;
          system = still_owed (HasSystemObligation actor) (SystemDue x) (SystemDue y) vs id v w at (λ d. d) (λ _ p. p) f.system;
          seen = let k = goes_on actor x y v grows (f.seen id v at) in
              learns (Knows actor x) (Knows actor y) vs id w (λ u. goes_on actor x y u grows) (record { seen = k.seen; sent_system = k.sent_system }) f.seen;
        };
        others = λ a n z k. elsewhere is_of facts actors a z vs id v w at
            (record {
              claim = refl;
              list = lent_else a l (λ e. n (sym e)) ∙ sym (ap (lent_of a) bare);
              obligation = refl;
              account = record { on = refl; off = refl; put = λ q. refl; share = refl; got = refl; back = refl; releases = λ q. (refl, refl) };
              vouches = λ b p. p;
              knows = λ _ s. record {
                seen
                    = s.seen;
                sent_system = s.sent_system;
              };
            }) k;
        tells = told;
      }

  -- a seat gives the list back with this message last
  pub enlists : (actor id n : ℕ) (me : M) (l : Lent) (m : SysMsg) (tell : M → Type 0) (x : Place) (vs : List View) → F actor x vs → get_elem? vs
      id ≡ some me.0 → me.0.list ≡ Some l → l.actor ≡ actor
      → me.1 ≡ (slot_at actor 1, Listing (with_last l.listed m)) ∷ tail_of me.1 → n ≡ gate_word false (with_last l.listed m) l.gave
      → NamesBelow actors m → pushed l.listed + 1 < 2 ^ 64
      → tell (enlisting actor (pushed l.listed) m me.0, tail_of me.1) → RuledStep word_offset slot_offset F actor id me Gate n tell x vs
  enlists actor id n me l m tell x vs f at has of carried word names few told =
      let v = me.0 in
      let h = is_lent actor id x vs v l f at has of in
      let w = enlisting actor (pushed l.listed) m v in
      let d : WakeObligation = record (obligation_to actor v) { system = true } in
      let u : View = record v {
        log = Pushed actor (pushed l.listed) m ∷ v.log;
        list = None;
        sent_system = record {
          to = actor;
          message = m;
          was_ended =
              false;
        } ∷ v.sent_system;
      } in
      let g : Ghost = record x.ghost { lent_to = None; listed = with_last l.listed m; pushed = x.ghost.pushed ++ m ∷ [] } in
      let same_end : IsTrue x.ghost.listed.closed → IsTrue l.listed.closed = (λ e. ap (λ (z : MessageList). z.closed) h.1.taken ∙ e) in
      let y : Place = record {
        row = write word_offset x.row Gate n;
        slot = fill slot_offset x.slot ListSlot (some (Listing (with_last l.listed
            m)));
        ghost = g;
      } in
      let grows : Grown x y = record { still = same_end; closed = λ one. one; longer = extends_self x.ghost.journal; more = m ∷ []; pushed = refl }
      in
      record {
        view = w;
        slot_step = gives_to ListSlot (Listing (with_last l.listed m));
        kept = g;
        is_able = (tail_of me.1, carried);
        holds = record {
          valid = f.valid;
          claims = stays_locked (claim_for actor) x.ghost.holder vs id v w at refl f.claims;
          cell = still_kept is_of facts actors actor x y refl refl refl refl refl refl
              (ap (λ (z : MessageList). z.given) h.1.taken) refl x.ghost.holder f.cell;
          lists = puts_back (list_for actor) vs id v w l at refl (subst (λ o. Locked (list_for actor) o vs) h.0 f.lists);
          list_place = record { present = refl; word = word ∙ ap (gate_word false (with_last l.listed m)) h.1.gave };
          ended = λ e. f.ended (ap (λ (z : MessageList). z.closed) (sym h.1.taken) ∙ e);
          listing = record {
            given = f.listing.given;
            joined = ap (λ z. z ++ m ∷ []) f.listing.joined ∙ (append_assoc f.listing.given x.ghost.listed.messages (m ∷ []) ∙ ap (λ (z :
                MessageList). f.listing.given ++ (z.messages ++ m ∷ [])) (sym h.1.taken));
            counted = ap (λ (z : MessageList). z.given) h.1.taken ∙ f.listing.counted;
            few =
                let all = ap length f.listing.joined ∙ length-append f.listing.given x.ghost.listed.messages in
                let more = length-append x.ghost.pushed (m ∷ []) in
                let given_is = ap (λ (z : MessageList). z.given) h.1.taken in
                let many_is = ap (λ (z : MessageList). length z.messages) h.1.taken in
                let before = f.listing.counted in let some_few = f.listing.few in
                omega (arith, all, more, given_is, many_is, before, some_few, few);
          };
          named = All-push (NamesBelow actors) l.listed.messages m (subst (λ (z : MessageList). All (NamesBelow actors) z.messages) (sym h.1.taken)
              f.named) names;
          put = puts_more actor x.ghost.pushed (pushed l.listed) m vs id v w at refl (pushed_last x.ghost l.listed m h.1.taken f.listing) f.put;
          releases = still_released actor x.ghost.journal vs id v w at (λ q. (refl, refl)) f.releases;
          was_pushed = pushed_on x y grows x.ghost.drained f.was_pushed;
          balance = same_balance actor (x.row Waiting) vs id v w at (none_more (on_by actor v)) (none_more (off_by actor v)) f.balance;
          claims_balance = still_claims actor x.ghost.holder x.ghost.holder vs id v w at refl refl refl f.claims_balance;
          held = still_held actor (x.row Status) (x.row Status) vs id v w at refl (λ one. one) f.held;
          shares = shares_stay (λ (u : View). u.share) vs id v w at refl f.shares;
          bare = lister_bare actor vs id v w l at (ap (lent_of actor) has ∙ lent_here actor l of) refl refl refl refl
              (λ q. (refl, refl)) (none_more (on_by actor v)) f.bare;
          was_seen_closed = λ b. still_owed (HasSeenClosed b) (IsAmong b x.ghost.closed_to) (IsAmong b x.ghost.closed_to) vs id v w at (λ d. d)
              (λ _. among_more (Read b 1) (Pushed actor (pushed l.listed) m) v.log) (f.was_seen_closed b);
          message = still_owed (HasMessageObligation actor) (MessageDue x) (MessageDue y) vs id v w at (λ z. z) (λ _. subst (λ (z : WakeObligation). IsTrue
              (z.message || z.sending)) (sym (owes_here actor d u))) f.message;
          system = pays (HasSystemObligation actor) (SystemDue y) vs id v w at (subst (λ (z : WakeObligation). IsTrue z.system) (sym (owes_here actor d u)) refl);
          seen = let k = goes_on actor x y v grows (f.seen id v at) in
              learns (Knows actor x) (Knows actor y) vs id w (λ u. goes_on actor x y u grows) (record {
                seen = ((λ _. pushed_so x.ghost l.listed m h.1.taken f.listing), k.seen);
                sent_system = (
                  (λ _. (
                    (λ e. absurd (cc)),
                    (λ _. record {
                      before = x.ghost.pushed;
                      after = [];
                      joined = refl;
                    }),
                  )),
                  k.sent_system,
                );
              }) f.seen;
        };
        others = λ a k z s. elsewhere is_of facts actors a z vs id v w at
            (record {
              claim = refl;
              list = sym (ap (lent_of a) has ∙ lent_else a l (λ e. k (sym e ∙ of)));
              obligation = owes_else actor a d u k;
              account = counts_no_more a (Pushed actor (pushed l.listed) m) v w refl
                  (refl, refl, λ q. ap (λ (b : Bool). if b then q (pushed l.listed, m) else 0) (ne_eqb actor a (λ e. k (sym e)))) refl refl refl (λ q. (refl, refl));
              vouches = λ b. among_more (Read b 1) (Pushed actor (pushed l.listed) m) v.log;
              knows
                  = λ _ t. record { seen = ((λ e. absurd (k (sym e))), t.seen); sent_system = ((λ e. absurd (k (sym e))), t.sent_system) };
            }) s;
        tells = told;
      }

  -- the holder gives back the list, to which it did this
  pub unloads : (actor id n : ℕ) (s : Observation) (me : M) (c : Held) (l : Lent) (new : MessageList) (gave : Bool) (tell : M → Type 0)
      (x : Place) (vs : List View) → F actor x vs → get_elem? vs id ≡ some me.0
      → me.0.claim ≡ Some c → c.actor ≡ actor → me.0.list ≡ Some l → l.actor ≡ actor → me.1 ≡ (slot_at actor 1, Listing new) ∷ tail_of me.1 → n ≡
      gate_word false new gave
      → new.messages ≡ [] → (IsTrue l.listed.closed → IsTrue new.closed) → (IsTrue new.closed → IsTrue l.listed.closed ⊎ (c.word ≡ 1))
      → new.given ≡ given_after l.listed.given (listed l.listed)
      → ((a : ℕ) → CountsNothing a s)
      → ((a : ℕ) (z : Place) → (a ≡ actor → (z.ghost.listed ≡ new) × IsPart (listed l.listed) (all_numbered z.ghost)) → ObservationHolds a z s)
      → tell (unloading s (listed l.listed) gave me.0, tail_of me.1)
      → RuledStep word_offset slot_offset F actor id me Gate n tell x vs
  unloads actor id n s me c l new gave tell x vs f at has of keeps of_list carried word empty stays_closed closed counts uncounted so told =
      let given = listed l.listed in
      let v = me.0 in
      let h = is_held is_of facts actors actor id x vs v c f at has of in
      let k = is_lent actor id x vs v l f at keeps of_list in
      let lent = k in
      let w = unloading s given gave v in
      let still : IsTrue x.ghost.listed.closed → IsTrue new.closed = (λ e. stays_closed (ap (λ (z : MessageList). z.closed) k.1.taken ∙ e)) in
      let c' : Held = record c { gave = gave; given = given_after c.given given; drained = c.drained ++ given } in
      let g : Ghost = record x.ghost { holder = Some (id, c'); drained = x.ghost.drained ++ given; lent_to = None; listed = new; gave = gave } in
      let y : Place = record { row = write word_offset x.row Gate n; slot = fill slot_offset x.slot ListSlot (some (Listing new)); ghost = g } in
      let same_given : l.listed.given ≡ x.ghost.listed.given = ap (λ (z : MessageList). z.given) k.1.taken in
      let grows = grown x y still (λ one. one) (extends_self x.ghost.journal) refl in record {
        view = w;
        slot_step = gives_to ListSlot (Listing new);
        kept = g;
        is_able = (tail_of me.1, carried);
        holds = record {
          valid = f.valid;
          claims = changes_ticket (claim_for actor) vs id v w c c' at (ap (λ z. held_of actor (regiven given gave z)) has ∙ held_here actor c' of)
              (subst (λ o. Locked (claim_for actor) o vs) h.0 f.claims);
          cell = record {
            of_actor = of;
            taken = h.1.taken;
            known_closed = h.1.known_closed;
            drained = ap (λ z. z ++ given) h.1.drained;
            count = ap (λ z. given_after z given) (h.1.count ∙ sym same_given) ∙ sym counts;
            gave = refl;
            word = h.1.word;
            busy = h.1.busy;
            flag = h.1.flag;
            out = h.1.out;
          };
          lists = puts_back (list_for actor) vs id v w l at refl (subst (λ o. Locked (list_for actor) o vs) k.0 f.lists);
          list_place = record { present = refl; word = word };
          ended = λ e. ⊎_elim (λ was. f.ended (ap (λ (z : MessageList). z.closed) (sym k.1.taken) ∙ was)) (λ one. h.1.word ∙ one) (closed e);
          listing = record {
            given = x.ghost.pushed;
            joined = sym (append-nil x.ghost.pushed) ∙ ap (λ z. x.ghost.pushed ++ z) (sym empty);
            counted =
                let all = ap length f.listing.joined ∙ length-append f.listing.given x.ghost.listed.messages in
                let many = length_numbered l.listed.given l.listed.messages in
                let listed_many = ap (λ (z : MessageList). length z.messages) k.1.taken in
                let before = f.listing.counted in omega arith;
            few = f.listing.few;
          };
          named = subst (All (NamesBelow actors)) (sym empty) (All-nil (NamesBelow actors));
          put = still_put actor x.ghost.pushed vs id v w at (counts_no_more actor s v w refl (uncounted actor) refl refl refl (λ q. (refl, refl))).put f.put;
          releases = still_released actor x.ghost.journal vs id v w at (λ q. (refl, refl)) f.releases;
          was_pushed = each_append (WasPushed x.ghost) x.ghost.drained given f.was_pushed
              (each_part given (all_numbered x.ghost) (part_so x.ghost l.listed lent.1.taken f.listing));
          balance = still_balanced actor (x.row Waiting) vs id v w at (counts_no_more actor s v w refl (uncounted actor) refl refl refl (λ q. (refl, refl))) f.balance;
          claims_balance = still_claims actor x.ghost.holder (Some (id, c')) vs id v w at refl refl (sym (ap claims_out h.0)) f.claims_balance;
          held = still_held actor (x.row Status) (x.row Status) vs id v w at refl (λ one. one) f.held;
          shares = shares_stay (λ (u : View). u.share) vs id v w at refl f.shares;
          bare = claimed_bare actor vs id v w c' at (ap (λ z. held_of actor (regiven given gave z)) has ∙ held_here actor c' of) refl refl refl
              (λ q. (refl, refl)) (counts_no_more actor s v w refl (uncounted actor) refl refl refl (λ q. (refl, refl))).on f.bare;
          was_seen_closed = λ b. still_owed (HasSeenClosed b) (IsAmong b x.ghost.closed_to) (IsAmong b x.ghost.closed_to) vs id v w at (λ d. d)
              (λ _. among_more (Read b 1) s v.log) (f.was_seen_closed b);
          message = still_owed (HasMessageObligation actor) (MessageDue x) (MessageDue y) vs id v w at (λ z. z) (λ _ p. p) f.message;
          system = λ due. absurd (let z = due.0 in ⊎_elim (λ b. omega arith) (λ b. omega arith) h.1.busy);
          seen = let k = goes_on actor x y v grows (f.seen id v at) in
              learns (Knows actor x) (Knows actor y) vs id w (λ u. goes_on actor x y u grows) (record {
                seen = (so actor y (λ _. (refl, part_so x.ghost l.listed lent.1.taken f.listing)), k.seen);
                sent_system = k.sent_system;
              }) f.seen;
        };
        others = λ a i z p. elsewhere is_of facts actors a z vs id v w at (record {
          claim = ap (λ z. held_of a (regiven given gave z)) has ∙ (held_else a c' (λ e. i (sym e ∙ of)) ∙ sym (ap (held_of a) has ∙ held_else a
              c (λ e. i (sym e ∙ of))));
          list = sym (ap (lent_of a) keeps ∙ lent_else a l (λ e. i (sym e ∙ of_list)));
          obligation = refl;
          account = counts_no_more a s v w refl (uncounted a) refl refl refl (λ q. (refl, refl));
          vouches = λ b. among_more (Read b 1) s v.log;
          knows = λ q t. record { seen = (so a q (λ e. absurd (i e)), t.seen); sent_system = t.sent_system };
        }) p;
        tells = told;
      }

  -- a seat finds the list ended, and says what went nowhere
  pub refuses : (actor id : ℕ) (me : M) (m : SysMsg) (tell : M → Type 0) (x : Place) (vs : List View) → F actor x vs → get_elem? vs id ≡ some
      me.0 → IsTrue x.ghost.listed.closed → tell (refusing actor m me.0, me.1)
      → RuledStep word_offset slot_offset F actor id me Gate (x.row Gate) tell x vs
  refuses actor id me m tell x vs f at shut told = let v = me.0 in let w = refusing actor m v in record {
    view = w;
    slot_step = stays;
    kept = x.ghost;
    is_able = tt;
    holds = load_here is_of facts actors actor x (set vs id w) Gate (views_change is_of facts actors actor x vs id v w at refl
        refl (counts_no_more actor (Ended actor []) v w refl (refl, refl, λ q. refl) refl refl refl (λ q. (refl, refl))) (λ _ p. p) (λ _ p. p) (λ k. record {
          seen = ((λ _. (shut, record { before = []; after = all_numbered x.ghost; joined = refl })), k.seen);
          sent_system =
              ((λ _. ((λ _. shut), (λ e. absurd (cc)))), k.sent_system);
        }) (λ b. among_more (Read b 1) (Ended actor []) v.log) f);
    others = λ a n y g. elsewhere is_of facts actors a y vs id v w at (record {
      claim = refl;
      list = refl;
      obligation = refl;
      account = counts_no_more a (Ended actor []) v w refl (refl, refl, λ q. refl) refl refl refl (λ q. (refl, refl));
      vouches = λ b. among_more (Read b 1) (Ended actor []) v.log;
      knows = λ _ t.
          record { seen = ((λ e. absurd (n (sym e))), t.seen); sent_system = ((λ e. absurd (n (sym e))), t.sent_system) };
    }) g;
    tells = told;
  }
