-- The steps on an actor's waiting count, and reading its list's gate, keep the rule.
use Rattle.std.proofs.Common.{
  ◌≡◌,
  ◌≢◌,
  ℕ,
  ◌+◌,
  ◌%◌,
  ◌^◌,
  ◌==◌,
  if◌then◌else◌,
  ⊎_elim,
  Bool,
  true,
  false,
  ◌||◌,
  IsTrue,
  List,
  ◌∷◌,
  set,
  sym,
  refl,
  ap,
  ◌∙◌,
  subst,
  Some,
  eq-eqb,
  ne_eqb,
  arith,
}
use mathlib.Core.Option.{some}
use lib.ListN.{get_elem?}
use Rattle.mb_core.specs.declared.wake_obligation.WakeObligation.{WakeObligation}
use Rattle.atomic_table.specs.Table.{Me}
use Rattle.mb_ghost.specs.Layout.{Spot, write}
use Rattle.mb_ghost.specs.Ruled.{RuledStep, stays}
use Rattle.mb_ghost.proofs.LockedLemmas.{stays_locked}
use Rattle.mb_ghost.proofs.OwedLemmas.{pays, still_owed}
use Rattle.mb_ghost.proofs.SeenLemmas.{learns}
use Rattle.mb_ghost.specs.Summed.{total}
use Rattle.mb_ghost.proofs.SummedLemmas.{total_set}
use Rattle.mb_ghost.proofs.SharesLemmas.{shares_stay}
use Rattle.mb_gate.specs.HomeFacts.{HomeFacts}
use Rattle.mb_gate.specs.declared.slot.Slot.{Slot}
use Rattle.mb_gate.specs.View.{
  View,
  Observation,
  Read,
  Counted,
  Looked,
  Sent,
  Unsent,
  Took,
  Held,
  obligation_to,
  with_obligation,
  seeing,
  sending,
  unsending,
  counting_off,
  counting,
  looking,
}
use Rattle.mb_msg.specs.declared.system.SysMsg.{SysMsg}
use Rattle.mb_gate.specs.PutIn.{put_in, put_by}
use Rattle.mb_gate.specs.Waiting.{counted_on, counted_off, on_by, off_by, IsBalance}
use Rattle.mb_gate.specs.Rule.{
  Word,
  Status,
  Gate,
  Waiting,
  word_offset,
  SlotName,
  slot_offset,
  Ghost,
  claim_for,
  list_for,
  Knows,
  IsAmong,
  HasSeenClosed,
  MessageDue,
  SystemDue,
  HasMessageObligation,
  HasSystemObligation,
  held_of,
  is_some_item,
  has_work,
  Fact,
}
use Rattle.mb_gate.proofs.Views.{
  held_here,
  owes_here,
  extends_self,
  IsQuiet,
  CountsNothing,
  counts_no_more,
  seeing_elsewhere,
  owing_elsewhere,
  grown,
  goes_on,
}
use Rattle.mb_gate.proofs.Numbers.{among_more}
use Rattle.mb_gate.proofs.Facts.{still_kept, still_shelved, still_claims, still_held, still_put, still_released, claimed_bare, sharer_bare, views_change, elsewhere, load_here}
use Rattle.mb_gate.proofs.StatusSteps.{is_held}
use Rattle.std.proofs.lemmas.Bool.{eqb-true}

-- so many more are waiting, and one seat counted so many on
adds : (n w k on on' off off' a a' b b' : ℕ) → on' + a ≡ on + a' → off' + b ≡ off + b' → a' ≡ k + a → b' ≡ b → n % 2 ^ 64 ≡ (w + k) % 2 ^ 64 →
    (w + off) % 2 ^ 64 ≡ on % 2 ^ 64 → (n + off') % 2 ^ 64 ≡ on' % 2 ^ 64
adds n w k on on' off off' a a' b b' e f g h more was = omega arith

-- so many less, and it counted so many off
takes : (n w k on on' off off' a a' b b' : ℕ) → on' + a ≡ on + a' → off' + b ≡ off + b' → a' ≡ a → b' ≡ k + b → (n + k) % 2 ^ 64 ≡ w % 2 ^ 64 →
    (w + off) % 2 ^ 64 ≡ on % 2 ^ 64 → (n + off') % 2 ^ 64 ≡ on' % 2 ^ 64
takes n w k on on' off off' a a' b b' e f g h less was = omega arith

if_here : (actor k m : ℕ) → (if actor == actor then k else 0) + m ≡ k + m
if_here actor k m = ap (λ (b : Bool). (if b then k else 0) + m) (eq-eqb actor actor refl)

if_else : (actor other k : ℕ) → other ≢ actor → (if actor == other then k else 0) ≡ 0
if_else actor other k n = ap (λ (b : Bool). if b then k else 0) (ne_eqb actor other (λ e. n (sym e)))

none_more : (m : ℕ) → 0 + m ≡ m
none_more m = omega arith

none_in : (m n : ℕ) → m ≡ 0 → m + n ≡ n
none_in m n none = omega arith

module _ (actor k : ℕ) (vs : List View) (id : ℕ) (v w : View) (at : get_elem? vs id ≡ some v) (before after : ℕ)
    (was : IsBalance actor before vs) where
  -- one seat counted so many on
  balances_more : w.log ≡ Sent actor k ∷ v.log → after % 2 ^ 64 ≡ (before + k) % 2 ^ 64 → IsBalance actor after (set vs id w)
  balances_more is more = adds after before k (total (on_by actor) vs) (total (on_by actor) (set vs id w)) (total (off_by actor) vs) (total (off_by
      actor) (set vs id w)) (on_by actor v) (on_by actor w) (off_by actor v) (off_by actor w) (total_set (on_by actor) vs id v w at)
      (total_set (off_by actor) vs id v w at) (ap (total (counted_on actor)) is ∙ if_here actor k (on_by actor v))
      (ap (total (counted_off actor)) is ∙ none_more (off_by actor v)) more was

  -- or off
  balances_less : (s : Observation) → w.log ≡ s ∷ v.log → counted_on actor s ≡ 0 → counted_off actor s ≡ (if actor == actor then k else 0) → (after + k)
      % 2 ^ 64 ≡ before % 2 ^ 64 → IsBalance actor after (set vs id w)
  balances_less s is none some_off less = takes after before k (total (on_by actor) vs) (total (on_by actor) (set vs id w)) (total (off_by actor)
      vs) (total (off_by actor) (set vs id w)) (on_by actor v) (on_by actor w) (off_by actor v) (off_by actor w) (total_set (on_by actor) vs id v w
      at) (total_set (off_by actor) vs id v w at) (ap (total (counted_on actor)) is ∙ (ap (λ n. n + on_by actor v) none ∙ none_more (on_by actor
      v))) (ap (total (counted_off actor)) is ∙ (ap (λ n. n + off_by actor v) some_off ∙ if_here actor k (off_by actor v))) less was

module _ {H : Type 0} (is_of : ℕ → H → Type 0) (facts : H → HomeFacts) (actors : ℕ) where
  abbrev F : ℕ → Spot Word SlotName (Slot H) Ghost → List View → Type 0
  F = Fact is_of facts actors

  abbrev M : Type 0
  M = Me (Slot H) View

  abbrev Place : Type 0
  Place = Spot Word SlotName (Slot H) Ghost

  -- the waiting count changes, and the seat owes a look where one is due
  recounts : (actor id n : ℕ) (d : WakeObligation) (s : Observation) (me : M) (tell : M → Type 0) (x : Place) (vs : List View) → IsQuiet H s → ((a : ℕ) → a ≢ actor →
      CountsNothing a s) → ((measure : ℕ × SysMsg → ℕ) → put_in actor measure s ≡ 0) → F actor x vs → get_elem? vs id ≡ some me.0 → IsBalance actor n (set vs id (with_obligation actor d (seeing s me.0)))
      → is_some_item me.0.share ≡ true → IsTrue (d.message || d.sending) → d.system ≡ (obligation_to actor me.0).system
      → tell (with_obligation actor d (seeing s me.0), me.1) → RuledStep word_offset slot_offset F
      actor id me Waiting n tell x vs
  recounts actor id n d s me tell x vs so none unput f at balance share owed same told =
      let v = me.0 in
      let w = with_obligation actor d (seeing s v) in
      let y : Place = record { row = write word_offset x.row Waiting n; slot = x.slot; ghost = x.ghost } in
      let grows = grown x y (λ e. e) (λ one. one) (extends_self x.ghost.journal) refl in record {
        view = w;
        slot_step = stays;
        kept = x.ghost;
        is_able = tt;
        holds = record {
          valid = f.valid;
          claims = stays_locked (claim_for actor) x.ghost.holder vs id v w at refl f.claims;
          cell =
              still_kept is_of facts actors actor x y refl refl refl refl refl refl refl refl x.ghost.holder f.cell;
          lists = stays_locked (list_for actor) x.ghost.lent_to vs id v w at refl f.lists;
          list_place = still_shelved is_of facts actors actor x y refl refl refl refl x.ghost.lent_to f.list_place;
          ended = f.ended;
          listing = f.listing;
          named = f.named;
          put = still_put actor x.ghost.pushed vs id v w at (λ q. none_in (put_in actor q s) (put_by actor q v) (unput q)) f.put;
          releases = still_released actor x.ghost.journal vs id v w at (λ q. (refl, refl)) f.releases;
          was_pushed = f.was_pushed;
          balance = balance;
          claims_balance = still_claims actor x.ghost.holder x.ghost.holder vs id v w at refl refl refl f.claims_balance;
          held = still_held actor (x.row Status) (x.row Status) vs id v w at refl (λ one. one) f.held;
          shares = shares_stay (λ (u : View). u.share) vs id v w at refl f.shares;
          bare = sharer_bare actor vs id w share f.bare;
          was_seen_closed = λ b. still_owed (HasSeenClosed b) (IsAmong b x.ghost.closed_to) (IsAmong b x.ghost.closed_to) vs id v w at (λ d. d)
              (λ _. among_more (Read b 1) s v.log) (f.was_seen_closed b);
          message = pays (HasMessageObligation actor) (MessageDue y) vs id v w at (subst (λ (z : WakeObligation). IsTrue (z.message || z.sending)) (sym (owes_here
              actor d v)) owed);
          system = still_owed (HasSystemObligation actor) (SystemDue x) (SystemDue y) vs id v w at (λ due. due) (λ _ p. subst (λ (z : WakeObligation). IsTrue
              z.system) (sym (owes_here actor d v)) (subst IsTrue (sym same) p)) f.system;
          seen = let k = goes_on actor x y v grows (f.seen id v at) in
              learns (Knows actor x) (Knows actor y) vs id w (λ u. goes_on actor x y u grows) (record {
                seen =
                    (so actor y, k.seen);
                sent_system = k.sent_system;
              }) f.seen;
        };
        others = λ a z y g. elsewhere is_of facts actors a y vs id v w at (owing_elsewhere actor a d s v z so
            (none a z)) g;
        tells = told;
      }

  or_true : (b : Bool) → IsTrue (b || true)
  or_true true = refl
  or_true false = refl

  -- a seat counts one more, before it is queued
  pub sends : (actor id n k : ℕ) (me : M) (tell : M → Type 0) (x : Place) (vs : List View) → F actor x vs → get_elem? vs id ≡ some me.0
      → is_some_item
      me.0.share ≡ true → n % 2 ^ 64 ≡ (x.row Waiting + k) % 2 ^ 64 → tell (sending actor k me.0, me.1)
      → RuledStep word_offset slot_offset F actor id me Waiting n tell x vs
  sends actor id n k me tell x vs f at share more told = recounts actor id n (record (obligation_to actor me.0) { sending = true })
      (Sent actor k) me tell x vs (λ
      a y. tt) (λ a z. (if_else actor a k z, refl, λ q. refl)) (λ q. refl) f at (balances_more actor k vs id me.0 (sending actor k me.0) at (x.row Waiting) n f.balance refl
      more) share (or_true (obligation_to actor me.0).message) refl told

  -- a seat takes back what it counted
  pub unsends : (actor id n k : ℕ) (me : M) (tell : M → Type 0) (x : Place) (vs : List View) → F actor x vs → get_elem? vs id ≡ some me.0 →
      is_some_item me.0.share ≡ true → (n + k) % 2 ^ 64 ≡ x.row Waiting % 2 ^ 64 → tell (unsending actor k me.0, me.1)
      → RuledStep word_offset slot_offset F actor id me Waiting n tell x vs
  unsends actor id n k me tell x vs f at share less told = recounts actor id n (record (obligation_to actor me.0) { message = true; sending = false }) (Unsent
      actor k) me tell x vs (λ a y. tt) (λ a z. (refl, if_else actor a k z, λ q. refl)) (λ q. refl) f at (balances_less actor k vs id me.0 (unsending actor k me.0) at
      (x.row
      Waiting) n f.balance (Unsent actor k) refl refl refl less) share refl refl told

  -- the holder counts less
  pub takes_some : (actor id n k : ℕ) (me : M) (c : Held) (tell : M → Type 0) (x : Place) (vs : List View) → F actor x vs → get_elem? vs id ≡ some
      me.0 → me.0.claim ≡ Some c → c.actor ≡ actor → (n + k) % 2 ^ 64 ≡ x.row Waiting % 2 ^ 64 → tell (counting_off actor k me.0, me.1)
      → RuledStep word_offset slot_offset F actor id me Waiting n tell x vs
  takes_some actor id n k me c tell x vs f at has of less told =
      let v = me.0 in
      let s = Took actor k in
      let w = seeing s v in
      let h = is_held is_of facts actors actor id x vs v c f at has of in
      let y : Place = record { row = write word_offset x.row Waiting n; slot = x.slot; ghost = x.ghost } in
      let grows = grown x y (λ e. e) (λ one. one) (extends_self x.ghost.journal) refl in record {
        view = w;
        slot_step = stays;
        kept = x.ghost;
        is_able = tt;
        holds = record {
          valid = f.valid;
          claims = stays_locked (claim_for actor) x.ghost.holder vs id v w at refl f.claims;
          cell =
              still_kept is_of facts actors actor x y refl refl refl refl refl refl refl refl x.ghost.holder f.cell;
          lists = stays_locked (list_for actor) x.ghost.lent_to vs id v w at refl f.lists;
          list_place = still_shelved is_of facts actors actor x y refl refl refl refl x.ghost.lent_to f.list_place;
          ended = f.ended;
          listing = f.listing;
          named = f.named;
          put = still_put actor x.ghost.pushed vs id v w at (λ q. none_more (put_by actor q v)) f.put;
          releases = still_released actor x.ghost.journal vs id v w at (λ q. (refl, refl)) f.releases;
          was_pushed = f.was_pushed;
          balance = balances_less actor k vs id v w at (x.row Waiting) n f.balance s refl refl refl less;
          claims_balance = still_claims actor x.ghost.holder x.ghost.holder vs id v w at refl refl refl f.claims_balance;
          held = still_held actor (x.row Status) (x.row Status) vs id v w at refl (λ one. one) f.held;
          shares = shares_stay (λ (u : View). u.share) vs id v w at refl f.shares;
          bare = claimed_bare actor vs id v w c at (ap (held_of actor) has ∙ held_here actor c of) refl refl refl
              (λ q. (refl, refl)) (none_more (on_by actor v)) f.bare;
          was_seen_closed = λ b. still_owed (HasSeenClosed b) (IsAmong b x.ghost.closed_to) (IsAmong b x.ghost.closed_to) vs id v w at (λ d. d)
              (λ _. among_more (Read b 1) s v.log) (f.was_seen_closed b);
          message = λ due. absurd (let z = due.0 in ⊎_elim (λ b. omega arith) (λ b. omega arith) h.1.busy);
          system = still_owed (HasSystemObligation actor) (SystemDue x) (SystemDue y) vs id v w at (λ due. due) (λ _ p. p) f.system;
          seen = let so = goes_on actor x y v grows (f.seen id v at) in
              learns (Knows actor x) (Knows actor y) vs id w (λ u. goes_on actor x y u grows) (record {
                seen =
                    (tt, so.seen);
                sent_system = so.sent_system;
              }) f.seen;
        };
        others = λ a z y g. elsewhere is_of facts actors a y vs id v w at (seeing_elsewhere a s v (λ b q. tt)
            (refl, if_else actor a k z, λ q. refl)) g;
        tells = told;
      }

  -- a load after which the seat owes this actor no more than d, where what d leaves out is not due
  pub finds : (actor id : ℕ) (name : Word) (d : WakeObligation) (s : Observation) (me : M) (tell : M → Type 0) (x : Place) (vs : List View) → IsQuiet H s →
      ((a : ℕ) → CountsNothing a s) → F actor x vs → get_elem? vs id ≡ some me.0
      → (MessageDue x → IsTrue ((obligation_to actor me.0).message || (obligation_to actor me.0).sending) → IsTrue (d.message || d.sending)) → (SystemDue x →
      IsTrue (obligation_to actor me.0).system → IsTrue d.system)
      → tell (with_obligation actor d (seeing s me.0), me.1) → RuledStep word_offset slot_offset F actor id me name (x.row name) tell x vs
  finds actor id name d s me tell x vs so none f at message system told = let v = me.0 in let w = with_obligation actor d (seeing s v) in record {
    view = w;
    slot_step = stays;
    kept = x.ghost;
    is_able = tt;
    holds = load_here is_of facts actors actor x (set vs id w) name
        (views_change is_of facts actors actor x vs id v w at refl refl (counts_no_more actor s v w refl
        (none actor) refl refl refl (λ q. (refl, refl)))
        (λ due p. subst (λ (z : WakeObligation). IsTrue (z.message || z.sending)) (sym (owes_here actor d v)) (message due p))
        (λ due p. subst (λ (z : WakeObligation). IsTrue z.system) (sym (owes_here actor d v)) (system due p))
        (λ k. record { seen = (so actor x, k.seen); sent_system = k.sent_system }) (λ b. among_more (Read b 1) s v.log) f);
    others = λ a n y g. elsewhere is_of facts actors a y vs id v w at
        (owing_elsewhere actor a d s v n so (none a)) g;
    tells = told;
  }

  -- a load of which the seat keeps what it saw
  pub sees : (actor id : ℕ) (name : Word) (s : Observation) (me : M) (tell : M → Type 0) (x : Place) (vs : List View) → IsQuiet H s → ((a : ℕ)
      → CountsNothing a s)
      → F actor x vs → get_elem? vs id ≡ some me.0 → tell (seeing s me.0, me.1) → RuledStep word_offset slot_offset F actor id me name
      (x.row name) tell x vs
  sees actor id name s me tell x vs so none f at told = let v = me.0 in let w = seeing s v in record {
    view = w;
    slot_step = stays;
    kept = x.ghost;
    is_able = tt;
    holds = load_here is_of facts actors actor x (set vs id w) name (views_change is_of facts actors actor x vs id v w at refl
        refl (counts_no_more actor s v w refl (none actor) refl refl refl (λ q. (refl, refl))) (λ _ p. p) (λ _ p. p) (λ k. record {
          seen =
              (so actor x, k.seen);
          sent_system = k.sent_system;
        }) (λ b. among_more (Read b 1) s v.log) f);
    others = λ a n y g. elsewhere is_of facts actors a y vs id v w at (seeing_elsewhere a s v so (none a)) g;
    tells = told;
  }

  -- a load that changes nothing
  pub glances : (actor id : ℕ) (name : Word) (me : M) (tell : M → Type 0) (x : Place) (vs : List View) → F actor x vs → get_elem? vs id ≡ some
      me.0 → tell me → RuledStep word_offset slot_offset F actor id me name (x.row name) tell x vs
  glances actor id name me tell x vs f at told = let v = me.0 in record {
    view = v;
    slot_step = stays;
    kept = x.ghost;
    is_able = tt;
    holds = load_here is_of facts actors actor x (set vs id v) name (views_change is_of facts actors actor x vs id v v at refl
        refl (record { on = refl; off = refl; put = λ q. refl; share = refl; got = refl; back = refl; releases = λ q. (refl, refl) }) (λ _ p. p) (λ _ p. p)
        (λ k. record { seen = k.seen; sent_system = k.sent_system }) (λ b p. p) f);
    others = λ a n y g. elsewhere is_of facts actors a y vs id v v at (record {
      claim = refl;
      list = refl;
      obligation = refl;
      account = record { on = refl; off = refl; put = λ q. refl; share = refl; got = refl; back = refl; releases = λ q. (refl, refl) };
      vouches = λ b p. p;
      knows = λ _ k.
          record { seen = k.seen; sent_system = k.sent_system };
    }) g;
    tells = told;
  }

  counts_as : (actor id : ℕ) (me : M) (tell : M → Type 0) (x : Place) (vs : List View) (b : Bool) → (x.row Waiting == 0) ≡ b → F actor x vs →
      get_elem? vs id ≡ some me.0
      → tell (
        (let s = Counted actor (x.row Waiting) in if b then with_obligation actor (record (obligation_to actor me.0) { message = false }) (seeing s me.0) else
            seeing s me.0),
        me.1,
      ) → RuledStep word_offset slot_offset F actor id me Waiting (x.row Waiting) tell x vs
  counts_as actor id me tell x vs true is f at told = finds actor id Waiting (record (obligation_to actor me.0) { message = false }) (Counted actor (x.row
      Waiting)) me tell x vs (λ a y. tt) (λ a. (refl, refl, λ q. refl)) f at
      (λ due. absurd (let zero : x.row Waiting ≡ 0 = eqb-true (x.row Waiting) 0 is in let z = due.1 in omega arith)) (λ _ p. p) told
  counts_as actor id me tell x vs false is f at told = sees actor id Waiting (Counted actor (x.row Waiting)) me tell x vs (λ a y. tt) (λ a.
      (refl, refl, λ q. refl)) f at told

  -- a seat reads the waiting number
  pub counts : (actor id : ℕ) (me : M) (tell : M → Type 0) (x : Place) (vs : List View) → F actor x vs → get_elem? vs id ≡ some me.0 → tell
      (counting actor (x.row Waiting) me.0, me.1)
      → RuledStep word_offset slot_offset F actor id me Waiting (x.row Waiting) tell x vs
  counts actor id me tell x vs f at told = counts_as actor id me tell x vs (x.row Waiting == 0) refl f at told

  -- a seat looks at the list's gate
  pub looks : (actor id : ℕ) (me : M) (b : Bool) (tell : M → Type 0) (x : Place) (vs : List View) → has_work x.ghost ≡ b → F actor x vs →
      get_elem? vs id ≡ some me.0 → tell (looking actor b me.0, me.1)
      → RuledStep word_offset slot_offset F actor id me Gate (x.row Gate) tell x vs
  looks actor id me true tell x vs is f at told = sees actor id Gate (Looked actor true) me tell x vs (λ a y. tt) (λ a. (refl, refl, λ q. refl)) f at told
  looks actor id me false tell x vs is f at told = finds actor id Gate (record (obligation_to actor me.0) { system = false }) (Looked actor false) me tell x
      vs (λ a y. tt) (λ a. (refl, refl, λ q. refl)) f at (λ _ p. p) (λ due. absurd (let no = due.1 in cc)) told
