-- Views that are split, and views that are joined, keep the rule.
use Rattle.std.proofs.Common.{
  ◌≡◌,
  ℕ,
  ◌+◌,
  ◌<◌,
  ◌%◌,
  ◌^◌,
  ◌==◌,
  if◌then◌else◌,
  ◌⊎◌,
  inl,
  inr,
  ⊎_elim,
  Bool,
  true,
  false,
  ◌||◌,
  IsTrue,
  List,
  [],
  ◌∷◌,
  ◌++◌,
  set,
  sym,
  refl,
  ap,
  ◌∙◌,
  subst,
  None,
  arith,
}
use mathlib.Core.Option.{some}
use lib.ListN.{get_elem?}
use Rattle.mb_msg.specs.declared.system.SysMsg.{SysMsg}
use Rattle.mb_journal.specs.Entry.{Entry}
use Rattle.mb_core.specs.declared.wake_obligation.WakeObligation.{WakeObligation}
use Rattle.mb_ghost.specs.Layout.{Spot}
use Rattle.mb_ghost.specs.Seen.{Each}
use Rattle.mb_ghost.proofs.LockedLemmas.{splits_locked, joins_locked}
use Rattle.mb_ghost.proofs.OwedLemmas.{splits_owed, joins_owed}
use Rattle.mb_ghost.proofs.SeenLemmas.{splits_seen, joins_seen, each_append}
use Rattle.mb_ghost.specs.Summed.{total}
use Rattle.mb_ghost.proofs.SummedLemmas.{total_append, total_splits, total_joins}
use Rattle.mb_ghost.specs.Shares.{FitsIn, amount}
use Rattle.mb_ghost.proofs.SharesLemmas.{splits_shares, joins_shares}
use Rattle.mb_gate.specs.HomeFacts.{HomeFacts}
use Rattle.mb_gate.specs.PutIn.{put_in, put_by}
use Rattle.mb_gate.specs.Releases.{taken_in_release, back_in_release, taken_by, back_by}
use Rattle.mb_gate.specs.ClaimCounts.{claims_got, claims_returned, claims_out}
use Rattle.mb_gate.proofs.Facts.{no_share}
use Rattle.atomic_table.proofs.Lists.{set_else}
use Rattle.std.proofs.lemmas.Bool.{eqb-true}
use Rattle.mb_gate.specs.declared.slot.Slot.{Slot}
use Rattle.mb_gate.proofs.Numbers.{among_left, among_right, among_first, among_more}
use Rattle.mb_gate.specs.View.{
  View,
  Observation,
  Read,
  Saw,
  Counted,
  Looked,
  Sent,
  Unsent,
  Took,
  Pushed,
  Drained,
  Ended,
  SentSystem,
  obligation_of,
  obligation_to,
  blank,
  either_obligation,
  added_obligations,
  without_counts,
  taking_over,
}
use Rattle.mb_gate.specs.Waiting.{counted_on, counted_off, on_by, off_by, IsBalance}
use Rattle.mb_gate.specs.Rule.{
  Word,
  Waiting,
  SlotName,
  Ghost,
  held_of,
  lent_of,
  claim_for,
  list_for,
  ObservationHolds,
  SentSystemHolds,
  Knows,
  IsAmong,
  HasSeenClosed,
  MessageDue,
  SystemDue,
  HasMessageObligation,
  HasSystemObligation,
  is_some_item,
  IsBare,
  Fact,
}

added_at : (actor : ℕ) (d : ℕ × WakeObligation) (ds old : List (ℕ × WakeObligation)) (b : Bool) → (d.0 == actor) ≡ b → obligation_of actor (added_obligations ds old) ≡
    either_obligation (obligation_of actor ds) (obligation_of actor old)
    → (if b then either_obligation d.1 (obligation_of d.0 old) else obligation_of actor (added_obligations ds old)) ≡ either_obligation (if b then d.1 else obligation_of actor ds)
    (obligation_of actor old)
added_at actor d ds old true is rest = ap (λ n. either_obligation d.1 (obligation_of n old)) (eqb-true d.0 actor is)
added_at actor d ds old false is rest = rest

-- what is owed after two were joined is what either owed
pub obligation_by-added : (actor : ℕ) (ds old : List (ℕ × WakeObligation)) → obligation_of actor (added_obligations ds old) ≡ either_obligation (obligation_of actor ds) (obligation_of actor old)
obligation_by-added actor [] old = refl
obligation_by-added actor (d ∷ ds) old = added_at actor d ds old (d.0 == actor) refl (obligation_by-added actor ds old)

either_message : (a b : WakeObligation) → IsTrue (a.message || a.sending) ⊎ IsTrue (b.message || b.sending) → IsTrue ((either_obligation a b).message ||
    (either_obligation a b).sending)
either_message a b h = cases a.message a.sending b.message b.sending h
  where
    cases : (p q r s : Bool) → IsTrue (p || q) ⊎ IsTrue (r || s) → IsTrue ((p || r) || (q || s))
    cases true q r s h = refl
    cases false true true s h = refl
    cases false true false s h = refl
    cases false false true s h = refl
    cases false false false true h = refl
    cases false false false false (inl h) = h
    cases false false false false (inr h) = h

either_system : (a b : WakeObligation) → IsTrue a.system ⊎ IsTrue b.system → IsTrue (either_obligation a b).system
either_system a b h = cases a.system b.system h
  where
    cases : (p q : Bool) → IsTrue p ⊎ IsTrue q → IsTrue (p || q)
    cases true q h = refl
    cases false true h = refl
    cases false false (inl h) = h
    cases false false (inr h) = h

pub same_balance : (actor n : ℕ) (vs ws : List View) → total (on_by actor) ws ≡ total (on_by actor) vs → total (off_by actor) ws ≡ total (off_by actor)
    vs → IsBalance actor n vs → IsBalance actor n ws
same_balance actor n vs ws on off b = ap (λ k. (n + k) % 2 ^ 64) off ∙ (b ∙ sym (ap (λ k. k % 2 ^ 64) on))

pub same_releases : (actor : ℕ) (journal : List Entry) (measure : List Entry → ℕ) (vs ws : List View) → total (taken_by actor measure) ws ≡ total
    (taken_by actor measure) vs → total (back_by actor measure) ws ≡ total (back_by actor measure) vs → total (back_by actor measure) vs + measure [] ≡ total
    (taken_by actor measure) vs + measure journal → total (back_by actor measure) ws + measure [] ≡ total (taken_by actor measure) ws + measure journal
same_releases actor journal measure vs ws taken back all = ap (λ n. n + measure []) back ∙ (all ∙ ap (λ n. n + measure journal) (sym taken))

both_logs : {A : Type 0} (f : A → ℕ) (a b : List A) → total f (a ++ b) + 0 ≡ total f b + total f a
both_logs f a b = let e = total_append f a b in omega arith

pub some_left : {A : Type 0} (a b : List A) → is_some_item a ≡ true → is_some_item (a ++ b) ≡ true
some_left [] b has = absurd (cc)
some_left (x ∷ xs) b has = refl

-- what one counted of this actor two have counted
pub record SharesAccount (actor : ℕ) (v left right : View) : Type 0 where
  pub on : on_by actor left + on_by actor right ≡ on_by actor v
  pub off : off_by actor left + off_by actor right ≡ off_by actor v
  pub put : (measure : ℕ × SysMsg → ℕ) → put_by actor measure left + put_by actor measure right ≡ put_by actor measure v
  pub got : claims_got actor left + claims_got actor right ≡ claims_got actor v
  pub back : claims_returned actor left + claims_returned actor right ≡ claims_returned actor v
  pub releases : (measure : List Entry → ℕ) → (taken_by actor measure left + taken_by actor measure right ≡ taken_by actor measure v)
      × (back_by actor measure left + back_by actor measure right ≡ back_by actor measure v)

-- and what share one had they have
pub record SharesShare (v left right : View) (e : ℕ) : Type 0 where
  pub fits : FitsIn e v.share
  pub amounts : amount e left.share + amount e right.share ≡ amount e v.share

-- what holds of each observation holds of those that are not counts
pub each_without : (P : Observation → Type 0) (log : List Observation) → Each P log → Each P (without_counts log)
each_without P [] h = tt
each_without P (Read a w ∷ log) h = (h.0, each_without P log h.1)
each_without P (Saw a j ∷ log) h = (h.0, each_without P log h.1)
each_without P (Counted a n ∷ log) h = (h.0, each_without P log h.1)
each_without P (Looked a b ∷ log) h = (h.0, each_without P log h.1)
each_without P (Sent a n ∷ log) h = each_without P log h.1
each_without P (Unsent a n ∷ log) h = each_without P log h.1
each_without P (Took a n ∷ log) h = each_without P log h.1
each_without P (Pushed a n m ∷ log) h = each_without P log h.1
each_without P (Drained a given ∷ log) h = (h.0, each_without P log h.1)
each_without P (Ended a given ∷ log) h = (h.0, each_without P log h.1)

-- and nothing is counted by those
nothing_left : (f : Observation → ℕ) (log : List Observation) → ((a w : ℕ) → f (Read a w) ≡ 0) → ((a : ℕ) (j : List Entry) → f (Saw a j) ≡ 0) → ((a n : ℕ) → f
    (Counted a n) ≡ 0) → ((a : ℕ) (b : Bool) → f (Looked a b) ≡ 0) → ((a : ℕ) (l : List (ℕ ×
    SysMsg)) → f (Drained a l) ≡ 0) → ((a : ℕ) (l : List (ℕ × SysMsg)) → f (Ended a l) ≡ 0) → total f (without_counts log) ≡ 0
nothing_left f [] r s c l d e = refl
nothing_left f (Read a w ∷ log) r s c l d e = let z = r a w in let rest = nothing_left f log r s c l d e in omega arith
nothing_left f (Saw a j ∷ log) r s c l d e = let z = s a j in let rest = nothing_left f log r s c l d e in omega arith
nothing_left f (Counted a n ∷ log) r s c l d e = let z = c a n in let rest = nothing_left f log r s c l d e in omega arith
nothing_left f (Looked a b ∷ log) r s c l d e = let z = l a b in let rest = nothing_left f log r s c l d e in omega arith
nothing_left f (Sent a n ∷ log) r s c l d e = nothing_left f log r s c l d e
nothing_left f (Unsent a n ∷ log) r s c l d e = nothing_left f log r s c l d e
nothing_left f (Took a n ∷ log) r s c l d e = nothing_left f log r s c l d e
nothing_left f (Pushed a n m ∷ log) r s c l d e = nothing_left f log r s c l d e
nothing_left f (Drained a g ∷ log) r s c l d e = let z = d a g in let rest = nothing_left f log r s c l d e in omega arith
nothing_left f (Ended a g ∷ log) r s c l d e = let z = e a g in let rest = nothing_left f log r s c l d e in omega arith

pub no_counts_on : (actor : ℕ) (log : List Observation) → total (counted_on actor) (without_counts log) ≡ 0
no_counts_on actor log = nothing_left (counted_on actor) log (λ a w. refl) (λ a j. refl) (λ a n. refl) (λ a b. refl) (λ a l. refl)
    (λ a l. refl)

pub no_counts_off : (actor : ℕ) (log : List Observation) → total (counted_off actor) (without_counts log) ≡ 0
no_counts_off actor log = nothing_left (counted_off actor) log (λ a w. refl) (λ a j. refl) (λ a n. refl) (λ a b. refl) (λ a l.
    refl) (λ a l. refl)

pub no_puts : (actor : ℕ) (measure : ℕ × SysMsg → ℕ) (log : List Observation) → total (put_in actor measure) (without_counts log) ≡ 0
no_puts actor measure log = nothing_left (put_in actor measure) log (λ a w. refl) (λ a j. refl) (λ a n. refl) (λ a b. refl) (λ a l. refl) (λ a l. refl)

-- who was seen closed is so still
pub vouches_without : (b : ℕ) (log : List Observation) → IsAmong (Read b 1) log → IsAmong (Read b 1) (without_counts log)
vouches_without b log is = subst (λ l. IsAmong (Read b 1) (without_counts l)) (sym is.joined) (from is.before)
  where
    from : (before : List Observation) → IsAmong (Read b 1) (without_counts (before ++ Read b 1 ∷ is.after))
    from [] = among_first (Read b 1) (without_counts is.after)
    from (Read a w ∷ log) = among_more (Read b 1) (Read a w) _ (from log)
    from (Saw a j ∷ log) = among_more (Read b 1) (Saw a j) _ (from log)
    from (Counted a n ∷ log) = among_more (Read b 1) (Counted a n) _ (from log)
    from (Looked a g ∷ log) = among_more (Read b 1) (Looked a g) _ (from log)
    from (Sent a n ∷ log) = from log
    from (Unsent a n ∷ log) = from log
    from (Took a n ∷ log) = from log
    from (Pushed a n m ∷ log) = from log
    from (Drained a given ∷ log) = among_more (Read b 1) (Drained a given) _ (from log)
    from (Ended a given ∷ log) = among_more (Read b 1) (Ended a given) _ (from log)

module _ {H : Type 0} (is_of : ℕ → H → Type 0) (facts : H → HomeFacts) (actors : ℕ) where
  abbrev F : ℕ → Spot Word SlotName (Slot H) Ghost → List View → Type 0
  F = Fact is_of facts actors

  abbrev Place : Type 0
  Place = Spot Word SlotName (Slot H) Ghost

  -- a view is cut in two: the first keeps the claim, no list is out, and what was owed and seen is the second's
  pub parts : (id : ℕ) (v left right : View) → left.claim ≡ v.claim → right.claim ≡ None → v.list ≡ None → left.list ≡ None → right.list ≡ None →
      right.obligations ≡ v.obligations → ((actor : ℕ) → SharesAccount actor v left right) → ((e : ℕ) → FitsIn e left.share → FitsIn e right.share
      → SharesShare v
      left right e) → ((actor : ℕ) → left.share ≡ [] → IsBare actor left) → ((actor : ℕ) → right.share ≡ [] → IsBare actor right)
      → ((b : ℕ) → HasSeenClosed b v → HasSeenClosed b right)
      → ((actor : ℕ) (x : Place) → Knows actor x v → Knows actor x left) → ((actor : ℕ) (x : Place) → Knows actor x v → Knows actor x right)
      → (actor : ℕ) (x : Place) (vs : List View) → get_elem? vs id ≡ some v → F actor x vs → F actor x (set vs id left ++ right ∷ [])
  parts id v left right claim no_claim list no_list no_list_2 obligations account share bare_left bare_right vouches knows knows_too actor x vs at f =
      record {
        valid = f.valid;
        claims = splits_locked (claim_for actor) x.ghost.holder vs id v left right at (ap (held_of actor) claim) (ap (held_of actor) no_claim)
            f.claims;
        cell = f.cell;
        lists = splits_locked (list_for actor) x.ghost.lent_to vs id v left right at (ap (lent_of actor) no_list ∙ sym (ap (lent_of actor) list)) (ap
            (lent_of actor) no_list_2) f.lists;
        list_place = f.list_place;
        ended = f.ended;
        listing = f.listing;
        named = f.named;
        put = λ q. total_splits (put_by actor q) vs id v left right at ((account actor).put q) ∙ f.put q;
        releases = λ q. same_releases actor x.ghost.journal q vs (set vs id left ++ right ∷ [])
            (total_splits (taken_by actor q) vs id v left right at ((account actor).releases q).0)
            (total_splits (back_by actor q) vs id v left right at ((account actor).releases q).1) (f.releases q);
        was_pushed = f.was_pushed;
        balance = same_balance actor (x.row Waiting) vs (set vs id left ++ right ∷ []) (total_splits (on_by actor) vs id v left right at (account
            actor).on) (total_splits (off_by actor) vs id v left right at (account actor).off) f.balance;
        claims_balance = total_splits (claims_got actor) vs id v left right at (account actor).got ∙ (f.claims_balance ∙ sym (ap (λ n. n + claims_out x.ghost.holder)
            (total_splits (claims_returned actor) vs id v left right at (account actor).back)));
        held = λ one. subst (λ k. 0 < k) (sym (total_splits (claims_got actor) vs id v left right at (account actor).got)) (f.held one);
        shares = splits_shares (λ (u : View). u.share) vs id v left right at (λ e l r. let s = share e l r in (s.fits, s.amounts)) f.shares;
        bare = splits_seen (λ (u : View). u.share ≡ [] → IsBare actor u) vs id left right (bare_left actor) (bare_right actor) f.bare;
        was_seen_closed = λ b. splits_owed (HasSeenClosed b) (IsAmong b x.ghost.closed_to) vs id v left right at (λ p. inr (vouches b p)) (f.was_seen_closed b);
        message = splits_owed (HasMessageObligation actor) (MessageDue x) vs id v left right at (λ p. inr (subst (λ ds. IsTrue ((obligation_of actor ds).message ||
            (obligation_of actor ds).sending)) (sym obligations) p)) f.message;
        system = splits_owed (HasSystemObligation actor) (SystemDue x) vs id v left right at (λ p. inr (subst (λ ds. IsTrue (obligation_of actor ds).system) (sym
            obligations) p)) f.system;
        seen = splits_seen (Knows actor x) vs id left right (knows actor x (f.seen id v at)) (knows_too actor x (f.seen id v at)) f.seen;
      }

  -- a seat takes over the view of one that has no claim and no list, and of what the two sent whatever holds as they did
  pub takes_over : (id : ℕ) (v : View) (other : ℕ) (w : View) (sent_system : List SentSystem)
      → ((P : SentSystem → Type 0) → Each P v.sent_system → Each P w.sent_system → Each P sent_system) → w.claim ≡ None → w.list ≡ None →
      is_some_item w.share ≡ true
      → (actor : ℕ) (x : Place) (vs : List View) → get_elem? vs id ≡ some v → ¬ (other ≡ id)
      → get_elem? (set vs id (record (taking_over v w) { sent_system = sent_system })) other ≡ some w
      → F actor x vs → F actor x (set (set vs id (record (taking_over v w) { sent_system = sent_system })) other blank)
  takes_over id v other w sent_system whose bare bare_list sharer actor x vs at apart there f =
      let both : View = record (taking_over v w) { sent_system = sent_system } in
      let at_other : get_elem? vs other ≡ some w = sym (set_else vs id other both apart) ∙ there in record {
        valid = f.valid;
        claims = joins_locked (claim_for actor) x.ghost.holder vs id other v w both blank at there refl (ap (held_of actor) bare) refl f.claims;
        cell = f.cell;
        lists = joins_locked (list_for actor) x.ghost.lent_to vs id other v w both blank at there refl (ap (lent_of actor) bare_list) refl f.lists;
        list_place = f.list_place;
        ended = f.ended;
        listing = f.listing;
        named = f.named;
        put = λ q. total_joins (put_by actor q) vs id other v w both blank at there (both_logs (put_in actor q) w.log v.log) ∙ f.put q;
        releases = λ q. same_releases actor x.ghost.journal q vs (set (set vs id both) other blank)
            (total_joins (taken_by actor q) vs id other v w both blank at there (both_logs (taken_in_release actor q) w.releases v.releases))
            (total_joins (back_by actor q) vs id other v w both blank at there (both_logs (back_in_release actor q) w.releases v.releases)) (f.releases q);
        was_pushed = f.was_pushed;
        balance = same_balance actor (x.row Waiting) vs (set (set vs id both) other blank)
            (total_joins (on_by actor) vs id other v w both blank at there (both_logs (counted_on actor) w.log v.log))
            (total_joins (off_by actor) vs id other v w both blank at there (both_logs (counted_off actor) w.log v.log)) f.balance;
        claims_balance = total_joins (claims_got actor) vs id other v w both blank at there (both_logs (λ a. if a == actor then 1 else 0) w.got v.got)
            ∙ (f.claims_balance ∙ sym (ap (λ n. n + claims_out x.ghost.holder) (total_joins (claims_returned actor) vs id other v w both blank at there
            (both_logs (λ a. if a == actor then 1 else 0) w.returned v.returned))));
        held = λ one. subst (λ k. 0 < k) (sym (total_joins (claims_got actor) vs id other v w both blank at there
            (both_logs (λ a. if a == actor then 1 else 0) w.got v.got))) (f.held one);
        shares = joins_shares (λ (u : View). u.share) vs id other v w both blank at apart there refl refl f.shares;
        bare = joins_seen (λ (u : View). u.share ≡ [] → IsBare actor u) vs id other both blank (λ none. absurd (no_share (w.share ++ v.share)
            (some_left w.share v.share sharer) none)) (λ _. record { got = refl; back = refl; releases = λ q. (refl, refl); on = refl; rest = λ _. (refl, refl, λ q. refl) }) f.bare;
        was_seen_closed = λ b. joins_owed (HasSeenClosed b) (IsAmong b x.ghost.closed_to) vs id other v w both blank at apart there
            (λ p. among_right (Read b 1) w.log v.log p) (λ p. among_left (Read b 1) w.log v.log p) (f.was_seen_closed b);
        message = joins_owed (HasMessageObligation actor) (MessageDue x) vs id other v w both blank at apart there
            (λ p. subst (λ (d : WakeObligation). IsTrue (d.message || d.sending)) (sym (obligation_by-added actor w.obligations v.obligations)) (either_message (obligation_to actor
            w) (obligation_to actor v) (inr p)))
            (λ p. subst (λ (d : WakeObligation). IsTrue (d.message || d.sending)) (sym (obligation_by-added actor w.obligations v.obligations)) (either_message (obligation_to actor
            w) (obligation_to actor v) (inl p))) f.message;
        system = joins_owed (HasSystemObligation actor) (SystemDue x) vs id other v w both blank at apart there
            (λ p. subst (λ (d : WakeObligation). IsTrue d.system) (sym (obligation_by-added actor w.obligations v.obligations)) (either_system (obligation_to actor w) (obligation_to actor v)
            (inr p)))
            (λ p. subst (λ (d : WakeObligation). IsTrue d.system) (sym (obligation_by-added actor w.obligations v.obligations)) (either_system (obligation_to actor w) (obligation_to actor v)
            (inl p))) f.system;
        seen = joins_seen (Knows actor x) vs id other both blank
            (record {
              seen = each_append (ObservationHolds actor x) w.log v.log (f.seen other w at_other).seen (f.seen id v at).seen;
              sent_system = whose (SentSystemHolds actor x) (f.seen id v at).sent_system (f.seen other w at_other).sent_system;
            }) (record { seen = tt; sent_system = tt }) f.seen;
      }
