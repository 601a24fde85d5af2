-- Which event each step on the gate of a list is.
use Rattle.std.proofs.Common.{◌≡◌, ◌≢◌, ℕ, ◌/◌, ◌%◌, ◌^◌, ◌<◌, ◌==◌, ⊎_elim, Bool, true, false, not, ◌||◌, if◌then◌else◌, IsTrue, IsSome, List, [], ◌∷◌, ◌++◌, get_or, set, sym, refl, ap, ◌∙◌, subst, Option, Some, None, eq-eqb, append_assoc, arith}
use mathlib.Core.Logic.{dite}
use native.Mathlib.Decide.{ℕ_discrete}
use prog.Atomic.{either}
use mathlib.Core.Option.{some, none, some-injective}
use lib.ListN.{get_elem?}
use Rattle.atomic_table.specs.Table.{State, Me, keeps, takes, gives, put_back, stepped, rest as tail_of}
use Rattle.atomic_table.proofs.Lists.{set_else, set_here}
use Rattle.mb_msg.specs.declared.system.SysMsg.{SysMsg}
use Rattle.mb_syslist.specs.MessageList.{MessageList, with_last, listed, pushed, drained, ended}
use Rattle.mb_core.specs.declared.wake_obligation.WakeObligation.{WakeObligation}
use Rattle.mb_core.specs.declared.event.Step as event
use Rattle.mb_core.specs.declared.event.Step.TheVariants.{SysAdd, SysRead, SysDrain, SysEnd}
use Rattle.mb_core.specs.Actor.{MachineActor, obligation_by, owing, has_work}
use Rattle.mb_core.specs.Run as run
use Rattle.mb_core.specs.Run.{Change}
use Rattle.mb_ghost.specs.Layout.{word_at, slot_at, Spot, spot_of}
use Rattle.mb_ghost.proofs.LayoutLemmas.{slots_apart, slot_inside}
use Rattle.mb_gate.specs.HomeFacts.{HomeFacts}
use Rattle.mb_gate.specs.declared.slot.Slot.{Slot}
use Rattle.mb_gate.specs.declared.slot.Slot.TheVariants.{List as Listing}
use Rattle.mb_gate.specs.View.{View, Observation, Pushed, Drained, Ended, Looked, Held, Lent, obligation_to, with_obligation, seeing, looking, lending, enlisting, refusing, given_after, regiven, unloading}
use Rattle.mb_gate.specs.Rule.{Word, Status, Gate, Waiting, word_offset, SlotName, slot_offset, Ghost, is_some_item, gate_word, held_of, lent_of, claim_for, list_for, ListPlace}
use Rattle.mb_gate.specs.ListWord.{shows_work}
use Rattle.mb_gate.specs.TableSteps.{ListLocked}
use Rattle.mb_gate.specs.Shown.{holder_of, work_of, shown}
use Rattle.mb_gate.proofs.Views.{held_here, held_else, lent_here, lent_else, owes_here, owes_else, drained_nothing}
use Rattle.mb_gate.proofs.StatusSteps.{is_held}
use Rattle.mb_gate.proofs.ListSteps.{is_shelved, is_lent, gate_even}
use Rattle.mb_gate.proofs.Allowed.{marked}
use Rattle.mb_refinement.specs.Refines.{IsMarked, Rule, shows, IsEvent}
use Rattle.mb_refinement.specs.ListEvents.{
  LoadIsSysRead,
  TakeOfListIsNone,
  MissOfListIsNone,
  RefusalIsNone,
  StoreIsSysAdd,
  StoreIsSysDrain,
  StoreIsSysEnd,
  CheckIsSysDrain,
}
use Rattle.mb_refinement.proofs.Places.{gate_mark, holder_stays, holder_changes, shown_listed, shown_now, list_put, mark_put, list_out, obligation_at, owed_back}
use Rattle.mb_refinement.proofs.Tables.{word_now, word_stays, event_at, silent_at, load_event, load_silent}
use Rattle.mb_refinement.proofs.StatusEvents.{first_of, won_word, lost_word}

-- an exchange of a word for itself leaves it
pub kept_word : (found old new : ℕ) → new ≡ old → either (found == old) new found ≡ found
kept_word found old new same = dite (ℕ_discrete found old) (λ hit. won_word found old new hit ∙ (same ∙ sym hit)) (λ miss. lost_word found old new miss)

no_item : (ms : List SysMsg) → is_some_item ms ≡ false → ms ≡ []
no_item [] e = refl
no_item (m ∷ ms) e = absurd (cc)

pub neither : (a b : Bool) → (a || b) ≡ false → (a ≡ false) × (b ≡ false)
neither false false e = (refl, refl)
neither true b e = absurd (cc)
neither false true e = absurd (cc)

true_not_false : (b : Bool) → b ≡ true → b ≡ false → ⊥
true_not_false b t f = cc

pub listing_same : {H : Type 0} (a b : MessageList) → (let x : Slot H = Listing a in x ≡ Listing b) → a ≡ b
listing_same a b e = cc

head_same : {A : Type 0} (a b : A) (xs ys : List A) → a ∷ xs ≡ b ∷ ys → a ≡ b
head_same a b xs ys e = cc

carried_same : {H : Type 0} (k : ℕ) (a b : MessageList) (c : List (ℕ × Slot H)) → (let x : Slot H = Listing a in (k, x) ∷ c ≡ (k, Listing b) ∷ c) → a ≡ b
carried_same {H} k a b c e = let x : Slot H = Listing a in let y : Slot H = Listing b in
    listing_same {H = H} a b (ap (λ (z : ℕ × Slot H). z.1) (head_same (k, x) (k, y) c c e))

-- nothing is listed and nothing left: there is no system work, and a drain gives nothing
no_work : (ended : Bool) (rest ms : List SysMsg) → rest ≡ [] → ms ≡ [] → has_work (if ended then None else Some (rest ++ ms)) ≡ false
no_work true rest ms r m = refl
no_work false rest ms r m = ap (λ (l : List SysMsg). has_work (Some l)) (λ i. r i ++ m i)

drains_nothing : (ended : Bool) (rest ms : List SysMsg) → rest ≡ [] → ms ≡ [] → (if ended then None else Some (rest ++ ms)) ≡ run.drained (if ended then None
    else Some (rest ++ ms))
drains_nothing true rest ms r m = refl
drains_nothing false rest ms r m = (λ i. Some (r i ++ m i))

drains_all : (ended : Bool) (rest ms : List SysMsg) → (if ended then None else Some ([] ++ [])) ≡ run.drained (if ended then None else Some (rest ++ ms))
drains_all true rest ms = refl
drains_all false rest ms = refl

adds_last : (ended : Bool) (rest ms : List SysMsg) (m : SysMsg) → (if ended then None else Some (rest ++ (ms ++ m ∷ []))) ≡ run.with_last (if ended then None
    else Some (rest ++ ms)) m
adds_last true rest ms m = refl
adds_last false rest ms m = ap Some (sym (append_assoc rest ms (m ∷ [])))

some_work : (ended : Bool) (ms : List SysMsg) → ended ≡ false → IsSome (if ended then None else Some ms)
some_work true ms e = absurd (cc)
some_work false ms e = refl

looked_same : (actor : ℕ) (b : Bool) (v : View) → b ≡ true → looking actor b v ≡ seeing (Looked actor true) v
looked_same actor b v e = ap (λ c. looking actor c v) e

module _ {H : Type 0} (is_of : ℕ → H → Type 0) (facts : H → HomeFacts) where
  abbrev Place : Type 0
  Place = Spot Word SlotName (Slot H) Ghost

  -- what the gate's word shows
  pub shown_by : (x : Place) (l : Option (ℕ × Lent)) → ListPlace is_of facts x l → shows_work (x.row Gate) ≡ (is_some_item x.ghost.listed.messages || x.ghost.gave)
  shown_by x None k = ap shows_work k.word ∙ marked false x.ghost.listed x.ghost.gave
  shown_by x (Some h) k = ap shows_work k.word ∙ marked true x.ghost.listed x.ghost.gave

  -- where it shows no system work, nothing is listed, and nothing is left
  nothing_there : (x : Place) (rest : List SysMsg) → ListPlace is_of facts x x.ghost.lent_to → IsMarked x.ghost rest → shows_work (x.row Gate) ≡ false
      → (rest ≡ []) × (x.ghost.listed.messages ≡ [])
  nothing_there x rest k m quiet = let both = neither (is_some_item x.ghost.listed.messages) x.ghost.gave (sym (shown_by x x.ghost.lent_to k) ∙ quiet) in (
    m both.1,
    no_item x.ghost.listed.messages both.0,
  )

  reads_none : (x : MachineActor) (id : ℕ) (y : MachineActor) (b : Bool) → b ≡ false → y ≡ owing x id (record (obligation_by x id) { system = false }) → y ≡ (if b then
      x else owing x id (record (obligation_by x id) { system = false }))
  reads_none x id y true e is = absurd (cc)
  reads_none x id y false e is = is

  reads_some : (x : MachineActor) (id : ℕ) (y : MachineActor) (b : Bool) → b ≡ true → y ≡ x → y ≡ (if b then x else owing x id (record (obligation_by x id) {
    system =
        false;
  }))
  reads_some x id y true e is = is
  reads_some x id y false e is = absurd (cc)

  pub load_is_sys_read : LoadIsSysRead is_of facts
  load_is_sys_read n s s' r r' actor id me st rest inside word m made =
      let v = me.0 in
      let w = made.view in
      let x : Place = spot_of word_offset slot_offset s r.ghosts actor in
      let f = r.each actor inside in
      let found = get_or s.words (word_at actor 17) 0 in
      let is : w ≡ looking actor (shows_work found) v = first_of _ _ (made.told actor word) in
      let obligation : WakeObligation = record (obligation_to actor v) { system = false } in
      let quiet : shows_work found ≡ false → IsEvent is_of facts n s r s' r' actor id SysRead rest rest =
      (λ no. let so : w ≡ with_obligation actor obligation (seeing (Looked actor false) v) = is ∙ ap (λ c. looking actor c v) no in
      let nothing = nothing_there x rest f.list_place m no in
      load_event is_of facts n s r actor inside Gate id v w me.1 obligation made.present (λ a. ap (claim_for a) so) (λ a. ap (list_for a) so)
      (λ a apart. ap (obligation_to a) so ∙ owes_else actor a obligation (seeing (Looked actor false) v) apart)
      (ap (obligation_to actor) so ∙ owes_here actor obligation (seeing (Looked actor false) v)) s' made.after r' SysRead rest
      (λ y e. reads_none (shown actor x s.views rest) id y (has_work (work_of x.ghost rest)) (no_work x.ghost.listed.closed rest x.ghost.listed.messages
      nothing.0 nothing.1)
      (e ∙ ap (λ (d : WakeObligation). owing (shown actor x s.views rest) id (record d { system = false })) (sym (obligation_at actor x s.views id v made.present
      rest))))) in
      let seen : shows_work found ≡ true → w ≡ seeing (Looked actor true) v = (λ yes. is ∙ looked_same actor (shows_work found) v yes) in (
        ⊎_elim quiet (λ work. by_work s s' r r' actor id v w me.1 rest inside made.present made.after quiet (shows_work found) refl seen work),
        (λ yes. let so = seen yes in load_silent is_of facts n s r actor inside Gate id v w me.1 made.present (λ a. record {
          claim = ap (claim_for a) so;
          list = ap (list_for a) so;
          obligation = ap (obligation_to a) so;
        }) s' made.after r'),
      )
    where
      by_work : (s s' : State (Slot H) View) (r : Rule is_of facts n s) (r' : Rule is_of facts n s') (actor id : ℕ) (v w : View) (carried : List (ℕ × Slot H))
          (rest : List SysMsg) → actor < n → get_elem? s.views id ≡ some v → s' ≡ stepped s (word_at actor 17) (get_or s.words (word_at actor 17) 0) id carried w
          keeps
          → (shows_work (get_or s.words (word_at actor 17) 0) ≡ false → IsEvent is_of facts n s r s' r' actor id SysRead rest rest)
          → (b : Bool) → shows_work (get_or s.words (word_at actor 17) 0) ≡ b → (shows_work (get_or s.words (word_at actor 17) 0) ≡ true → w ≡ seeing (Looked
          actor true) v)
          → IsTrue (has_work (shows is_of facts n s r actor rest).system) → IsEvent is_of facts n s r s' r' actor id SysRead rest rest
      by_work s s' r r' actor id v w carried rest inside at after quiet false shut seen work = quiet shut
      by_work s s' r r' actor id v w carried rest inside at after quiet true finds seen work =
          let x : Place = spot_of word_offset slot_offset s r.ghosts actor in
          let so = seen finds in
          load_event is_of facts n s r actor inside Gate id v w carried (obligation_to actor v) at (λ a. ap (claim_for a) so) (λ a. ap (list_for a) so)
          (λ a apart. ap (obligation_to a) so) (ap (obligation_to actor) so) s' after r' SysRead rest
          (λ y e. reads_some (shown actor x s.views rest) id y (has_work (work_of x.ghost rest)) work
          (e ∙ ap (λ o. record (shown actor x s.views rest) { owed = o }) (owed_back actor x s.views id v at)))

  pub miss_is_none : MissOfListIsNone is_of facts
  miss_is_none n s s' r r' actor id me st inside word miss made =
      let so : made.view ≡ me.0 = first_of _ _ ((made.told actor word).1 miss) in
      load_silent is_of facts n s r actor inside Gate id me.0 made.view me.1 made.present (λ a. record {
        claim = ap (claim_for a) so;
        list = ap (list_for a) so;
        obligation = ap (obligation_to a) so;
      }) s' (made.after ∙ ap (λ k. stepped s (word_at actor 17) k id me.1 made.view keeps) (lost_word (get_or s.words (word_at actor 17) 0) st.first st.second
      miss)) r'

  pub take_is_none : TakeOfListIsNone is_of facts
  take_is_none n s s' r r' actor id me st list inside word bare hit made =
      let v = me.0 in
      let w = made.view in
      let new = st.second in
      let x : Place = spot_of word_offset slot_offset s r.ghosts actor in
      let f = r.each actor inside in
      let found = get_or s.words (word_at actor 17) 0 in
      let out : ListLocked actor found me _ = (made.told actor word).0 hit in
      let l : Lent = record { actor = actor; listed = out.listed; gave = out.gave } in
      let is : w ≡ lending actor out.listed out.gave v = first_of _ _ out.now in
      let even : x.row Gate % 2 ≡ 0 = ap (λ k. k % 2) out.word ∙ gate_even out.listed out.gave in
      let before = is_shelved is_of facts n actor x s.views f even in
      let found_list : list ≡ out.listed = carried_same {H = H} (slot_at actor 1) list out.listed me.1 (ap (λ (z : Me (Slot H) View). z.1) out.now) in
      let there : list ≡ x.ghost.listed = listing_same {H = H} list x.ghost.listed (some-injective _ _ (some-injective _ _ (sym made.able ∙ before.1.present))) in
      let same_list : out.listed ≡ x.ghost.listed = sym found_list ∙ there in
      let same_mark : out.gave ≡ x.ghost.gave = gate_mark false x.ghost.listed out.gave x.ghost.gave (ap (λ (z : MessageList). gate_word false z out.gave) (sym
      same_list) ∙ (sym out.word ∙ before.1.word)) in
      silent_at is_of facts n s r actor inside Gate new id v w me.1 (takes (slot_at actor 1) (Listing list)) made.present
      (λ a apart. record {
        claim = ap (claim_for a) is;
        list = ap (list_for a) is ∙ (lent_else a l (λ e. apart (sym e)) ∙ sym (ap (lent_of a) bare));
        obligation = ap (obligation_to a) is;
      })
      (λ a apart. set_else s.homes (slot_at actor 1) (slot_at a 1) none (slots_apart a actor 1 1 (omega arith) (omega arith) apart)) s'
      (made.after ∙ ap (λ k. stepped s (word_at actor 17) k id me.1 w (takes (slot_at actor 1) (Listing list))) (won_word found st.first st.second hit)) r'
      (λ q. let x' : Place = spot_of word_offset slot_offset (stepped s (word_at actor 17) new id me.1 w (takes (slot_at actor 1) (Listing list))) q.ghosts actor
      in
      let f' = q.each actor inside in
      let now = list_out is_of facts n actor x x' s.views id v w made.present f f' l before.0 (ap (list_for actor) is ∙ lent_here actor l refl) in record {
        same = shown_listed is_of facts n actor x x' s.views id v w made.present f f' (ap (claim_for actor) is) (ap (obligation_to actor) is)
            (word_stays is_of facts n s r actor inside Gate Status new (λ e. omega arith)) (word_stays is_of facts n s r actor inside Gate Waiting new (λ e.
            omega arith)) (now.0 ∙ same_list);
        marked = λ rest m quiet. m (sym (now.1 ∙ same_mark) ∙ quiet);
      })

  pub refusal_is_none : RefusalIsNone is_of facts
  refusal_is_none n s s' r r' actor id me st message inside word said same made =
      let found = get_or s.words (word_at actor 17) 0 in
      let stays : s' ≡ stepped s (word_at actor 17) found id me.1 made.view keeps = made.after ∙ ap (λ k. stepped s (word_at actor 17) k id me.1 made.view keeps)
      (kept_word found st.first st.second same) in
      dite (ℕ_discrete found st.first)
      (λ hit. let so : made.view ≡ refusing actor message me.0 = first_of _ _ ((made.told actor message word said).0 hit).0 in
      load_silent is_of facts n s r actor inside Gate id me.0 made.view me.1 made.present (λ a. record {
        claim = ap (claim_for a) so;
        list = ap (list_for a) so;
        obligation = ap (obligation_to a) so;
      }) s' stays r')
      (λ miss. let so : made.view ≡ me.0 = first_of _ _ ((made.told actor message word said).1 miss) in
      load_silent is_of facts n s r actor inside Gate id me.0 made.view me.1 made.present (λ a. record {
        claim = ap (claim_for a) so;
        list = ap (list_for a) so;
        obligation = ap (obligation_to a) so;
      }) s' stays r')

  -- a list that is put back lies in its slot
  put_there : (n : ℕ) (s : State (Slot H) View) (r : Rule is_of facts n s) (actor : ℕ) (carried : List (ℕ × Slot H)) (new : MessageList) → actor < n
      → carried ≡ (slot_at actor 1, Listing new) ∷ tail_of carried
      → (get_elem? (put_back s.homes carried) (slot_at actor 1) ≡ some (some (Listing new)))
      × ((a : ℕ) → a ≢ actor → get_elem? (put_back s.homes carried) (slot_at a 1) ≡ get_elem? s.homes (slot_at a 1))
  put_there n s r actor carried new inside carries = (
    ap (λ l. get_elem? (put_back s.homes l) (slot_at actor 1)) carries
        ∙ set_here s.homes (slot_at actor 1) (some (Listing new)) (let l = slot_inside actor 1 n (omega arith) inside in let c = r.slot_count in omega arith),
    (λ a apart. ap (λ l. get_elem? (put_back s.homes l) (slot_at a 1)) carries
        ∙ set_else s.homes (slot_at actor 1) (slot_at a 1) (some (Listing new)) (slots_apart a actor 1 1 (omega arith) (omega arith) apart)),
  )

  pub store_is_sys_add : StoreIsSysAdd is_of facts
  store_is_sys_add n s s' r r' actor id me st l message rest inside word has of carried made =
      let told = made.told actor l message has carried in
      let gate = told.1 in
      let unended = told.2 in
      let v = me.0 in
      let w = made.view in
      let new = with_last l.listed message in
      let x : Place = spot_of word_offset slot_offset s r.ghosts actor in
      let f = r.each actor inside in
      let lent = is_lent is_of facts n actor id x s.views v l f made.present has of in
      let is : w ≡ enlisting actor (pushed l.listed) message v = first_of _ _ told.0 in
      let obligation : WakeObligation = record (obligation_to actor v) { system = true } in
      let u : View = record v {
        log = Pushed actor (pushed l.listed) message ∷ v.log;
        list = None;
        sent_system = record { to = actor; message = message; was_ended = false } ∷ v.sent_system;
      } in
      let put = put_there n s r actor me.1 new inside carried in
      let open_yet : x.ghost.listed.closed ≡ false = ap (λ (z : MessageList). z.closed) (sym lent.1.taken) ∙ unended in
      event_at is_of facts n s r actor inside Gate st.first id v w me.1 gives made.present
      (λ a apart. record {
        claim = ap (claim_for a) is;
        list = ap (list_for a) is ∙ sym (ap (lent_of a) has ∙ lent_else a l (λ e. apart (sym e ∙ of)));
        obligation = ap (obligation_to a) is ∙ owes_else actor a obligation u apart;
      }) put.1 s' made.after r' (SysAdd message) rest rest
      (λ q. let x' : Place = spot_of word_offset slot_offset (stepped s (word_at actor 17) st.first id me.1 w gives) q.ghosts actor in
      let f' = q.each actor inside in
      let lacks = ap (list_for actor) is in
      let now = list_put is_of facts n actor x x' s.views id v w made.present f f' l new lent.0 lacks put.0 in (
        (
          some_work x.ghost.listed.closed (rest ++ x.ghost.listed.messages) open_yet,
          shown_now is_of facts n actor x x' s.views id v w made.present f f' (x.row Status) (x.row Waiting) (run.with_last (work_of x.ghost rest) message)
              (holder_of x.ghost.holder) obligation rest (word_stays is_of facts n s r actor inside Gate Status st.first (λ e. omega arith)) (word_stays is_of facts n s
              r actor inside Gate Waiting st.first (λ e. omega arith))
              (ap (λ (z : MessageList). if z.closed then None else Some (rest ++ z.messages)) (now ∙ ap (λ (z : MessageList). with_last z message) lent.1.taken)
              ∙ adds_last x.ghost.listed.closed rest x.ghost.listed.messages message)
              (ap holder_of (holder_stays is_of facts n actor x x' s.views id v w made.present f f' (ap (claim_for actor) is)))
              (ap (obligation_to actor) is ∙ owes_here actor obligation u)
              ∙ ap (λ (d : WakeObligation). owing (record (shown actor x s.views rest) { system = run.with_last (work_of x.ghost rest) message }) id (record d {
                system = true;
              })) (sym (obligation_at actor x s.views id v made.present rest)),
        ),
        (λ m quiet. m (sym (mark_put is_of facts n actor x x' s.views id v w made.present f f' l new l.gave lent.0 lacks now (word_now is_of facts n s r actor
            inside Gate st.first ∙ gate) ∙ lent.1.gave) ∙ quiet)),
      ))

  -- the holder puts back a list out of which it took all
  unloads_as : (n : ℕ) (s s' : State (Slot H) View) (r : Rule is_of facts n s) (r' : Rule is_of facts n s') (actor id word : ℕ) (v w : View) (l : Lent) (c :
      Held) (seen : Observation) (gave : Bool) (new : MessageList) (carried : List (ℕ × Slot H)) (rest : List SysMsg) → actor < n → get_elem? s.views id ≡ some v
      → v.list ≡ Some l → l.actor ≡ actor → v.claim ≡ Some c → c.actor ≡ actor → carried ≡ (slot_at actor 1, Listing new) ∷ tail_of carried
      → w ≡ unloading seen (listed l.listed) gave v → s' ≡ stepped s (word_at actor 17) word id carried w gives → (step : event.Step)
      → ((x' : Place) → x'.ghost.listed ≡ new → (IsTrue x'.ghost.listed.closed → x'.row Status ≡ 1) → x'.row Status ≡ get_or s.words (word_at actor 16) 0
      → (y : MachineActor) → holder_of (r.ghosts actor).holder ≡ Some id → (r.ghosts actor).listed ≡ l.listed
      → y ≡ record (shows is_of facts n s r actor rest) { system = work_of x'.ghost [] } → Change (shows is_of facts n s r actor rest) id step y)
      → IsEvent is_of facts n s r s' r' actor id step rest []
  unloads_as n s s' r r' actor id word v w l c seen gave new carried rest inside at has of_list owns of carries is after step so =
      let x : Place = spot_of word_offset slot_offset s r.ghosts actor in
      let f = r.each actor inside in
      let given = listed l.listed in
      let h = is_held is_of facts n actor id x s.views v c f at owns of in
      let lent = is_lent is_of facts n actor id x s.views v l f at has of_list in
      let c' : Held = record c { gave = gave; given = given_after c.given given; drained = c.drained ++ given } in
      let put = put_there n s r actor carried new inside carries in
      event_at is_of facts n s r actor inside Gate word id v w carried gives at
      (λ a apart. record {
        claim = ap (claim_for a) is ∙ (ap (λ z. held_of a (regiven given gave z)) owns ∙ (held_else a c' (λ e. apart (sym e ∙ of)) ∙ sym (ap (held_of a) owns ∙
            held_else a c (λ e. apart (sym e ∙ of)))));
        list = ap (list_for a) is ∙ sym (ap (lent_of a) has ∙ lent_else a l (λ e. apart (sym e ∙ of_list)));
        obligation = ap (obligation_to a) is;
      }) put.1 s' after r' step rest []
      (λ q. let x' : Place = spot_of word_offset slot_offset (stepped s (word_at actor 17) word id carried w gives) q.ghosts actor in
      let f' = q.each actor inside in
      let lacks = ap (list_for actor) is in
      let now = list_put is_of facts n actor x x' s.views id v w at f f' l new lent.0 lacks put.0 in
      let status = word_stays is_of facts n s r actor inside Gate Status word (λ e. omega arith) in
      let claim : claim_for actor w ≡ Some c' = ap (claim_for actor) is ∙ (ap (λ z. held_of actor (regiven given gave z)) owns ∙ held_here actor c' of) in (
        so x' now f'.ended status (shown actor x' (set s.views id w) []) (ap holder_of h.0) (sym lent.1.taken)
            (shown_now is_of facts n actor x x' s.views id v w at f f' (x.row Status) (x.row Waiting) (work_of x'.ghost []) (holder_of x.ghost.holder)
            (obligation_to actor v) [] status (word_stays is_of facts n s r actor inside Gate Waiting word (λ e. omega arith)) refl
            (ap holder_of (holder_changes is_of facts n actor x x' s.views id v w at f f' c c' h.0 claim) ∙ sym (ap holder_of h.0)) (ap (obligation_to actor)
            is)
            ∙ ap (λ o. record (shown actor x s.views rest) { system = work_of x'.ghost []; owed = o }) (owed_back actor x s.views id v at)),
        (λ m quiet. refl),
      ))

  pub store_is_sys_drain : StoreIsSysDrain is_of facts
  store_is_sys_drain n s s' r r' actor id me st l c rest inside word has of_list owns of made =
      let carried : me.1 ≡ (slot_at actor 1, Listing (drained l.listed)) ∷ tail_of me.1 = subst (λ b. me.1 ≡ (slot_at b 1, Listing (drained l.listed)) ∷ tail_of
      me.1) of_list (made.told l c has owns).3 in
      unloads_as n s s' r r' actor id st.first me.0 made.view l c (Drained l.actor (listed l.listed)) (is_some_item l.listed.messages) (drained l.listed) me.1 rest
      inside made.present has of_list owns of carried (first_of _ _ (made.told l c has owns).0) made.after SysDrain
      (λ x' now ends status y held was e. (
        held,
        e ∙ ap (λ z. record (shows is_of facts n s r actor rest) { system = z }) (ap (λ (z : MessageList). if z.closed then None else Some ([] ++ z.messages)) (now
            ∙ ap drained (sym was)) ∙ drains_all (r.ghosts actor).listed.closed rest (r.ghosts actor).listed.messages),
      ))

  pub store_is_sys_end : StoreIsSysEnd is_of facts
  store_is_sys_end n s s' r r' actor id me st l c rest inside word has of_list owns of made =
      let carried : me.1 ≡ (slot_at actor 1, Listing (ended l.listed)) ∷ tail_of me.1 = subst (λ b. me.1 ≡ (slot_at b 1, Listing (ended l.listed)) ∷ tail_of
      me.1) of_list (made.told l c has owns).3 in
      unloads_as n s s' r r' actor id st.first me.0 made.view l c (Ended l.actor (listed l.listed)) c.gave (ended l.listed) me.1 rest
      inside made.present has of_list owns of carried (first_of _ _ (made.told l c has owns).0) made.after SysEnd
      (λ x' now ends status y held was e. (
        held,
        eq-eqb (get_or s.words (word_at actor 16) 0) 1 (sym status ∙ ends (ap (λ (z : MessageList). z.closed) now)),
        e ∙ ap (λ z. record (shows is_of facts n s r actor rest) { system = z }) (ap (λ (z : MessageList). if z.closed then None else Some ([] ++ z.messages)) now),
      ))

  no_work_shown : (k : ℕ) → k % 8 ≡ 0 → shows_work k ≡ false
  no_work_shown k e = ap not (eq-eqb (k / 2 % 4) 0 (omega arith))

  pub check_is_sys_drain : CheckIsSysDrain is_of facts
  check_is_sys_drain n s s' r r' actor id me st c rest inside word owns of bare m made =
      let v = me.0 in
      let w = made.view in
      let x : Place = spot_of word_offset slot_offset s r.ghosts actor in
      let f = r.each actor inside in
      let found = get_or s.words (word_at actor 17) 0 in
      let h = is_held is_of facts n actor id x s.views v c f made.present owns of in
      let told = made.told actor c word owns of bare in (
        (λ hit. let quiet = no_work_shown found hit in
            let nothing = nothing_there x rest f.list_place m quiet in
            let gave : c.gave ≡ false = h.1.gave ∙ (neither (is_some_item x.ghost.listed.messages) x.ghost.gave (sym (shown_by x x.ghost.lent_to f.list_place) ∙
            quiet)).1 in
            let small : c.given < 2 ^ 64 = (let one = h.1.count in let two = f.listing.counted in omega arith) in
            let so : w ≡ seeing (Drained actor []) v = first_of _ _ (told.0 hit) ∙ sym (drained_nothing actor c v owns bare gave small) in
            load_event is_of facts n s r actor inside Gate id v w me.1 (obligation_to actor v) made.present (λ a. ap (claim_for a) so) (λ a. ap (list_for a) so)
            (λ a apart. ap (obligation_to a) so) (ap (obligation_to actor) so) s' made.after r' SysDrain rest
            (λ y e. (
              ap holder_of h.0,
              e ∙ (λ i. record (shown actor x s.views rest) {
                system = drains_nothing x.ghost.listed.closed rest x.ghost.listed.messages nothing.0 nothing.1 i;
                owed = owed_back actor x s.views id v made.present i;
              }),
            ))),
        (λ miss. let so : w ≡ seeing (Looked actor true) v = first_of _ _ (told.1 miss) in
            load_silent is_of facts n s r actor inside Gate id v w me.1 made.present (λ a. record {
              claim = ap (claim_for a) so;
              list = ap (list_for a) so;
              obligation = ap (obligation_to a) so;
            }) s' made.after r'),
      )
