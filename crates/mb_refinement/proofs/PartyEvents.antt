-- A split and a join of seats are the machine's.
use Rattle.std.proofs.Common.{◌≡◌, ℕ, ◌<◌, ◌==◌, ⊎_elim, Bool, true, false, ◌||◌, if◌then◌else◌, List, [], ◌∷◌, ◌++◌, map, set, sym, refl, ap, ◌∙◌, subst, Option, option_map, Some, None, eq-eqb, ne_eqb, arith}
use Rattle.std.proofs.lemmas.List.{map-set, length-map}
use mathlib.Core.Logic.{dite}
use native.Mathlib.Decide.{ℕ_discrete}
use mathlib.Core.Option.{some}
use lib.ListN.{get_elem?}
use Rattle.atomic_table.specs.Table.{State}
use Rattle.atomic_table.proofs.Lists.{set_else}
use Rattle.mb_status.specs.Mailbox.{mailbox_of}
use Rattle.mb_msg.specs.declared.system.SysMsg.{SysMsg}
use Rattle.mb_core.specs.declared.wake_obligation.WakeObligation.{WakeObligation}
use Rattle.mb_core.specs.Actor.{MachineActor, nothing}
use Rattle.mb_core.specs.Parties as parties
use Rattle.mb_ghost.specs.Layout.{Spot, spot_of}
use Rattle.mb_ghost.specs.Locked.{Locked}
use Rattle.mb_ghost.proofs.LockedLemmas.{splits_locked, joins_locked, ticket_here}
use Rattle.mb_gate.specs.HomeFacts.{HomeFacts}
use Rattle.mb_gate.specs.declared.slot.Slot.{Slot}
use Rattle.mb_gate.specs.View.{View, Held, obligation_of, obligation_to, either_obligation, added_obligations, blank, claim_alone, without_claim, copied, split_off, halving, taking_over, taking_in}
use Rattle.mb_gate.specs.Rule.{Word, Status, Gate, Waiting, word_offset, SlotName, ListSlot, slot_offset, Ghost, held_of, lent_of, claim_for, list_for, ListPlace, Fact}
use Rattle.mb_gate.specs.Shown.{holder_of, work_of, shown}
use Rattle.mb_refinement.specs.Refines.{Rule, shows}
use Rattle.mb_gate.specs.TwoClaims.{moved_out, moved_in}
use Rattle.mb_gate.specs.Together.{together, came_back}
use Rattle.mb_refinement.specs.Parts.{parted}
use Rattle.mb_refinement.proofs.Tables.{seat_there}
use Rattle.mb_refinement.specs.PartyEvents.{MovesAreSplits, TogetherIsJoin, AgainIsPart, IsCut, IsMerge, IsShownAs, SplitsAreSplits, JoinsAreJoins}
use Rattle.mb_refinement.proofs.Places.{locked_once, listed_stays, gave_stays, obligation_at, owed_back}

map-snoc : {A B : Type 0} (f : A → B) (xs : List A) (y : A) → map f (xs ++ y ∷ []) ≡ map f xs ++ f y ∷ []
map-snoc f [] y = refl
map-snoc f (x ∷ xs) y = ap (λ l. f x ∷ l) (map-snoc f xs y)

or_swaps : (a b : Bool) → (a || b) ≡ (b || a)
or_swaps true true = refl
or_swaps true false = refl
or_swaps false true = refl
or_swaps false false = refl

or_none : (a : Bool) → a ≡ (a || false)
or_none true = refl
or_none false = refl

eqb_same : (a b : ℕ) → (a == b) ≡ true → a ≡ b
eqb_same a b e = dite (ℕ_discrete a b) (λ same. same) (λ other. absurd (false_true (sym (ne_eqb a b other) ∙ e)))
  where
    false_true : false ≡ true → ⊥
    false_true e = cc

-- what is owed once the obligations of one list are added to those of another
added_owes : (actor : ℕ) (ds old : List (ℕ × WakeObligation)) → obligation_of actor (added_obligations ds old) ≡ parties.both (obligation_of actor old)
    (obligation_of actor ds)
added_owes actor [] old = let d = obligation_of actor old in λ i. record { system = or_none d.system i; message = or_none d.message i; sending = or_none d.sending i }
added_owes actor (d ∷ ds) old = cases (added_owes actor ds old) (d.0 == actor) refl
  where
    cases : obligation_of actor (added_obligations ds old) ≡ parties.both (obligation_of actor old) (obligation_of actor ds) → (b : Bool) → (d.0 == actor) ≡ b → (if b then either_obligation d.1 (obligation_of d.0 old) else obligation_of actor (added_obligations ds old)) ≡
        parties.both (obligation_of actor old) (if b then d.1 else obligation_of actor ds)
    cases more true e = (λ i. either_obligation d.1 (obligation_of (eqb_same d.0 actor e i) old)) ∙ (let o = obligation_of actor old in λ i. record {
      system = or_swaps d.1.system o.system i;
      message = or_swaps d.1.message o.message i;
      sending = or_swaps d.1.sending o.sending i;
    })
    cases more false e = more

module _ {H : Type 0} (is_of : ℕ → H → Type 0) (facts : H → HomeFacts) where
  abbrev Place : Type 0
  Place = Spot Word SlotName (Slot H) Ghost

  -- an actor of which only the views change, with the same claims and lists, is shown with the same holder, list and mark
  module _ (n actor : ℕ) (x x' : Place) (vs vs' : List View) (f : Fact is_of facts n actor x vs) (f' : Fact is_of facts n actor x' vs')
      (row : x'.row ≡ x.row) (slot : x'.slot ≡ x.slot) (claims : Locked (claim_for actor) x.ghost.holder vs') (lists : Locked (list_for actor)
      x.ghost.lent_to vs') where
    same_lender : x'.ghost.lent_to ≡ x.ghost.lent_to
    same_lender = locked_once (list_for actor) x.ghost.lent_to x'.ghost.lent_to vs' lists f'.lists

    same_list : x'.ghost.listed ≡ x.ghost.listed
    same_list = listed_stays is_of facts x x' x.ghost.lent_to f.list_place (subst (ListPlace is_of facts x') same_lender f'.list_place) (λ i. slot i ListSlot)

    same_mark : x'.ghost.gave ≡ x.ghost.gave
    same_mark = gave_stays is_of facts x x' x.ghost.lent_to f.list_place (subst (ListPlace is_of facts x') same_lender f'.list_place) same_list (λ i. row i Gate)

    reshown : (owed : List WakeObligation) → map (obligation_to actor) vs' ≡ owed → (rest : List SysMsg) → shown actor x' vs' rest ≡ record (shown actor x vs
        rest) { owed = owed }
    reshown owed o rest i = record {
      mailbox = mailbox_of (row i Status);
      envelopes = [];
      waiting = row i Waiting;
      system = work_of (record x.ghost { listed = same_list i }) rest;
      holder = holder_of (locked_once (claim_for actor) x.ghost.holder x'.ghost.holder vs' claims f'.claims i);
      owed = o i;
    }

  -- a view is cut in two, of which the second has neither claim nor list
  cut_as : (n : ℕ) (s s' : State (Slot H) View) (r : Rule is_of facts n s) (r' : Rule is_of facts n s') (id : ℕ) (v left right : View) (actor : ℕ) → actor < n
      → (obligation theirs : WakeObligation) → claim_for actor left ≡ claim_for actor v → claim_for actor right ≡ None → list_for actor left ≡ list_for actor v → list_for
      actor right ≡ None → obligation_to actor left ≡ obligation → obligation_to actor right ≡ theirs → IsCut id v left right s s' → (makes :
      MachineActor → MachineActor)
      → ((rest : List SysMsg) (y : MachineActor) → y ≡ record (shows is_of facts n s r actor rest) {
        owed = set (map (obligation_to actor) s.views) id obligation ++ theirs ∷ [];
      } → y ≡ makes (shows is_of facts n s r actor rest))
      → IsShownAs is_of facts n s r s' r' makes actor
  cut_as n s s' r r' id v left right actor inside obligation theirs claim none list no_list owes owes_too made makes so =
      subst (λ (z : State (Slot H) View). (q : Rule is_of facts n z) → IsShownAs is_of facts n s r z q makes actor) (sym made.after)
      (λ q.
      let vs' = set s.views id left ++ right ∷ [] in
      let x : Place = spot_of word_offset slot_offset s r.ghosts actor in
      let x' : Place = spot_of word_offset slot_offset (record { words = s.words; homes = s.homes; views = vs' }) q.ghosts actor in
      let f = r.each actor inside in
      let f' = q.each actor inside in
      let claims = splits_locked (claim_for actor) x.ghost.holder s.views id v left right made.present claim none f.claims in
      let lists = splits_locked (list_for actor) x.ghost.lent_to s.views id v left right made.present list no_list f.lists in
      let owed : map (obligation_to actor) vs' ≡ set (map (obligation_to actor) s.views) id obligation ++ theirs ∷ [] =
      map-snoc (obligation_to actor) (set s.views id left) right ∙ (λ i. (map-set (obligation_to actor) s.views id left ∙ ap (set (map (obligation_to actor)
      s.views) id) owes) i ++ owes_too i ∷ []) in record {
        same = λ rest. so rest (shown actor x' vs' rest) (reshown n actor x x' s.views vs' f f' refl refl claims lists (set (map (obligation_to actor) s.views) id
            obligation ++ theirs ∷ []) owed rest);
        marked = λ rest m quiet. m (sym (same_mark n actor x x' s.views vs' f f' refl refl claims lists) ∙ quiet);
      }) r'

  copies_as : (n : ℕ) (s : State (Slot H) View) (r : Rule is_of facts n s) (id : ℕ) (v : View) (actor : ℕ) → get_elem? s.views id ≡ some v → (rest : List SysMsg)
      (y : MachineActor) → y ≡ record (shows is_of facts n s r actor rest) {
        owed = set (map (obligation_to actor) s.views) id (obligation_to actor v) ++ obligation_to actor v ∷ [];
      } → y ≡ parties.copied (shows is_of facts n s r actor rest) id
  copies_as n s r id v actor at rest y e =
      let x : Place = spot_of word_offset slot_offset s r.ghosts actor in
      e ∙ (λ i. record (shown actor x s.views rest) { owed = owed_back actor x s.views id v at i ++ sym (obligation_at actor x s.views id v at rest) i ∷ [] })

  moves_as : (n : ℕ) (s : State (Slot H) View) (r : Rule is_of facts n s) (id : ℕ) (v : View) (actor : ℕ) → get_elem? s.views id ≡ some v → (rest : List SysMsg)
      (y : MachineActor) → y ≡ record (shows is_of facts n s r actor rest) {
        owed = set (map (obligation_to actor) s.views) id nothing ++ obligation_to actor v ∷ [];
      } → y ≡ parties.moved (shows is_of facts n s r actor rest) id
  moves_as n s r id v actor at rest y e =
      let x : Place = spot_of word_offset slot_offset s r.ghosts actor in
      e ∙ (λ i. record (shown actor x s.views rest) {
        owed = set (map (obligation_to actor) s.views) id nothing ++ sym (obligation_at actor x s.views id v at rest) i ∷ [];
      })

  pub splits_are_splits : SplitsAreSplits is_of facts
  splits_are_splits n s s' r r' id v no_list = (
    (λ bare made actor inside. cut_as n s s' r r' id v (halving v) (copied v) actor inside (obligation_to actor v) (obligation_to actor v) refl (ap (held_of actor) bare) refl (ap (lent_of
        actor) no_list) refl refl made (λ x. parties.copied x id) (copies_as n s r id v actor made.present)),
    (λ bare made actor inside. cut_as n s s' r r' id v (split_off v) (halving v) actor inside nothing (obligation_to actor v) (sym (ap (held_of actor) bare)) (ap (held_of actor) bare)
        (sym (ap (lent_of actor) no_list)) (ap (lent_of actor) no_list) refl refl made (λ x. parties.moved x id) (moves_as n s r id v actor made.present)),
    (λ made actor inside. cut_as n s s' r r' id v (claim_alone v) (without_claim v) actor inside nothing (obligation_to actor v) refl refl (sym (ap (lent_of actor) no_list)) (ap (lent_of
        actor) no_list) refl refl made (λ x. parties.moved x id) (moves_as n s r id v actor made.present)),
  )

  -- who has no claim does not hold
  not_holder : (actor other id : ℕ) (vs : List View) (w : View) (holder : Option (ℕ × Held)) → get_elem? vs other ≡ some w → claim_for actor w ≡ None → Locked
      (claim_for actor) holder vs → holder_of holder ≡ option_map (λ party. if party == other then id else party) (holder_of holder)
  not_holder actor other id vs w None at bare locked = refl
  not_holder actor other id vs w (Some h) at bare locked = ap (λ (b : Bool). Some (if b then id else h.0)) (sym (ne_eqb h.0 other (λ e. absurd (some_none h.1 (sym
      (ap (λ b. if b then Some h.1 else None) (eq-eqb h.0 other e)) ∙ (sym (locked other) ∙ (ticket_here (claim_for actor) vs other w at ∙ bare)))))))
    where
      some_none : {A : Type 0} (a : A) → Some a ≡ None → ⊥
      some_none a e = cc

  merge_as : (n : ℕ) (s s' : State (Slot H) View) (r : Rule is_of facts n s) (r' : Rule is_of facts n s') (id other : ℕ) (v w both : View) (actor : ℕ) → actor
      < n → w.claim ≡ None → w.list ≡ None → claim_for actor both ≡ claim_for actor v → list_for actor both ≡ list_for actor v → obligation_to actor both ≡
      parties.both (obligation_to actor v) (obligation_to actor w) → IsMerge id other v w both s s' → IsShownAs is_of facts n s r s' r' (λ x. parties.absorbed x
      id other) actor
  merge_as n s s' r r' id other v w both actor inside bare no_list claim list owes made =
      subst (λ (z : State (Slot H) View). (q : Rule is_of facts n z) → IsShownAs is_of facts n s r z q (λ x. parties.absorbed x id other) actor) (sym made.after)
      (λ q.
      let vs' = set (set s.views id both) other blank in
      let x : Place = spot_of word_offset slot_offset s r.ghosts actor in
      let x' : Place = spot_of word_offset slot_offset (record { words = s.words; homes = s.homes; views = vs' }) q.ghosts actor in
      let f = r.each actor inside in
      let f' = q.each actor inside in
      let there : get_elem? (set s.views id both) other ≡ some w = set_else s.views id other both made.two ∙ made.there in
      let claims = joins_locked (claim_for actor) x.ghost.holder s.views id other v w both blank made.present there claim (ap (held_of actor) bare) refl f.claims in
      let lists = joins_locked (list_for actor) x.ghost.lent_to s.views id other v w both blank made.present there list (ap (lent_of actor) no_list) refl f.lists in
      let owed : map (obligation_to actor) vs' ≡ set (set (map (obligation_to actor) s.views) id (parties.both (obligation_to actor v) (obligation_to actor w)))
      other nothing = map-set (obligation_to actor) (set s.views id both) other blank ∙ (λ i. set ((map-set (obligation_to actor) s.views id both ∙ ap (set (map
      (obligation_to actor) s.views) id) owes) i) other nothing) in record {
        same = λ rest. reshown n actor x x' s.views vs' f f' refl refl claims lists (set (set (map (obligation_to actor) s.views) id (parties.both (obligation_to
            actor v) (obligation_to actor w))) other nothing) owed rest
            ∙ (λ i. record (shown actor x s.views rest) {
              holder = not_holder actor other id s.views w x.ghost.holder made.there (ap (held_of actor) bare) f.claims i;
              owed = set (set (map (obligation_to actor) s.views) id (parties.both (sym (obligation_at actor x s.views id v made.present rest) i) (sym (obligation_at actor x s.views
                  other w made.there rest) i))) other nothing;
            });
        marked = λ rest m quiet. m (sym (same_mark n actor x x' s.views vs' f f' refl refl claims lists) ∙ quiet);
      }) r'

  pub joins_are_joins : JoinsAreJoins is_of facts
  joins_are_joins n s s' r r' id other v w bare no_list made actor inside = ⊎_elim
      (λ m. merge_as n s s' r r' id other v w (taking_over v w) actor inside bare no_list refl refl (added_owes actor w.obligations v.obligations) m)
      (λ m. merge_as n s s' r r' id other v w (taking_in v w) actor inside bare no_list refl refl (added_owes actor w.obligations v.obligations) m) made

  -- ---- a look together

  pub moves_are_splits : MovesAreSplits is_of facts
  moves_are_splits n s s' r r' id v bare no_list made actor inside = cut_as n s s' r r' id v (moved_out v) (moved_in v) actor inside nothing (obligation_to actor v)
      (sym (ap (held_of actor) bare)) (ap (held_of actor) bare) (sym (ap (lent_of actor) no_list)) (ap (lent_of actor) no_list) refl refl made
      (λ x. parties.moved x id) (moves_as n s r id v actor made.present)

  pub together_is_join : TogetherIsJoin is_of facts
  together_is_join n s s' r r' id other v w bare no_list made actor inside = ⊎_elim
      (λ m. merge_as n s s' r r' id other v w (together v w) actor inside bare no_list refl refl (added_owes actor w.obligations v.obligations) m)
      (λ m. merge_as n s s' r r' id other v w (came_back v w) actor inside bare no_list
      (ap (held_of actor) bare ∙ sym (ap (claim_for actor) m.0)) (ap (lent_of actor) no_list ∙ sym (ap (list_for actor) m.0))
      (ap (λ d. parties.both d (obligation_to actor w)) (sym (ap (obligation_to actor) m.0))) m.1) made

  pub again_is_part : AgainIsPart is_of facts
  again_is_part n s s' r r' id v w bare no_list made actor inside =
      let x : Place = spot_of word_offset slot_offset s r.ghosts actor in
      let mine = obligation_to actor v in
      let theirs = obligation_to actor w in (
        mine,
        theirs,
        (λ rest. record {
          present = (let l = length-map s.views (obligation_to actor) in let p = seat_there s.views id (together v w) made.present in omega arith);
          whole = sym (obligation_at actor x s.views id (together v w) made.present rest ∙ added_owes actor w.obligations v.obligations);
        }),
        cut_as n s s' r r' id (together v w) v w actor inside mine theirs refl (ap (held_of actor) bare) refl (ap (lent_of actor) no_list) refl refl made
            (λ x. parted x id mine theirs) (λ rest y e. e),
      )
