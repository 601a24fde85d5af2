-- A step at one place leaves what the table shows of the others.
use Rattle.std.proofs.Common.{◌≡◌, ◌≢◌, ℕ, zero, suc, ◌<◌, List, [], ◌∷◌, length, get_or, set, sym, refl, ap, ◌∙◌, subst, arith, get_or-set_other, get_or-set_same}
use mathlib.Core.Logic.{dite}
use native.Mathlib.Decide.{ℕ_discrete}
use mathlib.Core.Option.{some, some-ne-none}
use lib.ListN.{get_elem?}
use Rattle.atomic_table.specs.Table.{State, Act, keeps, homes_after, stepped}
use Rattle.mb_msg.specs.declared.system.SysMsg.{SysMsg}
use Rattle.mb_core.specs.declared.event.Step.{Step}
use Rattle.mb_core.specs.Run.{Change}
use Rattle.mb_ghost.specs.Layout.{word_at, slot_at, Spot, spot_of}
use Rattle.mb_ghost.proofs.LayoutLemmas.{words_apart, word_inside}
use Rattle.mb_gate.specs.HomeFacts.{HomeFacts}
use Rattle.mb_gate.specs.declared.slot.Slot.{Slot}
use Rattle.mb_gate.specs.View.{View}
use Rattle.mb_gate.specs.Rule.{Word, Status, Gate, Waiting, word_offset, SlotName, slot_offset, Ghost}
use Rattle.mb_gate.proofs.Allowed.{words_few}
use Rattle.std.proofs.lemmas.List.{set-get_or}
use Rattle.mb_core.specs.declared.wake_obligation.WakeObligation.{WakeObligation}
use Rattle.mb_core.specs.Actor.{MachineActor, owing}
use Rattle.mb_gate.specs.View.{obligation_to}
use Rattle.mb_gate.specs.Rule.{claim_for, list_for}
use Rattle.mb_refinement.specs.Refines.{IsMarked, Rule, shows, IsShownTheSame, IsEvent, IsNoEvent}
use Rattle.mb_refinement.proofs.Places.{Aside, shown_same, mark_stays, owes_now}

pub seat_there : (vs : List View) (id : ℕ) (v : View) → get_elem? vs id ≡ some v → id < length vs
seat_there [] id v e = absurd (some-ne-none v (sym e))
seat_there (u ∷ us) zero v e = omega arith
seat_there (u ∷ us) (suc id) v e = let i = seat_there us id v e in omega arith

module _ {H : Type 0} (is_of : ℕ → H → Type 0) (facts : H → HomeFacts) (n : ℕ) (s : State (Slot H) View) (r : Rule is_of facts n s) (actor : ℕ) (inside :
    actor < n) where
  -- a word that is written, seen from its own actor
  pub word_now : (name : Word) (new : ℕ) → get_or (set s.words (word_at actor (word_offset name)) new) (word_at actor (word_offset name)) 0 ≡ new
  word_now name new = get_or-set_same s.words (word_at actor (word_offset name)) new 0 (let l = word_inside actor (word_offset name) n (words_few name) inside
      in let c = r.word_count in omega arith)

  -- and another word of it
  pub word_stays : (name other : Word) (new : ℕ) → word_offset other ≢ word_offset name → get_or (set s.words (word_at actor (word_offset name)) new) (word_at
      actor (word_offset other)) 0 ≡ get_or s.words (word_at actor (word_offset other)) 0
  word_stays name other new apart = get_or-set_other s.words (word_at actor (word_offset name)) (word_at actor (word_offset other)) new 0
      (λ e. apart (omega arith))

  -- and a word of another actor
  word_else : (name other : Word) (new a : ℕ) → a ≢ actor → get_or (set s.words (word_at actor (word_offset name)) new) (word_at a (word_offset other)) 0 ≡
      get_or s.words (word_at a (word_offset other)) 0
  word_else name other new a apart = get_or-set_other s.words (word_at actor (word_offset name)) (word_at a (word_offset other)) new 0
      (words_apart a actor (word_offset other) (word_offset name) (words_few other) (words_few name) apart)

  -- each other actor is shown as it was
  pub others_stay : (name : Word) (new id : ℕ) (v w : View) (carried : List (ℕ × Slot H)) (act : Act (Slot H)) → get_elem? s.views id ≡ some v
      → ((a : ℕ) → a ≢ actor → Aside a v w)
      → ((a : ℕ) → a ≢ actor → get_elem? (homes_after s.homes carried act) (slot_at a 1) ≡ get_elem? s.homes (slot_at a 1))
      → (r' : Rule is_of facts n (stepped s (word_at actor (word_offset name)) new id carried w act))
      → (other : ℕ) → other < n → other ≢ actor → IsShownTheSame is_of facts n s r (stepped s (word_at actor (word_offset name)) new id carried w act) r'
      other
  others_stay name new id v w carried act at aside lists r' other there apart =
      let s' = stepped s (word_at actor (word_offset name)) new id carried w act in
      let x : Spot Word SlotName (Slot H) Ghost = spot_of word_offset slot_offset s r.ghosts other in
      let x' : Spot Word SlotName (Slot H) Ghost = spot_of word_offset slot_offset s' r'.ghosts other in
      record {
        same = λ rest. shown_same is_of facts n other x x' s.views id v w at (r.each other there) (r'.each other there) (aside other apart)
            (word_else name Status new other apart) (word_else name Waiting new other apart) (lists other apart) rest;
        marked = λ rest m quiet. m (sym (mark_stays is_of facts n other x x' s.views id v w at (r.each other there) (r'.each other there) (aside other
            apart).list (lists other apart) (word_else name Gate new other apart)) ∙ quiet);
      }

  -- a step at the actor is an event, where it is one there and no other actor is touched
  pub event_at : (name : Word) (new id : ℕ) (v w : View) (carried : List (ℕ × Slot H)) (act : Act (Slot H)) → get_elem? s.views id ≡ some v
      → ((a : ℕ) → a ≢ actor → Aside a v w)
      → ((a : ℕ) → a ≢ actor → get_elem? (homes_after s.homes carried act) (slot_at a 1) ≡ get_elem? s.homes (slot_at a 1))
      → (s' : State (Slot H) View) → s' ≡ stepped s (word_at actor (word_offset name)) new id carried w act → (r' : Rule is_of facts n s') (step : Step)
      (rest rest' : List SysMsg)
      → ((q : Rule is_of facts n (stepped s (word_at actor (word_offset name)) new id carried w act)) → Change (shows is_of facts n s r actor rest) id step
      (shows is_of facts n (stepped s (word_at actor (word_offset name)) new id carried w act) q actor rest')
      × (IsMarked (r.ghosts actor) rest → IsMarked (q.ghosts actor) rest'))
      → IsEvent is_of facts n s r s' r' actor id step rest rest'
  event_at name new id v w carried act at aside lists s' after r' step rest rest' here =
      subst (λ (z : State (Slot H) View). (q : Rule is_of facts n z) → IsEvent is_of facts n s r z q actor id step rest rest') (sym after)
      (λ q. record {
        present = seat_there s.views id v at;
        change = (here q).0;
        marked = (here q).1;
        others = others_stay name new id v w carried act at aside lists q;
      }) r'

  -- a step is no event, where the actor is shown as it was and no other actor is touched
  pub silent_at : (name : Word) (new id : ℕ) (v w : View) (carried : List (ℕ × Slot H)) (act : Act (Slot H)) → get_elem? s.views id ≡ some v
      → ((a : ℕ) → a ≢ actor → Aside a v w)
      → ((a : ℕ) → a ≢ actor → get_elem? (homes_after s.homes carried act) (slot_at a 1) ≡ get_elem? s.homes (slot_at a 1))
      → (s' : State (Slot H) View) → s' ≡ stepped s (word_at actor (word_offset name)) new id carried w act → (r' : Rule is_of facts n s')
      → ((q : Rule is_of facts n (stepped s (word_at actor (word_offset name)) new id carried w act)) → IsShownTheSame is_of facts n s r (stepped s (word_at
      actor (word_offset name)) new id carried w act) q actor)
      → IsNoEvent is_of facts n s r s' r'
  silent_at name new id v w carried act at aside lists s' after r' here =
      subst (λ (z : State (Slot H) View). (q : Rule is_of facts n z) → IsNoEvent is_of facts n s r z q) (sym after)
      (λ q a there. dite (ℕ_discrete a actor)
      (λ e. subst (IsShownTheSame is_of facts n s r (stepped s (word_at actor (word_offset name)) new id carried w act) q) (sym e) (here q))
      (λ apart. others_stay name new id v w carried act at aside lists q a there apart)) r'

  -- a load leaves the words
  pub words_stay : (name : Word) (k : ℕ) → get_or (set s.words (word_at actor (word_offset name)) (get_or s.words (word_at actor (word_offset name)) 0)) k 0 ≡
      get_or s.words k 0
  words_stay name k = ap (λ (ws : List ℕ). get_or ws k 0) (set-get_or s.words (word_at actor (word_offset name)) 0)

  -- a load after which only what the seat owes the actor may differ is an event, where owing that is one
  pub load_event : (name : Word) (id : ℕ) (v w : View) (carried : List (ℕ × Slot H)) (obligation : WakeObligation) → get_elem? s.views id ≡ some v
      → ((a : ℕ) → claim_for a w ≡ claim_for a v) → ((a : ℕ) → list_for a w ≡ list_for a v) → ((a : ℕ) → a ≢ actor → obligation_to a w ≡ obligation_to a v)
      → obligation_to actor w ≡ obligation
      → (s' : State (Slot H) View) → s' ≡ stepped s (word_at actor (word_offset name)) (get_or s.words (word_at actor (word_offset name)) 0) id carried w keeps
      → (r' : Rule is_of facts n s') (step : Step) (rest : List SysMsg)
      → ((y : MachineActor) → y ≡ owing (shows is_of facts n s r actor rest) id obligation → Change (shows is_of facts n s r actor rest) id step y)
      → IsEvent is_of facts n s r s' r' actor id step rest rest
  load_event name id v w carried obligation at claims lists obligations owes s' after r' step rest so =
      let x : Spot Word SlotName (Slot H) Ghost = spot_of word_offset slot_offset s r.ghosts actor in
      let found = get_or s.words (word_at actor (word_offset name)) 0 in
      event_at name found id v w carried keeps at (λ a apart. record { claim = claims a; list = lists a; obligation = obligations a apart }) (λ a apart. refl) s' after r'
      step rest rest
      (λ q. let x' : Spot Word SlotName (Slot H) Ghost = spot_of word_offset slot_offset (stepped s (word_at actor (word_offset name)) found id carried w keeps)
      q.ghosts actor in
      let f = r.each actor inside in let f' = q.each actor inside in (
        so (shows is_of facts n (stepped s (word_at actor (word_offset name)) found id carried w keeps) q actor rest)
            (owes_now is_of facts n actor x x' s.views id v w at f f' obligation (claims actor) (lists actor) owes (words_stay name (word_at actor 16))
            (words_stay name (word_at actor 0)) refl rest),
        (λ m quiet. m (sym (mark_stays is_of facts n actor x x' s.views id v w at f f' (lists actor) refl (words_stay name (word_at actor 17))) ∙ quiet)),
      ))

  -- a load after which the seat owes each actor what it owed is no event
  pub load_silent : (name : Word) (id : ℕ) (v w : View) (carried : List (ℕ × Slot H)) → get_elem? s.views id ≡ some v → ((a : ℕ) → Aside a v w)
      → (s' : State (Slot H) View) → s' ≡ stepped s (word_at actor (word_offset name)) (get_or s.words (word_at actor (word_offset name)) 0) id carried w keeps
      → (r' : Rule is_of facts n s') → IsNoEvent is_of facts n s r s' r'
  load_silent name id v w carried at aside s' after r' =
      subst (λ (z : State (Slot H) View). (q : Rule is_of facts n z) → IsNoEvent is_of facts n s r z q) (sym after)
      (λ q a there.
      let found = get_or s.words (word_at actor (word_offset name)) 0 in
      let x : Spot Word SlotName (Slot H) Ghost = spot_of word_offset slot_offset s r.ghosts a in
      let x' : Spot Word SlotName (Slot H) Ghost = spot_of word_offset slot_offset (stepped s (word_at actor (word_offset name)) found id carried w keeps)
      q.ghosts a in record {
        same = λ rest. shown_same is_of facts n a x x' s.views id v w at (r.each a there) (q.each a there) (aside a) (words_stay name (word_at a 16))
            (words_stay name (word_at a 0)) refl rest;
        marked = λ rest m quiet. m (sym (mark_stays is_of facts n a x x' s.views id v w at (r.each a there) (q.each a there) (aside a).list refl (words_stay
            name (word_at a 17))) ∙ quiet);
      }) r'
