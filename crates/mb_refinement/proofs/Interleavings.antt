-- Where any interleaving leads the machine.
use Rattle.std.proofs.Common.{◌≡◌, ◌≢◌, ℕ, zero, suc, ◌<◌, ⊎_elim, inl, inr, All, List, [], ◌∷◌, map, length, set, sym, refl, ap, ◌∙◌, subst, Some, None, slice_get, arith}
use Rattle.std.proofs.lemmas.List.{length-map}
use Rattle.atomic_table.specs.Table.{State}
use Rattle.mb_status.specs.Mailbox.{mailbox_of}
use Rattle.mb_core.specs.declared.event.Event.{Event}
use Rattle.mb_core.specs.Actor.{MachineActor}
use Rattle.mb_core.specs.Run.{Transition, Run}
use Rattle.mb_core.specs.Parties.{copied, moved, absorbed, IsSplit, IsJoined}
use Rattle.mb_ghost.specs.Layout.{Spot, spot_of}
use Rattle.mb_gate.specs.HomeFacts.{HomeFacts}
use Rattle.mb_gate.specs.declared.slot.Slot.{Slot}
use Rattle.mb_gate.specs.View.{View, obligation_to}
use Rattle.mb_gate.specs.Rule.{Word, Status, Waiting, word_offset, SlotName, slot_offset, Ghost, claim_for, list_for, ListPlace}
use Rattle.mb_gate.specs.Shown.{holder_of, work_of}
use Rattle.mb_refinement.specs.Refines.{Rule, shows, IsNoEvent}
use Rattle.mb_refinement.specs.Parts.{parted, ArePartsOf, IsParted}
use Rattle.mb_refinement.specs.PartyEvents.{AreShownAs}
use Rattle.mb_refinement.specs.Interleavings.{
  Move,
  Made,
  Still,
  Split,
  Part,
  Join,
  Leads,
  Path,
  events_of,
  KeepsParties,
  tabulated,
  Rests,
  machine,
  IsMove,
  Interleaving,
  ShowsOne,
  InterleavingsAreRuns,
}
use Rattle.mb_refinement.proofs.Places.{locked_once, listed_stays, gave_stays}

module _ {A : Type 0} where
  pub tabulated_same : (n : ℕ) (f g : ℕ → A) → ((a : ℕ) → a < n → g a ≡ f a) → tabulated n g ≡ tabulated n f
  tabulated_same zero f g e = refl
  tabulated_same (suc n) f g e = let rest = tabulated_same n (λ k. f (suc k)) (λ k. g (suc k)) (λ a l. e (suc a) (omega arith)) in λ i. e 0 (omega arith) i ∷ rest i

  pub tabulated_get : (n : ℕ) (f : ℕ → A) (k : ℕ) → k < n → slice_get (tabulated n f) k ≡ Some (f k)
  tabulated_get zero f k l = absurd (omega arith)
  tabulated_get (suc n) f zero l = refl
  tabulated_get (suc n) f (suc k) l = tabulated_get n (λ a. f (suc a)) k (omega arith)

  some_same : (a b : A) → Some a ≡ Some b → a ≡ b
  some_same a b e = cc

  none_some : (a : A) → None ≡ Some a → ⊥
  none_some a e = cc

  pub tabulated_at : (n : ℕ) (f : ℕ → A) (k : ℕ) (x : A) → slice_get (tabulated n f) k ≡ Some x → (k < n) × (f k ≡ x)
  tabulated_at zero f k x e = absurd (none_some x e)
  tabulated_at (suc n) f zero x e = (omega arith, some_same (f 0) x e)
  tabulated_at (suc n) f (suc k) x e = let t = tabulated_at n (λ a. f (suc a)) k x e in let l = t.0 in (omega arith, t.1)

  pub tabulated_set : (n : ℕ) (f g : ℕ → A) (k : ℕ) → ((a : ℕ) → a < n → a ≢ k → g a ≡ f a) → tabulated n g ≡ set (tabulated n f) k (g k)
  tabulated_set zero f g k e = refl
  tabulated_set (suc n) f g zero e = ap (λ l. g 0 ∷ l) (tabulated_same n (λ a. f (suc a)) (λ a. g (suc a)) (λ a l. e (suc a) (omega arith) (λ z. omega arith)))
  tabulated_set (suc n) f g (suc k) e =
      let rest = tabulated_set n (λ a. f (suc a)) (λ a. g (suc a)) k (λ a l apart. e (suc a) (omega arith) (λ z. apart (omega arith))) in
      λ i. e 0 (omega arith) (λ z. omega arith) i ∷ rest i

  pub tabulated_length : (n : ℕ) (f : ℕ → A) → length (tabulated n f) ≡ n
  tabulated_length zero f = refl
  tabulated_length (suc n) f = ap suc (tabulated_length n (λ k. f (suc k)))

  pub tabulated_map : {B : Type 0} (n : ℕ) (f : ℕ → A) (h : A → B) → tabulated n (λ a. h (f a)) ≡ map h (tabulated n f)
  tabulated_map zero f h = refl
  tabulated_map (suc n) f h = ap (λ l. h (f 0) ∷ l) (tabulated_map n (λ k. f (suc k)) h)

  pub tabulated_all : (P : A → Type 0) (n : ℕ) (f : ℕ → A) → ((a : ℕ) → a < n → P (f a)) → All P (tabulated n f)
  tabulated_all P zero f p k d l = absurd (omega arith)
  tabulated_all P (suc n) f p zero d l = p 0 (omega arith)
  tabulated_all P (suc n) f p (suc k) d l = tabulated_all P n (λ a. f (suc a)) (λ a m. p (suc a) (omega arith)) k d (omega arith)

module _ {H : Type 0} (is_of : ℕ → H → Type 0) (facts : H → HomeFacts) where
  abbrev Place : Type 0
  Place = Spot Word SlotName (Slot H) Ghost

  pub shows_one : ShowsOne is_of facts
  shows_one n s r r' actor inside =
      let x : Place = spot_of word_offset slot_offset s r.ghosts actor in
      let x' : Place = spot_of word_offset slot_offset s r'.ghosts actor in
      let f = r.each actor inside in
      let f' = r'.each actor inside in
      let holder = locked_once (claim_for actor) x.ghost.holder x'.ghost.holder s.views f.claims f'.claims in
      let lender = locked_once (list_for actor) x.ghost.lent_to x'.ghost.lent_to s.views f.lists f'.lists in
      let place = subst (ListPlace is_of facts x') lender f'.list_place in
      let listed = listed_stays is_of facts x x' x.ghost.lent_to f.list_place place refl in record {
        same = λ rest i. record {
          mailbox = mailbox_of (x.row Status);
          envelopes = [];
          waiting = x.row Waiting;
          system = work_of (record x.ghost { listed = listed i }) rest;
          holder = holder_of (holder i);
          owed = map (obligation_to actor) s.views;
        };
        marked = λ rest m quiet. m (sym (gave_stays is_of facts x x' x.ghost.lent_to f.list_place place listed refl) ∙ quiet);
      }

  -- the same of all actors, with the same rests
  same_machine : (n : ℕ) (s s' : State (Slot H) View) (r : Rule is_of facts n s) (r' : Rule is_of facts n s') (rests rests' : Rests) → IsNoEvent is_of facts n s
      r s' r' → ((a : ℕ) → rests' a ≡ rests a) → machine is_of facts n s' r' rests' ≡ machine is_of facts n s r rests
  same_machine n s s' r r' rests rests' still kept = tabulated_same n (λ a. shows is_of facts n s r a (rests a)) (λ a. shows is_of facts n s' r' a (rests' a))
      (λ a l. ap (shows is_of facts n s' r' a) (kept a) ∙ (still a l).same (rests a))

  ends_same : (n : ℕ) (s s' : State (Slot H) View) (r : Rule is_of facts n s) (r' : Rule is_of facts n s') (rests rests' : Rests) → s' ≡ s → ((a : ℕ) → rests' a ≡
      rests a) → machine is_of facts n s' r' rests' ≡ machine is_of facts n s r rests
  ends_same n s s' r r' rests rests' is kept = subst (λ (z : State (Slot H) View). (q : Rule is_of facts n z) → machine is_of facts n z q rests' ≡ machine is_of
      facts n s r rests) (sym is) (λ q. same_machine n s s r q rests rests' (λ a l. shows_one n s r q a l) kept) r'

  makes_event : (n : ℕ) (s s' : State (Slot H) View) (r : Rule is_of facts n s) (r' : Rule is_of facts n s') (rests rests' : Rests) (event : Event) → IsMove is_of
      facts n s r rests (Made event) s' r' rests' → Transition (machine is_of facts n s r rests) event (machine is_of facts n s' r' rests')
  makes_event n s s' r r' rests rests' event move =
      let actor = event.actor.0 in
      record {
        before = shows is_of facts n s r actor (rests actor);
        after = shows is_of facts n s' r' actor (rests' actor);
        actor_there = tabulated_get n (λ a. shows is_of facts n s r a (rests a)) actor move.0;
        party_there = (let l = length-map s.views (obligation_to actor) in let p = move.1.present in omega arith);
        change = move.1.change;
        others_stay = tabulated_set n (λ a. shows is_of facts n s r a (rests a)) (λ a. shows is_of facts n s' r' a (rests' a)) actor
            (λ a l apart. ap (shows is_of facts n s' r' a) (move.2 a apart) ∙ (move.1.others a l apart).same (rests a));
      }

  makes_split : (n party : ℕ) (s s' : State (Slot H) View) (r : Rule is_of facts n s) (r' : Rule is_of facts n s') (rests rests' : Rests) → IsMove is_of
      facts n s r rests (Split party) s' r' rests' → IsSplit party (machine is_of facts n s r rests) (machine is_of facts n s' r' rests')
  makes_split n party s s' r r' rests rests' move =
      let now : (makes : MachineActor → MachineActor) → AreShownAs is_of facts n s r s' r' makes → (k : ℕ) (x : MachineActor) → slice_get (machine is_of facts n s
      r rests) k ≡ Some x → slice_get (machine is_of facts n s' r' rests') k ≡ Some (makes x) =
      (λ makes are k x at. let t = tabulated_at n (λ a. shows is_of facts n s r a (rests a)) k x at in
      tabulated_get n (λ a. shows is_of facts n s' r' a (rests' a)) k t.0 ∙ ap Some (ap (shows is_of facts n s' r' k) (move.1 k) ∙ ((are k t.0).same (rests k) ∙ ap
      makes t.1))) in record {
        same_actors = tabulated_length n (λ a. shows is_of facts n s' r' a (rests' a)) ∙ sym (tabulated_length n (λ a. shows is_of facts n s r a (rests a)));
        each = λ k x at. ⊎_elim (λ c. inl (now (λ y. copied y party) c k x at)) (λ m. inr (now (λ y. moved y party) m k x at)) move.0;
      }

  makes_part : (n party : ℕ) (s s' : State (Slot H) View) (r : Rule is_of facts n s) (r' : Rule is_of facts n s') (rests rests' : Rests) → IsMove is_of
      facts n s r rests (Part party) s' r' rests' → IsParted party (machine is_of facts n s r rests) (machine is_of facts n s' r' rests')
  makes_part n party s s' r r' rests rests' move = record {
    same_actors = tabulated_length n (λ a. shows is_of facts n s' r' a (rests' a)) ∙ sym (tabulated_length n (λ a. shows is_of facts n s r a (rests a)));
    each = λ k x at. let t = tabulated_at n (λ a. shows is_of facts n s r a (rests a)) k x at in let p = move.0 k t.0 in (
      p.0,
      p.1,
      subst (λ z. ArePartsOf z party p.0 p.1) t.1 (p.2 (rests k)),
      tabulated_get n (λ a. shows is_of facts n s' r' a (rests' a)) k t.0
          ∙ ap Some (ap (shows is_of facts n s' r' k) (move.1 k) ∙ (p.3.same (rests k) ∙ ap (λ y. parted y party p.0 p.1) t.1)),
    );
  }

  makes_join : (n into from : ℕ) (s s' : State (Slot H) View) (r : Rule is_of facts n s) (r' : Rule is_of facts n s') (rests rests' : Rests) → IsMove is_of
      facts n s r rests (Join into from) s' r' rests' → IsJoined into from (machine is_of facts n s r rests) (machine is_of facts n s' r' rests')
  makes_join n into from s s' r r' rests rests' move = record {
    two = move.0;
    present = tabulated_all (λ x. into < length x.owed) n (λ a. shows is_of facts n s r a (rests a)) (λ a l. let m = length-map s.views (obligation_to a) in let p
        = move.1 in omega arith);
    each = tabulated_same n (λ a. absorbed (shows is_of facts n s r a (rests a)) into from) (λ a. shows is_of facts n s' r' a (rests' a))
        (λ a l. ap (shows is_of facts n s' r' a) (move.3 a) ∙ (move.2 a l).same (rests a))
        ∙ tabulated_map n (λ a. shows is_of facts n s r a (rests a)) (λ x. absorbed x into from);
  }

  leads_by : (n : ℕ) (s s' : State (Slot H) View) (r : Rule is_of facts n s) (r' : Rule is_of facts n s') (rests rests' : Rests) (move : Move) → IsMove is_of facts
      n s r rests move s' r' rests' → Leads (machine is_of facts n s r rests) move (machine is_of facts n s' r' rests')
  leads_by n s s' r r' rests rests' (Made event) m = makes_event n s s' r r' rests rests' event m
  leads_by n s s' r r' rests rests' Still m = same_machine n s s' r r' rests rests' m.0 m.1
  leads_by n s s' r r' rests rests' (Split party) m = makes_split n party s s' r r' rests rests' m
  leads_by n s s' r r' rests rests' (Part party) m = makes_part n party s s' r r' rests rests' m
  leads_by n s s' r r' rests rests' (Join into from) m = makes_join n into from s s' r r' rests rests' m

  pub path_of : (n : ℕ) (s s' : State (Slot H) View) (r : Rule is_of facts n s) (r' : Rule is_of facts n s') (rests rests' : Rests) (moves : List Move)
      → Interleaving is_of facts n s r rests moves s' r' rests' → Path (machine is_of facts n s r rests) moves (machine is_of facts n s' r' rests')
  path_of n s s' r r' rests rests' [] w = ends_same n s s' r r' rests rests' w.0 w.1
  path_of n s s' r r' rests rests' (move ∷ moves) w = (
    machine is_of facts n w.0 w.1 w.2,
    leads_by n s w.0 r w.1 rests w.2 move w.3,
    path_of n w.0 s' w.1 r' w.2 rests' moves w.4,
  )

-- moves that split and join no party are a run of their events
pub run_of : (old : List MachineActor) (moves : List Move) (new : List MachineActor) → Path old moves new → KeepsParties moves → Run old (events_of moves) new
run_of old [] new p k = p
run_of old (Made event ∷ moves) new p k = (p.0, p.1, run_of p.0 moves new p.2 k)
run_of old (Still ∷ moves) new p k = subst (λ z. Run z (events_of moves) new) p.1 (run_of p.0 moves new p.2 k)
run_of old (Split party ∷ moves) new p k = absurd k
run_of old (Part party ∷ moves) new p k = absurd k
run_of old (Join into from ∷ moves) new p k = absurd k

pub interleavings_are_runs : {H : Type 0} (is_of : ℕ → H → Type 0) (facts : H → HomeFacts) → InterleavingsAreRuns is_of facts
interleavings_are_runs is_of facts n s s' r r' rests rests' moves w =
    let p = path_of is_of facts n s s' r r' rests rests' moves w in (
      p,
      run_of (machine is_of facts n s r rests) moves (machine is_of facts n s' r' rests') p,
    )
