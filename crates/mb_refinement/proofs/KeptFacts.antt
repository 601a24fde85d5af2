-- The machine's laws, for the words.
use Rattle.std.proofs.Common.{◌≡◌, ℕ, ◌<◌, ⊎_elim, All, IsTrue, List, [], ◌∷◌, map, length, sym, refl, ap, ◌∙◌, subst}
use mathlib.Core.Logic.{dite}
use native.Mathlib.Decide.{ℕ_discrete}
use Rattle.atomic_table.specs.Table.{State, opening}
use Rattle.mb_status.specs.Mailbox.{word_of}
use Rattle.mb_core.specs.Actor.{MachineActor}
use Rattle.mb_core.specs.Run.{start, can_start}
use Rattle.mb_core.specs.Between.{ChangesLink, ChangesLinkWhereHeld, StaysWithHolder, IsHeldBySchedule, IsSetByHolderAlone, StaysEnded}
use Rattle.mb_core.specs.Held.{IsHeldRightly, HasPossibleMailbox}
use Rattle.mb_core.specs.Settled.{IsSettled}
use Rattle.mb_core.specs.Laws.{StepsKeep, StepsKeepWith, EveryRunHas}
use Rattle.mb_core.specs.Parties.{SplitsKeep, JoinsKeep}
use Rattle.mb_gate.specs.HomeFacts.{HomeFacts}
use Rattle.mb_gate.specs.declared.slot.Slot.{Slot}
use Rattle.mb_gate.specs.View.{View, alone}
use Rattle.mb_gate.specs.Starts.{rows_of, slots_of}
use Rattle.mb_gate.specs.Shown.{ShowsMachine}
use Rattle.mb_refinement.specs.Refines.{Rule, shows}
use Rattle.mb_refinement.specs.Interleavings.{Move, Made, Still, Split, Part, Join, Leads, Path, Rests, machine, IsMove}
use Rattle.mb_refinement.specs.KeptFacts.{HoldsFromTheBeginning, StaysEndedOver, EventsAreTheHolders}
use Rattle.mb_refinement.specs.Parts.{PartsKeep}
use Rattle.mb_refinement.proofs.Parts.{parts_keep_held, parts_keep_possible, parts_keep_settled}
use Rattle.mb_refinement.proofs.Interleavings.{path_of, shows_one}
use Rattle.mb_refinement.proofs.Beginnings.{new_gates_begin}

-- a fact that each move keeps holds after all of them
module _ (P Q : MachineActor → Type 0) (steps : StepsKeep P) (splits : SplitsKeep P) (parts : PartsKeep P) (joins : JoinsKeep P) (steps_too : StepsKeepWith P Q)
    (splits_too : SplitsKeep Q) (parts_too : PartsKeep Q) (joins_too : JoinsKeep Q) where
  move_keeps : (old : List MachineActor) (move : Move) (new : List MachineActor) → Leads old move new → All P old → All Q old → All P new × All Q new
  move_keeps old (Made event) new m p q = (steps old event new m p, steps_too old event new m p q)
  move_keeps old Still new m p q = (subst (All P) (sym m) p, subst (All Q) (sym m) q)
  move_keeps old (Split party) new m p q = (splits party old new m p, splits_too party old new m q)
  move_keeps old (Part party) new m p q = (parts party old new m p, parts_too party old new m q)
  move_keeps old (Join into from) new m p q = (joins into from old new m p, joins_too into from old new m q)

  pub path_keeps : (old : List MachineActor) (moves : List Move) (new : List MachineActor) → Path old moves new → All P old → All Q old → All P new × All Q new
  path_keeps old [] new path p q = (subst (All P) (sym path) p, subst (All Q) (sym path) q)
  path_keeps old (move ∷ moves) new path p q =
      let next = move_keeps old move path.0 path.1 p q in path_keeps path.0 moves new path.2 next.0 next.1

-- at the beginning each fact of every run holds
begins_with : (P : MachineActor → Type 0) → EveryRunHas P → (words : List ℕ) → All (λ word. IsTrue (can_start word)) words → All P (start words 1)
begins_with P every words can = every words 1 [] (start words 1) (record { can_start = can; run = refl })

ended_same : (x y : MachineActor) → y ≡ x → StaysEnded x y
ended_same x y e = subst (StaysEnded x) (sym e) (record { closed = λ c. c; gone = λ g. g })

ended_on : (x y z : MachineActor) → StaysEnded x y → StaysEnded y z → StaysEnded x z
ended_on x y z a b = record { closed = λ c. b.closed (a.closed c); gone = λ g. b.gone (a.gone g) }

module _ {H : Type 0} (is_of : ℕ → H → Type 0) (facts : H → HomeFacts) where
  pub holds_from_the_beginning : EveryRunHas IsHeldRightly → EveryRunHas HasPossibleMailbox → EveryRunHas IsSettled → StepsKeep IsHeldRightly → StepsKeep
      HasPossibleMailbox → StepsKeepWith IsHeldRightly IsSettled → SplitsKeep IsHeldRightly → SplitsKeep HasPossibleMailbox → SplitsKeep IsSettled → JoinsKeep
      IsHeldRightly → JoinsKeep HasPossibleMailbox → JoinsKeep IsSettled → HoldsFromTheBeginning is_of facts
  holds_from_the_beginning held possible settled steps steps_possible steps_settled splits splits_possible splits_settled joins joins_possible joins_settled hs r
      s' r' rests' moves fresh w =
      let words = map (λ h. word_of (facts h).mailbox) hs in
      let begin = new_gates_begin is_of facts hs r in
      let can = begin.1 fresh in
      let path : Path (start (map (λ h. word_of (facts h).mailbox) hs) 1) moves (machine is_of facts (length hs) s' r' rests') = subst (λ z. Path z moves (machine
      is_of facts (length hs) s' r' rests')) begin.0 (path_of is_of facts (length hs) (opening (rows_of facts hs) (slots_of hs) alone) s' r r' (λ a. []) rests'
      moves w) in
      let new = machine is_of facts (length hs) s' r' rests' in
      let both = path_keeps IsHeldRightly IsSettled steps splits parts_keep_held joins steps_settled splits_settled parts_keep_settled joins_settled (start words 1) moves new path (begins_with
      IsHeldRightly held words can) (begins_with IsSettled settled words can) in
      let mailboxes = path_keeps HasPossibleMailbox HasPossibleMailbox steps_possible splits_possible parts_keep_possible joins_possible (λ old event next t p q. steps_possible old
      event next t q) splits_possible parts_keep_possible joins_possible (start words 1) moves new path (begins_with HasPossibleMailbox possible words can) (begins_with
      HasPossibleMailbox possible words can) in (both.0, mailboxes.0, both.1)

  -- one move leaves what is ended ended
  ends_on : ChangesLink (λ party step x y. StaysEnded x y) → (n : ℕ) (s s' : State (Slot H) View) (r : Rule is_of facts n s) (r' : Rule is_of facts n s') (rests
      rests' : Rests) (move : Move) → IsMove is_of facts n s r rests move s' r' rests' → (actor : ℕ) → actor < n → StaysEnded (shows is_of facts n s r actor (rests
      actor)) (shows is_of facts n s' r' actor (rests' actor))
  ends_on law n s s' r r' rests rests' (Made event) m actor inside = dite (ℕ_discrete actor event.actor.0)
      (λ e. subst (λ k. StaysEnded (shows is_of facts n s r k (rests k)) (shows is_of facts n s' r' k (rests' k))) (sym e) (law (shows is_of facts n s r
      event.actor.0 (rests event.actor.0)) event.party event.step (shows is_of facts n s' r' event.actor.0 (rests' event.actor.0)) m.1.change))
      (λ apart. ended_same (shows is_of facts n s r actor (rests actor)) (shows is_of facts n s' r' actor (rests' actor)) (ap (shows is_of facts n s' r' actor) (m.2
      actor apart) ∙ (m.1.others actor inside apart).same (rests actor)))
  ends_on law n s s' r r' rests rests' Still m actor inside = ended_same (shows is_of facts n s r actor (rests actor)) (shows is_of facts n s' r' actor (rests'
      actor)) (ap (shows is_of facts n s' r' actor) (m.1 actor) ∙ (m.0 actor inside).same (rests actor))
  ends_on law n s s' r r' rests rests' (Split party) m actor inside =
      let x = shows is_of facts n s r actor (rests actor) in
      let kept = ap (shows is_of facts n s' r' actor) (m.1 actor) in ⊎_elim
      (λ c. subst (StaysEnded x) (sym (kept ∙ (c actor inside).same (rests actor))) (record { closed = λ d. d; gone = λ g. g }))
      (λ c. subst (StaysEnded x) (sym (kept ∙ (c actor inside).same (rests actor))) (record { closed = λ d. d; gone = λ g. g })) m.0
  ends_on law n s s' r r' rests rests' (Part party) m actor inside =
      let x = shows is_of facts n s r actor (rests actor) in
      let kept = ap (shows is_of facts n s' r' actor) (m.1 actor) in
      subst (StaysEnded x) (sym (kept ∙ (m.0 actor inside).3.same (rests actor))) (record { closed = λ d. d; gone = λ g. g })
  ends_on law n s s' r r' rests rests' (Join into from) m actor inside =
      let x = shows is_of facts n s r actor (rests actor) in
      let kept = ap (shows is_of facts n s' r' actor) (m.3 actor) in
      subst (StaysEnded x) (sym (kept ∙ (m.2 actor inside).same (rests actor))) (record { closed = λ d. d; gone = λ g. g })

  pub stays_ended_over : ChangesLink (λ party step x y. StaysEnded x y) → StaysEndedOver is_of facts
  stays_ended_over law n s s' r r' rests rests' [] w actor inside =
      ended_same (shows is_of facts n s r actor (rests actor)) (shows is_of facts n s' r' actor (rests' actor)) (subst (λ (z : State (Slot H) View). (q : Rule is_of
      facts n z) → shows is_of facts n z q actor (rests' actor) ≡ shows is_of facts n s r actor (rests actor)) (sym w.0) (λ q. ap (shows is_of facts n s q actor)
      (w.1 actor) ∙ (shows_one is_of facts n s r q actor inside).same (rests actor)) r')
  stays_ended_over law n s s' r r' rests rests' (move ∷ moves) w actor inside =
      ended_on (shows is_of facts n s r actor (rests actor)) (shows is_of facts n w.0 w.1 actor (w.2 actor)) (shows is_of facts n s' r' actor (rests' actor))
      (ends_on law n s w.0 r w.1 rests w.2 move w.3 actor inside) (stays_ended_over law n w.0 s' w.1 r' w.2 rests' moves w.4 actor inside)

  pub events_are_the_holders : ShowsMachine is_of facts → ChangesLinkWhereHeld StaysWithHolder → ChangesLink IsHeldBySchedule → ChangesLink IsSetByHolderAlone
      → EventsAreTheHolders is_of facts
  events_are_the_holders shown stays begins alone_sets n s s' r r' actor party step rest rest' inside event =
      let h = (shown n s r actor inside [] (λ quiet. refl)).1 in (
        stays (shows is_of facts n s r actor rest) party step (shows is_of facts n s' r' actor rest') event.change (record {
          scheduled = h.scheduled;
          free = h.free;
          present = h.present;
        }),
        begins (shows is_of facts n s r actor rest) party step (shows is_of facts n s' r' actor rest') event.change,
        alone_sets (shows is_of facts n s r actor rest) party step (shows is_of facts n s' r' actor rest') event.change,
      )
