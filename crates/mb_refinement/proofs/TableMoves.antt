-- Each kind of step of the table is a move of the machine.
use Rattle.std.proofs.Common.{◌≡◌, ℕ, ◌<◌, ⊎_elim, inl, inr, List, [], ◌∷◌, ◌++◌, sym, ap, ◌∙◌, subst, Some}
use mathlib.Core.Logic.{dite}
use native.Mathlib.Decide.{ℕ_discrete}
use Rattle.atomic_table.specs.Table.{State}
use Rattle.mb_status.specs.Mailbox.{mailbox_of, most_suspensions, suspend, resume}
use Rattle.mb_msg.specs.declared.system.SysMsg.{SysMsg}
use Rattle.mb_core.specs.declared.event.Step as event
use Rattle.mb_core.specs.declared.event.Step.TheVariants.{Read, Schedule, Idle, Suspend, Resume, Close, Sent, Unsent}
use Rattle.mb_core.specs.declared.event.Step.TheVariants.{Taken, Count, Push, Take, SysAdd, SysRead, SysDrain, SysEnd}
use Rattle.mb_core.specs.Actor.{MachineActor}
use Rattle.mb_core.specs.Run.{Change}
use Rattle.mb_gate.specs.HomeFacts.{HomeFacts}
use Rattle.mb_gate.specs.declared.slot.Slot.{Slot}
use Rattle.mb_gate.specs.View.{View}
use Rattle.mb_refinement.specs.Refines.{IsMarked, Rule, IsEvent, IsNoEvent}
use Rattle.mb_refinement.specs.Interleavings.{Move, Made, Still, Split, Part, Join, Rests, IsMove}
use Rattle.mb_refinement.specs.TableMoves.{by, RestsStay, RestsAre, IsHolderStep, IsTableStep, loads_status, schedules, misses_status, looks_for_claim, loads_flag, loads_own_status, gives_back, gives_back_closed, counts_sent, takes_count_back, counts_taken, loads_count, looks, finds_mark, takes_list, misses_list, refuses, enlists, drains, ends, finds_drained, finds_undrained, copies_pass, splits_pass, splits_claim, moves_pass, joins_passes, parts_passes, comes_back, joins, writes, AreMarked, TableStepsAreMoves}
use Rattle.mb_refinement.proofs.StatusEvents.{first_of, load_is_read, won_is_schedule, lost_is_read, load_by_the_holder_is_none, look_for_claim_is_none, load_of_flag_is_none, writes_as, store_is_idle, flag_is_idle}
use Rattle.mb_refinement.proofs.WaitingEvents.{addition_is_sent, subtraction_is_unsent, subtraction_is_taken, load_is_count}
use Rattle.mb_refinement.proofs.ListEvents.{
  load_is_sys_read,
  take_is_none,
  miss_is_none,
  refusal_is_none,
  store_is_sys_add,
  store_is_sys_drain,
  store_is_sys_end,
  check_is_sys_drain,
}
use Rattle.mb_refinement.proofs.PartyEvents.{splits_are_splits, joins_are_joins, moves_are_splits, together_is_join, again_is_part}
use Rattle.mb_refinement.proofs.Tables.{seat_there}
use Rattle.mb_refinement.proofs.TableKeeps.{loads_status_keeps, loads_own_status_keeps, looks_for_claim_keeps, loads_flag_keeps, writes_keeps, gives_back_keeps, gives_back_closed_keeps, counts_sent_keeps, takes_count_back_keeps, counts_taken_keeps, loads_count_keeps, looks_keeps, takes_list_keeps, misses_list_keeps, refuses_keeps, enlists_keeps, drains_keeps, ends_keeps, finds_drained_keeps, finds_undrained_keeps, misses_status_keeps, schedules_keeps, copies_keeps, splits_pass_keeps, splits_claim_keeps, moves_pass_keeps, joins_passes_keeps, parts_passes_keeps, comes_back_keeps, joins_keeps}
use Rattle.mb_refinement.proofs.Gates.{work_shown}
use Rattle.mb_refinement.proofs.Interleavings.{shows_one}
use Rattle.mb_ghost.specs.Layout.{spot_of}
use Rattle.mb_gate.specs.Rule.{word_offset, slot_offset}
use Rattle.mb_gate.specs.Claims.{held_in}

holder_step : (x y : MachineActor) (id word new : ℕ) (step : event.Step) → IsHolderStep word new step → x.holder ≡ Some id → x.mailbox ≡ mailbox_of word → y ≡
    record x { mailbox = mailbox_of new } → Change x id step y
holder_step x y id word new Suspend is held was e = (
  held,
  subst (λ m. m.count < most_suspensions) (sym was) is.0,
  e ∙ ap (λ m. record x { mailbox = m }) (is.1 ∙ ap suspend (sym was)),
)
holder_step x y id word new Resume is held was e = (held, e ∙ ap (λ m. record x { mailbox = m }) (is ∙ ap resume (sym was)))
holder_step x y id word new Close is held was e = (held, e ∙ ap (λ m. record x { mailbox = m }) is)
holder_step x y id word new Read is held was e = absurd is
holder_step x y id word new Schedule is held was e = absurd is
holder_step x y id word new (Idle rest) is held was e = absurd is
holder_step x y id word new Sent is held was e = absurd is
holder_step x y id word new Unsent is held was e = absurd is
holder_step x y id word new Taken is held was e = absurd is
holder_step x y id word new Count is held was e = absurd is
holder_step x y id word new (Push envelope) is held was e = absurd is
holder_step x y id word new (Take place) is held was e = absurd is
holder_step x y id word new (SysAdd message) is held was e = absurd is
holder_step x y id word new SysRead is held was e = absurd is
holder_step x y id word new SysDrain is held was e = absurd is
holder_step x y id word new SysEnd is held was e = absurd is

module _ {H : Type 0} (is_of : ℕ → H → Type 0) (facts : H → HomeFacts) (n : ℕ) (s s' : State (Slot H) View) (r : Rule is_of facts n s) (r' : Rule is_of facts n s')
    (rests rests' : Rests) (move : Move) where
  event_move : (actor id : ℕ) (step : event.Step) (left : List SysMsg) → actor < n → IsEvent is_of facts n s r s' r' actor id step (rests actor) left → move ≡ by id
      actor step → RestsAre actor left rests rests' → IsMove is_of facts n s r rests move s' r' rests'
  event_move actor id step left inside event is are = subst (λ m. IsMove is_of facts n s r rests m s' r' rests') (sym is) (
    inside,
    subst (λ k. IsEvent is_of facts n s r s' r' actor id step (rests actor) k) (sym are.0) event,
    are.1,
  )

  same_move : (actor id : ℕ) (step : event.Step) → actor < n → IsEvent is_of facts n s r s' r' actor id step (rests actor) (rests actor) → move ≡ by id actor step
      → RestsStay rests rests' → IsMove is_of facts n s r rests move s' r' rests'
  same_move actor id step inside event is stay = event_move actor id step (rests actor) inside event is (stay actor, (λ a apart. stay a))

  still_move : IsNoEvent is_of facts n s r s' r' → move ≡ Still → RestsStay rests rests' → IsMove is_of facts n s r rests move s' r' rests'
  still_move none_made is stay = subst (λ m. IsMove is_of facts n s r rests m s' r' rests') (sym is) (none_made, stay)

  -- the marks after a move
  marks_after : IsMove is_of facts n s r rests move s' r' rests' → AreMarked is_of facts n s r rests → AreMarked is_of facts n s' r' rests'
  marks_after m marked a inside = after move m
    where
      after : (k : Move) → IsMove is_of facts n s r rests k s' r' rests' → IsMarked (r'.ghosts a) (rests' a)
      after (Made event) m = dite (ℕ_discrete a event.actor.0)
          (λ e. subst (λ b. IsMarked (r'.ghosts b) (rests' b)) (sym e) (m.1.marked (subst (λ b. IsMarked (r.ghosts b) (rests b)) e (marked a inside))))
          (λ apart. subst (IsMarked (r'.ghosts a)) (sym (m.2 a apart)) ((m.1.others a inside apart).marked (rests a) (marked a inside)))
      after Still m = subst (IsMarked (r'.ghosts a)) (sym (m.1 a)) ((m.0 a inside).marked (rests a) (marked a inside))
      after (Split party) m = subst (IsMarked (r'.ghosts a)) (sym (m.1 a)) (⊎_elim (λ c. (c a inside).marked (rests a) (marked a inside)) (λ c. (c a
          inside).marked (rests a) (marked a inside)) m.0)
      after (Part party) m = subst (IsMarked (r'.ghosts a)) (sym (m.1 a)) ((m.0 a inside).3.marked (rests a) (marked a inside))
      after (Join into from) m = subst (IsMarked (r'.ghosts a)) (sym (m.3 a)) ((m.2 a inside).marked (rests a) (marked a inside))

module _ {H : Type 0} (all_of : H → ℕ → H → Type 0) (first : H) (facts : H → HomeFacts) (n : ℕ) where
  -- the table after the step meets the rule
  pub step_keeps_rule : (s s' : State (Slot H) View) (r : Rule (all_of first) facts n s) (rests rests' : Rests) (move : Move) → IsTableStep all_of first facts n s rests
      move s' rests' → Rule (all_of first) facts n s'
  step_keeps_rule s s' r rests rests' move (loads_status actor id me st l w made is stay) = loads_status_keeps (all_of first) facts n s s' r actor id me st l w made
  step_keeps_rule s s' r rests rests' move (schedules actor id me st note home l w said free bit bare share hit made known is stay) = schedules_keeps all_of first facts n s
      s' r actor id me st l note home w said free bit bare share hit made known
  step_keeps_rule s s' r rests rests' move (misses_status actor id me st note l w said miss made is stay) = misses_status_keeps all_of first facts n s s' r actor id me st l
      note w said miss made
  step_keeps_rule s s' r rests rests' move (loads_own_status actor id me st c l w has of made is stay) = loads_own_status_keeps (all_of first) facts n s s' r actor id me st
      l c w has of made
  step_keeps_rule s s' r rests rests' move (looks_for_claim actor id me st l w made is stay) = looks_for_claim_keeps (all_of first) facts n s s' r actor id me st l w made
  step_keeps_rule s s' r rests rests' move (loads_flag actor id me st l w made is stay) = loads_flag_keeps (all_of first) facts n s s' r actor id me st l w made
  step_keeps_rule s s' r rests rests' move (gives_back actor id me st status left l w ready unshut new quiet made is are) = gives_back_keeps (all_of first) facts n s s' r
      actor id me st l status w ready unshut new made
  step_keeps_rule s s' r rests rests' move (gives_back_closed actor id me st status left l w ready shut new quiet made is are) = gives_back_closed_keeps (all_of first)
      facts n s s' r actor id me st l status ready shut new made
  step_keeps_rule s s' r rests rests' move (counts_sent actor id me st l w one share made is stay) = counts_sent_keeps (all_of first) facts n s s' r actor id me st l w one
      share made
  step_keeps_rule s s' r rests rests' move (takes_count_back actor id me st l w one share owes made is stay) = takes_count_back_keeps (all_of first) facts n s s' r actor id
      me st l w one share made
  step_keeps_rule s s' r rests rests' move (counts_taken actor id me st c l w one has of made is stay) = counts_taken_keeps (all_of first) facts n s s' r actor id me st l c
      w one has of made
  step_keeps_rule s s' r rests rests' move (loads_count actor id me st l w made is stay) = loads_count_keeps (all_of first) facts n s s' r actor id me st l w made
  step_keeps_rule s s' r rests rests' move (looks actor id me st l w finds made is stay) = looks_keeps (all_of first) facts n s s' r actor id me st l w made
  step_keeps_rule s s' r rests rests' move (finds_mark actor id me st l w finds made is stay) = looks_keeps (all_of first) facts n s s' r actor id me st l w made
  step_keeps_rule s s' r rests rests' move (takes_list actor id me st list l w more bare may hit made is stay) = takes_list_keeps (all_of first) facts n s s' r actor id me
      st l list w more bare may hit made
  step_keeps_rule s s' r rests rests' move (misses_list actor id me st l w miss made is stay) = misses_list_keeps (all_of first) facts n s s' r actor id me st l w miss made
  step_keeps_rule s s' r rests rests' move (refuses actor id me st message l w said same shut made is stay) = refuses_keeps (all_of first) facts n s s' r actor id me st l
      message w said same shut made
  step_keeps_rule s s' r rests rests' move (enlists actor id me st lent message l w has of carried names few made is stay) = enlists_keeps (all_of first) facts n s s' r
      actor id me st l lent message has of carried names few made
  step_keeps_rule s s' r rests rests' move (drains actor id me st lent c l w has of_list owns of gate made is are) = drains_keeps (all_of first) facts n s s' r actor id me
      st l lent c has of_list owns of gate made
  step_keeps_rule s s' r rests rests' move (ends actor id me st lent c l w has of_list owns of shut gate made is are) = ends_keeps (all_of first) facts n s s' r actor id me
      st l lent c has of_list owns of shut gate made
  step_keeps_rule s s' r rests rests' move (finds_drained actor id me st c l w owns of bare hit made is stay) = finds_drained_keeps (all_of first) facts n s s' r actor id
      me st l c w owns of bare hit made
  step_keeps_rule s s' r rests rests' move (finds_undrained actor id me st c l w owns of bare miss made is stay) = finds_undrained_keeps (all_of first) facts n s s' r actor
      id me st l c w owns of bare miss made
  step_keeps_rule s s' r rests rests' move (copies_pass id v share no_list bare made is stay) = copies_keeps (all_of first) facts n s s' r id v share no_list bare made
  step_keeps_rule s s' r rests rests' move (splits_pass id v share no_list bare made is stay) = splits_pass_keeps (all_of first) facts n s s' r id v share no_list bare made
  step_keeps_rule s s' r rests rests' move (splits_claim id v share no_list made is stay) = splits_claim_keeps (all_of first) facts n s s' r id v share no_list made
  step_keeps_rule s s' r rests rests' move (joins id other v w share bare no_list made is stay) = joins_keeps (all_of first) facts n s s' r id other v w share bare no_list
      made
  step_keeps_rule s s' r rests rests' move (moves_pass id v no_list bare made is stay) = moves_pass_keeps (all_of first) facts n s s' r id v no_list made
  step_keeps_rule s s' r rests rests' move (joins_passes id other v w share bare no_list made is stay) = joins_passes_keeps (all_of first) facts n s s' r id other v w share
      bare no_list made
  step_keeps_rule s s' r rests rests' move (parts_passes id v w mine theirs bare no_list made is stay) = parts_passes_keeps (all_of first) facts n s s' r id v w mine theirs
      bare no_list made
  step_keeps_rule s s' r rests rests' move (comes_back id other v w knows bare no_list made is stay) = comes_back_keeps (all_of first) facts n s s' r id other v w knows bare
      no_list made
  step_keeps_rule s s' r rests rests' move (writes actor id me st c step l w has of valid so made is stay) = writes_keeps (all_of first) facts n s s' r actor id me st l c
      step has of valid so made

  move_of : (s s' : State (Slot H) View) (r : Rule (all_of first) facts n s) (r' : Rule (all_of first) facts n s') (rests rests' : Rests) (move : Move) → AreMarked
      (all_of first) facts n s r rests → IsTableStep all_of first facts n s rests move s' rests' → IsMove (all_of first) facts n s r rests move s' r' rests'
  move_of s s' r r' rests rests' move marked (loads_status actor id me st l w made is stay) =
      same_move (all_of first) facts n s s' r r' rests rests' move actor id Read l (load_is_read (all_of first) facts n s s' r r' actor id me st (rests actor) l w
      made) is stay
  move_of s s' r r' rests rests' move marked (schedules actor id me st note home l w said free bit bare share hit made known is stay) =
      same_move (all_of first) facts n s s' r r' rests rests' move actor id Schedule l (won_is_schedule all_of first facts n s s' r r' actor id me st note home (rests
      actor) l w said bit bare hit made) is stay
  move_of s s' r r' rests rests' move marked (misses_status actor id me st note l w said miss made is stay) =
      same_move (all_of first) facts n s s' r r' rests rests' move actor id Read l (lost_is_read all_of first facts n s s' r r' actor id me st note (rests actor) l w
      said miss made) is stay
  move_of s s' r r' rests rests' move marked (loads_own_status actor id me st c l w has of made is stay) =
      still_move (all_of first) facts n s s' r r' rests rests' move (load_by_the_holder_is_none (all_of first) facts n s s' r r' actor id me st c l w has of made) is
      stay
  move_of s s' r r' rests rests' move marked (looks_for_claim actor id me st l w made is stay) =
      still_move (all_of first) facts n s s' r r' rests rests' move (look_for_claim_is_none (all_of first) facts n s s' r r' actor id me st l w made) is stay
  move_of s s' r r' rests rests' move marked (loads_flag actor id me st l w made is stay) =
      still_move (all_of first) facts n s s' r r' rests rests' move (load_of_flag_is_none (all_of first) facts n s s' r r' actor id me st l w made) is stay
  move_of s s' r r' rests rests' move marked (gives_back actor id me st status left l w ready unshut new quiet made is are) =
      event_move (all_of first) facts n s s' r r' rests rests' move actor id (Idle left) (left ++ rests actor) l (store_is_idle (all_of first) facts n s s' r r'
      actor id me st (held_in me.0) ready.home (rests actor) left l w ready.has ready.of ready.carried quiet made) is are
  move_of s s' r r' rests rests' move marked (gives_back_closed actor id me st status left l w ready shut new quiet made is are) =
      event_move (all_of first) facts n s s' r r' rests rests' move actor id (Idle left) (left ++ rests actor) l (flag_is_idle (all_of first) facts n s s' r r'
      actor id me st (held_in me.0) ready.home (rests actor) left l w ready.has ready.of ready.carried quiet made) is are
  move_of s s' r r' rests rests' move marked (counts_sent actor id me st l w one share made is stay) =
      same_move (all_of first) facts n s s' r r' rests rests' move actor id Sent l (addition_is_sent (all_of first) facts n s s' r r' actor id me st (rests actor) l w
      made) is stay
  move_of s s' r r' rests rests' move marked (takes_count_back actor id me st l w one share owes made is stay) =
      same_move (all_of first) facts n s s' r r' rests rests' move actor id Unsent l (subtraction_is_unsent (all_of first) facts n s s' r r' actor id me st (rests
      actor) l w owes made) is stay
  move_of s s' r r' rests rests' move marked (counts_taken actor id me st c l w one has of made is stay) =
      same_move (all_of first) facts n s s' r r' rests rests' move actor id Taken l (subtraction_is_taken (all_of first) facts n s s' r r' actor id me st c (rests
      actor) l w has of made) is stay
  move_of s s' r r' rests rests' move marked (loads_count actor id me st l w made is stay) =
      same_move (all_of first) facts n s s' r r' rests rests' move actor id Count l (load_is_count (all_of first) facts n s s' r r' actor id me st (rests actor) l w
      made) is stay
  move_of s s' r r' rests rests' move marked (looks actor id me st l w finds made is stay) =
      same_move (all_of first) facts n s s' r r' rests rests' move actor id SysRead l ((load_is_sys_read (all_of first) facts n s s' r r' actor id me st (rests
      actor) l w (marked actor l) made).0 (⊎_elim inl (λ work. inr (work_shown (all_of first) facts (spot_of word_offset slot_offset s r.ghosts actor) (rests actor) (r.each actor l).list_place work)) finds)) is stay
  move_of s s' r r' rests rests' move marked (finds_mark actor id me st l w finds made is stay) =
      still_move (all_of first) facts n s s' r r' rests rests' move ((load_is_sys_read (all_of first) facts n s s' r r' actor id me st (rests actor) l w (marked actor
      l) made).1 finds) is stay
  move_of s s' r r' rests rests' move marked (takes_list actor id me st list l w more bare may hit made is stay) =
      still_move (all_of first) facts n s s' r r' rests rests' move (take_is_none (all_of first) facts n s s' r r' actor id me st list l w bare hit made) is stay
  move_of s s' r r' rests rests' move marked (misses_list actor id me st l w miss made is stay) =
      still_move (all_of first) facts n s s' r r' rests rests' move (miss_is_none (all_of first) facts n s s' r r' actor id me st l w miss made) is stay
  move_of s s' r r' rests rests' move marked (refuses actor id me st message l w said same shut made is stay) =
      still_move (all_of first) facts n s s' r r' rests rests' move (refusal_is_none (all_of first) facts n s s' r r' actor id me st message l w said same made) is
      stay
  move_of s s' r r' rests rests' move marked (enlists actor id me st lent message l w has of carried names few made is stay) =
      same_move (all_of first) facts n s s' r r' rests rests' move actor id (SysAdd message) l (store_is_sys_add (all_of first) facts n s s' r r' actor id me st lent
      message (rests actor) l w has of carried made) is stay
  move_of s s' r r' rests rests' move marked (drains actor id me st lent c l w has of_list owns of gate made is are) =
      event_move (all_of first) facts n s s' r r' rests rests' move actor id SysDrain [] l (store_is_sys_drain (all_of first) facts n s s' r r' actor id me st lent c
      (rests actor) l w has of_list owns of made) is are
  move_of s s' r r' rests rests' move marked (ends actor id me st lent c l w has of_list owns of shut gate made is are) =
      event_move (all_of first) facts n s s' r r' rests rests' move actor id SysEnd [] l (store_is_sys_end (all_of first) facts n s s' r r' actor id me st lent c (rests
      actor) l w has of_list owns of made) is are
  move_of s s' r r' rests rests' move marked (finds_drained actor id me st c l w owns of bare hit made is stay) =
      same_move (all_of first) facts n s s' r r' rests rests' move actor id SysDrain l ((check_is_sys_drain (all_of first) facts n s s' r r' actor id me st c (rests
      actor) l w owns of bare (marked actor l) made).0 hit) is stay
  move_of s s' r r' rests rests' move marked (finds_undrained actor id me st c l w owns of bare miss made is stay) =
      still_move (all_of first) facts n s s' r r' rests rests' move ((check_is_sys_drain (all_of first) facts n s s' r r' actor id me st c (rests actor) l w owns of
      bare (marked actor l) made).1 miss) is stay
  move_of s s' r r' rests rests' move marked (copies_pass id v share no_list bare made is stay) =
      subst (λ m. IsMove (all_of first) facts n s r rests m s' r' rests') (sym is) (
        inl ((splits_are_splits (all_of first) facts n s s' r r' id v no_list).0 bare made),
        stay,
      )
  move_of s s' r r' rests rests' move marked (splits_pass id v share no_list bare made is stay) =
      subst (λ m. IsMove (all_of first) facts n s r rests m s' r' rests') (sym is) (
        inr ((splits_are_splits (all_of first) facts n s s' r r' id v no_list).1 bare made),
        stay,
      )
  move_of s s' r r' rests rests' move marked (splits_claim id v share no_list made is stay) =
      subst (λ m. IsMove (all_of first) facts n s r rests m s' r' rests') (sym is) (
        inr ((splits_are_splits (all_of first) facts n s s' r r' id v no_list).2 made),
        stay,
      )
  move_of s s' r r' rests rests' move marked (joins id other v w share bare no_list made is stay) =
      subst (λ m. IsMove (all_of first) facts n s r rests m s' r' rests') (sym is) (
        ⊎_elim (λ m e. m.two (sym e)) (λ m e. m.two (sym e)) made,
        ⊎_elim (λ m. seat_there s.views id v m.present) (λ m. seat_there s.views id v m.present) made,
        joins_are_joins (all_of first) facts n s s' r r' id other v w bare no_list made,
        stay,
      )
  move_of s s' r r' rests rests' move marked (moves_pass id v no_list bare made is stay) =
      subst (λ m. IsMove (all_of first) facts n s r rests m s' r' rests') (sym is) (
        inr (moves_are_splits (all_of first) facts n s s' r r' id v bare no_list made),
        stay,
      )
  move_of s s' r r' rests rests' move marked (joins_passes id other v w share bare no_list made is stay) =
      subst (λ m. IsMove (all_of first) facts n s r rests m s' r' rests') (sym is) (
        (λ e. made.two (sym e)),
        seat_there s.views id v made.present,
        together_is_join (all_of first) facts n s s' r r' id other v w bare no_list (inl made),
        stay,
      )
  move_of s s' r r' rests rests' move marked (parts_passes id v w mine theirs bare no_list made is stay) =
      subst (λ m. IsMove (all_of first) facts n s r rests m s' r' rests') (sym is) (
        again_is_part (all_of first) facts n s s' r r' id v w bare no_list made,
        stay,
      )
  move_of s s' r r' rests rests' move marked (comes_back id other v w knows bare no_list made is stay) =
      subst (λ m. IsMove (all_of first) facts n s r rests m s' r' rests') (sym is) (
        (λ e. made.two (sym e)),
        seat_there s.views id v made.present,
        together_is_join (all_of first) facts n s s' r r' id other v w bare no_list (inr (knows, made)),
        stay,
      )
  move_of s s' r r' rests rests' move marked (writes actor id me st c step l w has of valid so made is stay) =
      same_move (all_of first) facts n s s' r r' rests rests' move actor id step l (writes_as (all_of first) facts n s s' r r' actor id me.0 made.view c st.first me.1
      (rests actor) l made.present has of (first_of _ _ made.told.0) made.after step (λ x y held was e. holder_step x y id c.word st.first step so held was e)) is
      stay

-- what is left where nothing changes
marks_stay : {H : Type 0} (is_of : ℕ → H → Type 0) (facts : H → HomeFacts) (n : ℕ) (s s' : State (Slot H) View) (r : Rule is_of facts n s) (rests rests' : Rests)
    → AreMarked is_of facts n s r rests → (same : s' ≡ s) → RestsStay rests rests' → AreMarked is_of facts n s' (subst (Rule is_of facts n) (sym same) r) rests'
marks_stay is_of facts n s s' r rests rests' marked same stay =
    let q = subst (Rule is_of facts n) (sym same) r in
    subst (λ (z : State (Slot _) View). (p : Rule is_of facts n z) → AreMarked is_of facts n z p rests') (sym same)
    (λ p a inside. subst (IsMarked (p.ghosts a)) (sym (stay a)) ((shows_one is_of facts n s r p a inside).marked (rests a) (marked a inside))) q

pub table_steps_are_moves : {H : Type 0} (all_of : H → ℕ → H → Type 0) (first : H) (facts : H → HomeFacts) → TableStepsAreMoves all_of first facts
table_steps_are_moves all_of first facts n s s' r rests rests' [] marked w = (
  subst (Rule (all_of first) facts n) (sym w.0) r,
  w,
  marks_stay (all_of first) facts n s s' r rests rests' marked w.0 w.1,
)
table_steps_are_moves all_of first facts n s s' r rests rests' (move ∷ moves) marked w =
    let q = step_keeps_rule all_of first facts n s w.0 r rests w.1 move w.2 in
    let m = move_of all_of first facts n s w.0 r q rests w.1 move marked w.2 in
    let later = table_steps_are_moves all_of first facts n w.0 s' q w.1 rests' moves (marks_after (all_of first) facts n s w.0 r q rests w.1 move m marked) w.3 in
    (later.0, (w.0, q, w.1, m, later.1), later.2)
