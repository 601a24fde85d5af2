-- Where each notice of an end in a journal is true, so is each Terminated that the actor handled.
use Rattle.std.proofs.Common.{◌≡◌, ℕ, Bool, true, false, if◌then◌else◌, List, [], ◌∷◌, ◌++◌, ap, refl, sym, ◌∙◌}
use Rattle.std.specs.Prelude.{All, not, ◌||◌, slice_get}
use Rattle.std.proofs.lemmas.Bool.{eqb-true}
use Rattle.std.proofs.lemmas.List.Elements.{All-append, All-cons, All-filter, All-head, All-nil, All-push, All-tail}
use Rattle.mb_actor.specs.ActorList.{has, is_same}
use Rattle.mb_actor.specs.Behaviour.{Moment, Reply}
use Rattle.mb_actor.specs.declared.effect.Effect.{Effect}
use Rattle.mb_actor.specs.declared.effect.Effect.TheVariants as effect
use Rattle.mb_actor.specs.declared.message.Message.TheVariants as message
use Rattle.mb_ghost.specs.Seen.{Each}
use Rattle.mb_home.specs.AtHome.{system_entries}
use Rattle.mb_journal.specs.ActorList.{joined, without}
use Rattle.mb_journal.specs.Effects.{lasting_effects}
use Rattle.mb_journal.specs.Entry.{Entry, Outcome}
use Rattle.mb_journal.specs.Entry.Entry.{Dropped, Handled, System}
use Rattle.mb_journal.specs.Entry.Outcome.{Applied, SetAside}
use Rattle.mb_journal.specs.Identity.{Identity}
use Rattle.mb_journal.specs.Incarnation.{body_messages, entry_messages}
use Rattle.mb_journal.specs.Lawful.{AreLawful, IsExpected, IsLawfulEntry}
use Rattle.mb_journal.specs.Life.{is_ending}
use Rattle.mb_journal.specs.Watching.{after_told, due, due_after, watching, with_dead}
use Rattle.mb_msg.specs.declared.envelope.Body.{Body}
use Rattle.mb_msg.specs.declared.envelope.Body.TheVariants as body
use Rattle.mb_msg.specs.declared.envelope.Envelope.{Envelope}
use Rattle.mb_msg.specs.declared.id.ActorId.{ActorId}
use Rattle.mb_msg.specs.declared.system.SysMsg.{SysMsg}
use Rattle.mb_msg.specs.declared.system.SysMsg.TheVariants as system
use Rattle.mb_report.specs.declared.report.Report.{Report}
use Rattle.heddleorange.specs.Notices.{IsTrueNotice, IsTrueMessage, HasEnded}
use Rattle.heddleorange.specs.Reading.{handled_messages}

module _ (report : Report) where
  has-ended : (list : List ActorId) → All (HasEnded report) list → (x : ActorId) → has list x ≡ true → HasEnded report x
  has-ended [] all x is = absurd (cc is)
  has-ended (b ∷ list) all x is = by_test (λ more. has-ended list (All-tail (HasEnded report) b list all) x more) (is_same x b) refl (has list x) refl
    where
      neither : true ≡ false → ⊥
      neither e = cc

      by_test : (has list x ≡ true → HasEnded report x) → (same : Bool) → is_same x b ≡ same → (more : Bool) → has list x ≡ more → HasEnded report x
      by_test rest true same more there_too =
          λ r at. All-head (HasEnded report) b list all r (ap (slice_get report.actors.items) (sym (eqb-true x.0 b.0 same)) ∙ at)
      by_test rest false other true there_too = rest there_too
      by_test rest false other false nowhere = absurd (neither (sym is ∙ (λ i. other i || nowhere i)))

  choice : (b : Bool) (first second : List ActorId) → All (HasEnded report) first → All (HasEnded report) second
      → All (HasEnded report) (if b then first else second)
  choice true first second y n = y
  choice false first second y n = n

  due_after-ended : (list : List ActorId) (effects : List Effect) → All (HasEnded report) list → All (HasEnded report) (due_after list effects)
  due_after-ended list [] all = all
  due_after-ended list (effect.Tell to kind value ∷ effects) all = due_after-ended list effects all
  due_after-ended list (effect.Control to kind value ∷ effects) all = due_after-ended list effects all
  due_after-ended list (effect.Watch x ∷ effects) all = due_after-ended list effects all
  due_after-ended list (effect.Unwatch x ∷ effects) all =
      due_after-ended (without list x) effects (All-filter (λ b. not (is_same x b)) (HasEnded report) list all)
  due_after-ended list (effect.Stop x ∷ effects) all = due_after-ended list effects all
  due_after-ended list (effect.Spawn x ∷ effects) all = due_after-ended list effects all

  told-ended : (envelope : Envelope) (b : Body) (reading : ℕ) (outcome : Outcome) (list : List ActorId) → All (HasEnded report) list
      → All (HasEnded report) (after_told (Handled (record envelope { body = b }) reading outcome) list)
  told-ended envelope (body.User kind value) reading outcome list all = all
  told-ended envelope (body.Control kind value) reading outcome list all = all
  told-ended envelope body.PoisonPill reading outcome list all = all
  told-ended envelope body.Kill reading outcome list all = all
  told-ended envelope (body.Terminated x) reading outcome list all = All-filter (λ b. not (is_same x b)) (HasEnded report) list all

  -- whose end the actor is still to be told of has ended
  due-ended : (who : Identity) (journal : List Entry) → Each (λ (m : ℕ × SysMsg). IsTrueNotice report m.1) (system_entries journal)
      → All (HasEnded report) (due who journal)
  unfolding due
  due-ended who [] each = All-nil (HasEnded report)
  due-ended who (Handled envelope reading outcome ∷ before) each =
      due_after-ended _ (lasting_effects (Handled envelope reading outcome))
      (choice (is_ending (Handled envelope reading outcome) before) [] (after_told (Handled envelope reading outcome) (due who before))
      (All-nil (HasEnded report)) (told-ended envelope envelope.body reading outcome (due who before) (due-ended who before each)))
  due-ended who (Dropped envelope ∷ before) each =
      due_after-ended _ (lasting_effects (Dropped envelope))
      (choice (is_ending (Dropped envelope) before) [] (due who before) (All-nil (HasEnded report)) (due-ended who before each))
  due-ended who (System number m outcome ∷ before) each =
      due_after-ended _ (lasting_effects (System number m outcome))
      (choice (is_ending (System number m outcome) before) [] (with_dead (System number m outcome) (watching who before) (due who before))
      (All-nil (HasEnded report)) (by_message (due-ended who before each.1) m outcome each.0))
    where
      by_message : All (HasEnded report) (due who before) → (m : SysMsg) (outcome : Outcome) → IsTrueNotice report m
          → All (HasEnded report) (with_dead (System number m outcome) (watching who before) (due who before))
      by_message so_far system.Create outcome is = so_far
      by_message so_far (system.Recreate c) outcome is = so_far
      by_message so_far system.Suspend outcome is = so_far
      by_message so_far (system.Resume f) outcome is = so_far
      by_message so_far system.Terminate outcome is = so_far
      by_message so_far (system.Watch w) outcome is = so_far
      by_message so_far (system.Unwatch w) outcome is = so_far
      by_message so_far (system.Failed x c) outcome is = so_far
      by_message so_far (system.Died x) SetAside is = so_far
      by_message so_far (system.Died x) (Applied answer effects) is =
          choice (has (watching who before) x) (joined (due who before) x) (due who before)
          (choice (has (due who before) x) (due who before) (due who before ++ x ∷ []) so_far
          (All-push (HasEnded report) (due who before) x so_far (is x refl))) so_far

  module _ (who : Identity) (gives : Moment → Reply → Type 0) where
    -- what a lawful entry gives the actor to handle is true
    entry-true : (before : List Entry) (e : Entry) → IsLawfulEntry who gives before e → All (HasEnded report) (due who before)
        → All (IsTrueMessage report) (entry_messages e)
    entry-true before (Handled envelope reading (Applied answer effects)) lawful ended = by_body envelope.body lawful.expected
      where
        by_body : (b : Body) → IsExpected who before b → All (IsTrueMessage report) (body_messages b)
        by_body (body.User kind value) is = All-cons (IsTrueMessage report) _ [] tt (All-nil (IsTrueMessage report))
        by_body (body.Control kind value) is = All-cons (IsTrueMessage report) _ [] tt (All-nil (IsTrueMessage report))
        by_body body.PoisonPill is = All-nil (IsTrueMessage report)
        by_body body.Kill is = All-nil (IsTrueMessage report)
        by_body (body.Terminated x) is =
            All-cons (IsTrueMessage report) (message.Terminated x) [] (has-ended (due who before) ended x is) (All-nil (IsTrueMessage report))
    entry-true before (Handled envelope reading SetAside) lawful ended = absurd lawful
    entry-true before (System number m outcome) lawful ended = All-nil (IsTrueMessage report)
    entry-true before (Dropped envelope) lawful ended = All-nil (IsTrueMessage report)

    rest-of : (e : Entry) (before : List Entry) → Each (λ (m : ℕ × SysMsg). IsTrueNotice report m.1) (system_entries (e ∷ before))
        → Each (λ (m : ℕ × SysMsg). IsTrueNotice report m.1) (system_entries before)
    rest-of (Handled envelope reading outcome) before each = each
    rest-of (System number m outcome) before each = each.1
    rest-of (Dropped envelope) before each = each

    -- each message that a lawful journal says was handled is true
    pub handled-true : (journal : List Entry) → AreLawful who gives journal
        → Each (λ (m : ℕ × SysMsg). IsTrueNotice report m.1) (system_entries journal) → All (IsTrueMessage report) (handled_messages journal)
    unfolding AreLawful
    handled-true [] lawful each = All-nil (IsTrueMessage report)
    handled-true (e ∷ before) lawful each =
        let rest = rest-of e before each in
        All-append (IsTrueMessage report) (handled_messages before) (entry_messages e) (handled-true before lawful.1 rest)
        (entry-true before e lawful.0 (due-ended who before rest))
