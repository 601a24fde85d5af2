-- All queries of a journal at once: what an entry more makes of them follows from what they were and from the entry alone.
use Rattle.std.proofs.Common.{◌≡◌, ℕ, ◌+◌, ◌-◌, List, [], ◌∷◌, ◌++◌, Bool, false, refl, ap, sym, ◌∙◌}
use Rattle.std.specs.Prelude.{◌==◌, not, ◌&&◌, ◌||◌, if◌then◌else◌, filter}
use Rattle.mb_msg.specs.declared.id.ActorId.{ActorId}
use Rattle.mb_msg.specs.declared.supervision.Cause.{Cause}
use Rattle.mb_msg.specs.declared.system.SysMsg.{SysMsg}
use Rattle.mb_msg.specs.declared.system.SysMsg.TheVariants as system
use Rattle.mb_actor.specs.declared.message.Message.{Message}
use Rattle.mb_actor.specs.declared.phase.Phase.{Phase}
use Rattle.mb_actor.specs.declared.phase.Phase.TheVariants.{Fresh, Live, Broken, Ending, Ended}
use Rattle.mb_actor.specs.ActorList.{has}
use Rattle.mb_journal.specs.ActorList.{without, joined}
use Rattle.mb_journal.specs.Aside.{ever_aside, without_number, next_number}
use Rattle.mb_actor.specs.OutboxView.{spawns_of}
use Rattle.mb_journal.specs.Effects.{applies, lasting_effects}
use Rattle.mb_journal.specs.Entry.{Entry, answered_failed}
use Rattle.mb_journal.specs.Entry.Entry.{Handled, System, Dropped}
use Rattle.mb_journal.specs.Entry.Outcome.{Applied, SetAside}
use Rattle.mb_journal.specs.Failure.{failed, fails_by_envelope, is_nobody, is_escalate, is_resume_of_failure, failure_source}
use Rattle.mb_journal.specs.declared.failed_by.FailedBy.{FailedBy}
use Rattle.mb_journal.specs.declared.failed_by.FailedBy.TheVariants.{Nobody, Itself}
use Rattle.mb_journal.specs.Identity.{Identity, is_guardian}
use Rattle.mb_journal.specs.Incarnation.{messages, entry_messages}
use Rattle.mb_journal.specs.Lawful.{unspawned, was_live}
use Rattle.mb_journal.specs.Life.{phase, children, has_start, has_ending, is_create, is_terminate, is_resume, is_empty, is_restart_in}
use Rattle.mb_journal.specs.Life.{after_death, ends_last_child}
use Rattle.mb_journal.specs.Phase.{phase_is}
use Rattle.mb_journal.specs.Retries.{requests, is_given, is_restart_directive, through_refusal}
use Rattle.mb_journal.specs.Supervision.{directive_of}
use Rattle.mb_journal.specs.Suspension.{Mark, mark_if, marks, marks_of, count_after, is_suspend}
use Rattle.mb_journal.specs.Suspension.Mark.{Plus, Minus}
use Rattle.mb_journal.specs.Watching.{watchers, watching, watching_after, due, due_after, with_dead, after_told}
use Rattle.mb_journal.proofs.CountLemmas.{running, count_after-running}

-- what the queries of a journal say: the phase; whether there was a start and an ending; whether the actor was Live at its
-- ending; the count that the marks leave (0 once closed is not yet in it); by whom it is failed; its lists; what was ever set
-- aside and not applied; the requests for permission; the incarnation's messages; whom it may still spawn; the next number
pub record Queries : Type 0 where
  pub phase : Phase
  pub started : Bool
  pub ended : Bool
  pub was_live : Bool
  pub marked : ℕ
  pub failed : FailedBy
  pub children : List ActorId
  pub watchers : List ActorId
  pub watching : List ActorId
  pub due : List ActorId
  pub aside : List (ℕ × SysMsg)
  pub requests : List ActorId
  pub messages : List Message
  pub unspawned : List ActorId
  pub next : ℕ

abbrev pub queries : Identity → List Entry → Queries
queries who journal = record {
  phase = phase who journal;
  started = has_start journal;
  ended = has_ending journal;
  was_live = was_live who journal;
  marked = count_after (marks who journal);
  failed = failed who journal;
  children = children who journal;
  watchers = watchers journal;
  watching = watching who journal;
  due = due who journal;
  aside = ever_aside journal;
  requests = requests who journal;
  messages = messages who journal;
  unspawned = unspawned who journal;
  next = next_number journal;
}

-- ---- what an entry is after these

abbrev pub starts : Queries → Entry → Bool
starts q e = applies is_create e && not q.started

abbrev pub ends : Queries → Entry → Bool
ends q e = applies is_terminate e && not q.ended

abbrev pub restarts : Identity → Queries → Entry → Bool
restarts who q e = is_restart_in q.phase who e

abbrev pub lasts : Queries → Entry → Bool
lasts q e = (ends q e && is_empty q.children) || (phase_is q.phase Ending && ends_last_child e q.children)

abbrev pub escalates : Identity → Queries → Entry → Bool
escalates who q (System number (system.Failed x c) (Applied answer effects)) = has q.children x && is_escalate (directive_of who c)
escalates who q _ = false

abbrev pub fails : Identity → Queries → Entry → Bool
fails who q e =
    ((starts q e || restarts who q e) && answered_failed e) || (is_nobody q.failed && (fails_by_envelope e || escalates who q e))

abbrev pub off_fresh : (SysMsg → Bool) → Queries → Entry → Bool
off_fresh test q e = applies test e && not (phase_is q.phase Fresh)

abbrev pub marks_on : Identity → Queries → Entry → List Mark
marks_on who q e =
    mark_if (starts q e) Minus
    ++ mark_if (off_fresh is_suspend q e) Plus
    ++ mark_if (off_fresh is_resume q e || restarts who q e) Minus
    ++ mark_if (fails who q e) Plus
    ++ mark_if (ends q e && not (lasts q e)) Plus

-- ---- and what it makes of each query

abbrev pub phase_on : Identity → Queries → Entry → Phase
phase_on who q e =
    if phase_is q.phase Ended || lasts q e then Ended
    else (if phase_is q.phase Ending || ends q e then Ending
    else (if starts q e || restarts who q e then (if answered_failed e then Broken else Live)
    else q.phase))

abbrev pub failed_on : Identity → Queries → Entry → FailedBy
failed_on who q e =
    if fails who q e then failure_source e
    else (if restarts who q e then Nobody
    else (if applies is_resume_of_failure e && phase_is q.phase Live then Nobody
    else (if ends q e && not (lasts q e) then Itself
    else q.failed)))

abbrev pub children_on : Identity → Queries → Entry → List ActorId
children_on who q e =
    after_death e q.children
    ++ (if is_guardian who then (if starts q e then who.prepared else []) else spawns_of (lasting_effects e))

abbrev pub watchers_on : List ActorId → Entry → List ActorId
watchers_on list (System number (system.Watch w) (Applied answer effects)) = joined list w
watchers_on list (System number (system.Unwatch w) (Applied answer effects)) = without list w
watchers_on list _ = list

abbrev pub watching_on : Identity → Queries → Entry → List ActorId
watching_on who q e = watching_after who.this (if ends q e then [] else after_death e q.watching) (lasting_effects e)

abbrev pub due_on : Queries → Entry → List ActorId
due_on q e = due_after (if ends q e then [] else after_told e (with_dead e q.watching q.due)) (lasting_effects e)

abbrev pub aside_on : List (ℕ × SysMsg) → Entry → List (ℕ × SysMsg)
aside_on list (System number message SetAside) = list ++ (number, message) ∷ []
aside_on list (System number message (Applied answer effects)) = without_number list number
aside_on list _ = list

abbrev pub meant_on : Identity → Queries → ActorId → List ActorId
meant_on who q x = if who.all_for_one then q.children else x ∷ []

abbrev pub asked_on : Identity → Queries → ActorId → Cause → List ActorId
asked_on who q x c =
    if has q.children x && is_restart_directive (directive_of who c)
    then through_refusal (is_given who q.requests) (meant_on who q x)
    else []

abbrev pub requests_on : Identity → Queries → Entry → List ActorId
requests_on who q (System number (system.Failed x c) (Applied answer effects)) = q.requests ++ asked_on who q x c
requests_on who q _ = q.requests

abbrev pub messages_on : Identity → Queries → Entry → List Message
messages_on who q e = if starts q e || restarts who q e then [] else q.messages ++ entry_messages e

abbrev pub unspawned_on : Queries → Entry → List ActorId
unspawned_on q e = filter (λ x. not (has (spawns_of (lasting_effects e)) x)) q.unspawned

abbrev pub next_on : ℕ → Entry → ℕ
next_on n (System number message outcome) = if number == n then number + 1 else n
next_on n _ = n

abbrev pub next_queries : Identity → Queries → Entry → Queries
next_queries who q e = record {
  phase = phase_on who q e;
  started = applies is_create e || q.started;
  ended = applies is_terminate e || q.ended;
  was_live = if ends q e then phase_is q.phase Live else q.was_live;
  marked = running q.marked (marks_on who q e);
  failed = failed_on who q e;
  children = children_on who q e;
  watchers = watchers_on q.watchers e;
  watching = watching_on who q e;
  due = due_on q e;
  aside = aside_on q.aside e;
  requests = requests_on who q e;
  messages = messages_on who q e;
  unspawned = unspawned_on q e;
  next = next_on q.next e;
}

-- ---- the law, query by query

module _ (who : Identity) (before : List Entry) where
  abbrev now : Queries
  now = queries who before

  phase-fold : (e : Entry) → phase who (e ∷ before) ≡ phase_on who now e
  unfolding phase
  phase-fold e = refl

  started-fold : (e : Entry) → has_start (e ∷ before) ≡ (applies is_create e || has_start before)
  unfolding has_start
  started-fold e = refl

  ended-fold : (e : Entry) → has_ending (e ∷ before) ≡ (applies is_terminate e || has_ending before)
  unfolding has_ending
  ended-fold e = refl

  was_live-fold : (e : Entry) → was_live who (e ∷ before) ≡ (if ends now e then phase_is (phase who before) Live else was_live who before)
  unfolding was_live
  was_live-fold e = refl

  failed-fold : (e : Entry) → failed who (e ∷ before) ≡ failed_on who now e
  unfolding failed
  failed-fold (Handled envelope reading outcome) = refl
  failed-fold (Dropped envelope) = refl
  failed-fold (System number system.Create outcome) = refl
  failed-fold (System number (system.Recreate c) outcome) = refl
  failed-fold (System number system.Suspend outcome) = refl
  failed-fold (System number (system.Resume f) outcome) = refl
  failed-fold (System number system.Terminate outcome) = refl
  failed-fold (System number (system.Watch w) outcome) = refl
  failed-fold (System number (system.Unwatch w) outcome) = refl
  failed-fold (System number (system.Failed x c) SetAside) = refl
  failed-fold (System number (system.Failed x c) (Applied a es)) = refl
  failed-fold (System number (system.Died x) outcome) = refl

  marks-fold : (e : Entry) → marks_of who e before ≡ marks_on who now e
  marks-fold (Handled envelope reading outcome) = refl
  marks-fold (Dropped envelope) = refl
  marks-fold (System number system.Create outcome) = refl
  marks-fold (System number (system.Recreate c) outcome) = refl
  marks-fold (System number system.Suspend outcome) = refl
  marks-fold (System number (system.Resume f) outcome) = refl
  marks-fold (System number system.Terminate outcome) = refl
  marks-fold (System number (system.Watch w) outcome) = refl
  marks-fold (System number (system.Unwatch w) outcome) = refl
  marks-fold (System number (system.Failed x c) SetAside) = refl
  marks-fold (System number (system.Failed x c) (Applied a es)) = refl
  marks-fold (System number (system.Died x) outcome) = refl

  children-fold : (e : Entry) → children who (e ∷ before) ≡ children_on who now e
  unfolding children
  children-fold e = refl

  watchers-fold : (e : Entry) → watchers (e ∷ before) ≡ watchers_on (watchers before) e
  unfolding watchers
  watchers-fold (Handled envelope reading outcome) = refl
  watchers-fold (Dropped envelope) = refl
  watchers-fold (System number system.Create outcome) = refl
  watchers-fold (System number (system.Recreate c) outcome) = refl
  watchers-fold (System number system.Suspend outcome) = refl
  watchers-fold (System number (system.Resume f) outcome) = refl
  watchers-fold (System number system.Terminate outcome) = refl
  watchers-fold (System number (system.Watch w) SetAside) = refl
  watchers-fold (System number (system.Watch w) (Applied a es)) = refl
  watchers-fold (System number (system.Unwatch w) SetAside) = refl
  watchers-fold (System number (system.Unwatch w) (Applied a es)) = refl
  watchers-fold (System number (system.Failed x c) outcome) = refl
  watchers-fold (System number (system.Died x) outcome) = refl

  watching-fold : (e : Entry) → watching who (e ∷ before) ≡ watching_on who now e
  unfolding watching
  watching-fold e = refl

  due-fold : (e : Entry) → due who (e ∷ before) ≡ due_on now e
  unfolding due
  due-fold e = refl

  aside-fold : (e : Entry) → ever_aside (e ∷ before) ≡ aside_on (ever_aside before) e
  unfolding ever_aside
  aside-fold (Handled envelope reading outcome) = refl
  aside-fold (Dropped envelope) = refl
  aside-fold (System number m SetAside) = refl
  aside-fold (System number m (Applied a es)) = refl

  requests-fold : (e : Entry) → requests who (e ∷ before) ≡ requests_on who now e
  unfolding requests
  requests-fold (Handled envelope reading outcome) = refl
  requests-fold (Dropped envelope) = refl
  requests-fold (System number system.Create outcome) = refl
  requests-fold (System number (system.Recreate c) outcome) = refl
  requests-fold (System number system.Suspend outcome) = refl
  requests-fold (System number (system.Resume f) outcome) = refl
  requests-fold (System number system.Terminate outcome) = refl
  requests-fold (System number (system.Watch w) outcome) = refl
  requests-fold (System number (system.Unwatch w) outcome) = refl
  requests-fold (System number (system.Failed x c) SetAside) = refl
  requests-fold (System number (system.Failed x c) (Applied a es)) = refl
  requests-fold (System number (system.Died x) outcome) = refl

  messages-fold : (e : Entry) → messages who (e ∷ before) ≡ messages_on who now e
  unfolding messages
  messages-fold e = refl

  unspawned-fold : (e : Entry) → unspawned who (e ∷ before) ≡ unspawned_on now e
  unfolding unspawned
  unspawned-fold e = refl

  next-fold : (e : Entry) → next_number (e ∷ before) ≡ next_on (next_number before) e
  unfolding next_number
  next-fold (Handled envelope reading outcome) = refl
  next-fold (Dropped envelope) = refl
  next-fold (System number m outcome) = refl

-- the marks of a list and of those behind it, one after another
pub running-append : (n : ℕ) (some more : List Mark) → running n (some ++ more) ≡ running (running n some) more
running-append n [] more = refl
running-append n (Plus ∷ some) more = running-append (n + 1) some more
running-append n (Minus ∷ some) more = running-append (n - 1) some more

pub count_after-append : (some more : List Mark) → count_after (some ++ more) ≡ running (count_after some) more
count_after-append some more =
    count_after-running (some ++ more)
    ∙ (running-append 1 some more ∙ ap (λ n. running n more) (sym (count_after-running some)))

pub marked-fold : (who : Identity) (before : List Entry) (e : Entry) →
    count_after (marks who (e ∷ before)) ≡ running (count_after (marks who before)) (marks_on who (queries who before) e)
unfolding marks
marked-fold who before e =
    count_after-append (marks who before) (marks_of who e before)
    ∙ ap (λ ms. running (count_after (marks who before)) ms) (marks-fold who before e)

-- all of them
pub queries-fold : (who : Identity) (before : List Entry) (e : Entry) → queries who (e ∷ before) ≡ next_queries who (queries who before) e
queries-fold who before e =
    λ i. record {
      phase = phase-fold who before e i;
      started = started-fold who before e i;
      ended = ended-fold who before e i;
      was_live = was_live-fold who before e i;
      marked = marked-fold who before e i;
      failed = failed-fold who before e i;
      children = children-fold who before e i;
      watchers = watchers-fold who before e i;
      watching = watching-fold who before e i;
      due = due-fold who before e i;
      aside = aside-fold who before e i;
      requests = requests-fold who before e i;
      messages = messages-fold who before e i;
      unspawned = unspawned-fold who before e i;
      next = next-fold who before e i;
    }
