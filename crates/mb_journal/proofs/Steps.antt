-- What an entry more makes of all queries, by the tests that it passes.
use Rattle.std.proofs.Common.{◌≡◌, ℕ, ◌+◌, List, [], ◌++◌, Bool, true, false, refl, ap, ◌∙◌}
use Rattle.std.specs.Prelude.{not, ◌&&◌, ◌||◌, if◌then◌else◌, filter, None}
use Rattle.std.proofs.lemmas.List.{append-nil}
use Rattle.mb_msg.specs.declared.id.ActorId.{ActorId}
use Rattle.mb_msg.specs.declared.system.SysMsg.TheVariants as system
use Rattle.mb_actor.specs.ActorList.{has}
use Rattle.mb_actor.specs.OutboxView.{spawns_of}
use Rattle.mb_actor.specs.declared.phase.Phase.{Phase}
use Rattle.mb_actor.specs.declared.phase.Phase.TheVariants.{Fresh, Live, Broken, Ending, Ended}
use Rattle.mb_journal.specs.Effects.{applies, lasting_effects}
use Rattle.mb_journal.specs.Entry.{Entry, answered_failed}
use Rattle.mb_journal.specs.Entry.Entry.{System}
use Rattle.mb_journal.specs.Entry.Outcome.{Applied}
use Rattle.mb_journal.specs.Failure.{is_nobody, is_resume_of_failure, failure_source}
use Rattle.mb_journal.specs.declared.failed_by.FailedBy.TheVariants.{Nobody, Itself}
use Rattle.mb_journal.specs.Identity.{Identity, is_guardian}
use Rattle.mb_journal.specs.Incarnation.{entry_messages}
use Rattle.mb_journal.specs.Life.{is_create, is_terminate, is_resume, after_death}
use Rattle.mb_journal.specs.Phase.{phase_is}
use Rattle.mb_journal.specs.Suspension.{mark_if, is_suspend}
use Rattle.mb_journal.specs.Suspension.Mark.{Plus, Minus}
use Rattle.mb_journal.specs.Watching.{watching_after, due_after, with_dead, after_told}
use Rattle.mb_journal.proofs.CountLemmas.{running}
use Rattle.mb_journal.proofs.Fold.{Queries, next_queries, starts, ends, restarts, lasts, fails, off_fresh}
use Rattle.mb_journal.proofs.Fold.{watchers_on, aside_on, requests_on, next_on}
use Rattle.mb_journal.proofs.TestLemmas.{and-false, if_same, none_excepted}

-- the tests of an entry: it is a start, an ending, a restart, the last, a failure, a Suspend or a Resume off Fresh, a Resume
-- for the failure while Live
pub record Tests : Type 0 where
  pub start : Bool
  pub ending : Bool
  pub restart : Bool
  pub last : Bool
  pub failure : Bool
  pub suspend : Bool
  pub resume : Bool
  pub resume_of_failure : Bool

abbrev pub tests_of : Identity → Queries → Entry → Tests
tests_of who q e = record {
  start = starts q e;
  ending = ends q e;
  restart = restarts who q e;
  last = lasts q e;
  failure = fails who q e;
  suspend = off_fresh is_suspend q e;
  resume = off_fresh is_resume q e;
  resume_of_failure = applies is_resume_of_failure e && phase_is q.phase Live;
}

-- what an entry that passes these tests makes of the queries
abbrev pub step_by : Identity → Queries → Entry → Tests → Queries
step_by who q e t = record {
  phase =
      if phase_is q.phase Ended || t.last then Ended
      else (if phase_is q.phase Ending || t.ending then Ending
      else (if t.start || t.restart then (if answered_failed e then Broken else Live)
      else q.phase));
  started = applies is_create e || q.started;
  ended = applies is_terminate e || q.ended;
  was_live = if t.ending then phase_is q.phase Live else q.was_live;
  marked =
      running q.marked
      (mark_if t.start Minus ++ mark_if t.suspend Plus ++ mark_if (t.resume || t.restart) Minus ++ mark_if t.failure Plus
      ++ mark_if (t.ending && not t.last) Plus);
  failed =
      if t.failure then failure_source e
      else (if t.restart then Nobody
      else (if t.resume_of_failure then Nobody
      else (if t.ending && not t.last then Itself
      else q.failed)));
  children =
      after_death e q.children
      ++ (if is_guardian who then (if t.start then who.prepared else []) else spawns_of (lasting_effects e));
  watchers = watchers_on q.watchers e;
  watching = watching_after who.this (if t.ending then [] else after_death e q.watching) (lasting_effects e);
  due = due_after (if t.ending then [] else after_told e (with_dead e q.watching q.due)) (lasting_effects e);
  aside = aside_on q.aside e;
  requests = requests_on who q e;
  messages = if t.start || t.restart then [] else q.messages ++ entry_messages e;
  unspawned = filter (λ x. not (has (spawns_of (lasting_effects e)) x)) q.unspawned;
  next = next_on q.next e;
}

pub step-tests : (who : Identity) (q : Queries) (e : Entry) (t : Tests) → tests_of who q e ≡ t → next_queries who q e ≡ step_by who q e t
step-tests who q e t is = ap (λ (tests : Tests). step_by who q e tests) is

-- the tests, one by one
pub tests-are : (who : Identity) (q : Queries) (e : Entry) (t : Tests) → starts q e ≡ t.start → ends q e ≡ t.ending →
    restarts who q e ≡ t.restart → lasts q e ≡ t.last → fails who q e ≡ t.failure → off_fresh is_suspend q e ≡ t.suspend →
    off_fresh is_resume q e ≡ t.resume → (applies is_resume_of_failure e && phase_is q.phase Live) ≡ t.resume_of_failure →
    tests_of who q e ≡ t
tests-are who q e t a b c d f s r o = λ i. record {
  start = a i;
  ending = b i;
  restart = c i;
  last = d i;
  failure = f i;
  suspend = s i;
  resume = r i;
  resume_of_failure = o i;
}

-- an entry that is no start, restart, escalation or envelope is no failure
pub fails-not : (q : Queries) → (is_nobody q.failed && (false || false)) ≡ false
fails-not q = and-false (is_nobody q.failed)

-- a phase that no test changes
pub phase-still : (p : Phase) (failed : Phase) →
    (if phase_is p Ended || false then Ended else (if phase_is p Ending || false then Ending else (if false || false then failed else p))) ≡ p
phase-still Fresh failed = refl
phase-still Live failed = refl
phase-still Broken failed = refl
phase-still Ending failed = refl
phase-still Ended failed = refl

-- an entry without effects spawns nothing, also of the guardian, unless it is a start
pub no_child : (who : Identity) (list : List ActorId) → list ++ (if is_guardian who then [] else []) ≡ list
no_child who list = ap (λ more. list ++ more) (if_same (is_guardian who) []) ∙ append-nil list

-- ---- an entry that changes nothing but whose number is used up

abbrev pub none_passed : Tests
none_passed = record {
  start = false;
  ending = false;
  restart = false;
  last = false;
  failure = false;
  suspend = false;
  resume = false;
  resume_of_failure = false;
}

-- the queries after a system message that does nothing
abbrev pub passed : Queries → Entry → Queries
passed q e = record q {
  started = applies is_create e || q.started;
  ended = applies is_terminate e || q.ended;
  aside = aside_on q.aside e;
  next = next_on q.next e;
}

-- ---- Suspend, off Fresh

module _ (who : Identity) (q : Queries) (number : ℕ) where
  abbrev pub suspend_entry : Entry
  suspend_entry = System number system.Suspend (Applied None [])

  pub suspend-tests : phase_is q.phase Fresh ≡ false → tests_of who q suspend_entry ≡ record none_passed { suspend = true }
  suspend-tests off_fresh =
      tests-are who q suspend_entry (record none_passed { suspend = true }) refl refl refl (and-false (phase_is q.phase Ending)) (fails-not q)
      (ap not off_fresh) refl refl

  -- one suspension more
  pub suspend-step : phase_is q.phase Fresh ≡ false →
      next_queries who q suspend_entry ≡ record (passed q suspend_entry) { marked = q.marked + 1 }
  suspend-step off_fresh =
      step-tests who q suspend_entry (record none_passed { suspend = true }) (suspend-tests off_fresh)
      ∙ (λ i. record (passed q suspend_entry) {
        phase = phase-still q.phase Live i;
        marked = q.marked + 1;
        children = no_child who q.children i;
        messages = append-nil q.messages i;
        unspawned = none_excepted q.unspawned i;
      })
