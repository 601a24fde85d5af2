-- What is asked for arrives.
use Rattle.std.proofs.Common.{◌≡◌, ◌+◌, ◌⊎◌, inl, inr, ℕ, Bool, true, false, List, Some, ap, arith, length, map, refl, subst, sym, ◌∙◌, ℤ}
use Rattle.std.specs.Prelude.{Contains, slice_get}
use Rattle.mb_actor.specs.Behaviour.{Moment, Reply}
use Rattle.mb_actor.specs.declared.message.Message.{Message}
use Rattle.mb_actor.specs.declared.phase.Phase.{Phase}
use Rattle.mb_actor.specs.declared.phase.Phase.TheVariants.{Broken, Ended, Ending, Fresh, Live}
use Rattle.mb_build.specs.Identities.{guardian as guardian_of}
use Rattle.mb_build.specs.Planned.{actors_in}
use Rattle.mb_ghost.specs.Summed.{total}
use Rattle.mb_home.specs.Directory.{DirectoryEntry}
use Rattle.mb_journal.proofs.PhaseLemmas.{agrees, endings_agree}
use Rattle.mb_journal.specs.Identity.{Identity}
use Rattle.mb_journal.specs.Life.{closed, has_ending, has_start, phase}
use Rattle.mb_journal.specs.Phase.{phase_is}
use Rattle.mb_msg.specs.declared.actor_plan.ActorPlan.{ActorPlan}
use Rattle.mb_msg.specs.declared.id.ActorId.{ActorId}
use Rattle.mb_msg.specs.declared.order.Order.{Order}
use Rattle.mb_msg.specs.declared.plan.Plan.{Plan}
use Rattle.mb_msg.specs.declared.system.SysMsg.{SysMsg}
use Rattle.mb_msg.specs.declared.system.SysMsg.TheVariants.{Create, Died, Terminate}
use Rattle.mb_report.specs.declared.report.ActorReport.{ActorReport}
use Rattle.mb_report.specs.declared.report.Report.{Report}
use Rattle.mb_shutdown.proofs.Lists.{from-mapped, length-mapped, mapped, there, within}
use Rattle.mb_shutdown.specs.CompleteReport.{IsReportOf}
use Rattle.heddleorange.specs.Arrived.{EachAskedForArrives, EachGetsWhatIsAskedFor, EachOfTheGuardianIsStarted, EachSpawnedIsStarted, EachStopArrives, GuardianIsStarted, IsStartedOrEnded, came, entered}
use Rattle.heddleorange.specs.Asked.{GetsAskedFor, IsAskedFor, asked_for, measure_to}
use Rattle.heddleorange.specs.Notices.{EachTerminatedIsTrue}
use Rattle.heddleorange.specs.Watched.{EachTerminatedIsAskedFor, EachWatcherIsTold}
use Rattle.heddleorange.specs.WholeRun.{IsReportOfRun}
use Rattle.heddleorange.proofs.Came.{asked, came-entered, came-is, count, counted}
use Rattle.heddleorange.proofs.EndsTold.{handled-true}
use Rattle.heddleorange.proofs.EndsDue.{told-due}
use Rattle.heddleorange.proofs.Identified.{number-at}
use Rattle.heddleorange.proofs.Started.{ending, planned-child, prepared-spawned, spawned-due, started}
use Rattle.heddleorange.proofs.TimesTold.{told-as-watched}

pub ended-true : (p : Phase) → phase_is p Ended ≡ true → p ≡ Ended
ended-true Fresh is = absurd (cc is)
ended-true Live is = absurd (cc is)
ended-true Broken is = absurd (cc is)
ended-true Ending is = absurd (cc is)
ended-true Ended is = refl

module _ (after : ℕ → List Message → ℤ) (gives : ℕ → Moment → Reply → Type 0) (plan : Plan) (orders : List (List Order)) (report : Report)
    (story : IsReportOfRun after gives plan orders report) where
  -- What is known of the actor of a place of the report.
  pub record IsKnown (id : ℕ) (a : ActorReport) : Type 0 where
    pub who : Identity
    pub at : slice_get (actors_in plan) id ≡ Some who
    pub number : who.this.0 ≡ id
    pub is : IsReportOf after gives who a
    pub gets : GetsAskedFor (asked_for plan orders report) who a

  known-as : (id : ℕ) (who : Identity) (a : ActorReport) → slice_get (actors_in plan) id ≡ Some who → slice_get report.actors.items id ≡ Some a
      → IsReportOf after gives who a
  known-as id who a at here =
      let e = from-mapped (λ (e : DirectoryEntry). e.who) story.directory id who (ap (λ l. slice_get l id) story.planned.who ∙ at) in
      subst (λ w. IsReportOf after gives w a) e.2 (story.whole.actors id e.0 a e.1 here).0

  pub known : (id : ℕ) (a : ActorReport) → slice_get report.actors.items id ≡ Some a → IsKnown id a
  known id a here =
      let named = length-mapped (λ (e : DirectoryEntry). e.who) story.directory in let planned = ap length story.planned.who in
      let many = story.whole.same_count.0 in let lt = within report.actors.items id a here in
      let who = there (actors_in plan) id (omega (arith, named, planned, many, lt)) in record {
        who = who.0;
        at = who.1;
        number = number-at plan id who.0 who.1;
        is = known-as id who.0 a who.1 here;
        gets = story.asked id who.0 a who.1 here;
      }

  module _ (id : ℕ) (a : ActorReport) (k : IsKnown id a) where
    -- the actor has ended, or this is so
    unless-ended : (P : Type 0) → (closed k.who a.journal.entries ≡ false → P) → (a.phase ≡ Ended) ⊎ P
    unless-ended P alive = by_test (closed k.who a.journal.entries) refl
      where
        by_test : (b : Bool) → closed k.who a.journal.entries ≡ b → (a.phase ≡ Ended) ⊎ P
        by_test true is = inl (k.is.phase_is ∙ ended-true (phase k.who a.journal.entries) is)
        by_test false is = inr (alive is)

    arrives : (m : SysMsg) → IsAskedFor plan orders report (id, m) → closed k.who a.journal.entries ≡ false → Contains (entered a.journal.entries) m
    arrives m is alive =
        let some = asked m k.who.this.0 plan orders report (subst (λ n. IsAskedFor plan orders report (n, m)) (sym k.number) is) in
        let least = k.gets.at_least alive (count m) in
        came-entered a.journal.entries m
        (subst (λ l. Contains l m) (sym (came-is (asked_for plan orders report) k.who a k.gets alive))
        (counted m k.gets.counts.pushed (omega (arith, some, least))))

    exactly : closed k.who a.journal.entries ≡ false → (measure : SysMsg → ℕ) → ((ended : ActorId) → measure (Died ended) ≡ 0)
        → total measure (came a.journal.entries) ≡ total (measure_to id measure) (asked_for plan orders report)
    exactly alive measure silent =
        let all = ap (total measure) (came-is (asked_for plan orders report) k.who a k.gets alive) in
        let most = k.gets.at_most measure silent in let least = k.gets.at_least alive measure in
        subst (λ n. total measure (came a.journal.entries) ≡ total (measure_to n measure) (asked_for plan orders report)) k.number
        (omega (arith, all, most, least))

    -- an actor that has ended applied a Terminate
    pub was-ending : a.phase ≡ Ended → has_ending a.journal.entries ≡ true
    was-ending ended =
        let is : phase k.who a.journal.entries ≡ Ended = sym k.is.phase_is ∙ ended in
        subst (λ p. endings_agree p (has_ending a.journal.entries)) is (agrees k.who a.journal.entries).1

    starts : IsAskedFor plan orders report (id, Create) → IsStartedOrEnded a
    starts is =
        unless-ended (has_start a.journal.entries ≡ true)
        (λ alive. started k.who (gives k.who.this.0) a.journal.entries k.is.lawful.entries (arrives Create is alive))

  pub each-asked-for-arrives : EachAskedForArrives plan orders report
  each-asked-for-arrives m a is here =
      let k = known m.0 a here in unless-ended m.0 a k (Contains (entered a.journal.entries) m.1) (arrives m.0 a k m.1 is)

  pub each-gets-what-is-asked-for : EachGetsWhatIsAskedFor plan orders report
  each-gets-what-is-asked-for id a here = let k = known id a here in unless-ended id a k _ (exactly id a k)

  pub guardian-is-started : GuardianIsStarted report
  guardian-is-started a here = starts 0 a (known 0 a here) (inl (refl, refl))

  pub each-stop-arrives : EachStopArrives plan orders report
  each-stop-arrives to a is here =
      let k = known to a here in
      by_end k (unless-ended to a k (Contains (entered a.journal.entries) Terminate) (arrives to a k Terminate is))
    where
      by_end : (k : IsKnown to a) → (a.phase ≡ Ended) ⊎ Contains (entered a.journal.entries) Terminate → has_ending a.journal.entries ≡ true
      by_end k (inl ended) = was-ending to a k ended
      by_end k (inr is) = ending k.who (gives k.who.this.0) a.journal.entries k.is.lawful.entries is

  pub each-spawned-is-started : EachSpawnedIsStarted plan report
  each-spawned-is-started id who parent child a at there_is is here =
      let lawful = (known-as id who parent at there_is).lawful.entries in
      starts child.0 a (known child.0 a here)
      (inr (inr (id, who, parent, at, there_is, spawned-due who (gives who.this.0) child parent.journal.entries lawful is)))

  abbrev parents : List ActorId
  parents = map (λ (p : ActorPlan). p.parent) plan.actors.items

  abbrev the_guardian : Identity
  the_guardian = guardian_of (length plan.actors.items + 1) plan.journal plan.journal_limit parents

  pub each-of-the-guardian-is-started : EachOfTheGuardianIsStarted plan report
  each-of-the-guardian-is-started place planned guardian a at guards there_is here = by_guardian (guardian-is-started guardian there_is)
    where
      child : ActorId
      child = record { 0 = 1 + place }

      by_guardian : IsStartedOrEnded guardian → (guardian.phase ≡ Ended) ⊎ IsStartedOrEnded a
      by_guardian (inl ended) = inl ended
      by_guardian (inr begun) =
          let prepared = planned-child parents 1 place planned.parent (mapped (λ (p : ActorPlan). p.parent) plan.actors.items place planned at) guards in
          inr (each-spawned-is-started 0 the_guardian guardian child a refl there_is
          (prepared-spawned the_guardian refl child guardian.journal.entries begun prepared) here)

  pub each-terminated-is-true : EachTerminatedIsTrue report
  each-terminated-is-true id a here =
      let k = known id a here in
      handled-true report k.who (gives k.who.this.0) a.journal.entries k.is.lawful.entries (story.notices id a here)

  pub each-watcher-is-told : EachWatcherIsTold plan report
  each-watcher-is-told id who a other b at here ended told there_is =
      let is = known-as id who a at here in
      let shut : closed who a.journal.entries ≡ true = ap (λ p. phase_is p Ended) (sym is.phase_is ∙ ended) in
      each-asked-for-arrives (other.0, Died who.this) b
      (inr (inr (id, who, a, at, here, told-due other who (gives who.this.0) a.journal.entries is.lawful.entries shut told))) there_is

  pub each-terminated-is-asked-for : EachTerminatedIsAskedFor report
  each-terminated-is-asked-for id a x here =
      let k = known id a here in told-as-watched x k.who (gives k.who.this.0) a.journal.entries k.is.lawful.entries
