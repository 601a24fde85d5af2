-- Where no system message that was set aside is due, and envelopes are left only for who can't handle them, nobody has anything to run.
use Rattle.std.proofs.Common.{◌≡◌, ◌≢◌, ◌⊎◌, inl, inr, ℕ, zero, suc, ◌+◌, ◌%◌, ◌^◌, ◌<◌, ℤ, Bool, true, false, List, [], ◌∷◌, length, refl, sym, ap, ◌∙◌, subst, arith, Option, Some, None}
use Rattle.std.specs.Prelude.{if◌then◌else◌, slice_get}
use Rattle.mb_msg.specs.declared.system.SysMsg.{SysMsg}
use Rattle.mb_actor.specs.Behaviour.{Moment, Reply}
use Rattle.mb_actor.specs.declared.message.Message.{Message}
use Rattle.mb_actor.specs.declared.phase.Phase.{Phase}
use Rattle.mb_actor.specs.declared.phase.Phase.TheVariants.{Fresh, Live, Broken, Ending, Ended}
use Rattle.mb_cell.proofs.FrontLemmas.{front-first}
use Rattle.mb_journal.specs.Aside.{aside, ever_aside, first_of_list, next_front}
use Rattle.mb_journal.specs.Life.{closed, phase}
use Rattle.mb_journal.specs.Phase.{phase_is}
use Rattle.mb_journal.specs.Suspension.{count}
use Rattle.mb_journal.specs.Identity.{Identity}
use Rattle.mb_journal.specs.declared.sent_envelope.SentEnvelope.{SentEnvelope}
use Rattle.mb_gate.specs.View.{Observation}
use Rattle.mb_home.specs.Directory.{DirectoryEntry}
use Rattle.mb_report.specs.declared.report.ActorReport.{ActorReport}
use Rattle.mb_report.specs.declared.report.Report.{Report}
use Rattle.mb_shutdown.specs.CompleteReport.{CountsSystems, IsCompleteReport, IsReportOf}
use Rattle.mb_shutdown.specs.NothingToRun.{HasNothingToRun, NobodyHasToRun}
use Rattle.mb_shutdown.proofs.Lists.{there, within}

-- a phase is the last one, or not
is-ended : (p : Phase) → (p ≡ Ended) ⊎ (phase_is p Ended ≡ false)
is-ended Fresh = inr refl
is-ended Live = inr refl
is-ended Broken = inr refl
is-ended Ending = inr refl
is-ended Ended = inl refl

is-ending : (p : Phase) → (p ≡ Ending) ⊎ (phase_is p Ending ≡ false)
is-ending Fresh = inr refl
is-ending Live = inr refl
is-ending Broken = inr refl
is-ending Ending = inl refl
is-ending Ended = inr refl

no-first : (list : List (ℕ × SysMsg)) → first_of_list list ≡ None → list ≡ []
no-first [] none = refl
no-first (m ∷ list) none = absurd (cc)

module _ (after : ℕ → List Message → ℤ) (gives : ℕ → Moment → Reply → Type 0) (log : List Observation) (who : Identity) (a : ActorReport)
    (is : IsReportOf after gives who a) where
  none-set-aside : a.aside.items ≢ [] → (a.phase ≡ Ending) ⊎ (0 < a.count)
  none-set-aside some = by_phase (is-ending (phase who a.journal.entries))
    where
      by_count : phase_is (phase who a.journal.entries) Ending ≡ false → (n : ℕ) → n ≡ count who a.journal.entries → 0 < n
      by_count off zero same =
          absurd (some (is.aside_is
          ∙ no-first (aside who a.journal.entries) (front-first who a.journal.entries zero same refl off ∙ is.none_due)))
      by_count off (suc n) same = omega arith

      by_phase : (phase who a.journal.entries ≡ Ending) ⊎ (phase_is (phase who a.journal.entries) Ending ≡ false)
          → (a.phase ≡ Ending) ⊎ (0 < a.count)
      by_phase (inl ending) = inl (is.phase_is ∙ ending)
      by_phase (inr off) = inr (by_count off a.count is.count_is)

  none-dead : CountsSystems log who a → a.phase ≢ Ended → a.dead_system ≡ 0
  none-dead counts not_ended = by_phase (is-ended (phase who a.journal.entries))
    where
      by_phase : (phase who a.journal.entries ≡ Ended) ⊎ (phase_is (phase who a.journal.entries) Ended ≡ false) → a.dead_system ≡ 0
      by_phase (inl ended) = absurd (not_ended (is.phase_is ∙ ended))
      by_phase (inr open_yet) =
          let later = counts.open_has_none open_yet in
          let dead : a.dead_system ≡ (0 + counts.later) % 2 ^ 64 =
          counts.dead ∙ ap (λ (b : Bool). ((if b then length (ever_aside a.journal.entries) else 0) + counts.later) % 2 ^ 64) open_yet in
          omega (arith, later, dead)

module _ (after : ℕ → List Message → ℤ) (gives : ℕ → Moment → Reply → Type 0) (directory : List DirectoryEntry) (log : List Observation)
    (outside : List (List SentEnvelope)) (report : Report) (whole : IsCompleteReport after gives directory log outside report) where
  pub nobody-has-to-run : NobodyHasToRun report
  nobody-has-to-run id a found =
      let lt = within report.actors.items id a found in let many = whole.same_count.0 in
      let e = there directory id (omega (arith, lt, many)) in
      let both = whole.actors id e.0 a e.1 found in record {
        none_left = whole.left id a found;
        none_aside = none-set-aside after gives log e.0.who a both.0;
        none_dead = none-dead after gives log e.0.who a both.0 both.1;
      }
