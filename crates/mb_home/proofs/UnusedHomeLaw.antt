-- An actor's home whose journal is empty is one to which nothing came.
use Rattle.std.proofs.Common.{◌≡◌, ℕ, ◌+◌, ◌%◌, ◌^◌, false, List, [], ◌∷◌, ◌++◌, length, refl, sym, ap, ◌∙◌, Some, append-nil}
use Rattle.std.specs.Prelude.{slice_get}
use Rattle.std.proofs.lemmas.Option.{same_Some}
use Rattle.mb_status.specs.Mailbox.{fresh}
use Rattle.mb_syslist.specs.MessageList.{numbered}
use Rattle.mb_msg.specs.declared.envelope.Envelope.{Envelope}
use Rattle.mb_actor.specs.Behaviour.{Moment, Reply}
use Rattle.mb_journal.specs.Accepted.{accepted, queued, dead_letters, to_actor}
use Rattle.mb_journal.specs.Aside.{next_number}
use Rattle.mb_journal.specs.Fates.{begun}
use Rattle.mb_journal.specs.Identity.{Identity}
use Rattle.mb_journal.specs.Life.{phase, closed}
use Rattle.mb_journal.specs.Suspension.{count, greatest_net, marks, minuses, pluses}
use Rattle.mb_journal.specs.Tells.{told}
use Rattle.mb_journal.specs.declared.sent_envelope.SentEnvelope.{SentEnvelope}
use Rattle.mb_home.specs.AgreesWithJournal.{AgreesWithJournal, aside_at_end, messages_in}
use Rattle.mb_home.specs.AtHome.{mailbox_at, system_entries}
use Rattle.mb_home.specs.Contents.{Contents}
use Rattle.mb_home.specs.Directory.{DirectoryEntry}
use Rattle.mb_home.specs.UnusedHome.{IsUnusedHome, IsUnusedUntilRun}
use Rattle.mb_home.proofs.StepLemmas.{no_backlog-first}

open-yet : (who : Identity) → closed who [] ≡ false
unfolding phase
open-yet who = refl

fresh-yet : (who : Identity) → mailbox_at who [] ≡ fresh
unfolding phase count marks pluses minuses greatest_net
fresh-yet who = refl

none-numbered : next_number [] ≡ 0
unfolding next_number
none-numbered = refl

no-more : (l : List Envelope) → l ++ [] ≡ [] → l ≡ []
no-more l none = sym (append-nil l) ∙ none

none-answered : (postings : List SentEnvelope) → accepted postings ≡ [] → postings ≡ []
none-answered [] none = refl
none-answered (p ∷ postings) none = absurd (cc)

module _ (h : Contents) (gives : Moment → Reply → Type 0) (s : AgreesWithJournal gives [] h) (untouched : h.cell.journal ≡ []) where
  not-ended : closed h.cell.who h.cell.journal ≡ false
  not-ended = ap (closed h.cell.who) untouched ∙ open-yet h.cell.who

  none-cleaned : h.cleaned ≡ []
  none-cleaned = s.open_keeps not-ended

  none-posted : s.posted.postings ≡ []
  none-posted = none-answered s.posted.postings (no-more (accepted s.posted.postings) (s.posted.told ∙ ap (told h.cell.who) untouched))

  none-dropped : h.dropped ≡ 0
  none-dropped = s.counted.none not-ended

  next-is : (next_number h.cell.journal + h.dropped) % 2 ^ 64 ≡ 0
  next-is = ap (λ j. (next_number j + h.dropped) % 2 ^ 64) untouched ∙ ap (λ n. (n + h.dropped) % 2 ^ 64) none-numbered
      ∙ ap (λ n. (0 + n) % 2 ^ 64) none-dropped

  pub unused : (entry : DirectoryEntry) → h.cell.acts ≡ [] → slice_get h.directory h.cell.who.this.0 ≡ Some entry → IsUnusedHome entry h
  unused entry carried_out enrolled =
      let same = same_Some (record { who = h.cell.who; queue = h.take.queue; discipline = h.take.discipline }) entry (sym s.is_own.enrolled ∙ enrolled) in
      record {
        who = ap (λ (e : DirectoryEntry). e.who) same;
        journal = untouched;
        carried_out = carried_out;
        mailbox = ap (mailbox_at h.cell.who) untouched ∙ fresh-yet h.cell.who;
        queue = ap (λ (e : DirectoryEntry). e.queue) same;
        discipline = ap (λ (e : DirectoryEntry). e.discipline) same;
        taken = s.taken ∙ ap (λ j. begun j ++ h.cleaned) untouched ∙ none-cleaned;
        sent = s.posted.sent ∙ ap (λ (l : List SentEnvelope). length l % 2 ^ 64) none-posted;
        pushed = λ place p there. s.posted.pushed place p there ∙ ap (λ (l : List SentEnvelope). to_actor (place + 1) (queued l)) none-posted;
        dead = s.posted.dead ∙ ap dead_letters none-posted;
        cleaned = none-cleaned;
        aside_dead = s.counted.aside ∙ ap (aside_at_end h.cell.who) untouched;
        dropped = none-dropped;
        no_front = no_backlog-first h.cell untouched;
        rest = s.counted.rest ∙ ap (λ n. numbered n (messages_in h.rest)) next-is;
        drained = ap (λ j. system_entries j ++ h.rest) untouched;
      }

pub unused-until-run : (gives : ℕ → Moment → Reply → Type 0) → IsUnusedUntilRun gives
unused-until-run gives first h actor entry home untouched enrolled =
    unused h (gives actor) home.settled untouched entry home.carried_out
    (ap (λ l. slice_get l h.cell.who.this.0) home.directory ∙ ap (slice_get first.directory) home.number ∙ enrolled)
