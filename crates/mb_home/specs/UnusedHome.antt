-- The home of an actor to which nothing came (`akka.actor.ActorCell` before its Create; what is kept beside it is this project's own profile).
use Rattle.std.specs.Prelude.{◌≡◌, ℕ, [], slice_get, Some, None}
use Rattle.mb_status.specs.Mailbox.{fresh}
use Rattle.mb_syslist.specs.MessageList.{numbered}
use Rattle.mb_journal.specs.Aside.{next_front}
use Rattle.mb_queue.specs.Passes.{SendPassView}
use Rattle.mb_actor.specs.Behaviour.{Moment, Reply}
use Rattle.mb_home.specs.AgreesWithJournal.{messages_in}
use Rattle.mb_home.specs.AtHome.{IsHomeOf, mailbox_at, drained_of}
use Rattle.mb_home.specs.Contents.{Contents}
use Rattle.mb_home.specs.Directory.{DirectoryEntry}

-- Nothing came to this home's actor, which stands so in the directory. Its cell is that actor's, with an empty journal and no act that is left to be
-- carried out, and its mailbox is open, idle, and suspended once, as before the start. It takes from that actor's queue, by its discipline, and took
-- nothing. The actor sent nothing, so nothing was pushed for it and nothing is dead; nothing was cleaned up, and no system message is dead or was set
-- aside. What is left beside the cell, if anything, has the numbers from 0 on.
pub record IsUnusedHome (entry : DirectoryEntry) (h : Contents) : Type 0 where
  pub who : h.cell.who ≡ entry.who
  pub journal : h.cell.journal ≡ []
  pub carried_out : h.cell.acts ≡ []
  pub mailbox : mailbox_at h.cell.who h.cell.journal ≡ fresh
  pub queue : h.take.queue ≡ entry.queue
  pub discipline : h.take.discipline ≡ entry.discipline
  pub taken : h.take.taken ≡ []
  pub sent : h.sent ≡ 0
  pub pushed : (place : ℕ) (p : SendPassView) → slice_get h.sends place ≡ Some p → p.pushed ≡ []
  pub dead : h.dead ≡ []
  pub cleaned : h.cleaned ≡ []
  pub aside_dead : h.aside_dead ≡ 0
  pub dropped : h.dropped ≡ 0
  pub no_front : next_front h.cell.who h.cell.journal ≡ None
  pub rest : h.rest ≡ numbered 0 (messages_in h.rest)
  pub drained : drained_of h ≡ h.rest

-- An actor's home whose journal is empty is unused.
abbrev pub IsUnusedUntilRun : (ℕ → Moment → Reply → Type 0) → Type 0
IsUnusedUntilRun gives =
    (first h : Contents) (actor : ℕ) (entry : DirectoryEntry) → IsHomeOf (gives actor) first actor h → h.cell.journal ≡ []
    → slice_get first.directory actor ≡ Some entry → IsUnusedHome entry h
