-- Which actors a home names (in Akka a reference names an actor that exists; that actors are numbered is this project's own profile).
use Rattle.std.specs.Prelude.{ℕ, ◌<◌, IfSome, List, [], ◌∷◌}
use Rattle.mb_msg.specs.declared.id.ActorId.{ActorId}
use Rattle.mb_msg.specs.declared.system.SysMsg.{SysMsg}
use Rattle.mb_journal.specs.Acts.{Act}
use Rattle.mb_journal.specs.Entry.{Entry}
use Rattle.mb_journal.specs.Entry.Entry.{Handled, System, Dropped}
use Rattle.mb_ghost.specs.Seen.{Each}
use Rattle.mb_gate.specs.NamedActors.{NamesBelow, EachNamesBelow}
use Rattle.mb_gate.specs.SentSystem.{messages_of}
use Rattle.mb_home.specs.Contents.{Contents}

-- Each actor that a system message of this journal names has a number below this one.
abbrev pub JournalNamesBelow : ℕ → List Entry → Type 0
JournalNamesBelow actors [] = Unit {0}
JournalNamesBelow actors (Handled envelope reading outcome ∷ before) = JournalNamesBelow actors before
JournalNamesBelow actors (System number m outcome ∷ before) = NamesBelow actors m × JournalNamesBelow actors before
JournalNamesBelow actors (Dropped envelope ∷ before) = JournalNamesBelow actors before

-- Each actor that the home names exists: the parent, the children that are prepared, and those named by the system messages that the actor was given
-- or that were drained for it.
pub record NamesActors (h : Contents) : Type 0 where
  pub parent : IfSome h.cell.who.parent (λ p. p.0 < h.cell.who.actors)
  pub prepared : Each (λ (x : ActorId). x.0 < h.cell.who.actors) h.cell.who.prepared
  pub journal : JournalNamesBelow h.cell.who.actors h.cell.journal
  pub rest : EachNamesBelow h.cell.who.actors h.rest

-- Each system message that these acts send goes to one of so many actors, and names only those.
abbrev pub SendsBelow : ℕ → List Act → Type 0
SendsBelow actors pending = Each (λ (m : ℕ × SysMsg). (m.0 < actors) × NamesBelow actors m.1) (messages_of pending)
