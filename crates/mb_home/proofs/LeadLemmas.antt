-- How a message's acts change the mailbox, in the forms of the calls.
use Rattle.std.proofs.Common.{◌≡◌, ℕ, ◌≤◌, [], sym, ap, subst}
use Rattle.mb_msg.specs.Limits.{most_entries}
use Rattle.mb_status.specs.Mailbox.{Mailbox, idle}
use Rattle.mb_msg.specs.declared.envelope.Envelope.{Envelope}
use Rattle.mb_msg.specs.declared.system.SysMsg.{SysMsg}
use Rattle.mb_actor.specs.Behaviour.{Moment, Reply}
use Rattle.mb_journal.specs.Entry.{Entry}
use Rattle.mb_journal.specs.Entry.Entry.{System}
use Rattle.mb_journal.specs.Lawful.{IsLawful}
use Rattle.mb_cell.specs.CellView.{CellView, with_entry, TakesSystem, TakesEnvelope}
use Rattle.mb_cell.proofs.RoomLaws.{any-room}
use Rattle.mb_home.specs.AtHome.{mailbox_at}
use Rattle.mb_home.specs.Carried.{Leads, LeadsOn}
use Rattle.mb_home.specs.Contents.{Contents}
use Rattle.mb_home.specs.AgreesWithJournal.{AgreesWithJournal}
use Rattle.mb_home.proofs.FoldLaw.{acts-lead}

entry-leads : (old new : CellView) (gives : Moment → Reply → Type 0) (e : Entry) → old.who.limit ≤ most_entries →
    new ≡ record (with_entry old e) { is_ready = new.is_ready } →
    IsLawful new.who gives new.journal → (m : Mailbox) → idle m ≡ mailbox_at old.who old.journal → Leads m new.acts (mailbox_at new.who new.journal)
entry-leads old new gives e small adds lawful m same =
    subst (λ (c : CellView). Leads m c.acts (mailbox_at c.who c.journal)) (sym adds)
    (acts-lead old.who gives old.journal e m (subst (λ (c : CellView). IsLawful c.who gives c.journal) adds lawful) small same)

-- a system message that was due
pub applied-leads : (h mid new : Contents) (own gives : Moment → Reply → Type 0) (number : ℕ) (m : SysMsg) → AgreesWithJournal own [] h →
    mid ≡ record h { rest = mid.rest } → TakesSystem mid.cell new.cell number m → IsLawful new.cell.who gives new.cell.journal → LeadsOn h new
applied-leads h mid new own gives number m s same took lawful =
    let took' : TakesSystem h.cell new.cell number m =
    subst (λ (x : CellView). TakesSystem x new.cell number m) (ap (λ (x : Contents). x.cell) same) took in
    entry-leads h.cell new.cell gives (System number m took'.outcome) s.is_own.within_limit
    (any-room new.cell (with_entry h.cell (System number m took'.outcome)) took'.adds) lawful

-- an envelope that was begun
pub begun-leads : (h new : Contents) (own gives : Moment → Reply → Type 0) (envelope : Envelope) (reading : ℕ) → AgreesWithJournal own [] h →
    TakesEnvelope h.cell new.cell envelope reading → IsLawful new.cell.who gives new.cell.journal → LeadsOn h new
begun-leads h new own gives envelope reading s took lawful = entry-leads h.cell new.cell gives took.entry s.is_own.within_limit took.adds lawful
