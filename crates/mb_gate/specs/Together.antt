-- What one seat knows that has all that two seats had, and what a seat with the whole share learns of an actor's claims (this project's own profile:
-- Akka's mailboxes keep no such account).
use Rattle.std.specs.Prelude.{◌≡◌, ℕ, ◌+◌, ◌++◌, false, if◌then◌else◌, IsTrue}
use Rattle.atomic_table.specs.Table.{Me, Step}
use Rattle.mb_status.specs.Mailbox.{Mailbox, mailbox_of, is_valid}
use Rattle.mb_ghost.specs.Layout.{word_at}
use Rattle.mb_ghost.specs.Shares.{IsWhole}
use Rattle.mb_gate.specs.declared.slot.Slot.{Slot}
use Rattle.mb_gate.specs.View.{View, taking_over}
use Rattle.mb_gate.specs.ClaimCounts.{claims_got, claims_returned}

-- The view of a seat that has all that two seats had, with what each of them sent.
abbrev pub together : View → View → View
together v w = record (taking_over v w) { sent_system = w.sent_system ++ v.sent_system }

-- The view that came back to a seat which knew nothing.
abbrev pub came_back : View → View → View
came_back v w = w

-- Where this is the view of the only pass, it gave back each claim of the actor that it got: none is out.
abbrev pub NoClaimIsOut : ℕ → View → Type 0
NoClaimIsOut actor v = IsWhole v.share → claims_got actor v ≡ claims_returned actor v

-- Where this is the view of the only pass and the mailbox is open, one claim of the actor is out if the mailbox is scheduled, else none.
abbrev pub ShowsOwnClaim : ℕ → Mailbox → View → Type 0
ShowsOwnClaim actor m v =
    IsWhole v.share → m.closed ≡ false → claims_got actor v ≡ claims_returned actor v + (if m.scheduled then 1 else 0)

module _ {H : Type 0} where
  -- What a seat learns from a load of a status word that leaves what it knows as it was: whether a claim of an open actor is out.
  abbrev pub ReadsOwnClaim : Step (Slot H) → Me (Slot H) View → ℕ → Me (Slot H) View → Type 0
  ReadsOwnClaim st m found m' = (actor : ℕ) → st.word ≡ word_at actor 16
      → (m' ≡ m) × IsTrue (is_valid found) × ShowsOwnClaim actor (mailbox_of found) m.0

  -- What a seat learns from a load of the flag of a closed actor that leaves what it knows as it was: where it is set, no claim is out.
  abbrev pub ReadsFlag : Step (Slot H) → Me (Slot H) View → ℕ → Me (Slot H) View → Type 0
  ReadsFlag st m found m' = (actor : ℕ) → st.word ≡ word_at actor 7 → (m' ≡ m) × (found ≡ 1 → NoClaimIsOut actor m.0)
