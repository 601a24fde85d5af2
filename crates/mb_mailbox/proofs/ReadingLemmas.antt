-- What a status says of its journal between two messages.
use Rattle.std.proofs.Common.{◌≡◌, ◌≤◌, ◌==◌, if◌then◌else◌, ℕ, Bool, true, false, List, refl, sym, ap, ◌∙◌, subst}
use Rattle.std.proofs.Common.{arith}
use Rattle.std.specs.Prelude.{IsTrue, not, nat_lt, nat_le, ◌&&◌}
use Rattle.std.proofs.lemmas.Bool.Decides.{nat_tests}
use Rattle.mb_msg.specs.Limits.{most_entries}
use Rattle.mb_status.specs.Mailbox.{Mailbox, word_of, mailbox_of, idle, should_process, is_valid, is_possible, most_suspensions}
use Rattle.mb_actor.specs.Behaviour.{Moment, Reply}
use Rattle.mb_journal.specs.Entry.{Entry}
use Rattle.mb_journal.specs.Identity.{Identity}
use Rattle.mb_journal.specs.Lawful.{IsLawful}
use Rattle.mb_journal.specs.Life.{closed}
use Rattle.mb_journal.specs.Reading.{IsOpen}
use Rattle.mb_journal.specs.Run.{IsShut}
use Rattle.mb_journal.specs.Suspension.{count}
use Rattle.mb_home.specs.AtHome.{mailbox_at}
use Rattle.mb_home.proofs.StatusLemmas.{count_within}
use Rattle.mb_gate.proofs.Wins.{valid_word}
use Rattle.mb_gate.proofs.HeldStatus.{mailbox_again}

-- a mailbox that is to be processed is neither closed nor suspended
open-parts : (shut : Bool) (n : ℕ) → (not shut && not (nat_lt 0 n)) ≡ true → (shut ≡ false) × (n ≡ 0)
open-parts true n t = absurd (cc t)
open-parts false n t = (refl, grind (arith, nat_tests, t))

-- and the word of such a one
open-at : (scheduled : Bool) → let word = word_of (record { closed = false; scheduled = scheduled; count = 0 }) in
    IsTrue (is_valid word && should_process (mailbox_of word)) × ((mailbox_of word).count ≡ 0) × ((mailbox_of word).closed ≡ false)
open-at true = (refl, refl, refl)
open-at false = (refl, refl, refl)

-- as it says itself
pub open-word : (m : Mailbox) → should_process m ≡ true → should_process (mailbox_of (word_of m)) ≡ true
open-word m t =
    let parts = open-parts m.closed m.count t in
    (λ i. should_process (mailbox_of (word_of (record { closed = parts.0 i; scheduled = m.scheduled; count = parts.1 i })))) ∙ by_bit m.scheduled
  where
    by_bit : (b : Bool) → should_process (mailbox_of (word_of (record { closed = false; scheduled = b; count = 0 }))) ≡ true
    by_bit true = refl
    by_bit false = refl

module _ (m : Mailbox) (who : Identity) (journal : List Entry) (same : idle m ≡ mailbox_at who journal) where
  count-same : m.count ≡ count who journal
  count-same = ap (λ (x : Mailbox). x.count) same

  pub closing-same : m.closed ≡ closed who journal
  closing-same = ap (λ (x : Mailbox). x.closed) same

  pub count-none : should_process m ≡ true → count who journal ≡ 0
  count-none t = sym count-same ∙ (open-parts m.closed m.count t).1

  -- it was open
  pub open-reading : should_process m ≡ true → IsOpen who journal (word_of m)
  open-reading t =
      let parts = open-parts m.closed m.count t in
      let is : m ≡ record { closed = false; scheduled = m.scheduled; count = 0 } =
      λ i. record { closed = parts.0 i; scheduled = m.scheduled; count = parts.1 i } in
      let at = open-at m.scheduled in
      let word : word_of m ≡ word_of (record { closed = false; scheduled = m.scheduled; count = 0 }) = ap word_of is in
      record {
        open_word = subst (λ w. IsTrue (is_valid w && should_process (mailbox_of w))) (sym word) at.0;
        same_count = ap (λ w. (mailbox_of w).count) word ∙ at.1 ∙ sym parts.1 ∙ count-same;
        same_closing = ap (λ w. (mailbox_of w).closed) word ∙ at.2 ∙ sym parts.0 ∙ closing-same;
      }

  -- it was suspended, and its word is not open
  pub shut-reading : (gives : Moment → Reply → Type 0) → IsLawful who gives journal → who.limit ≤ most_entries → m.closed ≡ false →
      should_process m ≡ false → IsShut who journal (word_of m)
  shut-reading gives lawful small open_yet t =
      let few : m.count ≤ most_suspensions = let n = count_within who gives journal lawful small in omega (arith, n, count-same) in
      let within : IsTrue (nat_le m.count most_suspensions) = grind (arith, nat_tests, few) in
      let possible : IsTrue (is_possible m) =
      ap (λ b. if b then not m.scheduled && m.count == 0 else nat_le m.count most_suspensions) open_yet ∙ within in
      let is = mailbox_again m possible in
      record {
        valid = valid_word m possible;
        not_open = ap should_process is ∙ t;
        same_count = ap (λ (x : Mailbox). x.count) is ∙ count-same;
        same_closing = ap (λ (x : Mailbox). x.closed) is ∙ closing-same;
      }
