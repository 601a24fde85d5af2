-- The status word that a journal says.
use Rattle.std.proofs.Common.{◌≡◌, ℕ, ◌*◌, ◌≤◌, ◌==◌, ◌/◌, ◌%◌, false, List, arith}
use Rattle.std.specs.Prelude.{IsTrue}
use Rattle.std.proofs.lemmas.Bool.Decides.{nat_tests}
use Rattle.mb_msg.specs.Limits.{most_entries}
use Rattle.mb_status.specs.Mailbox.{is_valid, mailbox_of, most_suspensions}
use Rattle.mb_actor.specs.Behaviour.{Moment, Reply}
use Rattle.mb_journal.specs.Entry.{Entry}
use Rattle.mb_journal.specs.Identity.{Identity}
use Rattle.mb_journal.specs.Lawful.{IsLawful}
use Rattle.mb_journal.specs.Life.{closed}
use Rattle.mb_journal.specs.Suspension.{count}
use Rattle.mb_cell.proofs.OpenLaws.{count-few}
use Rattle.mb_home.proofs.FoldLaw.{count-closed}

-- a lawful journal suspends no more often than a mailbox counts
pub count_within : (who : Identity) (gives : Moment → Reply → Type 0) (journal : List Entry) → IsLawful who gives journal → who.limit ≤ most_entries →
    count who journal ≤ most_suspensions
count_within who gives journal lawful small = omega (arith, count-few who journal, lawful.within_limit, small)

-- and not at all once it is closed
pub none_closed : (who : Identity) (journal : List Entry) → IsTrue (closed who journal) → count who journal ≡ 0
none_closed who journal ended = count-closed who journal ended

-- the word of an open mailbox that is not scheduled
pub word_valid : (n : ℕ) → n ≤ most_suspensions → IsTrue (is_valid (4 * n))
word_valid n few = grind (arith, nat_tests, few)

pub word_open : (n : ℕ) → mailbox_of (4 * n) ≡ record { closed = false; scheduled = false; count = n }
word_open n =
    let odd : (4 * n == 1) ≡ false = grind (arith, nat_tests) in
    let free : (4 * n / 2 % 2 == 1) ≡ false = grind (arith, nat_tests) in
    let count : 4 * n / 4 ≡ n = omega arith in
    λ i. record { closed = odd i; scheduled = free i; count = count i }
