-- The word of a mailbox and the mailbox of a word undo one another.
use Rattle.std.specs.Prelude.{ℕ, ◌≡◌, true}
use Rattle.std.proofs.Common.{arith}
use Rattle.std.proofs.lemmas.Bool.Decides.{nat_tests}
use Rattle.mb_status.specs.Mailbox.{word_of, mailbox_of, is_valid}

pub word_of-mailbox_of : (word : ℕ) → is_valid word ≡ true → word_of (mailbox_of word) ≡ word
word_of-mailbox_of word valid = grind (arith, nat_tests)
