-- Status words, by arithmetic.
use Rattle.std.proofs.Common.{◌≡◌, ℕ, ◌+◌, ◌/◌, ◌%◌, if◌then◌else◌, Bool, true, false, ◌||◌, IsTrue, sym, subst, ne_eqb, arith}
use Rattle.std.proofs.lemmas.Bool.Decides.{nat_tests}
use Rattle.mb_status.specs.Mailbox.{Mailbox, mailbox_of, is_valid, suspended}
use Rattle.mb_core.specs.declared.wake_obligation.WakeObligation.{WakeObligation}
use Rattle.mb_core.specs.Actor.{nothing}
use Rattle.mb_core.specs.Run.{after_reading}

-- a word that is neither closed nor scheduled is valid with the scheduled bit too
pub scheduled_valid : (r : ℕ) → r % 4 ≡ 0 → IsTrue (is_valid r) → IsTrue (is_valid (r + 2))
scheduled_valid r free valid = grind (arith, nat_tests)

open_word : (r : ℕ) → r % 4 ≡ 0 → (mailbox_of r).closed ≡ false
open_word r free = ne_eqb r 1 (λ e. omega arith)

free_word : (r : ℕ) → r % 4 ≡ 0 → (mailbox_of r).scheduled ≡ false
free_word r free = ne_eqb (r / 2 % 2) 1 (λ e. omega arith)

or_nothing : (a b : Bool) → IsTrue (a || b) → IsTrue ((a || b) || false)
or_nothing true b h = h
or_nothing false true h = h
or_nothing false false h = h

-- reading a mailbox that may handle envelopes keeps the look at them that is owed
pub reading_pays_message : (r : ℕ) (d : WakeObligation) → r ≡ 0 → IsTrue (d.message || d.sending) → IsTrue ((after_reading (mailbox_of r) d).message ||
    (after_reading (mailbox_of r) d).sending)
reading_pays_message r d e h = subst (λ (n : ℕ). IsTrue ((after_reading (mailbox_of n) d).message || (after_reading (mailbox_of n) d).sending))
    (sym e) (or_nothing d.message d.sending h)

after_open : (m : Mailbox) (d : WakeObligation) (a b c : Bool) → IsTrue d.system
    → a ≡ false → b ≡ false
    → IsTrue (if a || b then nothing else (if c then record d { message = false; sending = false } else record d {
      message = d.message ||
          d.sending;
      sending = false;
    })).system
after_open m d true b c h p q = absurd (cc)
after_open m d false true c h p q = absurd (cc)
after_open m d false false true h p q = h
after_open m d false false false h p q = h

-- a reading of a mailbox that is neither closed nor scheduled keeps the look at system work that is owed
pub reading_pays_system : (r : ℕ) (d : WakeObligation) → r % 4 ≡ 0 → IsTrue d.system → IsTrue (after_reading (mailbox_of r) d).system
reading_pays_system r d free h = after_open (mailbox_of r) d (mailbox_of r).closed (mailbox_of r).scheduled (suspended (mailbox_of r)) h
    (open_word r free) (free_word r free)
