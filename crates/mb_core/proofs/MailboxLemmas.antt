-- Each event keeps that the mailbox is a possible one.
use Rattle.std.proofs.Common.{ℕ, ◌<◌, List, length, All, IsTrue, arith}
use Rattle.std.proofs.lemmas.Bool.Decides.{nat_tests}
use Rattle.mb_status.specs.Mailbox.{Mailbox, is_possible, is_valid, word_of, mailbox_of}
use Rattle.mb_core.specs.declared.event.Event.{Event}
use Rattle.mb_core.specs.declared.event.Step.{Step}
use Rattle.mb_core.specs.Actor.{MachineActor, at_start}
use Rattle.mb_core.specs.Held.{HasPossibleMailbox}
use Rattle.mb_core.specs.Run.{Change, Transition, LeadsTo, can_start}
use Rattle.mb_core.proofs.KeptLemmas.{at_before, after_step, after_run, after_start}

-- the word of a possible mailbox is a valid one
pub valid_word : (m : Mailbox) → IsTrue (is_possible m) → IsTrue (is_valid (word_of m))
valid_word m possible = grind (arith, nat_tests)

possible_start : (word : ℕ) → IsTrue (is_valid word) → IsTrue (is_possible (mailbox_of word))
possible_start word valid = grind (arith, nat_tests)

valid_of : (word : ℕ) → IsTrue (can_start word) → IsTrue (is_valid word)
valid_of word can = grind arith

pub possible_change :
    (x : MachineActor) (party : ℕ) (step : Step) (y : MachineActor) → Change x party step y →
    IsTrue (is_possible x.mailbox) → IsTrue (is_possible y.mailbox)
possible_change x party step y change possible = grind (arith, nat_tests)

pub mailbox_change :
    (x : MachineActor) (party : ℕ) (step : Step) (y : MachineActor) → Change x party step y → party < length x.owed →
    HasPossibleMailbox x → HasPossibleMailbox y
mailbox_change x party step y change there has =
    let possible = possible_change x party step y change has.possible in
    record { possible = possible; word_valid = valid_word y.mailbox possible }

pub mailbox_step :
    (old : List MachineActor) (event : Event) (new : List MachineActor) →
    Transition old event new → All HasPossibleMailbox old → All HasPossibleMailbox new
mailbox_step old event new step all =
    after_step HasPossibleMailbox old event new step
    (mailbox_change step.before event.party event.step step.after step.change step.party_there (at_before HasPossibleMailbox old event new step all))
    all

mailbox_start : (parties word : ℕ) → IsTrue (can_start word) → HasPossibleMailbox (at_start parties word)
mailbox_start parties word can =
    let possible = possible_start word (valid_of word can) in
    record { possible = possible; word_valid = valid_word (mailbox_of word) possible }

pub mailbox_run :
    (words : List ℕ) (parties : ℕ) (events : List Event) (state : List MachineActor) → LeadsTo words parties events state →
    All HasPossibleMailbox state
mailbox_run words parties events state leads =
    after_run HasPossibleMailbox mailbox_step _ events state leads.run (after_start HasPossibleMailbox mailbox_start words parties leads.can_start)
