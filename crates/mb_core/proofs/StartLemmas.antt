-- The actors as a run begins, word by word.
use Rattle.std.proofs.Common.{◌≡◌, ℕ, ◌+◌, ◌<◌, false, List, [], ◌∷◌, ◌++◌, length, map, take, get_or}
use Rattle.std.proofs.Common.{IsTrue, ap, sym, ◌∙◌}
use Rattle.std.proofs.lemmas.List.{take_more, map-append}
use Rattle.mb_status.specs.Mailbox.{Mailbox, mailbox_of, is_valid}
use Rattle.mb_core.specs.Actor.{MachineActor, at_start}
use Rattle.mb_core.specs.Run.{can_start, start}

pub can_start_by :
    (word : ℕ) (m : Mailbox) → IsTrue (is_valid word) → m ≡ mailbox_of word → m.scheduled ≡ false → IsTrue (can_start word)
can_start_by word m valid same free =
    let unscheduled : (mailbox_of word).scheduled ≡ false = ap (λ (n : Mailbox). n.scheduled) (sym same) ∙ free in
    rw (valid, unscheduled)

pub start_more :
    (words : List ℕ) (i parties : ℕ) → i < length words →
    start (take (i + 1) words) parties ≡ start (take i words) parties ++ at_start parties (get_or words i 0) ∷ []
start_more words i parties inside =
    ap (map (at_start parties)) (take_more words i 0 inside) ∙ map-append (at_start parties) (take i words) (get_or words i 0 ∷ [])

pub at_start_of :
    (parties word : ℕ) (m : Mailbox) (x : MachineActor) → m ≡ mailbox_of word → x ≡ record (at_start parties 0) { mailbox = m } →
    x ≡ at_start parties word
at_start_of parties word m x same made =
    made ∙ ap {B = MachineActor} (λ (n : Mailbox). record (at_start parties 0) { mailbox = n }) same
