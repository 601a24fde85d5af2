-- What a drain gives is numbered on from what a home knows.
use Rattle.std.proofs.Common.{◌≡◌, ℕ, ◌+◌, ◌%◌, ◌^◌, List, [], ◌∷◌, length, refl, sym, ap, ◌∙◌, arith}
use Rattle.mb_msg.specs.declared.system.SysMsg.{SysMsg}
use Rattle.mb_syslist.specs.MessageList.{numbered}
use Rattle.mb_journal.specs.Aside.{next_number}
use Rattle.mb_gate.specs.Lists.{IsNumberedFrom}
use Rattle.mb_home.specs.AtHome.{given_of}
use Rattle.mb_home.specs.Contents.{Contents}
use Rattle.mb_home.specs.AgreesWithJournal.{messages_in}

messages-numbered : (n : ℕ) (messages : List SysMsg) → messages_in (numbered n messages) ≡ messages
messages-numbered n [] = refl
messages-numbered n (m ∷ messages) = ap (λ l. m ∷ l) (messages-numbered ((n + 1) % 2 ^ 64) messages)

-- with nothing left beside the cell, the next number is that of the journal and of what was dropped
pub given-next : (h : Contents) → h.rest ≡ [] → given_of h ≡ (next_number h.cell.journal + h.dropped) % 2 ^ 64
given-next h none =
    (λ i. (next_number h.cell.journal + h.dropped + length (none i)) % 2 ^ 64)
    ∙ ap (λ n. n % 2 ^ 64) (let sum : next_number h.cell.journal + h.dropped + 0 ≡ next_number h.cell.journal + h.dropped = omega arith in sum)

pub drained-on : (h : Contents) (drained : List (ℕ × SysMsg)) → h.rest ≡ [] → IsNumberedFrom (given_of h) drained →
    drained ≡ numbered ((next_number h.cell.journal + h.dropped) % 2 ^ 64) (messages_in drained)
drained-on h drained none on =
    on.each
    ∙ ap (λ n. numbered n on.messages) (given-next h none)
    ∙ ap (λ l. numbered ((next_number h.cell.journal + h.dropped) % 2 ^ 64) l)
    (sym (ap (λ l. messages_in l) on.each ∙ messages-numbered (given_of h) on.messages))
