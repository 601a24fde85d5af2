-- The two parts of a control-aware queue (`akka.dispatch.UnboundedControlAwareMailbox`).
use Rattle.std.specs.Prelude.{List, filter, map, not, option_map}
use Rattle.mb_msg.specs.declared.envelope.Envelope.{Envelope}
use Rattle.mb_queue.specs.declared.ledger.Account.{Account}
use Rattle.mb_queue.specs.Ledger.{is_control}

abbrev pub controls : List Envelope → List Envelope
controls = filter is_control

abbrev pub others : List Envelope → List Envelope
others = filter (λ e. not (is_control e))

abbrev pub whole : List Envelope → List Envelope
whole envelopes = envelopes

-- the accounts, each with its part alone
abbrev pub accounts_of : (List Envelope → List Envelope) → List Account → List Account
accounts_of part = map (λ (a : Account). record { by = a.by; pushed = option_map part a.pushed })
