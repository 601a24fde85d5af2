-- The state of the machine: what Akka's dispatcher and mailboxes share between threads, in this project's own form.
use Rattle.std.specs.Prelude.{ℕ, Bool, true, false, List, [], ◌∷◌, replicate, slice_get, slice_index_or, slice_set}
use Rattle.std.specs.Prelude.{option_and_then, Option, Some, None}
use Rattle.mb_status.specs.Mailbox.{Mailbox, mailbox_of}
use Rattle.mb_msg.specs.declared.envelope.Envelope.{Envelope}
use Rattle.mb_msg.specs.declared.system.SysMsg.{SysMsg}
use Rattle.mb_core.specs.declared.wake_obligation.WakeObligation.{WakeObligation}

-- One actor: its mailbox's status, its envelopes in order, the number counted as waiting (modulo 2^64), its system
-- work (earliest first, or gone for good), the party that holds it if any, and what each party owes it, by the
-- party's number.
pub record MachineActor : Type 0 where
  pub mailbox : Mailbox
  pub envelopes : List Envelope
  pub waiting : ℕ
  pub system : Option (List SysMsg)
  pub holder : Option ℕ
  pub owed : List WakeObligation

-- nothing is owed
abbrev pub nothing : WakeObligation
nothing = record { system = false; message = false; sending = false }

-- what a party owes the actor
abbrev pub obligation_by : MachineActor → ℕ → WakeObligation
obligation_by x party = slice_index_or x.owed party nothing

-- what a party owes an actor of a state, by their numbers
abbrev pub obligation_between : List MachineActor → ℕ → ℕ → Option WakeObligation
obligation_between state party actor = option_and_then (λ x. slice_get x.owed party) (slice_get state actor)

-- the actor, to which a party now owes this
abbrev pub owing : MachineActor → ℕ → WakeObligation → MachineActor
owing x party obligation = record x { owed = slice_set x.owed party obligation }

-- there is system work: a message is listed
abbrev pub has_work : Option (List SysMsg) → Bool
has_work None = false
has_work (Some []) = false
has_work (Some (m ∷ ms)) = true

-- an actor as a run begins: of this status word, with empty lists, held by nobody and owed nothing
abbrev pub at_start : ℕ → ℕ → MachineActor
at_start parties word =
    record {
      mailbox = mailbox_of word;
      envelopes = [];
      waiting = 0;
      system = Some [];
      holder = None;
      owed = replicate parties nothing;
    }
