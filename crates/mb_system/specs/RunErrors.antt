-- Which error of a run an error of one of its parts becomes.
use Rattle.mb_journal.specs.declared.error.ReadyError.{ReadyError}
use Rattle.mb_journal.specs.declared.error.ReadyError.TheVariants as Ready
use Rattle.mb_register.specs.declared.still_refused.StillRefused.{StillRefused}
use Rattle.mb_send.specs.declared.send_error.SendError.{SendError}
use Rattle.mb_send.specs.declared.send_error.SendError.TheVariants as Send
use Rattle.mb_system.specs.declared.failure.RunError.{RunError}
use Rattle.mb_system.specs.declared.failure.RunError.TheVariants.{JournalFull, NoMemory, NoSuchActor}

-- A claim that the run queue refused again breaks a run off as refused memory does.
abbrev pub of_refused : StillRefused → RunError
of_refused refused = NoMemory

-- A run of a mailbox had no room for the next message: the run is broken off by the error of the same name.
abbrev pub of_ready : ReadyError → RunError
of_ready Ready.NoMemory = NoMemory
of_ready Ready.JournalFull = JournalFull

-- A sender sent nothing: the run is broken off by the error of the same name.
abbrev pub of_send : SendError → RunError
of_send Send.NoMemory = NoMemory
of_send Send.NoSuchActor = NoSuchActor
