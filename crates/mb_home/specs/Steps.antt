-- What each step of a run does to the actor's home.
use Rattle.std.specs.Prelude.{◌≡◌, ◌≢◌, ℕ, ◌+◌, ◌%◌, ◌^◌, ◌⊎◌, false, List, [], ◌∷◌, ◌++◌, slice_get, slice_set, Option, Some}
use Rattle.std.specs.Prelude.{All, None, IsSome}
use Rattle.mb_msg.specs.declared.dead_letter.DeadLetterReason.{DeadLetterReason}
use Rattle.mb_msg.specs.declared.dead_letter.DeadLetterReason.TheVariants as why
use Rattle.mb_msg.specs.declared.envelope.Body.{Body}
use Rattle.mb_msg.specs.declared.envelope.Envelope.{Envelope}
use Rattle.mb_msg.specs.declared.id.ActorId.{ActorId}
use Rattle.mb_msg.specs.declared.system.SysMsg.{SysMsg}
use Rattle.mb_queue.specs.declared.refused.PushError.{PushError}
use Rattle.mb_queue.specs.declared.refused.PushError.TheVariants.{Full, NoMemory}
use Rattle.mb_journal.specs.Aside.{next_front}
use Rattle.mb_cell.specs.CellView.{CellView, TakesSystem, TakesEnvelope}
use Rattle.mb_queue.specs.Passes.{SendPassView, TakePassView}
use Rattle.mb_queue.specs.Pushes.{IsRefusal}
use Rattle.mb_queue.specs.Takes.{IsTake}
use Rattle.mb_home.specs.Contents.{Contents}
use Rattle.mb_home.specs.Directory.{DirectoryEntry}

-- How many dead letters one message can make: one for each of 16 effects, and one for the notice of an end.
abbrev pub most_tells : ℕ
most_tells = 17

-- What a home is made of is unused: nothing came to the cell, which has no act that is left to be carried out; nothing was taken by the pass of its
-- queue; and nothing was pushed by the passes that its actor sends by.
pub record AreUnused (cell : CellView) (take : TakePassView) (sends : List SendPassView) : Type 0 where
  pub untouched : (cell.journal ≡ []) × (cell.acts ≡ [])
  pub none_taken : take.taken ≡ []
  pub none_pushed : All (λ (p : SendPassView). p.pushed ≡ []) sends

-- A new home of this cell, with these passes and this directory. Room for its first message is still to be made.
abbrev pub at_first : CellView → TakePassView → List SendPassView → ℕ → List DirectoryEntry → Contents
at_first cell take sends room directory = record {
  cell = record cell { is_ready = false };
  take = take;
  sends = sends;
  rest = [];
  sent = 0;
  dead = [];
  cleaned = [];
  aside_dead = 0;
  dropped = 0;
  room = room;
  directory = directory;
}

-- Nothing is left beside the cell that is to be applied, and no message that was set aside is to be applied before others.
pub record HasNoBacklog (h : Contents) : Type 0 where
  pub no_rest : h.rest ≡ []
  pub no_front : next_front h.cell.who h.cell.journal ≡ None

-- A system message is to be applied: one that was set aside and goes before others, or one that was drained.
abbrev pub HasNext : Contents → Type 0
HasNext h = IsSome (next_front h.cell.who h.cell.journal) ⊎ (h.rest ≢ [])

-- The message that is applied next, and what is left of those that were drained. One that was set aside and goes before others comes first.
abbrev pub IsDue : Option (ℕ × SysMsg) → List (ℕ × SysMsg) → ℕ → SysMsg → List (ℕ × SysMsg) → Type 0
IsDue None rest number m left = rest ≡ (number, m) ∷ left
IsDue (Some front) rest number m left = (front ≡ (number, m)) × (left ≡ rest)

-- The cell took the message that was due. If the actor ended, what was set aside is counted as dead.
pub record AppliesNext (old new : Contents) : Type 0 where
  pub number : ℕ
  pub message : SysMsg
  pub due : IsDue (next_front old.cell.who old.cell.journal) old.rest number message new.rest
  pub taken : TakesSystem old.cell new.cell number message
  pub same : new ≡ record old { cell = new.cell; rest = new.rest; aside_dead = new.aside_dead }

-- The envelope of what the actor tells next. As a sender the actor has its own number.
abbrev pub next_envelope : Contents → ActorId → Body → Envelope
next_envelope h to body = record { by = record { 0 = h.cell.who.this.0 }; to = to; number = h.sent; body = body }

-- The send pass once it pushed this envelope too.
abbrev pub with_pushed : Envelope → SendPassView → SendPassView
with_pushed e p = record p { pushed = p.pushed ++ e ∷ [] }

-- The envelope was pushed into its receiver's queue.
pub record Pushes (old new : Contents) (to : ActorId) (body : Body) : Type 0 where
  pub place : ℕ
  pub place_is : to.0 ≡ place + 1
  pub pass : SendPassView
  pub was : slice_get old.sends place ≡ Some pass
  pub same : new ≡ record old {
    sends = slice_set old.sends place (with_pushed (next_envelope old to body) pass);
    sent = (old.sent + 1) % 2 ^ 64;
  }

-- The envelope became a dead letter for this reason. Room for the next message is to be made again.
pub record RecordsDeadLetter (old new : Contents) (to : ActorId) (body : Body) (reason : DeadLetterReason) : Type 0 where
  pub same : new ≡ record old {
    cell = record old.cell { is_ready = false };
    dead = old.dead ++ record { envelope = next_envelope old to body; why = reason } ∷ [];
    sent = (old.sent + 1) % 2 ^ 64;
    room = new.room;
  }
  pub room : old.room ≡ new.room + 1

-- The reason of a dead letter whose push was refused.
abbrev pub reason_of : PushError → DeadLetterReason
reason_of (Full e) = why.Full
reason_of (NoMemory e) = why.NoMemory

-- The pass may push the envelope: it is the pass of the sender, into the queue of the receiver.
abbrev pub Fits : Envelope → SendPassView → Type 0
Fits e p = (e.by.0 ≡ p.by) × (e.to.0 ≡ p.queue.to)

-- The pass of this place refused it: as full only if its queue has a bound.
pub record IsRefusedBy (old : List SendPassView) (place : ℕ) (refused : PushError) : Type 0 where
  pub pass : SendPassView
  pub was : slice_get old place ≡ Some pass
  pub refusal : IsRefusal pass refused

-- The pass of this place refused the push.
abbrev pub RefusesPush : Contents → ℕ → PushError → Type 0
RefusesPush h place refused = IsRefusedBy h.sends place refused

-- The envelope was pushed and counted.
pub record Delivers (old new : Contents) (place : ℕ) (e : Envelope) : Type 0 where
  pub pass : SendPassView
  pub was : slice_get old.sends place ≡ Some pass
  pub same : new ≡ record old { sends = slice_set old.sends place (with_pushed e pass); sent = (old.sent + 1) % 2 ^ 64 }

-- The pass that takes is of the same queue, takes by the same discipline, and has the same accounts of senders.
abbrev pub IsSamePass : TakePassView → TakePassView → Type 0
IsSamePass old new = (new.queue ≡ old.queue) × (new.discipline ≡ old.discipline) × (new.accounts ≡ old.accounts)

-- An envelope was taken, and the cell handled it at this reading of the status.
pub record Begins (old new : Contents) (reading : ℕ) : Type 0 where
  pub envelope : Envelope
  pub took : new.take.taken ≡ old.take.taken ++ envelope ∷ []
  pub follows_discipline : IsTake old.take.discipline old.take (Some envelope) new.take
  pub pass : IsSamePass old.take new.take
  pub taken : TakesEnvelope old.cell new.cell envelope reading
  pub same : new ≡ record old { cell = new.cell; take = new.take }

-- No envelope was there at some moment. Nothing changed but what the pass holds back.
pub record FindsNone (old new : Contents) : Type 0 where
  pub took : new.take.taken ≡ old.take.taken
  pub follows_discipline : IsTake old.take.discipline old.take None new.take
  pub pass : IsSamePass old.take new.take
  pub same : new ≡ record old { take = new.take }

-- An envelope was taken, and it is cleaned up.
pub record Cleans (old new : Contents) : Type 0 where
  pub envelope : Envelope
  pub took : new.take.taken ≡ old.take.taken ++ envelope ∷ []
  pub follows_discipline : IsTake old.take.discipline old.take (Some envelope) new.take
  pub pass : IsSamePass old.take new.take
  pub same : new ≡ record old { take = new.take; cleaned = old.cleaned ++ envelope ∷ [] }
