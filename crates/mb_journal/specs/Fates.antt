-- The fates of the envelopes that came to a receiver.
use Rattle.std.specs.Prelude.{List, [], ◌∷◌, ◌++◌}
use Rattle.mb_msg.specs.declared.envelope.Envelope.{Envelope}
use Rattle.mb_journal.specs.Entry.{Entry}
use Rattle.mb_journal.specs.Entry.Entry.{Handled, System, Dropped}

-- the envelopes that were begun: handled or dropped, the earliest first
abbrev pub begun : List Entry → List Envelope
begun [] = []
begun (Handled e reading outcome ∷ before) = begun before ++ e ∷ []
begun (System number message outcome ∷ before) = begun before
begun (Dropped e ∷ before) = begun before ++ e ∷ []

-- the fates, in order: begun, cleaned up when the actor ended, and left in its queue
abbrev pub fates : List Entry → List Envelope → List Envelope → List Envelope
fates journal cleaned left = begun journal ++ cleaned ++ left
