use Rattle.std.proofs.Common.{◌≡◌, take}
use Rattle.mb_gate.specs.Starts.{rows_of}
use Rattle.mb_gate.proofs.new.rows.Given as goal

abbrev pub invariant-loop-home : goal.invariant-loop-home
invariant-loop-home g l = l.words.items ≡ rows_of g.H.MailboxState.facts (take l.home-index l.homes)
