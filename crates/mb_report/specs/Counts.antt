-- The numbers of a report, as queries of its lists (this project's own profile: Akka has no such report).
use Rattle.std.specs.Prelude.{ℕ, ◌+◌, List, length, count_by, sum_by}
use Rattle.mb_dead_letters.specs.Letters.{is_to}
use Rattle.mb_journal.specs.Counts.{tells_of_envelope, tells_of_restart}
use Rattle.mb_report.specs.declared.report.ActorReport.{ActorReport}
use Rattle.mb_report.specs.declared.report.SenderReport.{SenderReport}

-- how many envelopes came to the actor, how many are left in its mailbox, and how often it was restarted
abbrev pub handled_of : ActorReport → ℕ
handled_of actor = count_by tells_of_envelope actor.journal.entries

abbrev pub left_of : ActorReport → ℕ
left_of actor = length actor.left.items

abbrev pub restarts_of : ActorReport → ℕ
restarts_of actor = count_by tells_of_restart actor.journal.entries

-- how many envelopes to the actor of this number its senders were told are dead
abbrev pub refused_to : ℕ → List SenderReport → ℕ
refused_to id senders = sum_by (λ (s : SenderReport). count_by (is_to id) s.dead.items) senders

-- how many envelopes to the actor are dead: those that were still queued when it ended, and the refused ones
abbrev pub dead_of : ℕ → List SenderReport → ActorReport → ℕ
dead_of id senders actor = length actor.cleaned.items + refused_to id senders
