-- The ledger of a run: what was sent, and what became of it.
use Rattle.std.specs.Prelude.{◌≡◌, ℕ, ◌+◌, ◌<◌, ◌^◌, List, [], ◌∷◌, ◌++◌, length, sum_by}
use Rattle.std.specs.List.{flat_map}
use Rattle.mb_build.specs.Planned.{actors_in}
use Rattle.mb_dispatch.specs.Orders.{envelopes_of as ordered_bodies}
use Rattle.mb_journal.specs.Accepted.{envelopes_of}
use Rattle.mb_journal.specs.Fates.{begun}
use Rattle.mb_journal.specs.Identity.{Identity}
use Rattle.mb_journal.specs.Tells.{AddressedBody, told}
use Rattle.mb_msg.specs.Limits.{most_actors}
use Rattle.mb_msg.specs.declared.envelope.Envelope.{Envelope}
use Rattle.mb_msg.specs.declared.order.Order.{Order}
use Rattle.mb_msg.specs.declared.plan.Plan.{Plan}
use Rattle.mb_report.specs.Counts.{handled_of, left_of}
use Rattle.mb_report.specs.declared.report.ActorReport.{ActorReport}
use Rattle.mb_report.specs.declared.report.Report.{Report}
use Rattle.mb_report.specs.declared.report.SenderReport.{SenderReport}

-- These as envelopes by this sender, numbered from this number on.
abbrev pub numbered_from : ℕ → ℕ → List AddressedBody → List Envelope
numbered_from by number [] = []
numbered_from by number (t ∷ ts) = record { by = record { 0 = by }; to = t.0; number = number; body = t.1 } ∷ numbered_from by (number + 1) ts

-- The envelopes that senders outside send by these orders, one list for each sender, of whom the first has this number.
abbrev pub ordered_from : ℕ → List (List Order) → List Envelope
ordered_from by [] = []
ordered_from by (orders ∷ rest) = numbered_from by 0 (ordered_bodies orders) ++ ordered_from (by + 1) rest

-- The envelopes that these actors sent, as their journals say.
abbrev pub told_by : List Identity → List ActorReport → List Envelope
told_by [] actors = []
told_by (who ∷ rest) [] = []
told_by (who ∷ rest) (actor ∷ actors) = told who actor.journal.entries ++ told_by rest actors

-- All envelopes that were sent: by the actors of the plan, and by the senders outside.
abbrev pub all_sent : Plan → List (List Order) → Report → List Envelope
all_sent plan orders report = told_by (actors_in plan) report.actors.items ++ ordered_from most_actors orders

-- Those that an actor took from its mailbox: it handled them, or dropped a Terminated that it was not to be told of any more.
abbrev pub all_begun : Report → List Envelope
all_begun report = flat_map (λ (a : ActorReport). begun a.journal.entries) report.actors.items

-- Those that were still queued when their receiver ended.
abbrev pub all_cleaned : Report → List Envelope
all_cleaned report = flat_map (λ (a : ActorReport). a.cleaned.items) report.actors.items

-- Those that are left in a mailbox.
abbrev pub all_left : Report → List Envelope
all_left report = flat_map (λ (a : ActorReport). a.left.items) report.actors.items

-- Those that were refused when they were sent.
abbrev pub all_refused : Report → List Envelope
all_refused report = flat_map (λ (s : SenderReport). envelopes_of s.dead.items) report.senders.items

-- The ledger: whatever an envelope weighs, all that were sent weigh as much as all that were taken, cleaned up, left and refused.
abbrev pub AddsUp : Plan → List (List Order) → Report → Type 0
AddsUp plan orders report = (weight : Envelope → ℕ) → sum_by weight (all_sent plan orders report)
    ≡ sum_by weight (all_begun report) + sum_by weight (all_cleaned report) + sum_by weight (all_left report) + sum_by weight (all_refused report)

-- How many envelopes were sent, by the numbers that the report has of its senders.
abbrev pub sent_count : Report → ℕ
sent_count report = sum_by (λ (s : SenderReport). s.sent) report.senders.items

-- How many have an end, by the report's other numbers: those that were handled or dropped, those that were cleaned up, those that are left, and those
-- that were refused.
abbrev pub settled_count : Report → ℕ
settled_count report = sum_by handled_of report.actors.items + sum_by (λ (a : ActorReport). length a.cleaned.items) report.actors.items
    + sum_by left_of report.actors.items + sum_by (λ (s : SenderReport). length s.dead.items) report.senders.items

-- The ledger in numbers alone, which whoever has the report can add up: as many envelopes were sent as have an end. A sender counts what it sent modulo
-- 2^64, so this is said of fewer than that.
abbrev pub AddsUpByCounts : Report → Type 0
AddsUpByCounts report = settled_count report < 2 ^ 64 → sent_count report ≡ settled_count report
