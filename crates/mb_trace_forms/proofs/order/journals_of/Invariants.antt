use Rattle.std.proofs.Common.{◌≡◌, ◌++◌, drop}
use Rattle.mb_trace_forms.specs.Order.{journal_lengths}
use Rattle.mb_trace_forms.proofs.order.journals_of.Given as goal

-- the parts so far, and those of the actors that are left, are all
abbrev pub invariant-loop-actor : goal.invariant-loop-actor
invariant-loop-actor l = record {
  number : l.number ≡ l.actor-index;
  whole : journal_lengths 0 l.actors ≡ l.journals.items ++ journal_lengths l.actor-index (drop l.actor-index l.actors);
}
