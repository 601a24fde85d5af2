-- A journal may go to another thread.
use denote.Param.Send.{IsSend, sendable, view_send}
use denote.Param.SendFields.{declared_send, variants_send}
use Rattle.std.proofs.Crossing.{crosses as std_crosses, send as heap_send}
use Rattle.mb_actor.proofs.effect.Effect.TheSendSync as effect
use Rattle.mb_journal.proofs.counts.Counts.TheSendSync as counts
use Rattle.mb_journal.proofs.kept_entries.KeptEntries.TheSendSync as kept
use Rattle.mb_journal.specs.contracts.entries.Entries as entries
use Rattle.mb_journal.specs.contracts.entries.Entries.TheInside as entries_inside
use Rattle.mb_journal.specs.contracts.gone_entries.GoneEntries as gone
use Rattle.mb_journal.specs.contracts.gone_entries.GoneEntries.TheInside as gone_inside
use Rattle.mb_journal.specs.contracts.last_entries.LastEntries as last
use Rattle.mb_journal.specs.contracts.last_entries.LastEntries.TheInside as last_inside
use Rattle.mb_journal.specs.contracts.counted_entries.CountedEntries as counted
use Rattle.mb_journal.specs.contracts.counted_entries.CountedEntries.TheInside as counted_inside
use Rattle.mb_journal.specs.contracts.store.Store as store
use Rattle.mb_journal.specs.contracts.journal.Journal as journal
use Rattle.mb_journal.specs.contracts.journal.Journal.TheInside as journal_inside

entries_send : IsSend entries.the_row
entries_send = view_send _ _ _ _ _ (declared_send entries_inside.the_type (search (sendable, std_crosses) depth 20, tt))

counted_send : IsSend counted.the_row
counted_send =
    view_send _ _ _ _ _ (declared_send counted_inside.the_type (search (sendable, std_crosses, effect.the_send) depth 20, (entries_send, tt)))

gone_send : IsSend gone.the_row
gone_send = view_send _ _ _ _ _ (declared_send gone_inside.the_type (search (sendable, std_crosses) depth 20, tt))

last_send : IsSend last.the_row
last_send =
    view_send _ _ _ _ _ (declared_send last_inside.the_type (search sendable, (kept.the_send, (kept.the_send, (gone_send, tt)))))

store_send : IsSend store.the_row
store_send =
    variants_send store.enum
    ((kept.the_send, tt), ((counted_send, tt), ((search (sendable, std_crosses, heap_send, last_send) depth 20, tt), tt)))

pub journal_send : IsSend journal.the_row
journal_send = view_send _ _ _ _ _ (declared_send journal_inside.the_type (
  search sendable,
  (search sendable, (counts.the_send, (store_send, (search sendable, tt)))),
))
