-- The effects of the newest of the entries that are counted.
use Rattle.std.proofs.Common.{◌≡◌, ◌<◌, List, ◌∷◌, length, arith}
use Rattle.mb_actor.specs.declared.effect.Effect.{Effect}
use Rattle.mb_journal.specs.Entry.{Entry, newest_effects}
use Rattle.mb_journal.specs.JournalView.{entry_with}
use Rattle.mb_journal.specs.declared.entry.Received.{Received}
use Rattle.mb_journal.specs.declared.entry.Received.TheVariants as arrival

-- where the newest entry has effects, they are those with which it was added
pub newest-pushed : (came : Received) (effects items : List Effect) (before : List Entry) → items ≡ effects →
    0 < length (newest_effects (entry_with came effects ∷ before)) → items ≡ newest_effects (entry_with came effects ∷ before)
newest-pushed (arrival.Handled answer envelope reading) effects items before same some = same
newest-pushed (arrival.System answer number message) effects items before same some = same
newest-pushed (arrival.SetAside number message) effects items before same some = absurd (omega (arith, some))
newest-pushed (arrival.Dropped envelope) effects items before same some = absurd (omega (arith, some))
