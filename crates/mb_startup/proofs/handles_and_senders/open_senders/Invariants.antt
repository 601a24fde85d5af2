use Rattle.std.proofs.Common.{◌≡◌, ◌++◌, drop, length, map, take}
use Rattle.std.specs.Prelude.{All, Some}
use Rattle.std.specs.Vec.Iter.{into_iter_items}
use Rattle.mb_msg.specs.Limits.{most_actors}
use Rattle.mb_gate.specs.Accessors.{pass_view, pass_id}
use Rattle.mb_gate.specs.Untouched.{origin_of}
use Rattle.mb_pool.specs.Places.{gates_of}
use Rattle.mb_startup.specs.Begun.{AreNewSenders, KeepLettersIn}
use Rattle.mb_system.specs.Members.{pool_feeds_of}
use Rattle.mb_startup.specs.Shared.{KeepsWhole}
use Rattle.mb_system.specs.Shares.{shares_of_senders}
use Rattle.mb_startup.proofs.handles_and_senders.open_senders.Given as goal

abbrev pub invariant-loop-feed : goal.invariant-loop-feed
invariant-loop-feed g l = record {
  whole : l.yielded ++ into_iter_items l.feed-iterator ≡ l.fn.feeds.items;
  feeds : All (λ f. gates_of f ≡ Some (origin_of l.gates)) (into_iter_items l.feed-iterator);
  count : length l.senders.items ≡ length l.yielded;
  rows : into_iter_items l.outside ≡ drop (length l.senders.items) l.fn.outside.items;
  same_gates : pass_id l.pass ≡ pass_id l.initial.pass;
  kept : ((pass_view l.pass).log ≡ (pass_view l.initial.pass).log) × ((pass_view l.pass).got ≡ (pass_view l.initial.pass).got)
      × ((pass_view l.pass).obligations ≡ (pass_view l.initial.pass).obligations) × ((pass_view l.pass).releases ≡ (pass_view l.initial.pass).releases);
  shares : KeepsWhole (pass_view l.initial.pass).share (pass_view l.pass).share (shares_of_senders l.senders.items);
  opened : AreNewSenders l.gates most_actors (map (λ row. row.items) (take (length l.senders.items) l.fn.outside.items)) l.senders.items;
  keep_letters : KeepLettersIn l.fn.journal l.senders.items;
  ports : pool_feeds_of l.senders.items ≡ l.yielded;
}
