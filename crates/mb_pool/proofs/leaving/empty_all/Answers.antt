use Rattle.std.proofs.Common.{◌≡◌, List, ◌++◌, arith, drop, length, subst, sym, take}
use Rattle.mb_pool.specs.Handles.{AreGathered, AreMatched, Empties, owns_of}
use Rattle.mb_pool.specs.Parts.{port_view}
use Rattle.mb_pool.specs.Places.{PoolEndpoint}
use Rattle.mb_gate.specs.Untouched.{IsUntouched}
use Rattle.mb_pool.proofs.Lent.{refilled}
use Rattle.mb_pool.proofs.Closing.{alike_left, feeds_alike, first_share, last_share, some_left}
use Rattle.mb_pool.proofs.Wholes.{left_is, matched}
use Rattle.mb_pool.proofs.leaving.empty_all.Goals as goal

pub gather-requires : goal.gather-requires
gather-requires g c =
    let whole = c.requires.whole in
    subst (λ ws. AreMatched ws) (sym c.as_mut_slice.ensures.value) (matched c.args.pool c.args.handles.items whole c.requires.handles)

pub empty_handles-shared_port-requires-clause-not_empty : goal.empty_handles-shared_port-requires-clause-not_empty
empty_handles-shared_port-requires-clause-not_empty g c =
    let pool = c.args.pool in let v = c.args.handles in let feeds = c.args.feeds.items in let new = c.gather.new.handles in
    let whole = c.requires.whole in
    let count : length new ≡ v.len = omega (arith, c.gather.auto.handles, c.as_mut_slice.ensures.len) in
    let now = take v.len (new ++ drop (length new) v.items) in let is = refilled v.len v.items new count in
    let gathered = subst (λ (y : List (PoolEndpoint _) × List (PoolEndpoint _)). AreGathered y.0 y.1)
    (λ i. (c.as_mut_slice.ensures.value i, sym is i)) c.gather.ensures in
    some_left pool v.items feeds now whole c.requires.handles c.requires.feeds gathered

pub empty_handles-shared_port-requires-clause-same_pool : goal.empty_handles-shared_port-requires-clause-same_pool
empty_handles-shared_port-requires-clause-same_pool g c =
    let pool = c.args.pool in let v = c.args.handles in let feeds = c.args.feeds.items in let new = c.gather.new.handles in
    let whole = c.requires.whole in
    let count : length new ≡ v.len = omega (arith, c.gather.auto.handles, c.as_mut_slice.ensures.len) in
    let now = take v.len (new ++ drop (length new) v.items) in let is = refilled v.len v.items new count in
    let gathered = subst (λ (y : List (PoolEndpoint _) × List (PoolEndpoint _)). AreGathered y.0 y.1)
    (λ i. (c.as_mut_slice.ensures.value i, sym is i)) c.gather.ensures in
    alike_left pool v.items feeds now whole c.requires.handles c.requires.feeds gathered

pub join_feeds-shared_port-requires-clause-share : goal.join_feeds-shared_port-requires-clause-share
join_feeds-shared_port-requires-clause-share g c =
    let pool = c.args.pool in let v = c.args.handles in let feeds = c.args.feeds.items in let new = c.gather.new.handles in
    let whole = c.requires.whole in
    let count : length new ≡ v.len = omega (arith, c.gather.auto.handles, c.as_mut_slice.ensures.len) in
    let now = take v.len (new ++ drop (length new) v.items) in let is = refilled v.len v.items new count in
    let gathered = subst (λ (y : List (PoolEndpoint _) × List (PoolEndpoint _)). AreGathered y.0 y.1)
    (λ i. (c.as_mut_slice.ensures.value i, sym is i)) c.gather.ensures in
    let first = port_view c.empty_handles-shared_port.result in let is_first = c.empty_handles-shared_port.ensures.shared_port in
    first_share pool v.items feeds now whole c.requires.handles c.requires.feeds gathered first is_first

pub join_feeds-shared_port-requires-clause-same_pool : goal.join_feeds-shared_port-requires-clause-same_pool
join_feeds-shared_port-requires-clause-same_pool g c =
    let pool = c.args.pool in let v = c.args.handles in let feeds = c.args.feeds.items in let new = c.gather.new.handles in
    let whole = c.requires.whole in
    let count : length new ≡ v.len = omega (arith, c.gather.auto.handles, c.as_mut_slice.ensures.len) in
    let now = take v.len (new ++ drop (length new) v.items) in let is = refilled v.len v.items new count in
    let gathered = subst (λ (y : List (PoolEndpoint _) × List (PoolEndpoint _)). AreGathered y.0 y.1)
    (λ i. (c.as_mut_slice.ensures.value i, sym is i)) c.gather.ensures in
    let first = port_view c.empty_handles-shared_port.result in let is_first = c.empty_handles-shared_port.ensures.shared_port in
    feeds_alike pool v.items feeds now whole c.requires.handles c.requires.feeds gathered first is_first

pub empty_shared_port-requires : goal.empty_shared_port-requires
empty_shared_port-requires g c =
    let pool = c.args.pool in let v = c.args.handles in let feeds = c.args.feeds.items in let new = c.gather.new.handles in
    let whole = c.requires.whole in
    let count : length new ≡ v.len = omega (arith, c.gather.auto.handles, c.as_mut_slice.ensures.len) in
    let now = take v.len (new ++ drop (length new) v.items) in let is = refilled v.len v.items new count in
    let gathered = subst (λ (y : List (PoolEndpoint _) × List (PoolEndpoint _)). AreGathered y.0 y.1)
    (λ i. (c.as_mut_slice.ensures.value i, sym is i)) c.gather.ensures in
    let first = port_view c.empty_handles-shared_port.result in let is_first = c.empty_handles-shared_port.ensures.shared_port in
    last_share pool v.items feeds now whole c.requires.handles c.requires.feeds gathered first is_first
    (port_view c.join_feeds-shared_port.result) c.join_feeds-shared_port.ensures

pub returns-clause-left : goal.returns-clause-left
returns-clause-left g c =
    let pool = c.args.pool in let v = c.args.handles in let feeds = c.args.feeds.items in let new = c.gather.new.handles in
    let whole = c.requires.whole in
    let count : length new ≡ v.len = omega (arith, c.gather.auto.handles, c.as_mut_slice.ensures.len) in
    let now = take v.len (new ++ drop (length new) v.items) in let is = refilled v.len v.items new count in
    let gathered = subst (λ (y : List (PoolEndpoint _) × List (PoolEndpoint _)). AreGathered y.0 y.1)
    (λ i. (c.as_mut_slice.ensures.value i, sym is i)) c.gather.ensures in
    let first = port_view c.empty_handles-shared_port.result in let is_first = c.empty_handles-shared_port.ensures.shared_port in
    let last = port_view c.join_feeds-shared_port.result in let mid = c.empty_handles-shared_port.new.left.items in
    let p = subst (λ l. Empties (IsUntouched g.H.MailboxState.is_of g.H.MailboxState.facts) first.ledger.gates (owns_of now) l mid)
    c.requires.none c.empty_handles-shared_port.ensures.emptied in
    let left = left_is (IsUntouched g.H.MailboxState.is_of g.H.MailboxState.facts)
    pool v.items feeds now first last whole c.requires.handles c.requires.feeds gathered is_first c.join_feeds-shared_port.ensures mid
    c.empty_shared_port.new.left.items p c.empty_shared_port.ensures in
    left.0

pub returns-clause-untouched : goal.returns-clause-untouched
returns-clause-untouched g c =
    let pool = c.args.pool in let v = c.args.handles in let feeds = c.args.feeds.items in let new = c.gather.new.handles in
    let whole = c.requires.whole in
    let count : length new ≡ v.len = omega (arith, c.gather.auto.handles, c.as_mut_slice.ensures.len) in
    let now = take v.len (new ++ drop (length new) v.items) in let is = refilled v.len v.items new count in
    let gathered = subst (λ (y : List (PoolEndpoint _) × List (PoolEndpoint _)). AreGathered y.0 y.1)
    (λ i. (c.as_mut_slice.ensures.value i, sym is i)) c.gather.ensures in
    let first = port_view c.empty_handles-shared_port.result in let is_first = c.empty_handles-shared_port.ensures.shared_port in
    let last = port_view c.join_feeds-shared_port.result in let mid = c.empty_handles-shared_port.new.left.items in
    let p = subst (λ l. Empties (IsUntouched g.H.MailboxState.is_of g.H.MailboxState.facts) first.ledger.gates (owns_of now) l mid)
    c.requires.none c.empty_handles-shared_port.ensures.emptied in
    let left = left_is (IsUntouched g.H.MailboxState.is_of g.H.MailboxState.facts)
    pool v.items feeds now first last whole c.requires.handles c.requires.feeds gathered is_first c.join_feeds-shared_port.ensures mid
    c.empty_shared_port.new.left.items p c.empty_shared_port.ensures in
    left.1
