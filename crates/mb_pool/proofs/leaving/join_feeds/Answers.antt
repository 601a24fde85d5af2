use Rattle.std.proofs.Common.{◌≡◌, [], ◌∷◌, ◌++◌, ap, append_assoc, length, subst, sym, ◌∙◌}
use Rattle.std.specs.Vec.Iter.{into_iter_items}
use Rattle.mb_pool.specs.Handles.{TakesIn, shared_ports_of}
use Rattle.mb_pool.specs.Parts.{port_view}
use Rattle.mb_pool.specs.Places.{PoolEndpoint}
use Rattle.mb_gate.specs.Untouched.{IsUntouched}
use Rattle.mb_pool.proofs.Emptying.{takes_in_none}
use Rattle.mb_pool.proofs.Taking.{drained, here, share_next, takes_next}
use Rattle.mb_pool.proofs.leaving.join_feeds.Goals as goal

pub loop-feed-init : goal.loop-feed-init
loop-feed-init g c = (takes_in_none (port_view c.args.shared_port), c.requires.share, c.into_iter-feed-iterator.ensures.into_iter_gives.0)

pub join-requires-clause-place : goal.join-requires-clause-place
join-requires-clause-place g c =
    let at = c.loop-feed in let base = port_view c.args.shared_port in let all = c.args.feeds.items in
    let feed = c.in-Some.feed in let rest = into_iter_items c.next.new.self in
    let steps : into_iter_items at.feed-iterator ≡ feed ∷ rest = c.in-Some.ensures.steps.0 in
    let list : at.yielded ++ feed ∷ rest ≡ all = ap (λ l. at.yielded ++ l) (sym steps) ∙ at.invariant.2 in
    let other = port_view c.into_shared_port.result in
    let same : other ≡ feed.shared_port = ap (λ (w : PoolEndpoint _). w.shared_port) c.into_shared_port.ensures.same in
    here (IsUntouched g.H.MailboxState.is_of g.H.MailboxState.facts)
    base (port_view at.shared_port) other base all at.yielded rest feed list c.requires.same_pool at.invariant.0 same

pub join-requires-clause-shares : goal.join-requires-clause-shares
join-requires-clause-shares g c = (c.loop-feed.invariant.1, c.into_shared_port.ensures.share)

pub loop-feed-preserved : goal.loop-feed-preserved
loop-feed-preserved g c =
    let at = c.loop-feed in let base = port_view c.args.shared_port in let all = c.args.feeds.items in
    let feed = c.in-Some.feed in let rest = into_iter_items c.next.new.self in
    let steps : into_iter_items at.feed-iterator ≡ feed ∷ rest = c.in-Some.ensures.steps.0 in
    let list : at.yielded ++ feed ∷ rest ≡ all = ap (λ l. at.yielded ++ l) (sym steps) ∙ at.invariant.2 in
    let other = port_view c.into_shared_port.result in
    let same : other ≡ feed.shared_port = ap (λ (w : PoolEndpoint _). w.shared_port) c.into_shared_port.ensures.same in
    let new = port_view c.join.new.self in (
      takes_next (IsUntouched g.H.MailboxState.is_of g.H.MailboxState.facts)
          base (port_view at.shared_port) other new all at.yielded rest feed list c.requires.same_pool at.invariant.0 same c.join.ensures,
      share_next (IsUntouched g.H.MailboxState.is_of g.H.MailboxState.facts)
          base (port_view at.shared_port) other new all at.yielded rest feed list c.requires.same_pool at.invariant.0 same c.join.ensures at.invariant.1
          c.into_shared_port.ensures.share,
      append_assoc at.yielded (feed ∷ []) rest ∙ list,
    )

pub returns : goal.returns
returns g c =
    let at = c.loop-feed in let all = c.args.feeds.items in
    let none : length (into_iter_items at.feed-iterator) ≡ 0 = sym at.feed-iterator.rest.ok.0 ∙ c.in-None.ensures.steps.0 in
    subst (λ ws. TakesIn (port_view c.args.shared_port) (shared_ports_of ws) (port_view at.shared_port))
    (drained at.yielded (into_iter_items at.feed-iterator) all none at.invariant.2) at.invariant.0
