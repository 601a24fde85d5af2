use Rattle.std.proofs.Common.{◌≡◌, List, All, Some, ap, subst, sym}
use Rattle.mb_gate.specs.Untouched.{IsUntouched}
use Rattle.mb_pool.specs.Places.{AreAllHandles, AreFeeds, PoolEndpoint, PoolView}
use Rattle.mb_gate_tests.proofs.pools.left.left_in_any_order.Goals as goal

-- the same pool and handles under other names
same_handles : {H : Type 0} (p q : PoolView H) (es fs : List (PoolEndpoint H)) → p ≡ q → es ≡ fs → AreAllHandles q fs → AreAllHandles p es
same_handles p q es fs pool handles are = subst (λ x. AreAllHandles x es) (sym pool) (subst (λ x. AreAllHandles q x) (sym handles) are)

same_feeds : {H : Type 0} (p q : PoolView H) (es fs : List (PoolEndpoint H)) → p ≡ q → es ≡ fs → AreFeeds q fs → AreFeeds p es
same_feeds p q es fs pool feeds are = subst (λ x. AreFeeds x es) (sym pool) (subst (λ x. AreFeeds q x) (sym feeds) are)

pub remaining-requires-clause-handles : goal.remaining-requires-clause-handles
remaining-requires-clause-handles g c = c.requires.handles

pub remaining-requires-clause-feeds : goal.remaining-requires-clause-feeds
remaining-requires-clause-feeds g c = c.requires.feeds

pub returns-in-Ok : goal.returns-in-Ok
returns-in-Ok g c = c.in-Ok.ensures.untouched

pub remaining-requires-2-clause-handles : goal.remaining-requires-2-clause-handles
remaining-requires-2-clause-handles g c =
    let same = c.in-Err.ensures.left in same_handles _ _ _ _ same.0 same.1 c.requires.handles

pub remaining-requires-2-clause-feeds : goal.remaining-requires-2-clause-feeds
remaining-requires-2-clause-feeds g c =
    let same = c.in-Err.ensures.left in same_feeds _ _ _ _ same.0 same.2 c.requires.feeds

pub returns-in-Ok-remaining : goal.returns-in-Ok-remaining
returns-in-Ok-remaining g c =
    let same = c.in-Err.ensures.left in let claims = c.in-Ok-remaining.claims.items in
    subst (λ o. All (IsUntouched g.H.MailboxState.is_of g.H.MailboxState.facts (Some o)) claims) (ap (λ (p : PoolView _). p.gates) same.0)
    c.in-Ok-remaining.ensures.untouched

pub returns : goal.returns
returns g c = tt
