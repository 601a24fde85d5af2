use Rattle.std.proofs.Common.{[], ◌∷◌, ◌++◌, ◌<◌, ◌∙◌, ap, subst, sym}
use Rattle.std.specs.Prelude.{Ok, Err}
use Rattle.mb_gate.specs.Untouched.{IsUntouched}
use Rattle.mb_pool.specs.Endpoints.{of_feed}
use Rattle.mb_pool.specs.FeedPorts.{FeedPortView}
use Rattle.mb_pool.specs.Moves.{IsRefusedBy, Pushes}
use Rattle.mb_pool.specs.Parts.{port_view}
use Rattle.mb_pool.specs.Places.{Part, gates_of, ports_of, parts_of}
use Rattle.mb_pool.specs.PoolPorts.{pushed_first}
use Rattle.mb_pool.proofs.PoolPortLemmas.{pushes-first, refused-more, same-gates}
use Rattle.mb_pool.proofs.Ports.{feed_parts, push_by_shared_port, push_same}
use Rattle.mb_pool.proofs.feed_port.FeedPortRunQueue.push.Goals as goal

pub push-requires-clause-share : goal.push-requires-clause-share
push-requires-clause-share g c = c.self.invariant

pub push-requires-clause-untouched : goal.push-requires-clause-untouched
push-requires-clause-untouched g c =
    subst (λ (v : FeedPortView _). IsUntouched g.H.MailboxState.is_of g.H.MailboxState.facts (gates_of v.feed) c.args.claim) (sym c.self.view_is)
    c.requires.untouched

-- ---- it was pushed

pub invariant_of-self : goal.invariant_of-self
invariant_of-self g c =
    let fit = IsUntouched g.H.MailboxState.is_of g.H.MailboxState.facts in
    let old = port_view c.self.inside.shared_port in let new = port_view c.push.new.self in
    subst (λ (p : Part _). 0 < p.shares) (sym (push_same fit old new c.push.ensures.same_queue c.args.claim (Ok tt) c.in-Ok.ensures.pushed))
    c.self.invariant

pub returns-in-Ok-clause-same : goal.returns-in-Ok-clause-same
returns-in-Ok-clause-same g c =
    let fit = IsUntouched g.H.MailboxState.is_of g.H.MailboxState.facts in
    let old = port_view c.self.inside.shared_port in let new = port_view c.push.new.self in
    let part = push_same fit old new c.push.ensures.same_queue c.args.claim (Ok tt) c.in-Ok.ensures.pushed in
    same-gates (of_feed old) (of_feed new) (feed_parts old new part) ∙ ap (λ (v : FeedPortView _). gates_of v.feed) c.self.view_is

pub returns-in-Ok-clause-pushed : goal.returns-in-Ok-clause-pushed
returns-in-Ok-clause-pushed g c =
    let fit = IsUntouched g.H.MailboxState.is_of g.H.MailboxState.facts in
    let old = port_view c.self.inside.shared_port in let new = port_view c.push.new.self in (
      pushes-first fit (of_feed old) (of_feed new) c.args.claim
          (push_by_shared_port fit old new c.push.ensures.same_queue c.args.claim (Ok tt) c.in-Ok.ensures.pushed)
          ∙ ap (λ (v : FeedPortView _). pushed_first (ports_of v.feed) ++ c.args.claim ∷ []) c.self.view_is,
      ap (λ (v : FeedPortView _). v.refused) c.self.view_is,
    )

pub returns-in-Ok-clause-asked : goal.returns-in-Ok-clause-asked
returns-in-Ok-clause-asked g c = tt

pub returns-in-Ok-clause-put : goal.returns-in-Ok-clause-put
returns-in-Ok-clause-put g c =
    let fit = IsUntouched g.H.MailboxState.is_of g.H.MailboxState.facts in
    let old = port_view c.self.inside.shared_port in let new = port_view c.push.new.self in
    subst (λ (v : FeedPortView _). Pushes fit v.feed c.args.claim (of_feed new)) c.self.view_is
    (push_by_shared_port fit old new c.push.ensures.same_queue c.args.claim (Ok tt) c.in-Ok.ensures.pushed)

pub returns-in-Ok-clause-parts : goal.returns-in-Ok-clause-parts
returns-in-Ok-clause-parts g c =
    let fit = IsUntouched g.H.MailboxState.is_of g.H.MailboxState.facts in
    let old = port_view c.self.inside.shared_port in let new = port_view c.push.new.self in
    feed_parts old new (push_same fit old new c.push.ensures.same_queue c.args.claim (Ok tt) c.in-Ok.ensures.pushed)
    ∙ ap (λ (v : FeedPortView _). parts_of v.feed) c.self.view_is

-- ---- it was refused

pub invariant_of-self-in-Err : goal.invariant_of-self-in-Err
invariant_of-self-in-Err g c =
    let fit = IsUntouched g.H.MailboxState.is_of g.H.MailboxState.facts in
    let old = port_view c.self.inside.shared_port in let new = port_view c.push.new.self in
    subst (λ (p : Part _). 0 < p.shares)
    (sym (push_same fit old new c.push.ensures.same_queue c.args.claim (Err c.in-Err.refused) c.in-Err.ensures.pushed)) c.self.invariant

pub returns-in-Err-clause-same : goal.returns-in-Err-clause-same
returns-in-Err-clause-same g c =
    let fit = IsUntouched g.H.MailboxState.is_of g.H.MailboxState.facts in
    let old = port_view c.self.inside.shared_port in let new = port_view c.push.new.self in
    let part = push_same fit old new c.push.ensures.same_queue c.args.claim (Err c.in-Err.refused) c.in-Err.ensures.pushed in
    same-gates (of_feed old) (of_feed new) (feed_parts old new part) ∙ ap (λ (v : FeedPortView _). gates_of v.feed) c.self.view_is

pub returns-in-Err-clause-pushed : goal.returns-in-Err-clause-pushed
returns-in-Err-clause-pushed g c =
    let fit = IsUntouched g.H.MailboxState.is_of g.H.MailboxState.facts in
    let old = port_view c.self.inside.shared_port in let new = port_view c.push.new.self in
    let h = push_by_shared_port fit old new c.push.ensures.same_queue c.args.claim (Err c.in-Err.refused) c.in-Err.ensures.pushed in
    let same = c.into_claim-claim.ensures ∙ h.0 in (
      same,
      ap (λ w. pushed_first (ports_of w)) h.1 ∙ ap (λ (v : FeedPortView _). pushed_first (ports_of v.feed)) c.self.view_is,
      refused-more c.self.inside.refused c.add.new.self c.of.result c.args.claim c.add.ensures (c.of.ensures ∙ same)
          ∙ ap (λ (v : FeedPortView _). v.refused ++ c.args.claim ∷ []) c.self.view_is,
    )

pub returns-in-Err-clause-asked : goal.returns-in-Err-clause-asked
returns-in-Err-clause-asked g c =
    let fit = IsUntouched g.H.MailboxState.is_of g.H.MailboxState.facts in
    let old = port_view c.self.inside.shared_port in let new = port_view c.push.new.self in
    let h = push_by_shared_port fit old new c.push.ensures.same_queue c.args.claim (Err c.in-Err.refused) c.in-Err.ensures.pushed in
    (c.in-Err.refused, h.0, subst (λ (v : FeedPortView _). IsRefusedBy fit v.feed c.in-Err.refused) c.self.view_is h.2)

pub returns-in-Err-clause-put : goal.returns-in-Err-clause-put
returns-in-Err-clause-put g c =
    let fit = IsUntouched g.H.MailboxState.is_of g.H.MailboxState.facts in
    let old = port_view c.self.inside.shared_port in let new = port_view c.push.new.self in
    (push_by_shared_port fit old new c.push.ensures.same_queue c.args.claim (Err c.in-Err.refused) c.in-Err.ensures.pushed).1
    ∙ ap (λ (v : FeedPortView _). v.feed) c.self.view_is

pub returns-in-Err-clause-parts : goal.returns-in-Err-clause-parts
returns-in-Err-clause-parts g c =
    let fit = IsUntouched g.H.MailboxState.is_of g.H.MailboxState.facts in
    let old = port_view c.self.inside.shared_port in let new = port_view c.push.new.self in
    feed_parts old new (push_same fit old new c.push.ensures.same_queue c.args.claim (Err c.in-Err.refused) c.in-Err.ensures.pushed)
    ∙ ap (λ (v : FeedPortView _). parts_of v.feed) c.self.view_is
