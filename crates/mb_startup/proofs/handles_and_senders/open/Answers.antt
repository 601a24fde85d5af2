use Rattle.std.proofs.Common.{rules, ◌≡◌, length, sym, ap, ◌∙◌, subst, arith}
use Rattle.mb_gate.specs.Accessors.{pass_view}
use Rattle.mb_build.proofs.QueueLemmas.{refilled}
use Rattle.mb_startup.specs.Begun.{AreFirstHandles, AreNewHandles}
use Rattle.mb_system.specs.Members.{pool_handles_of}
use Rattle.mb_system.specs.Shares.{shares_of_handles}
use Rattle.mb_startup.proofs.Obligations.{owes-same}
use Rattle.mb_startup.proofs.Sharing.{whole-with}
use Rattle.mb_startup.proofs.handles_and_senders.open.Goals as goal

pub give_first-requires : goal.give_first-requires
give_first-requires g c =
    let handles = c.in_ok-handles.handles.items in let lent : c.deref_mut.result.now ≡ handles = search rules in
    let many : length c.deref_mut.result.now ≡ length c.args.handles.items = ap length lent ∙ c.in_ok-handles.ensures.opened.0 in
    let some = c.requires.not_empty.0 in record {
      same_gates = c.open_handles.ensures.same_gates ∙ c.open_senders.ensures.same_gates ∙ c.start.ensures.same_gates ∙ c.requires.pass.same_gates;
      started =
          let is = c.in_ok-start.ensures.started in let then = c.open_senders.ensures.kept in let last = c.open_handles.ensures.kept in record {
            created = (is.created.0, last.0 ∙ then.0 ∙ is.created.1);
            settled = owes-same (pass_view c.start.new.pass) (pass_view c.open_handles.new.pass) (last.2 ∙ then.2) is.settled;
            unclaimed = last.1 ∙ then.1 ∙ is.unclaimed;
            none_released = last.3 ∙ then.3 ∙ is.none_released;
          };
      not_empty = omega (arith, many, some);
      handles = subst (AreNewHandles c.args.gates.now 0) (sym lent) c.in_ok-handles.ensures.opened.1;
    }

pub returns-clause-handles : goal.returns-clause-handles
returns-clause-handles g c =
    let v = c.in_ok-handles.handles in let lent : c.deref_mut.result.now ≡ v.items = search rules in let made = c.in_ok-handles.ensures in
    let new = c.give_first.new.handles in let count : length new ≡ v.len = c.give_first.ensures.same_count ∙ ap length lent ∙ sym v.ok.0 in
    let all = refilled v.len v.items new count in record {
      same_count = ap length all ∙ c.give_first.ensures.same_count ∙ ap length lent ∙ made.opened.0;
      handles = subst (AreFirstHandles c.args.gates.now) (sym all) c.give_first.ensures.first;
      ports = ap pool_handles_of all ∙ c.give_first.ensures.ports ∙ ap pool_handles_of lent ∙ made.ports;
    }

pub returns-clause-whole : goal.returns-clause-whole
returns-clause-whole g c =
    let v = c.in_ok-handles.handles in let lent : c.deref_mut.result.now ≡ v.items = search rules in
    let new = c.give_first.new.handles in let count : length new ≡ v.len = c.give_first.ensures.same_count ∙ ap length lent ∙ sym v.ok.0 in
    whole-with _ _ _ _ _ _ _ c.in_ok-start.ensures.whole c.in_ok-senders.ensures.shares c.in_ok-handles.ensures.shares
    (ap shares_of_handles (refilled v.len v.items new count) ∙ c.give_first.ensures.shares) (ap shares_of_handles lent)

pub start-requires-clause-pass : goal.start-requires-clause-pass
start-requires-clause-pass g c = c.requires.pass

pub start-requires-clause-not_empty : goal.start-requires-clause-not_empty
start-requires-clause-not_empty g c = c.requires.actors.0

pub open_senders-requires-clause-same_gates : goal.open_senders-requires-clause-same_gates
open_senders-requires-clause-same_gates g c = (c.start.ensures.same_gates ∙ c.requires.pass.same_gates, c.requires.actors.1)

pub open_senders-requires-clause-for_senders : goal.open_senders-requires-clause-for_senders
open_senders-requires-clause-for_senders g c = c.requires.for_senders

pub open_handles-requires-clause-same_gates : goal.open_handles-requires-clause-same_gates
open_handles-requires-clause-same_gates g c =
    (c.open_senders.ensures.same_gates ∙ c.start.ensures.same_gates ∙ c.requires.pass.same_gates, c.requires.actors.1)

pub open_handles-requires-clause-handles : goal.open_handles-requires-clause-handles
open_handles-requires-clause-handles g c = c.requires.handles

pub open_handles-requires-clause-within_limit : goal.open_handles-requires-clause-within_limit
open_handles-requires-clause-within_limit g c = c.requires.not_empty.1

pub returns-clause-senders : goal.returns-clause-senders
returns-clause-senders g c = c.in_ok-senders.ensures.opened
