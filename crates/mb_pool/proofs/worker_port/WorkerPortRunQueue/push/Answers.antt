use Rattle.std.proofs.Common.{◌≡◌, ◌≢◌, ◌∙◌, ◌⊎◌, false, inl, inr, [], ◌∷◌, ◌++◌, List, MatchResult, ap, subst, sym}
use Rattle.mb_gate.specs.declared.claim.Claim.{Claim}
use Rattle.mb_pool.specs.Endpoints.{endpoint_of}
use Rattle.mb_pool.specs.Parts.{port_view}
use Rattle.mb_gate.specs.Untouched.{IsUntouched}
use Rattle.mb_pool.specs.Moves.{FindsOwnEmpty, TakesOwn}
use Rattle.mb_pool.specs.Places.{gates_of, ports_of}
use Rattle.mb_pool.specs.WorkerPorts.{WorkerPortView, kept}
use Rattle.mb_pool.proofs.OneWorkerLemmas.{order-answered, order-put}
use Rattle.mb_pool.proofs.PoolPortLemmas.{same-gates}
use Rattle.mb_pool.proofs.Ports.{own_takes, still_open, takes_fit}
use Rattle.mb_pool.proofs.WorkerPortLemmas.{fits-alone, keeps-none, keeps-one, logged-more, put-behind, put-last}
use Rattle.mb_pool.proofs.worker_port.WorkerPortRunQueue.push.Goals.{
  then-not-at_run_end-via-else-not-at_run_end+then-is_some,
  then-not-at_run_end-via-then-not-at_run_end,
}
use Rattle.mb_pool.proofs.worker_port.WorkerPortRunQueue.push.Goals as goal

-- ---- while a run goes on, or where one is kept

pub returns-then-not-at_run_end-clause-in_order : goal.returns-then-not-at_run_end-clause-in_order
returns-then-not-at_run_end-clause-in_order g c alone ordered =
    let fit = IsUntouched g.H.MailboxState.is_of g.H.MailboxState.facts in
    let why : (c.args.at_run_end ≡ false) ⊎ (c.args.self.now.next ≢ []) = elim c.then-not-at_run_end.branch [
      | then-not-at_run_end-via-then-not-at_run_end w ↦ inl w.if-not-at_run_end.true
      | then-not-at_run_end-via-else-not-at_run_end+then-is_some w ↦
          inr (keeps-one w.is_some.result (endpoint_of (port_view c.self.inside.shared_port) c.self.inside.member) c.self.inside.next c.self.inside.pushed c.self.inside.refused c.self.inside.taken
          c.args.self.now c.self.view_is w.is_some.ensures w.if-is_some.true)
    ] in
    order-answered fit c.args.self.now c.push_last.new.self c.args.claim alone ordered c.args.at_run_end c.push_last.result
    (λ back. back.claim ≡ c.args.claim) c.push_last.ensures.pushed c.push_last.ensures.kept.1
    (put-last fit c.args.at_run_end c.args.claim c.push_last.result c.args.self.now c.push_last.new.self why c.push_last.ensures.kept.0 c.push_last.ensures.put)

-- ---- at the end of a run, where the queue was found empty

pub invariant_of-self : goal.invariant_of-self
invariant_of-self g c =
    let fit = IsUntouched g.H.MailboxState.is_of g.H.MailboxState.facts in
    let old = endpoint_of (port_view c.self-2.inside.shared_port) c.self-2.inside.member in let new = endpoint_of (port_view c.take_own_first.new.shared_port) c.take_own_first.new.member in (
      still_open old new c.take_own_first.ensures.same c.self-2.invariant.0,
      fits-alone fit (gates_of new) c.new.result c.args.claim c.new.ensures
          (subst (λ gates. fit gates c.args.claim)
          (sym (same-gates old new c.take_own_first.ensures.same ∙ ap (λ (v : WorkerPortView _). gates_of v.handle) c.self-2.view_is)) c.requires.untouched),
    )

pub returns-in_default-clause-in_order : goal.returns-in_default-clause-in_order
returns-in_default-clause-in_order g c alone ordered =
    let fit = IsUntouched g.H.MailboxState.is_of g.H.MailboxState.facts in
    let old = c.args.self.now in let is = c.self-2.view_is in
    order-put fit old _ c.args.claim alone ordered c.args.at_run_end
    (logged-more c.self-2.inside.pushed c.add.new.self c.of.result c.args.claim old.pushed (ap (λ (v : WorkerPortView _). v.pushed) is) c.add.ensures
    c.of.ensures)
    (ap (λ (v : WorkerPortView _). v.taken) is)
    (kept c.if-not-at_run_end.false
    (keeps-none c.is_some.result (endpoint_of (port_view c.self.inside.shared_port) c.self.inside.member) c.self.inside.next c.self.inside.pushed c.self.inside.refused c.self.inside.taken old c.self.view_is
    c.is_some.ensures c.if-is_some.false)
    (subst (λ (v : WorkerPortView _). FindsOwnEmpty fit (ports_of v.handle)) is c.in_default.ensures.taken.1)
    (ap (λ x. x ∷ []) c.new.ensures) (c.in_default.ensures.taken.0 ∙ ap (λ (v : WorkerPortView _). v.handle) is))

-- ---- where it was not

pub new-requires-2 : goal.new-requires-2
new-requires-2 g c =
    let fit = IsUntouched g.H.MailboxState.is_of g.H.MailboxState.facts in
    let old = endpoint_of (port_view c.self-2.inside.shared_port) c.self-2.inside.member in let new = endpoint_of (port_view c.take_own_first.new.shared_port) c.take_own_first.new.member in record {
      untouched = (
        gates_of old,
        takes_fit fit (gates_of old) (ports_of old) (ports_of new) c.in-Some.first c.self-2.invariant.0
            (own_takes fit (ports_of old) (ports_of new) c.in-Some.first c.in-Some.ensures.taken),
      );
    }

pub invariant_of-self-2 : goal.invariant_of-self-2
invariant_of-self-2 g c =
    let fit = IsUntouched g.H.MailboxState.is_of g.H.MailboxState.facts in
    let old = endpoint_of (port_view c.self-2.inside.shared_port) c.self-2.inside.member in let new = endpoint_of (port_view c.take_own_first.new.shared_port) c.take_own_first.new.member in (
      still_open old new c.take_own_first.ensures.same c.self-2.invariant.0,
      fits-alone fit (gates_of new) c.new-2.result c.in-Some.first c.new-2.ensures
          (subst (λ gates. fit gates c.in-Some.first) (sym (same-gates old new c.take_own_first.ensures.same))
          (takes_fit fit (gates_of old) (ports_of old) (ports_of new) c.in-Some.first c.self-2.invariant.0
          (own_takes fit (ports_of old) (ports_of new) c.in-Some.first c.in-Some.ensures.taken))),
    )

pub returns-clause-put : goal.returns-clause-put
returns-clause-put g c =
    let fit = IsUntouched g.H.MailboxState.is_of g.H.MailboxState.facts in
    let old = c.args.self.now in
    put-behind fit c.args.at_run_end c.args.claim c.in-Some.first c.push_last-2.result old c.push_last-2.new.self (endpoint_of (port_view c.take_own_first.new.shared_port) c.take_own_first.new.member)
    c.if-not-at_run_end.false
    (keeps-none c.is_some.result (endpoint_of (port_view c.self.inside.shared_port) c.self.inside.member) c.self.inside.next c.self.inside.pushed c.self.inside.refused c.self.inside.taken old c.self.view_is
    c.is_some.ensures c.if-is_some.false)
    (subst (λ (v : WorkerPortView _). TakesOwn fit (ports_of v.handle) c.in-Some.first (ports_of (endpoint_of (port_view c.take_own_first.new.shared_port) c.take_own_first.new.member))) c.self-2.view_is
    c.in-Some.ensures.taken)
    (c.push_last-2.ensures.kept.0 ∙ ap (λ x. x ∷ []) c.new-2.ensures) c.push_last-2.ensures.put

pub returns-clause-in_order : goal.returns-clause-in_order
returns-clause-in_order g c alone ordered =
    let fit = IsUntouched g.H.MailboxState.is_of g.H.MailboxState.facts in
    let old = c.args.self.now in let is = c.self-2.view_is in
    order-answered fit old c.push_last-2.new.self c.args.claim alone ordered c.args.at_run_end c.push_last-2.result
    (λ back. back.claim ≡ c.args.claim)
    (subst (λ (y : List (Claim _) × List (Claim _)). MatchResult c.push_last-2.result
    (λ _. (c.push_last-2.new.self.pushed ≡ y.0 ++ c.args.claim ∷ []) × (c.push_last-2.new.self.refused ≡ y.1))
    (λ back. (back.claim ≡ c.args.claim) × (c.push_last-2.new.self.pushed ≡ y.0) × (c.push_last-2.new.self.refused ≡ y.1 ++ c.args.claim ∷ [])))
    (λ i. (ap (λ (v : WorkerPortView _). v.pushed) is i, ap (λ (v : WorkerPortView _). v.refused) is i)) c.push_last-2.ensures.pushed)
    (c.push_last-2.ensures.kept.1 ∙ ap (λ (v : WorkerPortView _). v.taken) is)
    (put-behind fit c.args.at_run_end c.args.claim c.in-Some.first c.push_last-2.result old c.push_last-2.new.self (endpoint_of (port_view c.take_own_first.new.shared_port) c.take_own_first.new.member)
    c.if-not-at_run_end.false
    (keeps-none c.is_some.result (endpoint_of (port_view c.self.inside.shared_port) c.self.inside.member) c.self.inside.next c.self.inside.pushed c.self.inside.refused c.self.inside.taken old c.self.view_is
    c.is_some.ensures c.if-is_some.false)
    (subst (λ (v : WorkerPortView _). TakesOwn fit (ports_of v.handle) c.in-Some.first (ports_of (endpoint_of (port_view c.take_own_first.new.shared_port) c.take_own_first.new.member))) is c.in-Some.ensures.taken)
    (c.push_last-2.ensures.kept.0 ∙ ap (λ x. x ∷ []) c.new-2.ensures) c.push_last-2.ensures.put)
