use Rattle.std.proofs.Common.{◌∙◌, subst, sym}
use Rattle.mb_gate.specs.Untouched.{IsUntouched}
use Rattle.mb_pool.specs.Endpoints.{endpoint_of}
use Rattle.mb_pool.specs.Moves.{Takes}
use Rattle.mb_pool.specs.Parts.{port_view}
use Rattle.mb_pool.proofs.OneWorkerLemmas.{order-taken}
use Rattle.mb_pool.proofs.Stealing.{of_none}
use Rattle.mb_pool.proofs.WorkerPortLemmas.{kept-fits, pooled-fits, stays-open, takes-kept, takes-pooled}
use Rattle.mb_pool.proofs.worker_port.WorkerPort.take.Goals as goal

-- ---- a claim was kept

pub returns-in-Some-clause-untouched : goal.returns-in-Some-clause-untouched
returns-in-Some-clause-untouched g c =
    let handle = endpoint_of (port_view c.self.inside.shared_port) c.self.inside.member in
    kept-fits (IsUntouched g.H.MailboxState.is_of g.H.MailboxState.facts) handle c.self.inside.next c.self.inside.pushed c.self.inside.refused
    c.self.inside.taken c.args.self.now c.in-Some.pooled c.open-claim.result c.self.view_is (sym c.in-Some.ensures.value) c.open-claim.ensures
    c.self.invariant.1

pub returns-in-Some-clause-in_order : goal.returns-in-Some-clause-in_order
returns-in-Some-clause-in_order g c alone ordered =
    let fit = IsUntouched g.H.MailboxState.is_of g.H.MailboxState.facts in let handle = endpoint_of (port_view c.self.inside.shared_port) c.self.inside.member in
    order-taken fit c.args.self.now _ c.open-claim.result alone ordered
    (takes-kept fit handle c.self.inside.next c.take.new.self c.self.inside.pushed c.self.inside.refused c.self.inside.taken c.add.new.self
    c.args.self.now c.in-Some.pooled c.open-claim.result c.of.result c.self.view_is (sym c.in-Some.ensures.value) c.take.ensures.after
    c.open-claim.ensures c.add.ensures c.of.ensures)

-- ---- none was, and one attempt took one

pub invariant_of-self-in-Some-try_take_first : goal.invariant_of-self-in-Some-try_take_first
invariant_of-self-in-Some-try_take_first g c =
    stays-open (IsUntouched g.H.MailboxState.is_of g.H.MailboxState.facts) (endpoint_of (port_view c.self.inside.shared_port) c.self.inside.member) (endpoint_of (port_view c.try_take_first.new.shared_port) c.try_take_first.new.member) c.take.new.self c.try_take_first.ensures.same c.take.ensures.after
    c.self.invariant.0

pub returns-in-Some-try_take_first-clause-untouched : goal.returns-in-Some-try_take_first-clause-untouched
returns-in-Some-try_take_first-clause-untouched g c =
    pooled-fits (IsUntouched g.H.MailboxState.is_of g.H.MailboxState.facts) (endpoint_of (port_view c.self.inside.shared_port) c.self.inside.member) (endpoint_of (port_view c.try_take_first.new.shared_port) c.try_take_first.new.member) c.self.inside.next c.self.inside.pushed c.self.inside.refused
    c.self.inside.taken c.args.self.now c.in-Some-try_take_first.claim c.self.view_is c.self.invariant.0 c.in-Some-try_take_first.ensures.taken

pub returns-in-Some-try_take_first-clause-in_order : goal.returns-in-Some-try_take_first-clause-in_order
returns-in-Some-try_take_first-clause-in_order g c alone ordered =
    let fit = IsUntouched g.H.MailboxState.is_of g.H.MailboxState.facts in
    order-taken fit c.args.self.now _ c.in-Some-try_take_first.claim alone ordered
    (takes-pooled fit (endpoint_of (port_view c.self.inside.shared_port) c.self.inside.member) (endpoint_of (port_view c.try_take_first.new.shared_port) c.try_take_first.new.member) c.self.inside.next c.take.new.self c.self.inside.pushed c.self.inside.refused c.self.inside.taken
    c.add-in-Some-try_take_first.new.self c.args.self.now c.in-Some-try_take_first.claim c.of-in-Some-try_take_first.result c.self.view_is
    (sym c.take.ensures.value ∙ c.in_default.is) c.take.ensures.after c.in-Some-try_take_first.ensures.taken c.add-in-Some-try_take_first.ensures
    c.of-in-Some-try_take_first.ensures)

-- ---- nor did the attempt take one

pub invariant_of-self-2 : goal.invariant_of-self-2
invariant_of-self-2 g c =
    stays-open (IsUntouched g.H.MailboxState.is_of g.H.MailboxState.facts) (endpoint_of (port_view c.self.inside.shared_port) c.self.inside.member) (endpoint_of (port_view c.take_first.new.shared_port) c.take_first.new.member) c.take.new.self
    (c.take_first.ensures.same ∙ c.try_take_first.ensures.same) c.take.ensures.after c.self.invariant.0

pub returns-clause-untouched : goal.returns-clause-untouched
returns-clause-untouched g c =
    let fit = IsUntouched g.H.MailboxState.is_of g.H.MailboxState.facts in let new = endpoint_of (port_view c.take_first.new.shared_port) c.take_first.new.member in
    let still = of_none _ _ c.try_take_first.result c.in_default-try_take_first.is c.try_take_first.ensures.taken in
    pooled-fits fit (endpoint_of (port_view c.self.inside.shared_port) c.self.inside.member) new c.self.inside.next c.self.inside.pushed c.self.inside.refused c.self.inside.taken c.args.self.now c.in-Some-take_first.claim
    c.self.view_is c.self.invariant.0 (subst (λ w. Takes fit w c.in-Some-take_first.claim new) still c.in-Some-take_first.ensures.taken)

pub returns-clause-in_order : goal.returns-clause-in_order
returns-clause-in_order g c alone ordered =
    let fit = IsUntouched g.H.MailboxState.is_of g.H.MailboxState.facts in let new = endpoint_of (port_view c.take_first.new.shared_port) c.take_first.new.member in
    let still = of_none _ _ c.try_take_first.result c.in_default-try_take_first.is c.try_take_first.ensures.taken in
    order-taken fit c.args.self.now _ c.in-Some-take_first.claim alone ordered
    (takes-pooled fit (endpoint_of (port_view c.self.inside.shared_port) c.self.inside.member) new c.self.inside.next c.take.new.self c.self.inside.pushed c.self.inside.refused c.self.inside.taken c.add-2.new.self
    c.args.self.now c.in-Some-take_first.claim c.of-2.result c.self.view_is (sym c.take.ensures.value ∙ c.in_default.is) c.take.ensures.after
    (subst (λ w. Takes fit w c.in-Some-take_first.claim new) still c.in-Some-take_first.ensures.taken) c.add-2.ensures c.of-2.ensures)
