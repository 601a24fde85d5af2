use Rattle.std.proofs.Common.{arith, false, sym, refl, ap, subst, ◌∙◌}
use Rattle.std.specs.Prelude.{is_err}
use Rattle.mb_gate.specs.NamedActors.{NamesBelow}
use Rattle.mb_gate.specs.Accessors.{actors_of, pass_view}
use Rattle.mb_gate.specs.View.{View}
use Rattle.mb_register.proofs.ToldLemmas.{told-here, told-still, told-within}
use Rattle.mb_register.proofs.Views.{does-enlisting}
use Rattle.mb_mailbox.proofs.ClaimLemmas.{further-listed}
use Rattle.mb_mailbox.proofs.SendSystemLemmas.{notified}
use Rattle.mb_mailbox.proofs.RecordedLemmas.{alike-one, does-end-none, does-give-none, does-list, further-refused, refused-gives-none, refused-one, unrefused}
use Rattle.mb_mailbox.specs.RunSends.{listed_by}
use Rattle.mb_mailbox.proofs.sending_system.notify.Goals as goal

pub sys_enqueue_in_run-requires-clause-same_gates : goal.sys_enqueue_in_run-requires-clause-same_gates
sys_enqueue_in_run-requires-clause-same_gates g c = c.requires.same_gates.0

pub insert-requires : goal.insert-requires
insert-requires g c = omega (arith, c.requires.present.0, c.requires.same_gates.2)

pub returns-clause-same_gates : goal.returns-clause-same_gates
returns-clause-same_gates g c = (
  c.sys_enqueue_in_run.ensures.same_gates ∙ c.requires.same_gates.0,
  c.requires.same_gates.1,
  c.requires.same_gates.2,
  told-within c.args.whom.0 _ _ c.insert.ensures.set _ c.requires.present.0 c.requires.same_gates.3,
)

pub returns-in_default-clause-same_gates : goal.returns-in_default-clause-same_gates
returns-in_default-clause-same_gates g c = (c.sys_enqueue_in_run.ensures.same_gates ∙ c.requires.same_gates.0, c.requires.same_gates.1, c.requires.same_gates.2, c.requires.same_gates.3)

pub sys_enqueue_in_run-requires-clause-named : goal.sys_enqueue_in_run-requires-clause-named
sys_enqueue_in_run-requires-clause-named g c = subst (NamesBelow (actors_of c.args.gates.now)) (sym c.set.ensures) c.requires.present.1

pub returns-clause-told : goal.returns-clause-told
returns-clause-told g c =
    notified c.args.whom.0 c.args.ended.0 c.set.new.self (is_err c.sys_enqueue_in_run.result) c.args.claim.now c.sys_enqueue_in_run.new.claim
    c.set.ensures c.sys_enqueue_in_run.ensures.recorded

pub returns-clause-caller_advances : goal.returns-clause-caller_advances
returns-clause-caller_advances g c =
    further-listed c.args.whom.0 c.in-Ok.field-0 c.set.new.self _ _ c.in-Ok.ensures.listed refl
    (omega (arith, c.requires.present.0, c.requires.same_gates.2), told-here c.args.whom.0 _ _ c.insert.ensures.set)
    (λ other still. (still.0, told-still c.args.whom.0 _ _ c.insert.ensures.set other still.1))

pub returns-in_default-clause-told : goal.returns-in_default-clause-told
returns-in_default-clause-told g c =
    notified c.args.whom.0 c.args.ended.0 c.set.new.self (is_err c.sys_enqueue_in_run.result) c.args.claim.now c.sys_enqueue_in_run.new.claim
    c.set.ensures c.sys_enqueue_in_run.ensures.recorded

pub returns-in_default-clause-caller_advances : goal.returns-in_default-clause-caller_advances
returns-in_default-clause-caller_advances g c = further-refused _ _ _ _ c.in_default.ensures.ended.1 refl refl

pub returns-clause-sends : goal.returns-clause-sends
returns-clause-sends g c =
    let id = c.args.whom.0 in
    let a = pass_view c.args.registrar.now.pass in let b = pass_view c.sys_enqueue_in_run.new.pass in
    let did = does-enlisting id c.in-Ok.field-0 c.set.new.self a b c.in-Ok.ensures.listed in
    alike-one _ _ _ _ _ c.in-Ok.ensures.recorded.record_is did.sent_system (does-list id _ _ a b did) (does-give-none id _ _ a b refl did)
    (unrefused (record { to = id; message = c.set.new.self; was_ended = false }) a b refl (does-end-none id _ _ a b (λ to. omega arith) did))

pub returns-in_default-clause-sends : goal.returns-in_default-clause-sends
returns-in_default-clause-sends g c =
    alike-one _ _ _ _ _ c.in_default.ensures.recorded.record_is (ap (λ (v : View). v.sent_system) c.in_default.ensures.ended.1)
    (ap (λ (v : View). listed_by v.log) c.in_default.ensures.ended.1) (refused-gives-none _ _ _ _ c.in_default.ensures.ended.1)
    (refused-one _ _ _ _ c.in_default.ensures.ended.1)
