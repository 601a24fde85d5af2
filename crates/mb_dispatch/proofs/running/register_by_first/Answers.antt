use Rattle.std.proofs.Common.{arith, get_or, refl}
use Rattle.mb_gate.specs.Accessors.{actors_of, pass_view}
use Rattle.mb_system.specs.Members.{handle_caller}
use Rattle.mb_system.proofs.Obligations.{obligations-left, obligations-same}
use Rattle.mb_system.proofs.Looking.{only-none}
use Rattle.mb_system.proofs.Saw.{saw-same}
use Rattle.mb_dispatch.proofs.Claims.{claims-none, claims-registered-all}
use Rattle.mb_dispatch.proofs.Firsts.{first-discharged}
use Rattle.mb_dispatch.proofs.Sides.{first_changed, zip_first, zip_same}
use Rattle.mb_dispatch.proofs.running.register_by_first.Goals as goal

pub returns-in-len1-up-clause-handles : goal.returns-in-len1-up-clause-handles
returns-in-len1-up-clause-handles g c =
    first_changed c.args.system.now.gates c.args.handles.now c.index-handles-0.result c.register_all.new.self c.requires c.register_all.ensures.same_handle.same_gates
    c.register_all.ensures.same_handle.number

pub returns-in-len1-up-clause-log_kept : goal.returns-in-len1-up-clause-log_kept
returns-in-len1-up-clause-log_kept g c =
    zip_first _ (λ x. saw-same (pass_view x.registrar.pass).log) c.args.handles.now c.index-handles-0.result c.register_all.new.self c.register_all.ensures.same_handle.log_kept

pub returns-in-len1-up-clause-obligations : goal.returns-in-len1-up-clause-obligations
returns-in-len1-up-clause-obligations g c =
    let actors = actors_of c.args.system.now.gates in let first = get_or c.args.handles.now 0 c.index-handles-0.result in let new = c.register_all.new.self in
    zip_first _ (λ x. obligations-same actors (handle_caller x.registrar) (handle_caller x.registrar) refl refl) c.args.handles.now c.index-handles-0.result new
    (obligations-left actors (handle_caller first.registrar) (handle_caller new.registrar) c.register_all.ensures.leaves)

pub returns-in-len1-up-clause-discharged : goal.returns-in-len1-up-clause-discharged
returns-in-len1-up-clause-discharged g c =
    first-discharged c.args.system.now.gates c.args.handles.now c.register_all.new.self c.register_all.ensures.discharged

pub returns-in-len1-up-clause-looks : goal.returns-in-len1-up-clause-looks
returns-in-len1-up-clause-looks g c =
    zip_first _ (λ x. only-none (pass_view x.registrar.pass)) c.args.handles.now c.index-handles-0.result c.register_all.new.self c.register_all.ensures.looks_for_work.looks

pub returns-in_default-clause-log_kept : goal.returns-in_default-clause-log_kept
returns-in_default-clause-log_kept g c = zip_same _ (λ x. saw-same (pass_view x.registrar.pass).log) c.args.handles.now

pub returns-in_default-clause-obligations : goal.returns-in_default-clause-obligations
returns-in_default-clause-obligations g c =
    zip_same _ (λ x. obligations-same (actors_of c.args.system.now.gates) (handle_caller x.registrar) (handle_caller x.registrar) refl refl) c.args.handles.now

pub returns-in_default-clause-looks : goal.returns-in_default-clause-looks
returns-in_default-clause-looks g c = zip_same _ (λ x. only-none (pass_view x.registrar.pass)) c.args.handles.now

pub register_all-requires : goal.register_all-requires
register_all-requires g c =
    let one = c.in-len1-up.len_at_least in record { same_gates = c.requires 0 c.index-handles-0.result (omega (arith, one)) }

pub returns-in-len1-up-clause-claims : goal.returns-in-len1-up-clause-claims
returns-in-len1-up-clause-claims g c =
    let did = c.register_all.ensures in
    zip_first _ claims-none c.args.handles.now c.index-handles-0.result c.register_all.new.self
    (claims-registered-all (get_or c.args.handles.now 0 c.index-handles-0.result) c.register_all.new.self (actors_of c.args.system.now.gates) did.registered did.log)

pub returns-in_default-clause-claims : goal.returns-in_default-clause-claims
returns-in_default-clause-claims g c = zip_same _ claims-none c.args.handles.now
