use Rattle.std.proofs.Common.{ap, get_or, ◌∙◌}
use Rattle.std.proofs.lemmas.Result.{IfOk-weaker}
use Rattle.mb_dead_letters.specs.KeptListView.{KeptListView}
use Rattle.mb_gate.specs.Accessors.{actors_of, pass_view}
use Rattle.mb_gate.specs.Untouched.{origin_of}
use Rattle.mb_mailbox.specs.declared.turn.Turn.{Turn}
use Rattle.mb_dispatch.specs.Alone.{KeepsAlone}
use Rattle.mb_dispatch.specs.Runs.{turns_in}
use Rattle.mb_dispatch.proofs.Alone.{alone-first, alone-weaker}
use Rattle.mb_dispatch.proofs.Claims.{claims-registered-all}
use Rattle.mb_dispatch.proofs.Runs.{more-all}
use Rattle.mb_dispatch.proofs.quiet.run_quietly.Goals as goal

pub returns-in-Ok-clause-runs : goal.returns-in-Ok-clause-runs
returns-in-Ok-clause-runs g c =
    let system = c.args.system.now in
    IfOk-weaker c.continue_quietly.result _ _
    (λ all did. alone-weaker _ _ (λ x y more. more-all g.K.Behaviours.gives (origin_of system.gates) system.throughput (pass_view x.registrar.pass)
    (pass_view y.registrar.pass) c.in-Ok.list.items (turns_in all) (ap (λ (l : KeptListView Turn). l.items) c.in-Ok.ensures.made) more)
    c.args.handles.now c.continue_quietly.new.handles did)
    c.continue_quietly.ensures.runs

pub returns-in-Ok-clause-kept : goal.returns-in-Ok-clause-kept
returns-in-Ok-clause-kept g c =
    IfOk-weaker c.continue_quietly.result _ _ (λ all same. same ∙ ap (λ (l : KeptListView Turn). l.retention) c.in-Ok.ensures.made) c.continue_quietly.ensures.kept

pub returns-in-Err-clause-alone : goal.returns-in-Err-clause-alone
returns-in-Err-clause-alone g c =
    let did = c.register_all.ensures in let first = get_or c.args.handles.now 0 c.index-handles-0.result in
    alone-first (KeepsAlone c.args.system.now) c.args.handles.now c.index-handles-0.result c.register_all.new.self c.requires.not_empty
    (record {
      same_handle = record {
        same_gates = did.same_handle.same_gates;
        number = did.same_handle.number;
        log_kept = did.same_handle.log_kept;
      };
      obligations = did.discharged;
      claims = claims-registered-all first c.register_all.new.self (actors_of c.args.system.now.gates) did.registered did.log;
    })
