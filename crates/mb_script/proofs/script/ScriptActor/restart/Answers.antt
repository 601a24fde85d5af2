use Rattle.std.proofs.Common.{ap, sym}
use Rattle.mb_script.proofs.Keeping.{script_keeps}
use Rattle.mb_script.specs.Script.{Scripted}
use Rattle.mb_script.proofs.script.ScriptActor.restart.Goals as goal

pub returns-clause-kept : goal.returns-clause-kept
returns-clause-kept c = script_keeps _ _ c.args.out.now c.perform.new.out (ap (λ (s : Scripted). s.script)
    (sym c.self.view_is)) c.perform.ensures.actors c.perform.ensures.unspawned
