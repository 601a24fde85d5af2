use Rattle.std.proofs.Common.{refl}
use Rattle.mb_script.proofs.Keeping.{script_keeps}
use Rattle.mb_script.proofs.script.ScriptActor.stop.Goals as goal

pub returns-clause-kept : goal.returns-clause-kept
returns-clause-kept c = script_keeps _ _ c.args.out.now c.perform.new.out (refl) c.perform.ensures.actors c.perform.ensures.unspawned
