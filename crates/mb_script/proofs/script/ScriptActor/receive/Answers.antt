use Rattle.std.proofs.Common.{ap, sym}
use Rattle.mb_script.proofs.Keeping.{script_keeps}
use Rattle.mb_script.specs.Script.{Scripted}
use Rattle.mb_script.proofs.script.ScriptActor.receive.Goals as goal

pub returns-in-User-clause-kept : goal.returns-in-User-clause-kept
returns-in-User-clause-kept c = script_keeps _ _ c.args.out.now c.do_kind.new.out
    (sym (ap (λ (s : Scripted). s.script) c.do_kind.ensures.state)) c.do_kind.ensures.actors c.do_kind.ensures.unspawned

pub returns-in-Control-clause-kept : goal.returns-in-Control-clause-kept
returns-in-Control-clause-kept c = script_keeps _ _ c.args.out.now c.do_searched_kind.new.out
    (sym (ap (λ (s : Scripted). s.script) c.do_searched_kind.ensures.state)) c.do_searched_kind.ensures.actors
    c.do_searched_kind.ensures.unspawned
