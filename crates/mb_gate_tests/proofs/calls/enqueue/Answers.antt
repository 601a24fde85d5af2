use Rattle.std.proofs.Common.{ℕ, sym, subst}
use Rattle.mb_msg.specs.declared.system.SysMsg.{SysMsg}
use Rattle.mb_gate.specs.NamedActors.{NamesBelow}
use Rattle.mb_gate_tests.proofs.calls.enqueue.Goals as goal

pub sys_enqueue-requires-clause-named : goal.sys_enqueue-requires-clause-named
sys_enqueue-requires-clause-named g c =
    subst (λ (x : ℕ × SysMsg). NamesBelow x.0 x.1) (λ i. (sym c.requires.one i, sym c.in-Ok.ensures i)) c.requires.named
