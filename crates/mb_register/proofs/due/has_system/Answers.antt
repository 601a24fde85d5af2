use Rattle.std.proofs.Common.{◌∙◌, subst, sym, inl, inr}
use Rattle.mb_gate.specs.Accessors.{pass_view}
use Rattle.mb_register.specs.Views.{LooksAfter}
use Rattle.mb_register.proofs.Views.{looks-looking}
use Rattle.mb_register.proofs.Reading.{reads-none}
use Rattle.mb_register.proofs.ClaimCounts.{claims-looked}
use Rattle.mb_register.proofs.Dues.{saw-listed}
use Rattle.mb_register.proofs.due.has_system.Goals as goal

pub returns-clause-only_reads : goal.returns-clause-only_reads
returns-clause-only_reads g c = record {
  same_gates = c.has_system.ensures.same_gates;
  looks = subst (LooksAfter c.args.id.0 (pass_view c.args.pass.now)) (sym c.has_system.ensures.known)
      (looks-looking c.args.id.0 c.has_system.result (pass_view c.args.pass.now));
  claims = claims-looked c.args.id.0 c.has_system.result (pass_view c.args.pass.now) _ c.has_system.ensures.known;
}

pub returns-then-is_system-clause-only_reads : goal.returns-then-is_system-clause-only_reads
returns-then-is_system-clause-only_reads g c = reads-none c.args.id.0 c.args.pass.now

pub returns-clause-seen : goal.returns-clause-seen
returns-clause-seen g c some = inr (saw-listed c.args.id.0 c.has_system.result (pass_view c.args.pass.now) _ c.has_system.ensures.known some)

pub returns-then-is_system-clause-seen : goal.returns-then-is_system-clause-seen
returns-then-is_system-clause-seen g c some = inl (sym c.is_system.ensures ∙ c.if-is_system.true)
