use Rattle.std.proofs.Common.{rules}
use Rattle.std.specs.Prelude.{ℕ, not, ◌==◌}
use Rattle.std.proofs.lemmas.Fn.{filter_same}
use Rattle.mb_msg.specs.declared.system.SysMsg.{SysMsg}
use Rattle.mb_supervision.proofs.cell_state.aside.forget.Goals as goal

pub returns : goal.returns
returns c = record {
  items =
      filter_same _ (λ (m : ℕ × SysMsg). not (m.0 == c.args.number)) _ (λ x b f r. search rules) _ _ c.retain.ensures.filtered;
}
