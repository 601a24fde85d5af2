use Rattle.std.proofs.Common.{rules, arith}
use Rattle.mb_gate.specs.Accessors.{first_home}
use Rattle.mb_gate.proofs.Allowed.{looks_allowed}
use Rattle.mb_gate.proofs.gates.Gates.look.Goals as goal

pub load-bits-requires : goal.load-bits-requires
load-bits-requires g c = (
  search rules,
  search rules,
  looks_allowed (g.H.MailboxState.is_of (first_home c.args.self.now)) g.H.MailboxState.facts _ _ _ _ c.args.id.0 _
      (let k = c.args.self.now.keyed in let t = c.requires.present
      in omega arith) c.word_index.ensures,
)
