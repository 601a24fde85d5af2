use Rattle.std.proofs.Common.{rules, arith}
use Rattle.mb_gate.specs.Accessors.{first_home}
use Rattle.mb_gate.proofs.Together.{flag_allowed, same_seat}
use Rattle.mb_gate.proofs.gates.Gates.flag.Goals as goal

pub load-requires : goal.load-requires
load-requires g c = (
  search rules,
  search rules,
  flag_allowed (g.H.MailboxState.is_of (first_home c.args.self.now)) g.H.MailboxState.facts _ _ _ _ c.args.id.0 _
      (let k = c.args.self.now.keyed in let t = c.requires.present in omega arith) c.word_index.ensures,
)

pub returns-clause-same : goal.returns-clause-same
returns-clause-same g c = same_seat _ _ c.load.ensures.0 c.load.ensures.1 (c.load.ensures.2 _ c.word_index.ensures).0

pub returns-clause-back : goal.returns-clause-back
returns-clause-back g c = (c.load.ensures.2 _ c.word_index.ensures).1
