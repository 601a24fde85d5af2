use Rattle.std.proofs.Common.{rules, arith}
use Rattle.mb_gate.specs.Accessors.{first_home}
use Rattle.mb_gate.proofs.Allowed.{counts_allowed}
use Rattle.mb_gate.proofs.gates.Gates.count.Goals as goal

pub load-requires : goal.load-requires
load-requires g c = (
  search rules,
  search rules,
  counts_allowed (g.H.MailboxState.is_of (first_home c.args.self.now)) g.H.MailboxState.facts
      _ _ _ _ c.args.id.0 _ (let k = c.args.self.now.keyed in let t = c.requires.present in omega arith) c.word_index.ensures,
)

pub returns-clause-known : goal.returns-clause-known
returns-clause-known g c = (c.load.ensures.2 _ c.word_index.ensures).0

pub returns-clause-own_balance : goal.returns-clause-own_balance
returns-clause-own_balance g c = (c.load.ensures.2 _ c.word_index.ensures).1
