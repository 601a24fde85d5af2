use Rattle.std.proofs.Common.{rules, arith}
use Rattle.mb_gate.specs.Claims.{held_in}
use Rattle.mb_gate.specs.Accessors.{first_home}
use Rattle.mb_gate.proofs.HeldStatus.{reads_held_allowed}
use Rattle.mb_gate.proofs.gates.Gates.read_held.Goals as goal

pub load-requires : goal.load-requires
load-requires g c = (
  search rules,
  search rules,
  reads_held_allowed (g.H.MailboxState.is_of (first_home c.args.self.now)) g.H.MailboxState.facts _ _ _ _ c.args.id.0 _
      (let k = c.args.self.now.keyed in let t = c.requires.present
      in omega arith) c.word_index.ensures,
)

pub returns-clause-word : goal.returns-clause-word
returns-clause-word g c =
    let holder = c.requires.holder in
    (c.load.ensures.2 c.args.id.0 (held_in c.args.seat.now.me.0) c.word_index.ensures holder.has holder.of).1

pub returns-clause-known : goal.returns-clause-known
returns-clause-known g c =
    let holder = c.requires.holder in
    (c.load.ensures.2 c.args.id.0 (held_in c.args.seat.now.me.0) c.word_index.ensures holder.has holder.of).0
