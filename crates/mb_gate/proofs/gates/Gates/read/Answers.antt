use Rattle.std.proofs.Common.{rules, sym, subst, arith}
use Rattle.mb_gate.specs.TableSteps.{StaysClosed}
use Rattle.mb_gate.specs.Accessors.{first_home}
use Rattle.mb_gate.proofs.Allowed.{reads_allowed}
use Rattle.mb_gate.proofs.gates.Gates.read.Goals as goal

pub load-word-requires : goal.load-word-requires
load-word-requires g c = (
  search rules,
  search rules,
  reads_allowed (g.H.MailboxState.is_of (first_home c.args.self.now)) g.H.MailboxState.facts _ _ _ _ c.args.id.0 _
      (let k = c.args.self.now.keyed in let t = c.requires.present
      in omega arith) c.word_index.ensures,
)

pub from_word-requires : goal.from_word-requires
from_word-requires g c = record { valid = (c.load-word.ensures.2 _ c.word_index.ensures).1 }

pub returns-clause-closed : goal.returns-clause-closed
returns-clause-closed g c = subst (λ w. StaysClosed c.args.id.0 w c.args.seat.now.me.0) (sym c.from_word.ensures.same_word)
    (c.load-word.ensures.2 _ c.word_index.ensures).2
