use Rattle.std.proofs.Common.{rules, sym, ap, ◌∙◌, subst, arith}
use Rattle.mb_status.specs.Mailbox.{Mailbox}
use Rattle.mb_gate.specs.Together.{ShowsOwnClaim}
use Rattle.mb_gate.specs.Accessors.{first_home}
use Rattle.mb_gate.proofs.Together.{own_claim_allowed, same_seat}
use Rattle.mb_gate.proofs.gates.Gates.own_claim.Goals as goal

pub load-word-requires : goal.load-word-requires
load-word-requires g c = (
  search rules,
  search rules,
  own_claim_allowed (g.H.MailboxState.is_of (first_home c.args.self.now)) g.H.MailboxState.facts _ _ _ _ c.args.id.0 _
      (let k = c.args.self.now.keyed in let t = c.requires.present in omega arith) c.word_index.ensures,
)

pub from_word-requires : goal.from_word-requires
from_word-requires g c = record { valid = (c.load-word.ensures.2 _ c.word_index.ensures).1 }

pub returns-clause-same : goal.returns-clause-same
returns-clause-same g c = same_seat _ _ c.load-word.ensures.0 c.load-word.ensures.1 (c.load-word.ensures.2 _ c.word_index.ensures).0

pub returns-clause-own_claim : goal.returns-clause-own_claim
returns-clause-own_claim g c = subst (λ (m : Mailbox). ShowsOwnClaim c.args.id.0 m c.args.seat.now.me.0) (sym c.from_word.ensures.value)
    (c.load-word.ensures.2 _ c.word_index.ensures).2
