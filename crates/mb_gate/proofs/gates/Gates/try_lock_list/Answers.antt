use Rattle.std.proofs.Common.{rules, subst, arith}
use Rattle.mb_gate.specs.Accessors.{first_home}
use Rattle.mb_gate.specs.TableSteps.{ListLocked}
use Rattle.mb_gate.proofs.Allowed.{grips_allowed}
use Rattle.mb_gate.proofs.ListCalls.{is_even, won_or_lost}
use Rattle.mb_gate.proofs.gates.Gates.try_lock_list.Goals as goal

pub compare_exchange-found-requires : goal.compare_exchange-found-requires
compare_exchange-found-requires g c = (
  search rules,
  search rules,
  grips_allowed (g.H.MailboxState.is_of (first_home c.args.self.now)) g.H.MailboxState.facts _ _ _ _ c.args.id.0 _
      (let k = c.args.self.now.keyed in let t = c.requires.present
      in omega arith) _ _
      c.word_index-gate.ensures (is_even _ c.requires.in_slot) c.locked.ensures c.requires.no_list c.requires.may_lock,
)

pub returns-clause-answer : goal.returns-clause-answer
returns-clause-answer g c =
    let told = c.compare_exchange-found.ensures.2 _ c.word_index-gate.ensures in
    won_or_lost _ _ _ _ (λ e. subst (λ w. ListLocked c.args.id.0 w c.args.seat.now.me c.compare_exchange-found.new.seat.me) e (told.0 e)) told.1
