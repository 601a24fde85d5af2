use Rattle.std.proofs.Common.{◌≡◌, ◌+◌, length, None, refl, sym, ap, ◌∙◌, subst}
use Rattle.mb_msg.specs.declared.id.SenderId.{SenderId}
use Rattle.mb_journal.specs.Accepted.{accepted, dead_letters}
use Rattle.mb_send.specs.Posted.{names_from, names_of, posting}
use Rattle.mb_send.proofs.Posting.{numbered-more, dead-queued, length-more}
use Rattle.mb_send.proofs.send_log.SendLog.record_queued.Goals as goal

pub invariant_of-self : goal.invariant_of-self
invariant_of-self c =
    let ps = c.args.self.now.posted in
    let p = posting c.args.envelope None in
    let by = c.args.self.now.by.0 in
    record {
      counted = ap (λ n. n + 1) c.args.self.now.counted ∙ sym (length-more ps p) ∙ sym (ap length c.add.ensures);
      numbered = subst (λ qs. names_of (accepted qs) ≡ names_from by 0 (accepted qs)) (sym c.add.ensures)
          (numbered-more by ps p c.args.self.now.numbered (ap (λ (s : SenderId). s.0) c.requires.next.0) (c.requires.next.1
          ∙ c.args.self.now.counted));
      dead_are = c.args.self.now.dead_are ∙ sym (dead-queued ps c.args.envelope) ∙ sym (ap dead_letters c.add.ensures);
    }

pub returns-clause-keeps : goal.returns-clause-keeps
returns-clause-keeps c = refl
