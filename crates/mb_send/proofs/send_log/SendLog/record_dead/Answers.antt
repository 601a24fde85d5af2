use Rattle.std.proofs.Common.{◌≡◌, ◌+◌, ◌++◌, [], ◌∷◌, length, Some, sym, ap, ◌∙◌, subst}
use Rattle.mb_msg.specs.declared.id.SenderId.{SenderId}
use Rattle.mb_msg.specs.declared.dead_letter.DeadLetter.{DeadLetter}
use Rattle.mb_journal.specs.Accepted.{accepted, dead_letters}
use Rattle.mb_send.specs.Posted.{names_from, names_of, posting}
use Rattle.mb_send.proofs.Posting.{numbered-more, dead-more, length-more}
use Rattle.mb_send.proofs.send_log.SendLog.record_dead.Goals as goal

pub invariant_of-self : goal.invariant_of-self
invariant_of-self c =
    let ps = c.args.self.now.posted in
    let p = posting c.args.envelope (Some c.args.why) in
    let by = c.args.self.now.by.0 in
    let letter : DeadLetter = record { envelope = c.args.envelope; why = c.args.why } in
    record {
      counted = ap (λ n. n + 1) c.args.self.now.counted ∙ sym (length-more ps p) ∙ sym (ap length c.add.ensures);
      numbered = subst (λ qs. names_of (accepted qs) ≡ names_from by 0 (accepted qs)) (sym c.add.ensures)
          (numbered-more by ps p c.args.self.now.numbered (ap (λ (s : SenderId). s.0) c.requires.next.0) (c.requires.next.1
          ∙ c.args.self.now.counted));
      dead_are = c.push.ensures.items ∙ ap (λ l. l ++ letter ∷ []) c.args.self.now.dead_are
          ∙ sym (dead-more ps c.args.envelope c.args.why) ∙ sym (ap dead_letters c.add.ensures);
    }

pub returns-clause-keeps : goal.returns-clause-keeps
returns-clause-keeps c = c.push.ensures.same
