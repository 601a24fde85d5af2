use Rattle.std.proofs.Common.{rules, ◌≡◌, ◌%◌, ◌⊎◌, IsTrue, sym, ◌∙◌, subst, arith}
use Rattle.mb_status.specs.Mailbox.{word_of, mailbox_of, is_valid}
use Rattle.mb_gate.specs.TableSteps.{IsHolderChange}
use Rattle.mb_gate.proofs.HolderChanges.{change_read}
use Rattle.mb_gate.specs.Accessors.{first_home}
use Rattle.mb_gate.proofs.Allowed.{writes_allowed}
use Rattle.mb_gate.proofs.Wins.{valid_word, busy_word, one_closed}
use Rattle.mb_gate.proofs.gates.Gates.write.Goals as goal

pub store-requires : goal.store-requires
store-requires g c =
    let is = sym c.word.ensures.word in
    let claim = c.args.claim.now in (
      search rules,
      search rules,
      writes_allowed (g.H.MailboxState.is_of (first_home c.args.self.now)) g.H.MailboxState.facts _ _ _ _ claim.actor.0 _ (let k =
          c.args.self.now.keyed in let t = c.requires.present in omega arith) _ _ c.word_index-index.ensures claim.has claim.of
          (subst (λ n. IsTrue (is_valid n)) is (valid_word c.args.status c.word.ensures.possible))
          (subst (λ n. (n % 4 ≡ 2) ⊎ (n ≡ 1)) is (busy_word (word_of c.args.status) c.requires.busy))
          (λ one. sym is ∙ c.requires.closed (one_closed claim.status (sym claim.word ∙ one)))
          (subst (λ k. IsHolderChange (mailbox_of k) (mailbox_of c.word.result)) (sym claim.word)
          (subst (λ k. IsHolderChange (mailbox_of (word_of claim.status)) (mailbox_of k)) is (change_read claim.status c.args.status c.requires.changes))),
    )
