use Rattle.std.proofs.Common.{rules, ◌≡◌, ◌+◌, ◌%◌, IsTrue, true, false, inl, inr, ap, sym, ◌∙◌, subst, arith}
use Rattle.mb_status.specs.Mailbox.{word_of, is_valid, idle}
use Rattle.mb_gate.specs.Accessors.{first_home}
use Rattle.mb_gate.proofs.Allowed.{idles_allowed, idles_closed_allowed}
use Rattle.mb_gate.proofs.HolderChanges.{idle_two}
use Rattle.mb_gate.proofs.Wins.{valid_word, closed_word, one_closed, idle_free}
use Rattle.mb_gate.proofs.gates.Gates.idle.Goals as goal

pub store-requires : goal.store-requires
store-requires g c =
    let r = c.requires.ready in let may = r.may_go_home in
    let closed : c.args.status.closed ≡ true = sym c.closed.ensures ∙ c.if-closed.true in (
      search rules,
      search rules,
      idles_closed_allowed (g.H.MailboxState.is_of (first_home c.args.self.now)) g.H.MailboxState.facts _ _ _ _ c.args.actor.0 _ (let k =
          c.args.self.now.keyed in let t = c.requires.present in omega arith) _ r.home c.word_index-flag.ensures r.has r.of r.carried may.home_of_actor may.extends
          may.count may.known_closed may.drained
          (r.word ∙ closed_word c.args.status closed) (sym (may.fold ∙ closed_word (idle c.args.status) closed)) (may.rest (inl closed)) r.share,
    )

pub store-requires-2 : goal.store-requires-2
store-requires-2 g c =
    let r = c.requires.ready in let may = r.may_go_home in
    let unshut : c.args.status.closed ≡ false = sym c.closed.ensures ∙ c.if-closed.false in
    let is = sym (c.word.ensures.word ∙ ap word_of c.idle.ensures) in (
      search rules,
      search rules,
      idles_allowed (g.H.MailboxState.is_of (first_home c.args.self.now)) g.H.MailboxState.facts _ _ _ _ c.args.actor.0 _ (let k =
          c.args.self.now.keyed in let t = c.requires.present in omega arith) _ r.home _ c.word_index-index.ensures r.has r.of r.carried may.home_of_actor
          may.extends may.count may.known_closed may.drained
          (λ two. r.word ∙ (idle_two c.args.status unshut (ap (λ k. k % 4) (sym r.word) ∙ two) ∙ ap (λ k. k + 2) is))
          (λ one. let no = one_closed c.args.status (sym r.word ∙ one) in absurd (cc)) (subst (λ n. IsTrue (is_valid n)) (sym
          c.word.ensures.word) (valid_word c.idle.result c.word.ensures.possible))
          (subst (λ n. n % 4 ≡ 0) is (idle_free c.args.status unshut)) (sym is ∙ sym may.fold) (λ no. may.rest (inr no)) r.share,
    )

pub returns-then-closed-clause-idle : goal.returns-then-closed-clause-idle
returns-then-closed-clause-idle g c home carried = let told = c.store.ensures.2 c.args.actor.0 home carried in (told.0, told.2)

pub returns-clause-idle : goal.returns-clause-idle
returns-clause-idle g c home carried = let told = c.store-2.ensures.2 c.args.actor.0 home carried in (told.0, told.2)
