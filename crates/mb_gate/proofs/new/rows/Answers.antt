use Rattle.std.proofs.Common.{◌∷◌, ◌++◌, [], take, ap, sym, ◌∙◌, arith}
use Rattle.std.proofs.lemmas.List.{take_more}
use Rattle.mb_status.specs.Mailbox.{word_of}
use Rattle.mb_gate.specs.Starts.{row_of, rows_of}
use Rattle.mb_gate.proofs.Rows.{rows_of-snoc}
use Rattle.mb_gate.proofs.new.rows.Goals as goal

pub loop-home-preserved : goal.loop-home-preserved
loop-home-preserved g c =
    let more = take_more c.args.homes.now c.loop-home.home-index c.home-item.result (omega arith) ∙ ap (λ h. take c.loop-home.home-index
    c.args.homes.now ++ h ∷ []) (sym c.home-item.is) in
    c.in_ok-push_row.ensures ∙ (ap (λ z. z ++ row_of c.word.result) c.loop-home.invariant
    ∙ (ap (λ w. rows_of g.H.MailboxState.facts (take c.loop-home.home-index c.args.homes.now) ++ row_of w) (c.word.ensures.word ∙ ap word_of
    c.status.ensures)
    ∙ (sym (rows_of-snoc g.H.MailboxState.facts (take c.loop-home.home-index c.args.homes.now) c.home-item.result) ∙ ap (rows_of
    g.H.MailboxState.facts) (sym more))))
