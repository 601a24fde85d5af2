use Rattle.std.proofs.Common.{◌≡◌, true, ap, sym, subst, ◌∙◌}
use Rattle.mb_status.specs.Mailbox.{mailbox_of, is_valid}
use Rattle.mb_gate.proofs.HeldStatus.{mailbox_again}
use Rattle.mb_gate.proofs.Wins.{valid_word}
use Rattle.mb_gate.proofs.gates.Gates.held_status.Goals as goal

pub from_word-requires : goal.from_word-requires
from_word-requires g c =
    let is = c.read_held-word.ensures.word ∙ c.args.claim.now.word in
    record { valid = subst (λ w. is_valid w ≡ true) (sym is) (valid_word c.args.claim.now.status c.word.ensures.possible) }

pub returns-clause-status : goal.returns-clause-status
returns-clause-status g c =
    let is = c.read_held-word.ensures.word ∙ c.args.claim.now.word in
    c.from_word.ensures.value ∙ ap mailbox_of is ∙ mailbox_again c.args.claim.now.status c.word.ensures.possible
