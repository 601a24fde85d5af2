use Rattle.std.proofs.Common.{rules, ◌+◌, ◌-◌, ◌%◌, ◌^◌, arith}
use Rattle.mb_gate.specs.Accessors.{first_home}
use Rattle.mb_gate.proofs.Allowed.{unsends_allowed}
use Rattle.mb_gate.proofs.gates.Gates.count_back.Goals as goal

pub fetch_sub-requires : goal.fetch_sub-requires
fetch_sub-requires g c = (
  search rules,
  search rules,
  unsends_allowed (g.H.MailboxState.is_of (first_home c.args.self.now)) g.H.MailboxState.facts _ _ _ _ c.args.id.0 _
      (let k = c.args.self.now.keyed in let t = c.requires.present
      in omega arith) (λ n. (n + (2 ^ 64 - 1))
      % 2 ^ 64) 1 (λ w. omega arith) c.requires.share c.word_index.ensures,
)
