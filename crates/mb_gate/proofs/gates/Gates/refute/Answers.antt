use Rattle.std.proofs.Common.{rules, refl, ap, sym, ◌∙◌, arith}
use Rattle.mb_gate.specs.View.{rewritten}
use Rattle.mb_gate.specs.Claims.{held_in}
use Rattle.mb_gate.specs.Accessors.{first_home, claim_view}
use Rattle.mb_gate.proofs.TwoClaims.{moves_allowed, joins_claims_allowed, never_allowed}
use Rattle.mb_gate.proofs.gates.Gates.refute.Goals as goal

pub split_seat-whole-requires : goal.split_seat-whole-requires
split_seat-whole-requires g c = (
  search rules,
  search rules,
  moves_allowed (g.H.MailboxState.is_of (first_home c.args.self.now)) g.H.MailboxState.facts _ _ _ c.args.other.no_list,
)

pub join_seat-requires : goal.join_seat-requires
join_seat-requires g c = let one = c.args.one in let other = c.args.other in (
  search rules,
  search rules,
  ap (λ m. m.1) c.split_seat-whole.ensures.4,
  search rules,
  joins_claims_allowed (g.H.MailboxState.is_of (first_home c.args.self.now)) g.H.MailboxState.facts _ one.actor.0
      (let k = c.args.self.now.keyed in let t = c.requires.present in omega arith) _ _ _ _ (held_in (claim_view one)) (held_in (claim_view other))
      one.has one.of (ap (λ m. m.0.claim) c.split_seat-whole.ensures.4 ∙ other.has) (other.of ∙ sym c.requires.same_actor),
)

pub load-requires : goal.load-requires
load-requires g c = let one = c.args.one in (
  search rules,
  search rules,
  never_allowed (g.H.MailboxState.is_of (first_home c.args.self.now)) g.H.MailboxState.facts _ one.actor.0
      (let k = c.args.self.now.keyed in let t = c.requires.present in omega arith) _ _ _ _ (record (held_in (claim_view one)) { word = 3 })
      (ap (λ m. m.0.claim) c.join_seat.ensures.2 ∙ ap (rewritten 3) one.has) one.of refl,
)
