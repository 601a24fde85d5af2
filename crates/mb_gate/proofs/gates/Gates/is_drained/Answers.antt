use Rattle.std.proofs.Common.{rules, ◌%◌, Bool, true, false, if◌then◌else◌, [], ap, sym, ◌∙◌, arith}
use Rattle.atomic_table.specs.Table.{Me}
use Rattle.mb_gate.specs.View.{View, draining, looking}
use Rattle.mb_gate.specs.ListWord.{is_drained}
use Rattle.mb_gate.specs.Claims.{held_in}
use Rattle.mb_gate.specs.Accessors.{first_home}
use Rattle.mb_gate.proofs.Allowed.{glances_allowed}
use Rattle.mb_gate.proofs.ListCalls.{choose}
use Rattle.mb_gate.proofs.gates.Gates.is_drained.Goals as goal

pub load-bits-requires : goal.load-bits-requires
load-bits-requires g c = (
  search rules,
  search rules,
  glances_allowed (g.H.MailboxState.is_of (first_home c.args.self.now)) g.H.MailboxState.facts _ _ _ _ c.args.id.0 _
      (let k = c.args.self.now.keyed in let t = c.requires.present
      in omega arith)
      c.word_index-gate.ensures,
)

pub returns-clause-known : goal.returns-clause-known
returns-clause-known g c =
    let told = c.load-bits.ensures.2 c.args.id.0 (held_in c.args.seat.now.me.0) c.word_index-gate.ensures c.requires.holder.has
    c.requires.holder.of c.requires.no_list in
    let bits = c.load-bits.result in let me = c.args.seat.now.me in
    let answer : Bool → Me _ View = λ (b : Bool). if b then (draining c.args.id.0 [] false me.0, me.1) else (looking c.args.id.0 true me.0, me.1) in
    choose (bits % 8) 0 c.load-bits.new.seat.me (answer true) (answer false) told.0 told.1 ∙ ap answer (sym (c.is_drained.ensures
    ∙ ap is_drained c.of.ensures))
