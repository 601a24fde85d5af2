use Rattle.std.proofs.Common.{◌+◌, ◌*◌, ◌≤◌, ◌∷◌, [], ap, sym, ◌∙◌, refl, subst, false, slice_index_or, slice_get, length, length-append, arith}
use Rattle.std.specs.Mem.Slots.{slots_items, slots_filled, slots_len, slots_counts, IsFull}
use Rattle.mb_ghost.specs.Layout.{slot_at}
use Rattle.mb_gate.specs.Returned.{AreReturned, IsTakenOut}
use Rattle.mb_gate.specs.Accessors.{first_home, pass_view}
use Rattle.mb_gate.proofs.Returning.{no_item, each_more, emptied, still_filled, are_left}
use Rattle.mb_gate.proofs.gates.Gates.finish.Goals as goal

pub loop-actor-init : goal.loop-actor-init
loop-actor-init g c = (
  refl,
  refl,
  refl,
  (λ k _ l. c.close_with-closed.ensures.values.1 k (omega arith) l),
  (λ k l. absurd (omega arith)),
  ap length c.requires.empty,
  refl,
  (λ a left e. absurd (no_item c.args.room.items c.requires.empty a left e)),
)

pub take_out-left-requires-clause-words : goal.take_out-left-requires-clause-words
take_out-left-requires-clause-words g c =
    let same = ap slots_len c.loop-actor.invariant.0 in
    let count = c.close_with-closed.ensures.counts.0 in
    let word_count = c.args.self.word_count in
    let here = c.loop-actor-test.true in (
      (omega arith),
      subst IsFull (sym c.loop-actor.invariant.0) c.close_with-closed.ensures.values.0,
    )

pub take_out-left-requires-clause-slots : goal.take_out-left-requires-clause-slots
take_out-left-requires-clause-slots g c =
    let same = c.loop-actor.invariant.2 in
    let count = c.close_with-closed.ensures.counts.1 in
    let slot_count = c.args.self.slot_count in
    let here = c.loop-actor-test.true in (omega arith)

pub take_out-left-requires-clause-cell : goal.take_out-left-requires-clause-cell
take_out-left-requires-clause-cell g c =
    let same = c.loop-actor.invariant.2 in
    let count = c.close_with-closed.ensures.counts.1 in
    let slot_count = c.args.self.slot_count in
    let here = c.loop-actor-test.true in c.loop-actor.invariant.3 (slot_at c.loop-actor.actor 0) (omega arith) (omega arith)

pub take_out-left-requires-clause-list : goal.take_out-left-requires-clause-list
take_out-left-requires-clause-list g c =
    let same = c.loop-actor.invariant.2 in
    let count = c.close_with-closed.ensures.counts.1 in
    let slot_count = c.args.self.slot_count in
    let here = c.loop-actor-test.true in c.loop-actor.invariant.3 (slot_at c.loop-actor.actor 1) (omega arith) (omega arith)

pub push_reserved-requires : goal.push_reserved-requires
push_reserved-requires g c =
    let many = c.loop-actor.invariant.5 in
    let room = c.loop-actor.invariant.6 in
    let enough = c.requires.room in
    let here = c.loop-actor-test.true in (omega arith)

pub loop-actor-preserved : goal.loop-actor-preserved
loop-actor-preserved g c =
    let inv = c.loop-actor.invariant in
    let out = c.take_out-left.ensures in
    let same = inv.2 in
    let count = c.close_with-closed.ensures.counts.1 in
    let slot_count = c.args.self.slot_count in
    let here = c.loop-actor-test.true in
    let filled = slots_filled c.loop-actor.closed.slots in
    let fits : 2 * c.loop-actor.actor + 2 ≤ length filled = (let n = (slots_counts c.loop-actor.closed.slots).1 in omega arith) in
    let words = slots_items c.close_with-closed.result.words in
    let slots = slots_items c.close_with-closed.result.slots in
    let left : IsTakenOut words slots c.loop-actor.actor c.take_out-left.result = subst (λ w. IsTakenOut w slots c.loop-actor.actor
    c.take_out-left.result) (ap slots_items inv.0) (subst (λ z. IsTakenOut (slots_items c.loop-actor.closed.words) z c.loop-actor.actor
    c.take_out-left.result) inv.1 out.left) in (
      out.words ∙ inv.0,
      out.items ∙ inv.1,
      out.count ∙ inv.2,
      (λ k l b. ap (λ z. slice_index_or z k false) out.filled ∙ still_filled filled c.loop-actor.actor fits k l (inv.3 k (omega arith) (let n =
          out.count in omega arith))),
      (λ k l. ap (λ z. slice_index_or z k false) out.filled ∙ emptied filled c.loop-actor.actor fits inv.4 k l),
      ap length c.push_reserved.ensures.items ∙ (length-append c.loop-actor.all.items (c.take_out-left.result ∷ []) ∙ ap (λ n. n + 1) inv.5),
      c.push_reserved.ensures.capacity ∙ inv.6,
      (λ a y e. each_more (λ b z. IsTakenOut words slots b z) c.loop-actor.all.items c.take_out-left.result inv.7 (subst (λ n. IsTakenOut words
          slots n c.take_out-left.result) (sym inv.5) left) a y (sym (ap (λ z. slice_get z a) c.push_reserved.ensures.items) ∙ e)),
    )

pub free-requires : goal.free-requires
free-requires g c = λ k l. c.loop-actor.invariant.4 k (
    let same = c.loop-actor.invariant.2 in
    let count = c.close_with-closed.ensures.counts.1 in
    let slot_count = c.args.self.slot_count in
    let here = c.loop-actor-test.false in
    omega arith)

pub returns : goal.returns
returns g c =
    let keyed = c.args.self.keyed in
    let many = c.loop-actor.invariant.5 in
    let ends = c.loop-actor-test.false in
    let at_end = c.loop-actor.auto.actor-end in record {
      left = subst (λ n. AreReturned (g.H.MailboxState.is_of (first_home c.args.self)) g.H.MailboxState.facts n (pass_view c.args.pass)
          c.loop-actor.all.items) keyed
          (are_left (g.H.MailboxState.is_of (first_home c.args.self)) g.H.MailboxState.facts _ _ _ _ _ _
          c.args.pass.holds_nothing.2 c.close_with-closed.ensures.values.2 (omega arith) c.loop-actor.invariant.7);
    }
