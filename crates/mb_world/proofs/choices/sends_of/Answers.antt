use Rattle.std.proofs.Common.{rules, ◌≡◌, ◌+◌, ◌<◌, ◌≤◌, length, refl, sym, ap, subst, ◌∙◌, arith}
use Rattle.std.proofs.lemmas.Option.{slice_get_read}
use Rattle.mb_world.proofs.ChoiceLemmas.{AreSendsBelow, sends-more, sends-same, sends-end}
use Rattle.mb_world.proofs.choices.sends_of.Goals as goal
use Rattle.mb_world.proofs.choices.sends_of.Goals.{then-not-is_done+in_ok-push, else-not-is_done}

pub loop-number-preserved : goal.loop-number-preserved
loop-number-preserved c =
    let all = c.args.senders.now in let n = c.loop-number.number in let s = c.index-senders-number.result in let is = c.loop-number.invariant in
    let within : n < length all = omega arith in
    let at = slice_get_read all (length all) n s refl within c.index-senders-number.is in elim c.if-not-is_done.branch [
      | then-not-is_done+in_ok-push w ↦ let left : s.place < length s.orders = search rules in
          subst (λ l. AreSendsBelow all (n + 1) l) (sym w.in_ok-push.ensures.items ∙ ap (λ v. v.items) (sym w.choices-is))
          (sends-more all n s c.loop-number.choices.items is at left)
      | else-not-is_done w ↦ let over : length s.orders ≤ s.place = search rules in
          subst (λ l. AreSendsBelow all (n + 1) l) (ap (λ v. v.items) (sym w.choices-is)) (sends-same all n s c.loop-number.choices.items is at over)
    ]

pub returns : goal.returns
returns c =
    let end : c.loop-number.number ≡ length c.args.senders.now = omega arith in
    sends-end c.args.senders.now c.loop-number.choices.items
    (subst (λ n. AreSendsBelow c.args.senders.now n c.loop-number.choices.items) end c.loop-number.invariant)
