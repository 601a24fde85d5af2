use Rattle.std.proofs.Common.{◌≡◌, ◌-◌, ◌++◌, List, false, length, drop, ap, sym, ◌∙◌, arith}
use Rattle.std.proofs.lemmas.List.{append-nil}
use Rattle.mb_actor.specs.declared.effect.Effect.{Effect}
use Rattle.mb_journal.specs.Acts.{Act, stop_acts}
use Rattle.mb_supervision.specs.ActorIdentity.{identity_at}
use Rattle.mb_cell.proofs.cell.handle.handle.Goals as goal

pub returns-then-is_unchanged_by-clause-handled : goal.returns-then-is_unchanged_by-clause-handled
returns-then-is_unchanged_by-clause-handled c =
    let effects : List Effect = c.args.outbox.now.effects in
    let all : length effects - length c.effects-effects.result.now ≡ 0 = omega (arith, ap length c.effects-effects.ensures.value) in
    let acts : stop_acts (drop (length effects - length c.effects-effects.result.now) effects) ++ c.args.cell_state.now.acts ≡ stop_acts effects =
    (λ i. stop_acts (drop (all i) effects) ++ c.requires.carried_out i) ∙ append-nil (stop_acts effects) in
    ap (λ (a : List Act). record c.args.cell_state.now { acts = a; is_ready = false }) acts
    ∙ c.is_unchanged_by.ensures c.if-is_unchanged_by.true (identity_at c.args.place.now) effects c.args.cell_state.now
    (sym c.has_only_tells.ensures ∙ c.if-has_only_tells.true)
