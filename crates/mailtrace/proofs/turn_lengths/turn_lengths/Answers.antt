use Rattle.std.proofs.Common.{List, ◌++◌, ◌∷◌, [], ap, map, sym, ◌∙◌}
use Rattle.std.proofs.lemmas.List.{map_more, take_all}
use Rattle.std.proofs.lemmas.Result.{IfOk-from_err}
use Rattle.mb_mailbox.specs.declared.turn.Turn.{Turn}
use Rattle.mb_trace.specs.declared.trace.TurnLength.{TurnLength}
use Rattle.mailtrace.specs.TurnLengths.{length_of}
use Rattle.mailtrace.proofs.turn_lengths.turn_lengths.Goals as goal

pub loop-turn-init : goal.loop-turn-init
loop-turn-init c = c.new-lengths.ensures.items

pub loop-turn-preserved : goal.loop-turn-preserved
loop-turn-preserved c =
    let at = c.loop-turn in let turns = c.args.turns.now in
    let none : Turn = record { actor = record { 0 = 0 }; system = 0; envelopes = 0 } in
    ◌∙◌ {A = List TurnLength} c.in_ok-push.ensures.items (◌∙◌ {A = List TurnLength} (λ i. at.invariant i ++ c.length_of.ensures i ∷ [])
    (sym (map_more length_of turns at.turn-index none c.loop-turn-test.true)))

pub returns-in_err-push : goal.returns-in_err-push
returns-in_err-push c = IfOk-from_err c.from_residual.result _ c.from_residual.ensures.0

pub returns : goal.returns
returns c = c.loop-turn.invariant ∙ ap (map length_of) (take_all c.loop-turn.turn-index c.args.turns.now c.loop-turn-test.false)
