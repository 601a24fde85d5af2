use Rattle.std.proofs.Common.{rules, ◌≡◌, ◌<◌, ◌++◌, ◌∷◌, [], suc, length, map, get_or, sym, ap, ◌∙◌, arith}
use Rattle.std.specs.Prelude.{slice_set}
use Rattle.std.proofs.lemmas.List.{length-append, length-set}
use Rattle.std.proofs.lemmas.Result.{IfOk-from_err}
use Rattle.mb_build.specs.Handed.{handed}
use Rattle.mb_build.proofs.HandedLemmas.{handed-last, handed-none}
use Rattle.mb_build.proofs.queues.hand_out.Goals as goal

pub loop-send-preserved : goal.loop-send-preserved
loop-send-preserved c =
    let at = c.loop-send in let rest = c.pop.new.self.items in let send = c.in-Some.send in let row = c.push.new.self in
    let place : c.len.result ≡ length rest = search rules in
    let longer : length at.sends.items ≡ suc (length rest) = ap length c.in-Some.ensures.items ∙ length-append rest (send ∷ []) ∙ (omega arith) in
    let few = at.invariant.2 in
    let lt : length rest < length at.rows = omega (arith, few, longer) in
    let is : row.items ≡ (get_or at.rows (length rest) c.index-rows-len.result).items ++ send ∷ []
    = c.in_ok-push.ensures.items ∙ ap (λ n. (get_or at.rows n c.index-rows-len.result).items ++ send ∷ []) place in (
      ap (λ n. handed (map (λ r. r.items) (slice_set at.rows n row)) rest) place
          ∙ handed-last (λ r. r.items) at.rows rest send row c.index-rows-len.result lt is
          ∙ ap (handed (map (λ r. r.items) at.rows)) (sym c.in-Some.ensures.items) ∙ at.invariant.0,
      length-set at.rows c.len.result row ∙ at.invariant.1,
      (let same = length-set at.rows c.len.result row in omega (arith, same, lt)),
    )

pub returns-clause-handed : goal.returns-clause-handed
returns-clause-handed c =
    let at = c.loop-send in
    let none : at.sends.items ≡ [] = search rules in
    sym (handed-none (map (λ r. r.items) at.rows)) ∙ ap (handed (map (λ r. r.items) at.rows)) (sym none) ∙ at.invariant.0

pub returns-in_err-push-clause-handed : goal.returns-in_err-push-clause-handed
returns-in_err-push-clause-handed c = IfOk-from_err c.from_residual.result _ c.from_residual.ensures.0
