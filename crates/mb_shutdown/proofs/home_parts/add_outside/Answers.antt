use Rattle.std.proofs.Common.{◌≡◌, ◌+◌, ◌<◌, ◌^◌, ◌++◌, ◌∷◌, [], length, map, ℕ, List, refl, sym, ap, ◌∙◌, subst, append-nil, append_assoc, length-append, arith}
use Rattle.std.specs.Prelude.{All}
use Rattle.std.proofs.lemmas.List.{nil_from_length}
use Rattle.std.proofs.lemmas.List.Elements.{All-push}
use Rattle.std.specs.Vec.Iter.{into_iter_items}
use Rattle.mb_msg.specs.JournalMode.{Retention}
use Rattle.mb_msg.specs.declared.dead_letter.DeadLetter.{DeadLetter}
use Rattle.mb_shutdown.specs.HomeParts.{sent_of}
use Rattle.mb_shutdown.specs.declared.finished_sender.FinishedSender.{FinishedSender}
use Rattle.mb_shutdown.proofs.Steps.{added}
use Rattle.mb_shutdown.proofs.home_parts.add_outside.Goals as goal

pub loop-outsider-preserved : goal.loop-outsider-preserved
loop-outsider-preserved c =
    let at = c.loop-outsider in let o = c.in-Some.outsider in let rest = into_iter_items c.next.new.self in
    let steps : into_iter_items at.outsider-iterator ≡ o ∷ rest = c.in-Some.ensures.steps.0 in
    let fewer : length (into_iter_items at.outsider-iterator) ≡ length rest + 1 = ap length steps ∙ (omega arith) in
    let rows = c.push_reserved in let senders = c.push_reserved-in-loop-outsider in
    let more_rows = ap length rows.ensures.items ∙ length-append at.rows.items (o.sends ∷ []) in
    let more_senders = ap length senders.ensures.items ∙ length-append at.senders.items _ in
    let same_rows = rows.ensures.capacity in let same_senders = senders.ensures.capacity in
    let a = at.invariant.4 in let b = at.invariant.5 in (
      added (λ r. r.items) (λ o. o.sends.items) at.rows.items rows.new.self.items o.sends at.yielded o _ rows.ensures.items at.invariant.0
          refl,
      added sent_of (λ o. (o.send_log.sent, o.send_log.dead.items, o.send_log.dead.retention)) at.senders.items senders.new.self.items _ at.yielded o _ senders.ensures.items
          at.invariant.1 c.sender_report.ensures.report,
      All-push (λ o. o.send_log.sent < 2 ^ 64) at.yielded o at.invariant.2 c.sender_report.ensures.below_bound,
      append_assoc at.yielded (o ∷ []) rest ∙ ap (λ l. at.yielded ++ l) (sym steps) ∙ at.invariant.3,
      (omega (arith, a, fewer, more_rows, same_rows)),
      (omega (arith, b, fewer, more_senders, same_senders)),
    )

pub returns-clause-rows : goal.returns-clause-rows
returns-clause-rows c =
    let at = c.loop-outsider in
    let none : into_iter_items at.outsider-iterator ≡ [] =
    nil_from_length (into_iter_items at.outsider-iterator) (sym at.outsider-iterator.rest.ok.0 ∙ c.in-None.ensures.steps.0) in
    let all : at.yielded ≡ c.args.outside.items = sym (append-nil at.yielded) ∙ ap (λ l. at.yielded ++ l) (sym none) ∙ at.invariant.3 in
    subst (λ (l : List FinishedSender). map (λ r. r.items) at.rows.items ≡ map (λ r. r.items) c.args.rows.now.items ++ map (λ o. o.sends.items) l) all
    at.invariant.0

pub returns-clause-senders : goal.returns-clause-senders
returns-clause-senders c =
    let at = c.loop-outsider in
    let none : into_iter_items at.outsider-iterator ≡ [] =
    nil_from_length (into_iter_items at.outsider-iterator) (sym at.outsider-iterator.rest.ok.0 ∙ c.in-None.ensures.steps.0) in
    let all : at.yielded ≡ c.args.outside.items = sym (append-nil at.yielded) ∙ ap (λ l. at.yielded ++ l) (sym none) ∙ at.invariant.3 in
    subst (λ (l : List FinishedSender). map sent_of at.senders.items
    ≡ map sent_of c.args.senders.now.items ++ map {A = FinishedSender} {B = ℕ × List DeadLetter × Retention} (λ o. (o.send_log.sent, o.send_log.dead.items, o.send_log.dead.retention)) l) all at.invariant.1

pub returns-clause-below_bound : goal.returns-clause-below_bound
returns-clause-below_bound c =
    let at = c.loop-outsider in
    let none : into_iter_items at.outsider-iterator ≡ [] =
    nil_from_length (into_iter_items at.outsider-iterator) (sym at.outsider-iterator.rest.ok.0 ∙ c.in-None.ensures.steps.0) in
    let all : at.yielded ≡ c.args.outside.items = sym (append-nil at.yielded) ∙ ap (λ l. at.yielded ++ l) (sym none) ∙ at.invariant.3 in
    subst (All (λ (o : FinishedSender). o.send_log.sent < 2 ^ 64)) all at.invariant.2
