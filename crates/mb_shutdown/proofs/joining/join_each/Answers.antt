use Rattle.std.proofs.Common.{rules, ◌≡◌, ◌++◌, [], ◌∷◌, length, sym, ap, ◌∙◌, Some}
use Rattle.std.specs.Prelude.{slice_get, slice_set}
use Rattle.mb_shutdown.specs.Joined.{joined, joins, queues_of, queues_pushed_into}
use Rattle.mb_shutdown.proofs.JoinLemmas.{joins-last, joins-none, queue-last, queues-set, passes-last}
use Rattle.mb_shutdown.proofs.joining.join_each.Goals as goal

pub join_at-requires-clause-queue : goal.join_at-requires-clause-queue
join_at-requires-clause-queue c = λ t was.
    let at = c.loop-pass in let rest = c.pop.new.self.items in
    let place : c.len.result ≡ length rest = search rules in
    queue-last at.takes rest c.in-Some.pass at.invariant.1.0 t
    (at.invariant.1.1 ∙ ap (λ l. queues_pushed_into l ++ at.invariant.1.0) c.in-Some.ensures.items)
    (ap (slice_get at.takes) (sym place) ∙ was)

pub loop-pass-preserved : goal.loop-pass-preserved
loop-pass-preserved c =
    let at = c.loop-pass in let rest = c.pop.new.self.items in let pass = c.in-Some.pass in let take = c.join_at.ensures.take in
    let place : c.len.result ≡ length rest = search rules in
    let was : slice_get at.takes (length rest) ≡ Some take = ap (slice_get at.takes) (sym place) ∙ c.join_at.ensures.was in
    let same : c.join_at.new.takes ≡ slice_set at.takes (length rest) (joined take pass)
    = c.join_at.ensures.same ∙ ap (λ n. slice_set at.takes n (joined take pass)) place in (
      ap (λ l. joins l rest) same ∙ sym (joins-last at.takes rest take pass was) ∙ ap (joins at.takes) (sym c.in-Some.ensures.items)
          ∙ at.invariant.0,
      (
        pass.queue ∷ at.invariant.1.0,
        ap queues_of same ∙ queues-set at.takes (length rest) take pass was ∙ at.invariant.1.1
            ∙ ap (λ l. queues_pushed_into l ++ at.invariant.1.0) c.in-Some.ensures.items ∙ passes-last rest pass at.invariant.1.0,
      ),
    )

pub returns : goal.returns
returns c =
    let at = c.loop-pass in
    let none : at.passes.items ≡ [] = search rules in
    sym (joins-none at.takes) ∙ ap (joins at.takes) (sym none) ∙ at.invariant.0
