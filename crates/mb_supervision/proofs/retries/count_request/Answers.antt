use Rattle.std.proofs.Common.{rules, ◌+◌, ◌++◌, ◌∷◌, [], ap, ◌∙◌}
use Rattle.std.specs.Prelude.{ℕ, not, List}
use Rattle.std.proofs.lemmas.Fn.{filter_same}
use Rattle.mb_msg.specs.declared.id.ActorId.{ActorId}
use Rattle.mb_actor.specs.ActorList.{is_same}
use Rattle.mb_supervision.specs.RetryCounts.{retry_count_of}
use Rattle.mb_supervision.proofs.RetryLemmas.{one-request}
use Rattle.mb_supervision.proofs.retries.count_request.Goals as goal

pub returns-clause-counted : goal.returns-clause-counted
returns-clause-counted c =
    λ y. ap (λ l. retry_count_of l y)
    (c.push_reserved.ensures.items
    ∙ ap (λ (l : List (ActorId × ℕ)). l ++ (c.args.child, c.count_of-requests.result + 1) ∷ [])
    (filter_same _ (λ (r : ActorId × ℕ). not (is_same c.args.child r.0)) _ (λ x b f r. search rules) _ _ c.retain.ensures.filtered))
    ∙ one-request c.args.child _ y c.args.counts.now.items (ap (λ n. n + 1) (c.count_of-requests.ensures ∙ ap (λ l. retry_count_of l c.args.child) c.deref.ensures.value))
