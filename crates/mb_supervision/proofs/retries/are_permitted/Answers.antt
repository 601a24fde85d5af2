use Rattle.std.proofs.Common.{◌+◌, pos, sym, ◌∙◌}
use Rattle.mb_journal.specs.Retries.{permits}
use Rattle.mb_supervision.specs.RetryCounts.{retry_count_of}
use Rattle.mb_supervision.proofs.RetryLemmas.{all-refused, all-next}
use Rattle.mb_supervision.proofs.retries.are_permitted.Goals as goal

pub returns-then-not-is_permitted : goal.returns-then-not-is_permitted
returns-then-not-is_permitted c =
    all-refused (λ y. permits (pos c.args.limit) (retry_count_of c.args.counts.now y + 1)) c.args.children.now c.loop-child.child-index
    (record { 0 = 0 }) c.loop-child-test.true (sym c.is_permitted.ensures ∙ c.if-not-is_permitted.true) c.loop-child.invariant

pub loop-child-preserved : goal.loop-child-preserved
loop-child-preserved c =
    all-next (λ y. permits (pos c.args.limit) (retry_count_of c.args.counts.now y + 1)) c.args.children.now c.loop-child.child-index
    (record { 0 = 0 }) c.loop-child-test.true (sym c.is_permitted.ensures ∙ c.if-not-is_permitted.false) c.loop-child.invariant
