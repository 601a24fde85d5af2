use Rattle.std.proofs.Common.{◌+◌, pos, ap, sym, ◌∙◌}
use Rattle.mb_journal.specs.Retries.{permits}
use Rattle.mb_supervision.specs.RetryCounts.{retry_count_of}
use Rattle.mb_supervision.proofs.RetryLemmas.{asked-refused, asked-next}
use Rattle.mb_supervision.proofs.retries.count_asked.Goals as goal

pub returns-then-not-is_permitted-clause-list : goal.returns-then-not-is_permitted-clause-list
returns-then-not-is_permitted-clause-list c =
    asked-refused (λ y. permits (pos c.args.limit) (retry_count_of c.args.counts.now y + 1)) c.args.children.now c.loop-child.child-index
    (record { 0 = 0 }) c.loop-child-test.true c.loop-child.count c.loop-child.invariant.counted
    (sym c.is_permitted.ensures ∙ c.if-not-is_permitted.true) c.loop-child.invariant.list

pub loop-child-preserved : goal.loop-child-preserved
loop-child-preserved c = record {
  counted = ap (λ n. n + 1) c.loop-child.invariant.counted;
  list =
      asked-next (λ y. permits (pos c.args.limit) (retry_count_of c.args.counts.now y + 1)) c.args.children.now c.loop-child.child-index
      (record { 0 = 0 }) c.loop-child-test.true (sym c.is_permitted.ensures ∙ c.if-not-is_permitted.false) c.loop-child.invariant.list;
}
