use Rattle.std.proofs.Common.{ap, ◌∙◌, length, arith}
use Rattle.mb_journal.proofs.EntryCounts.{counts-pushed}
use Rattle.mb_journal.proofs.StoredLemmas.{is-below}
use Rattle.mb_journal.specs.JournalView.{JournalView, entry_with}
use Rattle.mb_journal.proofs.journal.Journal.push.Goals as goal

pub invariant_of-self : goal.invariant_of-self
invariant_of-self c =
    let below = is-below _ _ (ap (λ (j : JournalView). j.is_ready) c.self.view_is ∙ c.requires.ready) in
    let longer = ap length c.push.ensures.added in
    record {
      number = omega (arith, c.self.invariant.number, longer);
      counted =
          counts-pushed _ _ (entry_with c.args.arrival c.args.effects.now) _ _ c.self.invariant.counted c.push.ensures.added
          (c.add.ensures.envelopes c.args.effects.now) (c.add.ensures.restarts c.args.effects.now);
      within = omega (arith, below, c.self.invariant.prepared_within);
      prepared_within = c.self.invariant.prepared_within;
      room = c.push.ensures.room _ c.self.invariant.room;
    }
