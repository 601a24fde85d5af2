use Rattle.std.proofs.Common.{◌+◌, ◌<◌, ◌^◌, ℤ, sym, ◌∙◌, subst, w64, SFits, arith}
use Rattle.std.specs.Int.{FitsUnsignedBits}
use Rattle.std.proofs.Math.Facts.{to_z-of_z}
use Rattle.mb_journal.specs.Retries.{permits, through_refusal}
use Rattle.mb_supervision.specs.RetryCounts.{retry_count_of}
use Rattle.mb_supervision.proofs.RetryLemmas.{all-unlimited, counted-unlimited}
use Rattle.mb_supervision.proofs.retries.ask.Goals as goal

-- a limit that is not negative would have been converted
pub returns-in_default-clause-all : goal.returns-in_default-clause-all
returns-in_default-clause-all c =
    all-unlimited c.args.limit (λ y. retry_count_of c.args.counts.now.items y + 1) c.args.children.now
    (λ n is.
    let small : n < 2 ^ 63 = (subst (λ (z : ℤ). SFits w64 z) is c.ranges.limit).sfits in
    let fits : n < 2 ^ 64 = omega arith in
    c.in_default.ensures (subst (λ (z : ℤ). FitsUnsignedBits 64 z) (sym (to_z-of_z c.ranges.limit ∙ is)) fits))

pub returns-in_default-clause-counted : goal.returns-in_default-clause-counted
returns-in_default-clause-counted c =
    counted-unlimited c.args.limit
    (through_refusal (λ y. permits c.args.limit (retry_count_of c.args.counts.now.items y + 1)) c.args.children.now)
    (λ x. retry_count_of c.args.counts.now.items x)
    (λ n is.
    let small : n < 2 ^ 63 = (subst (λ (z : ℤ). SFits w64 z) is c.ranges.limit).sfits in
    let fits : n < 2 ^ 64 = omega arith in
    c.in_default.ensures (subst (λ (z : ℤ). FitsUnsignedBits 64 z) (sym (to_z-of_z c.ranges.limit ∙ is)) fits))
