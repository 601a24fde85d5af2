-- The counts of a journal's entries: what an entry more adds to them.
use Rattle.std.proofs.Common.{◌≡◌, ◌+◌, ◌≤◌, cond, if◌then◌else◌, List, ◌∷◌, length, arith}
use Rattle.std.proofs.lemmas.List.Sums.{count_by-le-length, sum_by-cons}
use Rattle.mb_journal.specs.Entry.{Entry}
use Rattle.mb_journal.specs.Counts.{AreCountsOf, tells_of_envelope, tells_of_restart}
use Rattle.mb_journal.specs.declared.counts.Counts.{Counts}

-- an entry more
pub counts-pushed : (entries new_entries : List Entry) (e : Entry) (counts new_counts : Counts) → AreCountsOf entries counts →
    new_entries ≡ e ∷ entries →
    new_counts.envelopes ≡ counts.envelopes + (if tells_of_envelope e then 1 else 0) →
    new_counts.restarts ≡ counts.restarts + (if tells_of_restart e then 1 else 0) →
    AreCountsOf new_entries new_counts
counts-pushed entries new_entries e counts new_counts are by_entries envelopes restarts =
    let of_envelopes = sum_by-cons (λ x. cond (tells_of_envelope x) 1 0) e entries in
    let of_restarts = sum_by-cons (λ x. cond (tells_of_restart x) 1 0) e entries in
    rw by_entries (record {
      envelopes = omega (arith, are.envelopes, of_envelopes, envelopes);
      restarts = omega (arith, are.restarts, of_restarts, restarts);
    })

-- there are no more of them than entries
pub counts-within : (entries : List Entry) (counts : Counts) → AreCountsOf entries counts →
    (counts.envelopes ≤ length entries) × (counts.restarts ≤ length entries)
counts-within entries counts are =
    let envelopes = count_by-le-length tells_of_envelope entries in
    let restarts = count_by-le-length tells_of_restart entries in
    (omega (arith, are.envelopes, envelopes), omega (arith, are.restarts, restarts))
