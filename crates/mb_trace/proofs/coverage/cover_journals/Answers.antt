use Rattle.std.proofs.Common.{sym, true≢false}
use Rattle.std.proofs.lemmas.Bool.{both_ways}
use Rattle.mb_trace.proofs.Covered.{all-of}
use Rattle.mb_trace.proofs.coverage.cover_journals.Goals as goal

pub returns-then-not-are_known : goal.returns-then-not-are_known
returns-then-not-are_known c = (
  λ no. absurd (true≢false (sym no)),
  λ cover. absurd (both_ways _ c.if-not-are_known.true (c.are_known.ensures.1 cover.known)),
)

pub returns : goal.returns
returns c =
    let known = c.are_known.ensures.0 c.if-not-are_known.false in (
      λ yes. record { all = all-of c.args.turns.now c.args.actors.now known (c.have_journals.ensures.0 yes); known = known },
      λ cover. c.have_journals.ensures.1 (λ a within. cover.all a),
    )
