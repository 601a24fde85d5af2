use Rattle.std.proofs.Common.{subst, sym}
use Rattle.std.proofs.lemmas.Bool.{both_ways}
use Rattle.mb_trace.specs.Coverage.{CoverJournals}
use Rattle.mb_trace.specs.Whole.{journals_text, not_covered, turns_text}
use Rattle.mb_trace.specs.Whole.HasTurns.{by_actor, by_turn}
use Rattle.mb_trace.proofs.quiet.write_quiet.Goals as goal

pub returns-then-cover_journals : goal.returns-then-cover_journals
returns-then-cover_journals g c =
    let trace = c.args.trace.now in
    let turns = c.args.turns.now in (
      turns_text trace c.args.filter.now turns,
      by_turn (subst (CoverJournals turns) c.deref.ensures.value (c.cover_journals.ensures.0 c.if-cover_journals.true)),
      c.write_turns.ensures,
    )

pub returns : goal.returns
returns g c =
    let trace = c.args.trace.now in
    let turns = c.args.turns.now in (
      journals_text trace c.args.filter.now not_covered,
      by_actor (λ cover. both_ways _ c.if-cover_journals.false (c.cover_journals.ensures.1 (subst (CoverJournals turns) (sym c.deref.ensures.value) cover))),
      c.write_by_actor.ensures,
    )
