use Rattle.std.proofs.Common.{◌≡◌, ◌&&◌, ◌∙◌, true, false, ap, arith}
use Rattle.std.specs.Prelude.{nat_le}
use Rattle.std.proofs.lemmas.Bool.Decides.{nat_tests}
use Rattle.mb_msg.specs.Limits.{most_entries}
use Rattle.mb_build.specs.Reasons.{unless}
use Rattle.mb_build.specs.declared.check.PlanError.TheVariants.{JournalLimit, Senders, Workers}
use Rattle.mb_build.proofs.ReasonLemmas.{is_first, is_none_here, second_fails}
use Rattle.mb_build.proofs.check.check_numbers.Goals as goal
use Rattle.mb_build.proofs.check.check_numbers.Goals.{then-plan-eq0-via-then-plan-eq0, then-plan-eq0-via-else-plan-eq0+then-plan-gt-WORKERS}

pub returns-then-plan-gt-OUTSIDE_SENDERS : goal.returns-then-plan-gt-OUTSIDE_SENDERS
returns-then-plan-gt-OUTSIDE_SENDERS c =
    let plan = c.args.plan.now in let many = c.if-plan-gt-OUTSIDE_SENDERS.true in
    let bad : nat_le plan.senders 16 ≡ false = grind (arith, nat_tests) in
    (_, is_first (nat_le plan.senders 16) Senders _ bad)

pub returns-then-plan-eq0 : goal.returns-then-plan-eq0
returns-then-plan-eq0 c =
    let plan = c.args.plan.now in let few = c.if-plan-gt-OUTSIDE_SENDERS.false in
    let good : nat_le plan.senders 16 ≡ true = grind (arith, nat_tests) in
    let bad : (nat_le 1 plan.workers && nat_le plan.workers 16) ≡ false = elim c.then-plan-eq0.branch [
      | then-plan-eq0-via-then-plan-eq0 w ↦
          (let none = w.if-plan-eq0.true in let fails : nat_le 1 plan.workers ≡ false = grind (arith, nat_tests) in
          ap (λ b. b && nat_le plan.workers 16) fails)
      | then-plan-eq0-via-else-plan-eq0+then-plan-gt-WORKERS w ↦
          (let many = w.if-plan-gt-WORKERS.true in let fails : nat_le plan.workers 16 ≡ false = grind (arith, nat_tests) in
          second_fails (nat_le 1 plan.workers) (nat_le plan.workers 16) fails)
    ] in (
      _,
      is_none_here (nat_le plan.senders 16) Senders _ good
          ∙ is_first (nat_le 1 plan.workers && nat_le plan.workers 16) Workers (unless (nat_le 1 plan.journal_limit && nat_le plan.journal_limit most_entries) JournalLimit) bad,
    )
