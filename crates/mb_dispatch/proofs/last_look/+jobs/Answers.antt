use Rattle.std.proofs.Common.{rules, ◌≡◌, ◌<◌, ℕ, true, suc, ◌∷◌, ◌++◌, length, subst, ap, refl, arith}
use Rattle.mb_gate.specs.Accessors.{actors_of}
use Rattle.mb_gate.specs.Together.{NoClaimIsOut}
use Rattle.mb_dispatch.specs.AtRest.{all_together, views_of_jobs, views_of_senders}
use Rattle.mb_dispatch.specs.Jobs.{AreJobsOf}
use Rattle.mb_dispatch.proofs.SameSender.{same-registrar, same-sender}
use Rattle.mb_dispatch.proofs.last_look.+jobs.Goals as goal

pub look_with_jobs-at_first-looked-requires-clause-may : goal.look_with_jobs-at_first-looked-requires-clause-may
look_with_jobs-at_first-looked-requires-clause-may g t c = λ first others are.
    (let all : AreJobsOf c.args.gates.now (first.now ∷ others.now) =
    subst (λ l. AreJobsOf c.args.gates.now l) are c.requires.jobs in
    let longer : length c.args.jobs.now ≡ suc (length others.now) = ap length are in
    (omega (arith, longer, c.decreases), ((λ a m. m), ((λ a m. m), (c.requires.same_gates, all 0 first.now (omega arith), (λ k d h. all (suc k) d (omega arith)), c.requires.senders)))))

pub look_with_job-returns-clause-same : goal.look_with_job-returns-clause-same
look_with_job-returns-clause-same g t c =
    let did = c.look_together.ensures in let sender = c.args.job.now.sender in (
      did.same.0,
      ap (λ s. record c.args.job.now { sender = s })
          (same-sender _ sender (same-registrar sender.registrar c.look_together.new.other did.same.1) refl refl refl),
      (search rules),
      (search rules),
    )

pub look_with_job-returns-clause-back : goal.look_with_job-returns-clause-back
look_with_job-returns-clause-back g t c =
    let did = c.look_together.ensures.looked in
    subst
    (λ v. c.look_together.result ≡ true → (id : ℕ) → id < actors_of c.args.gates.now
    → NoClaimIsOut id (all_together v (views_of_jobs c.args.others.now ++ views_of_senders c.args.senders.now)))
    did.known did.called.met.1.3
