-- What a run leaves of its caller once nobody is to be registered any more.
use Rattle.std.proofs.Common.{◌≡◌, ◌⊎◌, inl, inr, ℕ, ◌<◌, false, ap, ◌∙◌, subst}
use Rattle.mb_gate.specs.Rule.{IsPart}
use Rattle.mb_gate.specs.View.{View, obligation_to}
use Rattle.mb_register.specs.Caller.{Caller, IsDischargedOrOwed, IsTold, LeavesCaller, OwesForRefusals}
use Rattle.mb_register.specs.ActorSet.{has_actor}
use Rattle.mb_register.proofs.Retries.{never-both}
use Rattle.mb_mailbox.specs.RunRegistrar.{LeavesTelling}

module _ {H : Type 0} where
  pub leaves-settled : (a b new : Caller H) → a.view ≡ b.view → a.account ≡ b.account → ((id : ℕ) → id < 64 → has_actor new.told id ≡ false) → LeavesTelling a new →
      LeavesCaller b new
  leaves-settled a b new view account none l = record {
    log = subst (λ (v : View). IsPart v.log new.view.log) view l.log;
    account = subst (λ o. OwesForRefusals o new.account) account l.account;
    obligations = λ id. by_case id (l.obligations id);
    share = l.share ∙ ap (λ (v : View). v.share) view;
  }
    where
      by_case : (id : ℕ) → IsDischargedOrOwed id new ⊎ (obligation_to id new.view ≡ obligation_to id a.view) ⊎ IsTold id new →
          IsDischargedOrOwed id new ⊎ (obligation_to id new.view ≡ obligation_to id b.view)
      by_case id (inl discharged) = inl discharged
      by_case id (inr (inl same)) = inr (same ∙ ap (obligation_to id) view)
      by_case id (inr (inr still)) = never-both (has_actor new.told id) still.1 (none id still.0)
