-- To which actors a sender owes a look.
use Rattle.std.proofs.Common.{◌≡◌, ◌==◌, ◌||◌, ◌+◌, ◌-◌, ◌<◌, arith, ℕ, Bool, true, false, List, inl, inr, refl, ap, ◌∙◌, subst}
use Rattle.mb_core.specs.declared.wake_obligation.WakeObligation.{WakeObligation}
use Rattle.mb_gate.specs.View.{View, Sent, obligation_to, seeing, sending}
use Rattle.mb_gate.specs.declared.claim.Claim.{Claim}
use Rattle.mb_register.specs.ActorSet.{has_actor}
use Rattle.mb_register.specs.Registering.{QueueAccount, IsRegistered}
use Rattle.mb_register.specs.declared.actor_set.ActorSet.{ActorSet}
use Rattle.mb_register.specs.declared.registrar.Registrar.{Registrar}
use Rattle.mb_register.proofs.Views.{owes-same}
use Rattle.mb_register.specs.Registers.{account_of}
use Rattle.mb_send.specs.Asked.{RegistersAtMost}

either-run_queue : (a b : Bool) → b ≡ true → (a || b) ≡ true
either-run_queue true b owed = refl
either-run_queue false b owed = owed

-- registering an actor forgets nobody
pub still-registered : {H : Type 0} (id : ℕ) (a b : QueueAccount H) (registered : Bool) → IsRegistered id a b registered
    → (other : ℕ) → has_actor a.owed other ≡ true → has_actor b.owed other ≡ true
still-registered id a b true went other owed = ap (λ o. has_actor o other) went.owed ∙ owed
still-registered {H} id a b false (inl same) other owed = ap (λ (k : QueueAccount H). has_actor k.owed other) same ∙ owed
still-registered id a b false (inr refused) other owed =
    refused.owed other ∙ either-run_queue (other == id) (has_actor a.owed other) owed

module _ {H W : Type 0} (pushed refused : W → List (Claim H)) (id : ℕ) where
  account-same : (a b : Registrar H W) → b.run_queue ≡ a.run_queue → b.owed ≡ a.owed → account_of pushed refused b ≡ account_of pushed refused a
  account-same a b run_queue owed =
      let make : W → ActorSet → QueueAccount H = λ w o. record { pushed = pushed w; refused = refused w; owed = o } in
      λ i. make (run_queue i) (owed i)

  -- nobody was registered
  pub registers-nobody : (a b : Registrar H W) → b.run_queue ≡ a.run_queue → b.owed ≡ a.owed
      → RegistersAtMost id (account_of pushed refused a) (account_of pushed refused b)
  registers-nobody a b run_queue owed = (false, inl (account-same a b run_queue owed))

  -- nobody was registered first
  pub registers-since : (a b : Registrar H W) (c : QueueAccount H) → b.run_queue ≡ a.run_queue → b.owed ≡ a.owed → RegistersAtMost id (account_of pushed refused b) c
      → RegistersAtMost id (account_of pushed refused a) c
  registers-since a b c run_queue owed = subst (λ (k : QueueAccount H). RegistersAtMost id k c) (account-same a b run_queue owed)

-- the view after an envelope was counted says so
pub is-sending : (id : ℕ) (old new : View) → new ≡ sending id 1 old → (obligation_to id new).sending ≡ true
is-sending id old new known =
    ap (λ (v : View). (obligation_to id v).sending) known
    ∙ ap (λ (d : WakeObligation). d.sending) (owes-same id (record (obligation_to id old) { sending = true }) (seeing (Sent id 1) old))

-- the receiver's place among the passes
pub place-within : (to len actors : ℕ) → len + 1 ≡ actors → 0 < to → to < actors → to - 1 < len
place-within to len actors all some few = omega arith
