-- A sender loses no claim.
use Rattle.std.proofs.Common.{◌≡◌, ℕ, Bool, false, List, inl}
use Rattle.mb_gate.specs.Accessors.{pass_view}
use Rattle.mb_gate.specs.View.{View}
use Rattle.mb_gate.specs.declared.claim.Claim.{Claim}
use Rattle.mb_register.specs.Registering.{QueueAccount, HandsClaimOn, LosesNoClaim}
use Rattle.mb_register.specs.declared.actor_set.ActorSet.{ActorSet}
use Rattle.mb_register.specs.declared.registrar.Registrar.{Registrar}
use Rattle.mb_register.proofs.ClaimCounts.{hands-after, loses-handed}
use Rattle.mb_register.specs.Registers.{account_of}

-- an actor was registered, after steps that got no claim
pub hands-later : {H : Type 0} (id : ℕ) (old new : QueueAccount H) (u v w : View) (went : Bool) → v.got ≡ u.got → v.returned ≡ u.returned
    → HandsClaimOn id old new v w went → LosesNoClaim old new u w
hands-later id old new u v w went got returned handed =
    loses-handed id old new u w went (hands-after id old new u v w went (record { got = got; returned = returned }) handed)

-- nobody was registered, and no claim was got
pub loses-looked : {H W : Type 0} (pushed refused : W → List (Claim H)) (a b : Registrar H W) → b.run_queue ≡ a.run_queue → b.owed ≡ a.owed
    → (pass_view b.pass).got ≡ (pass_view a.pass).got → (pass_view b.pass).returned ≡ (pass_view a.pass).returned
    → LosesNoClaim (account_of pushed refused a) (account_of pushed refused b) (pass_view a.pass) (pass_view b.pass)
loses-looked {H} {W} pushed refused a b run_queue owed got returned =
    let make : W → ActorSet → QueueAccount H = λ w o. record { pushed = pushed w; refused = refused w; owed = o } in
    loses-handed 0 (account_of pushed refused a) (account_of pushed refused b) (pass_view a.pass) (pass_view b.pass) false
    (inl ((λ i. make (run_queue i) (owed i)), record { got = got; returned = returned }))
