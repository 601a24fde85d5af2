-- What a sender keeps as it carries out orders, and what it has done then.
use Rattle.std.specs.Prelude.{◌≡◌, List}
use Rattle.std.specs.Global.{Box}
use Rattle.mb_gate.specs.Accessors.{actors_of}
use Rattle.mb_gate.specs.declared.gates.Gates.{Gates}
use Rattle.mb_home.specs.Contents.{Contents}
use Rattle.mb_msg.specs.declared.order.Order.{Order}
use Rattle.mb_register.specs.Caller.{OwesForRefusals}
use Rattle.mb_system.specs.Members.{IsSenderOf, OutsideSender, sender_caller}
use Rattle.mb_system.specs.Obligations.{KeepsObligations, OwesNobody}
use Rattle.mb_dispatch.specs.Claims.{SenderLosesNoClaim}
use Rattle.mb_dispatch.specs.Orders.{HasSent}

module _ (gates : Gates (Box Contents)) where
  -- Whatever comes of it, the sender is of the gates still, and the same. It still owes each look that it owed, and besides only looks to actors whose claims
  -- the pool refused. It lost no claim.
  pub record KeepsSender (old new : OutsideSender) : Type 0 where
    pub same_gates : IsSenderOf gates new
    pub same_sender : new.send_log.by ≡ old.send_log.by
    pub owed : OwesForRefusals (sender_caller old.registrar).account (sender_caller new.registrar).account
    pub claims : SenderLosesNoClaim old new

  -- The sender carried out these orders, and forgot nothing that it owed.
  pub record CarriesOut (orders : List Order) (old new : OutsideSender) : Type 0 where
    pub sent : HasSent orders old new
    pub obligations : KeepsObligations (actors_of gates) (sender_caller old.registrar) (sender_caller new.registrar)

  -- The sender carried out these orders, forgot nothing that it owed, and owes nobody a look.
  pub record CarriesOutAndRetries (orders : List Order) (old new : OutsideSender) : Type 0 where
    pub sent : HasSent orders old new
    pub nobody : OwesNobody gates new
    pub obligations : KeepsObligations (actors_of gates) (sender_caller old.registrar) (sender_caller new.registrar)
