-- That what a run sends stands in its claim's record (this project's own profile: Akka keeps no record of the system messages that it sends).
use Rattle.std.specs.Prelude.{◌≡◌, ℕ, ◌+◌, List, ◌++◌, reverse}
use Rattle.std.specs.Global.{Box}
use Rattle.mb_gate.specs.declared.claim.Claim.{Claim}
use Rattle.mb_gate.specs.Accessors.{pass_view, recorded_by}
use Rattle.mb_gate.specs.View.{View, SentSystem}
use Rattle.mb_ghost.specs.Summed.{total}
use Rattle.mb_home.specs.Contents.{Contents}
use Rattle.mb_register.specs.declared.registrar.Registrar.{Registrar}
use Rattle.mb_mailbox.specs.RunSends.{ended_in, given_by, listed_by, listed_of, refused_of}

-- The record went on by these messages, the earliest first. What the pass sent went on by the same and no more, the newest first. Those of them that a
-- list took, in their order, are all that the pass put into lists; each of the others the pass found its list ended. The pass itself got nothing out of
-- a list.
pub record GrowAlike (old_record : List SentSystem) (old : View) (new_record : List SentSystem) (new : View) : Type 0 where
  pub more : List SentSystem
  pub recorded : new_record ≡ old_record ++ more
  pub sent : new.sent_system ≡ reverse more ++ old.sent_system
  pub puts : listed_by new.log ≡ listed_of (reverse more) ++ listed_by old.log
  pub refused : (to : ℕ) → total (ended_in to) new.log ≡ total (refused_of to) more + total (ended_in to) old.log
  pub got_nothing : given_by new.log ≡ given_by old.log

module _ {W : Type 0} where
  -- Each system message that the pass sent stands in the claim's record, and each that was recorded was sent by the pass, in the same order. What came
  -- out of the actor's list came out for the claim.
  abbrev pub SendsAsRecorded : Registrar (Box Contents) W → Registrar (Box Contents) W → Claim (Box Contents) → Claim (Box Contents) → Type 0
  SendsAsRecorded old_registrar new_registrar old_claim new_claim = GrowAlike
      (recorded_by old_claim)
      (pass_view old_registrar.pass)
      (recorded_by new_claim)
      (pass_view new_registrar.pass)
