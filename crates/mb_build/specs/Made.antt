-- The queues of a new system (`akka.dispatch.MailboxType.create`; that all are made at once is this project's own profile).
use Rattle.std.specs.Prelude.{◌≡◌, ℕ, ◌+◌, List, [], ◌∷◌, map}
use Rattle.mb_queue.specs.Ledger.{lent}
use Rattle.mb_msg.specs.declared.mailbox_type.MailboxType.{MailboxType}
use Rattle.mb_msg.specs.declared.mailbox_type.MailboxType.TheVariants.{Unbounded}
use Rattle.mb_queue.specs.Made.{IsEmpty}
use Rattle.mb_queue.specs.Passes.{SendPassView, TakePassView}
use Rattle.mb_build.specs.Handed.{passes_of}

-- Empty queues of these kinds, of the actors from this number on, for these senders. The account of each sender is out with its pass.
abbrev pub AreEmpty : List MailboxType → ℕ → List ℕ → List TakePassView → Type 0
AreEmpty [] to senders [] = Unit {0}
AreEmpty (k ∷ kinds) to senders (t ∷ takes) = (IsEmpty k to senders t × (t.accounts ≡ map lent senders)) × AreEmpty kinds (to + 1) senders takes
AreEmpty [] to senders (t ∷ takes) = ⊥
AreEmpty (k ∷ kinds) to senders [] = ⊥

-- Empty queues of these kinds for these senders, each of which has a pass into each; and the guardian's, into which nobody has one.
pub record AreMade (kinds : List MailboxType) (senders : List ℕ) (guardian : TakePassView) (takes : List TakePassView) (rows : List (List SendPassView)) : Type 0 where
  pub nobody : IsEmpty Unbounded 0 [] guardian
  pub empty : AreEmpty kinds 1 senders takes
  pub passes : rows ≡ map (passes_of takes) senders

-- The same, where the guardian's queue is the first.
abbrev pub AreAllMade : List MailboxType → List ℕ → List TakePassView → List (List SendPassView) → Type 0
AreAllMade kinds senders [] rows = ⊥
AreAllMade kinds senders (guardian ∷ takes) rows = AreMade kinds senders guardian takes rows
