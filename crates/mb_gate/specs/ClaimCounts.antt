-- Who got claims, and who gave them back (this project's own profile: Akka's mailboxes keep no such account).
use Rattle.std.specs.Prelude.{◌≡◌, ℕ, ◌+◌, ◌%◌, ◌^◌, ◌<◌, ◌==◌, if◌then◌else◌, List, Option, Some, None}
use Rattle.mb_ghost.specs.Summed.{total}
use Rattle.mb_ghost.specs.Shares.{IsWhole}
use Rattle.mb_gate.specs.View.{View, Held}
use Rattle.mb_gate.specs.Waiting.{on_by, off_by}

-- How often an actor stands in a list.
abbrev pub times : ℕ → List ℕ → ℕ
times actor actors = total (λ a. if a == actor then 1 else 0) actors

-- How many claims of the actor a seat got.
abbrev pub claims_got : ℕ → View → ℕ
claims_got actor v = times actor v.got

-- How many claims of the actor a seat gave back.
abbrev pub claims_returned : ℕ → View → ℕ
claims_returned actor v = times actor v.returned

-- How many claims of the actor are out: one where it is held, else none.
abbrev pub claims_out : Option (ℕ × Held) → ℕ
claims_out None = 0
claims_out (Some h) = 1

-- So many envelopes are counted as waiting, where this is the view of the only pass and no claim of the actor is out: as many as the view counted on
-- less as many as it counted off, modulo 2^64.
abbrev pub IsOwnBalance : ℕ → ℕ → View → Type 0
IsOwnBalance actor waiting v = IsWhole v.share → claims_got actor v ≡ claims_returned actor v → (waiting + off_by actor v) % 2 ^ 64 ≡ on_by actor v % 2 ^ 64

-- This view got a claim of the actor, where it is the view of the only pass.
abbrev pub WasHeldBy : ℕ → View → Type 0
WasHeldBy actor v = IsWhole v.share → 0 < claims_got actor v
