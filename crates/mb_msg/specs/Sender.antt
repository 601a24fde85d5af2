-- How senders are numbered (this project's own profile).
use Rattle.std.specs.Prelude.{ℕ, ◌+◌, if◌then◌else◌, nat_lt, Option, Some, None}
use Rattle.mb_msg.specs.Limits.{most_actors, most_outside_senders}
use Rattle.mb_msg.specs.declared.id.SenderId.{SenderId}

-- the number of this sender outside the actors: these numbers come after those that actors can have
abbrev pub outside_sender : ℕ → Option SenderId
outside_sender n = if nat_lt n most_outside_senders then Some (record { 0 = most_actors + n }) else None
