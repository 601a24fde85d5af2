-- The limits of the product (this project's own profile: Akka has none of them).
use Rattle.std.specs.Prelude.{ℕ, ◌^◌}

-- how many actors a plan has at most, the guardian among them
abbrev pub most_actors : ℕ
most_actors = 64

-- how many senders outside the actors a plan has at most
abbrev pub most_outside_senders : ℕ
most_outside_senders = 16

-- how many effects one call of an actor may ask for
abbrev pub most_effects : ℕ
most_effects = 16

-- how many entries the journal of an actor may have at most
abbrev pub most_entries : ℕ
most_entries = 2 ^ 56
