use Rattle.std.proofs.Common.{rules}
use Rattle.mb_schema.proofs.actor_entries.actor_entry_of.Goals as goal

pub returns-in-None : goal.returns-in-None
returns-in-None c = search rules

pub returns-in-Some : goal.returns-in-Some
returns-in-Some c = search rules
