-- The rank of an envelope in a priority mailbox (`akka.dispatch.UnboundedStablePriorityMailbox`, whose order is a function
-- of the message; the table of user kinds is this project's own profile).
use Rattle.std.specs.Prelude.{ℕ, ◌==◌, List, find, option_map, unwrap_or}
use Rattle.mb_msg.specs.declared.envelope.Body.{Body}
use Rattle.mb_msg.specs.declared.envelope.Body.TheVariants.{User, Control, PoisonPill, Kill, Terminated}
use Rattle.mb_msg.specs.declared.mailbox_type.RankRow.{RankRow}

-- the rank in the first row of this kind, and `other` without one
abbrev pub rank_in : List RankRow → ℕ → ℕ → ℕ
rank_in rows other kind = unwrap_or (option_map (λ (row : RankRow). row.rank) (find (λ row. row.kind == kind) rows)) other

-- the rank of a body: user messages have a table, all other bodies have the one rank `other`
abbrev pub rank_of : List RankRow → ℕ → Body → ℕ
rank_of rows other (User kind value) = rank_in rows other kind
rank_of rows other (Control kind value) = other
rank_of rows other PoisonPill = other
rank_of rows other Kill = other
rank_of rows other (Terminated actor) = other
