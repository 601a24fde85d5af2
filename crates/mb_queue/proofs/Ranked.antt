-- The rank of a user message is that of the row that was found.
use Rattle.std.proofs.Common.{◌≡◌, ℕ, ◌==◌, ℤ, List, Option, find, option_map, unwrap_or, ap, sym, ◌∙◌}
use Rattle.mb_msg.specs.declared.envelope.Body.{Body}
use Rattle.mb_msg.specs.declared.envelope.Body.TheVariants.{User}
use Rattle.mb_msg.specs.declared.mailbox_type.RankRow.{RankRow}
use Rattle.mb_queue.specs.Rank.{rank_of}

pub ranked : (kept rows : List RankRow) (other kind : ℕ) (value : ℤ) (body : Body) (found : Option RankRow) → body ≡ User kind value → kept ≡ rows
    → found ≡ find (λ (row : RankRow). row.kind == kind) kept
    → unwrap_or (option_map (λ (row : RankRow). row.rank) found) other ≡ rank_of rows other body
ranked kept rows other kind value body found is same eq =
    ap (λ f. unwrap_or (option_map (λ (row : RankRow). row.rank) f) other) (eq ∙ ap (find (λ (row : RankRow). row.kind == kind)) same)
    ∙ ap (rank_of rows other) (sym is)
