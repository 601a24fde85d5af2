use Rattle.std.proofs.Common.{nat_le, ap, sym, ◌∙◌}
use Rattle.toml.specs.View.{view}
use Rattle.mb_schema.proofs.Values.{item_count-view}
use Rattle.mb_schema.specs.Value.{item_count, is_few}
use Rattle.mb_schema.proofs.value.is_few.Goals as goal

pub returns-in-Tables : goal.returns-in-Tables
returns-in-Tables c =
    ap (λ n. nat_le n c.in-Tables.most) (sym (item_count-view c.items_of.result.now) ∙ ap item_count c.items_of.ensures)
    ∙ ap (λ f. is_few f (view c.args.value.now)) (sym c.in-Tables.is)
