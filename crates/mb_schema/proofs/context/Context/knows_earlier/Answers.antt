use Rattle.std.proofs.Common.{ap, sym, ◌∙◌}
use Rattle.std.specs.List.{take-map}
use Rattle.mb_schema.specs.Context.{actor_entry_data, knows}
use Rattle.mb_schema.proofs.context.Context.knows_earlier.Goals as goal

pub returns-then-self : goal.returns-then-self
returns-then-self c = c.has_name.ensures
    ∙ ap (λ actor_entries. knows actor_entries c.args.name.now) (sym (take-map actor_entry_data c.args.self.now.earlier c.args.self.now.actor_entries.now))
