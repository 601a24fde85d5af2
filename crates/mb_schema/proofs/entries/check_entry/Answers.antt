use Rattle.std.proofs.Common.{◌+◌, Option, codes, map, subst, sym}
use Rattle.toml.specs.Data.{Members}
use Rattle.toml.specs.View.{table_view, view}
use Rattle.mb_schema.specs.Check.{actor_table_check, context_of_actor, entry_check, part_check}
use Rattle.mb_schema.specs.Context.{ContextData, actor_entry_data}
use Rattle.mb_schema.specs.Location.{Finds, path_text}
use Rattle.mb_schema.specs.declared.entries.Part.{Part}
use Rattle.mb_schema.specs.declared.path.Path.TheVariants.{Actor}
use Rattle.mb_schema.proofs.entries.check_entry.Goals as goal

pub returns-in-Actors : goal.returns-in-Actors
returns-in-Actors c =
    let P : ContextData → Type 0 = λ a. Finds c.check_actor_table.result
    (actor_table_check a (path_text (Actor (c.args.earlier + 1))) (table_view c.in-Some.table.now)) in
    let Q : Option Members → Type 0 = λ o. Finds c.check_actor_table.result
    (entry_check (actor_table_check (context_of_actor (map actor_entry_data c.args.actor_entries.now) c.args.earlier (view c.args.value.now)))
    (codes "actor") c.args.earlier o) in
    let R : Part → Type 0 = λ part. Finds c.check_actor_table.result
    (part_check part (map actor_entry_data c.args.actor_entries.now) c.args.earlier (view c.args.value.now)) in
    subst R (sym c.in-Actors.is) (subst Q c.in-Some.ensures (subst P c.context_of-context-in-Actors.ensures c.check_actor_table.ensures))
