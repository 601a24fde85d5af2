use Rattle.std.proofs.Common.{◌≡◌, List, None, Option, Some, map, subst}
use Rattle.std.proofs.lemmas.Result.{err_from_is_err_and}
use Rattle.toml.specs.View.{table_view}
use Rattle.mb_schema.specs.Check.{actor_key_check, unknown_check}
use Rattle.mb_schema.specs.Context.{context_data}
use Rattle.mb_schema.specs.Format.{KeyData, actor_keys, other_actor_keys}
use Rattle.mb_schema.specs.Location.{FindingData, Finds, fault_of, first, path_text}
use Rattle.mb_schema.specs.declared.path.Path.TheVariants.{Actor}
use Rattle.mb_schema.proofs.Firsts.{first_bad, first_well}
use Rattle.mb_schema.proofs.actors.check_actor_table.Goals as goal

pub returns : goal.returns
returns c =
    let prefix = path_text (Actor c.args.actor) in
    let ms = table_view c.args.table.now in
    let check = actor_key_check prefix (context_data c.args.context.now) ms in
    let well : unknown_check prefix actor_keys ms ≡ None =
    subst (λ (keys : List KeyData). unknown_check prefix keys ms ≡ None) c.actor_keys.ensures c.in_ok-check_unknown.ensures in
    let others : Finds c.check_actor_keys.result (first (map check other_actor_keys)) =
    subst (λ (keys : List KeyData). Finds c.check_actor_keys.result (first (map check keys))) c.other_actor_keys.ensures c.check_actor_keys.ensures in
    first_well (unknown_check prefix actor_keys ms) (map check other_actor_keys) c.check_actor_keys.result well others

pub returns-in_err-check_unknown : goal.returns-in_err-check_unknown
returns-in_err-check_unknown c =
    let prefix = path_text (Actor c.args.actor) in
    let ms = table_view c.args.table.now in
    let check = actor_key_check prefix (context_data c.args.context.now) ms in
    let p = err_from_is_err_and c.from_residual.result c.from_residual.ensures.1 in
    let found = c.in_err-check_unknown.field-0.0 in
    let bad : unknown_check prefix actor_keys ms ≡ Some (fault_of found) =
    subst (λ (keys : List KeyData). unknown_check prefix keys ms ≡ Some (fault_of found)) c.actor_keys.ensures c.in_err-check_unknown.ensures in
    first_bad (unknown_check prefix actor_keys ms) (map check other_actor_keys) c.from_residual.result found p.0 bad p.1 p.2
