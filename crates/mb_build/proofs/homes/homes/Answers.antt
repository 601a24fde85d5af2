use Rattle.std.proofs.Common.{length, map, drop, sym, ap, ◌∙◌, subst}
use Rattle.std.proofs.lemmas.List.{drop-map}
use Rattle.mb_build.specs.Made.{AreAllMade}
use Rattle.mb_build.specs.Numbers.{sender_numbers}
use Rattle.mb_build.proofs.FaultLemmas.{if-none}
use Rattle.mb_build.proofs.homes.homes.Goals as goal

pub add_homes-requires-clause-made : goal.add_homes-requires-clause-made
add_homes-requires-clause-made g c =
    let made = c.requires.made in (
      made.0,
      made.1,
      made.2,
      subst (λ l. AreAllMade made.0 (sender_numbers (length c.args.cells.items) made.1) c.args.queues.takes.items (map (λ row. row.items) l))
          (sym c.into_iter-senders.ensures.rest) made.3,
    )

pub returns-clause-outside : goal.returns-clause-outside
returns-clause-outside g c =
    let many = length c.args.cells.items in
    ap (map (λ r. r.items)) (c.in_ok-outside.ensures ∙ c.in_ok-add_homes.ensures.rest ∙ ap (drop many) c.into_iter-senders.ensures.rest)
    ∙ sym (drop-map (λ r. r.items) many c.args.queues.senders.items)

pub returns-in_err-homes-clause-first : goal.returns-in_err-homes-clause-first
returns-in_err-homes-clause-first g c = if-none _ c.from_residual.result c.in_err-homes.field-0.0 c.from_residual.ensures.1

pub returns-in_err-homes-clause-fresh : goal.returns-in_err-homes-clause-fresh
returns-in_err-homes-clause-fresh g c = if-none _ c.from_residual.result c.in_err-homes.field-0.0 c.from_residual.ensures.1

pub returns-in_err-homes-clause-outside : goal.returns-in_err-homes-clause-outside
returns-in_err-homes-clause-outside g c = if-none _ c.from_residual.result c.in_err-homes.field-0.0 c.from_residual.ensures.1

pub returns-in_err-add_homes-clause-first : goal.returns-in_err-add_homes-clause-first
returns-in_err-add_homes-clause-first g c = if-none _ c.from_residual-in_err-add_homes.result c.in_err-add_homes.field-0.0 c.from_residual-in_err-add_homes.ensures.1

pub returns-in_err-add_homes-clause-fresh : goal.returns-in_err-add_homes-clause-fresh
returns-in_err-add_homes-clause-fresh g c = if-none _ c.from_residual-in_err-add_homes.result c.in_err-add_homes.field-0.0 c.from_residual-in_err-add_homes.ensures.1

pub returns-in_err-add_homes-clause-outside : goal.returns-in_err-add_homes-clause-outside
returns-in_err-add_homes-clause-outside g c = if-none _ c.from_residual-in_err-add_homes.result c.in_err-add_homes.field-0.0 c.from_residual-in_err-add_homes.ensures.1

pub returns-in_err-outside-clause-first : goal.returns-in_err-outside-clause-first
returns-in_err-outside-clause-first g c = if-none _ c.from_residual-in_err-outside.result c.in_err-outside.field-0.0 c.from_residual-in_err-outside.ensures.1

pub returns-in_err-outside-clause-fresh : goal.returns-in_err-outside-clause-fresh
returns-in_err-outside-clause-fresh g c = if-none _ c.from_residual-in_err-outside.result c.in_err-outside.field-0.0 c.from_residual-in_err-outside.ensures.1

pub returns-in_err-outside-clause-outside : goal.returns-in_err-outside-clause-outside
returns-in_err-outside-clause-outside g c = if-none _ c.from_residual-in_err-outside.result c.in_err-outside.field-0.0 c.from_residual-in_err-outside.ensures.1
