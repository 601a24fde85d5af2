use Rattle.std.proofs.Common.{◌∙◌, arith}
use Rattle.mb_startup.proofs.NewGates.{founded, housed-many}
use Rattle.mb_startup.proofs.new_gates.found.Goals as goal

pub new-requires : goal.new-requires
new-requires g c =
    let housed = c.in_ok-homes.ensures in let homes = c.in_ok-homes.field-0.homes in let length_is = homes.ok.0 in
    let many = housed-many _ c.args.journal c.args.journal_limit c.args.plans.items housed.0 c.args.senders homes.items _ housed.2 in
    let few = c.requires.within_limit.0 in record {
      not_empty = omega (arith, many, length_is);
      within_limit = omega (arith, many, length_is, few);
      fresh = housed.2.fresh;
    }

pub returns-in-Ok-clause-homes_made : goal.returns-in-Ok-clause-homes_made
returns-in-Ok-clause-homes_made g c =
    let housed = c.in_ok-homes.ensures in let homes = c.in_ok-homes.field-0.homes in
    (housed.0, homes.items, housed.1, housed.2, c.in-Ok.ensures.first, c.in-Ok.ensures.ok.0 ∙ homes.ok.0)

pub returns-in-Ok-clause-new_gates : goal.returns-in-Ok-clause-new_gates
returns-in-Ok-clause-new_gates g c =
    let housed = c.in_ok-homes.ensures in let homes = c.in_ok-homes.field-0.homes in
    founded _ c.args.journal c.args.journal_limit c.args.plans.items housed.0 c.args.senders homes.items _ _ c.requires.within_limit.0 housed.1 housed.2
    c.in-Ok.ensures.first (c.in-Ok.ensures.ok.0 ∙ homes.ok.0)

pub make_homes-requires-clause-within_limit : goal.make_homes-requires-clause-within_limit
make_homes-requires-clause-within_limit g c = c.requires.within_limit

pub make_homes-requires-clause-within_journal : goal.make_homes-requires-clause-within_journal
make_homes-requires-clause-within_journal g c = c.requires.within_journal

pub make_homes-requires-clause-right : goal.make_homes-requires-clause-right
make_homes-requires-clause-right g c = c.requires.right

pub make_homes-requires-clause-same_count : goal.make_homes-requires-clause-same_count
make_homes-requires-clause-same_count g c = c.requires.same_count

pub make_homes-requires-clause-behaved : goal.make_homes-requires-clause-behaved
make_homes-requires-clause-behaved g c = c.requires.behaved

pub returns-in-Err-clause-homes_made : goal.returns-in-Err-clause-homes_made
returns-in-Err-clause-homes_made g c = tt

pub returns-in-Err-clause-new_gates : goal.returns-in-Err-clause-new_gates
returns-in-Err-clause-new_gates g c = tt

pub returns-in-Err-clause-pass : goal.returns-in-Err-clause-pass
returns-in-Err-clause-pass g c = tt
