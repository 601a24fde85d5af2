use Rattle.std.proofs.Common.{ap, map, string_bytes}
use Rattle.mb_scenario.specs.Plans.{name_of}
use Rattle.mb_scenario.proofs.Loops.{all_read, none_read, past_seen}
use Rattle.mb_scenario.proofs.names.names_of.Goals as goal

pub loop-value-preserved : goal.loop-value-preserved
loop-value-preserved c =
    past_seen string_bytes name_of c.args.values.now c.loop-value.value-index c.value-item.result c.loop-value.names.items
    c.push.new.self.items c.in_ok-name.name _ c.loop-value-test.true c.value-item.is c.in_ok-name.ensures c.in_ok-push.ensures.items
    c.loop-value.invariant

pub loop-value-init : goal.loop-value-init
loop-value-init c =
    none_read name_of c.args.values.now (map string_bytes c.new-names.result.items) (ap (map string_bytes) c.new-names.ensures.items)

pub returns : goal.returns
returns c =
    let at = c.loop-value in
    all_read name_of c.args.values.now at.value-index (map string_bytes at.names.items) _ c.loop-value-test.false at.invariant
