use Rattle.std.proofs.Common.{rules, ◌≡◌, string_bytes, arith}
use Rattle.heddleorange.proofs.Lookup.{one-copied}
use Rattle.heddleorange.proofs.names.Names.try_clone.Goals as goal

pub loop-text-preserved : goal.loop-text-preserved
loop-text-preserved c =
    let all = c.args.self.now.texts.items in let at = c.loop-text in
    let same : string_bytes c.in_ok-from_str.field-0 ≡ string_bytes c.text-item.result = search rules in record {
      same = one-copied all at.text-index c.text-item.result (search rules) (search rules) at.texts.items c.push.new.self.items c.in_ok-from_str.field-0
          same (search rules) at.invariant.same;
      count = search (rules, arith);
    }
