use Rattle.std.proofs.Common.{◌≡◌, ◌<◌, ◌^◌, drop}
use Rattle.mb_schema.specs.Number.{value_from}
use Rattle.mb_schema.proofs.number.value_of.Given as goal

-- the digits that are left lead to the number of all
abbrev pub invariant-loop-digit : goal.invariant-loop-digit
invariant-loop-digit l = record {
  below_bound : l.value < 2 ^ 36;
  same : value_from l.value (drop l.digit-index l.digits) ≡ value_from 0 l.digits;
}
