use Rattle.std.proofs.Common.{Some}
use Rattle.mb_gate.specs.Untouched.{origin_of}
use Rattle.mb_gate.proofs.Got.{untouched}
use Rattle.mb_gate_tests.proofs.tries.pooled.Goals as goal

pub new-requires : goal.new-requires
new-requires c =
    let got = c.in-Got.ensures.answer in record {
      untouched = (
        Some (origin_of c.args.gates.now),
        untouched _ _ (origin_of c.args.gates.now) 0 _ _ got.0 c.in-Got.claim got.1 c.in-Got.ensures.same_gates.1 c.requires.present,
      );
    }
