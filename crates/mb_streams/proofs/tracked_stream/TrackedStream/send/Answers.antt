use Rattle.std.proofs.Common.{◌-◌, arith, length, take, drop, length-take, length-drop, ℕ, rules}
use Rattle.std.proofs.lemmas.Grind.{common_steps}
use Rattle.std.specs.Io.KnownBytes.{Appends}
use Rattle.mb_streams.proofs.WrittenLemmas.{rest_written}
use Rattle.mb_streams.proofs.tracked_stream.TrackedStream.send.Goals as goal

pub loop-sent-preserved : goal.loop-sent-preserved
loop-sent-preserved g c =
    let bytes = c.args.bytes.now in
    let sent = c.loop-sent.sent in
    let part : Appends (g.W.Write.contents c.loop-sent.self.stream) (g.W.Write.contents c.write.new.self.stream)
    (take c.in-Ok.count (take (length bytes - sent) (drop sent bytes))) = c.in-Ok.ensures.bytes in
    record {
      within = let bound = c.in-Ok.ensures.bound in omega (arith, bound, length-take {A = ℕ}, length-drop {A = ℕ});
      so_far = rest_written (g.W.Write.contents c.args.self.now.stream) _ _ bytes sent c.in-Ok.count c.loop-sent.invariant.so_far part;
      same = grind (arith, common_steps);
    }

pub returns-clause-whole : goal.returns-clause-whole
returns-clause-whole g c = grind (arith, common_steps)

pub returns-clause-watched : goal.returns-clause-watched
returns-clause-watched g c = search rules
