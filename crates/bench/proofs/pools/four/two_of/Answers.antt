use Rattle.std.proofs.Common.{All, [], ◌∷◌, subst}
use Rattle.mb_pool.proofs.Alike.{all_front, all_last}
use Rattle.bench.specs.Ready.{IsReadyWorker}
use Rattle.bench.proofs.pools.four.two_of.Goals as goal

pub returns-clause-rest : goal.returns-clause-rest
returns-clause-rest c =
    let ready = IsReadyWorker c.args.gates.now in let one = subst (All ready) c.in_ok-a.ensures.items c.requires in
    let others = all_front ready c.pop.new.self.items (c.in_ok-a.a ∷ []) one in
    all_front ready c.pop-2.new.self.items (c.in_ok-b.b ∷ []) (subst (All ready) c.in_ok-b.ensures.items others)

pub returns-clause-pair : goal.returns-clause-pair
returns-clause-pair c =
    let ready = IsReadyWorker c.args.gates.now in let one = subst (All ready) c.in_ok-a.ensures.items c.requires in
    let others = all_front ready c.pop.new.self.items (c.in_ok-a.a ∷ []) one in (
      all_last ready c.pop.new.self.items c.in_ok-a.a one,
      all_last ready c.pop-2.new.self.items c.in_ok-b.b (subst (All ready) c.in_ok-b.ensures.items others),
    )
