use Rattle.std.proofs.Common.{◌≡◌, map, subst}
use Rattle.std.specs.Prelude.{string_bytes}
use Rattle.mb_explore.specs.Search.{AllWait}
use Rattle.mb_explore.proofs.SearchLemmas.{taken-waits}
use Rattle.mb_explore.proofs.search.follow_all.Goals as goal

pub returns-in_default-clause-follows : goal.returns-in_default-clause-follows
returns-in_default-clause-follows g c final kept all =
    let same : c.next.new.self ≡ c.loop-taken.frontier = rw c.in_default.is at c.next.ensures.none in
    c.loop-taken.invariant.follows final kept
    (subst (AllWait g.K.Behaviours.after g.K.Behaviours.gives (map string_bytes c.args.names.now) final) same all)

pub loop-taken-preserved : goal.loop-taken-preserved
loop-taken-preserved g c = record {
  found = c.in_ok-follow.ensures.found;
  follows = λ final kept all.
      let here = c.in_ok-follow.ensures.follows final kept all in
      let before = c.loop-taken.invariant.follows final here.0
      (taken-waits g.K.Behaviours.after g.K.Behaviours.gives (map string_bytes c.args.names.now) final c.loop-taken.frontier c.next.new.self
      c.in-Some.waiting c.in-Some.ensures.taken here.1 here.2) in
      (before.0, before.1, tt);
}
