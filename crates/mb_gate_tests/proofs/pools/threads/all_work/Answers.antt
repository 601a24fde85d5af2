use Rattle.std.proofs.Common.{◌≡◌, Some, List, [], ◌∷◌, ◌++◌, map, ap, refl, subst, sym, ◌∙◌}
use Rattle.std.specs.Prelude.{All}
use Rattle.mb_pool.specs.Places.{PoolEndpoint, gates_of, parts_of}
use Rattle.mb_pool.proofs.Alike.{all_front, all_last, handles_gates, feeds_gates, map_last}
use Rattle.mb_gate_tests.proofs.pools.threads.all_work.Goals as goal

-- the last of a list is taken off, and one like it is put back
put_back : {H : Type 0} (old rest now new : List (PoolEndpoint H)) (x y : PoolEndpoint H) → old ≡ rest ++ x ∷ [] → new ≡ now ++ y ∷ []
    → map (parts_of {H = H}) now ≡ map (parts_of {H = H}) rest → parts_of y ≡ parts_of x
    → map (parts_of {H = H}) new ≡ map (parts_of {H = H}) old
put_back {H} old rest now new x y was is front last =
    ap (map (parts_of {H = H})) is ∙ map_last (parts_of {H = H}) now rest y x front last ∙ sym (ap (map (parts_of {H = H})) was)

pub four_work-first-requires-clause-third : goal.four_work-first-requires-clause-third
four_work-first-requires-clause-third g c κs within =
    let ours = λ (w : PoolEndpoint _). gates_of w ≡ Some c.args.pool.now.gates in
    let all = subst (All ours) c.in_ok-third.ensures.items (handles_gates c.args.pool.now _ c.requires.are_handles) in
    all_last ours c.pop.new.self.items c.in_ok-third.third all ∙ ap (λ o. Some o) c.requires.same_origin

pub four_work-first-requires-clause-second : goal.four_work-first-requires-clause-second
four_work-first-requires-clause-second g c κs within =
    let ours = λ (w : PoolEndpoint _). gates_of w ≡ Some c.args.pool.now.gates in
    let all = subst (All ours) c.in_ok-third.ensures.items (handles_gates c.args.pool.now _ c.requires.are_handles) in
    let front = subst (All ours) c.in_ok-second.ensures.items (all_front ours c.pop.new.self.items (c.in_ok-third.third ∷ []) all) in
    all_last ours c.pop-2.new.self.items c.in_ok-second.second front ∙ ap (λ o. Some o) c.requires.same_origin

pub four_work-first-requires-clause-first : goal.four_work-first-requires-clause-first
four_work-first-requires-clause-first g c κs within =
    let ours = λ (w : PoolEndpoint _). gates_of w ≡ Some c.args.pool.now.gates in
    let all = subst (All ours) c.in_ok-third.ensures.items (handles_gates c.args.pool.now _ c.requires.are_handles) in
    let front = subst (All ours) c.in_ok-second.ensures.items (all_front ours c.pop.new.self.items (c.in_ok-third.third ∷ []) all) in
    let head = subst (All ours) c.in_ok-first.ensures.items (all_front ours c.pop-2.new.self.items (c.in_ok-second.second ∷ []) front) in
    all_last ours c.pop-3.new.self.items c.in_ok-first.first head ∙ ap (λ o. Some o) c.requires.same_origin

pub four_work-first-requires-clause-feed : goal.four_work-first-requires-clause-feed
four_work-first-requires-clause-feed g c κs within =
    let ours = λ (w : PoolEndpoint _). gates_of w ≡ Some c.args.pool.now.gates in
    let all = subst (All ours) c.in_ok-feed.ensures.items (feeds_gates c.args.pool.now _ c.requires.are_feeds) in
    all_last ours c.pop-4.new.self.items c.in_ok-feed.feed all ∙ ap (λ o. Some o) c.requires.same_origin

pub returns-clause-are_handles : goal.returns-clause-are_handles
returns-clause-are_handles g c =
    let same = c.four_work-first.ensures in
    let one = put_back _ _ _ _ _ _ c.in_ok-first.ensures.items c.push_reserved.ensures.items refl same.first in
    let two = put_back _ _ _ _ _ _ c.in_ok-second.ensures.items c.push_reserved-2.ensures.items one same.second in
    put_back _ _ _ _ _ _ c.in_ok-third.ensures.items c.push_reserved-3.ensures.items two same.third ∙ c.requires.are_handles

pub returns-clause-are_feeds : goal.returns-clause-are_feeds
returns-clause-are_feeds g c =
    put_back _ _ _ _ _ _ c.in_ok-feed.ensures.items c.push_reserved-4.ensures.items refl c.four_work-first.ensures.feed ∙ c.requires.are_feeds
