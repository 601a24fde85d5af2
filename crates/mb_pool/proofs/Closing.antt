-- What the calls that end a pool require, once the ports of deques are joined.
use Rattle.std.proofs.Common.{◌≡◌, ◌<◌, List, ◌∷◌, length, sym, refl, ap, ◌∙◌, subst, arith}
use Rattle.std.specs.Prelude.{All, sum_by}
use Rattle.std.proofs.lemmas.List.{length-map}
use Rattle.std.proofs.lemmas.List.Elements.{All-cons}
use Rattle.mb_pool.specs.Handles.{AreAlike, AreGathered, IsAllOf, TakesIn, shared_ports_of, frame_of, shares_in, where_is}
use Rattle.mb_pool.specs.Made.{IsWhole}
use Rattle.mb_pool.specs.Places.{AreHandles, AreFeeds, PoolPort, Part, PoolEndpoint, PoolView, shared_port_part}
use Rattle.mb_pool.specs.Endpoints.{HasShare}
use Rattle.mb_pool.proofs.Wholes.{alike, all_here, all_of_shares, all_of_where, count_of, shared_port_where, shared_ports_same, handle_shared_ports, handles_alike, feed_shared_ports}
use Rattle.mb_pool.proofs.Wholes.{sum_ones, sum_parts}

module _ {H : Type 0} (pool : PoolView H) (handles feeds now : List (PoolEndpoint H)) (whole : IsWhole pool) (are_handles : AreHandles pool handles)
    (are_feeds : AreFeeds pool feeds) (gathered : AreGathered handles now) where
  shared_ports_are : shared_ports_of now ≡ shared_ports_of handles
  shared_ports_are = shared_ports_same handles now gathered.frames

  pub some_left : 0 < length now
  some_left =
      let some : 0 < pool.handles = whole.not_empty in
      let count : length handles ≡ pool.handles = count_of pool handles are_handles in
      let same : length now ≡ length handles = sym (length-map now (frame_of {H = H})) ∙ ap length gathered.frames
      ∙ length-map handles (frame_of {H = H}) in
      omega (arith, some, count, same)

  pub alike_left : AreAlike (shared_ports_of now)
  alike_left = handles_alike pool handles now are_handles gathered

  module _ (first : PoolPort H) (is_first : IsAllOf (shared_ports_of now) first) where
    pub first_share : HasShare first
    first_share =
        let some : 0 < pool.handles = whole.not_empty in
        let sum : shares_in (shared_ports_of now) ≡ pool.handles = ap shares_in shared_ports_are ∙ sum_parts (shared_ports_of handles)
        ∙ ap (sum_by (λ (p : Part H). p.shares)) (handle_shared_ports pool handles are_handles)
        ∙ sum_ones pool.handles (shared_port_part pool) refl in
        let all : first.ledger.shares ≡ shares_in (shared_ports_of now) = all_of_shares (shared_ports_of now) first is_first in
        omega (arith, some, sum, all)

    -- the feeds' ports are of the same queue
    pub feeds_alike : AreAlike (first ∷ shared_ports_of feeds)
    feeds_alike =
        let Here : PoolPort H → Type 0 = λ l. where_is l ≡ shared_port_where pool in
        let here : All Here (shared_ports_of now) = subst (All Here) (sym shared_ports_are)
        (all_here pool (shared_ports_of handles) pool.handles (handle_shared_ports pool handles are_handles)) in
        let mine : where_is first ≡ shared_port_where pool = all_of_where pool (shared_ports_of now) first here is_first in
        alike pool (first ∷ shared_ports_of feeds) (All-cons Here first (shared_ports_of feeds) mine
        (all_here pool (shared_ports_of feeds) pool.feeds (feed_shared_ports pool feeds are_feeds)))

    pub last_share : (last : PoolPort H) → TakesIn first (shared_ports_of feeds) last → HasShare last
    last_share last took = let mine : 0 < first.ledger.shares = first_share in let more = took.shares in omega (arith, mine, more)
