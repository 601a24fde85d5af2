-- What all handles and feeds of a pool have in common, which no call of them changes. (For the crates above.)
use Rattle.std.proofs.Common.{◌≡◌, ◌<◌, ℕ, List, [], ◌∷◌, ◌++◌, length, get_or, set, map, take, sym, refl, ap, ◌∙◌, subst}
use Rattle.std.specs.Prelude.{All, Option, Some}
use Rattle.std.proofs.lemmas.List.{append-nil, length-map, length-replicate, map-append}
use Rattle.std.proofs.lemmas.List.Elements.{All-cons, All-get_or, All-head, All-nil, All-replicate, All-tail}
use Rattle.mb_gate.specs.declared.claim.Claim.{Claim}
use Rattle.mb_gate.specs.Untouched.{Origin}
use Rattle.mb_pool.specs.Account.{ClaimAccount}
use Rattle.mb_pool.specs.Ledger.{IndexedClaim, indexed_claim}
use Rattle.mb_pool.specs.Moves.{Pushes}
use Rattle.mb_pool.specs.Places.{AreHandles, AreFeeds, PoolPort, Parts, PoolEndpoint, PoolView, feed_parts, gates_of, parts_of, pushed_at}
use Rattle.mb_pool.specs.PushedThrough.{pushed_through}
use Rattle.mb_pool.proofs.Gathering.{same_set}
use Rattle.mb_pool.proofs.Ports.{all_right, all_unmap}
use Rattle.mb_pool.proofs.Wholes.{count_of, each_handle}

-- of those in front, and of the last one
pub all_front : {X : Type 0} (P : X → Type 0) (xs ys : List X) → All P (xs ++ ys) → All P xs
all_front P [] ys h = All-nil P
all_front P (x ∷ xs) ys h = All-cons P x xs (All-head P x (xs ++ ys) h) (all_front P xs ys (All-tail P x (xs ++ ys) h))

pub all_last : {X : Type 0} (P : X → Type 0) (xs : List X) (x : X) → All P (xs ++ x ∷ []) → P x
all_last P xs x h = All-head P x [] (all_right P xs (x ∷ []) h)

pub map_last : {X Y : Type 0} (f : X → Y) (xs ys : List X) (x y : X) → map f xs ≡ map f ys → f x ≡ f y
    → map f (xs ++ x ∷ []) ≡ map f (ys ++ y ∷ [])
map_last f xs ys x y front last = map-append f xs (x ∷ []) ∙ (λ i. front i ++ last i ∷ []) ∙ sym (map-append f ys (y ∷ []))

module _ {H : Type 0} (pool : PoolView H) where
  -- the claims are of the pool's gates
  abbrev pub IsOfPool : PoolEndpoint H → Type 0
  IsOfPool w = gates_of w ≡ Some pool.gates

  abbrev IsOurs : Parts H → Type 0
  IsOurs p = p.shared_port.gates ≡ Some pool.gates

  pub handles_gates : (handles : List (PoolEndpoint H)) → AreHandles pool handles → All IsOfPool handles
  handles_gates handles are = each_handle pool handles are IsOurs (λ n. refl)

  pub feeds_gates : (feeds : List (PoolEndpoint H)) → AreFeeds pool feeds → All IsOfPool feeds
  feeds_gates feeds are = all_unmap IsOurs (parts_of {H = H}) feeds
      (subst (All IsOurs) (sym are) (All-replicate IsOurs pool.feeds (feed_parts pool) refl))

  pub handle_gates : (handles : List (PoolEndpoint H)) (k : ℕ) (d : PoolEndpoint H) → AreHandles pool handles → k < length handles → gates_of (get_or handles k d) ≡ Some pool.gates
  handle_gates handles k d are lt = All-get_or IsOfPool handles k d lt (handles_gates handles are)

  pub feed_gates : (feeds : List (PoolEndpoint H)) (k : ℕ) (d : PoolEndpoint H) → AreFeeds pool feeds → k < length feeds
      → gates_of (get_or feeds k d) ≡ Some pool.gates
  feed_gates feeds k d are lt = All-get_or IsOfPool feeds k d lt (feeds_gates feeds are)

  pub count_handles : (handles : List (PoolEndpoint H)) → AreHandles pool handles → length handles ≡ pool.handles
  count_handles = count_of pool

  pub count_feeds : (feeds : List (PoolEndpoint H)) → AreFeeds pool feeds → length feeds ≡ pool.feeds
  count_feeds feeds are = sym (length-map feeds (parts_of {H = H})) ∙ ap length are ∙ length-replicate pool.feeds (feed_parts pool)

  pub still_handles : (handles : List (PoolEndpoint H)) (k : ℕ) (d w : PoolEndpoint H) → parts_of w ≡ parts_of (get_or handles k d) → AreHandles pool handles
      → AreHandles pool (set handles k w)
  still_handles handles k d w same are = same_set (parts_of {H = H}) handles k d w same ∙ are

  pub still_feeds : (feeds : List (PoolEndpoint H)) (k : ℕ) (d w : PoolEndpoint H) → parts_of w ≡ parts_of (get_or feeds k d) → AreFeeds pool feeds
      → AreFeeds pool (set feeds k w)
  still_feeds feeds k d w same are = same_set (parts_of {H = H}) feeds k d w same ∙ are

-- a push adds its claim to those that were pushed through the handle or the feed
pub push_goes_in : {H : Type 0} (IsFit : Option (Origin H) → Claim H → Type 0) (old new : PoolEndpoint H) (c : Claim H) → Pushes IsFit old c new
    → pushed_through new ≡ pushed_through old ++ c ∷ []
push_goes_in {H} IsFit old new c p =
    let of : IndexedClaim (Claim H) → Claim H = λ t. t.claim in
    let first : List (PoolPort H) → List (Claim H) = λ ls. pushed_at (take 1 ls) in
    let before = p.pool_port.ledger.pushed in
    ap first p.then' ∙ append-nil (map of p.after.pushed) ∙ ap (λ (l : ClaimAccount H). map of l.pushed) p.last.2
    ∙ map-append of before (indexed_claim (length (p.last.1.gone ++ p.last.0)) c ∷ [])
    ∙ ap (λ cs. cs ++ c ∷ []) (sym (ap first p.found ∙ append-nil (map of before)))
