use Rattle.std.proofs.Common.{rules, ◌≡◌, ◌<◌, ◌++◌, ◌∷◌, [], ℕ, suc, length}
use Rattle.std.proofs.Common.{map, take, drop, set, refl, sym, ap, ◌∙◌, subst, append_assoc, arith}
use Rattle.std.specs.Prelude.{All, get_or, slice_get, vec_capacity, vec_len}
use Rattle.std.proofs.Math.ListN.{drop_of_length-le}
use Rattle.std.proofs.lemmas.List.{append-nil, length-append, length-set, take_all}
use Rattle.std.proofs.lemmas.Option.{slice_get-get_or}
use Rattle.mb_shutdown.specs.LeftInQueues.{AreRests}
use Rattle.mb_shutdown.proofs.RestLemmas.{all-fewer, in-place, last-in, place-there, rests-more, same-last, same-set, take-fewer, take-set}
use Rattle.mb_shutdown.proofs.draining.drain_queues.Goals as goal

pub loop-take-preserved : goal.loop-take-preserved
loop-take-preserved g c =
    let at = c.loop-take in let items = c.pop.new.self.items in let n : ℕ = length items in let one = c.in-Some.take in
    let room = c.drain_queue.new.room in let done = at.invariant.2.0 in
    let place : c.len-place.result ≡ n = search rules in
    let longer : length at.takes.items ≡ suc n = ap length c.in-Some.ensures.items ∙ length-append items (one ∷ []) ∙ (omega arith) in
    let all : c.args.takes.items ≡ items ++ one ∷ done
    = at.invariant.2.1 ∙ ap (λ l. l ++ done) c.in-Some.ensures.items ∙ append_assoc items (one ∷ []) done in
    let lt : n < length at.rooms =
    place-there at.rooms c.args.takes.items at.takes.items items done one at.invariant.0 at.invariant.2.1 c.in-Some.ensures.items in
    let rest = c.drain_queue.ensures.rest (search rules) in (
      length-set at.rooms c.len-place.result room ∙ at.invariant.0,
      subst (λ l. All (λ r. r.items ≡ []) l) (sym (ap (λ m. take n (set at.rooms m room)) place ∙ take-set at.rooms n room))
          (all-fewer (λ r. r.items ≡ []) at.rooms n (subst (λ m. All (λ r. r.items ≡ []) (take m at.rooms)) longer at.invariant.1)),
      (
        one ∷ done,
        all,
        subst (λ m. AreRests (one ∷ done) (map (λ r. r.items) (drop n (set at.rooms m room)))) (sym place)
            (rests-more (λ r. r.items) at.rooms n room one done lt rest
            (subst (λ m. AreRests done (map (λ r. r.items) (drop m at.rooms))) longer at.invariant.2.2)),
      ),
      ap (λ m. take n (set at.rooms m room)) place ∙ take-set at.rooms n room
          ∙ take-fewer at.rooms c.args.rooms.now n (subst (λ m. take m at.rooms ≡ take m c.args.rooms.now) longer at.invariant.3),
    )

pub returns-then-not-drain_queue-clause-overfull : goal.returns-then-not-drain_queue-clause-overfull
returns-then-not-drain_queue-clause-overfull g c =
    let at = c.loop-take in let items = c.pop.new.self.items in let n : ℕ = length items in let one = c.in-Some.take in
    let place : c.len-place.result ≡ n = search rules in let done = at.invariant.2.0 in let rooms = c.args.rooms.now in
    let longer : length at.takes.items ≡ suc n = ap length c.in-Some.ensures.items ∙ length-append items (one ∷ []) ∙ (omega arith) in
    let all : c.args.takes.items ≡ items ++ one ∷ done
    = at.invariant.2.1 ∙ ap (λ l. l ++ done) c.in-Some.ensures.items ∙ append_assoc items (one ∷ []) done in
    let lt : n < length at.rooms =
    place-there at.rooms c.args.takes.items at.takes.items items done one at.invariant.0 at.invariant.2.1 c.in-Some.ensures.items in
    let same = same-last at.rooms rooms n (subst (λ m. take m at.rooms ≡ take m rooms) longer at.invariant.3) in
    let old = get_or at.rooms c.len-place.result c.index-rooms-place.result in
    record {
      take = one;
      room = old;
      present = ap (slice_get c.args.takes.items) place ∙ ap (λ l. slice_get l n) all ∙ in-place items one done;
      lies = ap (slice_get rooms) place ∙ sym same ∙ ap (slice_get at.rooms) (sym place)
          ∙ slice_get-get_or at.rooms c.len-place.result c.index-rooms-place.result (subst (λ m. m < length at.rooms) (sym place) lt);
      more = c.drain_queue.ensures.overfull (search rules);
    }

pub returns-then-not-drain_queue-clause-full : goal.returns-then-not-drain_queue-clause-full
returns-then-not-drain_queue-clause-full g c =
    let at = c.loop-take in let items = c.pop.new.self.items in
    let place : c.len-place.result ≡ length items = search rules in
    same-set (λ r. vec_len r) (λ r. vec_capacity r) at.rooms c.len-place.result c.drain_queue.new.room (c.drain_queue.ensures.full (search rules))
    (subst (λ n. n < length at.rooms) (sym place)
    (place-there at.rooms c.args.takes.items at.takes.items items at.invariant.2.0 c.in-Some.take at.invariant.0 at.invariant.2.1
    c.in-Some.ensures.items))

pub loop-take-init : goal.loop-take-init
loop-take-init g c =
    let all_takes = c.args.takes.items in let rooms = c.args.rooms.now in let many = c.requires.same_count in
    let whole : take (length all_takes) rooms ≡ rooms = take_all (length all_takes) rooms (omega (arith, many)) in
    let none : drop (length all_takes) rooms ≡ [] = drop_of_length-le rooms (omega (arith, many)) in (
      many,
      subst (All (λ room. room.items ≡ [])) (sym whole) c.requires.empty,
      ([], sym (append-nil all_takes), subst (λ l. AreRests [] (map (λ room. room.items) l)) (sym none) tt),
      refl,
    )

-- the last receiver has its place among the rooms
pub bounds-rooms-place : goal.bounds-rooms-place
bounds-rooms-place g c =
    let at = c.loop-take in let items = c.pop.new.self.items in let place : c.len-place.result ≡ length items = search rules in
    subst (λ n. n < length at.rooms) (sym place) (place-there at.rooms c.args.takes.items at.takes.items items at.invariant.2.0
    c.in-Some.take at.invariant.0 at.invariant.2.1 c.in-Some.ensures.items)

pub offset_bounds-rooms-place : goal.offset_bounds-rooms-place
offset_bounds-rooms-place g c = let below : c.len-place.result < length c.loop-take.rooms = bounds-rooms-place g c in search rules

pub drain_queue-requires : goal.drain_queue-requires
drain_queue-requires g c =
    let at = c.loop-take in let items = c.pop.new.self.items in let place : c.len-place.result ≡ length items = search rules in
    record {
      empty = last-in (λ r. r.items ≡ []) at.rooms c.args.takes.items at.takes.items items at.invariant.2.0 c.in-Some.take
          c.len-place.result c.index-rooms-place.result at.invariant.0 at.invariant.2.1 c.in-Some.ensures.items place at.invariant.1;
    }

pub returns-then-not-drain_queue-clause-place : goal.returns-then-not-drain_queue-clause-place
returns-then-not-drain_queue-clause-place g c =
    let at = c.loop-take in let items = c.pop.new.self.items in let place : c.len-place.result ≡ length items = search rules in
    subst (λ n. n < length c.args.takes.items) (sym place) (subst (λ n. length items < n) at.invariant.0
    (place-there at.rooms c.args.takes.items at.takes.items items at.invariant.2.0 c.in-Some.take at.invariant.0 at.invariant.2.1
    c.in-Some.ensures.items))
