-- Each port of a deque is joined by the deque's owner, step by step.
use Rattle.std.proofs.Common.{◌≡◌, ℕ, zero, suc, ◌+◌, ◌<◌, ◌≤◌, List, [], ◌∷◌, ◌++◌, length, get_or, set, take, sym, refl, ap, ◌∙◌, subst, map}
use Rattle.std.proofs.Common.{arith, append_assoc, append-nil}
use Rattle.std.specs.Prelude.{All, IsPermutation, flat_map, sum_by}
use Rattle.std.proofs.lemmas.List.{map-append, map-set, set-get_or, set-set, get_or-map, get_or-set_same, length-map, length-set, take_all}
use Rattle.std.proofs.lemmas.List.Concat.{flat_map-append}
use Rattle.std.proofs.lemmas.List.Elements.{All-weaker}
use Rattle.std.proofs.lemmas.List.Sorted.{IsPermutation-refl, IsPermutation-sym, IsPermutation-trans}
use Rattle.std.proofs.lemmas.List.Sorted.{IsPermutation-append_comm}
use Rattle.std.proofs.lemmas.List.Sums.{sum_by-cons, sum_by-append}
use Rattle.mb_gate.specs.declared.claim.Claim.{Claim}
use Rattle.mb_pool.specs.Handles.{AreGathered, Frame, Gathers, IsAmong, MayJoin, Where, frame_of, joined, joined_first, nexts_of, owns_of, shares_in}
use Rattle.mb_pool.specs.Handles.{where_is}
use Rattle.mb_pool.specs.Ledger.{IndexedClaim, claims_in}
use Rattle.mb_pool.specs.Places.{PoolPort, Part, QueueInfo, PoolEndpoint, ports_of, owner_of, part_of, pushed_by, taken_by}
use Rattle.mb_pool.proofs.Lists.{same_elements, from_left, behind, before}
use Rattle.mb_pool.proofs.Begins.{take_suc, upto, upto_all, upto_at, upto_set}
use Rattle.mb_pool.proofs.Emptying.{all_left}
use Rattle.mb_pool.proofs.Ports.{all_right}

-- one of a list changed: what is joined by all of them
module _ {V A : Type 0} (f : V → List A) where
  pub gain : (l : List V) (p : ℕ) (d w : V) (x : List A) → p < length l → IsPermutation (f w) (f (get_or l p d) ++ x)
      → IsPermutation (flat_map f (set l p w)) (flat_map f l ++ x)
  gain [] p d w x lt h = absurd (omega (arith, lt))
  gain (v ∷ l) zero d w x lt h =
      IsPermutation-trans (f w ++ flat_map f l) ((f v ++ x) ++ flat_map f l) ((f v ++ flat_map f l) ++ x) (before (f w) (f v ++ x) (flat_map f l) h)
      (from_left ((f v ++ x) ++ flat_map f l) (f v ++ (x ++ flat_map f l)) ((f v ++ flat_map f l) ++ x) (append_assoc (f v) x (flat_map f l))
      (IsPermutation-trans (f v ++ (x ++ flat_map f l)) (f v ++ (flat_map f l ++ x)) ((f v ++ flat_map f l) ++ x)
      (behind (f v) (x ++ flat_map f l) (flat_map f l ++ x) (IsPermutation-append_comm x (flat_map f l)))
      (same_elements (f v ++ (flat_map f l ++ x)) ((f v ++ flat_map f l) ++ x) (sym (append_assoc (f v) (flat_map f l) x)))))
  gain (v ∷ l) (suc p) d w x lt h =
      IsPermutation-trans (f v ++ flat_map f (set l p w)) (f v ++ (flat_map f l ++ x)) ((f v ++ flat_map f l) ++ x)
      (behind (f v) (flat_map f (set l p w)) (flat_map f l ++ x) (gain l p d w x (omega (arith, lt)) h))
      (same_elements (f v ++ (flat_map f l ++ x)) ((f v ++ flat_map f l) ++ x) (sym (append_assoc (f v) (flat_map f l) x)))

pub gain_sum : {V : Type 0} (g : V → ℕ) (l : List V) (p : ℕ) (d w : V) (n : ℕ) → p < length l → g w ≡ g (get_or l p d) + n
    → sum_by g (set l p w) ≡ sum_by g l + n
gain_sum g [] p d w n lt h = absurd (omega (arith, lt))
gain_sum g (v ∷ l) zero d w n lt h = let a = sum_by-cons g w l in let b = sum_by-cons g v l in omega (arith, a, b, h)
gain_sum g (v ∷ l) (suc p) d w n lt h = let a = sum_by-cons g v (set l p w) in let b = sum_by-cons g v l in
    let r = gain_sum g l p d w n (omega (arith, lt)) h in omega (arith, a, b, r)

pub same_set : {V B : Type 0} (f : V → B) (l : List V) (p : ℕ) (d w : V) → f w ≡ f (get_or l p d) → map f (set l p w) ≡ map f l
same_set f [] p d w e = refl
same_set f (v ∷ l) zero d w e = ap (λ x. x ∷ map f l) e
same_set f (v ∷ l) (suc p) d w e = ap (λ xs. f v ∷ xs) (same_set f l p d w e)

sum_flat : {H : Type 0} (ws : List (PoolEndpoint H)) → shares_in (owns_of ws) ≡ sum_by (λ (w : PoolEndpoint H). shares_in w.own_deque) ws
sum_flat [] = refl
sum_flat {H} (w ∷ ws) =
    let shares : PoolPort H → ℕ = λ l. l.ledger.shares in
    let a = sum_by-append shares w.own_deque (owns_of ws) in let b = sum_by-cons (λ (v : PoolEndpoint H). shares_in v.own_deque) w ws in let r = sum_flat ws in
    omega (arith, a, b, r)

module _ {H : Type 0} where
  -- a handle may join what another may, if both have the same deque
  may_join : (xs ys : List (PoolPort H)) (t : Part H) → map (where_is {H = H}) ys ≡ map (where_is {H = H}) xs → MayJoin xs t → MayJoin ys t
  may_join [] ys t e h = absurd h
  may_join (x ∷ xs) [] t e h = absurd (subst IsNone e tt)
    where
      IsNone : List (Where H) → Type 0
      IsNone [] = Unit {0}
      IsNone (w ∷ ws) = ⊥
  may_join (x ∷ xs) (y ∷ ys) t e h = (h.0 ∙ sym (ap spot_or e), h.1)
    where
      spot_or : List (Where H) → QueueInfo
      spot_or [] = x.queue
      spot_or (w ∷ ws) = w.queue

  pub still_among : (old new : List (PoolEndpoint H)) (t : Part H) → map (frame_of {H = H}) new ≡ map (frame_of {H = H}) old → IsAmong old t → IsAmong new t
  still_among old new t e h =
      let n : ℕ = owner_of t.queue in
      let count : length new ≡ length old = sym (length-map new (frame_of {H = H})) ∙ ap length e ∙ length-map old (frame_of {H = H}) in
      let there : n < length old = h.0 in
      let there' : n < length new = omega (arith, count, there) in (
        there',
        λ d. may_join (get_or old n d).own_deque (get_or new n d).own_deque t
            (ap (λ (f : Frame H). f.own_deque) (sym (get_or-map (frame_of {H = H}) new n d (frame_of d) there') ∙ ap (λ l. get_or l n (frame_of d)) e
            ∙ get_or-map (frame_of {H = H}) old n d (frame_of d) there)) (h.1 d),
      )

  -- one port more of this own deque
  own_gain : (f : PoolPort H → List (Claim H)) (own_deque : List (PoolPort H)) (t : PoolPort H) (rest : List (PoolPort H)) → MayJoin own_deque (part_of t)
      → ((l : PoolPort H) → f (joined l t) ≡ f l ++ f t)
      → IsPermutation (flat_map f (joined_first own_deque t ++ rest)) (flat_map f (own_deque ++ rest) ++ f t)
  own_gain f [] t rest may step = absurd may
  own_gain f (o ∷ own_deque) t rest may step =
      let r = flat_map f (own_deque ++ rest) in
      from_left (f (joined o t) ++ r) ((f o ++ f t) ++ r) ((f o ++ r) ++ f t) (ap (λ l. l ++ r) (step o))
      (from_left ((f o ++ f t) ++ r) (f o ++ (f t ++ r)) ((f o ++ r) ++ f t) (append_assoc (f o) (f t) r)
      (IsPermutation-trans (f o ++ (f t ++ r)) (f o ++ (r ++ f t)) ((f o ++ r) ++ f t)
      (behind (f o) (f t ++ r) (r ++ f t) (IsPermutation-append_comm (f t) r))
      (same_elements (f o ++ (r ++ f t)) ((f o ++ r) ++ f t) (sym (append_assoc (f o) r (f t))))))

  own_shares : (own_deque : List (PoolPort H)) (t : PoolPort H) → MayJoin own_deque (part_of t) → shares_in (joined_first own_deque t) ≡ shares_in own_deque + t.ledger.shares
  own_shares [] t may = absurd may
  own_shares (o ∷ own_deque) t may =
      let shares : PoolPort H → ℕ = λ l. l.ledger.shares in
      let a = sum_by-cons shares (joined o t) own_deque in let b = sum_by-cons shares o own_deque in omega (arith, a, b)

  own_where : (own_deque : List (PoolPort H)) (t : PoolPort H) → map (where_is {H = H}) (joined_first own_deque t) ≡ map (where_is {H = H}) own_deque
  own_where [] t = refl
  own_where (o ∷ own_deque) t = refl

  pub gathers_none : (old : List (PoolEndpoint H)) → Gathers old [] old
  gathers_none old = record {
    frames = refl;
    next_workers = refl;
    pushed = same_elements (pushed_by old) (pushed_by old ++ []) (sym (append-nil (pushed_by old)));
    taken = same_elements (taken_by old) (taken_by old ++ []) (sym (append-nil (taken_by old)));
    shares = omega arith;
  }

  pub gathers_one : (old mid : List (PoolEndpoint H)) (more : List (PoolPort H)) (t : PoolPort H) (d : PoolEndpoint H) → Gathers old more mid → IsAmong mid (part_of t)
      → Gathers old (more ++ t ∷ []) (set mid (owner_of t.queue) (record (get_or mid (owner_of t.queue) d)
      { own_deque = joined_first (get_or mid (owner_of t.queue) d).own_deque t }))
  gathers_one old mid more t d g among =
      let n : ℕ = owner_of t.queue in let lt : n < length mid = among.0 in
      let w : PoolEndpoint H = get_or mid n d in let may = among.1 d in
      let w' : PoolEndpoint H = record w { own_deque = joined_first w.own_deque t } in
      let one : PoolPort H → List (PoolPort H) = λ l. l ∷ [] in
      let pushes : PoolPort H → List (Claim H) = λ l. claims_in l.ledger.pushed in
      let takes : PoolPort H → List (Claim H) = λ l. claims_in l.ledger.taken in
      let shares : PoolPort H → ℕ = λ l. l.ledger.shares in
      let step : (f : PoolPort H → List (Claim H)) → ((l : PoolPort H) → f (joined l t) ≡ f l ++ f t)
      → IsPermutation (flat_map (λ (v : PoolEndpoint H). flat_map f (ports_of v)) (set mid n w')) (flat_map (λ (v : PoolEndpoint H). flat_map f (ports_of v)) mid ++ f t)
      = λ f e. gain (λ (v : PoolEndpoint H). flat_map f (ports_of v)) mid n d w' (f t) lt (own_gain f w.own_deque t (w.shared_port ∷ w.next) may e) in
      let add : (f : PoolPort H → List (Claim H)) (x y z : List (Claim H)) → IsPermutation z (y ++ f t) → IsPermutation y (x ++ flat_map f more)
      → IsPermutation z (x ++ flat_map f (more ++ t ∷ []))
      = λ f x y z h k. IsPermutation-trans z (y ++ f t) (x ++ flat_map f (more ++ t ∷ [])) h
      (IsPermutation-trans (y ++ f t) ((x ++ flat_map f more) ++ f t) (x ++ flat_map f (more ++ t ∷ []))
      (before y (x ++ flat_map f more) (f t) k)
      (same_elements ((x ++ flat_map f more) ++ f t) (x ++ flat_map f (more ++ t ∷ []))
      (append_assoc x (flat_map f more) (f t) ∙ ap (λ l. x ++ l) (sym
      (flat_map-append f more (t ∷ []) ∙ ap (λ l. flat_map f more ++ l) (append-nil (f t))))))) in
      let claims = λ (a b : List (IndexedClaim (Claim H))). map-append (λ (x : IndexedClaim (Claim H)). x.claim) a b in
      record {
        frames = same_set (frame_of {H = H}) mid n d w' (ap (λ (o : List (Where H)). let f : Frame H = record { own_deque = o; shared_port = w.shared_port } in f)
            (own_where w.own_deque t)) ∙ g.frames;
        next_workers = same_set (λ (v : PoolEndpoint H). v.next) mid n d w' refl ∙ g.next_workers;
        pushed = add pushes (pushed_by old) (pushed_by mid) (pushed_by (set mid n w'))
            (step pushes (λ l. claims l.ledger.pushed t.ledger.pushed)) g.pushed;
        taken = add takes (taken_by old) (taken_by mid) (taken_by (set mid n w')) (step takes (λ l. claims l.ledger.taken t.ledger.taken)) g.taken;
        shares = let a = sum_flat (set mid n w') in let b = sum_flat mid in
            let c = gain_sum (λ (v : PoolEndpoint H). shares_in v.own_deque) mid n d w' t.ledger.shares lt (own_shares w.own_deque t may) in
            let e = g.shares in let f = sum_by-append shares more (t ∷ []) in let h = sum_by-cons shares t [] in omega (arith, a, b, c, e, f, h);
      }

  abbrev pub next_in : PoolEndpoint H → List (PoolPort H)
  next_in w = w.next

  abbrev pub nothing : List (PoolPort H) → List (PoolPort H)
  nothing l = []

  abbrev pub given_of : List (List (PoolPort H)) → List (PoolPort H)
  given_of = flat_map (λ (l : List (PoolPort H)). l)

  -- after the ports of the first handles were taken
  pub record Gathering (old : List (PoolEndpoint H)) (k : ℕ) (now : List (PoolEndpoint H)) : Type 0 where
    pub frames : map (frame_of {H = H}) now ≡ map (frame_of {H = H}) old
    pub next_workers : map next_in now ≡ upto nothing k (map next_in old)
    pub pushed : IsPermutation (pushed_by now) (pushed_by old)
    pub taken : IsPermutation (taken_by now) (taken_by old)
    pub shares : shares_in (owns_of now) ≡ shares_in (owns_of old) + shares_in (given_of (take k (map next_in old)))

  pub gathering_none : (old : List (PoolEndpoint H)) → Gathering old 0 old
  gathering_none old = record {
    frames = refl;
    next_workers = refl;
    pushed = IsPermutation-refl (pushed_by old);
    taken = IsPermutation-refl (taken_by old);
    shares = omega arith;
  }

  nexts_flat : (ws : List (PoolEndpoint H)) → nexts_of ws ≡ given_of (map next_in ws)
  nexts_flat [] = refl
  nexts_flat (w ∷ ws) = ap (λ l. w.next ++ l) (nexts_flat ws)

  flat_nothing : (ls : List (List (PoolPort H))) → given_of (map nothing ls) ≡ []
  flat_nothing [] = refl
  flat_nothing (l ∷ ls) = flat_nothing ls

  count_handles : (old now : List (PoolEndpoint H)) → map (frame_of {H = H}) now ≡ map (frame_of {H = H}) old → length now ≡ length old
  count_handles old now e = sym (length-map now (frame_of {H = H})) ∙ ap length e ∙ length-map old (frame_of {H = H})

  pub gathering_all : (old now : List (PoolEndpoint H)) (k : ℕ) → length old ≤ k → Gathering old k now → AreGathered old now
  gathering_all old now k le g =
      let l = length-map old next_in in
      let all : length (map next_in old) ≤ k = omega (arith, l, le) in record {
        frames = g.frames;
        next_workers = nexts_flat now ∙ ap given_of (g.next_workers ∙ upto_all nothing (map next_in old) k all) ∙ flat_nothing (map next_in old);
        pushed = g.pushed;
        taken = g.taken;
        shares = g.shares ∙ ap (λ x. shares_in (owns_of old) + shares_in x) (ap given_of (take_all k (map next_in old) all) ∙ sym (nexts_flat old));
      }

  all_at : (P : PoolPort H → Type 0) (ws : List (PoolEndpoint H)) (k : ℕ) (d : PoolEndpoint H) → k < length ws → All P (nexts_of ws) → All P (get_or ws k d).next
  all_at P [] k d lt h = absurd (omega (arith, lt))
  all_at P (w ∷ ws) zero d lt h = all_left P w.next (nexts_of ws) h
  all_at P (w ∷ ws) (suc k) d lt h = all_at P ws k d (omega (arith, lt)) (all_right P w.next (nexts_of ws) h)

  -- the ports of the next handle in order are taken
  module _ (old now : List (PoolEndpoint H)) (k : ℕ) (d : PoolEndpoint H) (lt : k < length now) (g : Gathering old k now) where
    abbrev pub giver : PoolEndpoint H
    giver = get_or now k d

    abbrev pub mid : List (PoolEndpoint H)
    mid = set now k (record giver { next = [] })

    mid_frames : map (frame_of {H = H}) mid ≡ map (frame_of {H = H}) now
    mid_frames = same_set (frame_of {H = H}) now k d (record giver { next = [] }) refl

    -- all of them are still ports of the matching handles
    pub still_matched : All (λ (l : PoolPort H). IsAmong old (part_of l)) (nexts_of old) → All (λ (l : PoolPort H). IsAmong mid (part_of l)) giver.next
    still_matched h =
        let count = count_handles old now g.frames in let lt' : k < length old = omega (arith, count, lt) in
        let e : giver.next ≡ (get_or old k d).next = sym (get_or-map next_in now k d d.next lt) ∙ ap (λ l. get_or l k d.next) g.next_workers
        ∙ upto_at nothing (map next_in old) k d.next ∙ get_or-map next_in old k d d.next lt' in
        let Among : PoolPort H → Type 0 = λ l. IsAmong old (part_of l) in let Still : PoolPort H → Type 0 = λ l. IsAmong mid (part_of l) in
        All-weaker Among Still (λ l x. still_among old mid (part_of l) (mid_frames ∙ g.frames) x) giver.next
        (subst (All Among) (sym e) (all_at Among old k d lt' h))

    pub gathering_more : (new : List (PoolEndpoint H)) → Gathers mid giver.next new → Gathering old (k + 1) new
    gathering_more new j =
        let count = count_handles old now g.frames in
        let there : k < length (map next_in old) = let l = length-map old next_in in omega (arith, count, l, lt) in
        let w : PoolEndpoint H = giver in let w0 : PoolEndpoint H = record giver { next = [] } in
        let suc_is : suc k ≡ k + 1 = omega arith in
        let back : set mid k w ≡ now = set-set now k w0 w ∙ set-get_or now k d in
        let at : get_or mid k d ≡ w0 = get_or-set_same now k w0 d lt in
        let count' : length mid ≡ length now = length-set now k w0 in
        let lt' : k < length mid = omega (arith, count', lt) in
        let split : (f : PoolPort H → List (Claim H)) → flat_map f (ports_of w) ≡ flat_map f (ports_of w0) ++ flat_map f w.next
        = λ f. ap (flat_map f) (sym (append_assoc w.own_deque (w.shared_port ∷ []) w.next)) ∙ flat_map-append f (w.own_deque ++ w.shared_port ∷ []) w.next in
        let loss : (f : PoolPort H → List (Claim H)) → IsPermutation (flat_map (λ (v : PoolEndpoint H). flat_map f (ports_of v)) now)
        (flat_map (λ (v : PoolEndpoint H). flat_map f (ports_of v)) mid ++ flat_map f w.next)
        = λ f. subst (λ l. IsPermutation (flat_map (λ (v : PoolEndpoint H). flat_map f (ports_of v)) l)
        (flat_map (λ (v : PoolEndpoint H). flat_map f (ports_of v)) mid ++ flat_map f w.next)) back
        (gain (λ (v : PoolEndpoint H). flat_map f (ports_of v)) mid k d w (flat_map f w.next) lt'
        (same_elements (flat_map f (ports_of w)) (flat_map f (ports_of (get_or mid k d)) ++ flat_map f w.next)
        (split f ∙ ap (λ (v : PoolEndpoint H). flat_map f (ports_of v) ++ flat_map f w.next) (sym at)))) in
        let kept : (f : PoolPort H → List (Claim H)) → IsPermutation (flat_map (λ (v : PoolEndpoint H). flat_map f (ports_of v)) new)
        (flat_map (λ (v : PoolEndpoint H). flat_map f (ports_of v)) mid ++ flat_map f w.next)
        → IsPermutation (flat_map (λ (v : PoolEndpoint H). flat_map f (ports_of v)) now) (flat_map (λ (v : PoolEndpoint H). flat_map f (ports_of v)) old)
        → IsPermutation (flat_map (λ (v : PoolEndpoint H). flat_map f (ports_of v)) new) (flat_map (λ (v : PoolEndpoint H). flat_map f (ports_of v)) old)
        = λ f a b. let F = λ (l : List (PoolEndpoint H)). flat_map (λ (v : PoolEndpoint H). flat_map f (ports_of v)) l in
        IsPermutation-trans (F new) (F mid ++ flat_map f w.next) (F old) a
        (IsPermutation-trans (F mid ++ flat_map f w.next) (F now) (F old)
        (IsPermutation-sym (F now) (F mid ++ flat_map f w.next) (loss f)) b) in
        let same_own : shares_in (owns_of mid) ≡ shares_in (owns_of now) =
        let a = sum_flat mid in let b = sum_flat now in let c = gain_sum (λ (v : PoolEndpoint H). shares_in v.own_deque) now k d w0 0 lt
        (let e : shares_in w0.own_deque ≡ shares_in w.own_deque + 0 = omega arith in e) in omega (arith, a, b, c) in
        let mine : w.next ≡ get_or (map next_in old) k d.next = sym (get_or-map next_in now k d d.next lt) ∙ ap (λ l. get_or l k d.next) g.next_workers
        ∙ upto_at nothing (map next_in old) k d.next in
        let more : given_of (take (suc k) (map next_in old)) ≡ given_of (take k (map next_in old)) ++ w.next =
        ap given_of (take_suc (map next_in old) k d.next there) ∙ flat_map-append (λ (l : List (PoolPort H)). l) (take k (map next_in old))
        (get_or (map next_in old) k d.next ∷ [])
        ∙ ap (λ l. given_of (take k (map next_in old)) ++ l) (append-nil (get_or (map next_in old) k d.next) ∙ sym mine) in
        record {
          frames = j.frames ∙ mid_frames ∙ g.frames;
          next_workers = j.next_workers ∙ map-set next_in now k w0 ∙ ap (λ l. set l k []) g.next_workers ∙ upto_set nothing (map next_in old) k d.next there
              ∙ ap (λ n. upto nothing n (map next_in old)) suc_is;
          pushed = kept (λ (l : PoolPort H). claims_in l.ledger.pushed) j.pushed g.pushed;
          taken = kept (λ (l : PoolPort H). claims_in l.ledger.taken) j.taken g.taken;
          shares =
              let a = j.shares in let b = g.shares in
              let c = sum_by-append (λ (l : PoolPort H). l.ledger.shares) (given_of (take k (map next_in old))) w.next in
              let e : shares_in (owns_of new) ≡ shares_in (owns_of old) + shares_in (given_of (take k (map next_in old)) ++ w.next) =
              omega (arith, a, b, c, same_own) in
              e ∙ ap (λ x. shares_in (owns_of old) + shares_in x) (sym more ∙ ap (λ n. given_of (take n (map next_in old))) suc_is);
        }
