-- Senders that carry out their orders, one after another.
use Rattle.std.proofs.Common.{◌≡◌, ◌⊎◌, inl, inr, ℕ, zero, suc, ◌+◌, ◌-◌, ◌<◌, ◌≤◌, List, [], ◌∷◌, length, map, refl, sym, ap, ◌∙◌, subst, Some}
use Rattle.std.proofs.Common.{arith, get_or, Vec}
use Rattle.std.specs.Prelude.{◌≢◌, All, Err, IfErr, IfOk, IsErrAnd, Ok, OnOk, Result, slice_get, slice_set}
use Rattle.std.specs.Global.{Box, Global}
use Rattle.std.proofs.lemmas.Bool.{cases_eq}
use Rattle.std.proofs.lemmas.List.{length-set}
use Rattle.std.proofs.lemmas.Option.{same_Some, slice_get_read, slice_get_within}
use Rattle.mb_msg.specs.Limits.{most_actors}
use Rattle.mb_msg.specs.declared.id.SenderId.{SenderId}
use Rattle.mb_actor.specs.Behaviour.{Moment, Reply}
use Rattle.mb_gate.specs.Accessors.{actors_of, pass_view}
use Rattle.mb_gate.specs.Rule.{IsPart}
use Rattle.mb_gate.specs.Untouched.{Origin}
use Rattle.mb_gate.specs.declared.gates.Gates.{Gates}
use Rattle.mb_home.specs.Contents.{Contents}
use Rattle.mb_register.specs.ActorSet.{IsNobody}
use Rattle.mb_shutdown.proofs.Lists.{mapped, same-maps, there}
use Rattle.mb_system.specs.Belonging.{BelongsTogether, senders_numbers}
use Rattle.mb_system.specs.Obligations.{HasNoObligationTo}
use Rattle.mb_system.specs.Members.{IsHandleOf, IsSenderOf, OutsideSender, StillSee, handle_caller, handle_numbers}
use Rattle.mb_system.specs.declared.built.Built.{Built}
use Rattle.mb_system.specs.declared.handle.WorkerHandle.{WorkerHandle}
use Rattle.mb_msg.specs.declared.order.Order.{Order}
use Rattle.mb_system.specs.declared.system.System.{System}
use Rattle.mb_dispatch.proofs.Alike.{look-alike}
use Rattle.mb_dispatch.proofs.Together.{again, by_of}
use Rattle.mb_dispatch.proofs.Runs.{no-run}
use Rattle.mb_dispatch.specs.Alone.{FirstAlone, KeepsAlone}
use Rattle.mb_dispatch.specs.Runs.{OnlyRuns}
use Rattle.mb_dispatch.specs.Working.{HasSettled}
use Rattle.mb_shutdown.proofs.Parts.{part-same}
use Rattle.heddleorange.specs.Sent.{FoundNothing, HasSentAndRetried, HaveSent}
use Rattle.heddleorange.specs.Workers.{AllOnlyRuns}

-- what holds of an error holds where it is passed on
pub err-of : {T E : Type 0} (Q : E → Type 0) (r : Result T E) (e : E) → IsErrAnd r (λ y. y ≡ e) → Q e → IfErr r Q
err-of Q (Ok x) e passed holds = tt
err-of Q (Err y) e passed holds = subst Q (sym passed) holds

-- what holds anyway, and what follows of three that hold where all went well
module _ {T E : Type 0} where
  pub on-ok : {P : Type 0} (r : Result T E) → P → OnOk r P
  on-ok (Ok x) p = p
  on-ok (Err e) p = tt

  pub ok-gives : (P : T → Type 0) (Q : Type 0) (r : Result T E) → ((x : T) → P x → Q) → IfOk r P → OnOk r Q
  ok-gives P Q (Ok x) f p = f x p
  ok-gives P Q (Err e) f p = tt

  pub all-ok : {P : Type 0} {Q R S : T → Type 0} (r : Result T E) → OnOk r P → IfOk r Q → IfOk r R → ((x : T) → P → Q x → R x → S x) → IfOk r S
  all-ok (Ok x) p q s all = all x p q s
  all-ok (Err e) p q s all = tt

  pub ok-both : {P Q S : Type 0} (r : Result T E) → OnOk r P → OnOk r Q → (P → Q → S) → OnOk r S
  ok-both (Ok x) p q both = both p q
  ok-both (Err e) p q both = tt

  pub ok-of : {P : T → Type 0} {Q : Type 0} (r : Result T E) → IfOk r P → ((x : T) → P x → Q) → OnOk r Q
  ok-of (Ok x) p f = f x p
  ok-of (Err e) p f = tt

  pub ok-each : {P Q : T → Type 0} (r : Result T E) → IfOk r P → ((x : T) → P x → Q x) → IfOk r Q
  ok-each (Ok x) p f = f x p
  ok-each (Err e) p f = tt

  pub err-weaker : (P Q : E → Type 0) (r : Result T E) → ((e : E) → P e → Q e) → IfErr r P → IfErr r Q
  err-weaker P Q (Ok x) f p = tt
  err-weaker P Q (Err e) f p = f e p

module _ {X : Type 0} where
  pub set-here : (xs : List X) (n : ℕ) (x : X) → n < length xs → slice_get (slice_set xs n x) n ≡ Some x
  set-here [] n x lt = absurd (omega (arith, lt))
  set-here (y ∷ xs) zero x lt = refl
  set-here (y ∷ xs) (suc n) x lt = set-here xs n x (omega (arith, lt))

  pub set-other : (xs : List X) (n k : ℕ) (x : X) → (k ≡ n → ⊥) → slice_get (slice_set xs n x) k ≡ slice_get xs k
  set-other [] n k x other = refl
  set-other (y ∷ xs) zero zero x other = absurd (other refl)
  set-other (y ∷ xs) zero (suc k) x other = refl
  set-other (y ∷ xs) (suc n) zero x other = refl
  set-other (y ∷ xs) (suc n) (suc k) x other = set-other xs n k x (λ e. other (ap suc e))

-- those before this place became what they are to, and the others are as they were
module _ {X : Type 0} (R : ℕ → X → X → Type 0) where
  pub record AreUpTo (n : ℕ) (old new : List X) : Type 0 where
    pub same_count : length new ≡ length old
    pub done : (k : ℕ) (a b : X) → k < n → slice_get old k ≡ Some a → slice_get new k ≡ Some b → R k a b
    pub rest : (k : ℕ) → n ≤ k → slice_get new k ≡ slice_get old k

  pub none-done : (xs : List X) → AreUpTo 0 xs xs
  none-done xs = record { same_count = refl; done = λ k a b lt. absurd (omega (arith, lt)); rest = λ k le. refl }

  pub one-done : (n : ℕ) (old now : List X) (a b : X) → AreUpTo n old now → slice_get now n ≡ Some a → R n a b
      → AreUpTo (n + 1) old (slice_set now n b)
  one-done n old now a b so here did = record {
    same_count = length-set now n b ∙ so.same_count;
    done = λ k x y lt was is. at k x y lt was is (cases_eq k n);
    rest = λ k le. set-other now n k b (λ e. omega (arith, e, le)) ∙ so.rest k (omega (arith, le));
  }
    where
      at : (k : ℕ) (x y : X) → k < n + 1 → slice_get old k ≡ Some x → slice_get (slice_set now n b) k ≡ Some y → (k ≡ n) ⊎ (k ≡ n → ⊥)
          → R k x y
      at k x y lt was is (inl same) =
          let before : a ≡ x = same_Some a x
          (sym here ∙ so.rest n (omega arith) ∙ ap (slice_get old) (sym same) ∙ was) in
          let after : b ≡ y = same_Some b y
          (sym (set-here now n b (slice_get_within now n a here)) ∙ ap (slice_get (slice_set now n b)) (sym same) ∙ is) in
          subst (λ m. R m x y) (sym same) (subst (λ z. R n z y) before (subst (R n a) after did))
      at k x y lt was is (inr other) =
          so.done k x y (omega (arith, lt, other)) was (sym (set-other now n k b other) ∙ is)

-- what is ordered
abbrev pub orders_of : List (Vec Order Global) → List (List Order)
orders_of = map (λ (v : Vec Order Global). v.items)

-- what stands at a place
pub orders-here : (sends : List (Vec Order Global)) (place : ℕ) (v : Vec Order Global) (given : List Order) → place < length sends
    → v ≡ get_or sends place v → given ≡ v.items → slice_get (orders_of sends) place ≡ Some given
orders-here sends place v given lt is same =
    mapped (λ (v : Vec Order Global). v.items) sends place v (slice_get_read sends (length sends) place v refl lt is)
    ∙ ap (λ (l : List Order). Some l) (sym same)

pub orders-at : (sends : List (Vec Order Global)) (place : ℕ) (v : Vec Order Global) (of given : List Order) → place < length sends
    → v ≡ get_or sends place v → given ≡ v.items → slice_get (orders_of sends) place ≡ Some of → given ≡ of
orders-at sends place v of given lt is same there = same_Some given of (sym (orders-here sends place v given lt is same) ∙ there)

module _ (gates : Gates (Box Contents)) (orders : List (List Order)) where
  -- the sender of this place did what was ordered
  abbrev pub Did : ℕ → OutsideSender → OutsideSender → Type 0
  Did place old new = (of : List Order) → slice_get orders place ≡ Some of → HasSentAndRetried gates of old new

  pub all-sent : (n : ℕ) (old new : List OutsideSender) → length old ≤ n → AreUpTo Did n old new → HaveSent gates orders old new
  all-sent n old new all so = record {
    same_count = so.same_count;
    each = λ place of a b is was now.
        (let lt = slice_get_within old place a was in so.done place a b (omega (arith, lt, all)) was now of is);
  }

  module _ (old new : List OutsideSender) (as_many : length old ≡ length orders) (sent : HaveSent gates orders old new) where
    -- each is the sender of the number that it was
    pub by-kept : (place : ℕ) (a b : OutsideSender) → slice_get old place ≡ Some a → slice_get new place ≡ Some b
        → b.send_log.by ≡ a.send_log.by
    by-kept place a b was is =
        let lt = slice_get_within old place a was in
        let of = there orders place (omega (arith, lt, as_many)) in (sent.each place of.0 a b of.1 was is).0.by

    pub senders-kept : map by_of new ≡ map by_of old
    senders-kept = same-maps by_of by_of new old sent.same_count (λ i b a is was. by-kept i a b was is)

    pub numbers-kept : senders_numbers new ≡ senders_numbers old
    numbers-kept = look-alike by_of (λ (n : SenderId). n.0 - most_actors) new old senders-kept

module _ {A K : Type 0} where
  -- all belongs together after that
  pub together-kept : (orders : List (List Order)) (old new : Built A K) → length old.senders.items ≡ length orders → new.system ≡ old.system
      → BelongsTogether old → HaveSent old.system.gates orders old.senders.items new.senders.items
      → All (λ (e : WorkerHandle A K). IsHandleOf old.system.gates e.registrar) new.handles.items
      → All (λ (s : OutsideSender). IsSenderOf old.system.gates s) new.senders.items → BelongsTogether new
  together-kept orders old new as_many same was sent handles senders =
      again old new same handles senders (senders-kept old.system.gates orders old.senders.items new.senders.items as_many sent) was

  -- a handle is put in the place of the first, whose number it has
  pub first-number : (system : System A K) (old new : List (WorkerHandle A K)) → FirstAlone (KeepsAlone system) old new
      → handle_numbers new ≡ handle_numbers old
  first-number system [] new did = absurd did
  first-number system (x ∷ old) [] did = absurd did
  first-number system (x ∷ old) (y ∷ new) did = λ i. did.0.same_handle.number i ∷ handle_numbers (did.1 i)

  -- where handles have the numbers of others that there are, there is one
  pub some-left : (old new : List (WorkerHandle A K)) → old ≢ [] → handle_numbers new ≡ handle_numbers old → 0 < length new
  some-left [] new some same = absurd (some refl)
  some-left (x ∷ old) [] some same = let long = ap length same in absurd (omega (arith, long))
  some-left (x ∷ old) (y ∷ new) some same = omega arith

  pub some-still : (old new : List (WorkerHandle A K)) → old ≢ [] → handle_numbers new ≡ handle_numbers old → new ≢ []
  some-still old new some same none = let long = some-left old new some same in let zero = ap length none in omega (arith, long, zero)

  -- a handle that goes on from the first is put in its place
  see-same : (handles : List (WorkerHandle A K)) → StillSee handles handles
  see-same [] = tt
  see-same (x ∷ handles) = (part-same (pass_view x.registrar.pass).log, see-same handles)

  pub see-on : (system : System A K) (old new : List (WorkerHandle A K)) → FirstAlone (KeepsAlone system) old new → StillSee old new
  see-on system [] new did = absurd did
  see-on system (x ∷ old) [] did = absurd did
  see-on system (x ∷ old) (y ∷ new) did = (did.0.same_handle.log_kept, subst (StillSee old) (sym did.1) (see-same old))

  -- a handle that only made runs since is put in its place
  runs-same : (gives : ℕ → Moment → Reply → Type 0) (origin : Origin (Box Contents)) (throughput : ℕ) (handles : List (WorkerHandle A K))
      → AllOnlyRuns gives origin throughput handles handles
  runs-same gives origin throughput [] = tt
  runs-same gives origin throughput (x ∷ handles) =
      (no-run gives origin throughput (pass_view x.registrar.pass), runs-same gives origin throughput handles)

  pub ran-on : (gives : ℕ → Moment → Reply → Type 0) (origin : Origin (Box Contents)) (throughput : ℕ) (old new : List (WorkerHandle A K))
      → FirstAlone (λ o n. OnlyRuns gives origin throughput (pass_view o.registrar.pass) (pass_view n.registrar.pass)) old new
      → AllOnlyRuns gives origin throughput old new
  ran-on gives origin throughput [] new did = absurd did
  ran-on gives origin throughput (x ∷ old) [] did = absurd did
  ran-on gives origin throughput (x ∷ old) (y ∷ new) did =
      (did.0, subst (AllOnlyRuns gives origin throughput old) (sym did.1) (runs-same gives origin throughput old))

  -- the first of the handles, which ran, found nothing more
  pub found-nothing : (gives : ℕ → Moment → Reply → Type 0) (system : System A K) (old new : List (WorkerHandle A K))
      → FirstAlone (λ o n. HasSettled gives system n) old new → FoundNothing gives system.gates new
  found-nothing gives system [] new did = absurd did
  found-nothing gives system (x ∷ old) [] did = absurd did
  found-nothing gives system (x ∷ old) (y ∷ new) did =
      record { first = y; rest = new; are = refl; nobody = did.0.discharged; settled = did.0.settled; empty = did.0.empty }
