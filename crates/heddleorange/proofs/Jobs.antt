-- The jobs of senders, before a run and after.
use Rattle.std.proofs.Common.{◌≡◌, inl, inr, ℕ, zero, suc, ◌+◌, ◌<◌, List, [], ◌∷◌, ◌++◌, length, map, get_or, refl, sym, ap, ◌∙◌, subst, arith, Some}
use Rattle.std.proofs.Common.{length-append, take, Vec}
use Rattle.std.specs.Prelude.{◌≢◌, All, Contains, slice_get}
use Rattle.std.specs.List.{AllZip}
use Rattle.std.specs.Global.{Box, Global}
use Rattle.std.proofs.lemmas.List.{map-append, take_more}
use Rattle.std.proofs.lemmas.List.Elements.{All-map}
use Rattle.std.proofs.lemmas.Option.{get_or_from_slice_get, none-some, same_Some, slice_get_within}
use Rattle.mb_actor.specs.Behaviour.{Moment, Reply}
use Rattle.mb_gate.specs.declared.gates.Gates.{Gates}
use Rattle.mb_home.specs.Contents.{Contents}
use Rattle.mb_msg.specs.declared.order.Order.{Order}
use Rattle.mb_system.specs.Members.{IsSenderOf, OutsideSender}
use Rattle.mb_system.specs.declared.handle.WorkerHandle.{WorkerHandle}
use Rattle.mb_system.specs.declared.failure.RunError.{RunError}
use Rattle.mb_system.specs.declared.system.System.{System}
use Rattle.mb_gate.specs.Accessors.{pass_view}
use Rattle.mb_dispatch.specs.Faults.{BreaksRun}
use Rattle.mb_dispatch.specs.Jobs.{AreDone, AreJobsOf, IsDone}
use Rattle.mb_dispatch.specs.Parallel.{FirstZip}
use Rattle.mb_dispatch.specs.declared.job.Job.{Job}
use Rattle.mb_dispatch.proofs.Alike.{from-looks}
use Rattle.mb_dispatch.proofs.Breaking.{job-sending}
use Rattle.mb_shutdown.proofs.Lists.{from-mapped, length-mapped, mapped}
use Rattle.heddleorange.specs.Sent.{HasSentAndRetried, HaveSent}
use Rattle.heddleorange.proofs.AnyBreak.{BreaksOff}

-- one of some
pub some-one : {X : Type 0} (xs : List X) → xs ≢ [] → (x : X) × Contains xs x
some-one [] some = absurd (some refl)
some-one (x ∷ xs) some = (x, (0, omega arith, refl))

-- a place before one more, and what is left, is within
pub place-left : {X : Type 0} (before rest all : List X) (x : X) → before ++ x ∷ rest ≡ all → length before < length all
place-left before rest all x is = let long = ap length is in let both = length-append before (x ∷ rest) in omega (arith, long, both)

-- all that there are, taken from the front, are those
pub take-whole : {X : Type 0} (xs : List X) → take (length xs) xs ≡ xs
take-whole [] = refl
take-whole (x ∷ xs) = ap (λ l. x ∷ l) (take-whole xs)

module _ {X Y : Type 0} (R : X → Y → Type 0) where
  -- what holds at each place of two lists holds at this one
  zip-at : (xs : List X) (ys : List Y) (place : ℕ) (x : X) (y : Y) → AllZip R xs ys → slice_get xs place ≡ Some x → slice_get ys place ≡ Some y → R x y
  zip-at [] ys place x y all was is = absurd (none-some x was)
  zip-at (a ∷ xs) [] place x y all was is = absurd (none-some y is)
  zip-at (a ∷ xs) (b ∷ ys) zero x y all was is = subst (λ z. R z y) (same_Some a x was) (subst (R a) (same_Some b y is) all.0)
  zip-at (a ∷ xs) (b ∷ ys) (suc place) x y all was is = zip-at xs ys place x y all.1 was is

  zip-length : (xs : List X) (ys : List Y) → AllZip R xs ys → length ys ≡ length xs
  zip-length [] [] all = refl
  zip-length [] (b ∷ ys) all = absurd all
  zip-length (a ∷ xs) [] all = absurd all
  zip-length (a ∷ xs) (b ∷ ys) all = ap suc (zip-length xs ys all.1)

module _ {X : Type 0} where
  -- the first place at which something holds
  pub first-zip-of : (Done Fails : X → X → Type 0) (xs ys : List X) → FirstZip Done Fails xs ys
      → (place : ℕ) × (x : X) × (slice_get xs place ≡ Some x) × (y : X) × (slice_get ys place ≡ Some y) × Fails x y
  first-zip-of Done Fails [] ys failed = absurd failed
  first-zip-of Done Fails (x ∷ xs) [] failed = absurd failed
  first-zip-of Done Fails (x ∷ xs) (y ∷ ys) (inl here) = (0, x, refl, y, refl, here)
  first-zip-of Done Fails (x ∷ xs) (y ∷ ys) (inr there) =
      let one = first-zip-of Done Fails xs ys there.1 in (suc one.0, one.1, one.2, one.3, one.4, one.5)

  -- what stands at a place is one of all
  pub placed-there : (xs : List X) (place : ℕ) (x : X) → slice_get xs place ≡ Some x → Contains xs x
  placed-there xs place x is = (place, slice_get_within xs place x is, get_or_from_slice_get xs place x x is)

abbrev pub items_of : Vec Order Global → List Order
items_of v = v.items

module _ {A K : Type 0} where
  abbrev pub sender_in : Job A K → OutsideSender
  sender_in j = j.sender

  abbrev pub sends_in : Job A K → List Order
  sends_in j = j.sends.items

  -- a job more
  pub job-pushed : (yielded : List OutsideSender) (jobs new : List (Job A K)) (s : OutsideSender) (j : Job A K) → map sender_in jobs ≡ yielded
      → new ≡ jobs ++ j ∷ [] → j.sender ≡ s → map sender_in new ≡ yielded ++ s ∷ []
  job-pushed yielded jobs new s j are pushed sender =
      ap (map sender_in) pushed ∙ map-append sender_in jobs (j ∷ []) ∙ (λ i. are i ++ sender i ∷ [])

  -- the next job has a list of orders
  pub next-has-orders : (sends : List (Vec Order Global)) (yielded rest all : List OutsideSender) (jobs : List (Job A K)) (s : OutsideSender)
      → yielded ++ s ∷ rest ≡ all → map sender_in jobs ≡ yielded → length all ≡ length sends → length jobs < length sends
  next-has-orders sends yielded rest all jobs s whole are many =
      let place = place-left yielded rest all s whole in
      let as_many : length jobs ≡ length yielded = sym (length-mapped sender_in jobs) ∙ ap length are in omega (arith, place, as_many, many)

  pub sends-pushed : (sends : List (Vec Order Global)) (jobs new : List (Job A K)) (j : Job A K) (d : Vec Order Global) → length jobs < length sends
      → map sends_in jobs ≡ map items_of (take (length jobs) sends) → new ≡ jobs ++ j ∷ [] → j.sends.items ≡ (get_or sends (length jobs) d).items
      → map sends_in new ≡ map items_of (take (length new) sends)
  sends-pushed sends jobs new j d lt are pushed own =
      let n = length jobs in
      let long : length new ≡ n + 1 = ap length pushed ∙ length-append jobs (j ∷ []) in
      ap (map sends_in) pushed ∙ map-append sends_in jobs (j ∷ []) ∙ (λ i. are i ++ own i ∷ [])
      ∙ sym (map-append items_of (take n sends) (get_or sends n d ∷ [])) ∙ ap (map items_of) (sym (take_more sends n d lt))
      ∙ ap (λ k. map items_of (take k sends)) (sym long)

  module _ (gates : Gates (Box Contents)) where
    -- jobs of the gates' senders are the gates'
    pub jobs-ours : (senders : List OutsideSender) (jobs : List (Job A K)) → map sender_in jobs ≡ senders → All (IsSenderOf gates) senders → AreJobsOf gates jobs
    jobs-ours senders jobs are all = from-looks sender_in (IsSenderOf gates) jobs (subst (All (IsSenderOf gates)) (sym are) all)

    pub senders-ours : (senders : List OutsideSender) (jobs : List (Job A K)) → senders ≡ map sender_in jobs → AreJobsOf gates jobs → All (IsSenderOf gates) senders
    senders-ours senders jobs are all = subst (All (IsSenderOf gates)) (sym are) (All-map (IsSenderOf gates) sender_in jobs all)

    -- jobs that are done have sent what they were to send
    pub jobs-sent : (orders : List (List Order)) (jobs done : List (Job A K)) → map sends_in jobs ≡ orders → AreDone gates jobs done
        → HaveSent gates orders (map sender_in jobs) (map sender_in done)
    jobs-sent orders jobs done sends all = record {
      same_count = length-mapped sender_in done ∙ zip-length (IsDone gates) jobs done all ∙ sym (length-mapped sender_in jobs);
      each = one;
    }
      where
        one : (place : ℕ) (of : List Order) (before after : OutsideSender) → slice_get orders place ≡ Some of
            → slice_get (map sender_in jobs) place ≡ Some before → slice_get (map sender_in done) place ≡ Some after
            → HasSentAndRetried gates of before after
        one place of before after told was is =
            let j = from-mapped sender_in jobs place before was in let d = from-mapped sender_in done place after is in
            let did = zip-at (IsDone gates) jobs done place j.0 d.0 all j.1 d.1 in
            let same : sends_in j.0 ≡ of =
            same_Some (sends_in j.0) of (sym (mapped sends_in jobs place j.0 j.1) ∙ ap (λ l. slice_get l place) sends ∙ told) in
            let here : HasSentAndRetried gates (sends_in j.0) (sender_in j.0) (sender_in d.0) = (did.sent, did.nobody, did.obligations) in
            subst (λ o. HasSentAndRetried gates o before after) same
            (subst (λ s. HasSentAndRetried gates (sends_in j.0) s after) j.2
            (subst (HasSentAndRetried gates (sends_in j.0) (sender_in j.0)) d.2 here))

  -- why a run of these jobs is broken off, in the words of the orders
  module _ (gives : ℕ → Moment → Reply → Type 0) (system : System A K) (old handles : List (WorkerHandle A K)) (jobs : List (Job A K)) (orders : List (List Order))
      (sends : map sends_in jobs ≡ orders) where
    pub broke-off : (after : List (Job A K)) (error : RunError) → BreaksRun gives system old handles jobs after error
        → BreaksOff gives system handles orders error
    broke-off after error (inl by_end) = let one = first-zip-of _ _ old handles by_end in
        inr (pass_view one.1.registrar.pass, one.3, placed-there handles one.0 one.3 one.4, inr one.5)
    broke-off after error (inr by_job) =
        let one = first-zip-of _ _ jobs after by_job.1 in
        let sent = ap (λ l. slice_get l one.0) (sym sends) ∙ mapped sends_in jobs one.0 one.1 one.2 in
        inl (one.0, sends_in one.1, sent, job-sending system.gates (sends_in one.1) (sender_in one.1) (sender_in one.3) error one.5)
