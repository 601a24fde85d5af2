-- Senders that carried out what sources gave, and why that was broken off.
use Rattle.std.proofs.Common.{arith, ◌≡◌, ◌∙◌, ◌+◌, ◌-◌, ℕ, zero, suc, Bool, true, false, List, [], ◌∷◌, Some, inl, inr, length, refl, sym, ap, subst}
use Rattle.std.specs.Prelude.{All, Err, IfErr, IfOk, Ok, OnOk, Option, Result, cond, not, slice_get, ◌||◌}
use Rattle.std.specs.Global.{Box}
use Rattle.std.specs.List.{AllZip, list_any}
use Rattle.std.proofs.lemmas.List.Elements.{All-cons, All-nil}
use Rattle.std.proofs.lemmas.Option.{none-some, same_Some}
use Rattle.mb_actor.specs.Behaviour.{Moment, Reply}
use Rattle.mb_build.proofs.NewHomesLemmas.{length-who}
use Rattle.mb_build.specs.Reasons.{reasons}
use Rattle.mb_gate.specs.Accessors.{actors_of, pass_view}
use Rattle.mb_gate.specs.declared.gates.Gates.{Gates}
use Rattle.mb_home.specs.Contents.{Contents}
use Rattle.mb_msg.specs.declared.order.Order.{Order}
use Rattle.mb_msg.specs.declared.plan.Plan.{Plan}
use Rattle.mb_source.specs.Given.{Gave, given_since, sendable}
use Rattle.mb_source.specs.Receivers.{has_nobody}
use Rattle.mb_source.specs.RecordedSource.{RecordedSource}
use Rattle.mb_source.proofs.Given.{gave-none}
use Rattle.mb_startup.proofs.Directories.{actors-there}
use Rattle.mb_startup.specs.Begun.{IsBegun}
use Rattle.mb_system.specs.declared.built.Built.{Built}
use Rattle.mb_system.specs.declared.handle.WorkerHandle.{WorkerHandle}
use Rattle.mb_system.specs.declared.failure.RunError.{RunError}
use Rattle.mb_system.specs.Members.{OutsideSender}
use Rattle.mb_system.specs.declared.system.System.{System}
use Rattle.mb_dispatch.specs.Paired.{pairs}
use Rattle.mb_dispatch.specs.Parallel.{FirstZip}
use Rattle.mb_dispatch.specs.Sources.{BreaksPair, BreaksRunFrom, IsPairDone, others_of}
use Rattle.heddleorange.specs.FromSources.{orders_given}
use Rattle.heddleorange.specs.GivesBack.{GivesNothingBack, tells_of_nothing_done}
use Rattle.heddleorange.specs.NamedOrder.{NamesInLists}
use Rattle.heddleorange.specs.NoReport.{IsErrorOfRun, IsRight, has_one_for_nobody}
use Rattle.heddleorange.specs.Remains.{IsWithoutMemory}
use Rattle.heddleorange.specs.Sent.{HasSentAndRetried, HaveSent}
use Rattle.heddleorange.specs.declared.error.Error.{Error}
use Rattle.heddleorange.specs.declared.failed_run.FailedRun.{FailedRun}
use Rattle.heddleorange.proofs.AnyBreak.{BreaksOff, BreaksOne}
use Rattle.heddleorange.proofs.GivesBack.{begun-in-lists}
use Rattle.heddleorange.proofs.Identified.{as-planned}
use Rattle.heddleorange.proofs.Jobs.{first-zip-of, placed-there}
use Rattle.heddleorange.proofs.NoReport.{without-memory}

-- what can go to nobody is not among what is carried out
for-one : (actors : ℕ) (o : Order) (rest : List Order) (b : Bool) → has_nobody actors o ≡ b → list_any (has_nobody actors) rest ≡ false
    → list_any (has_nobody actors) (cond (not b) (o ∷ rest) rest) ≡ false
for-one actors o rest true is none = none
for-one actors o rest false is none = ap (λ b. b || list_any (has_nobody actors) rest) is ∙ none

none-for-nobody : (actors : ℕ) (orders : List Order) → list_any (has_nobody actors) (sendable actors orders) ≡ false
none-for-nobody actors [] = refl
none-for-nobody actors (o ∷ orders) = for-one actors o (sendable actors orders) (has_nobody actors o) refl (none-for-nobody actors orders)

module _ {S : Type 0} (actors : ℕ) where
  pub all-for-somebody : (old new : List (RecordedSource S)) → has_one_for_nobody actors (orders_given actors old new) ≡ false
  all-for-somebody [] new = refl
  all-for-somebody (o ∷ old) [] = refl
  all-for-somebody (o ∷ old) (n ∷ new) =
      ap (λ b. b || has_one_for_nobody actors (orders_given actors old new)) (none-for-nobody actors (given_since o n)) ∙ all-for-somebody old new

  pub many-given : (old new : List (RecordedSource S)) → length new ≡ length old → length (orders_given actors old new) ≡ length old
  many-given [] new same = refl
  many-given (o ∷ old) [] same = same
  many-given (o ∷ old) (n ∷ new) same = ap suc (many-given old new (omega (arith, same)))

  -- what sources give is right where the plan is, and has as many senders
  pub right-given : (plan : Plan) (old new : List (RecordedSource S)) → reasons plan actors ≡ [] → length old ≡ plan.senders → length new ≡ length old
      → IsRight plan actors (orders_given actors old new)
  right-given plan old new none many same = (none, many-given old new same ∙ many, all-for-somebody old new)

module _ {T V : Type 0} (R : T × V → T × V → Type 0) where
  -- what holds of each pair holds of its second
  pub of-seconds : (Q : V → V → Type 0) → ((a b : T × V) → R a b → Q a.1 b.1) → (xs ys : List T) (vs ws : List V) → length xs ≡ length vs
      → length ys ≡ length xs → length ws ≡ length vs → AllZip R (pairs xs vs) (pairs ys ws) → AllZip Q vs ws
  of-seconds Q f xs ys [] [] lent same long all = tt
  of-seconds Q f xs ys [] (w ∷ ws) lent same long all = absurd (omega (arith, long))
  of-seconds Q f xs ys (v ∷ vs) [] lent same long all = absurd (omega (arith, long))
  of-seconds Q f [] ys (v ∷ vs) (w ∷ ws) lent same long all = absurd (omega (arith, lent))
  of-seconds Q f (x ∷ xs) [] (v ∷ vs) (w ∷ ws) lent same long all = absurd (omega (arith, same))
  of-seconds Q f (x ∷ xs) (y ∷ ys) (v ∷ vs) (w ∷ ws) lent same long all =
      (f (x, v) (y, w) all.0, of-seconds Q f xs ys vs ws (omega (arith, lent)) (omega (arith, same)) (omega (arith, long)) all.1)

module _ {S : Type 0} (gates : Gates (Box Contents)) (gives : S → Option Order → S → Type 0) (takes_back : S → Order → S → Type 0) where
  sent-cons : (of : List Order) (orders : List (List Order)) (b a : OutsideSender) (old new : List OutsideSender) → HasSentAndRetried gates of b a
      → HaveSent gates orders old new → HaveSent gates (of ∷ orders) (b ∷ old) (a ∷ new)
  sent-cons of orders b a old new one rest = record { same_count = ap suc rest.same_count; each = at }
    where
      at : (place : ℕ) (told : List Order) (before after : OutsideSender) → slice_get (of ∷ orders) place ≡ Some told → slice_get (b ∷ old) place ≡ Some before
          → slice_get (a ∷ new) place ≡ Some after → HasSentAndRetried gates told before after
      at zero told before after t w i =
          subst (λ o. HasSentAndRetried gates o before after) (same_Some of told t)
          (subst (λ s. HasSentAndRetried gates of s after) (same_Some b before w) (subst (λ s. HasSentAndRetried gates of b s) (same_Some a after i) one))
      at (suc place) told before after t w i = rest.each place told before after t w i

  -- what all of them did gives a list for each
  pub pairs-sent : (so sn : List OutsideSender) (qo qn : List (RecordedSource S)) → length so ≡ length qo → length sn ≡ length so → length qn ≡ length qo
      → AllZip (IsPairDone gates gives takes_back) (pairs so qo) (pairs sn qn) → HaveSent gates (orders_given (others_of gates) qo qn) so sn
  pairs-sent [] [] qo qn lent same long all = record { same_count = refl; each = λ place told before after t w i. absurd (none-some before w) }
  pairs-sent [] (t ∷ sn) qo qn lent same long all = absurd (omega (arith, same))
  pairs-sent (s ∷ so) [] qo qn lent same long all = absurd (omega (arith, same))
  pairs-sent (s ∷ so) (t ∷ sn) [] qn lent same long all = absurd (omega (arith, lent))
  pairs-sent (s ∷ so) (t ∷ sn) (q ∷ qo) [] lent same long all = absurd (omega (arith, long))
  pairs-sent (s ∷ so) (t ∷ sn) (q ∷ qo) (r ∷ qn) lent same long all =
      sent-cons (sendable (others_of gates) (given_since q r)) (orders_given (others_of gates) qo qn) s t so sn (all.0.sent, all.0.nobody, all.0.obligations)
      (pairs-sent so sn qo qn (omega (arith, lent)) (omega (arith, same)) (omega (arith, long)) all.1)

  -- one of them was broken off
  pub pairs-broke : (D : OutsideSender × RecordedSource S → OutsideSender × RecordedSource S → Type 0) (fault : RunError) (so sn : List OutsideSender)
      (qo qn : List (RecordedSource S)) → FirstZip D (λ o n. BreaksPair gates o n fault) (pairs so qo) (pairs sn qn)
      → BreaksOne gates (orders_given (others_of gates) qo qn) fault
  pairs-broke D fault [] sn qo qn failed = absurd failed
  pairs-broke D fault (s ∷ so) sn [] qn failed = absurd failed
  pairs-broke D fault (s ∷ so) [] (q ∷ qo) qn failed = absurd failed
  pairs-broke D fault (s ∷ so) (t ∷ sn) (q ∷ qo) [] failed = absurd failed
  pairs-broke D fault (s ∷ so) (t ∷ sn) (q ∷ qo) (r ∷ qn) (inl here) = (0, sendable (others_of gates) (given_since q r), refl, here)
  pairs-broke D fault (s ∷ so) (t ∷ sn) (q ∷ qo) (r ∷ qn) (inr there) =
      let rest = pairs-broke D fault so sn qo qn there.1 in (suc rest.0, rest.1, rest.2, rest.3)

module _ {A : Type 0} (gives : ℕ → Moment → Reply → Type 0) (plan : Plan) (actors sources : ℕ) where
  -- memory was refused, whatever the sources give
  pub short-for-all : {T : Type 0} (result : Result T (FailedRun A)) → (reasons plan actors ≡ []) × (sources ≡ plan.senders) → IfErr result IsWithoutMemory
      → IfErr result (λ failed. (orders : List (List Order)) → length orders ≡ sources → has_one_for_nobody actors orders ≡ false
      → IsErrorOfRun gives plan actors orders failed)
  short-for-all (Ok x) right told = tt
  short-for-all (Err failed) right told =
      λ orders many none. without-memory gives plan actors orders failed (right.0, many ∙ right.1, none) told

-- an error of a run that was begun names no order, whatever the sources give
pub begun-for-all : {A T : Type 0} (actors : ℕ) (result : Result T (FailedRun A)) → IfErr result GivesNothingBack
    → IfErr result (λ failed. (orders : List (List Order)) → NamesInLists actors orders failed.error)
begun-for-all actors (Ok x) back = tt
begun-for-all actors (Err failed) back = λ orders. begun-in-lists actors orders failed.error back.was_begun

-- with so many actors beside the guardian
others-are : (gates : Gates (Box Contents)) (actors : ℕ) → actors_of gates ≡ actors + 1 → others_of gates ≡ actors
others-are gates actors many = ap (λ n. n - 1) many ∙ (let one : actors + 1 - 1 ≡ actors = omega arith in one)

-- what holds where all went well gives this
pub ok-then : {T E P Q : Type 0} (r : Result T E) → OnOk r P → (P → Q) → OnOk r Q
ok-then (Ok x) p f = f p
ok-then (Err e) p f = tt

-- a run beside senders with their sources was broken off
module _ {A K S : Type 0} (gates : Gates (Box Contents)) (gives : S → Option Order → S → Type 0) (takes_back : S → Order → S → Type 0)
    (behaviours : ℕ → Moment → Reply → Type 0) (system : System A K) (same : gates ≡ system.gates) where
  pub broke-from : (old handles : List (WorkerHandle A K)) (so sn : List OutsideSender) (qo qn : List (RecordedSource S)) (error : RunError)
      → BreaksRunFrom gates gives takes_back behaviours system old handles (pairs so qo) (pairs sn qn) error
      → BreaksOff behaviours system handles (orders_given (others_of system.gates) qo qn) error
  broke-from old handles so sn qo qn error (inl by_end) = let one = first-zip-of _ _ old handles by_end in
      inr (pass_view one.1.registrar.pass, one.3, placed-there handles one.0 one.3 one.4, inr one.5)
  broke-from old handles so sn qo qn error (inr by_sender) =
      inl (subst (λ (h : Gates (Box Contents)). BreaksOne h (orders_given (others_of h) qo qn) error) same
      (pairs-broke gates gives takes_back _ error so sn qo qn by_sender.1))

-- no source was asked
pub none-asked : {S : Type 0} (gives : S → Option Order → S → Type 0) (takes_back : S → Order → S → Type 0) (actors : ℕ) (sources : List (RecordedSource S))
    → AllZip (Gave gives takes_back actors) sources sources
none-asked gives takes_back actors [] = tt
none-asked gives takes_back actors (s ∷ sources) = (inr (gave-none gives takes_back actors s), none-asked gives takes_back actors sources)

-- so many actors has a new system beside the guardian
pub others-begun : {A K X : Type 0} (gives : ℕ → Moment → Reply → Type 0) (plan : Plan) (actors : ℕ) (result : Result (Built A K) X) → reasons plan actors ≡ []
    → IfOk result (IsBegun gives plan) → IfOk result (λ built. others_of built.system.gates ≡ actors)
others-begun gives plan actors (Ok built) none begun =
    others-are built.system.gates actors
    (actors-there gives plan built begun ∙ length-who plan.journal plan.journal_limit plan.actors.items ∙ ap (λ n. n + 1) (as-planned plan actors none))
others-begun gives plan actors (Err failed) none begun = tt
