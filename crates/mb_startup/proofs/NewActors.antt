-- The actors of a new system are new: its handles and senders have the whole share together, and ran nobody.
use Rattle.std.proofs.Common.{◌≡◌, ◌⊎◌, inl, inr, ℕ, zero, suc, ◌+◌, ◌==◌, ◌%◌, ◌^◌, if◌then◌else◌, false, List, [], ◌∷◌, ◌++◌, map, refl, sym, ap, ◌∙◌, subst, Some, arith}
use Rattle.std.specs.Prelude.{slice_get}
use Rattle.std.specs.Global.{Box}
use Rattle.std.specs.List.{flat_map}
use Rattle.std.proofs.lemmas.Bool.Decides.{nat_tests}
use Rattle.std.proofs.lemmas.Grind.{flat_map-append}
use Rattle.std.proofs.lemmas.Option.{none-some, same_Some}
use Rattle.mb_status.specs.Mailbox.{word_of}
use Rattle.mb_msg.specs.declared.plan.Plan.{Plan}
use Rattle.mb_msg.specs.declared.system.SysMsg.{SysMsg}
use Rattle.mb_msg.specs.declared.system.SysMsg.TheVariants as system
use Rattle.mb_syslist.specs.MessageList.{numbered}
use Rattle.mb_actor.specs.Behaviour.{Moment, Reply}
use Rattle.mb_journal.specs.Identity.{Identity}
use Rattle.mb_ghost.specs.Layout.{Spot}
use Rattle.mb_ghost.specs.Seen.{Each}
use Rattle.mb_ghost.specs.Shares.{IsWhole}
use Rattle.mb_ghost.specs.Summed.{total}
use Rattle.mb_ghost.proofs.SeenLemmas.{each_append}
use Rattle.mb_ghost.proofs.SummedLemmas.{total_append}
use Rattle.mb_queue.specs.Passes.{SendPassView}
use Rattle.mb_gate.specs.Accessors.{actors_of, first_home, pass_view}
use Rattle.mb_gate.specs.NotRun.{shares_in, RanNobody, IsNotRun}
use Rattle.mb_gate.specs.PutIn.{put_in, put_by}
use Rattle.mb_gate.specs.Rule.{Word, Waiting, SlotName, Ghost, IsAmong, WasPushed}
use Rattle.mb_gate.specs.View.{View, Observation, Pushed}
use Rattle.mb_gate.specs.Waiting.{counted_on, counted_off, on_by, off_by}
use Rattle.mb_gate.specs.declared.gates.Gates.{Gates}
use Rattle.mb_gate.specs.declared.slot.Slot.{Slot}
use Rattle.mb_gate.proofs.NotRun.{shows_not_run}
use Rattle.mb_home.specs.AgreesWithJournal.{messages_in}
use Rattle.mb_home.specs.AtHome.{IsHomeOf, facts_of}
use Rattle.mb_home.specs.Contents.{Contents}
use Rattle.mb_home.specs.Directory.{DirectoryEntry}
use Rattle.mb_home.proofs.UnusedHomeLaw.{unused-until-run}
use Rattle.mb_build.specs.Planned.{actors_in, IsDirectoryOf}
use Rattle.mb_system.specs.Shares.{shares_of_handles, shares_of_senders}
use Rattle.mb_system.specs.declared.handle.WorkerHandle.{WorkerHandle}
use Rattle.mb_system.specs.Members.{OutsideSender}
use Rattle.mb_startup.specs.Begun.{AreFirstHandles, AreNewHandles, AreNewSenders}
use Rattle.mb_startup.specs.NewActors.{first_messages, IsNewActor, AreNewActors}

-- ---- what was put into the lists

-- how many of these are a Create
abbrev creates : ℕ × SysMsg → ℕ
creates (n, system.Create) = 1
creates (n, system.Recreate c) = 0
creates (n, system.Suspend) = 0
creates (n, system.Resume f) = 0
creates (n, system.Terminate) = 0
creates (n, system.Watch w) = 0
creates (n, system.Unwatch w) = 0
creates (n, system.Failed x c) = 0
creates (n, system.Died x) = 0

abbrev one-each : ℕ × SysMsg → ℕ
one-each m = 1

is-create : (n : ℕ) (m : SysMsg) → creates (n, m) + 0 ≡ 1 → m ≡ system.Create
is-create n system.Create one = refl
is-create n (system.Recreate c) one = absurd (omega (arith, one))
is-create n system.Suspend one = absurd (omega (arith, one))
is-create n (system.Resume f) one = absurd (omega (arith, one))
is-create n system.Terminate one = absurd (omega (arith, one))
is-create n (system.Watch w) one = absurd (omega (arith, one))
is-create n (system.Unwatch w) one = absurd (omega (arith, one))
is-create n (system.Failed x c) one = absurd (omega (arith, one))
is-create n (system.Died x) one = absurd (omega (arith, one))

put-elsewhere : (actor : ℕ) (measure : ℕ × SysMsg → ℕ) (n : ℕ) (m : SysMsg) → put_in (suc actor) measure (Pushed 0 n m) ≡ 0
put-elsewhere actor measure n m = let miss : (0 == suc actor) ≡ false = grind (arith, nat_tests) in ap (λ b. if b then measure (n, m) else 0) miss

nothing-put : (pushed : List SysMsg) → 0 ≡ total one-each (numbered 0 pushed) → pushed ≡ []
nothing-put [] none = refl
nothing-put (m ∷ pushed) none = absurd (omega (arith, none))

one-put : (pushed : List SysMsg) → 1 ≡ total one-each (numbered 0 pushed) → 1 ≡ total creates (numbered 0 pushed) → pushed ≡ system.Create ∷ []
one-put [] one create = absurd (omega (arith, one))
one-put (m ∷ []) one create = ap (λ x. x ∷ []) (is-create 0 m (sym create))
one-put (m ∷ n ∷ pushed) one create = absurd (omega (arith, one))

none-among : (m : ℕ × SysMsg) → IsAmong m [] → ⊥
none-among m is = cases is.before is.joined
  where
    cases : (before : List (ℕ × SysMsg)) → [] ≡ before ++ m ∷ is.after → ⊥
    cases [] e = cc
    cases (b ∷ bs) e = cc

only-among : (m x : ℕ × SysMsg) → IsAmong m (x ∷ []) → m ≡ x
only-among m x is = cases is.before is.joined
  where
    cases : (before : List (ℕ × SysMsg)) → x ∷ [] ≡ before ++ m ∷ is.after → m ≡ x
    cases [] e = cc
    cases (b ∷ []) e = absurd (cc)
    cases (b ∷ c ∷ bs) e = absurd (cc)

plus-none : (n : ℕ) → n + 0 ≡ n
plus-none n = omega arith

nothing-drained : (pushed : List SysMsg) (rest : List (ℕ × SysMsg)) → pushed ≡ [] → Each (λ m. IsAmong m (numbered 0 pushed)) rest → rest ≡ []
nothing-drained pushed [] none each = refl
nothing-drained pushed (m ∷ rest) none each = absurd (none-among m (subst (λ l. IsAmong m (numbered 0 l)) none each.0))

second-number : (x y : ℕ × SysMsg) (rest more : List (ℕ × SysMsg)) → x ∷ y ∷ rest ≡ (0, x.1) ∷ (1, y.1) ∷ more → y.0 ≡ 1
second-number x y rest more e = let same : y ≡ (1, y.1) = cc in ap (λ (m : ℕ × SysMsg). m.0) same

create-drained : (pushed : List SysMsg) (rest : List (ℕ × SysMsg)) → pushed ≡ system.Create ∷ [] → Each (λ m. IsAmong m (numbered 0 pushed)) rest
    → rest ≡ numbered 0 (messages_in rest) → (rest ≡ []) ⊎ (rest ≡ (0, system.Create) ∷ [])
create-drained pushed [] one each numbers = inl refl
create-drained pushed (m ∷ []) one each numbers =
    inr (ap (λ x. x ∷ []) (only-among m (0, system.Create) (subst (λ l. IsAmong m (numbered 0 l)) one each.0)))
create-drained pushed (m ∷ n ∷ rest) one each numbers =
    let second : n.0 ≡ 1 = second-number m n rest _ numbers in
    let first : n ≡ (0, system.Create) = only-among n (0, system.Create) (subst (λ l. IsAmong n (numbered 0 l)) one each.1.0) in
    let zero-is = ap (λ (x : ℕ × SysMsg). x.0) first in absurd (omega (arith, second, zero-is))

-- what is drained of what was put into the list
first-drained : (actor : ℕ) (pushed : List SysMsg) (rest : List (ℕ × SysMsg)) → pushed ≡ first_messages actor → Each (λ m. IsAmong m (numbered 0 pushed)) rest
    → rest ≡ numbered 0 (messages_in rest) → (rest ≡ []) ⊎ (rest ≡ numbered 0 (first_messages actor))
first-drained zero pushed rest put each numbers = create-drained pushed rest put each numbers
first-drained (suc actor) pushed rest put each numbers = inl (nothing-drained pushed rest put each)

-- ---- what the handles and senders of a new system know

shares-map : {X : Type 0} (f : X → View) (xs : List X) → shares_in (map f xs) ≡ flat_map (λ x. (f x).share) xs
shares-map f [] = refl
shares-map f (x ∷ xs) = ap (λ l. (f x).share ++ l) (shares-map f xs)

abbrev sender-view : OutsideSender → View
sender-view s = pass_view s.registrar.pass

module _ (gates : Gates (Box Contents)) where
  senders-ran : (number : ℕ) (rows : List (List SendPassView)) (senders : List OutsideSender) → AreNewSenders gates number rows senders
      → Each RanNobody (map sender-view senders)
  senders-ran number [] [] are = tt
  senders-ran number [] (s ∷ senders) are = absurd are
  senders-ran number (row ∷ rows) [] are = absurd are
  senders-ran number (row ∷ rows) (s ∷ senders) are = ((are.0.unclaimed, are.0.none_released), senders-ran (number + 1) rows senders are.1)

  senders-logged : (h : Observation → ℕ) (number : ℕ) (rows : List (List SendPassView)) (senders : List OutsideSender) → AreNewSenders gates number rows senders
      → total (λ (v : View). total h v.log) (map sender-view senders) ≡ 0
  senders-logged h number [] [] are = refl
  senders-logged h number [] (s ∷ senders) are = absurd are
  senders-logged h number (row ∷ rows) [] are = absurd are
  senders-logged h number (row ∷ rows) (s ∷ senders) are =
      let here = ap (total h) are.0.blank in let rest = senders-logged h (number + 1) rows senders are.1 in omega (arith, here, rest)

module _ {A K : Type 0} (gates : Gates (Box Contents)) where
  abbrev handle-view : WorkerHandle A K → View
  handle-view e = pass_view e.registrar.pass

  handles-ran : (number : ℕ) (handles : List (WorkerHandle A K)) → AreNewHandles gates number handles → Each RanNobody (map handle-view handles)
  handles-ran number [] are = tt
  handles-ran number (e ∷ handles) are = ((are.0.unclaimed, are.0.none_released), handles-ran (number + 1) handles are.1)

  handles-logged : (h : Observation → ℕ) (number : ℕ) (handles : List (WorkerHandle A K)) → AreNewHandles gates number handles
      → total (λ (v : View). total h v.log) (map handle-view handles) ≡ 0
  handles-logged h number [] are = refl
  handles-logged h number (e ∷ handles) are =
      let here = ap (total h) are.0.blank in let rest = handles-logged h (number + 1) handles are.1 in omega (arith, here, rest)

  module _ (number : ℕ) (rows : List (List SendPassView)) (handles : List (WorkerHandle A K)) (senders : List OutsideSender) (first : AreFirstHandles gates handles)
      (are : AreNewSenders gates number rows senders) where
    abbrev all : List View
    all = map handle-view handles ++ map sender-view senders

    all-shares : shares_in all ≡ shares_of_handles handles ++ shares_of_senders senders
    all-shares = flat_map-append (λ (v : View). v.share) (map handle-view handles) (map sender-view senders)
        ∙ (λ i. shares-map handle-view handles i ++ shares-map sender-view senders i)

    all-ran : Each RanNobody all
    all-ran = each_append RanNobody (map handle-view handles) (map sender-view senders)
        (subst (λ (l : List (WorkerHandle A K)). Each RanNobody (map handle-view l)) (sym first.handles_are)
        ((first.unclaimed, first.none_released), handles-ran 1 first.others first.others_are)) (senders-ran gates number rows senders are)

    -- all that was logged is the Create, by the first handle
    all-logged : (h : Observation → ℕ) → total (λ (v : View). total h v.log) all ≡ h (Pushed 0 first.created.0 system.Create)
    all-logged h =
        let sum = total_append (λ (v : View). total h v.log) (map handle-view handles) (map sender-view senders) in
        let outside = senders-logged gates h number rows senders are in
        let inside = ap (λ (l : List (WorkerHandle A K)). total (λ (v : View). total h v.log) (map handle-view l)) first.handles_are in
        let own = ap (total h) first.created.1 in
        let others = handles-logged h 1 first.others first.others_are in omega (arith, sum, outside, inside, own, others)

    all-put : (actor : ℕ) (pushed : List SysMsg)
        → ((measure : ℕ × SysMsg → ℕ) → total (put_by actor measure) all ≡ total measure (numbered 0 pushed)) → pushed ≡ first_messages actor
    all-put zero pushed put =
        one-put pushed (sym (all-logged (put_in zero one-each)) ∙ put one-each) (sym (all-logged (put_in zero creates)) ∙ put creates)
    all-put (suc actor) pushed put =
        nothing-put pushed (sym (put-elsewhere actor one-each first.created.0 system.Create) ∙ sym (all-logged (put_in (suc actor) one-each)) ∙ put one-each)

    none-waiting : (actor waiting : ℕ) → (waiting + total (off_by actor) all) % 2 ^ 64 ≡ total (on_by actor) all % 2 ^ 64 → waiting % 2 ^ 64 ≡ 0
    none-waiting actor waiting balance =
        ap (λ k. k % 2 ^ 64) (sym (plus-none waiting)) ∙ ap (λ k. (waiting + k) % 2 ^ 64) (sym (all-logged (counted_off actor))) ∙ balance
        ∙ ap (λ k. k % 2 ^ 64) (all-logged (counted_on actor))

-- ---- the directory

entry-of : (directory : List DirectoryEntry) (actor : ℕ) (who : Identity) → slice_get (map (λ (e : DirectoryEntry). e.who) directory) actor ≡ Some who
    → (entry : DirectoryEntry) × (slice_get directory actor ≡ Some entry) × (entry.who ≡ who)
entry-of [] actor who there = absurd (none-some who there)
entry-of (e ∷ directory) zero who there = (e, refl, same_Some e.who who there)
entry-of (e ∷ directory) (suc actor) who there = entry-of directory actor who there

module _ {A K : Type 0} (gives : ℕ → Moment → Reply → Type 0) (plan : Plan) (gates : Gates (Box Contents)) (number : ℕ) (rows : List (List SendPassView))
    (handles : List (WorkerHandle A K)) (senders : List OutsideSender) where
  abbrev is-own : ℕ → Box Contents → Type 0
  is-own actor home = IsHomeOf (gives actor) (first_home gates).value actor home.value

  module _ (of : IsDirectoryOf plan (first_home gates).value.directory) (first : AreFirstHandles gates handles) (are : AreNewSenders gates number rows senders) where
    is-new : (actor : ℕ) (x : Spot Word SlotName (Slot (Box Contents)) Ghost)
        → IsNotRun is-own (λ (home : Box Contents). facts_of home.value) actor x (map (handle-view gates) handles ++ map (sender-view) senders)
        → (who : Identity) → slice_get (actors_in plan) actor ≡ Some who → IsNewActor plan (first_home gates).value.directory actor who x
    is-new actor x not_run who planned =
        let directory = (first_home gates).value.directory in
        let entry = entry-of directory actor who (ap (λ l. slice_get l actor) of.who ∙ planned) in
        let put = all-put gates number rows handles senders first are actor x.ghost.pushed not_run.put in
        let unused = unused-until-run gives (first_home gates).value not_run.home.value actor entry.0 not_run.of_actor not_run.journal entry.1 in record {
          home = not_run.home;
          present = not_run.present;
          entry = entry.0;
          enrolled = entry.1;
          planned = entry.2;
          mailbox = λ place a at this. of.mailboxes place a entry.0 this (ap (slice_get directory) (sym at) ∙ entry.1);
          unused = unused;
          word = not_run.word ∙ ap word_of unused.mailbox;
          waiting = none-waiting gates number rows handles senders first are actor (x.row Waiting) not_run.balance;
          put = put;
          beside = first-drained actor x.ghost.pushed not_run.home.value.rest put
              (subst (Each (WasPushed x.ghost)) unused.drained not_run.drained) unused.rest;
        }

    pub new-actors : IsWhole (shares_of_handles handles ++ shares_of_senders senders)
        → AreNewActors gives plan gates (map (handle-view gates) handles ++ map (sender-view) senders)
    new-actors whole s r seats at actor inside who planned =
        is-new actor _ (shows_not_run is-own (λ (home : Box Contents). facts_of home.value) (actors_of gates)
        (map (handle-view gates) handles ++ map (sender-view) senders)
        (subst IsWhole (sym (all-shares gates number rows handles senders first are)) whole)
        (all-ran gates number rows handles senders first are) s r seats at actor inside) who planned
