-- What all handles and senders of a system know, at its end.
use Rattle.std.proofs.Common.{◌≡◌, ℕ, ◌+◌, ◌<◌, List, [], ◌++◌, length, map, sym, ap, ◌∙◌, subst, arith, Option, Some, None}
use Rattle.std.specs.Prelude.{IsPermutation, slice_get}
use Rattle.std.proofs.lemmas.List.Sorted.{IsPermutation-append_right, IsPermutation-map}
use Rattle.std.proofs.lemmas.Option.{same_Some}
use Rattle.mb_actor.specs.Behaviour.{Moment, Reply}
use Rattle.mb_gate.specs.Accessors.{actors_of, first_home}
use Rattle.mb_gate.specs.PutIn.{put_by, put_in}
use Rattle.mb_gate.specs.Releases.{ReleasesAddUp, back_by, back_in_release, taken_by, taken_in_release}
use Rattle.mb_gate.specs.View.{View}
use Rattle.mb_ghost.specs.Shares.{IsWhole}
use Rattle.mb_ghost.specs.Summed.{total}
use Rattle.mb_ghost.proofs.SummedLemmas.{total_append}
use Rattle.mb_home.specs.Directory.{DirectoryEntry}
use Rattle.mb_report.specs.declared.report.ActorReport.{ActorReport}
use Rattle.mb_report.specs.declared.report.Report.{Report}
use Rattle.mb_syslist.specs.MessageList.{numbered}
use Rattle.mb_system.specs.Shares.{shares_of, shares_of_handles, shares_of_senders, views_of}
use Rattle.mb_system.specs.declared.built.Built.{Built}
use Rattle.mb_system.specs.Members.{OutsideSender}
use Rattle.mb_shutdown.specs.Belonging.{HasAllSeen, HasRead, OnlyFirstHandleRead, directory_of}
use Rattle.mb_shutdown.specs.Homes.{ReturnedHome, HomesReturned}
use Rattle.mb_shutdown.specs.Refused.{CountsAllPut, FindsIdle, IsOfAll}
use Rattle.mb_shutdown.proofs.Gathered.{view_of_handle, view_of_sender}
use Rattle.mb_shutdown.proofs.IdleLemmas.{OnlyReads, found-reads}
use Rattle.mb_shutdown.proofs.Lists.{there, within}
use Rattle.mb_shutdown.proofs.Sums.{HasAll, all-of-permuted, total-flat, whole-alike}

module _ {A K : Type 0} where
  sum-of-shares : (built : Built A K) (part : ℕ → ℕ)
      → total part (shares_of built) ≡ total (λ (w : View). total part w.share) (views_of built)
  sum-of-shares built part =
      let handles = built.handles.items in let senders = built.senders.items in let share = λ (w : View). w.share in
      total_append part (shares_of_handles handles) (shares_of_senders senders)
      ∙ (λ i. total-flat part share view_of_handle handles i + total-flat part share view_of_sender senders i)
      ∙ sym (total_append (λ (w : View). total part w.share) (map view_of_handle handles) (map view_of_sender senders))

  -- a view that has all that the handles and these senders have
  pub of-all : (built : Built A K) (v : View) (now : List OutsideSender) → HasAllSeen built v.log → IsPermutation now built.senders.items
      → HasAll (map view_of_handle built.handles.items ++ map view_of_sender now) v → IsOfAll built v
  of-all built v now seen same joined =
      let handles = map view_of_handle built.handles.items in let senders = built.senders.items in
      let all : HasAll (views_of built) v
      = all-of-permuted (handles ++ map view_of_sender now) (views_of built) v
      (IsPermutation-append_right handles (map view_of_sender now) (map view_of_sender senders) (IsPermutation-map view_of_sender now senders same)) joined in
      record {
        seen = seen;
        share = whole-alike v.share (shares_of built) (λ part. all.share part ∙ sym (sum-of-shares built part));
        put = λ actor measure. all.log (put_in actor measure);
        taken = λ actor measure. all.releases (taken_in_release actor measure);
        back = λ actor measure. all.releases (back_in_release actor measure);
      }

  module _ (old new : Built A K) (before after : View) (read : OnlyFirstHandleRead old new before after) where
    sum-stays : (f : View → ℕ) → f after ≡ f before → total f (views_of new) ≡ total f (views_of old)
    sum-stays f same =
        let others = map view_of_handle read.rest ++ map view_of_sender old.senders.items in
        ap (total f) (λ i. map view_of_handle (read.is i) ++ map view_of_sender (read.senders i))
        ∙ ap (λ n. n + total f others) (ap f read.knows ∙ same ∙ sym (ap f read.knew))
        ∙ ap (λ l. total f (map view_of_handle l ++ map view_of_sender old.senders.items)) (sym read.was)

    shares-stay : after.share ≡ before.share → shares_of new ≡ shares_of old
    shares-stay same =
        let others = shares_of_handles read.rest ++ shares_of_senders old.senders.items in
        (λ i. shares_of_handles (read.is i) ++ shares_of_senders (read.senders i))
        ∙ ap (λ s. (s ++ shares_of_handles read.rest) ++ shares_of_senders old.senders.items)
        (ap (λ (v : View). v.share) read.knows ∙ same ∙ sym (ap (λ (v : View). v.share) read.knew))
        ∙ ap (λ l. shares_of_handles l ++ shares_of_senders old.senders.items) (sym read.was)

    of-all-read : (v : View) → OnlyReads before after → HasAllSeen old v.log → IsOfAll new v → IsOfAll old v
    of-all-read v only seen all = record {
      seen = seen;
      share = λ whole. all.share (subst IsWhole (sym (shares-stay only.share)) whole);
      put = λ actor measure. all.put actor measure ∙ sum-stays (put_by actor measure) (only.put actor measure);
      taken = λ actor measure. all.taken actor measure
          ∙ sum-stays (taken_by actor measure) (ap (total (taken_in_release actor measure)) only.releases);
      back = λ actor measure. all.back actor measure
          ∙ sum-stays (back_by actor measure) (ap (total (back_in_release actor measure)) only.releases);
    }

  -- what the first handle read first changes none of it
  pub of-all-before : (many : ℕ) (old new : Built A K) (v : View) → HasRead (FindsIdle many) old new → HasAllSeen old v.log → IsOfAll new v
      → IsOfAll old v
  of-all-before many old new v found seen all =
      of-all-read old new found.0 found.1 found.2 v (found-reads many found.0 found.1 found.3) seen all

module _ {A K : Type 0} (gives : ℕ → Moment → Reply → Type 0) (built : Built A K) (report : Report) (v : View) (all : IsOfAll built v)
    (home : HomesReturned gives (first_home built.system.gates).value (actors_of built.system.gates) v report)
    (many : length report.actors.items ≡ actors_of built.system.gates) (whole : IsWhole (shares_of built)) where
  inside : (id : ℕ) (a : ActorReport) → slice_get report.actors.items id ≡ Some a → id < actors_of built.system.gates
  inside id a found = let lt = within report.actors.items id a found in omega (arith, lt, many)

  -- the home of each actor of the report came back
  pub home-of : (id : ℕ) (a : ActorReport) → slice_get report.actors.items id ≡ Some a → (l : ReturnedHome) × (slice_get home.all id ≡ Some (Some l))
  home-of id a found =
      let lt = inside id a found in let count = home.left.same_count in
      let one = there home.all id (omega (arith, lt, count)) in
      by_home lt one.0 one.1
    where
      by_home : id < actors_of built.system.gates → (left : Option ReturnedHome) → slice_get home.all id ≡ Some left
          → (l : ReturnedHome) × (slice_get home.all id ≡ Some (Some l))
      by_home lt None is =
          let out = home.left.out (all.share whole) id lt is in let back = home.came id lt (all.share whole) in absurd (omega (arith, out, back))
      by_home lt (Some l) is = (l, is)

  -- what the handles and senders gave back adds up to the journals of the report
  pub releases-add-up : (id : ℕ) (a : ActorReport) → slice_get report.actors.items id ≡ Some a → ReleasesAddUp id a.journal.entries (views_of built)
  releases-add-up id a found measure =
      let one = home-of id a found in
      let at_home : back_by id measure v + measure [] ≡ taken_by id measure v + measure one.0.home.value.cell.journal
      = home.left.releases (all.share whole) id one.0 (inside id a found) one.1 measure in
      let same = ap measure (home.journal id one.0 a one.1 found) in
      let taken = all.taken id measure in let back = all.back id measure in
      omega (arith, at_home, same, taken, back)

  -- the system messages that the report counts are what the handles and senders put into the actor's list
  pub put-adds-up : (id : ℕ) (e : DirectoryEntry) (a : ActorReport) → slice_get (directory_of built) id ≡ Some e
      → slice_get report.actors.items id ≡ Some a → CountsAllPut built e.who a
  put-adds-up id e a is found =
      let one = home-of id a found in let h = one.0.home.value in
      let own = (home.left.each id (Some one.0) (inside id a found) one.1).0 in
      let enrolled : e ≡ record { who = h.cell.who; queue = h.take.queue; discipline = h.take.discipline }
      = same_Some e (record { who = h.cell.who; queue = h.take.queue; discipline = h.take.discipline })
      (sym is ∙ (λ i. slice_get (sym own.directory i) (sym own.number i)) ∙ own.settled.is_own.enrolled) in
      let put = home.put id one.0 a one.1 found in
      subst (λ (n : DirectoryEntry). CountsAllPut built n.who a) (sym enrolled) (record {
        log = v.log;
        seen = all.seen;
        counts = put.0;
        put = λ measure. subst (λ n. total (put_by n measure) (views_of built) ≡ total measure (numbered 0 put.0.pushed)) (sym own.number)
            (sym (all.put id measure) ∙ put.1 (all.share whole) measure);
      })
