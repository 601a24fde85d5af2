-- What is known of a system when all that belongs to it came together.
use Rattle.std.proofs.Common.{◌≡◌, ℕ, ◌-◌, ◌≤◌, List, length, map, sym, ap, ◌∙◌, subst, Some}
use Rattle.std.specs.Prelude.{All, IsPermutation, slice_get}
use Rattle.std.specs.Global.{Box}
use Rattle.std.proofs.lemmas.List.Sorted.{All-permutation, IsPermutation-sym, length_permutation}
use Rattle.std.proofs.lemmas.List.Elements.{All-weaker}
use Rattle.mb_gate.specs.Accessors.{actors_of, first_home, pass_view}
use Rattle.mb_gate.specs.Rule.{IsPart}
use Rattle.mb_gate.specs.View.{Observation, View}
use Rattle.mb_gate.specs.declared.gates.Gates.{Gates}
use Rattle.mb_home.specs.Contents.{Contents}
use Rattle.mb_build.specs.Numbers.{numbers}
use Rattle.mb_shutdown.specs.OutsideSenders.{AreFinishedSenders, HasKnownSenders}
use Rattle.mb_shutdown.specs.Rooms.{IsRoom}
use Rattle.mb_shutdown.specs.declared.room.Room.{Room}
use Rattle.mb_shutdown.specs.Seen.{ReportExtends, ReportExtendsAll}
use Rattle.mb_shutdown.specs.declared.finished_sender.FinishedSender.{FinishedSender}
use Rattle.mb_shutdown.proofs.Lists.{length-mapped}
use Rattle.mb_report.specs.declared.report.Report.{Report}
use Rattle.mb_system.specs.Belonging.{BelongsTogether, senders_numbers}
use Rattle.mb_system.specs.Members.{IsSenderOf, OutsideSender}
use Rattle.mb_system.specs.declared.built.Built.{Built}
use Rattle.mb_system.specs.declared.handle.WorkerHandle.{WorkerHandle}
use Rattle.mb_system.specs.declared.system.System.{System}
use Rattle.mb_shutdown.specs.Belonging.{AreAnswers, AreSendPasses, HasAllSeen, HasRead, AllFoundIdle, brings, brought}
use Rattle.mb_shutdown.specs.Refused.{FindsIdle, IsComplete}
use Rattle.mb_shutdown.proofs.ComingBack.{all-seen, was-settled}
use Rattle.mb_shutdown.proofs.Bringing.{answers, kept-in-place, known-senders, outsiders, passes-in-place}
use Rattle.mb_shutdown.proofs.Gathered.{seen_by_handle, seen_by_sender}
use Rattle.mb_shutdown.proofs.Parts.{each-part}
use Rattle.mb_shutdown.proofs.Places.{as-many-senders, outside-all}

module _ {A K : Type 0} where
  -- the system's gates came, with all that handles and senders saw, and with what the senders bring, in the order of their numbers
  pub record IsGathered (built : Built A K) (gates : Gates (Box Contents)) (log : List Observation) (outside : List FinishedSender) : Type 0 where
    pub gates_are : gates ≡ built.system.gates
    pub settled : AllFoundIdle built
    pub seen : HasAllSeen built log
    pub now : List OutsideSender
    pub same : IsPermutation now built.senders.items
    pub numbered : senders_numbers now ≡ numbers 0 built.system.senders
    pub shown : map brought outside ≡ map brings now

  pub gathered : (old new : Built A K) (gates : Gates (Box Contents)) (log : List Observation) (outside : List FinishedSender)
      → HasRead (FindsIdle (actors_of old.system.gates)) old new → gates ≡ new.system.gates → HasAllSeen new log
      → (senders : List OutsideSender) × IsPermutation senders new.senders.items × (senders_numbers senders ≡ numbers 0 new.system.senders)
      × (map brought outside ≡ map brings senders) → IsGathered old gates log outside
  gathered old new gates log outside found are seen came =
      let many = actors_of old.system.gates in
      let all = all-seen many old new log found seen in record {
        gates_are = are ∙ ap (λ (s : System A K). s.gates) found.2.system;
        settled = (log, all, was-settled old new log found seen.0);
        seen = all;
        now = came.0;
        same = subst (λ (l : List OutsideSender). IsPermutation came.0 l) found.2.senders came.1;
        numbered = came.2 ∙ ap (λ (s : System A K). numbers 0 s.senders) found.2.system;
        shown = came.3;
      }

module _ {A K : Type 0} (built : Built A K) (gates : Gates (Box Contents)) (log : List Observation) (outside : List FinishedSender)
    (together : BelongsTogether built) (complete : IsComplete built) (came : IsGathered built gates log outside) where
  now-many : length came.now ≡ built.system.senders
  now-many =
      sym (length_permutation came.now built.senders.items came.same)
      ∙ as-many-senders built.system.senders built.senders.items complete.1 together.numbered together.once

  pub as-many-outside : length outside ≡ built.system.senders
  as-many-outside = sym (length-mapped brought outside) ∙ ap length came.shown ∙ length-mapped brings came.now ∙ now-many

  back : IsPermutation built.senders.items came.now
  back = IsPermutation-sym came.now built.senders.items came.same

  in-places : senders_numbers came.now ≡ numbers 0 (length came.now)
  in-places = came.numbered ∙ ap (numbers 0) (sym now-many)

  pub came-outside : AreFinishedSenders (first_home gates).value.directory log 64 outside
  came-outside =
      outsiders gates log 0 came.now outside
      (All-permutation (λ (s : OutsideSender). IsSenderOf gates s) built.senders.items came.now back
      (subst (λ (g : Gates (Box Contents)). All (λ (s : OutsideSender). IsSenderOf g s) built.senders.items) (sym came.gates_are)
      together.senders))
      (All-permutation (λ (s : OutsideSender). IsPart (seen_by_sender s) log) built.senders.items came.now back came.seen.1)
      (All-permutation (λ (s : OutsideSender). 64 ≤ s.send_log.by.0) built.senders.items came.now back
      (outside-all built.system.senders built.senders.items together.numbered)) in-places came.shown

  pub came-known : HasKnownSenders (first_home gates).value.directory (length outside)
  came-known =
      subst (λ (p : Gates (Box Contents) × ℕ). HasKnownSenders (first_home p.0).value.directory p.1)
      (λ i. (sym came.gates_are i, sym as-many-outside i))
      (known-senders (first_home built.system.gates).value.directory built.system.senders built.system.known)

  pub came-answers : AreAnswers built.system.senders built.senders.items (map (λ (o : FinishedSender). o.send_log.posted) outside)
  came-answers = answers built.system.senders built.senders.items came.now outside now-many came.same in-places came.shown

  pub came-kept : All (λ (s : OutsideSender). slice_get (map (λ (o : FinishedSender). o.send_log.dead.retention) outside) (s.send_log.by.0 - 64)
      ≡ Some s.send_log.dead.retention) built.senders.items
  came-kept = kept-in-place built.system.senders built.senders.items came.now outside now-many came.same in-places came.shown

  pub came-passes : AreSendPasses built.system.senders built.senders.items (map (λ (o : FinishedSender). o.sends.items) outside)
  came-passes = passes-in-place built.system.senders built.senders.items came.now outside now-many came.same in-places came.shown

  -- the report goes on from what each handle and each sender saw
  pub goes-on : (report : Report) (v : View) → v.log ≡ log → ReportExtendsAll report v
      → All (λ (e : WorkerHandle A K). ReportExtendsAll report (pass_view e.registrar.pass)) built.handles.items
      × All (λ (s : OutsideSender). ReportExtendsAll report (pass_view s.registrar.pass)) built.senders.items
  goes-on report v is all = (
    All-weaker (λ (e : WorkerHandle A K). IsPart (seen_by_handle e) log) (λ (e : WorkerHandle A K). ReportExtendsAll report (pass_view e.registrar.pass))
        (λ e part. each-part (ReportExtends report) (seen_by_handle e) v.log (subst (IsPart (seen_by_handle e)) (sym is) part) all) built.handles.items came.seen.0,
    All-weaker (λ (s : OutsideSender). IsPart (seen_by_sender s) log) (λ (s : OutsideSender). ReportExtendsAll report (pass_view s.registrar.pass))
        (λ s part. each-part (ReportExtends report) (seen_by_sender s) v.log (subst (IsPart (seen_by_sender s)) (sym is) part) all) built.senders.items
        came.seen.1,
  )

  -- the room is enough for what came
  pub came-room : (read : Built A K) (room : Room A K) → read.system ≡ built.system → read.senders.items ≡ built.senders.items
      → IsRoom (actors_of read.system.gates) (length read.senders.items) room → IsRoom (actors_of gates) (length outside) room
  came-room read room system senders enough =
      subst (λ (p : Gates (Box Contents) × ℕ). IsRoom (actors_of p.0) p.1 room)
      (λ i. (
        (ap (λ (s : System A K). s.gates) system ∙ sym came.gates_are) i,
        (ap length senders ∙ as-many-senders built.system.senders built.senders.items complete.1 together.numbered together.once
            ∙ sym as-many-outside) i,
      )) enough
