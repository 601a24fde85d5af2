-- What is left of the actors of a run of a plan.
use Rattle.std.proofs.Common.{◌≡◌, ◌⊎◌, inl, inr, ℕ, zero, suc, ◌+◌, ◌<◌, ◌≤◌, List, [], ◌∷◌, length, length-append, map, refl, sym, ap, ◌∙◌, subst, arith}
use Rattle.std.proofs.Common.{Bool, true, false, None, Option, Some}
use Rattle.std.specs.Prelude.{Contains, nat_le, slice_get}
use Rattle.std.specs.List.{AllZip, list_any}
use Rattle.std.proofs.lemmas.Bool.Decides.{nat_tests}
use Rattle.std.proofs.lemmas.List.Elements.{All-contains, All-head}
use Rattle.std.proofs.lemmas.Option.{none-some, same_Some}
use Rattle.std.proofs.lemmas.Slice.Zip.{AllZip-long}
use Rattle.mb_actor.specs.Behaviour.{Moment, Reply}
use Rattle.mb_build.specs.Identities.{planned_from}
use Rattle.mb_build.specs.Planned.{IsDirectoryOf, actors_in}
use Rattle.mb_gate.proofs.Numbers.{each_among}
use Rattle.mb_gate.proofs.OneNumber.{among_part}
use Rattle.mb_gate.specs.Accessors.{actors_of, first_home, held_actor, pass_view}
use Rattle.mb_gate.specs.Returned.{IsKept}
use Rattle.mb_gate.specs.Rule.{Extends, IsAmong, IsPart}
use Rattle.mb_gate.specs.View.{Saw}
use Rattle.mb_home.specs.Contents.{Contents}
use Rattle.mb_home.specs.Directory.{DirectoryEntry}
use Rattle.mb_journal.specs.Aside.{aside}
use Rattle.mb_journal.specs.Entry.{Entry}
use Rattle.mb_journal.specs.Identity.{Identity}
use Rattle.mb_journal.specs.Lawful.{IsLawful}
use Rattle.mb_journal.specs.Life.{phase}
use Rattle.mb_journal.specs.Suspension.{count}
use Rattle.mb_msg.specs.declared.id.ActorId.{ActorId}
use Rattle.mb_msg.specs.declared.journal_mode.JournalMode.{JournalMode}
use Rattle.mb_msg.specs.declared.plan.Plan.{Plan}
use Rattle.mb_msg.specs.declared.strategy.Strategy.{Strategy}
use Rattle.mb_shutdown.proofs.Lists.{at-place, length-mapped, mapped-to, there, within}
use Rattle.mb_shutdown.specs.Homes.{ReturnedHome}
use Rattle.mb_shutdown.specs.Unfinished.{AreUnfinished, ShowsCellNow, ShowsHome}
use Rattle.mb_shutdown.specs.declared.unfinished.UnfinishedActor.{UnfinishedActor}
use Rattle.mb_dispatch.specs.Faults.{CameToLimit}
use Rattle.mb_system.specs.Members.{AreHandlesOf, IsHandleOf}
use Rattle.mb_system.specs.declared.built.Built.{Built}
use Rattle.mb_system.specs.declared.handle.WorkerHandle.{WorkerHandle}
use Rattle.mb_system.specs.declared.failure.RunError.{RunError}
use Rattle.mb_system.specs.declared.failure.RunError.TheVariants as Fault
use Rattle.mb_system.specs.declared.system.System.{System}
use Rattle.mb_shutdown.specs.declared.mismatch.Mismatch.TheVariants.{Held}
use Rattle.heddleorange.specs.declared.error.Error.TheVariants.{JournalFull, Mismatch}
use Rattle.heddleorange.specs.Remains.{AreRemains, HasOwnHandles, IsFirstFull, IsLeftOf, IsToldAs, LackOne, SawFull, ShowFull, is_full}
use Rattle.heddleorange.proofs.LastRun.{HaveRun, knew, know-together, port-of}
use Rattle.heddleorange.proofs.Recipients.{none-passes}

-- each actor's journal may have as many entries as the plan says
limit-of : (actors : ℕ) (mode : JournalMode) (limit : ℕ) (all : List ActorId) (number : ℕ) (parents : List ActorId) (strategies : List Strategy) (place : ℕ) (who : Identity)
    → slice_get (planned_from actors mode limit all number parents strategies) place ≡ Some who → who.limit ≡ limit
limit-of actors mode limit all number [] [] place who is = absurd (none-some who is)
limit-of actors mode limit all number [] (s ∷ strategies) place who is = absurd (none-some who is)
limit-of actors mode limit all number (p ∷ parents) [] place who is = absurd (none-some who is)
limit-of actors mode limit all number (p ∷ parents) (s ∷ strategies) zero who is = ap (λ (w : Identity). w.limit) (sym (same_Some _ who is))
limit-of actors mode limit all number (p ∷ parents) (s ∷ strategies) (suc place) who is =
    limit-of actors mode limit all (number + 1) parents strategies place who is

limit-planned : (plan : Plan) (place : ℕ) (who : Identity) → slice_get (actors_in plan) place ≡ Some who → who.limit ≡ plan.journal_limit
limit-planned plan zero who is = ap (λ (w : Identity). w.limit) (sym (same_Some _ who is))
limit-planned plan (suc place) who is = limit-of _ plan.journal plan.journal_limit _ 1 _ _ place who is

-- what stands at a place of the second list has its like in the first
from-zip : {X Y : Type 0} (R : X → Y → Type 0) (xs : List X) (ys : List Y) (i : ℕ) (y : Y) → AllZip R xs ys → slice_get ys i ≡ Some y
    → (x : X) × (slice_get xs i ≡ Some x) × R x y
from-zip R [] [] i y all is = absurd (none-some y is)
from-zip R [] (b ∷ ys) i y all is = absurd all
from-zip R (a ∷ xs) [] i y all is = absurd all
from-zip R (a ∷ xs) (b ∷ ys) zero y all is = (a, refl, subst (R a) (same_Some b y is) all.0)
from-zip R (a ∷ xs) (b ∷ ys) (suc i) y all is = from-zip R xs ys i y all.1 is

-- a home that is shown came back
came-back : (left : Option ReturnedHome) (a : UnfinishedActor) → ShowsHome left (Some a)
    → (l : ReturnedHome) × (left ≡ Some l) × ShowsCellNow l.home.value.cell a
came-back (Some l) a shows = (l, refl, shows)
came-back None a shows = absurd shows

-- what is left of a cell's actor is left of who it is
left-of : (gives : Moment → Reply → Type 0) (home : Contents) (who : Identity) (a : UnfinishedActor) → home.cell.who ≡ who
    → IsLawful home.cell.who gives home.cell.journal → ShowsCellNow home.cell a → IsLeftOf gives who a
left-of gives home who a same lawful shows = record {
  phase_is = shows.phase_is ∙ (λ i. phase (same i) (sym shows.journal_is i));
  count_is = shows.count_is ∙ (λ i. count (same i) (sym shows.journal_is i));
  aside_is = shows.aside_is ∙ (λ i. aside (same i) (sym shows.journal_is i));
  lawful = subst (λ (p : Identity × List Entry). IsLawful p.0 gives p.1) (λ i. (same i, sym shows.journal_is i)) lawful;
  kept_is = shows.kept_is ∙ ap (λ (w : Identity). w.retention) same;
}

module _ {A K : Type 0} (gives : ℕ → Moment → Reply → Type 0) (plan : Plan) (built : Built A K)
    (planned : IsDirectoryOf plan (first_home built.system.gates).value.directory) where
  pub remains : HaveRun gives plan built → actors_of built.system.gates ≡ length (actors_in plan) → (shown : List (Option UnfinishedActor))
      → AreUnfinished gives built shown → AreRemains gives plan shown
  remains ran many shown are = record {
    gates = built.system.gates;
    planned = planned;
    view = are.view;
    homes = are.homes;
    began = ran.began;
    began_new = ran.began_new;
    handles = map knew built.handles.items;
    all_handles = length-mapped knew built.handles.items ∙ ran.many;
    ports = map port-of built.handles.items;
    together = know-together gives built.handles.items are.view are.back;
    runs = ran.runs;
    same_count = (let long = AllZip-long ShowsHome are.homes.all shown are.homes.shows in let all = are.homes.left.same_count in
        omega (arith, long, all, many));
    each = λ id who a at here.
        (let left = from-zip ShowsHome are.homes.all shown id (Some a) are.homes.shows here in
        let back = came-back left.0 a left.2 in
        let there = left.1 ∙ ap Some back.1 in
        let lt : id < actors_of built.system.gates =
        (let inside = within are.homes.all id (Some back.0) there in let all = are.homes.left.same_count in omega (arith, inside, all)) in
        let own = (are.homes.left.each id (Some back.0) lt there).0 in
        let home = (back.0).home.value in
        let enrolled = ap (λ l. slice_get l home.cell.who.this.0) (sym own.directory) ∙ own.settled.is_own.enrolled in
        let mine : slice_get (actors_in plan) id ≡ Some home.cell.who =
        ap (slice_get (actors_in plan)) (sym own.number)
        ∙ mapped-to (λ (e : DirectoryEntry). e.who) (first_home built.system.gates).value.directory (actors_in plan) home.cell.who.this.0 _ planned.who
        enrolled in
        left-of (gives id) home who a (same_Some home.cell.who who (sym mine ∙ at)) own.settled.lawful back.2);
  }

  -- a handle met a journal at its limit, and so saw it
  pub saw-full : (system : System A K) → system ≡ built.system → (handles : List (WorkerHandle A K)) (handle : WorkerHandle A K) → Contains handles handle
      → CameToLimit gives system handle → SawFull (actors_of built.system.gates) plan.journal_limit handles
  saw-full system same handles handle here came = record {
    handle = handle;
    present = here;
    actor = held_actor came.claim;
    within = subst (λ (s : System A K). held_actor came.claim < actors_of s.gates) same came.fresh.same_gates.present;
    journal = came.journal;
    seen = came.left.seen;
    full = (let le = came.full in let limit = limit-planned plan who.this.0 who enrolled in omega (arith, le, limit));
  }
    where
      who : Identity
      who = came.claim.home.value.cell.who

      enrolled : slice_get (actors_in plan) who.this.0 ≡ Some who
      enrolled =
          let own = came.fresh.same_gates.of_actor in
          mapped-to (λ (e : DirectoryEntry). e.who) (first_home system.gates).value.directory (actors_in plan) who.this.0 _
          (subst (λ (s : System A K). IsDirectoryOf plan (first_home s.gates).value.directory) (sym same) planned).who
          (ap (λ l. slice_get l who.this.0) (sym own.directory) ∙ own.settled.is_own.enrolled)

-- as many are shown as there are
pub as-many : {A K : Type 0} (gives : ℕ → Moment → Reply → Type 0) (built : Built A K) (shown : List (Option UnfinishedActor))
    → AreUnfinished gives built shown → length shown ≡ actors_of built.system.gates
as-many gives built shown are =
    let long = AllZip-long ShowsHome are.homes.all shown are.homes.shows in let all = are.homes.left.same_count in omega (arith, long, all)

-- a system that has a handle has no more than so many actors
pub few-actors : {A K : Type 0} (built : Built A K) → HasOwnHandles built → actors_of built.system.gates ≤ 64
few-actors {A} {K} built own = first built.handles.items own.0 own.1
  where
    first : (handles : List (WorkerHandle A K)) → AreHandlesOf built.system.gates handles → 0 < length handles → actors_of built.system.gates ≤ 64
    first [] ours some = absurd (omega (arith, some))
    first (e ∷ handles) ours some = (All-head (λ (x : WorkerHandle A K). IsHandleOf built.system.gates x.registrar) e handles ours).2

-- whether a full journal is shown
at-most : (a b : ℕ) → a ≤ b → nat_le a b ≡ true
at-most a b le = grind (arith, nat_tests)

-- a full journal is shown that stands at a place
full-there : (limit : ℕ) (shown : List (Option UnfinishedActor)) (id : ℕ) (a : UnfinishedActor) → slice_get shown id ≡ Some (Some a)
    → limit ≤ length a.journal.entries → ShowFull limit shown
full-there limit shown id a at le = seen (list_any (is_full limit) shown) refl
  where
    seen : (b : Bool) → list_any (is_full limit) shown ≡ b → ShowFull limit shown
    seen true is = is
    seen false is =
        let not = at-place (λ o. is_full limit o ≡ false) shown id (Some a) (none-passes (is_full limit) shown is) at in
        absurd (cc (at-most limit (length a.journal.entries) le, not))

pub lacks-one : (limit : ℕ) (shown : List (Option UnfinishedActor)) → list_any (is_full limit) shown ≡ false → ShowFull limit shown ⊎ LackOne shown
    → LackOne shown
lacks-one limit shown none (inl some) = absurd (cc (some, none))
lacks-one limit shown none (inr lacks) = lacks

-- how a full journal is told
pub told-full : (fault : RunError) (limit : ℕ) (shown : List (Option UnfinishedActor)) (id : ActorId) → fault ≡ Fault.JournalFull
    → IsFirstFull limit shown id → IsToldAs fault limit shown (JournalFull id)
told-full fault limit shown id is first = subst (λ f. IsToldAs f limit shown (JournalFull id)) (sym is) (inl (id, refl, first))

pub told-lack : (fault : RunError) (limit : ℕ) (shown : List (Option UnfinishedActor)) (id : ActorId) → fault ≡ Fault.JournalFull
    → slice_get shown id.0 ≡ Some None → IsToldAs fault limit shown (Mismatch (Held id))
told-lack fault limit shown id is none =
    subst (λ f. IsToldAs f limit shown (Mismatch (Held id))) (sym is) (inr (Held id, refl, none))

-- a journal that a handle saw at the limit is shown, or nothing is shown of its actor
module _ {A K : Type 0} (gives : ℕ → Moment → Reply → Type 0) (built : Built A K) (limit : ℕ) where
  pub shows-full : (shown : List (Option UnfinishedActor)) → AreUnfinished gives built shown
      → SawFull (actors_of built.system.gates) limit built.handles.items → ShowFull limit shown ⊎ LackOne shown
  shows-full shown are saw =
      let long = AllZip-long ShowsHome are.homes.all shown are.homes.shows in let all = are.homes.left.same_count in let lt = saw.within in
      let at = there shown saw.actor (omega (arith, long, all, lt)) in by-place at.0 at.1
    where
      among : IsAmong (Saw saw.actor saw.journal) are.view.log
      among = among_part (Saw saw.actor saw.journal) (pass_view saw.handle.registrar.pass).log are.view.log
          (All-contains (λ (e : WorkerHandle A K). IsPart (pass_view e.registrar.pass).log are.view.log) built.handles.items saw.handle are.seen saw.present)
          saw.seen

      by-place : (o : Option UnfinishedActor) → slice_get shown saw.actor ≡ Some o → ShowFull limit shown ⊎ LackOne shown
      by-place None here = inr (saw.actor, here)
      by-place (Some a) here =
          let left = from-zip ShowsHome are.homes.all shown saw.actor (Some a) are.homes.shows here in
          let back = came-back left.0 a left.2 in
          let kept = (are.homes.left.each saw.actor (Some back.0) saw.within (left.1 ∙ ap Some back.1)).2 in
          let extends : Extends (back.0).home.value.cell.journal saw.journal =
          each_among (IsKept saw.actor (back.0).home.value.cell.journal _) (Saw saw.actor saw.journal) are.view.log kept among refl in
          let joined = ap length extends.joined in let both = length-append extends.newer saw.journal in
          let shows = ap length (back.2).journal_is in let full = saw.full in
          inl (full-there limit shown saw.actor a here (omega (arith, joined, both, shows, full)))
