-- The directory of actors of a new system.
use Rattle.std.proofs.Common.{◌≡◌, ℕ, zero, suc, ◌+◌, List, [], ◌∷◌, length, map, refl, sym, ap, ◌∙◌, subst, Some, arith}
use Rattle.std.specs.Prelude.{slice_get}
use Rattle.std.specs.Global.{Box}
use Rattle.std.proofs.lemmas.Option.{none-some, same_Some}
use Rattle.mb_actor.specs.Behaviour.{Moment, Reply}
use Rattle.mb_journal.specs.Identity.{Identity}
use Rattle.mb_msg.specs.declared.actor_plan.ActorPlan.{ActorPlan}
use Rattle.mb_msg.specs.declared.plan.Plan.{Plan}
use Rattle.mb_msg.specs.declared.mailbox_type.MailboxType.{MailboxType}
use Rattle.mb_queue.specs.Passes.{SendPassView, TakePassView}
use Rattle.mb_gate.specs.Accessors.{actors_of, first_home}
use Rattle.mb_home.specs.Contents.{Contents}
use Rattle.mb_home.specs.Directory.{DirectoryEntry}
use Rattle.mb_build.specs.NewHomes.{AreAtFirst, AreNewHomes, directory_of}
use Rattle.mb_build.specs.Kinds.{AreKindsOf, IsKindOf}
use Rattle.mb_build.specs.Made.{AreEmpty}
use Rattle.mb_build.specs.Numbers.{sender_numbers}
use Rattle.mb_startup.specs.Begun.{IsBegun}
use Rattle.mb_build.specs.Planned.{actors_in, HasMailbox, IsDirectoryOf}
use Rattle.mb_system.specs.declared.built.Built.{Built}
use Rattle.mb_system.specs.declared.system.System.{System}

who-enrolled : (whos : List Identity) (takes : List TakePassView) → length takes ≡ length whos → map (λ (e : DirectoryEntry). e.who) (directory_of whos takes) ≡ whos
who-enrolled [] takes many = refl
who-enrolled (who ∷ whos) [] many = absurd (omega (arith, many))
who-enrolled (who ∷ whos) (t ∷ takes) many = ap (λ l. who ∷ l) (who-enrolled whos takes (omega (arith, many)))

take-enrolled : (whos : List Identity) (takes : List TakePassView) (place : ℕ) (e : DirectoryEntry) → slice_get (directory_of whos takes) place ≡ Some e
    → (t : TakePassView) × (slice_get takes place ≡ Some t) × (e.queue ≡ t.queue) × (e.discipline ≡ t.discipline)
take-enrolled [] takes place e is = absurd (none-some e is)
take-enrolled (who ∷ whos) [] place e is = absurd (none-some e is)
take-enrolled (who ∷ whos) (t ∷ takes) zero e is =
    let same = sym (same_Some (record { who = who; queue = t.queue; discipline = t.discipline }) e is) in
    (t, refl, ap (λ (x : DirectoryEntry). x.queue) same, ap (λ (x : DirectoryEntry). x.discipline) same)
take-enrolled (who ∷ whos) (t ∷ takes) (suc place) e is = take-enrolled whos takes place e is

-- each actor's queue is of the kind of its mailbox
mailbox-of : (plans : List ActorPlan) (kinds : List MailboxType) (to : ℕ) (senders : List ℕ) (takes : List TakePassView) (place : ℕ) (a : ActorPlan) (t : TakePassView)
    (e : DirectoryEntry) → AreKindsOf plans kinds → AreEmpty kinds to senders takes → slice_get plans place ≡ Some a → slice_get takes place ≡ Some t
    → e.queue ≡ t.queue → e.discipline ≡ t.discipline → HasMailbox a e
mailbox-of [] kinds to senders takes place a t e queues empty is found same discipline = absurd (none-some a is)
mailbox-of (p ∷ plans) [] to senders takes place a t e queues empty is found same discipline = absurd queues
mailbox-of (p ∷ plans) (k ∷ kinds) to senders [] place a t e queues empty is found same discipline = absurd empty
mailbox-of (p ∷ plans) (k ∷ kinds) to senders (x ∷ takes) zero a t e queues empty is found same discipline =
    let plan = same_Some p a is in let take = same_Some x t found in
    let planned : IsKindOf a.mailbox k = subst (λ (b : ActorPlan). IsKindOf b.mailbox k) plan queues.0 in record {
      discipline = discipline ∙ ap (λ (y : TakePassView). y.discipline) (sym take) ∙ empty.0.0.discipline ∙ planned.0;
      bound = ap (λ q. q.main.capacity) same ∙ ap (λ (y : TakePassView). y.queue.main.capacity) (sym take) ∙ empty.0.0.bound ∙ planned.1;
    }
mailbox-of (p ∷ plans) (k ∷ kinds) to senders (x ∷ takes) (suc place) a t e queues empty is found same discipline =
    mailbox-of plans kinds (to + 1) senders takes place a t e queues.1 empty.1 is found same discipline

-- the new homes: there are as many as actors, and the first has the directory
as-many : (directory : List DirectoryEntry) (others : List TakePassView) (number : ℕ) (whos : List Identity) (takes : List TakePassView) (homes : List (Box Contents))
    → AreAtFirst directory others number whos takes homes → (length takes ≡ length whos) × (length homes ≡ length whos)
as-many directory others number [] [] [] are = (refl, refl)
as-many directory others number [] [] (h ∷ homes) are = absurd are
as-many directory others number [] (t ∷ takes) homes are = absurd are
as-many directory others number (who ∷ whos) [] homes are = absurd are
as-many directory others number (who ∷ whos) (t ∷ takes) [] are = absurd are
as-many directory others number (who ∷ whos) (t ∷ takes) (h ∷ homes) are =
    let rest = as-many directory others (number + 1) whos takes homes are.1 in (ap suc rest.0, ap suc rest.1)

directory-of : (directory : List DirectoryEntry) (others : List TakePassView) (number : ℕ) (whos : List Identity) (takes : List TakePassView) (homes : List (Box Contents))
    (first : Box Contents) → AreAtFirst directory others number whos takes homes → slice_get homes 0 ≡ Some first → first.value.directory ≡ directory
directory-of directory others number whos takes [] first are is = absurd (none-some first is)
directory-of directory others number [] [] (h ∷ homes) first are is = absurd are
directory-of directory others number [] (t ∷ takes) (h ∷ homes) first are is = absurd are
directory-of directory others number (who ∷ whos) [] (h ∷ homes) first are is = absurd are
directory-of directory others number (who ∷ whos) (t ∷ takes) (h ∷ homes) first are is =
    ap (λ (x : Box Contents). x.value.directory) (sym (same_Some h first is)) ∙ ap (λ (c : Contents). c.directory) are.0

-- the actors and the mailboxes of a plan
pub housed-plan : (gives : ℕ → Moment → Reply → Type 0) (plan : Plan) (kinds : List MailboxType) (homes : List (Box Contents)) (outside : List (List SendPassView))
    (first : Box Contents) → AreKindsOf plan.actors.items kinds → AreNewHomes gives (actors_in plan) kinds plan.senders homes outside
    → slice_get homes 0 ≡ Some first → IsDirectoryOf plan first.value.directory
housed-plan gives plan kinds homes outside first queues housed is =
    let whos = actors_in plan in let takes = housed.guardian ∷ housed.takes in
    let directory : first.value.directory ≡ directory_of whos takes = directory-of (directory_of whos takes) housed.takes 0 whos takes homes first housed.first is in
    let many = (as-many (directory_of whos takes) housed.takes 0 whos takes homes housed.first).0 in record {
      who = ap (map (λ (e : DirectoryEntry). e.who)) directory ∙ who-enrolled whos takes many;
      mailboxes = λ place a e planned there.
          let next : place + 1 ≡ suc place = omega arith in
          let at : slice_get (directory_of whos takes) (suc place) ≡ Some e =
          ap (λ l. slice_get l (suc place)) (sym directory) ∙ ap (slice_get first.value.directory) (sym next) ∙ there in
          let t = take-enrolled whos takes (suc place) e at in
          mailbox-of plan.actors.items kinds 1 (sender_numbers (length whos) plan.senders) housed.takes place a t.0 e queues housed.made.empty planned
          t.1 t.2 t.3;
    }

module _ {A K : Type 0} (gives : ℕ → Moment → Reply → Type 0) (plan : Plan) (built : Built A K) (begun : IsBegun gives plan built) where
  pub of-plan : IsDirectoryOf plan (first_home built.system.gates).value.directory
  of-plan = housed-plan gives plan begun.kinds begun.homes begun.outside (first_home built.system.gates) begun.kinds_are begun.homes_made begun.first

  pub actors-there : actors_of built.system.gates ≡ length (actors_in plan)
  actors-there =
      let housed = begun.homes_made in let whos = actors_in plan in let takes = housed.guardian ∷ housed.takes in
      begun.actors ∙ (as-many (directory_of whos takes) housed.takes 0 whos takes begun.homes housed.first).1

-- and so it is of a system that is still the one that began by the plan
module _ {A K : Type 0} (gives : ℕ → Moment → Reply → Type 0) (plan : Plan) (first : Built A K) (begun : IsBegun gives plan first) (built : Built A K)
    (same : built.system ≡ first.system) where
  pub still-planned : IsDirectoryOf plan (first_home built.system.gates).value.directory
  still-planned = subst (λ (s : System A K). IsDirectoryOf plan (first_home s.gates).value.directory) (sym same) (of-plan gives plan first begun)

  pub still-there : actors_of built.system.gates ≡ length (actors_in plan)
  still-there = ap (λ (s : System A K). actors_of s.gates) same ∙ actors-there gives plan first begun

  pub still-senders : built.system.senders ≡ plan.senders
  still-senders = ap (λ (s : System A K). s.senders) same ∙ begun.numbers.1
