-- All that belongs to a system still does.
use Rattle.std.proofs.Common.{◌≡◌, ◌+◌, ◌<◌, ◌≤◌, List, [], ◌∷◌, Vec, length, map, get_or, set, refl, sym, ap, ◌∙◌, subst, arith}
use Rattle.std.specs.Prelude.{All, AllPairs, ◌≢◌}
use Rattle.std.specs.Global.{Box, Global}
use Rattle.std.proofs.lemmas.List.Elements.{All-cons, All-head, All-nil, All-same, All-tail}
use Rattle.mb_msg.specs.Limits.{most_actors}
use Rattle.mb_gate.specs.Accessors.{pass_id}
use Rattle.mb_gate.specs.View.{View}
use Rattle.mb_gate.specs.declared.gates.Gates.{Gates}
use Rattle.mb_home.specs.Contents.{Contents}
use Rattle.mb_pool.specs.Places.{gates_of}
use Rattle.mb_pool.specs.WorkerPorts.{WorkerPortView}
use Rattle.mb_system.specs.Belonging.{BelongsTogether, senders_numbers}
use Rattle.mb_system.specs.Members.{AreHandlesOf, IsHandleOf, IsSenderOf, OutsideSender}
use Rattle.mb_system.specs.declared.built.Built.{Built}
use Rattle.mb_system.specs.declared.handle.WorkerHandle.{WorkerHandle}
use Rattle.mb_system.specs.declared.system.System.{System}
use Rattle.mb_dispatch.proofs.There.{sender-at}
use Rattle.mb_dispatch.proofs.Together.{AreSendersOf, again, by_of, sender-again}
use Rattle.mb_shutdown.specs.Belonging.{OnlyFirstHandleRead}
use Rattle.mb_shutdown.specs.Refused.{IsRefusal}
use Rattle.mb_shutdown.specs.declared.ending.FinishError.{FinishError}
use Rattle.mb_shutdown.specs.declared.ending.FinishError.TheVariants.{MissingHandle, MissingSender, NotQuiet, NoMemory, Mismatch}
use Rattle.mb_dispatch_tests.specs.ComesBack.{ComesBack}

-- a handle took a claim
pub took : {A K : Type 0} (gates : Gates (Box Contents)) (old new : WorkerHandle A K)
    → (new.registrar.pass ≡ old.registrar.pass) × (new.registrar.owed ≡ old.registrar.owed) × (gates_of new.registrar.run_queue.handle ≡ gates_of old.registrar.run_queue.handle)
    × (new.number ≡ old.number) → IsHandleOf gates old.registrar → IsHandleOf gates new.registrar
took gates old new same was = (ap pass_id same.0 ∙ was.0, same.2 ∙ was.1, was.2)

module _ {A K : Type 0} (system : System A K) (handles : Vec (WorkerHandle A K) Global) (senders : Vec OutsideSender Global) where
  -- these belong together
  abbrev pub Are : Type 0
  Are = BelongsTogether (record { system = system; handles = handles; senders = senders })

  -- the first sender is of the system
  pub first-sender : (s : OutsideSender) → s ≡ get_or senders.items 0 s → 0 < length senders.items → Are → IsSenderOf system.gates s
  first-sender s is some was = sender-at (record { system = system; handles = handles; senders = senders }) 0 s is some was

  -- handles did something, and the senders nothing
  pub with-handles : (handles' : Vec (WorkerHandle A K) Global) (senders' : Vec OutsideSender Global) → AreHandlesOf system.gates handles'.items
      → senders'.items ≡ senders.items → Are → BelongsTogether (record { system = system; handles = handles'; senders = senders' })
  with-handles handles' senders' ours same was = record {
    handles = ours;
    senders = subst (All (λ s. IsSenderOf system.gates s)) (sym same) was.senders;
    once = subst (λ l. AllPairs (λ a b. a ≢ b) (senders_numbers l)) (sym same) was.once;
    numbered = subst (All (λ s. (most_actors ≤ s.send_log.by.0) × (s.send_log.by.0 < most_actors + system.senders))) (sym same) was.numbered;
  }

  -- the first sender did something
  pub with-sender : (senders' : Vec OutsideSender Global) (s s' : OutsideSender) → senders'.items ≡ set senders.items 0 s'
      → IsSenderOf system.gates s' → s'.send_log.by ≡ s.send_log.by → s ≡ get_or senders.items 0 s → Are
      → BelongsTogether (record { system = system; handles = handles; senders = senders' })
  with-sender senders' s s' are ours by is was =
      sender-again (record { system = system; handles = handles; senders = senders }) (record { system = system; handles = handles; senders = senders' }) 0 s s'
      refl refl are ours (by ∙ ap by_of is) was

  -- the senders are gone
  pub without-senders : (senders' : Vec OutsideSender Global) → senders'.items ≡ [] → Are
      → BelongsTogether (record { system = system; handles = handles; senders = senders' })
  without-senders senders' none was =
      let N = λ (s : OutsideSender). (most_actors ≤ s.send_log.by.0) × (s.send_log.by.0 < most_actors + system.senders) in
      record {
        handles = was.handles;
        senders = subst (AreSendersOf system.gates) (sym none) (All-nil (λ (s : OutsideSender). IsSenderOf system.gates s));
        once = subst (λ (l : List OutsideSender). AllPairs (λ a b. a ≢ b) (senders_numbers l)) (sym none)
            (λ i j d before within. absurd (omega (arith, within)));
        numbered = subst (All N) (sym none) (All-nil N);
      }

module _ {A K : Type 0} where
  -- a handle has read more
  read-back : (old new : Built A K) (before after : View) → OnlyFirstHandleRead old new before after → BelongsTogether old → BelongsTogether new
  read-back old new before after back was =
      let gates = old.system.gates in
      let P = λ (x : WorkerHandle A K). IsHandleOf gates x.registrar in
      let Q = λ (x : OutsideSender). IsSenderOf gates x in
      let were : All P (back.first ∷ back.rest) = subst (All P) back.was was.handles in
      let one = All-head P back.first back.rest were in
      let first : P back.first' =
      (back.same_gates ∙ one.0, ap (λ (way : WorkerPortView (Box Contents)). gates_of way.handle) back.others.1 ∙ one.1, one.2) in
      again old new back.system
      (All-same P new.handles.items (back.first' ∷ back.rest) back.is (All-cons P back.first' back.rest first (All-tail P back.first back.rest were)))
      (All-same Q new.senders.items old.senders.items back.senders was.senders) (ap (map by_of) back.senders) was

  -- what comes back of a system that may not end belongs together
  pub of-refusal : (old : Built A K) (error : FinishError A K) → IsRefusal old error → BelongsTogether old → ComesBack error
  of-refusal old (MissingHandle number back) refused was = subst BelongsTogether (sym refused.1) was
  of-refusal old (MissingSender number back) refused was = subst BelongsTogether (sym refused.2) was
  of-refusal old (NotQuiet id back) refused was = let read = refused.2 in read-back old back read.0 read.1 read.2 was
  of-refusal old (NoMemory back) refused was = let read = refused.1 in read-back old back read.0 read.1 read.2 was
  of-refusal old (Mismatch what) refused was = tt
