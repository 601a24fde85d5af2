-- Each handle and each sender of a system's parts is of the system.
use Rattle.std.proofs.Common.{◌≡◌, ◌<◌, ℕ, length, get_or, sym, subst}
use Rattle.mb_system.specs.Belonging.{BelongsTogether}
use Rattle.mb_system.specs.Members.{IsHandleOf, IsSenderOf, OutsideSender}
use Rattle.mb_system.specs.declared.built.Built.{Built}
use Rattle.mb_system.specs.declared.handle.WorkerHandle.{WorkerHandle}

module _ {A K : Type 0} (built : Built A K) where
  -- the handle, or the sender, of this place
  pub handle-at : (place : ℕ) (e : WorkerHandle A K) → e ≡ get_or built.handles.items place e → place < length built.handles.items
      → BelongsTogether built → IsHandleOf built.system.gates e.registrar
  handle-at place e is within was =
      subst (λ (x : WorkerHandle A K). IsHandleOf built.system.gates x.registrar) (sym is) (was.handles place e within)

  pub sender-at : (place : ℕ) (s : OutsideSender) → s ≡ get_or built.senders.items place s → place < length built.senders.items
      → BelongsTogether built → IsSenderOf built.system.gates s
  sender-at place s is within was =
      subst (λ (x : OutsideSender). IsSenderOf built.system.gates x) (sym is) (was.senders place s within)
