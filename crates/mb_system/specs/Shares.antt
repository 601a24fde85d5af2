-- What the handles and senders of a system have of the one whole of all passes, and what they know (this project's own profile).
use Rattle.std.specs.Prelude.{ℕ, List, ◌++◌, map}
use Rattle.std.specs.List.{flat_map}
use Rattle.mb_gate.specs.Accessors.{pass_view}
use Rattle.mb_gate.specs.View.{View}
use Rattle.mb_system.specs.declared.built.Built.{Built}
use Rattle.mb_system.specs.declared.handle.WorkerHandle.{WorkerHandle}
use Rattle.mb_system.specs.Members.{OutsideSender}

-- What a sender has of the whole of all passes.
abbrev pub share_of_sender : OutsideSender → List ℕ
share_of_sender s = (pass_view s.registrar.pass).share

-- What all of these senders have of it.
abbrev pub shares_of_senders : List OutsideSender → List ℕ
shares_of_senders senders = flat_map share_of_sender senders

module _ {A K : Type 0} where
  -- What a worker's handle has of the whole of all passes.
  abbrev pub share_of_handle : WorkerHandle A K → List ℕ
  share_of_handle e = (pass_view e.registrar.pass).share

  -- What all of these handles have of it.
  abbrev pub shares_of_handles : List (WorkerHandle A K) → List ℕ
  shares_of_handles handles = flat_map share_of_handle handles

  -- What all handles and senders of the system have of it.
  abbrev pub shares_of : Built A K → List ℕ
  shares_of built = shares_of_handles built.handles.items ++ shares_of_senders built.senders.items

  -- What each handle and each sender of the system knows.
  abbrev pub views_of : Built A K → List View
  views_of built = map (λ (e : WorkerHandle A K). pass_view e.registrar.pass) built.handles.items
      ++ map (λ (s : OutsideSender). pass_view s.registrar.pass) built.senders.items
