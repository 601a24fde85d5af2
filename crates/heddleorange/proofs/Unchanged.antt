-- A new system changed no journal, and sending changes none.
use Rattle.std.proofs.Common.{◌≡◌, ℕ, zero, suc, ◌+◌, List, [], ◌∷◌, ◌++◌, Some, arith, length, map, refl, subst, sym}
use Rattle.std.specs.Prelude.{All, slice_get}
use Rattle.std.specs.Global.{Box}
use Rattle.std.proofs.lemmas.List.Elements.{All-append, All-cons, All-head, All-nil, All-tail}
use Rattle.mb_actor.specs.Behaviour.{Moment, Reply}
use Rattle.mb_gate.specs.Accessors.{pass_view}
use Rattle.mb_gate.specs.View.{Release, View}
use Rattle.mb_gate.specs.declared.gates.Gates.{Gates}
use Rattle.mb_ghost.specs.Seen.{Each}
use Rattle.mb_home.specs.Contents.{Contents}
use Rattle.mb_msg.specs.Limits.{most_actors}
use Rattle.mb_msg.specs.declared.order.Order.{Order}
use Rattle.mb_msg.specs.declared.plan.Plan.{Plan}
use Rattle.mb_queue.specs.Passes.{SendPassView}
use Rattle.mb_register.specs.Views.{GivesBackUnchanged, IsUnchanged}
use Rattle.mb_shutdown.proofs.Lists.{there, within}
use Rattle.mb_startup.specs.Begun.{AreNewHandles, AreNewSenders, IsBegun}
use Rattle.mb_system.specs.Shares.{share_of_sender, shares_of_senders, views_of}
use Rattle.mb_system.specs.declared.built.Built.{Built}
use Rattle.mb_system.specs.declared.handle.WorkerHandle.{WorkerHandle}
use Rattle.mb_system.specs.Members.{OutsideSender}
use Rattle.heddleorange.specs.Sent.{HaveSent}

-- each cell that this seat gave back came back with the journal with which it was taken
abbrev pub ChangedNoJournal : View → Type 0
ChangedNoJournal view = Each IsUnchanged view.releases

-- ---- a new system

no-releases : (v : View) → v.releases ≡ [] → ChangedNoJournal v
no-releases v none = subst (Each IsUnchanged) (sym none) tt

-- what a sender and a handle know
abbrev pub of-sender : OutsideSender → View
of-sender s = pass_view s.registrar.pass

new-senders : (gates : Gates (Box Contents)) (number : ℕ) (rows : List (List SendPassView)) (senders : List OutsideSender)
    → AreNewSenders gates number rows senders → All ChangedNoJournal (map of-sender senders)
new-senders gates number [] [] are = All-nil ChangedNoJournal
new-senders gates number [] (s ∷ senders) are = absurd are
new-senders gates number (row ∷ rows) [] are = absurd are
new-senders gates number (row ∷ rows) (s ∷ senders) are =
    All-cons ChangedNoJournal (of-sender s) (map of-sender senders) (no-releases (of-sender s) are.0.none_released)
    (new-senders gates (number + 1) rows senders are.1)

module _ {A K : Type 0} where
  abbrev pub of-handle : WorkerHandle A K → View
  of-handle e = pass_view e.registrar.pass

  new-handles : (gates : Gates (Box Contents)) (number : ℕ) (handles : List (WorkerHandle A K)) → AreNewHandles gates number handles
      → All ChangedNoJournal (map of-handle handles)
  new-handles gates number [] are = All-nil ChangedNoJournal
  new-handles gates number (e ∷ handles) are =
      All-cons ChangedNoJournal (of-handle e) (map of-handle handles) (no-releases (of-handle e) are.0.none_released) (new-handles gates (number + 1) handles are.1)

  pub changed-none : (gives : ℕ → Moment → Reply → Type 0) (plan : Plan) (built : Built A K) → IsBegun gives plan built
      → All ChangedNoJournal (views_of built)
  changed-none gives plan built begun =
      let handles = All-cons ChangedNoJournal (of-handle begun.handle) (map of-handle begun.others) (no-releases (of-handle begun.handle) begun.none_released)
      (new-handles built.system.gates 1 begun.others begun.others_are) in
      All-append ChangedNoJournal (map of-handle built.handles.items) (map of-sender built.senders.items)
      (subst (λ l. All ChangedNoJournal (map of-handle l)) (sym begun.handles_are) handles)
      (new-senders built.system.gates most_actors begun.outside built.senders.items begun.senders)

-- ---- sending

each-append : (xs ys : List Release) → Each IsUnchanged xs → Each IsUnchanged ys → Each IsUnchanged (xs ++ ys)
each-append [] ys first last = last
each-append (x ∷ xs) ys first last = (first.0, each-append xs ys first.1 last)

still : (old new : View) → GivesBackUnchanged old new → ChangedNoJournal old → ChangedNoJournal new
still old new gives none = subst (Each IsUnchanged) (sym gives.releases) (each-append gives.more old.releases gives.unchanged none)

replaced : (P : View → Type 0) (xs ys zs : List View) → (All P ys → All P zs) → All P (xs ++ ys) → All P (xs ++ zs)
replaced P [] ys zs other all = other all
replaced P (x ∷ xs) ys zs other all =
    All-cons P x (xs ++ zs) (All-head P x (xs ++ ys) all) (replaced P xs ys zs other (All-tail P x (xs ++ ys) all))

-- each sender kept its share and changed no journal
abbrev AllKept : List OutsideSender → List OutsideSender → Type 0
AllKept old new = (place : ℕ) (a b : OutsideSender) → slice_get old place ≡ Some a → slice_get new place ≡ Some b
    → (share_of_sender b ≡ share_of_sender a) × GivesBackUnchanged (of-sender a) (of-sender b)

same-shares : (old new : List OutsideSender) → length new ≡ length old → AllKept old new → shares_of_senders new ≡ shares_of_senders old
same-shares [] [] many kept = refl
same-shares [] (b ∷ new) many kept = absurd (omega (arith, many))
same-shares (a ∷ old) [] many kept = absurd (omega (arith, many))
same-shares (a ∷ old) (b ∷ new) many kept =
    λ i. (kept zero a b refl refl).0 i ++ same-shares old new (omega (arith, many)) (λ place x y was is. kept (suc place) x y was is) i

still-none : (old new : List OutsideSender) → length new ≡ length old → AllKept old new → All ChangedNoJournal (map of-sender old)
    → All ChangedNoJournal (map of-sender new)
still-none [] [] many kept none = All-nil ChangedNoJournal
still-none [] (b ∷ new) many kept none = absurd (omega (arith, many))
still-none (a ∷ old) [] many kept none = absurd (omega (arith, many))
still-none (a ∷ old) (b ∷ new) many kept none =
    All-cons ChangedNoJournal (of-sender b) (map of-sender new)
    (still (of-sender a) (of-sender b) (kept zero a b refl refl).1 (All-head ChangedNoJournal (of-sender a) (map of-sender old) none))
    (still-none old new (omega (arith, many)) (λ place x y was is. kept (suc place) x y was is)
    (All-tail ChangedNoJournal (of-sender a) (map of-sender old) none))

module _ (gates : Gates (Box Contents)) (orders : List (List Order)) (old new : List OutsideSender) (as_many : length old ≡ length orders)
    (sent : HaveSent gates orders old new) where
  all-kept : AllKept old new
  all-kept place a b was is =
      let lt = within old place a was in let of = there orders place (omega (arith, lt, as_many)) in
      let did = (sent.each place of.0 a b of.1 was is).0 in (did.share, did.gives_back)

  pub shares-kept : shares_of_senders new ≡ shares_of_senders old
  shares-kept = same-shares old new sent.same_count all-kept

  pub changed-none-more : (views : List View) → All ChangedNoJournal (views ++ map of-sender old) → All ChangedNoJournal (views ++ map of-sender new)
  changed-none-more views =
      replaced ChangedNoJournal views (map of-sender old) (map of-sender new) (still-none old new sent.same_count all-kept)
