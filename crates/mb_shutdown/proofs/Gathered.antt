-- What is taken over, one after another.
use Rattle.std.proofs.Common.{◌≡◌, List, [], ◌∷◌, ◌++◌, append-nil, append_assoc, refl, sym, ap, ◌∙◌, subst, map}
use Rattle.std.specs.Prelude.{All}
use Rattle.std.specs.Global.{Box}
use Rattle.std.proofs.lemmas.List.{map-append}
use Rattle.std.proofs.lemmas.List.Elements.{All-cons, All-head, All-nil, All-same, All-tail}
use Rattle.mb_gate.specs.Accessors.{gates_id, pass_view, pass_id}
use Rattle.mb_gate.specs.Rule.{IsPart}
use Rattle.mb_gate.specs.View.{Observation, View, taking_over}
use Rattle.mb_gate.specs.declared.gates.Gates.{Gates}
use Rattle.mb_gate.specs.declared.pass.Pass.{Pass}
use Rattle.mb_home.specs.Contents.{Contents}
use Rattle.mb_shutdown.specs.declared.finished_sender.FinishedSender.{FinishedSender}
use Rattle.mb_system.specs.Members.{IsHandleOf, IsSenderOf, OutsideSender}
use Rattle.mb_system.specs.declared.handle.WorkerHandle.{WorkerHandle}
use Rattle.mb_shutdown.specs.Belonging.{brings, brought}
use Rattle.mb_shutdown.proofs.Parts.{AllSeen, part-back, part-same, seen-by, seen-more}
use Rattle.mb_shutdown.proofs.Sums.{HasAll, all-of-more, all-of-one}

-- the rest of a list, after those that came and the next
module _ {X : Type 0} where
  pub next-came : (came : List X) (x : X) (rest all : List X) → came ++ (x ∷ rest) ≡ all → (came ++ x ∷ []) ++ rest ≡ all
  next-came came x rest all is = append_assoc came (x ∷ []) rest ∙ is

  pub of-next : (P : X → Type 0) (came : List X) (x : X) (rest all : List X) → came ++ (x ∷ rest) ≡ all → All P all → P x
  of-next P [] x rest all is each = All-head P x rest (All-same P (x ∷ rest) all is each)
  of-next P (y ∷ came) x rest all is each =
      of-next P came x rest (came ++ (x ∷ rest)) refl (All-tail P y (came ++ (x ∷ rest)) (All-same P (y ∷ came ++ (x ∷ rest)) all is each))

abbrev pub view_of_sender : OutsideSender → View
view_of_sender s = pass_view s.registrar.pass

abbrev pub seen_by_sender : OutsideSender → List Observation
seen_by_sender s = (pass_view s.registrar.pass).log

module _ {A K : Type 0} where
  abbrev pub view_of_handle : WorkerHandle A K → View
  view_of_handle e = pass_view e.registrar.pass

  abbrev pub seen_by_handle : WorkerHandle A K → List Observation
  seen_by_handle e = (pass_view e.registrar.pass).log

  -- the pass is of the gates, and knows what the first of these handles and those that came have seen
  pub record HasHandles (gates : Gates (Box Contents)) (handles came rest : List (WorkerHandle A K)) (pass : Pass (Box Contents)) : Type 0 where
    pub same_gates : pass_id pass ≡ gates_id gates
    pub first : WorkerHandle A K
    pub are : (first ∷ came) ++ rest ≡ handles
    pub seen : AllSeen seen_by_handle (first ∷ came) (pass_view pass).log

  -- and it has all that these have
  pub record HasJoined (gates : Gates (Box Contents)) (handles came rest : List (WorkerHandle A K)) (pass : Pass (Box Contents)) : Type 0 where
    pub knows : HasHandles gates handles came rest pass
    pub all : HasAll (map view_of_handle (knows.first ∷ came)) (pass_view pass)

  pub handles-first : (gates : Gates (Box Contents)) (handles rest : List (WorkerHandle A K)) (e : WorkerHandle A K) (pass : Pass (Box Contents))
      → e ∷ rest ≡ handles → pass ≡ e.registrar.pass → All (λ (w : WorkerHandle A K). IsHandleOf gates w.registrar) handles → HasJoined gates handles [] rest pass
  handles-first gates handles rest e pass are is all =
      let one = of-next (λ (w : WorkerHandle A K). IsHandleOf gates w.registrar) [] e rest handles are all in record {
        knows = record {
          same_gates = ap pass_id is ∙ one.0;
          first = e;
          are = are;
          seen = All-cons (λ (w : WorkerHandle A K). IsPart (seen_by_handle w) (pass_view pass).log) e []
              (subst (λ (p : Pass (Box Contents)). IsPart (seen_by_handle e) (pass_view p).log) (sym is) (part-same (seen_by_handle e)))
              (All-nil (λ (w : WorkerHandle A K). IsPart (seen_by_handle w) (pass_view pass).log));
        };
        all = subst (λ (p : Pass (Box Contents)). HasAll (view_of_handle e ∷ []) (pass_view p)) (sym is) (all-of-one (view_of_handle e));
      }

  pub handle-ours : (gates : Gates (Box Contents)) (handles came left rest : List (WorkerHandle A K)) (e : WorkerHandle A K) (pass other : Pass (Box Contents))
      → HasJoined gates handles came left pass → left ≡ e ∷ rest → other ≡ e.registrar.pass → All (λ (w : WorkerHandle A K). IsHandleOf gates w.registrar) handles
      → pass_id other ≡ gates_id gates
  handle-ours gates handles came left rest e pass other has next is all =
      ap pass_id is
      ∙ (of-next (λ (w : WorkerHandle A K). IsHandleOf gates w.registrar) (has.knows.first ∷ came) e rest handles
      (ap (λ l. (has.knows.first ∷ came) ++ l) (sym next) ∙ has.knows.are) all).0

  pub handles-more : (gates : Gates (Box Contents)) (handles came left rest : List (WorkerHandle A K)) (e : WorkerHandle A K)
      (old new other : Pass (Box Contents)) → HasJoined gates handles came left old → left ≡ e ∷ rest → other ≡ e.registrar.pass
      → pass_id new ≡ pass_id old → pass_view new ≡ taking_over (pass_view old) (pass_view other) → HasJoined gates handles (came ++ e ∷ []) rest new
  handles-more gates handles came left rest e old new other has next is same knows =
      let before = has.knows in
      let log : (pass_view new).log ≡ seen_by_handle e ++ (pass_view old).log =
      ap (λ (v : View). v.log) knows ∙ ap (λ (p : Pass (Box Contents)). (pass_view p).log ++ (pass_view old).log) is in
      record {
        knows = record {
          same_gates = same ∙ before.same_gates;
          first = before.first;
          are = next-came (before.first ∷ came) e rest handles (ap (λ l. (before.first ∷ came) ++ l) (sym next) ∙ before.are);
          seen = seen-more seen_by_handle (before.first ∷ came) e (pass_view old).log (pass_view new).log log before.seen;
        };
        all = subst (λ l. HasAll l (pass_view new)) (sym (map-append view_of_handle (before.first ∷ came) (e ∷ [])))
            (all-of-more (map view_of_handle (before.first ∷ came)) (pass_view old) (view_of_handle e) (pass_view new)
            (knows ∙ ap (λ (p : Pass (Box Contents)). taking_over (pass_view old) (pass_view p)) is) has.all);
      }

  pub handles-all : (gates : Gates (Box Contents)) (handles came left : List (WorkerHandle A K)) (pass : Pass (Box Contents))
      → HasJoined gates handles came left pass → left ≡ []
      → AllSeen seen_by_handle handles (pass_view pass).log × HasAll (map view_of_handle handles) (pass_view pass)
  handles-all gates handles came left pass has none =
      subst (λ l. AllSeen seen_by_handle l (pass_view pass).log × HasAll (map view_of_handle l) (pass_view pass))
      (sym (append-nil (has.knows.first ∷ came)) ∙ ap (λ l. (has.knows.first ∷ came) ++ l) (sym none) ∙ has.knows.are) (has.knows.seen, has.all)

  -- the pass is of the gates, knows what all handles and those senders that came have seen, and has all that they have; these brought this
  pub record HasSenders (gates : Gates (Box Contents)) (handles : List (WorkerHandle A K)) (senders came rest : List OutsideSender)
      (pass : Pass (Box Contents)) (outside : List FinishedSender) : Type 0 where
    pub same_gates : pass_id pass ≡ gates_id gates
    pub handles_seen : AllSeen seen_by_handle handles (pass_view pass).log
    pub are : came ++ rest ≡ senders
    pub seen : AllSeen seen_by_sender came (pass_view pass).log
    pub all : HasAll (map view_of_handle handles ++ map view_of_sender came) (pass_view pass)
    pub shown : map brought outside ≡ map brings came

  pub senders-first : (gates : Gates (Box Contents)) (handles : List (WorkerHandle A K)) (senders rest : List OutsideSender) (pass : Pass (Box Contents))
      (outside : List FinishedSender) → pass_id pass ≡ gates_id gates
      → AllSeen seen_by_handle handles (pass_view pass).log × HasAll (map view_of_handle handles) (pass_view pass) → rest ≡ senders → outside ≡ []
      → HasSenders gates handles senders [] rest pass outside
  senders-first gates handles senders rest pass outside ours joined are none = record {
    same_gates = ours;
    handles_seen = joined.0;
    are = are;
    seen = All-nil (λ (s : OutsideSender). IsPart (seen_by_sender s) (pass_view pass).log);
    all = subst (λ l. HasAll l (pass_view pass)) (sym (append-nil (map view_of_handle handles))) joined.1;
    shown = ap (map brought) none;
  }

  pub sender-ours : (gates : Gates (Box Contents)) (handles : List (WorkerHandle A K)) (senders came left rest : List OutsideSender) (s : OutsideSender)
      (pass other : Pass (Box Contents)) (outside : List FinishedSender) → HasSenders gates handles senders came left pass outside → left ≡ s ∷ rest
      → other ≡ s.registrar.pass → All (λ (x : OutsideSender). IsSenderOf gates x) senders → pass_id other ≡ gates_id gates
  sender-ours gates handles senders came left rest s pass other outside has next is all =
      ap pass_id is
      ∙ (of-next (λ (x : OutsideSender). IsSenderOf gates x) came s rest senders (ap (λ l. came ++ l) (sym next) ∙ has.are) all).same_gates.0

  pub senders-more : (gates : Gates (Box Contents)) (handles : List (WorkerHandle A K)) (senders came left rest : List OutsideSender) (s : OutsideSender)
      (old new other : Pass (Box Contents)) (outside outside' : List FinishedSender) (o : FinishedSender)
      → HasSenders gates handles senders came left old outside → left ≡ s ∷ rest → other ≡ s.registrar.pass → pass_id new ≡ pass_id old
      → pass_view new ≡ taking_over (pass_view old) (pass_view other) → outside' ≡ outside ++ o ∷ [] → o.sends ≡ s.sends → o.send_log ≡ s.send_log
      → HasSenders gates handles senders (came ++ s ∷ []) rest new outside'
  senders-more gates handles senders came left rest s old new other outside outside' o has next is same knows more sends send_log =
      let log : (pass_view new).log ≡ seen_by_sender s ++ (pass_view old).log =
      ap (λ (v : View). v.log) knows ∙ ap (λ (p : Pass (Box Contents)). (pass_view p).log ++ (pass_view old).log) is in
      record {
        same_gates = same ∙ has.same_gates;
        handles_seen = seen-by seen_by_handle handles (pass_view old).log (pass_view new).log
            (subst (IsPart (pass_view old).log) (sym log) (part-back (seen_by_sender s) (pass_view old).log)) has.handles_seen;
        are = next-came came s rest senders (ap (λ l. came ++ l) (sym next) ∙ has.are);
        seen = seen-more seen_by_sender came s (pass_view old).log (pass_view new).log log has.seen;
        all = subst (λ l. HasAll l (pass_view new))
            (append_assoc (map view_of_handle handles) (map view_of_sender came) (view_of_sender s ∷ [])
            ∙ ap (λ l. map view_of_handle handles ++ l) (sym (map-append view_of_sender came (s ∷ []))))
            (all-of-more (map view_of_handle handles ++ map view_of_sender came) (pass_view old) (view_of_sender s) (pass_view new)
            (knows ∙ ap (λ (p : Pass (Box Contents)). taking_over (pass_view old) (pass_view p)) is) has.all);
        shown = ap (map brought) more ∙ map-append brought outside (o ∷ [])
            ∙ (λ i. has.shown i ++ ((sends i).items, send_log i) ∷ []) ∙ sym (map-append brings came (s ∷ []));
      }

  pub senders-all : (gates : Gates (Box Contents)) (handles : List (WorkerHandle A K)) (senders came left : List OutsideSender) (pass : Pass (Box Contents))
      (outside : List FinishedSender) → HasSenders gates handles senders came left pass outside → left ≡ [] → came ≡ senders
  senders-all gates handles senders came left pass outside has none =
      sym (append-nil came) ∙ ap (λ l. came ++ l) (sym none) ∙ has.are
