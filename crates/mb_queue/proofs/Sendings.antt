-- What a send pass pushes, by the ports of its fifos.
use Rattle.std.proofs.Common.{◌≡◌, ℕ, Bool, true, false, cond, not, List, [], ◌∷◌, ◌++◌, Option, Some, None, refl, sym, ap, ◌∙◌, subst}
use Rattle.std.specs.Prelude.{IfErr, MatchResult, Result, Ok, Err}
use Rattle.std.proofs.lemmas.List.{append-nil}
use Rattle.std.proofs.lemmas.List.Elements.{filter-append}
use Rattle.mb_msg.specs.declared.envelope.Envelope.{Envelope}
use Rattle.mb_queue.specs.declared.ledger.Ledger.{Ledger}
use Rattle.mb_queue.specs.declared.ledger.Ledger.TheVariants.{Sender, Taker, Spent}
use Rattle.mb_queue.specs.declared.ledger.QueuePart.TheVariants.{Whole, Controls, Others}
use Rattle.mb_queue.specs.declared.ledger.Scope.{Scope}
use Rattle.mb_queue.specs.Ledger.{MayPush, is_control, pushing}
use Rattle.mb_queue.specs.Parts.{controls, others}
use Rattle.mb_queue.specs.Port.{FifoPort}
use Rattle.mb_queue.specs.Passes.{SendPassView}
use Rattle.mb_queue.specs.Pushes.{IsForControl, IsForMain, IsPushed, IsReasonToRefuse}
use Rattle.mb_queue.specs.Representation.{IsSending, parted, scope_in, sending_of}
use Rattle.mb_queue.specs.Rule.{IsFifoRefusal}
use Rattle.mb_queue.specs.declared.refused.Refusal.{Refusal}
use Rattle.mb_queue.specs.declared.refused.Refusal.TheVariants as why
use Rattle.mb_queue.proofs.RefusedLemmas.{refused}

-- a push leaves the scope as it is
scope-pushing : (e : Envelope) (l : Ledger) → scope_in (pushing l e) ≡ scope_in l
scope-pushing e (Sender scope by pushed) = refl
scope-pushing e (Taker scope taken accounts) = refl
scope-pushing e Spent = refl

module _ (pushed : List Envelope) (e : Envelope) where
  controls-more : (b : Bool) → is_control e ≡ b → controls (pushed ++ e ∷ []) ≡ controls pushed ++ cond b (e ∷ []) []
  controls-more b is = filter-append is_control pushed (e ∷ []) ∙ ap (λ t. controls pushed ++ cond t (e ∷ []) []) is

  others-more : (b : Bool) → is_control e ≡ b → others (pushed ++ e ∷ []) ≡ others pushed ++ cond (not b) (e ∷ []) []
  others-more b is =
      filter-append (λ (x : Envelope). not (is_control x)) pushed (e ∷ []) ∙ ap (λ t. others pushed ++ cond (not t) (e ∷ []) []) is

module _ (by : ℕ) (main : FifoPort) (pushed : List Envelope) (e : Envelope) where
  -- ---- a control message, where the queue has a fifo of them
  module _ (control : FifoPort) (kept : IsSending by main (Some control) pushed) (is : is_control e ≡ true) where
    pub control-may : e.by.0 ≡ by → e.to.0 ≡ (scope_in main.ledger).to → MayPush e control.ledger
    control-may own to = subst (MayPush e) (sym kept.1) (sym own, to, is)

    pub control-kept : (now : FifoPort) → now ≡ record control { ledger = pushing control.ledger e } → IsSending by main (Some now) (pushed ++ e ∷ [])
    control-kept now after = subst (λ (p : FifoPort). IsSending by main (Some p) (pushed ++ e ∷ [])) (sym after) (
      kept.0 ∙ ap (λ l. Sender (parted (scope_in main.ledger) Others) by l) (sym (others-more pushed e true is ∙ append-nil (others pushed))),
      ap (λ l. pushing l e) kept.1 ∙ ap (λ l. Sender (parted (scope_in main.ledger) Controls) by l) (sym (controls-more pushed e true is)),
      kept.2,
      kept.3,
    )

  -- ---- another envelope
  module _ (control : Option FifoPort) (now : FifoPort) (after : now ≡ record main { ledger = pushing main.ledger e }) where
    pub main-kept : IsSending by main control pushed → IsForMain control e → IsSending by now control (pushed ++ e ∷ [])
    main-kept kept is = subst (λ (p : FifoPort). IsSending by p control (pushed ++ e ∷ [])) (sym after) (by_parts control kept is)
      where
        by_parts : (c : Option FifoPort) → IsSending by main c pushed → IsForMain c e →
            IsSending by (record main { ledger = pushing main.ledger e }) c (pushed ++ e ∷ [])
        by_parts None was _ =
            ap (λ l. pushing l e) was ∙ ap (λ (s : Scope). Sender (parted s Whole) by (pushed ++ e ∷ [])) (sym (scope-pushing e main.ledger))
        by_parts (Some c) was other = (
          ap (λ l. pushing l e) was.0
              ∙ (λ i. Sender (parted (sym (scope-pushing e main.ledger) i) Others) by (sym (others-more pushed e false other) i)),
          was.1
              ∙ (λ i. Sender (parted (sym (scope-pushing e main.ledger) i) Controls) by
              (sym (controls-more pushed e false other ∙ append-nil (controls pushed)) i)),
          was.2,
          was.3,
        )

    pub main-is : sending_of by now control (pushed ++ e ∷ []) ≡ record (sending_of by main control pushed) { pushed = pushed ++ e ∷ [] }
    main-is =
        ap (λ (p : FifoPort). sending_of by p control (pushed ++ e ∷ [])) after
        ∙ ap (λ (s : Scope). record (sending_of by main control pushed) {
          queue = record (sending_of by main control pushed).queue { senders = s.senders; to = s.to };
          pushed = pushed ++ e ∷ [];
        }) (scope-pushing e main.ledger)

  pub main-may : (control : Option FifoPort) → IsSending by main control pushed → IsForMain control e → e.by.0 ≡ by →
      e.to.0 ≡ (scope_in main.ledger).to → MayPush e main.ledger
  main-may None kept is own to = subst (MayPush e) (sym kept) (sym own, to, tt)
  main-may (Some control) kept is own to = subst (MayPush e) (sym kept.0) (sym own, to, is)

-- ---- the same, of the answer of a push

pub is-pushed : {T : Type 0} (e : Envelope) (r : Result T Refusal) (port now : FifoPort) (pushed after : List Envelope) →
    MatchResult r (λ _. now ≡ record port { ledger = pushing port.ledger e }) (λ _. now ≡ port) →
    MatchResult r (λ _. after ≡ pushed ++ e ∷ []) (λ _. after ≡ pushed) → IsPushed e r port now pushed after
is-pushed e (Ok x) port now pushed after did wrote = (did, wrote)
is-pushed e (Err x) port now pushed after did wrote = (did, wrote)

-- what contracts see after it
abbrev pub IsSeen : {T : Type 0} → Envelope → Result T Refusal → SendPassView → SendPassView → Type 0
IsSeen e r old new = MatchResult r (λ _. new ≡ record old { pushed = old.pushed ++ e ∷ [] }) (λ _. new ≡ old)

-- a control message goes to a fifo of them
pub is-control : (control : Option FifoPort) (own : FifoPort) (e : Envelope) → control ≡ Some own → IsForControl control e → is_control e ≡ true
is-control control own e is here = subst (λ k. IsForControl k e) is here

pub no-control : (control : Option FifoPort) (e : Envelope) → control ≡ None → IsForControl control e → ⊥
no-control control e is here = subst (λ k. IsForControl k e) is here

module _ {T : Type 0} (by : ℕ) (main : FifoPort) (pushed : List Envelope) (e : Envelope) (after : List Envelope) (now : FifoPort) (v : SendPassView)
  where
    module _ (control : FifoPort) where
      pub control-after : (r : Result T Refusal) → IsSending by main (Some control) pushed → is_control e ≡ true →
          IsPushed e r control now pushed after → IsSending by main (Some now) after
      control-after (Ok x) kept is did = subst (IsSending by main (Some now)) (sym did.1) (control-kept by main pushed e control kept is now did.0)
      control-after (Err x) kept is did =
          subst (λ (p : FifoPort × List Envelope). IsSending by main (Some p.0) p.1) (λ i. (sym did.0 i, sym did.1 i)) kept

      pub control-seen : (r : Result T Refusal) → sending_of by main (Some control) pushed ≡ v → IsPushed e r control now pushed after →
          IsSeen e r v (sending_of by main (Some now) after)
      control-seen (Ok x) view did =
          (λ i. sending_of by main (Some (did.0 i)) (did.1 i)) ∙ ap (λ (u : SendPassView). record u { pushed = u.pushed ++ e ∷ [] }) view
      control-seen (Err x) view did = (λ i. sending_of by main (Some (did.0 i)) (did.1 i)) ∙ view

      pub control-refused : (r : Result T Refusal) → IsSending by main (Some control) pushed → sending_of by main (Some control) pushed ≡ v →
          IfErr r (IsFifoRefusal control.fifo.capacity control.ledger) → IfErr r (IsReasonToRefuse v)
      control-refused (Ok x) kept view found = found
      control-refused (Err why.Full) kept view found = let never : None ≡ Some found.0 = sym kept.3 ∙ found.1 in absurd (cc)
      control-refused (Err why.NoMemory) kept view found = subst (λ (u : SendPassView). IsReasonToRefuse u why.NoMemory) view kept.2

    module _ (control : Option FifoPort) where
      pub main-after : (r : Result T Refusal) → IsSending by main control pushed → IsForMain control e → IsPushed e r main now pushed after →
          IsSending by now control after
      main-after (Ok x) kept is did = subst (IsSending by now control) (sym did.1) (main-kept by main pushed e control now did.0 kept is)
      main-after (Err x) kept is did =
          subst (λ (p : FifoPort × List Envelope). IsSending by p.0 control p.1) (λ i. (sym did.0 i, sym did.1 i)) kept

      pub main-seen : (r : Result T Refusal) → sending_of by main control pushed ≡ v → IsPushed e r main now pushed after →
          IsSeen e r v (sending_of by now control after)
      main-seen (Ok x) view did =
          ap (sending_of by now control) did.1
          ∙ (main-is by main pushed e control now did.0 ∙ ap (λ (u : SendPassView). record u { pushed = u.pushed ++ e ∷ [] }) view)
      main-seen (Err x) view did = (λ i. sending_of by (did.0 i) control (did.1 i)) ∙ view

      pub main-refused : (r : Result T Refusal) → IsSending by main control pushed → sending_of by main control pushed ≡ v →
          IfErr r (IsFifoRefusal main.fifo.capacity main.ledger) → IfErr r (IsReasonToRefuse v)
      main-refused (Ok x) kept view found = found
      main-refused (Err x) kept view found = subst (λ (u : SendPassView). IsReasonToRefuse u x) view (refused by main control pushed x kept found)
