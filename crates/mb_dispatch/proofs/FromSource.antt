-- A sender carries out what its source gives, one order after another.
use Rattle.std.proofs.Common.{◌≡◌, ◌∙◌, true, false, List, [], ◌∷◌, ◌++◌, Some, None, append_assoc, drop, length, inl, inr, refl, sym, ap, subst}
use Rattle.std.specs.Prelude.{All, Option}
use Rattle.std.specs.Global.{Box}
use Rattle.std.proofs.lemmas.List.{append-nil}
use Rattle.std.proofs.lemmas.List.Elements.{All-cons, All-head, All-nil, All-tail, Contains-append_right}
use Rattle.mb_gate.specs.Accessors.{actors_of}
use Rattle.mb_gate.specs.declared.gates.Gates.{Gates}
use Rattle.mb_home.specs.Contents.{Contents}
use Rattle.mb_msg.specs.declared.order.Order.{Order}
use Rattle.mb_register.proofs.ClaimCounts.{loses-none, loses-then}
use Rattle.mb_source.specs.Given.{GaveAll, GaveSome, Returns, given_since, sendable}
use Rattle.mb_source.specs.Receivers.{has_nobody}
use Rattle.mb_source.specs.RecordedSource.{RecordedSource}
use Rattle.mb_source.proofs.Given.{gave-all, gave-more, gave-none, sendable-append, sendable-none, sendable-one, since-all, since-more, since-none}
use Rattle.mb_system.specs.Members.{IsSenderOf, OutsideSender, sender_caller}
use Rattle.mb_system.specs.Obligations.{KeepsObligations, OwesNobody}
use Rattle.mb_system.proofs.Obligations.{obligations-same, obligations-then}
use Rattle.mb_system.specs.declared.failure.RunError.{RunError}
use Rattle.mb_system.specs.declared.failure.RunError.TheVariants.{JournalFull, NoMemory, NoSuchActor}
use Rattle.mb_dispatch.specs.Claims.{SenderLosesNoClaim}
use Rattle.mb_dispatch.specs.Faults.{BreaksSending}
use Rattle.mb_dispatch.specs.Orders.{HasSent, StopsWithin}
use Rattle.mb_dispatch.specs.Paired.{pairs}
use Rattle.mb_dispatch.specs.Sources.{BreaksPair, IsPairDone, IsPairOf, KeepsPair, orders_since, others_of}
use Rattle.mb_dispatch.proofs.Sending.{sent-none, sent-then}

-- at one more sending was broken off
pub breaks-more : (gates : Gates (Box Contents)) (xs ys : List Order) (fault : RunError) → BreaksSending gates ys fault → BreaksSending gates (xs ++ ys) fault
breaks-more gates xs ys NoMemory broken = tt
breaks-more gates xs ys JournalFull broken = broken
breaks-more gates xs ys NoSuchActor broken = (broken.0, Contains-append_right xs ys broken.0 broken.1, broken.2, broken.3)

-- it stopped at one more
pub stops-more : (xs ys : List Order) (a b c : OutsideSender) → HasSent xs a b → StopsWithin ys b c → StopsWithin (xs ++ ys) a c
stops-more xs ys a b c before stops = record {
  done = xs ++ stops.done;
  next = stops.next;
  left = stops.left;
  are = ap (λ l. xs ++ l) stops.are ∙ sym (append_assoc xs stops.done (stops.next ∷ stops.left));
  sent = record {
    times = stops.sent.times;
    fewer = stops.sent.fewer;
    sent =
        subst (λ l. HasSent l a c) (sym (append_assoc xs stops.done (record stops.next { times = stops.sent.times } ∷ [])))
        (sent-then xs (stops.done ++ (record stops.next { times = stops.sent.times } ∷ [])) a b c before stops.sent.sent);
  };
}

module _ {S : Type 0} (gates : Gates (Box Contents)) (gives : S → Option Order → S → Type 0) (takes_back : S → Order → S → Type 0) where
  -- what holds of a sender and its source while the source is asked
  pub record IsUpTo (old : OutsideSender) (source : RecordedSource S) (new : OutsideSender) (now : RecordedSource S) : Type 0 where
    pub same_gates : IsSenderOf gates new
    pub gave : GaveSome gives takes_back (others_of gates) source now
    pub sent : HasSent (orders_since gates source now) old new
    pub obligations : KeepsObligations (actors_of gates) (sender_caller old.registrar) (sender_caller new.registrar)
    pub claims : SenderLosesNoClaim old new

  pub up-to-none : (sender : OutsideSender) (source : RecordedSource S) → IsSenderOf gates sender → IsUpTo sender source sender source
  up-to-none sender source ours =
      let gave = gave-none gives takes_back (others_of gates) source in
      let caller = sender_caller sender.registrar in record {
        same_gates = ours;
        gave = gave;
        sent = subst (λ l. HasSent (sendable (others_of gates) l) sender sender) (sym (since-none source)) (sent-none sender);
        obligations = obligations-same (actors_of gates) caller caller refl refl;
        claims = loses-none caller.account caller.view;
      }

  module _ (old mid : OutsideSender) (source now asked : RecordedSource S) (order : Order) (at : IsUpTo old source mid now)
      (recorded : asked.given ≡ now.given ++ order ∷ []) (gave : gives now.source (Some order) asked.source) where
    orders-more : orders_since gates source asked ≡ orders_since gates source now ++ sendable (others_of gates) (order ∷ [])
    orders-more =
        ap (sendable (others_of gates)) (since-more source now asked (order ∷ []) at.gave.more recorded)
        ∙ sendable-append (others_of gates) (given_since source now) (order ∷ [])

    -- it could go to no actor, and came back
    pub up-to-returned : (left : RecordedSource S) → has_nobody (others_of gates) order ≡ true → takes_back asked.source order left.source
        → left.given ≡ asked.given → IsUpTo old source mid left
    up-to-returned left nobody took same = record {
      same_gates = at.same_gates;
      gave = gave-more gives takes_back (others_of gates) source now left order at.gave (same ∙ recorded)
          (asked.source, gave, subst (λ b. Returns gives takes_back (others_of gates) b asked.source order left.source) (sym nobody) took);
      sent =
          subst (λ l. HasSent (sendable (others_of gates) (drop (length source.given) l)) old mid) (sym same)
          (subst (λ l. HasSent l old mid)
          (sym (orders-more ∙ ap (λ l. orders_since gates source now ++ l) (sendable-none (others_of gates) order nobody)
          ∙ append-nil (orders_since gates source now))) at.sent);
      obligations = at.obligations;
      claims = at.claims;
    }

    module _ (somebody : has_nobody (others_of gates) order ≡ false) where
      orders-one : orders_since gates source asked ≡ orders_since gates source now ++ order ∷ []
      orders-one = orders-more ∙ ap (λ l. orders_since gates source now ++ l) (sendable-one (others_of gates) order somebody)

      pub gave-one : GaveSome gives takes_back (others_of gates) source asked
      gave-one =
          gave-more gives takes_back (others_of gates) source now asked order at.gave recorded
          (asked.source, gave, subst (λ b. Returns gives takes_back (others_of gates) b asked.source order asked.source) (sym somebody) refl)

      -- it was carried out
      pub up-to-sent : (new : OutsideSender) → IsSenderOf gates new → HasSent (order ∷ []) mid new
          → KeepsObligations (actors_of gates) (sender_caller mid.registrar) (sender_caller new.registrar) → SenderLosesNoClaim mid new
          → IsUpTo old source new asked
      up-to-sent new ours sent keeps claims = record {
        same_gates = ours;
        gave = gave-one;
        sent = subst (λ l. HasSent l old new) (sym orders-one) (sent-then (orders_since gates source now) (order ∷ []) old mid new at.sent sent);
        obligations =
            obligations-then (actors_of gates) (sender_caller old.registrar) (sender_caller mid.registrar) (sender_caller new.registrar)
            at.obligations keeps;
        claims = loses-then _ _ _ _ _ _ at.claims claims;
      }

      -- it was refused
      pub keeps-stopped : (new : OutsideSender) → IsSenderOf gates new → new.send_log.by ≡ mid.send_log.by → StopsWithin (order ∷ []) mid new
          → SenderLosesNoClaim mid new → KeepsPair gates gives takes_back (old, source) (new, asked)
      keeps-stopped new ours by stops claims = record {
        same_gates = ours;
        by = by ∙ at.sent.by;
        gave = inr gave-one;
        sent = inr (subst (λ l. StopsWithin l old new) (sym orders-one) (stops-more (orders_since gates source now) (order ∷ []) old mid new at.sent stops));
        claims = loses-then _ _ _ _ _ _ at.claims claims;
      }

      pub breaks-stopped : (new : OutsideSender) (fault : RunError) → BreaksSending gates (order ∷ []) fault
          → BreaksPair gates (old, source) (new, asked) fault
      breaks-stopped new fault broken =
          subst (λ l. BreaksSending gates l fault) (sym orders-one) (breaks-more gates (orders_since gates source now) (order ∷ []) fault broken)

  -- there was no more, and the sender looked again at whom it owes a look
  module _ (old mid new : OutsideSender) (source now asked : RecordedSource S) (at : IsUpTo old source mid now) (recorded : asked.given ≡ now.given ++ [])
      (ended : gives now.source None asked.source) (sent : HasSent (orders_since gates source now) old new) where
    orders-all : orders_since gates source asked ≡ orders_since gates source now
    orders-all = ap (sendable (others_of gates)) (since-all gives takes_back (others_of gates) source now asked at.gave recorded)

    gave-last : GaveAll gives takes_back (others_of gates) source asked
    gave-last = gave-all gives takes_back (others_of gates) source now asked at.gave recorded ended

    sent-last : HasSent (orders_since gates source asked) old new
    sent-last = subst (λ l. HasSent l old new) (sym orders-all) sent

    pub keeps-done : IsSenderOf gates new → new.send_log.by ≡ mid.send_log.by → SenderLosesNoClaim mid new
        → KeepsPair gates gives takes_back (old, source) (new, asked)
    keeps-done ours by claims = record {
      same_gates = ours;
      by = by ∙ at.sent.by;
      gave = inl gave-last;
      sent = inl sent-last;
      claims = loses-then _ _ _ _ _ _ at.claims claims;
    }

    pub pair-done : KeepsObligations (actors_of gates) (sender_caller mid.registrar) (sender_caller new.registrar) → OwesNobody gates new
        → IsPairDone gates gives takes_back (old, source) (new, asked)
    pair-done keeps nobody = record {
      gave = gave-last;
      sent = sent-last;
      nobody = nobody;
      obligations =
          obligations-then (actors_of gates) (sender_caller old.registrar) (sender_caller mid.registrar) (sender_caller new.registrar)
          at.obligations keeps;
    }

    pub breaks-last : (fault : RunError) → fault ≡ NoMemory → BreaksPair gates (old, source) (new, asked) fault
    breaks-last fault is = subst (BreaksSending gates (orders_since gates source asked)) (sym is) tt

-- each of these senders is of the gates, also beside its source
pub all-ready : {S : Type 0} (gates : Gates (Box Contents)) (senders : List OutsideSender) (sources : List (RecordedSource S))
    → All (λ (s : OutsideSender). IsSenderOf gates s) senders → All (IsPairOf gates) (pairs senders sources)
all-ready gates [] sources all = All-nil (IsPairOf gates)
all-ready gates (s ∷ senders) [] all = All-nil (IsPairOf gates)
all-ready gates (s ∷ senders) (source ∷ sources) all =
    let ours = λ (x : OutsideSender). IsSenderOf gates x in
    All-cons (IsPairOf gates) (s, source) (pairs senders sources) (All-head ours s senders all) (all-ready gates senders sources (All-tail ours s senders all))
