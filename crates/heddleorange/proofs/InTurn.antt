-- Senders that carry out the orders of one row, each in its turn.
use Rattle.std.proofs.Common.{◌≡◌, ◌⊎◌, inl, inr, ℕ, ◌+◌, ◌<◌, List, [], ◌∷◌, ◌++◌, length, refl, sym, ap, ◌∙◌, subst, Some, get_or, take}
use Rattle.std.specs.Prelude.{All, pos, slice_get, slice_set}
use Rattle.std.specs.Global.{Box}
use Rattle.std.proofs.lemmas.Bool.{cases_eq}
use Rattle.std.proofs.lemmas.List.{length-set}
use Rattle.std.proofs.lemmas.List.Elements.{All-cons, All-nil}
use Rattle.std.proofs.lemmas.Option.{same_Some, slice_get-get_or, slice_get_within}
use Rattle.mb_dispatch.proofs.Sending.{sent-none, sent-then}
use Rattle.mb_gate.specs.Accessors.{actors_of}
use Rattle.mb_gate.specs.declared.gates.Gates.{Gates}
use Rattle.mb_home.specs.Contents.{Contents}
use Rattle.mb_msg.specs.declared.order.Order.{Order}
use Rattle.mb_msg.specs.declared.order.OrderKind.TheVariants.{Tell}
use Rattle.mb_msg.specs.declared.payload.Payload.TheVariants.{User}
use Rattle.mb_msg.specs.declared.order.SenderOrder.{SenderOrder}
use Rattle.mb_queue.specs.Passes.{SendPassView}
use Rattle.mb_shutdown.proofs.Lists.{at-place}
use Rattle.mb_startup.specs.Begun.{AreNewSenders}
use Rattle.mb_system.proofs.Obligations.{obligations-same, obligations-then}
use Rattle.mb_system.specs.Members.{OutsideSender, sender_caller}
use Rattle.mb_system.specs.Obligations.{OwesNobody}
use Rattle.heddleorange.specs.Orders.{lists_of, orders_of}
use Rattle.heddleorange.specs.Sent.{HasSentAndRetried, HaveSent}
use Rattle.heddleorange.proofs.InOrder.{at-list, others-next, own-next}
use Rattle.heddleorange.proofs.Sent.{set-here, set-other}

-- an order of nothing, which stands where a row has none
abbrev pub no-sending : SenderOrder
no-sending = record { from = 0; order = record { to = record { 0 = 0 }; what = Tell (User 0 (pos 0)); times = 0 } }

-- each became what it is to
module _ {X : Type 0} where
  pub record AreEach (R : ℕ → X → X → Type 0) (old new : List X) : Type 0 where
    pub same_count : length new ≡ length old
    pub each : (place : ℕ) (a b : X) → slice_get old place ≡ Some a → slice_get new place ≡ Some b → R place a b

  -- one more became something, and of the others more is said
  one-more : (R S : ℕ → X → X → Type 0) (n : ℕ) (old now : List X) (b c : X) → AreEach R old now → slice_get now n ≡ Some b
      → ((a : X) → R n a b → S n a c) → ((k : ℕ) (x y : X) → (k ≡ n → ⊥) → R k x y → S k x y) → AreEach S old (slice_set now n c)
  one-more R S n old now b c so here this others = record {
    same_count = length-set now n c ∙ so.same_count;
    each = λ k x y was is. at k x y was is (cases_eq k n);
  }
    where
      at : (k : ℕ) (x y : X) → slice_get old k ≡ Some x → slice_get (slice_set now n c) k ≡ Some y → (k ≡ n) ⊎ (k ≡ n → ⊥) → S k x y
      at k x y was is (inl same) =
          let after : c ≡ y = same_Some c y
          (sym (set-here now n c (slice_get_within now n b here)) ∙ ap (slice_get (slice_set now n c)) (sym same) ∙ is) in
          subst (λ m. S m x y) (sym same)
          (subst (S n x) after (this x (so.each n x b (ap (slice_get old) (sym same) ∙ was) here)))
      at k x y was is (inr other) = others k x y other (so.each k x y was (sym (set-other now n k c other) ∙ is))

module _ (gates : Gates (Box Contents)) where
  -- the sender of this place carried out its own of these
  abbrev pub DidOwn : List SenderOrder → ℕ → OutsideSender → OutsideSender → Type 0
  DidOwn sends place old new = HasSentAndRetried gates (orders_of place sends) old new

  pub none-sent : (senders : List OutsideSender) → All (OwesNobody gates) senders → AreEach (DidOwn []) senders senders
  none-sent senders nobody = record {
    same_count = refl;
    each = λ place a b was is.
        (subst (DidOwn [] place a) (same_Some a b (sym was ∙ is)) (
          sent-none a,
          at-place (OwesNobody gates) senders place a nobody was,
          obligations-same (actors_of gates) (sender_caller a.registrar) (sender_caller a.registrar) refl refl,
        ));
  }

  -- first these were carried out, and then those
  both-sent : (xs ys : List Order) (a b c : OutsideSender) → HasSentAndRetried gates xs a b → HasSentAndRetried gates ys b c
      → HasSentAndRetried gates (xs ++ ys) a c
  both-sent xs ys a b c p q = (
    sent-then xs ys a b c p.0 q.0,
    q.1,
    obligations-then (actors_of gates) (sender_caller a.registrar) (sender_caller b.registrar) (sender_caller c.registrar) p.2 q.2,
  )

  -- the next order was carried out by its sender
  pub one-sent : (sends : List SenderOrder) (i : ℕ) (d : SenderOrder) (old now : List OutsideSender) (e c : OutsideSender) → i < length sends
      → (get_or sends i d).from < length now → AreEach (DidOwn (take i sends)) old now
      → HasSentAndRetried gates ((get_or sends i d).order ∷ []) (get_or now (get_or sends i d).from e) c
      → AreEach (DidOwn (take (i + 1) sends)) old (slice_set now (get_or sends i d).from c)
  one-sent sends i d old now e c lt from so did =
      let send = get_or sends i d in let b = get_or now send.from e in
      one-more (DidOwn (take i sends)) (DidOwn (take (i + 1) sends)) send.from old now b c so (slice_get-get_or now send.from e from)
      (λ a before. subst (λ l. HasSentAndRetried gates l a c) (own-next send.from sends i d lt refl)
      (both-sent (orders_of send.from (take i sends)) (send.order ∷ []) a b c before did))
      (λ k x y other before. subst (λ l. HasSentAndRetried gates l x y) (others-next k sends i d lt (λ same. other (sym same))) before)

  pub all-in-turn : (senders : ℕ) (sends : List SenderOrder) (old new : List OutsideSender) → AreEach (DidOwn sends) old new
      → HaveSent gates (lists_of senders sends) old new
  all-in-turn senders sends old new so = record {
    same_count = so.same_count;
    each = λ place of a b is was now.
        (subst (λ l. HasSentAndRetried gates l a b) (at-list senders sends place of is) (so.each place a b was now));
  }

  -- new senders owe nobody a look
  pub new-owe-nobody : (number : ℕ) (rows : List (List SendPassView)) (senders : List OutsideSender) → AreNewSenders gates number rows senders
      → All (OwesNobody gates) senders
  new-owe-nobody number [] [] are = All-nil (OwesNobody gates)
  new-owe-nobody number [] (s ∷ senders) are = absurd are
  new-owe-nobody number (row ∷ rows) [] are = absurd are
  new-owe-nobody number (row ∷ rows) (s ∷ senders) are =
      All-cons (OwesNobody gates) s senders (λ id lt. are.0.nobody id) (new-owe-nobody (number + 1) rows senders are.1)
