-- The passes of a sender, after one of them pushed, or was refused.
use Rattle.std.proofs.Common.{◌≡◌, ◌≢◌, ◌⊎◌, inl, inr, ℕ, zero, suc, ◌+◌, List, []}
use Rattle.std.proofs.Common.{◌∷◌, ◌++◌, Some, None, slice_get, slice_set, refl, sym, ap, ◌∙◌, subst, arith}
use Rattle.std.proofs.lemmas.Option.{none-some, same_Some}
use Rattle.mb_msg.specs.declared.envelope.Envelope.{Envelope}
use Rattle.mb_msg.specs.declared.dead_letter.DeadLetterReason.{DeadLetterReason}
use Rattle.mb_journal.specs.declared.sent_envelope.SentEnvelope.{SentEnvelope}
use Rattle.mb_journal.specs.Accepted.{queued, to_actor}
use Rattle.mb_queue.specs.Passes.{Queue, SendPassView}
use Rattle.mb_send.specs.Posted.{posting}
use Rattle.mb_send.specs.Sends.{AreRoutes, IsRoute, receiving_queues}
use Rattle.mb_register.proofs.Bits.{same_or_other}
use Rattle.mb_send.proofs.Posting.{route-more, route-other, route-dead}

set-at : {A : Type 0} (xs : List A) (k : ℕ) (y s : A) → slice_get (slice_set xs k y) k ≡ Some s → s ≡ y
set-at [] k y s e = absurd (none-some s e)
set-at (x ∷ xs) zero y s e = sym (same_Some y s e)
set-at (x ∷ xs) (suc k) y s e = set-at xs k y s e

set-other : {A : Type 0} (xs : List A) (k i : ℕ) (y : A) → i ≢ k → slice_get (slice_set xs k y) i ≡ slice_get xs i
set-other [] k i y ne = refl
set-other (x ∷ xs) zero zero y ne = absurd (ne refl)
set-other (x ∷ xs) zero (suc i) y ne = refl
set-other (x ∷ xs) (suc k) zero y ne = refl
set-other (x ∷ xs) (suc k) (suc i) y ne = set-other xs k i y (λ e. ne (ap suc e))

-- the queue of a pass
pub queue-there : (xs : List SendPassView) (k : ℕ) (old : SendPassView) → slice_get xs k ≡ Some old → slice_get (receiving_queues xs) k ≡ Some old.queue
queue-there [] k old there = absurd (none-some old there)
queue-there (x ∷ xs) zero old there = ap (λ (s : SendPassView). Some s.queue) (same_Some x old there)
queue-there (x ∷ xs) (suc k) old there = queue-there xs k old there

-- a pass that is of its queue still leaves the queues as they were
pub queues-set : (xs : List SendPassView) (k : ℕ) (old new : SendPassView) → slice_get xs k ≡ Some old → new.queue ≡ old.queue →
    receiving_queues (slice_set xs k new) ≡ receiving_queues xs
queues-set [] k old new there same = refl
queues-set (x ∷ xs) zero old new there same =
    ap (λ (q : Queue). q ∷ receiving_queues xs) (same ∙ ap (λ (s : SendPassView). s.queue) (sym (same_Some x old there)))
queues-set (x ∷ xs) (suc k) old new there same = ap (λ (qs : List Queue). x.queue ∷ qs) (queues-set xs k old new there same)

module _ (by : ℕ) (ps : List SentEnvelope) (sends : List SendPassView) (routes : AreRoutes by ps sends) (k : ℕ) (old : SendPassView)
    (there : slice_get sends k ≡ Some old) (e : Envelope) where
  pub routes-more : (new : SendPassView) → new ≡ record old { pushed = old.pushed ++ e ∷ [] } → e.to.0 ≡ k + 1
      → AreRoutes by (ps ++ posting e None ∷ []) (slice_set sends k new)
  routes-more new is here i s at = by_place (same_or_other i k)
    where
      by_place : (i ≡ k) ⊎ (i ≢ k) → IsRoute by (i + 1) (ps ++ posting e None ∷ []) s
      by_place (inl same) =
          let route = routes k old there in
          let found : s ≡ new = set-at sends k new s (subst (λ j. slice_get (slice_set sends k new) j ≡ Some s) same at) in
          let now : s ≡ record old { pushed = old.pushed ++ e ∷ [] } = found ∙ is in
          let one : k + 1 ≡ i + 1 = ap (λ n. n + 1) (sym same) in
          record {
            sender = ap (λ (t : SendPassView). t.by) now ∙ route.sender;
            receiver = ap (λ (t : SendPassView). t.queue.to) now ∙ route.receiver ∙ one;
            pushed = ap (λ (t : SendPassView). t.pushed) now ∙ ap (λ l. l ++ e ∷ []) route.pushed ∙ sym (route-more (k + 1) ps e here)
                ∙ ap (λ n. to_actor n (queued (ps ++ posting e None ∷ []))) one;
          }
      by_place (inr other) =
          let route = routes i s (sym (set-other sends k i new other) ∙ at) in
          let apart : e.to.0 ≢ i + 1 = λ same. other (omega (arith, here, same)) in
          record { sender = route.sender; receiver = route.receiver; pushed = route.pushed ∙ sym (route-other (i + 1) ps e apart) }

  pub routes-dead : (new : SendPassView) (why : DeadLetterReason) → new ≡ old → AreRoutes by (ps ++ posting e (Some why) ∷ []) (slice_set sends k new)
  routes-dead new why is i s at = by_place (same_or_other i k)
    where
      from : IsRoute by (i + 1) ps s → IsRoute by (i + 1) (ps ++ posting e (Some why) ∷ []) s
      from route = record { sender = route.sender; receiver = route.receiver; pushed = route.pushed ∙ sym (route-dead (i + 1) ps e why) }

      by_place : (i ≡ k) ⊎ (i ≢ k) → IsRoute by (i + 1) (ps ++ posting e (Some why) ∷ []) s
      by_place (inl same) =
          let found : s ≡ new = set-at sends k new s (subst (λ j. slice_get (slice_set sends k new) j ≡ Some s) same at) in
          from (routes i s (subst (λ j. slice_get sends j ≡ Some s) (sym same) (there ∙ ap (λ t. Some t) (sym (found ∙ is)))))
      by_place (inr other) = from (routes i s (sym (set-other sends k i new other) ∙ at))

-- the passes stay as they are where nothing was pushed
pub routes-is_dead_letter : (by : ℕ) (ps : List SentEnvelope) (sends : List SendPassView) (e : Envelope) (why : DeadLetterReason) → AreRoutes by ps sends →
    AreRoutes by (ps ++ posting e (Some why) ∷ []) sends
routes-is_dead_letter by ps sends e why routes i s at = let route = routes i s at in
    record { sender = route.sender; receiver = route.receiver; pushed = route.pushed ∙ sym (route-dead (i + 1) ps e why) }
