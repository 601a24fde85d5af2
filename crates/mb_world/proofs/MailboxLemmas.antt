-- Each envelope of a mailbox is accounted for exactly once.
use Rattle.std.proofs.Common.{◌≡◌, suc, take, drop, List, [], ◌∷◌, ◌++◌, sym, ap, subst, ◌∙◌, append_assoc, append-nil}
use Rattle.std.specs.Prelude.{IsPermutation}
use Rattle.std.specs.List.{All}
use Rattle.std.proofs.lemmas.List.Elements.{All-append, All-drop, All-get_or, All-take}
use Rattle.std.proofs.lemmas.List.Sorted.{IsPermutation-append_left, IsPermutation-more}
use Rattle.std.proofs.lemmas.Option.{get_or_from_slice_get, slice_get_within}
use Rattle.mb_msg.specs.declared.envelope.Envelope.{Envelope}
use Rattle.mb_message_queue.specs.MessageQueue.{QueueView, Gives}

-- what is taken out of the queue goes behind what was taken before
pub taken-once : (arrived done : List Envelope) (old new : QueueView) (x : Envelope) → Gives old new x →
    IsPermutation arrived (done ++ old.envelopes) → IsPermutation arrived ((done ++ x ∷ []) ++ new.envelopes)
taken-once arrived done old new x gives all =
    subst (λ (q : QueueView). IsPermutation arrived ((done ++ x ∷ []) ++ q.envelopes)) (sym gives.left)
    (IsPermutation-more arrived done old.envelopes gives.place x (slice_get_within old.envelopes gives.place x gives.is_there)
    (sym (get_or_from_slice_get old.envelopes gives.place x x gives.is_there)) all)

-- so it is where nothing is cleaned up yet
pub given-once : (arrived given cleaned : List Envelope) (old new : QueueView) (x : Envelope) → Gives old new x → cleaned ≡ [] →
    IsPermutation arrived ((given ++ cleaned) ++ old.envelopes) → IsPermutation arrived (((given ++ x ∷ []) ++ cleaned) ++ new.envelopes)
given-once arrived given cleaned old new x gives none all =
    let before : given ++ cleaned ≡ given = ap (λ l. given ++ l) none ∙ append-nil given in
    let after : given ++ x ∷ [] ≡ (given ++ x ∷ []) ++ cleaned =
    sym (ap (λ l. (given ++ x ∷ []) ++ l) none ∙ append-nil (given ++ x ∷ [])) in
    subst (λ l. IsPermutation arrived (l ++ new.envelopes)) after
    (taken-once arrived given old new x gives (subst (λ l. IsPermutation arrived (l ++ old.envelopes)) before all))

-- and where it is cleaned up
pub cleaned-once : (arrived given cleaned : List Envelope) (old new : QueueView) (x : Envelope) → Gives old new x →
    IsPermutation arrived ((given ++ cleaned) ++ old.envelopes) → IsPermutation arrived ((given ++ (cleaned ++ x ∷ [])) ++ new.envelopes)
cleaned-once arrived given cleaned old new x gives all =
    subst (λ l. IsPermutation arrived (l ++ new.envelopes)) (append_assoc given cleaned (x ∷ []))
    (taken-once arrived (given ++ cleaned) old new x gives all)

-- what is queued goes last
pub queued-once : (arrived done queue : List Envelope) (x : Envelope) → IsPermutation arrived (done ++ queue) →
    IsPermutation (arrived ++ x ∷ []) (done ++ (queue ++ x ∷ []))
queued-once arrived done queue x all =
    subst (λ l. IsPermutation (arrived ++ x ∷ []) l) (append_assoc done queue (x ∷ []))
    (IsPermutation-append_left (x ∷ []) arrived (done ++ queue) all)

-- of what all envelopes are, the one that is taken is too, and so are those that stay
pub taken-of : (P : Envelope → Type 0) (old new : QueueView) (x : Envelope) → Gives old new x → All P old.envelopes → P x
taken-of P old new x gives all =
    subst P (get_or_from_slice_get old.envelopes gives.place x x gives.is_there)
    (All-get_or P old.envelopes gives.place x (slice_get_within old.envelopes gives.place x gives.is_there) all)

pub left-of : (P : Envelope → Type 0) (old new : QueueView) (x : Envelope) → Gives old new x → All P old.envelopes → All P new.envelopes
left-of P old new x gives all =
    subst (λ (q : QueueView). All P q.envelopes) (sym gives.left)
    (All-append P (take gives.place old.envelopes) (drop (suc gives.place) old.envelopes) (All-take P gives.place old.envelopes all)
    (All-drop P (suc gives.place) old.envelopes all))
