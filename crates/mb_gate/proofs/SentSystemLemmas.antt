-- What a run adds to its claim's record, part by part.
use Rattle.std.proofs.Common.{◌≡◌, ℕ, Bool, true, false, List, [], ◌∷◌, ◌++◌, Some, None, sym, refl, ap, ◌∙◌, append_assoc, append-nil}
use Rattle.std.specs.List.{flat_map}
use Rattle.mb_msg.specs.declared.system.SysMsg.{SysMsg}
use Rattle.mb_ghost.proofs.SeenLemmas.{each_append, each_weaker}
use Rattle.mb_gate.specs.View.{SentSystem}
use Rattle.mb_gate.specs.SentSystem.{SplitClaim, Listed, Dropped, Answered, Parting, sent_by_part, due_of_part, IsRightPart, HasSentDue, HasSentDueSince, answered_to, notice}
use Rattle.mb_journal.specs.Identity.{Identity}
use Rattle.mb_journal.specs.Entry.{Entry}

flat_more : {A B : Type 0} (f : A → List B) (xs : List A) (x : A) → flat_map f (xs ++ x ∷ []) ≡ flat_map f xs ++ f x
flat_more f [] x = append-nil (f x)
flat_more f (y ∷ ys) x = ap (λ z. f y ++ z) (flat_more f ys x) ∙ sym (append_assoc (f y) (flat_map f ys) (f x))

-- nothing was due, and nothing sent
pub sent_nothing : (actor : ℕ) (closed : Bool) → HasSentDue actor closed [] []
sent_nothing actor closed = record { parts = []; sent_system_is = refl; due_is = refl; right = tt }

module _ (actor : ℕ) (closed : Bool) (due : List (ℕ × SysMsg)) (sent_system : List SentSystem) (s : HasSentDue actor closed due sent_system) where
  -- one part more
  pub said_more : (part : SplitClaim) → IsRightPart actor closed part → HasSentDue actor closed (due ++ due_of_part part) (sent_system ++ sent_by_part actor part)
  said_more part right = record {
    parts = s.parts ++ part ∷ [];
    sent_system_is = ap (λ z. z ++ sent_by_part actor part) s.sent_system_is ∙ sym (flat_more (sent_by_part actor) s.parts part);
    due_is = ap (λ z. z ++ due_of_part part) s.due_is ∙ sym (flat_more due_of_part s.parts part);
    right = each_append (IsRightPart actor closed) s.parts (part ∷ []) s.right (right, tt);
  }

  -- a message that was due went into a list
  pub said_listed : (to : ℕ) (message : SysMsg) → HasSentDue actor closed (due ++ (to, message) ∷ []) (sent_system ++ record {
    to = to;
    message = message;
    was_ended = false;
  } ∷ [])
  said_listed to message = said_more (Listed to message) tt

  -- one that was due found the list ended, and nobody is told
  pub said_dropped : (to : ℕ) (message : SysMsg) → answered_to actor message ≡ None → HasSentDue actor closed (due ++ (to, message) ∷ []) (sent_system ++
      record { to = to; message = message; was_ended = true } ∷ [])
  said_dropped to message nobody = said_more (Dropped to message) nobody

  -- one that was due found the list ended, and its notice went out at once
  pub said_answered : (to : ℕ) (message : SysMsg) (whom : ℕ) (ended : Bool) → answered_to actor message ≡ Some whom → HasSentDue actor closed (due ++
      (to, message) ∷ []) (sent_system ++ (record { to = to; message = message; was_ended = true } ∷ record {
        to = whom;
        message = notice to;
        was_ended
            = ended;
      } ∷ []))
  said_answered to message whom ended right = said_more (Answered to message whom ended) right

  -- a closed actor's notice of its own end
  pub said_parting : (whom : ℕ) (ended : Bool) → closed ≡ true → HasSentDue actor closed due (sent_system ++ record {
    to = whom;
    message = notice actor;
    was_ended = ended;
  } ∷ [])
  said_parting whom ended right = let m = said_more (Parting whom ended) right in
      record { parts = m.parts; sent_system_is = m.sent_system_is; due_is = sym (append-nil due) ∙ m.due_is; right = m.right }

-- what was sent while the actor was open may also be what a closed one sent
pub once_closed : (actor : ℕ) (closed : Bool) (due : List (ℕ × SysMsg)) (sent_system : List SentSystem) → HasSentDue actor closed due sent_system
    → HasSentDue actor true due sent_system
once_closed actor closed due sent_system s = record {
  parts = s.parts;
  sent_system_is = s.sent_system_is;
  due_is = s.due_is;
  right = each_weaker (IsRightPart actor closed) (IsRightPart actor true) s.parts (λ p. elim p as (λ z. IsRightPart actor closed z → IsRightPart actor true z) [
    | Listed to message ↦ (λ h. h)
    | Dropped to message ↦ (λ h. h)
    | Answered to message whom ended ↦ (λ h. h)
    | Parting whom ended ↦ (λ h. refl)
  ]) s.right;
}

-- with no entry more nothing was due
pub nothing_since : (who : Identity) (actor : ℕ) (closed : Bool) (journal : List Entry) → HasSentDueSince who actor closed journal journal []
nothing_since who actor closed journal = record { newer = []; joined = refl; told = sent_nothing actor closed }
