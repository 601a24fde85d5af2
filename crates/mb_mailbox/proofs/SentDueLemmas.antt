-- Which system messages a run has sent, act by act.
use Rattle.std.proofs.Common.{◌≡◌, ℕ, Bool, true, false, List, [], ◌∷◌, ◌++◌, Some, None, refl, sym, ap, ◌∙◌, subst, append_assoc, append-nil}
use Rattle.mb_msg.specs.declared.system.SysMsg.{SysMsg}
use Rattle.mb_msg.specs.declared.envelope.Body.{Body}
use Rattle.mb_msg.specs.declared.id.ActorId.{ActorId}
use Rattle.mb_journal.specs.Acts.{Act, acts}
use Rattle.mb_journal.specs.Acts.Act.{Tell, Sys, SuspendSelf, ResumeSelf, CloseSelf}
use Rattle.mb_journal.specs.Entry.{Entry}
use Rattle.mb_journal.specs.Identity.{Identity}
use Rattle.mb_ghost.proofs.SeenLemmas.{each_weaker}
use Rattle.mb_gate.specs.SentSystem.{SplitClaim, Listed, Dropped, Answered, Parting, IsRightPart, HasSentDue, HasSentDueSince, answered_to, messages_of, notice}
use Rattle.mb_gate.specs.View.{SentSystem}
use Rattle.mb_gate.proofs.SentSystemLemmas.{sent_nothing, said_listed, said_dropped, said_answered, said_parting}
use Rattle.mb_mailbox.specs.SentDue.{HasSentDueExcept}

module _ (who : Identity) (actor : ℕ) (before : List Entry) where
  -- when a claim was taken, nothing was due and nothing sent
  pub told-first : (shut : Bool) → HasSentDueExcept who actor shut before before [] []
  told-first shut = record { newer = []; joined = refl; due = []; due_is = refl; told = sent_nothing actor shut }

  -- an entry more: its acts are to be carried out
  pub told-entry : (shut : Bool) (journal : List Entry) (sent_system : List SentSystem) (e : Entry) → HasSentDueExcept who actor shut journal before [] sent_system →
      HasSentDueExcept who actor shut (e ∷ journal) before (acts who journal e) sent_system
  told-entry shut journal sent_system e t = record {
    newer = e ∷ t.newer;
    joined = ap (λ j. e ∷ j) t.joined;
    due = t.due;
    due_is =
        ap (λ d. d ++ messages_of (acts who (t.newer ++ before) e)) (t.due_is ∙ append-nil t.due)
        ∙ ap (λ j. t.due ++ messages_of (acts who j e)) (sym t.joined);
    told = t.told;
  }

  module _ (journal : List Entry) (pending : List Act) (sent_system : List SentSystem) where
    -- acts that send no system message say nothing
    pub told-tell : (shut : Bool) (to : ActorId) (body : Body) → HasSentDueExcept who actor shut journal before (Tell to body ∷ pending) sent_system →
        HasSentDueExcept who actor shut journal before pending sent_system
    told-tell shut to body t = record { newer = t.newer; joined = t.joined; due = t.due; due_is = t.due_is; told = t.told }

    pub told-suspend : (shut : Bool) → HasSentDueExcept who actor shut journal before (SuspendSelf ∷ pending) sent_system →
        HasSentDueExcept who actor shut journal before pending sent_system
    told-suspend shut t = record { newer = t.newer; joined = t.joined; due = t.due; due_is = t.due_is; told = t.told }

    pub told-resume : (shut : Bool) → HasSentDueExcept who actor shut journal before (ResumeSelf ∷ pending) sent_system →
        HasSentDueExcept who actor shut journal before pending sent_system
    told-resume shut t = record { newer = t.newer; joined = t.joined; due = t.due; due_is = t.due_is; told = t.told }

    right-closed : (shut : Bool) (p : SplitClaim) → IsRightPart actor shut p → IsRightPart actor true p
    right-closed shut (Listed to message) r = r
    right-closed shut (Dropped to message) r = r
    right-closed shut (Answered to message whom ended) r = r
    right-closed shut (Parting whom ended) r = refl

    -- an actor that closes says no less
    pub told-close : (shut : Bool) → HasSentDueExcept who actor shut journal before (CloseSelf ∷ pending) sent_system →
        HasSentDueExcept who actor true journal before pending sent_system
    told-close shut t = record {
      newer = t.newer;
      joined = t.joined;
      due = t.due;
      due_is = t.due_is;
      told = record {
        parts = t.told.parts;
        sent_system_is = t.told.sent_system_is;
        due_is = t.told.due_is;
        right = each_weaker (IsRightPart actor shut) (IsRightPart actor true) t.told.parts (right-closed shut) t.told.right;
      };
    }

    -- a system message that a list took
    pub told-listed : (shut : Bool) (to : ActorId) (message : SysMsg) → HasSentDueExcept who actor shut journal before (Sys to message ∷ pending) sent_system →
        HasSentDueExcept who actor shut journal before pending (sent_system ++ record { to = to.0; message = message; was_ended = false } ∷ [])
    told-listed shut to message t = record {
      newer = t.newer;
      joined = t.joined;
      due = t.due ++ (to.0, message) ∷ [];
      due_is = t.due_is ∙ sym (append_assoc t.due ((to.0, message) ∷ []) (messages_of pending));
      told = said_listed actor shut t.due sent_system t.told to.0 message;
    }

    -- one that found its list ended, of which nobody is told
    pub told-dropped : (shut : Bool) (to : ActorId) (message : SysMsg) → answered_to actor message ≡ None →
        HasSentDueExcept who actor shut journal before (Sys to message ∷ pending) sent_system →
        HasSentDueExcept who actor shut journal before pending (sent_system ++ record { to = to.0; message = message; was_ended = true } ∷ [])
    told-dropped shut to message nobody t = record {
      newer = t.newer;
      joined = t.joined;
      due = t.due ++ (to.0, message) ∷ [];
      due_is = t.due_is ∙ sym (append_assoc t.due ((to.0, message) ∷ []) (messages_of pending));
      told = said_dropped actor shut t.due sent_system t.told to.0 message nobody;
    }

    -- one that found its list ended, and was answered at once
    pub told-answered : (shut : Bool) (to : ActorId) (message : SysMsg) (whom : ℕ) (ended : Bool) → answered_to actor message ≡ Some whom →
        HasSentDueExcept who actor shut journal before (Sys to message ∷ pending) sent_system →
        HasSentDueExcept who actor shut journal before pending
        ((sent_system ++ record { to = to.0; message = message; was_ended = true } ∷ [])
        ++ record { to = whom; message = notice to.0; was_ended = ended } ∷ [])
    told-answered shut to message whom ended right t = record {
      newer = t.newer;
      joined = t.joined;
      due = t.due ++ (to.0, message) ∷ [];
      due_is = t.due_is ∙ sym (append_assoc t.due ((to.0, message) ∷ []) (messages_of pending));
      told =
          subst (λ s. HasSentDue actor shut (t.due ++ (to.0, message) ∷ []) s)
          (sym (append_assoc sent_system (record { to = to.0; message = message; was_ended = true } ∷ [])
          (record { to = whom; message = notice to.0; was_ended = ended } ∷ [])))
          (said_answered actor shut t.due sent_system t.told to.0 message whom ended right);
    }

    -- a closed actor's notice of its own end
    pub told-parting : (whom : ℕ) (ended : Bool) → HasSentDueExcept who actor true journal before pending sent_system →
        HasSentDueExcept who actor true journal before pending (sent_system ++ record { to = whom; message = notice actor; was_ended = ended } ∷ [])
    told-parting whom ended t = record {
      newer = t.newer;
      joined = t.joined;
      due = t.due;
      due_is = t.due_is;
      told = said_parting actor true t.due sent_system t.told whom ended refl;
    }

  -- once all is carried out, all that was due was sent
  pub told-all : (shut : Bool) (journal : List Entry) (sent_system : List SentSystem) → HasSentDueExcept who actor shut journal before [] sent_system →
      HasSentDueSince who actor shut journal before sent_system
  told-all shut journal sent_system t = record {
    newer = t.newer;
    joined = t.joined;
    told = subst (λ d. HasSentDue actor shut d sent_system) (sym (t.due_is ∙ append-nil t.due)) t.told;
  }
