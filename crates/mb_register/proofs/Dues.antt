-- What was seen of an actor that is due.
use Rattle.std.proofs.Common.{◌≡◌, ◌≢◌, ◌⊎◌, inl, inr, ℕ, ◌==◌, Bool, true, false, if◌then◌else◌}
use Rattle.std.proofs.Common.{List, [], ◌∷◌, ◌++◌, refl, sym, ap, ◌∙◌, append_assoc}
use Rattle.mb_status.specs.Mailbox.{Mailbox, word_of, can_schedule}
use Rattle.mb_ghost.proofs.SeenLemmas.{each_append, each_weaker}
use Rattle.mb_gate.specs.View.{View, Observation, Read, Counted, Looked, counting, looking}
use Rattle.mb_register.specs.Due.{SawSince, SawListed, SawWaiting, SawDue, GotOnlyDue}
use Rattle.mb_register.specs.Hint.{has_message_hint, has_system_message_hint}
use Rattle.mb_register.specs.Registering.{QueueAccount, HandsClaimOn}
use Rattle.mb_register.specs.declared.hint.Hint.{Hint}

second : {A B C : Type 0} → (B → C) → A ⊎ B → A ⊎ C
second f (inl a) = inl a
second f (inr b) = inr (f b)

-- what was seen last
pub saw-now : (s : Observation) (u v : View) → v.log ≡ s ∷ u.log → SawSince s u v
saw-now s u v is = record { later = []; earlier = []; log = is }

log-if : (b : Bool) (v w : View) (log : List Observation) → v.log ≡ log → w.log ≡ log → (if b then v else w).log ≡ log
log-if true v w log a b = a
log-if false v w log a b = b

pub saw-listed : (id : ℕ) (b : Bool) (v w : View) → w ≡ looking id b v → b ≡ true → SawListed id v w
saw-listed id true v w is some = saw-now (Looked id true) v w (ap (λ (u : View). u.log) is)
saw-listed id false v w is some = absurd (cc)

pub saw-waiting : (id n : ℕ) (v w : View) → w ≡ counting id n v → n ≢ 0 → SawWaiting id v w
saw-waiting id n v w is some =
    (n, some, saw-now (Counted id n) v w (ap (λ (u : View). u.log) is ∙ log-if (n == 0) _ _ (Counted id n ∷ v.log) refl refl))

-- what was seen was seen still, whatever was seen after it, or before
module _ (u v w : View) (looks : List Observation) where
  pub saw-later : (s : Observation) → w.log ≡ looks ++ v.log → SawSince s u v → SawSince s u w
  saw-later s is a = record {
    later = looks ++ a.later;
    earlier = a.earlier;
    log = is ∙ ap (λ l. looks ++ l) a.log ∙ sym (append_assoc looks a.later (s ∷ (a.earlier ++ u.log)));
  }

  pub saw-earlier : (s : Observation) → v.log ≡ looks ++ u.log → SawSince s v w → SawSince s u w
  saw-earlier s is b = record {
    later = b.later;
    earlier = b.earlier ++ looks;
    log = b.log ∙ ap (λ l. b.later ++ (s ∷ (b.earlier ++ l))) is ∙ ap (λ l. b.later ++ (s ∷ l)) (sym (append_assoc b.earlier looks u.log));
  }

  pub waiting-later : (id : ℕ) → w.log ≡ looks ++ v.log → SawWaiting id u v → SawWaiting id u w
  waiting-later id is s = (s.0, s.1, saw-later (Counted id s.0) is s.2)

  pub waiting-earlier : (id : ℕ) → v.log ≡ looks ++ u.log → SawWaiting id v w → SawWaiting id u w
  waiting-earlier id is s = (s.0, s.1, saw-earlier (Counted id s.0) is s.2)

  pub due-later : (hint : Hint) (id : ℕ) → w.log ≡ looks ++ v.log → SawDue id hint u v → SawDue id hint u w
  due-later hint id is d = record {
    status = d.status;
    has_messages = d.has_messages;
    has_system = d.has_system;
    due = d.due;
    read = saw-later (Read id (word_of d.status)) is d.read;
    waiting = λ has. second (waiting-later id is) (d.waiting has);
    listed = λ has. second (saw-later (Looked id true) is) (d.listed has);
  }

  due-earlier : (hint : Hint) (id : ℕ) → v.log ≡ looks ++ u.log → SawDue id hint v w → SawDue id hint u w
  due-earlier hint id is d = record {
    status = d.status;
    has_messages = d.has_messages;
    has_system = d.has_system;
    due = d.due;
    read = saw-earlier (Read id (word_of d.status)) is d.read;
    waiting = λ has. second (waiting-earlier id is) (d.waiting has);
    listed = λ has. second (saw-earlier (Looked id true) is) (d.listed has);
  }

-- by a status that was read, and then a look at the list, and then the number of envelopes
pub due-by : (id : ℕ) (hint : Hint) (status : Mailbox) (has_messages has_system : Bool) (a b d e : View) (looked counted : List Observation)
    → can_schedule status has_messages has_system ≡ true → b.log ≡ Read id (word_of status) ∷ a.log → d.log ≡ looked ++ b.log
    → e.log ≡ counted ++ d.log → (has_system ≡ true → (has_system_message_hint hint ≡ true) ⊎ SawListed id b d)
    → (has_messages ≡ true → (has_message_hint hint ≡ true) ⊎ SawWaiting id d e) → SawDue id hint a e
due-by id hint status has_messages has_system a b d e looked counted due read look count listed waiting = record {
  status = status;
  has_messages = has_messages;
  has_system = has_system;
  due = due;
  read = saw-later a d e counted (Read id (word_of status)) count
      (saw-later a b d looked (Read id (word_of status)) look (saw-now (Read id (word_of status)) a b read));
  waiting = λ has. second (λ s. waiting-earlier a d e (looked ++ Read id (word_of status) ∷ []) id
      (look ∙ ap (λ l. looked ++ l) read ∙ sym (append_assoc looked (Read id (word_of status) ∷ []) a.log)) s) (waiting has);
  listed = λ has. second (λ s. saw-later a d e counted (Looked id true) count
      (saw-earlier a b d (Read id (word_of status) ∷ []) (Looked id true) read s)) (listed has);
}

-- by a status that was read, and a hint at envelopes
pub due-hinted : (id : ℕ) (hint : Hint) (status : Mailbox) (a b : View) → can_schedule status true false ≡ true → has_message_hint hint ≡ true
    → b.log ≡ Read id (word_of status) ∷ a.log → SawDue id hint a b
due-hinted id hint status a b due hinted read = record {
  status = status;
  has_messages = true;
  has_system = false;
  due = due;
  read = saw-now (Read id (word_of status)) a b read;
  waiting = λ has. inl hinted;
  listed = λ has. absurd (cc);
}

module _ (hint : Hint) where
  pub got-none : (u v : View) → v.got ≡ u.got → GotOnlyDue hint u v
  got-none u v same = record { of_these = []; got = same; due = tt }

  pub got-then : (u v w : View) (looks looks' : List Observation) → v.log ≡ looks ++ u.log → w.log ≡ looks' ++ v.log → GotOnlyDue hint u v
      → GotOnlyDue hint v w → GotOnlyDue hint u w
  got-then u v w looks looks' is is' a b = record {
    of_these = b.of_these ++ a.of_these;
    got = b.got ∙ ap (λ l. b.of_these ++ l) a.got ∙ sym (append_assoc b.of_these a.of_these u.got);
    due = each_append (λ id. SawDue id hint u w) b.of_these a.of_these
        (each_weaker (λ id. SawDue id hint v w) (λ id. SawDue id hint u w) b.of_these
        (λ id. due-earlier u v w looks hint id is) b.due)
        (each_weaker (λ id. SawDue id hint u v) (λ id. SawDue id hint u w) a.of_these
        (λ id. due-later u v w looks' hint id is') a.due);
  }

  -- an actor that was seen to be due, of which a claim was handed on then
  pub got-handed : {H : Type 0} (id : ℕ) (old new : QueueAccount H) (u v w : View) (result : Bool) → SawDue id hint u w → v.got ≡ u.got
      → HandsClaimOn id old new v w result → GotOnlyDue hint u w
  got-handed id old new u v w true due same h = record { of_these = id ∷ []; got = h.1.got ∙ ap (λ l. id ∷ l) same; due = (due, tt) }
  got-handed id old new u v w false due same (inl h) = record { of_these = []; got = h.1.got ∙ same; due = tt }
  got-handed id old new u v w false due same (inr h) = record { of_these = id ∷ []; got = h.1.got ∙ ap (λ l. id ∷ l) same; due = (due, tt) }
