-- What a run sends and drops, step after step.
use Rattle.std.proofs.Common.{◌≡◌, ℕ, Bool, true, false, List, [], ◌∷◌, ◌++◌, refl, sym, ap, ◌∙◌, subst, append_assoc, append-nil}
use Rattle.std.specs.Prelude.{if◌then◌else◌, is_some}
use Rattle.std.specs.List.{flat_map}
use Rattle.std.proofs.lemmas.List.Concat.{flat_map-append}
use Rattle.mb_msg.specs.declared.system.SysMsg.{SysMsg}
use Rattle.mb_journal.specs.Acts.{Act, acts}
use Rattle.mb_journal.specs.Acts.Act.{Tell, Sys, SuspendSelf, ResumeSelf, CloseSelf}
use Rattle.mb_journal.specs.Aside.{next_front}
use Rattle.mb_journal.specs.Entry.{Entry}
use Rattle.mb_journal.specs.Entry.Entry.{Handled, System, Dropped as DroppedEnvelope}
use Rattle.mb_journal.specs.Identity.{Identity}
use Rattle.mb_ghost.specs.Seen.{Each}
use Rattle.mb_ghost.proofs.SeenLemmas.{each_append, each_weaker}
use Rattle.mb_gate.specs.SentSystem.{SplitClaim, Listed, Dropped, Answered, Parting, IsRightPart, due_of_part, due_since, messages_of, sent_by_part}
use Rattle.mb_gate.specs.View.{Observation, SentSystem, Read, Saw, Counted, Looked, Sent, Unsent, Took, Pushed, Drained, Ended}
use Rattle.mb_mailbox.specs.Notice.{asker}
use Rattle.mb_mailbox.specs.RunState.{RunState}
use Rattle.mb_mailbox.specs.RunSends.{SendsAndAnswers, TakesSystemsIn, SendsDue, SendsForEntries, askers_of, came_since, given_by, listed_by, listed_of, number_if_some, told_of_end}

-- ---- lists, one after another

pub given-append : (xs ys : List Observation) → given_by (xs ++ ys) ≡ given_by ys ++ given_by xs
given-append [] ys = sym (append-nil (given_by ys))
given-append (Drained actor given ∷ xs) ys = ap (λ l. l ++ given) (given-append xs ys) ∙ append_assoc (given_by ys) (given_by xs) given
given-append (Ended actor given ∷ xs) ys = ap (λ l. l ++ given) (given-append xs ys) ∙ append_assoc (given_by ys) (given_by xs) given
given-append (Read a n ∷ xs) ys = given-append xs ys
given-append (Saw a n ∷ xs) ys = given-append xs ys
given-append (Counted a n ∷ xs) ys = given-append xs ys
given-append (Looked a n ∷ xs) ys = given-append xs ys
given-append (Sent a n ∷ xs) ys = given-append xs ys
given-append (Unsent a n ∷ xs) ys = given-append xs ys
given-append (Took a n ∷ xs) ys = given-append xs ys
given-append (Pushed a n m ∷ xs) ys = given-append xs ys

pub listed-append : (xs ys : List Observation) → listed_by (xs ++ ys) ≡ listed_by xs ++ listed_by ys
listed-append [] ys = refl
listed-append (Pushed to n m ∷ xs) ys = ap (λ l. (to, m) ∷ l) (listed-append xs ys)
listed-append (Read a n ∷ xs) ys = listed-append xs ys
listed-append (Saw a n ∷ xs) ys = listed-append xs ys
listed-append (Counted a n ∷ xs) ys = listed-append xs ys
listed-append (Looked a n ∷ xs) ys = listed-append xs ys
listed-append (Sent a n ∷ xs) ys = listed-append xs ys
listed-append (Unsent a n ∷ xs) ys = listed-append xs ys
listed-append (Took a n ∷ xs) ys = listed-append xs ys
listed-append (Drained a given ∷ xs) ys = listed-append xs ys
listed-append (Ended a given ∷ xs) ys = listed-append xs ys

pub listed_of-append : (xs ys : List SentSystem) → listed_of (xs ++ ys) ≡ listed_of xs ++ listed_of ys
listed_of-append [] ys = refl
listed_of-append (s ∷ xs) ys =
    ap (λ l. (if s.was_ended then [] else (s.to, s.message) ∷ []) ++ l) (listed_of-append xs ys)
    ∙ sym (append_assoc (if s.was_ended then [] else (s.to, s.message) ∷ []) (listed_of xs) (listed_of ys))

module _ (who : Identity) (first before : List Entry) where
  pub due-append : (newer : List Entry) → due_since who (newer ++ first) before ≡ due_since who first before ++ due_since who newer (first ++ before)
  due-append [] = sym (append-nil (due_since who first before))
  due-append (e ∷ newer) =
      ap (λ l. l ++ messages_of (acts who ((newer ++ first) ++ before) e)) (due-append newer)
      ∙ append_assoc (due_since who first before) (due_since who newer (first ++ before)) (messages_of (acts who ((newer ++ first) ++ before) e))
      ∙ ap (λ j. due_since who first before ++ (due_since who newer (first ++ before) ++ messages_of (acts who j e))) (append_assoc newer first before)

  pub came-append : (newer : List Entry) → came_since who (newer ++ first) before ≡ came_since who first before ++ came_since who newer (first ++ before)
  came-append [] = sym (append-nil (came_since who first before))
  came-append (System number message outcome ∷ newer) =
      ap (λ l. l ++ (if is_some (next_front who ((newer ++ first) ++ before)) then [] else (number, message) ∷ [])) (came-append newer)
      ∙ append_assoc (came_since who first before) (came_since who newer (first ++ before)) (if is_some (next_front who ((newer ++ first) ++ before)) then [] else (number, message) ∷ [])
      ∙ ap (λ j. came_since who first before ++ (came_since who newer (first ++ before)
      ++ (if is_some (next_front who j) then [] else (number, message) ∷ []))) (append_assoc newer first before)
  came-append (Handled envelope reading outcome ∷ newer) = came-append newer
  came-append (DroppedEnvelope envelope ∷ newer) = came-append newer

-- the messages of the first act stand before those of the others
pub one-first : (act : Act) (pending : List Act) → messages_of (act ∷ pending) ≡ messages_of (act ∷ []) ++ messages_of pending
one-first (Tell to body) pending = refl
one-first (Sys to message) pending = refl
one-first SuspendSelf pending = refl
one-first ResumeSelf pending = refl
one-first CloseSelf pending = refl

-- ---- what is right stays right

pub right-on : (actor : ℕ) (b c : Bool) → (b ≡ true → c ≡ true) → (p : SplitClaim) → IsRightPart actor b p → IsRightPart actor c p
right-on actor b c on (Listed to message) r = r
right-on actor b c on (Dropped to message) r = r
right-on actor b c on (Answered to message whom ended) r = r
right-on actor b c on (Parting whom ended) r = on r

-- ---- one step after another

-- dropped messages stand behind those that came: nothing comes once something was dropped
swapped : (came dropped rest : List (ℕ × SysMsg)) (b : Bool) → (b ≡ false → dropped ≡ []) → (b ≡ true → came ≡ []) →
    dropped ++ (came ++ rest) ≡ came ++ (dropped ++ rest)
swapped came dropped rest true none_dropped none_came =
    ap (λ l. dropped ++ (l ++ rest)) (none_came refl) ∙ ap (λ l. l ++ (dropped ++ rest)) (sym (none_came refl))
swapped came dropped rest false none_dropped none_came =
    ap (λ l. l ++ (came ++ rest)) (none_dropped refl) ∙ ap (λ l. came ++ (l ++ rest)) (sym (none_dropped refl))

still_open : (b c : Bool) → (b ≡ true → c ≡ true) → c ≡ false → b ≡ false
still_open true c on open_yet = absurd (cc (on refl, open_yet))
still_open false c on open_yet = refl

module _ (a b c : RunState) (actor : b.actor ≡ a.actor) (who : b.home.cell.who ≡ a.home.cell.who) where
  pub sends-then : (due dropped due' dropped' : List (ℕ × SysMsg)) → (b.status.closed ≡ true → c.status.closed ≡ true) →
      SendsAndAnswers due dropped a b → SendsAndAnswers due' dropped' b c → SendsAndAnswers (due ++ due') (dropped ++ dropped') a c
  sends-then due dropped due' dropped' on p q = record {
    parts = p.parts ++ q.parts;
    recorded =
        q.recorded ∙ ap (λ n. b.recorded ++ flat_map (sent_by_part n) q.parts) actor
        ∙ ap (λ l. l ++ flat_map (sent_by_part a.actor) q.parts) p.recorded
        ∙ append_assoc a.recorded (flat_map (sent_by_part a.actor) p.parts) (flat_map (sent_by_part a.actor) q.parts)
        ∙ ap (λ l. a.recorded ++ l) (sym (flat_map-append (sent_by_part a.actor) p.parts q.parts));
    due_is = (λ i. p.due_is i ++ q.due_is i) ∙ sym (flat_map-append due_of_part p.parts q.parts);
    right =
        each_append (IsRightPart a.actor c.status.closed) p.parts q.parts
        (each_weaker (IsRightPart a.actor b.status.closed) (IsRightPart a.actor c.status.closed) p.parts
        (right-on a.actor b.status.closed c.status.closed on) p.right)
        (subst (λ n. Each (IsRightPart n c.status.closed) q.parts) actor q.right);
    answered =
        flat_map-append told_of_end p.parts q.parts ∙ (λ i. p.answered i ++ q.answered i)
        ∙ ap (λ (w : Identity). askers_of a.home.cell.who.parent dropped ++ askers_of w.parent dropped') who
        ∙ askers-append dropped dropped';
  }
    where
      askers-append : (xs ys : List (ℕ × SysMsg)) →
          askers_of a.home.cell.who.parent xs ++ askers_of a.home.cell.who.parent ys ≡ askers_of a.home.cell.who.parent (xs ++ ys)
      askers-append [] ys = refl
      askers-append (m ∷ xs) ys =
          append_assoc (number_if_some (asker a.home.cell.who.parent m.1)) (askers_of a.home.cell.who.parent xs) (askers_of a.home.cell.who.parent ys)
          ∙ ap (λ l. number_if_some (asker a.home.cell.who.parent m.1) ++ l) (askers-append xs ys)

  pub takes-in-then : (came dropped came' dropped' : List (ℕ × SysMsg)) → TakesSystemsIn came dropped a b → TakesSystemsIn came' dropped' b c →
      TakesSystemsIn (came ++ came') (dropped ++ dropped') a c
  takes-in-then came dropped came' dropped' p q = record {
    steps = q.steps ++ p.steps;
    log = q.log ∙ ap (λ l. q.steps ++ l) p.log ∙ sym (append_assoc q.steps p.steps a.log);
    given =
        ap (λ l. a.home.rest ++ l) (given-append q.steps p.steps)
        ∙ sym (append_assoc a.home.rest (given_by p.steps) (given_by q.steps))
        ∙ ap (λ l. l ++ given_by q.steps) p.given
        ∙ append_assoc came (dropped ++ b.home.rest) (given_by q.steps)
        ∙ ap (λ l. came ++ l) (append_assoc dropped b.home.rest (given_by q.steps))
        ∙ ap (λ l. came ++ (dropped ++ l)) q.given
        ∙ ap (λ l. came ++ l) (swapped came' dropped (dropped' ++ c.home.rest) b.status.closed p.none_dropped (λ shut. (q.stays_closed shut).1))
        ∙ ap (λ l. came ++ (came' ++ l)) (sym (append_assoc dropped dropped' c.home.rest))
        ∙ sym (append_assoc came came' ((dropped ++ dropped') ++ c.home.rest));
    none_dropped = λ open_yet.
        let before = p.none_dropped (still_open b.status.closed c.status.closed (λ shut. (q.stays_closed shut).0) open_yet) in
        let next = q.none_dropped open_yet in λ i. before i ++ next i;
    stays_closed = λ shut.
        let before = p.stays_closed shut in
        let next = q.stays_closed before.0 in (next.0, λ i. before.1 i ++ next.1 i);
  }

  pub due-then : (due came due' came' : List (ℕ × SysMsg)) → SendsDue due came a b → SendsDue due' came' b c →
      SendsDue (due ++ due') (came ++ came') a c
  due-then due came due' came' p q = record {
    dropped = p.dropped ++ q.dropped;
    sends = sends-then due p.dropped due' q.dropped (λ shut. (q.takes.stays_closed shut).0) p.sends q.sends;
    takes = takes-in-then came p.dropped came' q.dropped p.takes q.takes;
  }

  pub entries-then : SendsForEntries a b → SendsForEntries b c → SendsForEntries a c
  entries-then p q =
      let next = subst (λ (x : Identity × List Entry). SendsDue (due_since x.0 q.newer x.1) (came_since x.0 q.newer x.1) b c)
      (λ i. (who i, p.joined i)) q.sends in
      record {
        newer = q.newer ++ p.newer;
        joined = q.joined ∙ ap (λ j. q.newer ++ j) p.joined ∙ sym (append_assoc q.newer p.newer a.home.cell.journal);
        sends =
            subst (λ (x : List (ℕ × SysMsg) × List (ℕ × SysMsg)). SendsDue x.0 x.1 a c)
            (λ i. (
              sym (due-append a.home.cell.who p.newer a.home.cell.journal q.newer) i,
              sym (came-append a.home.cell.who p.newer a.home.cell.journal q.newer) i,
            ))
            (due-then _ _ _ _ p.sends next);
      }

-- ---- nothing was sent

module _ (a b : RunState) where
  pub sends-none : b.recorded ≡ a.recorded → SendsAndAnswers [] [] a b
  sends-none recorded = record { parts = []; recorded = recorded ∙ sym (append-nil a.recorded); due_is = refl; right = tt; answered = refl }

  -- the list gave this, and this came to the cell
  pub takes-in-open : (came : List (ℕ × SysMsg)) (steps : List Observation) → b.log ≡ steps ++ a.log →
      a.home.rest ++ given_by steps ≡ came ++ b.home.rest → a.status.closed ≡ false → TakesSystemsIn came [] a b
  takes-in-open came steps log given open_yet = record {
    steps = steps;
    log = log;
    given = given;
    none_dropped = λ _. refl;
    stays_closed = λ shut. absurd (cc (open_yet, shut));
  }

  -- the list gave nothing by these steps, once the mailbox is closed
  pub takes-in-closed : (steps : List Observation) → given_by steps ≡ [] → b.log ≡ steps ++ a.log → b.home.rest ≡ a.home.rest → b.status.closed ≡ true →
      TakesSystemsIn [] [] a b
  takes-in-closed steps none log rest shut = record {
    steps = steps;
    log = log;
    given = ap (λ l. a.home.rest ++ l) none ∙ append-nil a.home.rest ∙ sym rest;
    none_dropped = λ _. refl;
    stays_closed = λ _. (shut, refl);
  }

  pub takes-in-none : b.log ≡ a.log → b.home.rest ≡ a.home.rest → (a.status.closed ≡ true → b.status.closed ≡ true) → TakesSystemsIn [] [] a b
  takes-in-none log rest on = record {
    steps = [];
    log = log;
    given = append-nil a.home.rest ∙ sym rest;
    none_dropped = λ _. refl;
    stays_closed = λ shut. (on shut, refl);
  }

  pub due-none : b.recorded ≡ a.recorded → b.log ≡ a.log → b.home.rest ≡ a.home.rest → (a.status.closed ≡ true → b.status.closed ≡ true) →
      SendsDue [] [] a b
  due-none recorded log rest on = record { dropped = []; sends = sends-none recorded; takes = takes-in-none log rest on }

  -- nothing came to the cell, and the journal is as it was
  pub entries-none : b.home.cell.journal ≡ a.home.cell.journal → SendsDue [] [] a b → SendsForEntries a b
  entries-none journal s = record { newer = []; joined = journal; sends = s }

pub entries-same : (a : RunState) → SendsForEntries a a
entries-same a = entries-none a a refl (due-none a a refl refl refl (λ shut. shut))

-- ---- one part was sent

pub sends-part : (a b : RunState) (part : SplitClaim) → b.recorded ≡ a.recorded ++ sent_by_part a.actor part → IsRightPart a.actor b.status.closed part →
    told_of_end part ≡ [] → SendsAndAnswers (due_of_part part) [] a b
sends-part a b part recorded right none = record {
  parts = part ∷ [];
  recorded = recorded ∙ ap (λ l. a.recorded ++ l) (sym (append-nil (sent_by_part a.actor part)));
  due_is = sym (append-nil (due_of_part part));
  right = (right, tt);
  answered = append-nil (told_of_end part) ∙ none;
}

-- what was sent between two states was sent between two others that are alike in this
pub sends-like : (a b a' b' : RunState) (due dropped : List (ℕ × SysMsg)) → a'.recorded ≡ a.recorded → a'.actor ≡ a.actor →
    a'.home.cell.who ≡ a.home.cell.who → b'.recorded ≡ b.recorded → b'.status.closed ≡ b.status.closed → SendsAndAnswers due dropped a b →
    SendsAndAnswers due dropped a' b'
sends-like a b a' b' due dropped recorded actor who recorded' status s = record {
  parts = s.parts;
  recorded = recorded' ∙ s.recorded ∙ (λ i. sym recorded i ++ flat_map (sent_by_part (sym actor i)) s.parts);
  due_is = s.due_is;
  right = subst (λ (x : ℕ × Bool). Each (IsRightPart x.0 x.1) s.parts) (λ i. (sym actor i, sym status i)) s.right;
  answered = s.answered ∙ ap (λ (w : Identity). askers_of w.parent dropped) (sym who);
}

-- ---- in the loops

-- the first messages of the rest were dropped, and answered
pub record Dropping (a b : RunState) : Type 0 where
  pub dropped : List (ℕ × SysMsg)
  pub left : a.home.rest ≡ dropped ++ b.home.rest
  pub sends : SendsAndAnswers [] dropped a b

-- the messages of the first acts were sent
pub record Carrying (a b : RunState) : Type 0 where
  pub due : List (ℕ × SysMsg)
  pub left : messages_of a.home.cell.acts ≡ due ++ messages_of b.home.cell.acts
  pub sends : SendsDue due [] a b
