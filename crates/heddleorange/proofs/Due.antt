-- What a pass put into a list in one run of a mailbox is among what the run's new entries have to send.
use Rattle.std.proofs.Common.{◌≡◌, ◌≤◌, ◌+◌, ◌==◌, ℕ, Bool, true, false, if◌then◌else◌, List, [], ◌∷◌, ◌++◌, ap, append_assoc, arith, refl, reverse, sym, ◌∙◌}
use Rattle.std.specs.List.{flat_map}
use Rattle.std.proofs.lemmas.List.{append-nil, reverse-append}
use Rattle.mb_dispatch.specs.Orders.{addressed_system}
use Rattle.mb_gate.specs.SentSystem.{Answered, Dropped, Listed, Parting, SplitClaim, due_of_part, due_since, messages_of, notice, sent_by_part}
use Rattle.mb_gate.specs.View.{Observation, SentSystem}
use Rattle.mb_ghost.proofs.SummedLemmas.{total_append}
use Rattle.mb_ghost.specs.Summed.{total}
use Rattle.mb_journal.specs.Acts.{acts}
use Rattle.mb_journal.specs.Entry.{Entry}
use Rattle.mb_journal.specs.Identity.{Identity}
use Rattle.mb_mailbox.specs.RunSends.{IsSentByRun, listed_measure}
use Rattle.mb_msg.specs.declared.id.ActorId.{ActorId}
use Rattle.mb_msg.specs.declared.system.SysMsg.{SysMsg}
use Rattle.mb_msg.specs.declared.system.SysMsg.TheVariants.{Died}
use Rattle.heddleorange.specs.Asked.{due_in, measure_to}

-- ---- sums

pub total-reverse : {X : Type 0} (f : X → ℕ) (xs : List X) → total f (reverse xs) ≡ total f xs
total-reverse f [] = refl
total-reverse f (x ∷ xs) =
    let split = ap (total f) (reverse-append (x ∷ []) xs) ∙ total_append f (reverse xs) (x ∷ []) in let rest = total-reverse f xs in
    omega (arith, split, rest)

none-if : (b : Bool) (n : ℕ) → n ≡ 0 → (if b then n else 0) ≡ 0
none-if true n none = none
none-if false n none = refl

unless : (b : Bool) (n : ℕ) → (if b then 0 else n) ≤ n
unless true n = omega arith
unless false n = omega arith

-- ---- what journals have to send

-- what a journal has to send is what the one before has to send, and what the new entries have
pub due-split : (who : Identity) (newer before : List Entry) → due_since who (newer ++ before) [] ≡ due_since who before [] ++ due_since who newer before
due-split who [] before = sym (append-nil (due_since who before []))
due-split who (e ∷ newer) before =
    let same : messages_of (acts who ((newer ++ before) ++ []) e) ≡ messages_of (acts who (newer ++ before) e) =
    ap (λ l. messages_of (acts who l e)) (append-nil (newer ++ before)) in
    (λ i. due-split who newer before i ++ same i)
    ∙ append_assoc (due_since who before []) (due_since who newer before) (messages_of (acts who (newer ++ before) e))

module _ (to : ℕ) (measure : SysMsg → ℕ) where
  -- the measure of all that a journal has to send to this actor
  abbrev pub due_to : Identity → List Entry → ℕ
  due_to who journal = total (measure_to to measure) (due_in who journal)

  -- what lists took is among what was sent
  pub listed-sent : (sent_system : List SentSystem)
      → total (listed_measure to measure) sent_system ≤ total (measure_to to measure) (addressed_system sent_system)
  listed-sent [] = omega arith
  listed-sent (s ∷ sent_system) =
      let first = unless s.was_ended (measure_to to measure (s.to, s.message)) in let rest = listed-sent sent_system in omega (arith, first, rest)

  module _ (silent : (ended : ActorId) → measure (Died ended) ≡ 0) where
    -- a notice of an end has no measure
    notice-none : (ended : Bool) (whom actor : ℕ)
        → listed_measure to measure (record { to = whom; message = notice actor; was_ended = ended }) ≡ 0
    notice-none true whom actor = refl
    notice-none false whom actor = none-if (whom == to) (measure (notice actor)) (silent (record { 0 = actor }))

    part-due : (actor : ℕ) (p : SplitClaim)
        → total (listed_measure to measure) (sent_by_part actor p) ≤ total (measure_to to measure) (due_of_part p)
    part-due actor (Listed receiver message) = omega arith
    part-due actor (Dropped receiver message) = omega arith
    part-due actor (Answered receiver message whom ended) = let none = notice-none ended whom receiver in omega (arith, none)
    part-due actor (Parting whom ended) = let none = notice-none ended whom actor in omega (arith, none)

    parts-due : (actor : ℕ) (parts : List SplitClaim)
        → total (listed_measure to measure) (flat_map (sent_by_part actor) parts) ≤ total (measure_to to measure) (flat_map due_of_part parts)
    parts-due actor [] = omega arith
    parts-due actor (p ∷ parts) =
        let first = part-due actor p in let rest = parts-due actor parts in
        let sent = total_append (listed_measure to measure) (sent_by_part actor p) (flat_map (sent_by_part actor) parts) in
        let due = total_append (measure_to to measure) (due_of_part p) (flat_map due_of_part parts) in omega (arith, first, rest, sent, due)

    -- what lists took of a run is among what the new entries have to send
    pub run-due : (who : Identity) (actor : ℕ) (journal before : List Entry) (rest : List (ℕ × SysMsg)) (steps : List Observation)
        (told : List SentSystem) → IsSentByRun who actor journal before rest steps told
        → total (listed_measure to measure) told + due_to who before ≤ due_to who journal
    run-due who actor journal before rest steps told is =
        let parts = parts-due actor is.parts in
        let sent = ap (total (listed_measure to measure)) is.sent_system_is in
        let due = ap (total (measure_to to measure)) is.due_is in
        let all : due_to who journal ≡ due_to who before + total (measure_to to measure) (due_since who is.newer before) =
        ap (λ l. due_to who l) is.joined ∙ ap (total (measure_to to measure)) (due-split who is.newer before)
        ∙ total_append (measure_to to measure) (due_since who before []) (due_since who is.newer before) in
        omega (arith, parts, sent, due, all)
