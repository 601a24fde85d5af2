-- What a view counted as waiting is what its sender was answered "queued" for.
use Rattle.std.proofs.Common.{◌≡◌, ◌+◌, ◌==◌, ℕ, Bool, true, false, List, [], ◌∷◌, ◌++◌, Option, Some, None, ap, arith, filter, if◌then◌else◌}
use Rattle.std.proofs.Common.{length, length-append, map, refl, ◌∙◌}
use Rattle.std.specs.Prelude.{cond}
use Rattle.std.proofs.lemmas.List.{map-append}
use Rattle.std.proofs.lemmas.List.Elements.{filter-append}
use Rattle.mb_ghost.proofs.SummedLemmas.{total_append}
use Rattle.mb_ghost.specs.Seen.{Each}
use Rattle.mb_ghost.specs.Summed.{total}
use Rattle.mb_gate.specs.View.{Observation, SentSystem, View}
use Rattle.mb_gate.specs.View.{Read, Saw, Counted, Looked, Sent, Unsent, Took, Pushed, Drained, Ended}
use Rattle.mb_gate.specs.Waiting.{counted_off, counted_on}
use Rattle.mb_journal.specs.Accepted.{is_queued, queued, to_actor}
use Rattle.mb_journal.specs.declared.sent_envelope.SentEnvelope.{SentEnvelope}
use Rattle.mb_msg.specs.declared.dead_letter.DeadLetterReason.{DeadLetterReason}
use Rattle.mb_msg.specs.declared.envelope.Envelope.{Envelope}
use Rattle.mb_register.specs.Sending.{counts}
use Rattle.mb_register.specs.Views.{Does, IsLook}
use Rattle.mb_send.specs.Posted.{posting}
use Rattle.mb_system.specs.OnlyLooks.{OnlyLooks}
use Rattle.mb_dispatch.specs.Orders.{CountsQueued}

-- how many of these were queued to the actor
abbrev queued_to : ℕ → List SentEnvelope → ℕ
queued_to actor postings = length (to_actor actor (queued postings))

queued-to-append : (actor : ℕ) (ps qs : List SentEnvelope) → queued_to actor (ps ++ qs) ≡ queued_to actor ps + queued_to actor qs
queued-to-append actor ps qs =
    let all : queued (ps ++ qs) ≡ queued ps ++ queued qs = ap (map (λ (p : SentEnvelope). p.envelope)) (filter-append is_queued ps qs)
    ∙ map-append (λ (p : SentEnvelope). p.envelope) (filter is_queued ps) (filter is_queued qs) in
    ap (λ l. length (to_actor actor l)) all
    ∙ ap length (filter-append (λ (e : Envelope). e.to.0 == actor) (queued ps) (queued qs))
    ∙ length-append (to_actor actor (queued ps)) (to_actor actor (queued qs))

pub counts-none : (v : View) → CountsQueued [] v v
counts-none v = λ actor. omega arith

pub counts-then : (ps qs : List SentEnvelope) (a b c : View) → CountsQueued ps a b → CountsQueued qs b c → CountsQueued (ps ++ qs) a c
counts-then ps qs a b c before after = λ actor.
    (let one = before actor in let two = after actor in let sum = queued-to-append actor ps qs in omega (arith, one, two, sum))

-- a look counts nothing
look-counts-none : (actor id : ℕ) (s : Observation) → IsLook id s → (counted_on actor s ≡ 0) × (counted_off actor s ≡ 0)
look-counts-none actor id (Read a word) look = (refl, refl)
look-counts-none actor id (Saw a journal) look = (refl, refl)
look-counts-none actor id (Counted a waiting) look = (refl, refl)
look-counts-none actor id (Looked a has_work) look = (refl, refl)
look-counts-none actor id (Sent a n) look = absurd look
look-counts-none actor id (Unsent a n) look = absurd look
look-counts-none actor id (Took a n) look = absurd look
look-counts-none actor id (Pushed a number message) look = absurd look
look-counts-none actor id (Drained a given) look = absurd look
look-counts-none actor id (Ended a given) look = absurd look

looks-count-none : (actor id : ℕ) (looks : List Observation) → Each (IsLook id) looks
    → (total (counted_on actor) looks ≡ 0) × (total (counted_off actor) looks ≡ 0)
looks-count-none actor id [] each = (refl, refl)
looks-count-none actor id (s ∷ looks) each =
    let one = look-counts-none actor id s each.0 in let rest = looks-count-none actor id looks each.1 in
    (omega (arith, one.0, rest.0), omega (arith, one.1, rest.1))

-- what was done counted these as queued
pub does-counts : (id : ℕ) (did : List Observation) (told : List SentSystem) (ps : List SentEnvelope) (old new : View) → Does id did told old new
    → ((actor : ℕ) → total (counted_on actor) did ≡ total (counted_off actor) did + queued_to actor ps) → CountsQueued ps old new
does-counts id did told ps old new does same = λ actor.
    (let on = counted_on actor in let off = counted_off actor in
    let all_on = ap (total on) does.log ∙ total_append on (does.looks ++ did) old.log in
    let all_off = ap (total off) does.log ∙ total_append off (does.looks ++ did) old.log in
    let more_on = total_append on does.looks did in let more_off = total_append off does.looks did in
    let none = looks-count-none actor id does.looks does.only in let is = same actor in
    omega (arith, all_on, all_off, more_on, more_off, none.0, none.1, is))

-- an envelope that was queued is counted, and one that was refused is taken back
pub counts-posting : (e : Envelope) (refused : Option DeadLetterReason) (actor : ℕ)
    → total (counted_on actor) (counts e.to.0 refused) ≡ total (counted_off actor) (counts e.to.0 refused) + queued_to actor (posting e refused ∷ [])
counts-posting e (Some why) actor = by_receiver (e.to.0 == actor)
  where
    by_receiver : (b : Bool) → 0 + ((if b then 1 else 0) + 0) ≡ ((if b then 1 else 0) + (0 + 0)) + 0
    by_receiver true = refl
    by_receiver false = refl
counts-posting e None actor = by_receiver (e.to.0 == actor)
  where
    by_receiver : (b : Bool) → (if b then 1 else 0) + 0 ≡ (0 + 0) + length (cond b (e ∷ []) [])
    by_receiver true = refl
    by_receiver false = refl

only-looks-count-none : (actor : ℕ) (looks : List Observation) → Each (λ (s : Observation). (id : ℕ) × (true ≡ true) × IsLook id s) looks
    → (total (counted_on actor) looks ≡ 0) × (total (counted_off actor) looks ≡ 0)
only-looks-count-none actor [] each = (refl, refl)
only-looks-count-none actor (s ∷ looks) each =
    let one = look-counts-none actor each.0.0 s each.0.2 in let rest = only-looks-count-none actor looks each.1 in
    (omega (arith, one.0, rest.0), omega (arith, one.1, rest.1))

-- who only looked counted nothing
pub looks-count : (old new : View) → OnlyLooks old new → CountsQueued [] old new
looks-count old new only = λ actor.
    (let on = counted_on actor in let off = counted_off actor in
    let all_on = ap (total on) only.log ∙ total_append on only.looks old.log in
    let all_off = ap (total off) only.log ∙ total_append off only.looks old.log in
    let none = only-looks-count-none actor only.looks only.only in
    omega (arith, all_on, all_off, none.0, none.1))
