-- An entry is read back from its JSON value.
use Rattle.std.proofs.Common.{◌≡◌, ℕ, zero, suc, ◌<◌, ◌==◌, ℤ, pos, negsuc, List, [], ◌∷◌, map, length, All, Bool, true, false, cond, Option, Some, None, refl, sym, ap, ◌∙◌, suc-le-suc, zero-lt-suc, arith, codes}
use Rattle.serde_json.specs.Data.{Num, Data, null, boolean, number, string, array, object, unsigned, negative, float, Items, no_items, item, Members, no_members, member}
use Rattle.serde_json.specs.Find.{of_integer}
use Rattle.serde_json.specs.View.{items_of}
use Rattle.mb_msg.specs.declared.envelope.Body.{Body}
use Rattle.mb_msg.specs.declared.envelope.Body.TheVariants as body
use Rattle.mb_msg.specs.declared.envelope.Envelope.{Envelope}
use Rattle.mb_msg.specs.declared.id.ActorId.{ActorId}
use Rattle.mb_msg.specs.declared.supervision.Cause.{Cause}
use Rattle.mb_msg.specs.declared.supervision.Cause.TheVariants as cause
use Rattle.mb_msg.specs.declared.system.SysMsg.{SysMsg}
use Rattle.mb_msg.specs.declared.system.SysMsg.TheVariants as system
use Rattle.mb_actor.specs.declared.answer.Answer.{Answer}
use Rattle.mb_actor.specs.declared.answer.Answer.TheVariants as answer
use Rattle.mb_actor.specs.declared.effect.Effect.{Effect}
use Rattle.mb_actor.specs.declared.effect.Effect.TheVariants as effect
use Rattle.mb_journal.specs.Entry.{Entry, Outcome}
use Rattle.mb_journal.specs.Entry.Entry.{Handled, System, Dropped}
use Rattle.mb_journal.specs.Entry.Outcome.{Applied, SetAside}
use Rattle.mb_trace_json.specs.Effects.{effect_data, effects_data}
use Rattle.mb_trace_json.specs.Entries.{answer_error, answer_text, entry_data}
use Rattle.mb_trace_json.specs.Messages.{body_data, cause_error, cause_text, system_data}
use Rattle.mb_trace_json.specs.Names.{name_data}
use Rattle.mb_trace.specs.declared.actor_snapshot.ActorSnapshot.{ActorSnapshot}
use Rattle.mb_trace_json.specs.Telling.{IsKnown, IsKnownBody, IsKnownEffect, IsKnownEntry, IsKnownEnvelope, IsKnownMessage}

-- ---- parts of a value

-- how many members it has
abbrev member_count : Members → ℕ
member_count no_members = 0
member_count (member k d ms) = suc (member_count ms)

abbrev size : Data → ℕ
size (object ms) = member_count ms
size _ = 0

-- the value of the member at this place
abbrev member_at : ℕ → Members → Data
member_at n no_members = null
member_at zero (member k d ms) = d
member_at (suc n) (member k d ms) = member_at n ms

abbrev pub value_at : ℕ → Data → Data
value_at n (object ms) = member_at n ms
value_at n _ = null

abbrev pub natural_from : Data → ℕ
natural_from (number (unsigned n)) = n
natural_from _ = 0

abbrev integer_of : Num → ℤ
integer_of (unsigned n) = pos n
integer_of (negative z) = z
integer_of (float x) = pos 0

abbrev integer_from : Data → ℤ
integer_from (number n) = integer_of n
integer_from _ = pos 0

abbrev is_true : Data → Bool
is_true (boolean b) = b
is_true _ = false

abbrev is_boolean : Data → Bool
is_boolean (boolean b) = true
is_boolean _ = false

abbrev is_null : Data → Bool
is_null null = true
is_null _ = false

abbrev text_from : Data → List ℕ
text_from (string s) = s
text_from _ = []

abbrev first : List ℕ → ℕ
first [] = 0
first (x ∷ xs) = x

abbrev second : List ℕ → ℕ
second [] = 0
second (x ∷ xs) = first xs

-- the first and the second byte of the text of a member
abbrev letter : ℕ → Data → ℕ
letter n d = first (text_from (value_at n d))

abbrev next_letter : ℕ → Data → ℕ
next_letter n d = second (text_from (value_at n d))

-- ---- what stands in a value; `id` gives the number that a name stands for

module _ (id : Data → ℕ) where
  abbrev body_from : Data → Body
  body_from d =
      cond (size d == 1) (cond (letter 0 d == 112) body.PoisonPill body.Kill)
      (cond (size d == 2) (body.Terminated (record { 0 = id (value_at 0 d) }))
      (cond (letter 2 d == 117) (body.User (natural_from (value_at 0 d)) (integer_from (value_at 1 d)))
      (body.Control (natural_from (value_at 0 d)) (integer_from (value_at 1 d)))))

  abbrev cause_from : Data → Data → Cause
  cause_from kind error =
      cond (first (text_from kind) == 101) (cause.Error (natural_from error))
      (cond (first (text_from kind) == 105) cause.Init (cond (first (text_from kind) == 107) cause.Killed cause.DeathPact))

  abbrev message_from : Data → SysMsg
  message_from d =
      cond (size d == 1) (cond (letter 0 d == 99) system.Create (cond (letter 0 d == 115) system.Suspend system.Terminate))
      (cond (size d == 2) (cond (is_boolean (value_at 0 d)) (system.Resume (is_true (value_at 0 d)))
      (cond (letter 1 d == 119) (system.Watch (record { 0 = id (value_at 0 d) }))
      (cond (letter 1 d == 117) (system.Unwatch (record { 0 = id (value_at 0 d) })) (system.Died (record { 0 = id (value_at 0 d) })))))
      (cond (size d == 3) (system.Recreate (cause_from (value_at 0 d) (value_at 1 d)))
      (system.Failed (record { 0 = id (value_at 0 d) }) (cause_from (value_at 1 d) (value_at 2 d)))))

  abbrev effect_from : Data → Effect
  effect_from d =
      cond (size d == 4)
      (cond (letter 0 d == 116) (effect.Tell (record { 0 = id (value_at 2 d) }) (natural_from (value_at 1 d)) (integer_from (value_at 3 d)))
      (effect.Control (record { 0 = id (value_at 2 d) }) (natural_from (value_at 1 d)) (integer_from (value_at 3 d))))
      (cond (letter 0 d == 119) (effect.Watch (record { 0 = id (value_at 1 d) }))
      (cond (letter 0 d == 117) (effect.Unwatch (record { 0 = id (value_at 1 d) }))
      (cond (next_letter 0 d == 116) (effect.Stop (record { 0 = id (value_at 1 d) })) (effect.Spawn (record { 0 = id (value_at 1 d) })))))

  abbrev items_from : Items → List Effect
  items_from no_items = []
  items_from (item d ds) = effect_from d ∷ items_from ds

  abbrev effects_from : Data → List Effect
  effects_from (array ds) = items_from ds
  effects_from _ = []

  abbrev answer_from : ℕ → Data → Option Answer
  answer_from x error =
      cond (x == 97) None (cond (x == 104) (Some answer.Handled) (cond (x == 117) (Some answer.Unhandled) (Some (answer.Failed (natural_from error)))))

  abbrev outcome_from : Data → Data → Data → Outcome
  outcome_from outcome error effects =
      cond (first (text_from outcome) == 115) SetAside (Applied (answer_from (first (text_from outcome)) error) (effects_from effects))

  abbrev envelope_from : Data → Envelope
  envelope_from d = record {
    by = record { 0 = id (value_at 9 d) };
    to = record { 0 = id (value_at 0 d) };
    number = natural_from (value_at 7 d);
    body = body_from (value_at 6 d);
  }

  abbrev pub entry_from : Data → Entry
  entry_from d =
      cond (is_null (value_at 10 d))
      (cond (is_null (value_at 9 d)) (System (natural_from (value_at 7 d)) (message_from (value_at 6 d)) (outcome_from (value_at 8 d) (value_at 4 d) (value_at 2 d)))
      (Dropped (envelope_from d)))
      (Handled (envelope_from d) (natural_from (value_at 10 d)) (outcome_from (value_at 8 d) (value_at 4 d) (value_at 2 d)))

  -- ---- it is what the value was made of

  integer-back : (z : ℤ) → integer_of (of_integer z) ≡ z
  integer-back (pos n) = refl
  integer-back (negsuc n) = refl

  cause-back : (c : Cause) → cause_from (string (cause_text c)) (cause_error c) ≡ c
  cause-back (cause.Error n) = refl
  cause-back cause.Init = refl
  cause-back cause.Killed = refl
  cause-back cause.DeathPact = refl

  outcome-back : (a : Option Answer) (d : Data) → outcome_from (string (answer_text a)) (answer_error a) d ≡ Applied a (effects_from d)
  outcome-back None d = refl
  outcome-back (Some answer.Handled) d = refl
  outcome-back (Some answer.Unhandled) d = refl
  outcome-back (Some (answer.Failed n)) d = refl

  module _ (names : List (List ℕ)) (back : (n : ℕ) → IsKnown names n → id (name_data names n) ≡ n) where
    body-back : (b : Body) → IsKnownBody names b → body_from (body_data names b) ≡ b
    body-back (body.User kind value) h = λ i. body.User kind (integer-back value i)
    body-back (body.Control kind value) h = λ i. body.Control kind (integer-back value i)
    body-back body.PoisonPill h = refl
    body-back body.Kill h = refl
    body-back (body.Terminated x) h = λ i. body.Terminated (record { 0 = back x.0 h i })

    message-back : (m : SysMsg) → IsKnownMessage names m → message_from (system_data names m) ≡ m
    message-back system.Create h = refl
    message-back (system.Recreate c) h = λ i. system.Recreate (cause-back c i)
    message-back system.Suspend h = refl
    message-back (system.Resume of_failure) h = refl
    message-back system.Terminate h = refl
    message-back (system.Watch x) h = λ i. system.Watch (record { 0 = back x.0 h i })
    message-back (system.Unwatch x) h = λ i. system.Unwatch (record { 0 = back x.0 h i })
    message-back (system.Failed x c) h = λ i. system.Failed (record { 0 = back x.0 h i }) (cause-back c i)
    message-back (system.Died x) h = λ i. system.Died (record { 0 = back x.0 h i })

    effect-back : (e : Effect) → IsKnownEffect names e → effect_from (effect_data names e) ≡ e
    effect-back (effect.Tell to kind value) h = λ i. effect.Tell (record { 0 = back to.0 h i }) kind (integer-back value i)
    effect-back (effect.Control to kind value) h = λ i. effect.Control (record { 0 = back to.0 h i }) kind (integer-back value i)
    effect-back (effect.Watch x) h = λ i. effect.Watch (record { 0 = back x.0 h i })
    effect-back (effect.Unwatch x) h = λ i. effect.Unwatch (record { 0 = back x.0 h i })
    effect-back (effect.Stop x) h = λ i. effect.Stop (record { 0 = back x.0 h i })
    effect-back (effect.Spawn x) h = λ i. effect.Spawn (record { 0 = back x.0 h i })

    effects-back : (effects : List Effect) → All (IsKnownEffect names) effects → items_from (items_of (map (effect_data names) effects)) ≡ effects
    effects-back [] h = refl
    effects-back (e ∷ effects) h =
        let one = effect-back e (h 0 e (omega arith)) in
        let rest = effects-back effects (λ k d l. h (suc k) d (suc-le-suc l)) in
        λ i. one i ∷ rest i

    pub entry-back : (actor place : ℕ) (after : ActorSnapshot) (e : Entry) → IsKnown names actor → IsKnownEntry names actor e
        → entry_from (entry_data names actor place after e) ≡ e
    entry-back actor place after (Handled e reading (Applied a effects)) known h =
        let by = back e.by.0 h.0.by in
        let to = back actor known ∙ sym h.0.to in
        let content = body-back e.body h.0.content in
        let outcome = outcome-back a (effects_data names effects) ∙ ap (Applied a) (effects-back effects h.1) in
        λ i. Handled (record { by = record { 0 = by i }; to = record { 0 = to i }; number = e.number; body = content i }) reading (outcome i)
    entry-back actor place after (Handled e reading SetAside) known h =
        let by = back e.by.0 h.0.by in
        let to = back actor known ∙ sym h.0.to in
        let content = body-back e.body h.0.content in
        λ i. Handled (record { by = record { 0 = by i }; to = record { 0 = to i }; number = e.number; body = content i }) reading SetAside
    entry-back actor place after (System n message (Applied a effects)) known h =
        let content = message-back message h.0 in
        let outcome = outcome-back a (effects_data names effects) ∙ ap (Applied a) (effects-back effects h.1) in
        λ i. System n (content i) (outcome i)
    entry-back actor place after (System n message SetAside) known h = let content = message-back message h.0 in λ i. System n (content i) SetAside
    entry-back actor place after (Dropped e) known h =
        let by = back e.by.0 h.by in
        let to = back actor known ∙ sym h.to in
        let content = body-back e.body h.content in
        λ i. Dropped (record { by = record { 0 = by i }; to = record { 0 = to i }; number = e.number; body = content i })

-- ---- whose journal it is of, and where it stands there

pub actor-at : (names : List (List ℕ)) (actor place : ℕ) (after : ActorSnapshot) (e : Entry) → value_at 0 (entry_data names actor place after e) ≡ name_data names actor
actor-at names actor place after (Handled e reading (Applied a effects)) = refl
actor-at names actor place after (Handled e reading SetAside) = refl
actor-at names actor place after (System n message (Applied a effects)) = refl
actor-at names actor place after (System n message SetAside) = refl
actor-at names actor place after (Dropped e) = refl

pub place-in : (names : List (List ℕ)) (actor place : ℕ) (after : ActorSnapshot) (e : Entry) → natural_from (value_at 3 (entry_data names actor place after e)) ≡ place
place-in names actor place after (Handled e reading (Applied a effects)) = refl
place-in names actor place after (Handled e reading SetAside) = refl
place-in names actor place after (System n message (Applied a effects)) = refl
place-in names actor place after (System n message SetAside) = refl
place-in names actor place after (Dropped e) = refl
