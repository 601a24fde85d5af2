-- No value here has a float, and none nests deeper than three times.
use Rattle.std.proofs.Common.{◌≡◌, ℕ, Bool, suc, ◌≤◌, List, [], ◌∷◌, map, length, All, false, Option, Some, None, codes, refl, arith, pos, negsuc, ℤ, suc-le-suc, zero-le, zero-lt-suc, ◌<◌}
use Rattle.std.proofs.Math.Nat.{max-le}
use Rattle.std.proofs.lemmas.Bool.{or_from}
use Rattle.serde_json.specs.Data.{Data, null, boolean, number, string, array, object, unsigned, Items, no_items, item, Members, no_members, member, depth, items_depth, members_depth}
use Rattle.serde_json.specs.Find.{of_integer}
use Rattle.serde_json.specs.View.{items_of}
use Rattle.serde_json.specs.Written.{has_float, items_have_float, members_have_float}
use Rattle.mb_msg.specs.declared.dead_letter.DeadLetter.{DeadLetter}
use Rattle.mb_msg.specs.declared.envelope.Body.{Body}
use Rattle.mb_msg.specs.declared.envelope.Body.TheVariants as body
use Rattle.mb_msg.specs.declared.envelope.Envelope.{Envelope}
use Rattle.mb_msg.specs.declared.supervision.Cause.{Cause}
use Rattle.mb_msg.specs.declared.supervision.Cause.TheVariants as cause
use Rattle.mb_msg.specs.declared.system.SysMsg.{SysMsg}
use Rattle.mb_msg.specs.declared.system.SysMsg.TheVariants as system
use Rattle.mb_actor.specs.declared.answer.Answer.{Answer}
use Rattle.mb_actor.specs.declared.answer.Answer.TheVariants as answer
use Rattle.mb_actor.specs.declared.effect.Effect.{Effect}
use Rattle.mb_actor.specs.declared.effect.Effect.TheVariants as effect
use Rattle.mb_journal.specs.Entry.{Entry}
use Rattle.mb_journal.specs.Entry.Entry.{Handled, System, Dropped}
use Rattle.mb_journal.specs.Entry.Outcome.{Applied, SetAside}
use Rattle.mb_trace_json.specs.Effects.{tell_data, ask_data, effect_data, effects_data}
use Rattle.mb_trace_json.specs.Entries.{answer_error, answer_text, entry_data, whole_data}
use Rattle.mb_trace_json.specs.Messages.{about_data, body_data, cause_error, cause_text, plain_data, system_data, user_data}
use Rattle.mb_trace_json.specs.Names.{name_data}
use Rattle.mb_report.specs.Lines.{phase_text}
use Rattle.mb_trace.specs.declared.actor_snapshot.ActorSnapshot.{ActorSnapshot}
use Rattle.mb_trace_json.specs.ActorSnapshot.{snapshot_data, state_data, within_64_bits}
use Rattle.mb_trace_json.specs.Undelivered.{aside_data, left_data, letter_data, why_text}

-- no float, and not deeper than this
pub record IsPlain (n : ℕ) (d : Data) : Type 0 where
  pub no_float : has_float d ≡ false
  pub shallow : depth d ≤ n

record ArePlain (n : ℕ) (ms : Members) : Type 0 where
  no_float : members_have_float ms ≡ false
  shallow : members_depth ms ≤ n

no_more : (n : ℕ) → ArePlain n no_members
no_more n = record { no_float = refl; shallow = zero-le }

one_more : (n : ℕ) (k : List ℕ) (d : Data) (ms : Members) → IsPlain n d → ArePlain n ms → ArePlain n (member k d ms)
one_more n k d ms h rest = record {
  no_float = or_from (has_float d) (members_have_float ms) h.no_float rest.no_float;
  shallow = max-le h.shallow rest.shallow;
}

of_members : (n : ℕ) (ms : Members) → ArePlain n ms → IsPlain (suc n) (object ms)
of_members n ms h = record { no_float = h.no_float; shallow = suc-le-suc h.shallow }

text : (n : ℕ) (s : List ℕ) → IsPlain n (string s)
text n s = record { no_float = refl; shallow = zero-le }

natural : (n k : ℕ) → IsPlain n (number (unsigned k))
natural n k = record { no_float = refl; shallow = zero-le }

nothing : (n : ℕ) → IsPlain n null
nothing n = record { no_float = refl; shallow = zero-le }

truth : (n : ℕ) (b : Bool) → IsPlain n (boolean b)
truth n b = record { no_float = refl; shallow = zero-le }

integer : (n : ℕ) (z : ℤ) → IsPlain n (number (of_integer z))
integer n (pos k) = record { no_float = refl; shallow = zero-le }
integer n (negsuc k) = record { no_float = refl; shallow = zero-le }

plain-cause_error : (n : ℕ) (c : Cause) → IsPlain n (cause_error c)
plain-cause_error n (cause.Error k) = natural n k
plain-cause_error n cause.Init = nothing n
plain-cause_error n cause.Killed = nothing n
plain-cause_error n cause.DeathPact = nothing n

plain-answer_error : (n : ℕ) (a : Option Answer) → IsPlain n (answer_error a)
plain-answer_error n None = nothing n
plain-answer_error n (Some answer.Handled) = nothing n
plain-answer_error n (Some answer.Unhandled) = nothing n
plain-answer_error n (Some (answer.Failed k)) = natural n k

plain-simple : (what : List ℕ) → IsPlain 1 (plain_data what)
plain-simple what = of_members 0 _ (one_more 0 _ _ _ (text 0 what) (no_more 0))

plain-about : (what : List ℕ) (names : List (List ℕ)) (id : ℕ) → IsPlain 1 (about_data what names id)
plain-about what names id = of_members 0 _ (one_more 0 _ _ _ (text 0 _) (one_more 0 _ _ _ (text 0 what) (no_more 0)))

plain-user : (what : List ℕ) (kind : ℕ) (value : ℤ) → IsPlain 1 (user_data what kind value)
plain-user what kind value =
    of_members 0 _ (one_more 0 _ _ _ (natural 0 kind) (one_more 0 _ _ _ (integer 0 value) (one_more 0 _ _ _ (text 0 what) (no_more 0))))

plain-body : (names : List (List ℕ)) (b : Body) → IsPlain 1 (body_data names b)
plain-body names (body.User kind value) = plain-user (codes "user") kind value
plain-body names (body.Control kind value) = plain-user (codes "control") kind value
plain-body names body.PoisonPill = plain-simple (codes "poison")
plain-body names body.Kill = plain-simple (codes "kill")
plain-body names (body.Terminated id) = plain-about (codes "terminated") names id.0

plain-message : (names : List (List ℕ)) (m : SysMsg) → IsPlain 1 (system_data names m)
plain-message names system.Create = plain-simple (codes "create")
plain-message names (system.Recreate c) =
    of_members 0 _ (one_more 0 _ _ _ (text 0 (cause_text c)) (one_more 0 _ _ _ (plain-cause_error 0 c) (one_more 0 _ _ _ (text 0 _) (no_more 0))))
plain-message names system.Suspend = plain-simple (codes "suspend")
plain-message names (system.Resume of_failure) = of_members 0 _ (one_more 0 _ _ _ (truth 0 of_failure) (one_more 0 _ _ _ (text 0 _) (no_more 0)))
plain-message names system.Terminate = plain-simple (codes "terminate")
plain-message names (system.Watch id) = plain-about (codes "watch") names id.0
plain-message names (system.Unwatch id) = plain-about (codes "unwatch") names id.0
plain-message names (system.Failed id c) =
    of_members 0 _ (one_more 0 _ _ _ (text 0 _) (one_more 0 _ _ _ (text 0 (cause_text c)) (one_more 0 _ _ _ (plain-cause_error 0 c)
    (one_more 0 _ _ _ (text 0 _) (no_more 0)))))
plain-message names (system.Died id) = plain-about (codes "died") names id.0

plain-tell : (what : List ℕ) (names : List (List ℕ)) (to kind : ℕ) (value : ℤ) → IsPlain 1 (tell_data what names to kind value)
plain-tell what names to kind value =
    of_members 0 _ (one_more 0 _ _ _ (text 0 what) (one_more 0 _ _ _ (natural 0 kind) (one_more 0 _ _ _ (text 0 _)
    (one_more 0 _ _ _ (integer 0 value) (no_more 0)))))

plain-ask : (what : List ℕ) (names : List (List ℕ)) (to : ℕ) → IsPlain 1 (ask_data what names to)
plain-ask what names to = of_members 0 _ (one_more 0 _ _ _ (text 0 what) (one_more 0 _ _ _ (text 0 _) (no_more 0)))

plain-effect : (names : List (List ℕ)) (e : Effect) → IsPlain 1 (effect_data names e)
plain-effect names (effect.Tell to kind value) = plain-tell (codes "tell") names to.0 kind value
plain-effect names (effect.Control to kind value) = plain-tell (codes "control") names to.0 kind value
plain-effect names (effect.Watch id) = plain-ask (codes "watch") names id.0
plain-effect names (effect.Unwatch id) = plain-ask (codes "unwatch") names id.0
plain-effect names (effect.Stop id) = plain-ask (codes "stop") names id.0
plain-effect names (effect.Spawn id) = plain-ask (codes "spawn") names id.0

record ArePlainItems (n : ℕ) (ds : Items) : Type 0 where
  no_float : items_have_float ds ≡ false
  shallow : items_depth ds ≤ n

plain-items : (names : List (List ℕ)) (effects : List Effect) → ArePlainItems 1 (items_of (map (effect_data names) effects))
plain-items names [] = record { no_float = refl; shallow = zero-le }
plain-items names (e ∷ effects) =
    let first = plain-effect names e in
    let rest = plain-items names effects in
    record {
      no_float = or_from (has_float (effect_data names e)) (items_have_float (items_of (map (effect_data names) effects))) first.no_float rest.no_float;
      shallow = max-le first.shallow rest.shallow;
    }

plain-effects : (names : List (List ℕ)) (effects : List Effect) → IsPlain 2 (effects_data names effects)
plain-effects names effects = let h = plain-items names effects in record { no_float = h.no_float; shallow = suc-le-suc h.shallow }

higher : (d : Data) → IsPlain 1 d → IsPlain 2 d
higher d h = record { no_float = h.no_float; shallow = omega (arith, h.shallow) }

plain-state : (n : ℕ) (state : Option ℤ) → IsPlain n (state_data state)
plain-state n None = nothing n
plain-state n (Some state) = integer n state

plain-snapshot : (s : ActorSnapshot) → IsPlain 1 (snapshot_data s)
plain-snapshot s =
    of_members 0 _ (one_more 0 _ _ _ (text 0 (phase_text s.phase)) (one_more 0 _ _ _ (plain-state 0 s.state)
    (one_more 0 _ _ _ (natural 0 (within_64_bits s.suspended)) (no_more 0))))

plain-whole : (names : List (List ℕ)) (actor place : ℕ) (after : ActorSnapshot) (message sender : Data) (n : ℕ) (outcome : List ℕ) (error : Data) (effects : List Effect)
    (status : Data) → IsPlain 1 message → IsPlain 2 sender → IsPlain 2 error → IsPlain 2 status
    → IsPlain 3 (whole_data names actor place after message sender n outcome error (effects_data names effects) status)
plain-whole names actor place after message sender n outcome error effects status of_message of_sender of_error of_status =
    of_members 2 _ (one_more 2 _ _ _ (text 2 _) (one_more 2 _ _ _ (higher (snapshot_data after) (plain-snapshot after)) (one_more 2 _ _ _ (plain-effects names effects) (one_more 2 _ _ _ (natural 2 place)
    (one_more 2 _ _ _ of_error (one_more 2 _ _ _ (text 2 _) (one_more 2 _ _ _ (higher message of_message) (one_more 2 _ _ _ (natural 2 n)
    (one_more 2 _ _ _ (text 2 outcome) (one_more 2 _ _ _ of_sender (one_more 2 _ _ _ of_status
    (one_more 2 _ _ _ (natural 2 1) (no_more 2)))))))))))))

pub plain-entry : (names : List (List ℕ)) (actor place : ℕ) (after : ActorSnapshot) (e : Entry) → IsPlain 3 (entry_data names actor place after e)
plain-entry names actor place after (Handled e reading (Applied a effects)) =
    plain-whole names actor place after _ _ _ (answer_text a) _ effects _ (plain-body names e.body) (text 2 _) (plain-answer_error 2 a) (natural 2 reading)
plain-entry names actor place after (Handled e reading SetAside) =
    plain-whole names actor place after _ _ _ _ _ [] _ (plain-body names e.body) (text 2 _) (nothing 2) (natural 2 reading)
plain-entry names actor place after (System n message (Applied a effects)) =
    plain-whole names actor place after _ _ _ (answer_text a) _ effects _ (plain-message names message) (nothing 2) (plain-answer_error 2 a) (nothing 2)
plain-entry names actor place after (System n message SetAside) =
    plain-whole names actor place after _ _ _ _ _ [] _ (plain-message names message) (nothing 2) (nothing 2) (nothing 2)
plain-entry names actor place after (Dropped e) =
    plain-whole names actor place after _ _ _ _ _ [] _ (plain-body names e.body) (text 2 _) (nothing 2) (nothing 2)

pub plain-letter : (names : List (List ℕ)) (letter : DeadLetter) → IsPlain 2 (letter_data names letter)
plain-letter names letter =
    of_members 1 _ (one_more 1 _ _ _ (text 1 _) (one_more 1 _ _ _ (text 1 _) (one_more 1 _ _ _ (plain-body names letter.envelope.body)
    (one_more 1 _ _ _ (natural 1 _) (one_more 1 _ _ _ (text 1 _) (one_more 1 _ _ _ (natural 1 1)
    (one_more 1 _ _ _ (text 1 (why_text letter.why)) (no_more 1))))))))

pub plain-left : (names : List (List ℕ)) (e : Envelope) → IsPlain 2 (left_data names e)
plain-left names e =
    of_members 1 _ (one_more 1 _ _ _ (text 1 _) (one_more 1 _ _ _ (text 1 _) (one_more 1 _ _ _ (plain-body names e.body)
    (one_more 1 _ _ _ (natural 1 _) (one_more 1 _ _ _ (text 1 _) (one_more 1 _ _ _ (natural 1 1) (no_more 1)))))))

pub plain-aside : (names : List (List ℕ)) (actor n : ℕ) (message : SysMsg) → IsPlain 2 (aside_data names actor n message)
plain-aside names actor n message =
    of_members 1 _ (one_more 1 _ _ _ (text 1 _) (one_more 1 _ _ _ (text 1 _) (one_more 1 _ _ _ (plain-message names message)
    (one_more 1 _ _ _ (natural 1 n) (one_more 1 _ _ _ (natural 1 1) (no_more 1))))))
