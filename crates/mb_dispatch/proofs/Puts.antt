-- What a view put into lists is what it sent, and what found its list ended is noted.
use Rattle.std.proofs.Common.{◌≡◌, ℕ, true, List, [], ◌∷◌, ◌++◌, Option, Some, None, ap, arith, refl, ◌∙◌}
use Rattle.mb_ghost.proofs.SummedLemmas.{total_append}
use Rattle.mb_ghost.specs.Seen.{Each}
use Rattle.mb_ghost.specs.Summed.{total}
use Rattle.mb_gate.specs.PutIn.{put_in}
use Rattle.mb_gate.specs.View.{Observation, SentSystem, View}
use Rattle.mb_gate.specs.View.{Read, Saw, Counted, Looked, Sent, Unsent, Took, Pushed, Drained, Ended}
use Rattle.mb_mailbox.specs.RunSends.{FindsEndedAsSent, PutsAsSent, ended_in, listed_measure, refused_of}
use Rattle.mb_mailbox.proofs.RecordedLemmas.{does-end, look-ends-none}
use Rattle.mb_msg.specs.declared.dead_letter.DeadLetterReason.{DeadLetterReason}
use Rattle.mb_msg.specs.declared.system.SysMsg.{SysMsg}
use Rattle.mb_register.specs.Sending.{counts}
use Rattle.mb_register.specs.Views.{Does, IsLook}
use Rattle.mb_system.specs.OnlyLooks.{OnlyLooks}

pub record LogsAsSent (old new : View) : Type 0 where
  pub put : PutsAsSent old new
  pub refused : FindsEndedAsSent old new

pub logs-none : (v : View) → LogsAsSent v v
logs-none v = record { put = λ to measure. refl; refused = λ to. refl }

pub logs-then : (a b c : View) → LogsAsSent a b → LogsAsSent b c → LogsAsSent a c
logs-then a b c before after = record {
  put = λ to measure. (let one = before.put to measure in let two = after.put to measure in omega (arith, one, two));
  refused = λ to. (let one = before.refused to in let two = after.refused to in omega (arith, one, two));
}

-- a look puts nothing
look-puts-none : (to : ℕ) (measure : ℕ × SysMsg → ℕ) (id : ℕ) (s : Observation) → IsLook id s → put_in to measure s ≡ 0
look-puts-none to measure id (Read a word) look = refl
look-puts-none to measure id (Saw a journal) look = refl
look-puts-none to measure id (Counted a waiting) look = refl
look-puts-none to measure id (Looked a has_work) look = refl
look-puts-none to measure id (Sent a n) look = absurd look
look-puts-none to measure id (Unsent a n) look = absurd look
look-puts-none to measure id (Took a n) look = absurd look
look-puts-none to measure id (Pushed a number message) look = absurd look
look-puts-none to measure id (Drained a given) look = absurd look
look-puts-none to measure id (Ended a given) look = absurd look

looks-put-none : (to : ℕ) (measure : ℕ × SysMsg → ℕ) (id : ℕ) (looks : List Observation) → Each (IsLook id) looks
    → total (put_in to measure) looks ≡ 0
looks-put-none to measure id [] each = refl
looks-put-none to measure id (s ∷ looks) each =
    let one = look-puts-none to measure id s each.0 in let rest = looks-put-none to measure id looks each.1 in omega (arith, one, rest)

-- what was done put what was sent
does-puts : (id : ℕ) (did : List Observation) (sent : List SentSystem) (old new : View) → Does id did sent old new
    → ((to : ℕ) (measure : SysMsg → ℕ) → total (put_in to (λ m. measure m.1)) did ≡ total (listed_measure to measure) sent) → PutsAsSent old new
does-puts id did sent old new does same = λ to measure.
    (let put = put_in to (λ (m : ℕ × SysMsg). measure m.1) in
    let log = ap (total put) does.log ∙ total_append put (does.looks ++ did) old.log in
    let before = total_append put does.looks did in let none = looks-put-none to (λ m. measure m.1) id does.looks does.only in
    let told = ap (total (listed_measure to measure)) does.sent_system ∙ total_append (listed_measure to measure) sent old.sent_system in
    let is = same to measure in
    omega (arith, log, before, none, told, is))

-- and noted what found its list ended
pub does-log : (id : ℕ) (did : List Observation) (sent : List SentSystem) (old new : View) → Does id did sent old new
    → ((to : ℕ) (measure : SysMsg → ℕ) → total (put_in to (λ m. measure m.1)) did ≡ total (listed_measure to measure) sent)
    → ((to : ℕ) → total (ended_in to) did ≡ total (refused_of to) sent) → LogsAsSent old new
does-log id did sent old new does same noted = record {
  put = does-puts id did sent old new does same;
  refused = λ to. (let log = does-end to id did sent old new does in
      let told = ap (total (refused_of to)) does.sent_system ∙ total_append (refused_of to) sent old.sent_system in
      let is = noted to in omega (arith, log, told, is));
}

-- counting an envelope puts nothing
pub counts-put-none : (id : ℕ) (refused : Option DeadLetterReason) (to : ℕ) (measure : SysMsg → ℕ)
    → total (put_in to (λ m. measure m.1)) (counts id refused) ≡ total (listed_measure to measure) []
counts-put-none id None to measure = refl
counts-put-none id (Some why) to measure = refl

pub counts-handle-none : (id : ℕ) (refused : Option DeadLetterReason) (to : ℕ) → total (ended_in to) (counts id refused) ≡ total (refused_of to) []
counts-handle-none id None to = refl
counts-handle-none id (Some why) to = refl

only-looks-put-none : (to : ℕ) (measure : ℕ × SysMsg → ℕ) (looks : List Observation)
    → Each (λ (s : Observation). (id : ℕ) × (true ≡ true) × IsLook id s) looks → total (put_in to measure) looks ≡ 0
only-looks-put-none to measure [] each = refl
only-looks-put-none to measure (s ∷ looks) each =
    let one = look-puts-none to measure each.0.0 s each.0.2 in let rest = only-looks-put-none to measure looks each.1 in omega (arith, one, rest)

only-looks-handle-none : (to : ℕ) (looks : List Observation) → Each (λ (s : Observation). (id : ℕ) × (true ≡ true) × IsLook id s) looks
    → total (ended_in to) looks ≡ 0
only-looks-handle-none to [] each = refl
only-looks-handle-none to (s ∷ looks) each =
    let one = look-ends-none to each.0.0 s each.0.2 in let rest = only-looks-handle-none to looks each.1 in omega (arith, one, rest)

-- who only looked put nothing
looks-put : (old new : View) → OnlyLooks old new → PutsAsSent old new
looks-put old new only = λ to measure.
    (let put = put_in to (λ (m : ℕ × SysMsg). measure m.1) in
    let log = ap (total put) only.log ∙ total_append put only.looks old.log in
    let none = only-looks-put-none to (λ m. measure m.1) only.looks only.only in
    let told = ap (total (listed_measure to measure)) only.sent_system in
    omega (arith, log, none, told))

-- and noted nothing
pub looks-log : (old new : View) → OnlyLooks old new → LogsAsSent old new
looks-log old new only = record {
  put = looks-put old new only;
  refused = λ to. (let log = ap (total (ended_in to)) only.log ∙ total_append (ended_in to) only.looks old.log in
      let none = only-looks-handle-none to only.looks only.only in let told = ap (total (refused_of to)) only.sent_system in
      omega (arith, log, none, told));
}
