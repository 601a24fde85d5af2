-- What a seat at the gates knows (this project's own profile: Akka's mailboxes keep no account of who knows what). A pass and a claim have a seat
-- each, and a view changes only by the seat's own steps.
use Rattle.std.specs.Prelude.{ℕ, ◌+◌, ◌%◌, ◌^◌, ◌==◌, length, Bool, true, false, ◌||◌, if◌then◌else◌, List, [], ◌∷◌, ◌++◌, Option, Some, None}
use Rattle.mb_status.specs.Mailbox.{mailbox_of}
use Rattle.mb_msg.specs.declared.system.SysMsg.{SysMsg}
use Rattle.mb_syslist.specs.MessageList.{MessageList}
use Rattle.mb_journal.specs.Entry.{Entry}
use Rattle.mb_core.specs.declared.wake_obligation.WakeObligation.{WakeObligation}
use Rattle.mb_core.specs.Actor.{nothing}
use Rattle.mb_core.specs.Run.{after_reading}
use Rattle.mb_ghost.specs.Shares.{halved, half_of}

-- One thing that a seat saw or did at an actor, whose number stands first. It read the status word; it saw the journal; it read how many envelopes
-- are counted as waiting; it read the list's gate, which showed system work or none (to the actor's holder, a list that is out is work too); it counted
-- so many envelopes as waiting, took so many back that were refused, or counted so many as taken; it put a message last into the list, under this
-- number; it drained the list, which gave these numbered messages; or it ended the list, which gave these, or found it ended, which gave none.
pub data Observation : Type 0 where
  Read : ℕ → ℕ → Observation
  Saw : ℕ → List Entry → Observation
  Counted : ℕ → ℕ → Observation
  Looked : ℕ → Bool → Observation
  Sent : ℕ → ℕ → Observation
  Unsent : ℕ → ℕ → Observation
  Took : ℕ → ℕ → Observation
  Pushed : ℕ → ℕ → SysMsg → Observation
  Drained : ℕ → List (ℕ × SysMsg) → Observation
  Ended : ℕ → List (ℕ × SysMsg) → Observation

-- A claim: its actor; the journal with which it was taken; the actors of which the home said then that they are closed; the status word as it knows
-- it; whether the last drain of the actor's list gave something; how many messages that list gave so far, modulo 2^64; and those of them, with their
-- numbers, of which the home said so then, followed by all that was drained since.
pub record Held : Type 0 where
  pub actor : ℕ
  pub journal : List Entry
  pub closed_to : List ℕ
  pub word : ℕ
  pub gave : Bool
  pub given : ℕ
  pub drained : List (ℕ × SysMsg)

-- A list that is out: its actor, what was listed when it was taken, and whether the last drain gave something.
pub record Lent : Type 0 where
  pub actor : ℕ
  pub listed : MessageList
  pub gave : Bool

-- A system message that was sent: to whom, what, and whether the list was ended, so that the message went nowhere.
pub record SentSystem : Type 0 where
  pub to : ℕ
  pub message : SysMsg
  pub was_ended : Bool

-- A cell that was given back: whose it is, the journal with which it was taken, and the one with which it came back.
pub record Release : Type 0 where
  pub actor : ℕ
  pub taken : List Entry
  pub back : List Entry

-- What a seat knows: what it saw and did, the newest first; what it owes, by actor, of which the newest counts; which system messages it sent, the
-- newest first; the claim and the list that it has, if any; its share of the one whole of all passes; the actors of which it got a claim and of which it
-- gave one back, the newest first; and each cell that it gave back, the newest first.
pub record View : Type 0 where
  pub log : List Observation
  pub obligations : List (ℕ × WakeObligation)
  pub sent_system : List SentSystem
  pub claim : Option Held
  pub list : Option Lent
  pub share : List ℕ
  pub got : List ℕ
  pub returned : List ℕ
  pub releases : List Release

-- What is owed to the actor by this list, of which the newest entry counts.
abbrev pub obligation_of : ℕ → List (ℕ × WakeObligation) → WakeObligation
obligation_of actor [] = nothing
obligation_of actor (d ∷ ds) = if d.0 == actor then d.1 else obligation_of actor ds

-- What the seat owes the actor.
abbrev pub obligation_to : ℕ → View → WakeObligation
obligation_to actor v = obligation_of actor v.obligations

-- The view of a seat that knows nothing and owes nothing.
abbrev pub blank : View
blank = record { log = []; obligations = []; sent_system = []; claim = None; list = None; share = []; got = []; returned = []; releases = [] }

-- The view of the first pass, beside which there is no other.
abbrev pub alone : View
alone = record blank { share = 0 ∷ [] }

-- The view, which owes this actor this from now on.
abbrev pub with_obligation : ℕ → WakeObligation → View → View
with_obligation actor obligation v = record v { obligations = (actor, obligation) ∷ v.obligations }

-- The view, with one observation more.
abbrev pub seeing : Observation → View → View
seeing s v = record v { log = s ∷ v.log }

-- The view after it read a status word.
abbrev pub reading : ℕ → ℕ → View → View
reading actor word v = with_obligation actor (after_reading (mailbox_of word) (obligation_to actor v)) (seeing (Read actor word) v)

-- The view after its claim read its actor's status word. Nobody else writes that word, so the reading settles no obligation.
abbrev pub reading_held : ℕ → ℕ → View → View
reading_held actor word v = seeing (Read actor word) v

-- The view after it scheduled the actor by an exchange that found this word, and took the cell.
abbrev pub taking : ℕ → List Entry → List ℕ → ℕ → Bool → ℕ → List (ℕ × SysMsg) → View → View
taking actor journal shut word gave given drained v =
    with_obligation actor nothing (record v {
      claim = Some (record {
        actor = actor;
        journal = journal;
        closed_to = shut;
        word = word + 2;
        gave = gave;
        given = given;
        drained = drained;
      });
      got = actor ∷ v.got;
    })

-- What the pass knows then, without the claim.
abbrev pub winning : ℕ → View → View
winning actor v = with_obligation actor nothing (record v { got = actor ∷ v.got })

-- The claim in a view of its own.
abbrev pub claim_alone : View → View
claim_alone v = record blank { claim = v.claim }

-- The view without its claim.
abbrev pub without_claim : View → View
without_claim v = record v { claim = None }

-- The observations without those of what was counted or put into lists, which are one seat's own.
abbrev pub without_counts : List Observation → List Observation
without_counts [] = []
without_counts (Sent a n ∷ log) = without_counts log
without_counts (Unsent a n ∷ log) = without_counts log
without_counts (Took a n ∷ log) = without_counts log
without_counts (Pushed a n m ∷ log) = without_counts log
without_counts (s ∷ log) = s ∷ without_counts log

-- What a second pass knows and owes, with a half of a part of the share.
abbrev pub copied : View → View
copied v = record v { log = without_counts v.log; share = half_of v.share; got = []; returned = []; releases = [] }

-- What a pass knows that is split off another and knows nothing, with a half of a part of the share.
abbrev pub split_off : View → View
split_off v = record blank { share = half_of v.share }

-- What the first pass knows and owes once it has halved a part of its share.
abbrev pub halving : View → View
halving v = record v { share = halved v.share }

-- The claim, which knows this status word now.
abbrev pub rewritten : ℕ → Option Held → Option Held
rewritten word None = None
rewritten word (Some c) = Some (record c { word = word })

-- The view after its claim wrote this status word.
abbrev pub writing : ℕ → View → View
writing word v = record v { claim = rewritten word v.claim }

-- The journal with which this claim was taken; none where there is no claim.
abbrev pub taken_journal : Option Held → List Entry
taken_journal None = []
taken_journal (Some c) = c.journal

-- The view after it gave the cell home with this journal.
abbrev pub idling : ℕ → List Entry → View → View
idling actor journal v =
    with_obligation actor (record (obligation_to actor v) { system = true; message = true })
    (record v {
      log = Saw actor journal ∷ v.log;
      claim = None;
      returned = actor ∷ v.returned;
      releases = record { actor = actor; taken = taken_journal v.claim; back = journal } ∷ v.releases;
    })

-- The view after it counted so many envelopes as waiting, before they are queued.
abbrev pub sending : ℕ → ℕ → View → View
sending actor n v = with_obligation actor (record (obligation_to actor v) { sending = true }) (seeing (Sent actor n) v)

-- The view after it took back what it counted, since the envelopes were refused.
abbrev pub unsending : ℕ → ℕ → View → View
unsending actor n v = with_obligation actor (record (obligation_to actor v) { message = true; sending = false }) (seeing (Unsent actor n) v)

-- The view after its claim counted so many envelopes as taken.
abbrev pub counting_off : ℕ → ℕ → View → View
counting_off actor n v = seeing (Took actor n) v

-- The view after it read the waiting count.
abbrev pub counting : ℕ → ℕ → View → View
counting actor waiting v =
    if waiting == 0 then with_obligation actor (record (obligation_to actor v) { message = false }) (seeing (Counted actor waiting) v) else seeing (Counted actor
    waiting) v

-- The view after it read the list's gate, which showed system work or none.
abbrev pub looking : ℕ → Bool → View → View
looking actor has_work v =
    if has_work then seeing (Looked actor true) v else with_obligation actor (record (obligation_to actor v) { system = false }) (seeing (Looked actor false) v)

-- What is owed by either of two views.
abbrev pub either_obligation : WakeObligation → WakeObligation → WakeObligation
either_obligation a b = record { system = a.system || b.system; message = a.message || b.message; sending = a.sending || b.sending }

-- The first list's obligations, with those of the second list to the same actors, in front of the second list.
abbrev pub added_obligations : List (ℕ × WakeObligation) → List (ℕ × WakeObligation) → List (ℕ × WakeObligation)
added_obligations [] old = old
added_obligations (d ∷ ds) old = (d.0, either_obligation d.1 (obligation_of d.0 old)) ∷ added_obligations ds old

-- The view of a seat that takes over what another has seen and what it owes. What it sent itself stays its own.
abbrev pub taking_over : View → View → View
taking_over v w = record v {
  log = w.log ++ v.log;
  obligations = added_obligations w.obligations v.obligations;
  share = w.share ++ v.share;
  got = w.got ++ v.got;
  returned = w.returned ++ v.returned;
  releases = w.releases ++ v.releases;
}

-- The view of a claim's seat that takes in a whole pass: what the pass has seen and sent, and what it owes.
abbrev pub taking_in : View → View → View
taking_in v w = record (taking_over v w) { sent_system = w.sent_system }

-- The view after it took the list out.
abbrev pub lending : ℕ → MessageList → Bool → View → View
lending actor listed gave v = record v { list = Some (record { actor = actor; listed = listed; gave = gave }) }

-- The view after it put the list back with this message last, under this number.
abbrev pub enlisting : ℕ → ℕ → SysMsg → View → View
enlisting actor number message v =
    with_obligation actor (record (obligation_to actor v) { system = true })
    (record v {
      log = Pushed actor number message ∷ v.log;
      list = None;
      sent_system = record { to = actor; message = message; was_ended = false } ∷ v.sent_system;
    })

-- The view after it found the list ended, so that this message went nowhere.
abbrev pub refusing : ℕ → SysMsg → View → View
refusing actor message v = record v {
  log = Ended actor [] ∷ v.log;
  sent_system = record { to = actor; message = message; was_ended = true } ∷ v.sent_system;
}

-- How many messages were given, modulo 2^64, once these are.
abbrev pub given_after : ℕ → List (ℕ × SysMsg) → ℕ
given_after n given = (n + length given) % 2 ^ 64

-- The claim once this was given to it; it knows whether the last drain gave something.
abbrev pub regiven : List (ℕ × SysMsg) → Bool → Option Held → Option Held
regiven given gave None = None
regiven given gave (Some c) = Some (record c { gave = gave; given = given_after c.given given; drained = c.drained ++ given })

-- The view after its claim put the list back without what it took out of it.
abbrev pub unloading : Observation → List (ℕ × SysMsg) → Bool → View → View
unloading s given gave v = record v { log = s ∷ v.log; list = None; claim = regiven given gave v.claim }

-- The view after its claim drained the list.
abbrev pub draining : ℕ → List (ℕ × SysMsg) → Bool → View → View
draining actor given gave v = unloading (Drained actor given) given gave v

-- The view after its claim ended the list. Of the last drain it knows what it knew.
abbrev pub ending : ℕ → List (ℕ × SysMsg) → Bool → View → View
ending actor given gave v = unloading (Ended actor given) given gave v
