-- What stands at the end of a trace: dead letters, what is left, and what is set aside (this project's own profile).
use Rattle.std.specs.Prelude.{ℕ, ◌+◌, if◌then◌else◌, Bool, true, false, List, [], ◌∷◌, ◌++◌}
use Rattle.std.specs.List.{flat_map}
use Rattle.mb_dead_letters.specs.KeptListView.{KeptListView}
use Rattle.mb_msg.specs.declared.dead_letter.DeadLetter.{DeadLetter}
use Rattle.mb_msg.specs.declared.dead_letter.DeadLetterReason.TheVariants.{Cleaned}
use Rattle.mb_msg.specs.declared.envelope.Envelope.{Envelope}
use Rattle.mb_msg.specs.declared.system.SysMsg.{SysMsg}
use Rattle.mb_report.specs.declared.report.ActorReport.{ActorReport}
use Rattle.mb_report.specs.declared.report.Report.{Report}
use Rattle.mb_report.specs.declared.report.SenderReport.{SenderReport}
use Rattle.mb_trace.specs.Ends.{aside_text, left_text, letter_text}
use Rattle.mb_trace.specs.Filter.{shows_actor}
use Rattle.mb_trace.specs.declared.filter.EntryKinds.{EntryKinds}
use Rattle.mb_trace.specs.declared.filter.EntryKinds.TheVariants as kinds
use Rattle.mb_trace.specs.declared.filter.Filter.{Filter}

-- envelopes at the end are shown with entries of envelopes
abbrev pub shows_envelopes : EntryKinds → Bool
shows_envelopes kinds.All = true
shows_envelopes kinds.User = true
shows_envelopes _ = false

-- system messages at the end are shown with entries of system messages
abbrev pub shows_system_messages : EntryKinds → Bool
shows_system_messages kinds.All = true
shows_system_messages kinds.System = true
shows_system_messages _ = false

-- these lines, where the filter shows the actor of this number
abbrev pub where_shown : Filter → ℕ → List ℕ → List ℕ
where_shown f actor lines = if shows_actor f.actors.now actor then lines else []

-- these envelopes, which were refused
abbrev pub letters_text : List (List ℕ) → Filter → List DeadLetter → List ℕ
letters_text names f letters = flat_map (λ (d : DeadLetter). where_shown f d.envelope.to.0 (letter_text names d.envelope d.why)) letters

-- these envelopes, which were still queued when their actor ended
abbrev pub cleaned_text : List (List ℕ) → Filter → List Envelope → List ℕ
cleaned_text names f envelopes = flat_map (λ (e : Envelope). where_shown f e.to.0 (letter_text names e Cleaned)) envelopes

-- those that are left in its queue
abbrev pub queued_text : List (List ℕ) → Filter → ActorReport → List ℕ
queued_text names f reported = flat_map (λ (e : Envelope). where_shown f e.to.0 (left_text names e)) reported.left.items

-- the system messages that are set aside at the actor of this number
abbrev pub set_aside_text : List (List ℕ) → Filter → ℕ → ActorReport → List ℕ
set_aside_text names f actor reported =
    where_shown f actor (flat_map (λ (m : ℕ × SysMsg). aside_text names actor m.0 m.1) reported.aside.items)

-- those at these actors, numbered on from this one
abbrev pub all_aside_text : List (List ℕ) → Filter → ℕ → List ActorReport → List ℕ
all_aside_text names f actor [] = []
all_aside_text names f actor (r ∷ reported) = set_aside_text names f actor r ++ all_aside_text names f (actor + 1) reported

-- what can be read of a list: all its items where it keeps all, else those that it keeps
abbrev pub readable : {T : Type 0} → KeptListView T → List T
readable list = if list.retention.keeps_all then list.items else list.kept

-- the dead letters of a sender that can be read
abbrev pub readable_letters : SenderReport → List DeadLetter
readable_letters sender = readable sender.dead

-- the envelopes that were still queued when an actor ended and can be read
abbrev pub readable_cleaned : ActorReport → List Envelope
readable_cleaned reported = readable reported.cleaned

-- the dead letters of each sender
abbrev pub all_letters : SenderReport → List DeadLetter
all_letters sender = sender.dead.items

-- the envelopes that were still queued when an actor ended
abbrev pub all_cleaned : ActorReport → List Envelope
all_cleaned reported = reported.cleaned.items

module _ (names : List (List ℕ)) (f : Filter) (letters_of : SenderReport → List DeadLetter) (cleaned_of : ActorReport → List Envelope) where
  -- these dead letters of each sender, those that each actor's end left, and what is left
  abbrev pub envelopes_text : Report → List ℕ
  envelopes_text report =
      flat_map (λ (s : SenderReport). letters_text names f (letters_of s)) report.senders.items
      ++ flat_map (λ (r : ActorReport). cleaned_text names f (cleaned_of r)) report.actors.items
      ++ flat_map (queued_text names f) report.actors.items

  -- all of them, as far as the filter shows their kinds
  abbrev pub end_text : Report → List ℕ
  end_text report =
      (if shows_envelopes f.only then envelopes_text report else [])
      ++ (if shows_system_messages f.only then all_aside_text names f 0 report.actors.items else [])

-- all that stands at the end
abbrev pub rest_text : List (List ℕ) → Filter → Report → List ℕ
rest_text names f report = end_text names f all_letters all_cleaned report

-- what of it can be read
abbrev pub readable_rest_text : List (List ℕ) → Filter → Report → List ℕ
readable_rest_text names f report = end_text names f readable_letters readable_cleaned report
