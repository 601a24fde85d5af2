-- How many dead letters are not kept, where the lists of a report keep the newest alone (this project's own profile: Akka keeps no dead letters).
use Rattle.std.specs.Prelude.{ℕ, ◌+◌, ◌-◌, ◌==◌, nat_lt, if◌then◌else◌, List, [], ◌∷◌, ◌++◌, codes, length}
use Rattle.std.specs.Fmt.{decimal}
use Rattle.mb_dead_letters.specs.KeptListView.{KeptListView}
use Rattle.mb_msg.specs.Limits.{most_actors}
use Rattle.mb_report.specs.declared.report.ActorReport.{ActorReport}
use Rattle.mb_report.specs.declared.report.Report.{Report}
use Rattle.mb_report.specs.declared.report.SenderReport.{SenderReport}
use Rattle.mb_trace.specs.Undelivered.{shows_envelopes, where_shown}
use Rattle.mb_trace.specs.Words.{name_of, sender_text}
use Rattle.mb_trace.specs.declared.filter.Filter.{Filter}

-- how many items of a list are not kept
abbrev pub gone : {T : Type 0} → KeptListView T → ℕ
gone list = length list.items - length list.kept

-- the number by which the sender at this place of a report sends, where there are so many actors: each of them is a sender, and behind them come
-- those outside
abbrev pub sender_at : ℕ → ℕ → ℕ
sender_at actors place = if nat_lt place actors then place else most_actors + (place - actors)

-- that so many are not kept
unfoldable pub not_kept_text : ℕ → List ℕ
not_kept_text number = codes ", not kept: " ++ decimal number ++ codes "\n"

-- the line that says how many dead letters of the sender of this number are not kept
abbrev pub gone_letters_line : List (List ℕ) → ℕ → ℕ → List ℕ
gone_letters_line names by number =
    codes "older dead letters of " ++ sender_text names by ++ not_kept_text number

-- it, if there are any
abbrev pub gone_letters_text : List (List ℕ) → ℕ → ℕ → List ℕ
gone_letters_text names by number = if number == 0 then [] else gone_letters_line names by number

-- that of the sender at this place of a report
abbrev pub sender_gone_text : List (List ℕ) → ℕ → ℕ → SenderReport → List ℕ
sender_gone_text names actors place sender = gone_letters_text names (sender_at actors place) (gone sender.dead)

-- that of each of these senders, of which the first has this place
abbrev pub all_gone_letters_text : List (List ℕ) → ℕ → ℕ → List SenderReport → List ℕ
all_gone_letters_text names actors place [] = []
all_gone_letters_text names actors place (s ∷ senders) =
    sender_gone_text names actors place s ++ all_gone_letters_text names actors (place + 1) senders

-- the line that says how many envelopes, still queued when the actor of this number ended, are not kept
abbrev pub gone_cleaned_line : List (List ℕ) → ℕ → ℕ → List ℕ
gone_cleaned_line names actor number =
    codes "older dead letters cleaned up at " ++ name_of names actor ++ not_kept_text number

-- it, if there are any
abbrev pub gone_cleaned_text : List (List ℕ) → ℕ → ℕ → List ℕ
gone_cleaned_text names actor number = if number == 0 then [] else gone_cleaned_line names actor number

-- that of the actor of this number, where it is shown
abbrev pub actor_gone_text : List (List ℕ) → Filter → ℕ → ActorReport → List ℕ
actor_gone_text names f actor reported = where_shown f actor (gone_cleaned_text names actor (gone reported.cleaned))

-- those of these actors, numbered on from this one
abbrev pub all_gone_cleaned_text : List (List ℕ) → Filter → ℕ → List ActorReport → List ℕ
all_gone_cleaned_text names f actor [] = []
all_gone_cleaned_text names f actor (r ∷ reported) = actor_gone_text names f actor r ++ all_gone_cleaned_text names f (actor + 1) reported

-- those of the senders, whomever their dead letters were for, and those of the actors
abbrev pub gone_of_each_text : List (List ℕ) → Filter → Report → List ℕ
gone_of_each_text names f report =
    all_gone_letters_text names (length report.actors.items) 0 report.senders.items ++ all_gone_cleaned_text names f 0 report.actors.items

-- they are shown with entries of envelopes
abbrev pub gone_dead_letters_text : List (List ℕ) → Filter → Report → List ℕ
gone_dead_letters_text names f report = if shows_envelopes f.only then gone_of_each_text names f report else []
