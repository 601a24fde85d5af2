-- The dead letters that are shown (this project's own profile).
use Rattle.std.specs.Prelude.{Bool, List, [], ◌++◌, filter, if◌then◌else◌, map}
use Rattle.std.specs.List.{flat_map}
use Rattle.mb_msg.specs.declared.dead_letter.DeadLetter.{DeadLetter}
use Rattle.mb_msg.specs.declared.dead_letter.DeadLetterReason.TheVariants.{Cleaned}
use Rattle.mb_msg.specs.declared.envelope.Envelope.{Envelope}
use Rattle.mb_report.specs.declared.report.ActorReport.{ActorReport}
use Rattle.mb_report.specs.declared.report.Report.{Report}
use Rattle.mb_report.specs.declared.report.SenderReport.{SenderReport}
use Rattle.mb_trace.specs.Filter.{shows_actor}
use Rattle.mb_trace.specs.Undelivered.{shows_envelopes}
use Rattle.mb_trace.specs.declared.filter.Filter.{Filter}

-- the filter shows the envelope's receiver
abbrev pub is_to_shown : Filter → Envelope → Bool
is_to_shown f e = shows_actor f.actors.now e.to.0

-- of these dead letters those to actors that are shown
abbrev pub refused : Filter → List DeadLetter → List DeadLetter
refused f letters = filter (λ (d : DeadLetter). is_to_shown f d.envelope) letters

-- an envelope that was still queued when its actor ended, as a dead letter
abbrev pub cleaned_letter : Envelope → DeadLetter
cleaned_letter e = record { envelope = e; why = Cleaned }

-- of these envelopes, still queued when their actor ended, those to actors that are shown
abbrev pub cleaned : Filter → List Envelope → List DeadLetter
cleaned f envelopes = map cleaned_letter (filter (is_to_shown f) envelopes)

-- the dead letters: those of each sender, then those of each actor's end
abbrev pub all_letters : Filter → Report → List DeadLetter
all_letters f report =
    flat_map (λ (s : SenderReport). refused f s.dead.items) report.senders.items
    ++ flat_map (λ (r : ActorReport). cleaned f r.cleaned.items) report.actors.items

-- those that the filter leaves: they are shown with entries of envelopes
abbrev pub letters_in : Filter → Report → List DeadLetter
letters_in f report = if shows_envelopes f.only then all_letters f report else []
