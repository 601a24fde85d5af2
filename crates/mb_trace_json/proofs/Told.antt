-- Two entries with one value are one entry.
use Rattle.std.proofs.Common.{◌≡◌, ℕ, List, sym, ap, ◌∙◌}
use Rattle.serde_json.specs.Data.{Data}
use Rattle.mb_journal.specs.Entry.{Entry}
use Rattle.mb_trace_json.specs.Entries.{entry_data}
use Rattle.mb_trace_json.specs.Names.{name_data}
use Rattle.mb_trace.specs.declared.actor_snapshot.ActorSnapshot.{ActorSnapshot}
use Rattle.mb_trace_json.specs.Telling.{AreDistinct, IsKnown, IsKnownEntry, TellsEntry}
use Rattle.mb_trace_json.proofs.Decoded.{actor-at, entry-back, entry_from, natural_from, place-in, value_at}
use Rattle.mb_trace_json.proofs.Numbers.{number-back, number_from}

pub tells-entry : (names : List (List ℕ)) (actor place : ℕ) (after : ActorSnapshot) (e : Entry) → TellsEntry names actor place after e
tells-entry names actor place after e distinct known known_e other elsewhere otherwise f known_other known_f same =
    let back = number-back names distinct in
    let whose : (a p : ℕ) (s : ActorSnapshot) (x : Entry) → IsKnown names a → number_from names (value_at 0 (entry_data names a p s x)) ≡ a =
    λ a p s x k. ap (number_from names) (actor-at names a p s x) ∙ back a k in (
      sym (whose other elsewhere otherwise f known_other) ∙ (ap (λ (d : Data). number_from names (value_at 0 d)) same ∙ whose actor place after e known),
      sym (place-in names other elsewhere otherwise f) ∙ (ap (λ (d : Data). natural_from (value_at 3 d)) same ∙ place-in names actor place after e),
      sym (entry-back (number_from names) names back other elsewhere otherwise f known_other known_f)
          ∙ (ap (entry_from (number_from names)) same ∙ entry-back (number_from names) names back actor place after e known known_e),
    )
