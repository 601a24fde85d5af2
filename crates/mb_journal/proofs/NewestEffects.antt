-- The effects of the newest entry stand at the end of all effects.
use Rattle.std.proofs.Common.{◌≡◌, ℕ, ◌-◌, ◌<◌, ◌≤◌, List, [], ◌∷◌, ◌++◌, length, take_all, drop, get_or, reverse, refl, ap, sym, ◌∙◌, arith}
use Rattle.std.proofs.Common.{length-drop}
use Rattle.std.specs.Prelude.{slice_range, slice_get, Some}
use Rattle.std.proofs.lemmas.List.{length-reverse, reverse-append, get_or-drop}
use Rattle.std.proofs.lemmas.Option.{slice_get_read}
use Rattle.mb_actor.specs.declared.effect.Effect.{Effect}
use Rattle.mb_journal.specs.Entry.{Entry, outcome_of, outcome_effects, newest_effects}
use Rattle.mb_journal.specs.Stored.{listed, StandInOrder}
use Rattle.mb_journal.specs.JournalView.{entry_with}
use Rattle.mb_journal.specs.Rows.{WholeRow}
use Rattle.mb_journal.specs.declared.entry.Received.{Received}
use Rattle.mb_journal.specs.declared.entry.Received.TheVariants as arrival

abbrev effects_of : Entry → List Effect
effects_of e = outcome_effects (outcome_of e)

-- ---- the newest entry is the last one in the order of arrival

abbrev last_effects : List Entry → List Effect
last_effects [] = []
last_effects (e ∷ []) = effects_of e
last_effects (e ∷ f ∷ es) = last_effects (f ∷ es)

abbrev newest_or : List Entry → Entry → List Effect
newest_or [] e = effects_of e
newest_or (f ∷ es) e = effects_of f

newest-append : (es : List Entry) (e : Entry) → newest_effects (es ++ e ∷ []) ≡ newest_or es e
newest-append [] e = refl
newest-append (f ∷ es) e = refl

newest-of-some : (es : List Entry) (e : Entry) → 0 < length es → newest_or es e ≡ newest_effects es
newest-of-some [] e some = absurd (omega (arith, some))
newest-of-some (f ∷ es) e some = refl

newest-is-last : (es : List Entry) → newest_effects (reverse es) ≡ last_effects es
newest-is-last [] = refl
newest-is-last (e ∷ []) = refl
newest-is-last (e ∷ f ∷ es) =
    ap newest_effects (reverse-append (e ∷ []) (f ∷ es)) ∙ newest-append (reverse (f ∷ es)) e
    ∙ newest-of-some (reverse (f ∷ es)) e (omega (arith, length-reverse (f ∷ es))) ∙ newest-is-last (f ∷ es)

-- ---- its effects are the last ones

range-to-end : (effects : List Effect) (from end : ℕ) → end ≡ length effects → from ≤ end →
    slice_range effects from end ≡ drop (length effects - length (slice_range effects from end)) effects
range-to-end effects from end at within =
    let whole : slice_range effects from end ≡ drop from effects =
    take_all (end - from) (drop from effects) (omega (arith, length-drop from effects)) in
    whole
    ∙ ap (λ n. drop n effects) (omega (arith, ap length whole, length-drop from effects))

of-one : (arrival : Received) (effects : List Effect) (from end : ℕ) → end ≡ length effects → from ≤ end →
    0 < length (effects_of (entry_with arrival (slice_range effects from end))) →
    effects_of (entry_with arrival (slice_range effects from end))
    ≡ drop (length effects - length (effects_of (entry_with arrival (slice_range effects from end)))) effects
of-one (arrival.Handled answer envelope reading) effects from end at within some = range-to-end effects from end at within
of-one (arrival.System answer number message) effects from end at within some = range-to-end effects from end at within
of-one (arrival.SetAside number message) effects from end at within some = absurd (omega (arith, some))
of-one (arrival.Dropped envelope) effects from end at within some = absurd (omega (arith, some))

last-at-end : (from : ℕ) (rows : List WholeRow) (effects : List Effect) → StandInOrder from rows (length effects) →
    0 < length (last_effects (listed from rows effects)) →
    last_effects (listed from rows effects) ≡ drop (length effects - length (last_effects (listed from rows effects))) effects
unfolding listed StandInOrder
last-at-end from [] effects order some = absurd (omega (arith, some))
last-at-end from (row ∷ []) effects (a, b, rest) some = of-one row.arrival effects from row.end rest a some
last-at-end from (row ∷ r ∷ rows) effects (a, b, rest) some = last-at-end row.end (r ∷ rows) effects rest some

module _ (rows : List WholeRow) (effects : List Effect) (entries : List Entry) (place : ℕ) (order : StandInOrder 0 rows (length effects))
    (shown : reverse (listed 0 rows effects) ≡ entries) (above : 0 < place) (within : place ≤ length (newest_effects entries)) where
  abbrev newest : List Effect
  newest = newest_effects entries

  at_end : newest ≡ drop (length effects - length newest) effects
  at_end =
      let last = sym (newest-is-last (listed 0 rows effects)) ∙ ap newest_effects shown in
      sym last ∙ last-at-end 0 rows effects order (omega (arith, above, within, ap length last))
      ∙ ap (λ (es : List Effect). drop (length effects - length es) effects) last

  same_length : length newest ≡ length effects - (length effects - length newest)
  same_length = ap length at_end ∙ length-drop (length effects - length newest) effects

  -- there are as many effects
  pub newest-fits : place ≤ length effects
  newest-fits = omega (arith, within, same_length)

  -- an effect that was read at a place from the end is that of the newest entry at this place from its end
  pub newest-read : (e : Effect) → e ≡ get_or effects (length effects - place) e → slice_get newest (length newest - place) ≡ Some e
  newest-read e read =
      slice_get_read newest (length newest) (length newest - place) e refl (omega (arith, above, within))
      (read ∙ ap (λ n. get_or effects n e) (omega (arith, above, within, same_length))
      ∙ sym (get_or-drop (length effects - length newest) effects (length newest - place) e)
      ∙ ap (λ es. get_or es (length newest - place) e) (sym at_end))
