-- How many entries of an actor turns have.
use Rattle.std.proofs.Common.{◌≡◌, ℕ, ◌<◌, ◌≤◌, Bool, true, false, List, [], ◌∷◌, length, refl, ap, sym, ◌∙◌, inl, inr, ◌⊎◌, arith}
use Rattle.std.specs.Prelude.{◌==◌, All, Option, if◌then◌else◌}
use Rattle.std.proofs.lemmas.Bool.{cases_lt, eqb-true}
use Rattle.std.proofs.lemmas.List.Elements.{All-head, All-tail}
use Rattle.std.proofs.lemmas.List.Sums.{sum_by-cons}
use Rattle.std.proofs.lemmas.Option.{slice_get_past}
use Rattle.mb_causal_order.specs.Places.{entries_of, journal_of}
use Rattle.mb_report.specs.declared.report.ActorReport.{ActorReport}
use Rattle.mb_trace.specs.Text.{entries_in}
use Rattle.mb_trace.specs.declared.trace.TurnLength.{TurnLength}

-- how many entries of the actor of this number a turn has
abbrev pub has_of : ℕ → TurnLength → ℕ
has_of a t = if a == t.actor.0 then t.entries else 0

-- turns of these actors have no entry of another
pub none-of : (actors a : ℕ) (turns : List TurnLength) → All (λ (t : TurnLength). t.actor.0 < actors) turns → actors ≤ a
    → entries_in a turns ≡ 0
none-of actors a [] known past = refl
none-of actors a (t ∷ turns) known past =
    let rest = none-of actors a turns (All-tail (λ (x : TurnLength). x.actor.0 < actors) t turns known) past in
    let own : has_of a t ≡ 0 = by_number (a == t.actor.0) refl in
    let both = sum_by-cons (has_of a) t turns in
    omega (arith, rest, own, both)
  where
    by_number : (b : Bool) → (a == t.actor.0) ≡ b → (if b then t.entries else 0) ≡ 0
    by_number false other = refl
    by_number true same =
        let e : a ≡ t.actor.0 = eqb-true a t.actor.0 same in
        let lt = All-head (λ (x : TurnLength). x.actor.0 < actors) t turns known in
        absurd (omega (arith, e, lt, past))

-- as many of each actor as its journal has, where that is so of these actors and no turn is of another
pub all-of : (turns : List TurnLength) (actors : List ActorReport) → All (λ (t : TurnLength). t.actor.0 < length actors) turns
    → ((a : ℕ) → a < length actors → entries_in a turns ≡ length (journal_of actors a)) → (a : ℕ) → entries_in a turns ≡ length (journal_of actors a)
all-of turns actors known each a = by_place (cases_lt a (length actors))
  where
    by_place : (a < length actors) ⊎ (length actors ≤ a) → entries_in a turns ≡ length (journal_of actors a)
    by_place (inl inside) = each a inside
    by_place (inr past) =
        none-of (length actors) a turns known past
        ∙ sym (ap (λ (o : Option ActorReport). length (entries_of o)) (slice_get_past actors a past))
