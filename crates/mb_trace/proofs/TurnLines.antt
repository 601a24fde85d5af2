-- The lines of parts, of one part more.
use Rattle.std.proofs.Common.{◌≡◌, ℕ, ◌+◌, ◌-◌, ◌++◌, ◌<◌, ◌≤◌, Bool, true, false, List, refl, ap, append_assoc, drop, get_or, length, sym, take, ◌∙◌, arith}
use Rattle.std.specs.Prelude.{◌==◌, filter, if◌then◌else◌}
use Rattle.std.proofs.lemmas.Bool.{eqb-true}
use Rattle.std.proofs.lemmas.List.{drop-drop, drop_all, drop_more, take_more, append-nil}
use Rattle.std.proofs.lemmas.List.Sums.{sum_by_more}
use Rattle.mb_report.specs.declared.report.ActorReport.{ActorReport}
use Rattle.mb_trace.specs.Steps.{Step}
use Rattle.mb_trace.specs.Text.{entries_in, is_shown, journal_parts, parts_text, shown, titled, turn_parts}
use Rattle.mb_trace.specs.declared.filter.Filter.{Filter}
use Rattle.mb_trace.specs.declared.trace.TurnLength.{TurnLength}

module _ (names : List (List ℕ)) (word : List ℕ) (f : Filter) (steps : ℕ → List Step) where
  -- the lines of the turns from this one on
  abbrev pub turn-lines : ℕ → ℕ → List TurnLength → List ℕ
  turn-lines left i turns = parts_text names word f left (turn_parts steps (take i turns) (drop i turns))

  -- the steps of the turn at this place
  abbrev pub steps_at : ℕ → List TurnLength → TurnLength → List Step
  steps_at i turns t = take t.entries (drop (entries_in t.actor.0 (take i turns)) (steps t.actor.0))

  pub turn-next : (left i : ℕ) (turns : List TurnLength) (d : TurnLength) → i < length turns → (so_far whole : List ℕ) →
      whole ≡ so_far ++ parts_text names word f left (turn_parts steps (take i turns) (drop i turns)) →
      (let t : TurnLength = get_or turns i d in
      whole ≡ so_far ++ titled names word t.actor.0 (shown f left (steps_at i turns t))
      ++ parts_text names word f (left - length (filter (is_shown f) (steps_at i turns t)))
      (turn_parts steps (take (i + 1) turns) (drop (i + 1) turns)))
  turn-next left i turns d within so_far whole is =
      let t : TurnLength = get_or turns i d in
      let piece = titled names word t.actor.0 (shown f left (steps_at i turns t)) in
      let less = left - length (filter (is_shown f) (steps_at i turns t)) in
      is
      ∙ (ap (λ l. so_far ++ parts_text names word f left (turn_parts steps (take i turns) l)) (drop_more turns i d within)
      ∙ (ap (λ e. so_far ++ (piece ++ parts_text names word f less (turn_parts steps e (drop (i + 1) turns)))) (sym (take_more turns i d within))
      ∙ sym (append_assoc so_far piece (parts_text names word f less (turn_parts steps (take (i + 1) turns) (drop (i + 1) turns))))))

  pub turns-end : (left i : ℕ) (turns : List TurnLength) → length turns ≤ i → (so_far whole : List ℕ) →
      whole ≡ so_far ++ parts_text names word f left (turn_parts steps (take i turns) (drop i turns)) → so_far ≡ whole
  turns-end left i turns past so_far whole is =
      sym (is ∙ (ap (λ l. so_far ++ parts_text names word f left (turn_parts steps (take i turns) l)) (drop_all i turns past) ∙ append-nil so_far))

  -- the journal of one actor more
  pub journal-next : (left i number : ℕ) (actors : List ActorReport) (r : ActorReport) → number ≡ i → i < length actors → r ≡ get_or actors i r →
      (so_far whole : List ℕ) → whole ≡ so_far ++ parts_text names word f left (journal_parts steps i (drop i actors)) →
      whole ≡ so_far ++ titled names word number (shown f left (steps number))
      ++ parts_text names word f (left - length (filter (is_shown f) (steps number))) (journal_parts steps (i + 1) (drop (i + 1) actors))
  journal-next left i number actors r same within is_r so_far whole is =
      let rest = journal_parts steps (i + 1) (drop (i + 1) actors) in
      is
      ∙ (ap (λ l. so_far ++ parts_text names word f left (journal_parts steps i l)) (drop_more actors i r within)
      ∙ ((λ j. so_far ++ (titled names word (sym same j) (shown f left (steps (sym same j)))
      ++ parts_text names word f (left - length (filter (is_shown f) (steps (sym same j)))) rest))
      ∙ sym (append_assoc so_far (titled names word number (shown f left (steps number)))
      (parts_text names word f (left - length (filter (is_shown f) (steps number))) rest))))

  pub journals-end : (left i : ℕ) (actors : List ActorReport) → length actors ≤ i → (so_far whole : List ℕ) →
      whole ≡ so_far ++ parts_text names word f left (journal_parts steps i (drop i actors)) → so_far ≡ whole
  journals-end left i actors past so_far whole is =
      sym (is ∙ (ap (λ l. so_far ++ parts_text names word f left (journal_parts steps i l)) (drop_all i actors past) ∙ append-nil so_far))

-- what is left of an actor's steps after a turn more
pub turn-left : (a i : ℕ) (turns : List TurnLength) (d : TurnLength) (all mid last : List Step) → i < length turns →
    mid ≡ drop (entries_in a (take i turns)) all →
    (let t : TurnLength = get_or turns i d in last ≡ drop (if a == t.actor.0 then t.entries else 0) mid) →
    last ≡ drop (entries_in a (take (i + 1) turns)) all
turn-left a i turns d all mid last within is_mid is_last =
    let t : TurnLength = get_or turns i d in
    let more : ℕ = if a == t.actor.0 then t.entries else 0 in
    is_last
    ∙ (ap (λ (l : List Step). drop more l) is_mid
    ∙ (drop-drop more (entries_in a (take i turns)) all
    ∙ ap (λ n. drop n all) (sym (sum_by_more (λ (x : TurnLength). if a == x.actor.0 then x.entries else 0) turns i d within))))

-- what is left after a journal more: all of the actors behind it
pub journal-left : (a number i k : ℕ) (all mid last : List Step) → number ≡ i → i + 1 ≤ a → (i ≤ a → mid ≡ all) →
    last ≡ drop (if a == number then k else 0) mid → last ≡ all
journal-left a number i k all mid last same behind is_mid is_last = by_number (a == number) refl is_last
  where
    by_number : (b : Bool) → (a == number) ≡ b → last ≡ drop (if b then k else 0) mid → last ≡ all
    by_number true here is_last = absurd (let e : a ≡ number = eqb-true a number here in omega (arith, e, same, behind))
    by_number false other is_last = is_last ∙ is_mid (omega (arith, behind))
