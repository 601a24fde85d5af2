-- What waits, and what becomes of it.
use Rattle.std.proofs.Common.{◌≡◌, ℕ, ◌+◌, ◌<◌, List, [], ◌∷◌, ◌++◌, length, get_or, map, take, refl, sym, ap, subst, ◌∙◌, arith, ⊎_elim}
use Rattle.std.specs.Prelude.{◌==◌, ℤ, false, is_some, IfSome, None, Option, Some, slice_set}
use Rattle.std.specs.List.{All}
use Rattle.std.proofs.lemmas.List.{length_push, take_more}
use Rattle.std.proofs.lemmas.Bool.Decides.{nat_tests}
use Rattle.std.proofs.lemmas.List.Elements.{All-contains, All-head, All-push}
use Rattle.mb_actor.specs.Behaviour.{Moment, Reply}
use Rattle.mb_actor.specs.declared.message.Message.{Message}
use Rattle.mb_world.specs.Alike.{IsAlike}
use Rattle.mb_world.specs.Choices.{AreChoices, IsPossible}
use Rattle.mb_world.specs.World.{WorldView}
use Rattle.mb_world.specs.declared.choice.Choice.{Choice}
use Rattle.mb_explore.specs.Added.{found_of}
use Rattle.mb_explore.specs.Orders.{LeadsTo}
use Rattle.mb_explore.specs.Outcomes.{AreFound}
use Rattle.mb_explore.specs.Search.{AllWait, AreKept, GoesOn, IsJoined, IsMadeAfter, IsMet, IsReached, IsSeen, IsSettled, IsTakenFrom, Spot}
use Rattle.mb_explore.specs.Ways.{AllEndAtStart, AllEndFrom}
use Rattle.mb_explore.specs.Ways.AllEndFrom.{goes_on, is_over}
use Rattle.mb_explore.specs.declared.outcome.Outcome.{Outcome}
use Rattle.mb_explore.proofs.FoundLemmas.{found-more, found-none, kept-more}
use Rattle.mb_explore.proofs.ListLemmas.{All-last, All-left, All-there, All-unset, there-set}
use Rattle.mb_explore.proofs.OrderLemmas.{leads-more}
use Rattle.mb_explore.proofs.WayLemmas.{alike-back, possible-alike, ways-alike, ways-longer}

-- there is one, by the count
some-there : {X : Type 0} (l : List X) (n : ℕ) → n ≡ length l → (n == 0) ≡ false → 0 < length l
some-there l n same differs = grind (arith, nat_tests, differs, same)

-- a step more leads to the system after it
pub reached-after : (starts : WorldView → Type 0) (order : List Choice) (world : WorldView) (choice : Choice) (next : WorldView) (longer : List Choice) →
    longer ≡ order ++ choice ∷ [] → IsMadeAfter starts order world choice next → IsReached starts longer next
reached-after starts order world choice next longer is made = record {
  first = made.first;
  starts_so = made.starts_so;
  leads = subst (λ l. LeadsTo made.first l next) (sym is)
      (leads-more made.first made.near next order choice made.leads made.possible made.made);
}

-- the same order, given in other words
pub made-as : (starts : WorldView → Type 0) (order given : List Choice) (world : WorldView) (choice : Choice) (next : WorldView) → given ≡ order →
    IsMadeAfter starts given world choice next → IsMadeAfter starts order world choice next
made-as starts order given world choice next same made = subst (λ (l : List Choice). IsMadeAfter starts l world choice next) same made

pub longer-as : (longer given order : List Choice) (choice : Choice) → longer ≡ given ++ choice ∷ [] → given ≡ order → longer ≡ order ++ choice ∷ []
longer-as longer given order choice is same = is ∙ ap (λ (l : List Choice). l ++ choice ∷ []) same

-- where a step is listed, one is possible
pub goes-listed : (world : WorldView) (choices : List Choice) (n : ℕ) → AreChoices world choices → n ≡ length choices → (n == 0) ≡ false → GoesOn world
goes-listed world [] n are long differs = let some = some-there {X = Choice} [] n long differs in absurd (omega (arith, some))
goes-listed world (choice ∷ choices) n are long differs =
    (choice, All-head (IsPossible world) choice choices are.possible)

goes-alike : (a b : WorldView) → IsAlike a b → GoesOn b → GoesOn a
goes-alike a b alike some = (some.0, possible-alike b a some.0 (alike-back a b alike) some.1)

module _ (after : ℕ → List Message → ℤ) (gives : ℕ → Moment → Reply → Type 0) (names : List (List ℕ)) where
  module _ (final : List (List ℕ × List Choice)) where
    abbrev EndsAt : Spot → Type 0
    EndsAt s = AllEndFrom after gives names final (length s.0) s.1

    abbrev Waits : Option Spot → Type 0
    Waits w = IfSome w EndsAt

    -- where a system was met again, both end
    met-both : (was is met : Spot) → IsMet was is met → IsAlike was.1 met.1 → GoesOn met.1 → EndsAt is → EndsAt was × EndsAt met
    met-both was is met shorter alike some here = ⊎_elim
        (λ less.
        let now = subst EndsAt less.0 here in let more = less.1 in (
          ways-longer after gives names final (length met.0) (length was.0) was.1 (omega (arith, more))
              (ways-alike after gives names final (length met.0) met.1 was.1 (alike-back was.1 met.1 alike) (goes-alike was.1 met.1 alike some) now),
          now,
        ))
        (λ same.
        let now = subst EndsAt same.0 here in (
          now,
          ways-longer after gives names final (length was.0) (length met.0) met.1 same.1
              (ways-alike after gives names final (length was.0) was.1 met.1 alike some now),
        ))
        shorter

    pub joined-waits : (old new : List (Option Spot)) (met : Spot) → IsJoined old new met → GoesOn met.1 → All Waits new → All Waits old × EndsAt met
    joined-waits old new met joined some all = ⊎_elim
        (λ more.
        let whole = subst (All Waits) more all in (All-left Waits old (Some met ∷ []) whole, All-last Waits old (Some met) whole))
        (λ at.
        let whole = subst (All Waits) at.set all in
        let here = All-there Waits (slice_set old at.place (Some at.is)) at.place (Some at.is)
        (there-set old at.place (Some at.was) (Some at.is) at.waits) whole in
        let both = met-both at.was at.is met at.shorter at.alike some here in
        (All-unset Waits old at.place (Some at.was) (Some at.is) at.waits both.0 whole, both.1))
        joined

    pub taken-waits : (old new : List (Option Spot)) (taken : Spot) → IsTakenFrom old new taken → All Waits new → EndsAt taken → All Waits old
    taken-waits old new taken at all here =
        All-unset Waits old at.place (Some taken) None at.waited here (subst (All Waits) at.set all)

    pub none-wait : (waiting : List (Option Spot)) → All (λ (w : Option Spot). w ≡ None) waiting → All Waits waiting
    none-wait waiting none k d lt = subst Waits (sym (none k d lt)) tt

    -- once each step that is possible is settled
    pub ways-on : (steps : ℕ) (world : WorldView) (choices : List Choice) → AreChoices world choices → GoesOn world →
        All (IsSettled after gives names final steps world) choices → AllEndFrom after gives names final steps world
    ways-on steps world choices are some all =
        let at = λ (choice : Choice) (possible : IsPossible world choice).
        All-contains (IsSettled after gives names final steps world) choices choice all (are.each choice possible) in
        goes_on steps world some.0 some.1 (λ c p. (at c p).near) (λ c p. (at c p).next) (λ c p. (at c p).alike) (λ c p. (at c p).made)
        (λ c p. (at c p).all_end)

    pub settled-more : (steps : ℕ) (world : WorldView) (choices : List Choice) (place : ℕ) (choice : Choice) → place < length choices →
        choice ≡ get_or choices place choice → All (IsSettled after gives names final steps world) (take place choices) →
        IsSettled after gives names final steps world choice → All (IsSettled after gives names final steps world) (take (place + 1) choices)
    settled-more steps world choices place choice within at all here =
        subst (All (IsSettled after gives names final steps world))
        (ap (λ z. take place choices ++ z ∷ []) at ∙ sym (take_more choices place choice within))
        (All-push (IsSettled after gives names final steps world) (take place choices) choice all here)

    -- one step more was made
    pub settled-by : (starts : WorldView → Type 0) (order : List Choice) (world : WorldView) (choices : List Choice) (place : ℕ) (choice : Choice)
        (next : WorldView) (longer : List Choice) → IsMadeAfter starts order world choice next → longer ≡ order ++ choice ∷ [] →
        place < length choices → choice ≡ get_or choices place choice → EndsAt (longer, next) →
        All (IsSettled after gives names final (length order) world) (take place choices) →
        All (IsSettled after gives names final (length order) world) (take (place + 1) choices)
    settled-by starts order world choices place choice next longer made is within at ends_so all =
        settled-more (length order) world choices place choice within at all
        (record {
          near = made.near;
          next = next;
          alike = made.alike;
          made = made.made;
          all_end = subst (λ n. AllEndFrom after gives names final n next) (ap length is ∙ length_push order choice) ends_so;
        })

    -- what was seen: its text is found, or it waits
    pub seen-follows : (before : List Outcome) (waited : List (Option Spot)) (now : List Outcome) (waits : List (Option Spot)) (spot : Spot) →
        IsSeen after gives names before waited now waits spot → AreKept (map found_of now) final → All Waits waits →
        AreKept (map found_of before) final × All Waits waited × EndsAt spot
    seen-follows before waited now waits spot seen kept all = ⊎_elim
        (λ over.
        let here = kept-more before now over.0.text spot.0 final over.0.added kept in
        (here.0, subst (All Waits) over.1 all, is_over (length spot.0) spot.1 over.0.text over.0.over over.0.told here.1))
        (λ on.
        let both = joined-waits waited waits spot on.1 on.0 all in
        (subst (λ (l : List Outcome). AreKept (map found_of l) final) on.2 kept, both.0, both.1))
        seen

  pub seen-found : (starts : WorldView → Type 0) (before : List Outcome) (waited : List (Option Spot)) (now : List Outcome)
      (waits : List (Option Spot)) (spot : Spot) → IsSeen after gives names before waited now waits spot → IsReached starts spot.0 spot.1 →
      AreFound starts after gives names (map found_of before) → AreFound starts after gives names (map found_of now)
  seen-found starts before waited now waits spot seen reached found = ⊎_elim
      (λ over.
      found-more starts after gives names before now over.0.text spot.0 found
      (record {
        first = reached.first;
        last = spot.1;
        starts_so = reached.starts_so;
        leads = reached.leads;
        over = over.0.over;
        report = over.0.told.report;
        shown = over.0.told.shown;
        told = over.0.told.told;
      })
      over.0.added)
      (λ on. subst (λ (l : List Outcome). AreFound starts after gives names (map found_of l)) (sym on.2) found)
      seen

-- one place more of which nothing waits
pub none-more : (waiting : List (Option Spot)) (place : ℕ) (here : Option Spot) → place < length waiting → here ≡ get_or waiting place here →
    is_some here ≡ false → All (λ (w : Option Spot). w ≡ None) (take place waiting) → All (λ (w : Option Spot). w ≡ None) (take (place + 1) waiting)
none-more waiting place None within at none all =
    subst (All (λ (w : Option Spot). w ≡ None)) (ap (λ z. take place waiting ++ z ∷ []) at ∙ sym (take_more waiting place None within))
    (All-push (λ (w : Option Spot). w ≡ None) (take place waiting) None all refl)
none-more waiting place (Some s) within at none all = absurd (cc none)

module _ (after : ℕ → List Message → ℤ) (gives : ℕ → Moment → Reply → Type 0) (names : List (List ℕ)) (starts : WorldView → Type 0) where
  -- the first system was seen
  pub start-found : (before : List Outcome) (waited : List (Option Spot)) (now : List Outcome) (waits : List (Option Spot)) (order : List Choice)
      (first : WorldView) → before ≡ [] → order ≡ [] → starts first → IsSeen after gives names before waited now waits (order, first) →
      AreFound starts after gives names (map found_of now)
  start-found before waited now waits order first none empty begins seen =
      seen-found after gives names starts before waited now waits (order, first) seen
      (record { first = first; starts_so = begins; leads = subst (λ (l : List Choice). LeadsTo first l first) (sym empty) refl })
      (subst (λ (l : List Outcome). AreFound starts after gives names (map found_of l)) (sym none) (found-none starts after gives names))

  pub start-ends : (before : List Outcome) (waited : List (Option Spot)) (now : List Outcome) (waits : List (Option Spot)) (order : List Choice)
      (first : WorldView) (final : List (List ℕ × List Choice)) → order ≡ [] → starts first →
      IsSeen after gives names before waited now waits (order, first) → AreKept (map found_of now) final → AllWait after gives names final waits →
      AllEndAtStart after gives names starts final
  start-ends before waited now waits order first final empty begins seen kept all = record {
    first = first;
    starts_so = begins;
    all_end = subst (λ (l : List Choice). AllEndFrom after gives names final (length l) first) empty
        (seen-follows after gives names final before waited now waits (order, first) seen kept all).2;
  }
