-- No actor is told of an end more often than it asked to watch that actor.
use Rattle.std.proofs.Common.{◌≡◌, ◌≤◌, ◌+◌, ℕ, Bool, true, false, if◌then◌else◌, List, [], ◌∷◌, ◌++◌, ap, arith, cond, refl, sym, ◌∙◌}
use Rattle.std.specs.Prelude.{count_by, not, ◌||◌}
use Rattle.std.proofs.lemmas.List.Sums.{sum_by-append, sum_by-cons}
use Rattle.mb_actor.specs.ActorList.{has, is_same}
use Rattle.mb_actor.specs.Behaviour.{Moment, Reply}
use Rattle.mb_actor.specs.declared.effect.Effect.{Effect}
use Rattle.mb_actor.specs.declared.effect.Effect.TheVariants as effect
use Rattle.mb_actor.specs.declared.message.Message.{Message}
use Rattle.mb_actor.specs.declared.message.Message.TheVariants as message
use Rattle.mb_journal.proofs.Kept.{same-is}
use Rattle.mb_journal.specs.ActorList.{joined, without}
use Rattle.mb_journal.specs.Effects.{lasting_effects}
use Rattle.mb_journal.specs.Entry.{Entry, Outcome}
use Rattle.mb_journal.specs.Entry.Entry.{Dropped, Handled, System}
use Rattle.mb_journal.specs.Entry.Outcome.{Applied, SetAside}
use Rattle.mb_journal.specs.Identity.{Identity}
use Rattle.mb_journal.specs.Incarnation.{body_messages, entry_messages}
use Rattle.mb_journal.specs.Lawful.{AreLawful, IsExpected, IsLawfulEntry}
use Rattle.mb_journal.specs.Life.{after_death, is_ending}
use Rattle.mb_journal.specs.Watching.{after_told, due, due_after, watching, watching_after, with_dead}
use Rattle.mb_msg.specs.declared.envelope.Body.{Body}
use Rattle.mb_msg.specs.declared.envelope.Body.TheVariants as body
use Rattle.mb_msg.specs.declared.envelope.Envelope.{Envelope}
use Rattle.mb_msg.specs.declared.id.ActorId.{ActorId}
use Rattle.mb_msg.specs.declared.system.SysMsg.{SysMsg}
use Rattle.mb_msg.specs.declared.system.SysMsg.TheVariants as system
use Rattle.heddleorange.specs.Reading.{handled_messages}
use Rattle.heddleorange.specs.Watched.{is_end_of, times_told, times_watched, watches_in}

neither : {A : Type 0} → true ≡ false → A
neither e = absurd (false_is e)
  where
    false_is : true ≡ false → ⊥
    false_is e = cc

at_most_one : (b : Bool) → (if b then 1 else 0) ≤ 1
at_most_one true = omega arith
at_most_one false = omega arith

module _ (x : ActorId) where
  -- 1 where the actor is in the list, else 0
  abbrev there : List ActorId → ℕ
  there list = if has list x then 1 else 0

  -- 1 where this is the actor, else 0
  abbrev one : ActorId → ℕ
  one y = if is_same x y then 1 else 0

  push : (list : List ActorId) (y : ActorId) → there (list ++ y ∷ []) ≤ there list + one y
  push [] y = by_test (is_same x y)
    where
      by_test : (b : Bool) → (if b || false then 1 else 0) ≤ 0 + (if b then 1 else 0)
      by_test true = omega arith
      by_test false = omega arith
  push (z ∷ list) y = by_test (is_same x z) (has (list ++ y ∷ []) x) (has list x) (push list y)
    where
      by_test : (b more less : Bool) → (if more then 1 else 0) ≤ (if less then 1 else 0) + one y
          → (if b || more then 1 else 0) ≤ (if b || less then 1 else 0) + one y
      by_test true more less rest = omega arith
      by_test false more less rest = rest

  join : (list : List ActorId) (y : ActorId) → there (joined list y) ≤ there list + one y
  join list y = by_test (has list y)
    where
      by_test : (b : Bool) → there (if b then list else list ++ y ∷ []) ≤ there list + one y
      by_test true = omega arith
      by_test false = push list y

  leave : (list : List ActorId) (y : ActorId) → there (without list y) ≤ there list
  leave [] y = omega arith
  leave (z ∷ list) y = by_test (is_same y z) (leave list y)
    where
      more : (c less : Bool) → (if less then 1 else 0) ≤ (if c || less then 1 else 0)
      more true less = at_most_one less
      more false less = omega arith

      both : (c new old : Bool) → (if new then 1 else 0) ≤ (if old then 1 else 0) → (if c || new then 1 else 0) ≤ (if c || old then 1 else 0)
      both true new old rest = omega arith
      both false new old rest = rest

      by_test : (b : Bool) → there (without list y) ≤ there list
          → there (cond (not b) (z ∷ without list y) (without list y)) ≤ (if is_same x z || has list x then 1 else 0)
      by_test true rest = let grown = more (is_same x z) (has list x) in omega (arith, rest, grown)
      by_test false rest = both (is_same x z) (has (without list y) x) (has list x) rest

  -- who left is not there
  left : (list : List ActorId) → has (without list x) x ≡ false
  left [] = refl
  left (z ∷ list) = by_test (is_same x z) refl (left list)
    where
      by_test : (b : Bool) → is_same x z ≡ b → has (without list x) x ≡ false → has (cond (not b) (z ∷ without list x) (without list x)) x ≡ false
      by_test true same rest = rest
      by_test false other rest = λ i. other i || rest i

  -- ---- effects

  choice : (b : Bool) (first second : List ActorId) (n : ℕ) → there first ≤ n → there second ≤ n → there (if b then first else second) ≤ n
  choice true first second n y z = y
  choice false first second n y z = z

  watching-grows : (this : ActorId) (list : List ActorId) (effects : List Effect)
      → there (watching_after this list effects) ≤ there list + watches_in x effects
  watching-grows this list [] = omega arith
  watching-grows this list (effect.Tell to kind value ∷ effects) = watching-grows this list effects
  watching-grows this list (effect.Control to kind value ∷ effects) = watching-grows this list effects
  watching-grows this list (effect.Watch y ∷ effects) =
      let rest = watching-grows this (if is_same this y then list else joined list y) effects in
      let first = choice (is_same this y) list (joined list y) (there list + one y) (omega arith) (join list y) in omega (arith, rest, first)
  watching-grows this list (effect.Unwatch y ∷ effects) =
      let rest = watching-grows this (without list y) effects in let first = leave list y in omega (arith, rest, first)
  watching-grows this list (effect.Stop y ∷ effects) = watching-grows this list effects
  watching-grows this list (effect.Spawn y ∷ effects) = watching-grows this list effects

  due-shrinks : (list : List ActorId) (effects : List Effect) → there (due_after list effects) ≤ there list
  due-shrinks list [] = omega arith
  due-shrinks list (effect.Tell to kind value ∷ effects) = due-shrinks list effects
  due-shrinks list (effect.Control to kind value ∷ effects) = due-shrinks list effects
  due-shrinks list (effect.Watch y ∷ effects) = due-shrinks list effects
  due-shrinks list (effect.Unwatch y ∷ effects) =
      let rest = due-shrinks (without list y) effects in let first = leave list y in omega (arith, rest, first)
  due-shrinks list (effect.Stop y ∷ effects) = due-shrinks list effects
  due-shrinks list (effect.Spawn y ∷ effects) = due-shrinks list effects

  -- ---- an entry

  -- how many of these messages tell of the end
  ends_in : List Message → ℕ
  ends_in list = count_by (is_end_of x) list

  ends-append : (a b : List Message) → ends_in (a ++ b) ≡ ends_in a + ends_in b
  unfolding ends_in
  ends-append a b = sum_by-append (λ m. cond (is_end_of x m) 1 0) a b

  ends-one : (m : Message) → ends_in (m ∷ []) ≡ (if is_end_of x m then 1 else 0)
  unfolding ends_in
  ends-one m = let is = sum_by-cons (λ n. cond (is_end_of x n) 1 0) m [] in omega (arith, is)

  ends-none : ends_in [] ≡ 0
  unfolding ends_in
  ends-none = refl

  module _ (who : Identity) (gives : Moment → Reply → Type 0) where
    -- What the entry tells of the end, with who is in the lists after it, is no more than who was in the lists before.
    IsSettled : List Entry → Entry → Type 0
    IsSettled before e =
        ends_in (entry_messages e) + there (if is_ending e before then [] else after_told e (with_dead e (watching who before) (due who before)))
        + there (if is_ending e before then [] else after_death e (watching who before))
        ≤ there (due who before) + there (watching who before)

    by-handled : (before : List Entry) (envelope : Envelope) (reading : ℕ) (outcome : Outcome) → IsExpected who before envelope.body
        → IsSettled before (Handled envelope reading outcome)
    unfolding IsSettled
    by-handled before envelope reading outcome expected = by_body envelope.body expected
      where
        silent : (m : Message) → is_end_of x m ≡ false → ends_in (m ∷ []) ≡ 0
        silent m is = ends-one m ∙ (λ i. if is i then 1 else 0)

        by_body : (b : Body) → IsExpected who before b
            → ends_in (body_messages b) + there (after_told (Handled (record envelope { body = b }) reading outcome) (due who before)) + there (watching who before)
            ≤ there (due who before) + there (watching who before)
        by_body (body.User kind value) is = let none = silent (message.User kind value) refl in omega (arith, none)
        by_body (body.Control kind value) is = let none = silent (message.Control kind value) refl in omega (arith, none)
        by_body body.PoisonPill is = let none = ends-none in omega (arith, none)
        by_body body.Kill is = let none = ends-none in omega (arith, none)
        by_body (body.Terminated y) is = by_test (is_same x y) refl
          where
            by_test : (b : Bool) → is_same x y ≡ b
                → ends_in (message.Terminated y ∷ []) + there (without (due who before) y) + there (watching who before)
                ≤ there (due who before) + there (watching who before)
            by_test true same =
                let told = ends-one (message.Terminated y) ∙ (λ i. if same i then 1 else 0) in
                let was : there (due who before) ≡ 1 = ap (λ z. if has (due who before) z then 1 else 0) (same-is x y same) ∙ (λ i. if is i then 1 else 0) in
                let gone : there (without (due who before) y) ≡ 0 =
                ap (λ z. there (without (due who before) z)) (sym (same-is x y same)) ∙ (λ i. if left (due who before) i then 1 else 0) in
                omega (arith, told, was, gone)
            by_test false other =
                let told = ends-one (message.Terminated y) ∙ (λ i. if other i then 1 else 0) in
                let less = leave (due who before) y in omega (arith, told, less)

    by-system : (before : List Entry) (number : ℕ) (m : SysMsg) (outcome : Outcome) → IsSettled before (System number m outcome)
    unfolding IsSettled
    by-system before number m outcome = by_message m outcome
      where
        unchanged : (b : Bool)
            → ends_in [] + there (if b then [] else due who before) + there (if b then [] else watching who before)
            ≤ there (due who before) + there (watching who before)
        unchanged true = let none = ends-none in omega (arith, none)
        unchanged false = let none = ends-none in omega (arith, none)

        by_message : (m : SysMsg) (outcome : Outcome) → IsSettled before (System number m outcome)
        by_message system.Create outcome = unchanged (is_ending (System number system.Create outcome) before)
        by_message (system.Recreate c) outcome = unchanged (is_ending (System number (system.Recreate c) outcome) before)
        by_message system.Suspend outcome = unchanged (is_ending (System number system.Suspend outcome) before)
        by_message (system.Resume f) outcome = unchanged (is_ending (System number (system.Resume f) outcome) before)
        by_message system.Terminate outcome = unchanged (is_ending (System number system.Terminate outcome) before)
        by_message (system.Watch w) outcome = unchanged (is_ending (System number (system.Watch w) outcome) before)
        by_message (system.Unwatch w) outcome = unchanged (is_ending (System number (system.Unwatch w) outcome) before)
        by_message (system.Failed y c) outcome = unchanged (is_ending (System number (system.Failed y c) outcome) before)
        by_message (system.Died y) SetAside = unchanged (is_ending (System number (system.Died y) SetAside) before)
        by_message (system.Died y) (Applied answer effects) = by_test (is_same x y) refl (has (watching who before) y) refl
          where
            by_test : (b : Bool) → is_same x y ≡ b → (c : Bool) → has (watching who before) y ≡ c
                → ends_in [] + there (if c then joined (due who before) y else due who before) + there (without (watching who before) y)
                ≤ there (due who before) + there (watching who before)
            by_test b same false away =
                let none = ends-none in let less = leave (watching who before) y in omega (arith, none, less)
            by_test true same true watched =
                let none = ends-none in
                let more = join (due who before) y in let single = at_most_one (is_same x y) in
                let was : there (watching who before) ≡ 1 =
                ap (λ z. if has (watching who before) z then 1 else 0) (same-is x y same) ∙ (λ i. if watched i then 1 else 0) in
                let gone : there (without (watching who before) y) ≡ 0 =
                ap (λ z. there (without (watching who before) z)) (sym (same-is x y same)) ∙ (λ i. if left (watching who before) i then 1 else 0) in
                omega (arith, none, more, single, was, gone)
            by_test false other true watched =
                let none = ends-none in
                let more = join (due who before) y in let nobody : one y ≡ 0 = λ i. if other i then 1 else 0 in
                let less = leave (watching who before) y in omega (arith, none, more, nobody, less)

    settled : (before : List Entry) (e : Entry) → IsLawfulEntry who gives before e → IsSettled before e
    unfolding IsSettled
    settled before (Handled envelope reading (Applied answer effects)) lawful = by-handled before envelope reading (Applied answer effects) lawful.expected
    settled before (Handled envelope reading SetAside) lawful = absurd lawful
    settled before (System number m outcome) lawful = by-system before number m outcome
    settled before (Dropped envelope) lawful = dropped
      where
        dropped : IsSettled before (Dropped envelope)
        dropped = let none = ends-none in omega (arith, none)

    -- who was told, who is to be told, and whom the actor watches: all of them it asked to watch
    in-all : (journal : List Entry) → AreLawful who gives journal
        → ends_in (handled_messages journal) + there (due who journal) + there (watching who journal) ≤ times_watched x journal
    unfolding AreLawful IsSettled due watching
    in-all [] lawful = let none = ends-none in omega (arith, none)
    in-all (e ∷ before) lawful =
        let rest = in-all before lawful.1 in let now = settled before e lawful.0 in
        let both = ends-append (handled_messages before) (entry_messages e) in
        let more = watching-grows who.this (if is_ending e before then [] else after_death e (watching who before)) (lasting_effects e) in
        let less = due-shrinks (if is_ending e before then [] else after_told e (with_dead e (watching who before) (due who before))) (lasting_effects e) in
        omega (arith, rest, now, both, more, less)

    pub told-as-watched : (journal : List Entry) → AreLawful who gives journal → times_told x journal ≤ times_watched x journal
    unfolding ends_in
    told-as-watched journal lawful = let all = in-all journal lawful in omega (arith, all)

    -- whom the actor never asked to watch, it does not watch
    pub not-watching : (journal : List Entry) → AreLawful who gives journal → times_watched x journal ≡ 0 → has (watching who journal) x ≡ false
    not-watching journal lawful never = let all = in-all journal lawful in away (has (watching who journal) x) (omega (arith, all, never))
      where
        away : (b : Bool) → ◌≡◌ {A = ℕ} (if b then 1 else 0) 0 → b ≡ false
        away true none = absurd (omega (arith, none))
        away false none = refl
