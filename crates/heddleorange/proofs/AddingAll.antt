-- Adding a list of actors, one by one.
use Rattle.std.proofs.Common.{◌≡◌, ◌⊎◌, inl, inr, ℕ, ◌+◌, ◌<◌, ◌≤◌, true, false, List, [], ◌∷◌, ◌++◌, String, string_bytes, None, Option, Some, ap, arith, length, refl, subst, sym, take, ◌∙◌}
use Rattle.std.specs.Global.{Global}
use Rattle.std.specs.Prelude.{◌↔◌, Err, Ok, Result, if◌then◌else◌, nat_le}
use Rattle.std.proofs.lemmas.Bool.{cases_lt}
use Rattle.std.proofs.lemmas.Bool.Decides.{nat_tests}
use Rattle.std.proofs.lemmas.List.{append_assoc, append-nil, length-append, length-map, take-append-le, take-map, take_all}
use Rattle.mb_msg.specs.declared.actor_plan.ActorPlan.{ActorPlan}
use Rattle.mb_msg.specs.declared.id.ActorId.{ActorId}
use Rattle.mb_msg.specs.declared.plan.Plan.{Plan}
use Rattle.heddleorange.specs.Added.{Adds, AddsNothing, RefusesPlace}
use Rattle.heddleorange.specs.AddedAll.{AreAdded, first_taken, first_unfit, found_or, names_behind}
use Rattle.heddleorange.specs.Names.{name_by_default, number_of, texts_of}
use Rattle.heddleorange.specs.declared.error.Error.{Error}
use Rattle.heddleorange.specs.declared.error.Error.TheVariants.{NameTaken}
use Rattle.heddleorange.specs.declared.planned_system.PlannedSystem.{PlannedSystem}

-- some of these plans and actors were added, and these are left
pub record SoFar {A : Type 0} (old : PlannedSystem A) (plans : List ActorPlan) (actors : List A) (names : List (List ℕ)) (left_plans : List ActorPlan)
    (left_actors : List A) (left_names : List (List ℕ)) (now : PlannedSystem A) : Type 0 where
  pub as_many : length old.actors.items + length plans ≡ length now.actors.items + length left_plans
  pub actors_are : old.actors.items ++ actors ≡ now.actors.items ++ left_actors
  pub planned : old.plan.actors.items ++ plans ≡ now.plan.actors.items ++ left_plans
  pub named : texts_of old.names.texts.items ++ names ≡ texts_of now.names.texts.items ++ left_names
  pub unfit : first_unfit (length old.actors.items) plans ≡ first_unfit (length now.actors.items) left_plans
  pub first_actors : take (length old.actors.items) now.actors.items ≡ old.actors.items
  pub first_plans : take (length old.actors.items) now.plan.actors.items ≡ old.plan.actors.items
  pub first_names : take (length old.actors.items) (texts_of now.names.texts.items) ≡ texts_of old.names.texts.items
  pub settings : now.plan ≡ record old.plan { actors = now.plan.actors }
  pub no_fewer : length old.actors.items ≤ length now.actors.items

length-texts : (names : List (String Global)) → length (texts_of names) ≡ length names
length-texts names = length-map names string_bytes

at-most : (a b : ℕ) → a ≤ b → nat_le a b ≡ true
at-most a b le = grind (arith, nat_tests)

above : (a b : ℕ) → b < a → nat_le a b ≡ false
above a b lt = grind (arith, nat_tests)

-- one more behind these, and then the others
one-more : {X : Type 0} (old now next xs : List X) (x : X) → old ≡ now ++ x ∷ xs → next ≡ now ++ x ∷ [] → old ≡ next ++ xs
one-more old now next xs x is added = is ∙ (sym (append_assoc now (x ∷ []) xs) ∙ ap (λ l. l ++ xs) (sym added))

-- what stood first still does
still-first : {X : Type 0} (n : ℕ) (old now next : List X) (x : X) → n ≤ length now → take n now ≡ old → next ≡ now ++ x ∷ [] → take n next ≡ old
still-first n old now next x within first added = ap (take n) added ∙ (take-append-le n now (x ∷ []) within ∙ first)

-- the actor that got this number was not refused for its place
abbrev IsPlaced : {A : Type 0} → PlannedSystem A → ActorPlan → ActorId → Type 0
IsPlaced now p id = RefusesPlace (length now.actors.items) p.parent (let r : Result ActorId Error = Ok id in r)

module _ {A : Type 0} (old : PlannedSystem A) (plans : List ActorPlan) (actors : List A) (names : List (List ℕ)) where
  -- nothing was added yet
  pub none-yet : (left_plans : List ActorPlan) (left_actors : List A) (left_names : List (List ℕ)) → left_plans ≡ plans → left_actors ≡ actors
      → left_names ≡ names → SoFar old plans actors names left_plans left_actors left_names old
  none-yet left_plans left_actors left_names same_plans same_actors same_names = record {
    as_many = ap (λ (l : List ActorPlan). length old.actors.items + length l) (sym same_plans);
    actors_are = ap (λ (l : List A). old.actors.items ++ l) (sym same_actors);
    planned = ap (λ (l : List ActorPlan). old.plan.actors.items ++ l) (sym same_plans);
    named = ap (λ (l : List (List ℕ)). texts_of old.names.texts.items ++ l) (sym same_names);
    unfit = ap (first_unfit (length old.actors.items)) (sym same_plans);
    first_actors = take_all (length old.actors.items) old.actors.items (omega arith);
    first_plans = take_all (length old.actors.items) old.plan.actors.items (omega (arith, old.as_planned));
    first_names = take_all (length old.actors.items) (texts_of old.names.texts.items)
        (omega (arith, old.as_named, length-texts old.names.texts.items));
    settings = refl;
    no_fewer = omega arith;
  }

  -- an actor that is added has a parent that is there
  parent-there : (now : PlannedSystem A) (p : ActorPlan) (id : ActorId) → IsPlaced now p id → p.parent.0 ≤ length now.actors.items
  parent-there now p id placed = by_cases (cases_lt (length now.actors.items) p.parent.0) (cases_lt (length now.actors.items) 63)
    where
      by_cases : (length now.actors.items < p.parent.0) ⊎ (p.parent.0 ≤ length now.actors.items)
          → (length now.actors.items < 63) ⊎ (63 ≤ length now.actors.items) → p.parent.0 ≤ length now.actors.items
      by_cases (inr there) room = there
      by_cases (inl beyond) (inr none) = let is = placed.full.1 none in absurd (cc)
      by_cases (inl beyond) (inl room) =
          let is = (placed.parent (record { 0 = length now.actors.items + 1 })).1 (room, beyond, refl) in absurd (cc)

  -- one more was added
  pub one-added : (now next : PlannedSystem A) (p : ActorPlan) (a : A) (name : List ℕ) (left_plans : List ActorPlan) (left_actors : List A)
      (left_names : List (List ℕ)) (id : ActorId) → SoFar old plans actors names (p ∷ left_plans) (a ∷ left_actors) (name ∷ left_names) now
      → Adds now p a name id next → next.plan ≡ record now.plan { actors = next.plan.actors } → IsPlaced now p id
      → SoFar old plans actors names left_plans left_actors left_names next
  one-added now next p a name left_plans left_actors left_names id so_far added settings placed =
      let one : length next.actors.items ≡ length now.actors.items + 1 = ap length added.actors ∙ length-append now.actors.items (a ∷ []) in
      let many = so_far.as_many in
      let no_fewer = so_far.no_fewer in
      let there = parent-there now p id placed in
      record {
        as_many = omega (arith, many, one);
        actors_are = one-more (old.actors.items ++ actors) now.actors.items next.actors.items left_actors a so_far.actors_are added.actors;
        planned = one-more (old.plan.actors.items ++ plans) now.plan.actors.items next.plan.actors.items left_plans p so_far.planned added.planned;
        named =
            one-more (texts_of old.names.texts.items ++ names) (texts_of now.names.texts.items) (texts_of next.names.texts.items) left_names name so_far.named
            added.named;
        unfit =
            so_far.unfit
            ∙ (ap (λ b. if b then first_unfit (length now.actors.items + 1) left_plans else Some (length now.actors.items + 1)) (at-most _ _ there)
            ∙ ap (λ (n : ℕ). first_unfit n left_plans) (sym one));
        first_actors = still-first (length old.actors.items) old.actors.items now.actors.items next.actors.items a no_fewer so_far.first_actors added.actors;
        first_plans =
            still-first (length old.actors.items) old.plan.actors.items now.plan.actors.items next.plan.actors.items p (omega (arith, no_fewer, now.as_planned))
            so_far.first_plans added.planned;
        first_names =
            still-first (length old.actors.items) (texts_of old.names.texts.items) (texts_of now.names.texts.items) (texts_of next.names.texts.items) name
            (omega (arith, no_fewer, now.as_named, length-texts now.names.texts.items)) so_far.first_names added.named;
        settings = settings ∙ ap (λ (p : Plan). record p { actors = next.plan.actors }) so_far.settings;
        no_fewer = omega (arith, no_fewer, one);
      }

  -- all were added
  pub all-added : {T : Type 0} (x : T) (now : PlannedSystem A) → SoFar old plans actors names [] [] [] now → AreAdded old plans actors names (Ok x) now
  all-added {T} x now so_far =
      let many = so_far.as_many in
      record {
        actors_are = sym (so_far.actors_are ∙ append-nil now.actors.items);
        planned = sym (so_far.planned ∙ append-nil now.plan.actors.items);
        named = sym (so_far.named ∙ append-nil (texts_of now.names.texts.items));
        same = tt;
        same_names = tt;
        settings = so_far.settings;
        fit = (omega (arith, many, now.as_named, now.names.within_limit), so_far.unfit);
        full = λ is. absurd (cc);
        parent = λ id is. absurd (cc);
      }

  -- one was refused, and those that were there before are left
  pub none-added : {T : Type 0} (now next last : PlannedSystem A) (p : ActorPlan) (a : A) (left_plans : List ActorPlan) (left_actors : List A)
      (left_names : List (List ℕ)) (error : Error) → SoFar old plans actors names (p ∷ left_plans) (a ∷ left_actors) left_names now
      → AddsNothing now next → next.plan ≡ record now.plan { actors = next.plan.actors }
      → RefusesPlace (length now.actors.items) p.parent (let r : Result ActorId Error = Err error in r)
      → last.actors.items ≡ take (length old.actors.items) next.actors.items
      → last.plan.actors.items ≡ take (length old.actors.items) next.plan.actors.items
      → last.names.texts.items ≡ take (length old.actors.items) next.names.texts.items
      → last.plan ≡ record next.plan { actors = last.plan.actors }
      → AreAdded old plans actors names (let r : Result T Error = Err error in r) last
  none-added {T} now next last p a left_plans left_actors left_names error so_far same settings refused kept_actors kept_plans kept_names kept_settings =
      let n = length old.actors.items in
      let many = so_far.as_many in
      record {
        actors_are = tt;
        planned = tt;
        named = tt;
        same = (kept_actors ∙ (ap (take n) same.same.0 ∙ so_far.first_actors), kept_plans ∙ (ap (take n) same.same.1 ∙ so_far.first_plans));
        same_names =
            ap texts_of kept_names
            ∙ (sym (take-map string_bytes n next.names.texts.items)
            ∙ (ap (λ (l : List (String Global)). take n (texts_of l)) same.same_names ∙ so_far.first_names));
        settings = kept_settings ∙ ap (λ (p : Plan). record p { actors = last.plan.actors }) (settings ∙ ap (λ (p : Plan). record p { actors = next.plan.actors }) so_far.settings);
        fit = tt;
        full = λ is. let none : 63 ≤ length now.actors.items = refused.full.0 (cc) in omega (arith, none, many);
        parent = λ id is.
            let bad : (length now.actors.items < 63) × (length now.actors.items < p.parent.0) × (id.0 ≡ length now.actors.items + 1) = (refused.parent id).0 (cc) in
            so_far.unfit
            ∙ (ap (λ b. if b then first_unfit (length now.actors.items + 1) left_plans else Some (length now.actors.items + 1)) (above _ _ bad.1)
            ∙ ap Some (sym bad.2));
      }

  -- the same of an actor that has its name by default
  pub one-more-default : (now next : PlannedSystem A) (p : ActorPlan) (a : A) (left_plans : List ActorPlan) (left_actors : List A) (id : ActorId)
      → SoFar old plans actors names (p ∷ left_plans) (a ∷ left_actors) (names_behind (length now.actors.items) (p ∷ left_plans)) now
      → Adds now p a (name_by_default (length now.actors.items + 1)) id next → next.plan ≡ record now.plan { actors = next.plan.actors } → IsPlaced now p id
      → SoFar old plans actors names left_plans left_actors (names_behind (length next.actors.items) left_plans) next
  one-more-default now next p a left_plans left_actors id so_far added settings placed =
      let one : length next.actors.items ≡ length now.actors.items + 1 = ap length added.actors ∙ length-append now.actors.items (a ∷ []) in
      subst (λ (n : ℕ). SoFar old plans actors names left_plans left_actors (names_behind n left_plans) next) (sym one)
      (one-added now next p a (name_by_default (length now.actors.items + 1)) left_plans left_actors (names_behind (length now.actors.items + 1) left_plans) id so_far
      added settings placed)

-- no name was taken so far
abbrev pub Untaken : {A : Type 0} → PlannedSystem A → List (List ℕ) → List (List ℕ) → PlannedSystem A → Type 0
Untaken old names left_names now = first_taken (texts_of old.names.texts.items) names ≡ first_taken (texts_of now.names.texts.items) left_names

-- an actor was added, so its name was free
pub one-free : {A : Type 0} (old now next : PlannedSystem A) (p : ActorPlan) (a : A) (name : List ℕ) (names left_names : List (List ℕ)) (id : ActorId)
    → Untaken old names (name ∷ left_names) now → Adds now p a name id next → IsPlaced now p id
    → ((other : ActorId) → (let r : Result ActorId Error = Ok id in r ≡ Err (NameTaken other))
    ↔ ((length now.actors.items < 63) × (p.parent.0 ≤ length now.actors.items) × (number_of now.names.texts.items name ≡ Some other.0)))
    → Untaken old names left_names next
one-free {A} old now next p a name names left_names id so_far added placed taken =
    so_far ∙ (free (number_of now.names.texts.items name) refl ∙ ap (λ l. first_taken l left_names) (sym added.named))
  where
    rest : Option ℕ
    rest = first_taken (texts_of now.names.texts.items ++ name ∷ []) left_names

    room : length now.actors.items < 63
    room = by_cases (cases_lt (length now.actors.items) 63)
      where
        by_cases : (length now.actors.items < 63) ⊎ (63 ≤ length now.actors.items) → length now.actors.items < 63
        by_cases (inl room) = room
        by_cases (inr none) = let is = placed.full.1 none in absurd (cc)

    free : (found : Option ℕ) → number_of now.names.texts.items name ≡ found → found_or (number_of now.names.texts.items name) rest ≡ rest
    free None is = ap (λ o. found_or o rest) is
    free (Some number) is =
        let was = (taken (record { 0 = number })).1 (room, parent-there now [] [] [] now p id placed, is) in absurd (cc)

-- it was refused for its name, which is the first that is taken
pub one-taken : {A : Type 0} (old now : PlannedSystem A) (name : List ℕ) (names left_names : List (List ℕ)) (other : ActorId)
    → Untaken old names (name ∷ left_names) now → number_of now.names.texts.items name ≡ Some other.0
    → first_taken (texts_of old.names.texts.items) names ≡ Some other.0
one-taken old now name names left_names other so_far is =
    so_far ∙ ap (λ o. found_or o (first_taken (texts_of now.names.texts.items ++ name ∷ []) left_names)) is
