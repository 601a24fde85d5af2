-- What is known of each actor's number is what the actor does that was handed in for it.
use Rattle.std.proofs.Common.{◌≡◌, ℕ, suc, ◌+◌, ℤ, List, [], ◌∷◌, ◌++◌, append_assoc, length, refl, sym, ap, ◌∙◌, subst, Some, arith, length-append}
use Rattle.std.specs.Prelude.{All, Option, slice_get}
use Rattle.std.proofs.lemmas.List.Elements.{All-head, All-tail}
use Rattle.mb_actor.specs.Behaviour.{AllowsSame, Moment, Reply}
use Rattle.mb_actor.specs.declared.message.Message.{Message}
use Rattle.mb_build.specs.BehavesAsPlanned.{BehaveAsPlanned}
use Rattle.heddleorange.specs.WholeRun.{after_at, after_of, gives_at, gives_of, handed_in}

after-those : {A : Type 0} (before : List A) (actor : A) (rest : List A) → slice_get (before ++ actor ∷ rest) (length before) ≡ Some actor
after-those [] actor rest = refl
after-those (x ∷ before) actor rest = after-those before actor rest

module _ {A : Type 0} (content : A → ℤ) (after : A → List Message → ℤ) (gives : A → Moment → Reply → Type 0) (all : List A) where
  abbrev IsUnused : A → Type 0
  IsUnused actor = content actor ≡ after actor []

  abbrev Behave : ℕ → List A → Type 0
  Behave = BehaveAsPlanned content after gives (after_at all after) (gives_at all gives)

  handed : (before rest : List A) (actor : A) → before ++ actor ∷ rest ≡ all → handed_in all (length before + 1) ≡ Some actor
  handed before rest actor whole =
      let next : length before + 1 ≡ suc (length before) = omega arith in
      ap (handed_in all) next ∙ ap (λ l. slice_get l (length before)) (sym whole) ∙ after-those before actor rest

  behave-from : (before rest : List A) → before ++ rest ≡ all → All IsUnused rest → Behave (length before + 1) rest
  behave-from before [] whole unused = tt
  behave-from before (actor ∷ rest) whole unused =
      let is : handed_in all (length before + 1) ≡ Some actor = handed before rest actor whole in
      let longer : length (before ++ actor ∷ []) + 1 ≡ (length before + 1) + 1 =
      let e = length-append before (actor ∷ []) in omega (arith, e) in (
        record {
          unused = All-head IsUnused actor rest unused;
          behaves = λ i messages. after_of after (sym is i) messages;
          allows = subst (λ (o : Option A). AllowsSame (gives actor) (gives_of gives o)) (sym is) (λ m r. ((λ x. x), (λ x. x)));
        },
        subst (λ n. Behave n rest) longer
            (behave-from (before ++ actor ∷ []) rest (append_assoc before (actor ∷ []) rest ∙ whole) (All-tail IsUnused actor rest unused)),
      )

  -- all that no message came to yet
  pub behave : All IsUnused all → Behave 1 all
  behave unused = behave-from [] all refl unused
