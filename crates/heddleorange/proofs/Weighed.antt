-- What an actor sent, by two weights.
use Rattle.std.proofs.Common.{◌≡◌, ℕ, true, List, [], ◌∷◌, ◌++◌, refl, arith}
use Rattle.std.specs.Prelude.{sum_by}
use Rattle.std.proofs.lemmas.List.Sums.{sum_by-append, sum_by-cons}
use Rattle.mb_actor.specs.Behaviour.{Moment, Reply}
use Rattle.mb_journal.specs.Entry.{Entry}
use Rattle.mb_journal.specs.Identity.{Identity, is_guardian}
use Rattle.mb_journal.specs.Lawful.{AreLawful}
use Rattle.mb_journal.specs.Tells.{AddressedBody, tells_of_journal}
use Rattle.mb_msg.specs.declared.envelope.Body.TheVariants.{Terminated}
use Rattle.mb_msg.specs.declared.id.ActorId.{ActorId}
use Rattle.heddleorange.proofs.Told.{asked, guardian-told, told-by-calls}

module _ (one other : AddressedBody → ℕ) where
  abbrev Same : List AddressedBody → Type 0
  Same ts = sum_by one ts ≡ sum_by other ts

  both : (a b : List AddressedBody) → Same a → Same b → Same (a ++ b)
  both a b first second =
      let up = sum_by-append one a b in let down = sum_by-append other a b in omega (arith, first, second, up, down)

  single : (t : AddressedBody) → one t ≡ other t → Same (t ∷ [])
  single t same = let up = sum_by-cons one t [] in let down = sum_by-cons other t [] in omega (arith, same, up, down)

  module _ (who : Identity) (gives : Moment → Reply → Type 0) (journal : List Entry)
      (notice : (ended : ActorId) → one (who.this, Terminated ended) ≡ other (who.this, Terminated ended)) where
    pub told-weighed : ((moment : Moment) (reply : Reply) → gives moment reply → Same (asked reply.effects)) → AreLawful who gives journal
        → Same (tells_of_journal who journal)
    told-weighed each lawful = told-by-calls Same refl both who (λ x. single (who.this, Terminated x) (notice x)) gives each journal lawful

    pub guardian-weighed : is_guardian who ≡ true → AreLawful who gives journal → Same (tells_of_journal who journal)
    guardian-weighed guardian lawful =
        guardian-told Same refl both who (λ x. single (who.this, Terminated x) (notice x)) gives guardian journal lawful
