-- What an actor told is numbered from 0 on. A journal has too few entries for the numbers to begin again.
use Rattle.std.proofs.Common.{◌≡◌, ℕ, ◌+◌, ◌*◌, ◌^◌, ◌<◌, ◌≤◌, Bool, true, false, List, [], ◌∷◌, length, refl, subst}
use Rattle.std.proofs.Common.{arith, length-append}
use Rattle.std.proofs.Math.Nat.{mod-eq_of_lt}
use Rattle.std.proofs.lemmas.Option.{slice_get_within}
use Rattle.mb_msg.specs.declared.id.ActorId.{ActorId}
use Rattle.mb_actor.specs.ActorList.{has}
use Rattle.mb_actor.specs.Behaviour.{Moment, Reply}
use Rattle.mb_journal.specs.Acts.{Act, acts}
use Rattle.mb_journal.specs.Entry.{Entry}
use Rattle.mb_journal.specs.Identity.{Identity, is_guardian}
use Rattle.mb_journal.specs.Lawful.{AreLawful}
use Rattle.mb_journal.specs.Watching.{watching}
use Rattle.mb_journal.specs.Accepted.{NumbersCountUpFrom}
use Rattle.mb_journal.specs.Tells.{AddressedBody, tells, tells_of_journal, told, envelopes_from}
use Rattle.mb_home.specs.Contents.{Contents}
use Rattle.mb_home.specs.AgreesWithJournal.{AgreesWithJournal}
use Rattle.mb_home.proofs.GuardianLemmas.{watches-none}
use Rattle.mb_home.proofs.TellLaw.{few-acts}

not-watched : (x : ActorId) (list : List ActorId) → list ≡ [] → has list x ≡ true → ⊥
not-watched x list none t = let no : has [] x ≡ true = subst (λ l. has l x ≡ true) none t in absurd (cc no)

module _ (who : Identity) (gives : Moment → Reply → Type 0) (not_zero : is_guardian who ≡ false →
    0 < who.this.0) (there : who.this.0 < who.actors) where
  -- who watches is no guardian
  above-zero : (journal : List Entry) → AreLawful who gives journal → (x : ActorId) → has (watching who journal) x ≡ true → 0 < who.this.0
  above-zero journal lawful x t = by_test (is_guardian who) refl
    where
      by_test : (b : Bool) → is_guardian who ≡ b → 0 < who.this.0
      by_test true guardian = absurd (not-watched x (watching who journal) (watches-none who gives guardian journal lawful) t)
      by_test false an_actor = not_zero an_actor

  -- an entry tells at most 17 times
  few-tells_of_journal : (journal : List Entry) → AreLawful who gives journal → length (tells_of_journal who journal) ≤ 17 * length journal
  unfolding AreLawful
  few-tells_of_journal [] lawful = omega arith
  few-tells_of_journal (e ∷ before) lawful =
      let few = few-acts who gives before e lawful.0 (above-zero before lawful.1) there in
      omega (arith, few.within_limit, few-tells_of_journal before lawful.1, length-append (tells_of_journal who before) (tells (acts who before e)))

numbered-from : (by n : ℕ) (ts : List AddressedBody) → n + length ts ≤ 2 ^ 64 → NumbersCountUpFrom by n (envelopes_from by n ts)
numbered-from by n [] few = tt
numbered-from by n (t ∷ ts) few = (refl, mod-eq_of_lt (omega (arith, few)), numbered-from by (n + 1) ts (omega (arith, few)))

-- the actor of a home that agrees with its journal numbered what it told from 0 on
pub told-numbered : (gives : Moment → Reply → Type 0) (pending : List Act) (h : Contents) → AgreesWithJournal gives pending h →
    NumbersCountUpFrom h.cell.who.this.0 0 (told h.cell.who h.cell.journal)
told-numbered gives pending h s =
    let there : h.cell.who.this.0 < h.cell.who.actors = omega (arith, slice_get_within h.directory h.cell.who.this.0 _ s.is_own.enrolled, s.is_own.all_there) in
    let few = few-tells_of_journal h.cell.who gives s.is_own.not_zero there h.cell.journal s.lawful.entries in
    numbered-from h.cell.who.this.0 0 (tells_of_journal h.cell.who h.cell.journal) (omega (arith, few, s.lawful.within_limit, s.is_own.within_limit))
