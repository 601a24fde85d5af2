-- Who joins the set of those that are owed a look is owed it by the view.
use Rattle.std.proofs.Common.{Result, Ok, Err, IsErrAnd, ◌≡◌, ◌≢◌, ◌⊎◌, inl, inr, ℕ, ◌==◌, ◌||◌, true, false, List, sym, ap, ◌∙◌, subst, arith}
use Rattle.std.specs.Prelude.{OnErr}
use Rattle.std.proofs.lemmas.Bool.Decides.{nat_tests}
use Rattle.mb_core.specs.declared.wake_obligation.WakeObligation.{WakeObligation}
use Rattle.mb_gate.specs.View.{View, idling, obligation_to}
use Rattle.mb_journal.specs.Entry.{Entry}
use Rattle.mb_register.specs.declared.actor_set.ActorSet.{ActorSet}
use Rattle.mb_register.specs.ActorSet.{has_actor}
use Rattle.mb_register.specs.Registering.{OwesALook, JoinAsOwed}
use Rattle.mb_register.proofs.Bits.{same_or_other}
use Rattle.mb_register.proofs.Views.{owes-same}

-- a claim that was given back leaves a look owed to its actor
pub owes-back : (id : ℕ) (journal : List Entry) (before w : View) → w ≡ idling id journal before → OwesALook id w
owes-back id journal before w after =
    let d : WakeObligation = record (obligation_to id before) { system = true; message = true } in
    let now : obligation_to id w ≡ d = ap (obligation_to id) after
    ∙ owes-same id d before in
    (ap (λ (o : WakeObligation). o.system) now, ap (λ (o : WakeObligation). o.message) now)

-- the set is as it was
pub joins-none : (old new : ActorSet) (v : View) → new ≡ old → JoinAsOwed old new v
joins-none old new v same id has = inl (sym (ap (λ o. has_actor o id) same) ∙ has)

-- one that is owed a look joined it
pub joins-one : (id : ℕ) (old new : ActorSet) (v : View) → ((other : ℕ) → has_actor new other ≡ (other == id || has_actor old other)) → OwesALook id v →
    JoinAsOwed old new v
joins-one id old new v is owes other has = by_place (same_or_other other id)
  where
    by_place : (other ≡ id) ⊎ (other ≢ id) → (has_actor old other ≡ true) ⊎ OwesALook other v
    by_place (inl same) = inr (subst (λ n. OwesALook n v) (sym same) owes)
    by_place (inr apart) =
        let no : (other == id) ≡ false = grind (arith, nat_tests) in
        inl (sym (is other ∙ ap (λ b. b || has_actor old other) no) ∙ has)

-- one that was not in the set, and is now, joined it
pub joined-owed : (old new : ActorSet) (v : View) (id : ℕ) → JoinAsOwed old new v → has_actor old id ≡ false → has_actor new id ≡ true → OwesALook id v
joined-owed old new v id joins none has = by_case (joins id has)
  where
    by_case : (has_actor old id ≡ true) ⊎ OwesALook id v → OwesALook id v
    by_case (inl was) = absurd (cc (was, none))
    by_case (inr owes) = owes

-- what holds of a failure, of a result that is one
pub on-failed : {T E : Type 0} (Told : E → Type 0) (Q : Type 0) (r : Result T E) → IsErrAnd r Told → Q → OnErr r Q
on-failed Told Q (Ok x) failed q = absurd failed
on-failed Told Q (Err e) failed q = q
