-- A claim that was not changed may be released.
use Rattle.std.proofs.Common.{◌≡◌, ℕ, ◌⊎◌, inl, inr, List, [], ◌∷◌, ◌++◌, true, false, Some, sym, refl, ap, ◌∙◌, subst, append_assoc}
use Rattle.std.proofs.lemmas.Bool.{false≢true}
use Rattle.mb_ghost.specs.Seen.{Each}
use Rattle.mb_journal.specs.Entry.{Entry}
use Rattle.mb_journal.specs.Identity.{Identity}
use Rattle.mb_gate.specs.declared.claim.Claim.{Claim}
use Rattle.mb_gate.specs.HomeFacts.{HomeFacts}
use Rattle.mb_gate.specs.Claims.{IsKnownClosed, held_in}
use Rattle.mb_gate.specs.Accessors.{closed_with, drained_by, gave_last, given_to, held_actor, recorded_by, status_of, taken_with}
use Rattle.mb_gate.specs.SentSystem.{HasSentDueSince}
use Rattle.mb_gate.specs.Rule.{Extends, IsAmong}
use Rattle.mb_gate.specs.View.{SentSystem, View}
use Rattle.mb_gate.proofs.SentSystemLemmas.{nothing_since}
use Rattle.mb_gate.specs.Untouched.{Origin, IsUntouched}

each_among : {A : Type 0} (P : A → Type 0) (before xs all : List A) → all ≡ before ++ xs → ((x : A) → IsAmong x all → P x) → Each P xs
each_among P before [] all e h = tt
each_among P before (x ∷ xs) all e h = (
  h x (record { before = before; after = xs; joined = e }),
  each_among P (before ++ x ∷ []) xs all (e ∙ sym (append_assoc before (x ∷ []) xs)) h,
)

module _ {H : Type 0} (is_of : H → ℕ → H → Type 0) (facts : H → HomeFacts)
    (origin : Origin H) (claim : Claim H) (fit : IsUntouched is_of facts (Some origin) claim) where
  same_journal : taken_with claim ≡ (facts claim.home).journal
  same_journal = ap (λ (v : View). (held_in v).journal) fit.known

  pub extends : Extends (facts claim.home).journal (taken_with claim)
  extends = record { newer = []; joined = sym same_journal }

  pub count : (facts claim.home).given ≡ given_to claim
  count = sym (ap (λ (v : View). (held_in v).given) fit.known)

  pub shut : (v : View) → Each (λ other. IsKnownClosed other (closed_with claim) v) (facts claim.home).closed_to
  shut v =
      let same : closed_with claim ≡ (facts claim.home).closed_to = ap (λ (w : View). (held_in w).closed_to) fit.known in
      subst (λ l. Each (λ other. IsKnownClosed other l v) (facts claim.home).closed_to) (sym same)
      (each_among (λ other. IsKnownClosed other (facts claim.home).closed_to v) [] (facts claim.home).closed_to (facts claim.home).closed_to refl
      (λ x among. inl among))

  pub drained : Each (λ m. IsAmong m (drained_by claim)) (facts claim.home).drained
  drained =
      let same : drained_by claim ≡ (facts claim.home).drained = ap (λ (w : View). (held_in w).drained) fit.known in
      subst (λ l. Each (λ m. IsAmong m l) (facts claim.home).drained) (sym same)
      (each_among (λ m. IsAmong m (facts claim.home).drained) [] (facts claim.home).drained (facts claim.home).drained refl (λ m among. among))

  pub told : (who : Identity) → HasSentDueSince who (held_actor claim) (status_of claim).closed (facts claim.home).journal (taken_with claim)
      (recorded_by claim)
  told who = subst (λ (y : List Entry × List SentSystem). HasSentDueSince who (held_actor claim) (status_of claim).closed (facts claim.home).journal y.0 y.1)
      (λ i. (sym same_journal i, sym fit.recorded i)) (nothing_since who (held_actor claim) (status_of claim).closed (facts claim.home).journal)

  pub rest : ((status_of claim).closed ≡ true) ⊎ (gave_last claim ≡ false) → (facts claim.home).no_backlog
  rest (inl closed) = absurd (false≢true (sym fit.open_yet ∙ closed))
  rest (inr none) = fit.rest none
